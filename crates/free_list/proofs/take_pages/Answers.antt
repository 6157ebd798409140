-- `free_list::take_pages` meets its contract. The loop's invariant: the pages recorded so far are those taken, and they are
-- marked.
use Rattle.std.proofs.Common.{◌≡◌, ◌∙◌, ◌<◌, sym, length, take, drop, arith, ℕ}
use lib.ListN.{length-take}
use Rattle.std.proofs.lemmas.List.{take_more_set}
use Rattle.free_list.proofs.Marks.{followed_linked}
use Rattle.free_list.proofs.Taking.{none_taken, none_new_ends, one_taken, all_taken, front_whole, damage_drawn_as}
use Rattle.free_list.proofs.take_pages.Goals as goal

pub loop-page-init : goal.loop-page-init
loop-page-init c = none_taken c.args.root c.args.pages.now c.args.k c.requires.1

pub returns-in_err-next : goal.returns-in_err-next
returns-in_err-next c =
    let l = c.loop-page in
    let more : l.page-index < c.args.k = omega (arith, length-take {A = ℕ}) in
    damage_drawn_as _ _ c.from_residual.ensures.0 ∙ sym (none_new_ends _ _ c.args.k _ (take l.page-index l.page-items) _ l.page-index l.invariant more c.in_err-next.ensures.link)

pub overflow_sub-page : goal.overflow_sub-page
overflow_sub-page c = followed_linked _ _ _ _ c.in_ok-next.ensures.link

pub loop-page-preserved : goal.loop-page-preserved
loop-page-preserved c =
    let l = c.loop-page in
    let more : l.page-index < c.args.k = omega (arith, length-take {A = ℕ}) in
    let room : l.page-index < length l.page-items = omega arith in
    let next = one_taken _ _ c.args.k _ (take l.page-index l.page-items) _ l.page-index l.invariant more c.in_ok-next.ensures.link c.next_link.ensures.marks (omega arith) in
    rw take_more_set next

pub returns : goal.returns
returns c =
    let l = c.loop-page in
    let all : length l.page-items ≡ c.args.k = omega (arith, length-take {A = ℕ}) in
    rw (front_whole l.page-items (drop c.args.k c.args.taken.now) c.args.k l.page-index all (omega arith)) (all_taken _ _ c.args.k _ _ _ l.page-index l.invariant (omega arith))
