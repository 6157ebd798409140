-- `merge_write::lists_given_back` meets its contract.
use mathlib.Core.Path.{◌≡◌, ap, ap₂, ◌∙◌}
use mathlib.Core.List.{◌++◌}
use Prim.Native.Nat.{◌+◌, ◌≤◌, ◌<◌}
use native.Mathlib.Omega.{arith}
use lib.ListN.{length, length-append}
use Rattle.model.specs.Records.{at_step}
use Rattle.model.specs.Pages.{zero_page, filled_page, words_of, with_page}
use Rattle.model.specs.Chains.{list_from}
use Rattle.model.specs.Outcome.{moved}
use Rattle.model.specs.Ready.{viewing}
use Rattle.records.specs.Work.{seen}
use Rattle.free_list.specs.Giving.{Returned, listed}
use Rattle.free_list.proofs.Giving.{listed-length, walked_at_most}
use Rattle.merge_write.proofs.Clears.{no_room_refused, all_cleared}
use Rattle.merge_write.proofs.lists_given_back.Goals as goal

pub overflow_add-work : goal.overflow_add-work
overflow_add-work c =
    let a = c.args in
    let one = walked_at_most a.work.now.root a.pages.now a.work.now.party.old a.n c.requires.2 in
    omega (arith, c.requires.0.overflow_fits, c.requires.0.free_fits)

pub overflow_add-work-2 : goal.overflow_add-work-2
overflow_add-work-2 c =
    let a = c.args in
    let r = a.work.now.root in
    let one = walked_at_most r a.pages.now a.work.now.party.old a.n c.requires.2 in
    let two = walked_at_most r a.pages.now a.second a.m c.requires.3 in
    omega (arith, c.requires.0.overflow_fits, c.requires.0.free_fits)

pub returns-then-work-n : goal.returns-then-work-n
returns-then-work-n c = λ ls.
    let a = c.args in
    let r = a.work.now.root in
    let xs = list_from r a.pages.now a.work.now.party.old in
    let ys = list_from r a.pages.now a.second in
    let count : length (listed xs ++ listed ys) ≡ a.n + a.m = length-append (listed xs) (listed ys) ∙ ap₂ ◌+◌ (listed-length xs a.n c.requires.2) (listed-length ys a.m c.requires.3) in
    let over : r.overflow < r.free + length (listed xs ++ listed ys) = omega (arith, c.if-work-n.true) in
    no_room_refused (seen a.work.now ls a.pages.now) (listed xs ++ listed ys) over

pub returns : goal.returns
unfolding zero_page filled_page words_of
returns c = λ ls.
    let a = c.args in
    let w = a.work.now in
    let r = w.root in
    let xs = list_from r a.pages.now w.party.old in
    let ys = list_from r a.pages.now a.second in
    let count : length (listed xs ++ listed ys) ≡ a.n + a.m = length-append (listed xs) (listed ys) ∙ ap₂ ◌+◌ (listed-length xs a.n c.requires.2) (listed-length ys a.m c.requires.3) in
    let room : r.free + length (listed xs ++ listed ys) ≤ r.overflow = omega (arith, c.if-work-n.false) in
    rw c.store.ensures
    (ap (λ (x : Returned). moved (viewing x.root (at_step 30 w.party) w.number ls (with_page x.pages w.party.other zero_page))) c.give_back_both-work.ensures
    ∙ all_cleared (seen w ls a.pages.now) (listed xs ++ listed ys) room)
