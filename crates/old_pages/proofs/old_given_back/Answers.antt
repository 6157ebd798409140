-- `old_pages::old_given_back` meets its contract.
use mathlib.Core.Path.{ap, ◌∙◌}
use Prim.Native.Nat.{◌+◌, ◌≤◌, ◌<◌}
use native.Mathlib.Omega.{arith}
use lib.ListN.{length}
use Rattle.model.specs.Records.{with_old}
use Rattle.model.specs.Chains.{list_from}
use Rattle.model.specs.FreeList.{pages_given_back}
use Rattle.model.specs.Ready.{viewing}
use Rattle.model.specs.Endings.{onward}
use Rattle.records.specs.Work.{seen}
use Rattle.records.proofs.Told.{told}
use Rattle.model.proofs.Laws.Tests.{named_sound}
use Rattle.free_list.specs.Giving.{listed, Returned}
use Rattle.free_list.proofs.Giving.{listed-length, same_sizes, walked_at_most}
use Rattle.endings.proofs.Scratching.{ready_has_scratch, still_has_scratch}
use Rattle.old_pages.proofs.GivenBack.{no_room_refused, not_held_refused, all_given_back}
use Rattle.old_pages.proofs.old_given_back.Goals as goal

pub overflow_add-work : goal.overflow_add-work
overflow_add-work c =
    let a = c.args in
    let few = walked_at_most a.work.now.root a.pages.now a.work.now.party.old a.n c.requires.2 in
    omega (arith, c.requires.0.free_fits, c.requires.0.pages_fit)

pub returns-then-work-n : goal.returns-then-work-n
returns-then-work-n c =
    let a = c.args in
    let r = a.work.now.root in
    let walk = list_from r a.pages.now a.work.now.party.old in
    let count = listed-length walk a.n c.requires.2 in
    let over : r.overflow < r.free + length (listed walk) = omega (arith, c.if-work-n.true) in
    no_room_refused (seen a.work.now a.locks.now a.pages.now) (listed walk) over

pub give_back-work-requires : goal.give_back-work-requires
give_back-work-requires c =
    let a = c.args in
    let pre = c.requires in
    record { links = named_sound a.work.now.root a.work.now.party.old pre.1; walked = pre.2; room = omega (arith, c.if-work-n.false); fits = omega (arith, pre.0.pages_fit) }

pub returns-in_err-give_up : goal.returns-in_err-give_up
returns-in_err-give_up c =
    let a = c.args in
    let r = a.work.now.root in
    let walk = list_from r a.pages.now a.work.now.party.old in
    let count = listed-length walk a.n c.requires.2 in
    let room : r.free + length (listed walk) ≤ r.overflow = omega (arith, c.if-work-n.false) in
    let held = rw c.chain-held.ensures at (c.give_up.ensures.held a.pages.now) in
    let left = rw c.chain-held.ensures at (c.give_up.ensures.words a.pages.now) in
    not_held_refused (seen a.work.now a.locks.now a.pages.now) (listed walk) room held left c.in_err-give_up.was (told c.from_residual.result c.from_residual.ensures)

pub onward-requires : goal.onward-requires
onward-requires c =
    let a = c.args in
    let same = same_sizes _ _ a.pages.now _ _ c.give_back-work.ensures in
    still_has_scratch _ _ a.work.now.number a.pages.now _ same.0 same.1 c.give_back-work.auto.pages (ready_has_scratch _ c.requires.0)

pub returns : goal.returns
unfolding pages_given_back
returns c =
    let a = c.args in
    let w = a.work.now in
    let r = w.root in
    let locks = c.give_up.new.locks in
    let walk = list_from r a.pages.now w.party.old in
    let count = listed-length walk a.n c.requires.2 in
    let room : r.free + length (listed walk) ≤ r.overflow = omega (arith, c.if-work-n.false) in
    let held = rw c.chain-held.ensures at (c.give_up.ensures.held a.pages.now) in
    let left = rw c.chain-held.ensures at (c.give_up.ensures.words a.pages.now) in
    c.onward.ensures locks
    ∙ ap (λ (x : Returned). onward (viewing x.root (with_old 0 w.party) w.number locks x.pages)) c.give_back-work.ensures
    ∙ (all_given_back (seen w a.locks.now a.pages.now) (listed walk) room held left c.in_ok-give_up.was)
