-- `merge_locks::step_24` meets its contract: the target is one of the chains there are.
use mathlib.Core.Path.{◌≡◌, sym, ◌∙◌}
use mathlib.Core.Bool.{false}
use Prim.Native.Nat.{◌<◌}
use native.Mathlib.Omega.{arith}
use Rattle.model.specs.Addresses.{merge_partner}
use Rattle.model.specs.Outcome.{View}
use Rattle.model.specs.Ready.{Ready}
use Rattle.model.specs.Steps.MergeLocks.{merge_stops, target_of, merging, step24}
use Rattle.model.proofs.Laws.Retreat.{target_before}
use Rattle.merge_locks.proofs.step_24.Goals as goal

target_is_chain : (v : View) → Ready v → merge_stops v.root ≡ false → target_of v.root < v.root.primaries
unfolding merge_partner
target_is_chain v ready goes =
    let r = v.root in
    let before = target_before r.originals r.level r.next ready.some_original ready.next_fits goes in
    omega (arith, ready.count_fits)

pub chain-lock-requires : goal.chain-lock-requires
chain-lock-requires c =
    let below = target_is_chain _ c.requires (sym c.merge_barred.ensures ∙ c.if-merge_barred.false) in
    rw c.merge_target-target.ensures (omega (arith, c.requires.chains_fit_ok))

pub request_for-requires : goal.request_for-requires
request_for-requires c =
    let ready = c.requires in
    let below : target_of c.args.work.now.root < c.args.work.now.root.primaries = target_is_chain _ ready (sym c.merge_barred.ensures ∙ c.if-merge_barred.false) in
    (rw (c.chain-lock.ensures, c.merge_target-target.ensures) (omega (arith, ready.locks_fit)), omega (arith, ready.number_fits, ready.parties_fit_lem))

pub returns-then-merge_barred : goal.returns-then-merge_barred
unfolding step24
returns-then-merge_barred c = rw (sym c.merge_barred.ensures ∙ c.if-merge_barred.true) (rw c.root.ensures at c.ended_with.ensures)

pub returns : goal.returns
unfolding step24 merging
returns c =
    rw (sym c.merge_barred.ensures ∙ c.if-merge_barred.false)
    (rw (c.chain-lock.ensures, c.merge_target-target.ensures, c.merge_partner.ensures) at (c.request_for.ensures c.args.pages.now))
