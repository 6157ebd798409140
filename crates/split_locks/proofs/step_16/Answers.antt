-- `split_locks::step_16` meets its contract: chain next is one of the chains there are.
use mathlib.Core.Path.{sym, ◌∙◌}
use Prim.Native.Nat.{◌<◌}
use native.Mathlib.Omega.{arith}
use Rattle.model.specs.Addresses.{chain_count}
use Rattle.model.specs.Outcome.{View}
use Rattle.model.specs.Ready.{Ready}
use Rattle.model.specs.Steps.SplitLocks.{step16, splitting}
use Rattle.split_locks.proofs.step_16.Goals as goal

next_is_chain : (v : View) → Ready v → v.root.next < v.root.primaries
unfolding chain_count
next_is_chain v ready = omega (arith, ready.next_fits, ready.count_fits)

pub chain-lock-requires : goal.chain-lock-requires
chain-lock-requires c =
    let below = next_is_chain _ c.requires in
    omega (arith, c.requires.chains_fit_ok)

pub request_for-requires : goal.request_for-requires
request_for-requires c =
    let ready = c.requires in
    let below : c.args.work.now.root.next < c.args.work.now.root.primaries = next_is_chain _ ready in
    (rw c.chain-lock.ensures (omega (arith, ready.locks_fit)), omega (arith, ready.number_fits, ready.parties_fit_lem))

pub returns-then-split_barred : goal.returns-then-split_barred
unfolding step16
returns-then-split_barred c = rw (sym c.split_barred.ensures ∙ c.if-split_barred.true) (rw c.root.ensures at c.ended_with.ensures)

pub returns : goal.returns
unfolding step16 splitting
returns c =
    rw (sym c.split_barred.ensures ∙ c.if-split_barred.false)
    (rw (c.chain-lock.ensures, c.chain_count.ensures) at (c.request_for.ensures c.args.pages.now))
