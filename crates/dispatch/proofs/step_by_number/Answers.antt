-- `dispatch::step_by_number` meets its contract.
use mathlib.Core.Path.{◌∙◌}
use Prim.Native.Nat.{◌≤◌}
use native.Mathlib.Omega.{arith}
use Rattle.model.specs.Steps.Dispatch.{step_table, step_of}
use Rattle.records.specs.Work.{seen}
use Rattle.dispatch.proofs.Numbering.{named, some-step, last_step}
use Rattle.dispatch.proofs.step_by_number.Goals as goal
use Rattle.dispatch.proofs.step_by_number.Goals.{in_default-via-then-work-lt1, in_default-via-else-work-lt1+else-work-lt9+else-work-lt15+else-work-lt23}

pub merge_step-requires : goal.merge_step-requires
merge_step-requires c =
    let p = c.args.work.now.party in
    let some = some-step p.operation p.step c.requires.step_fits in
    let from : 23 ≤ p.step = elim c.in_default.branch [ in_default-via-then-work-lt1 w ↦ absurd (omega (arith, some)) | in_default-via-else-work-lt1+else-work-lt9+else-work-lt15+else-work-lt23 w ↦ omega arith ] in
    (c.requires, from, last_step p.operation p.step c.requires.step_fits)

pub returns-in-9 : goal.returns-in-9
unfolding step_table step_of
returns-in-9 c =
    let a = c.args in
    c.step_09.ensures ∙ named (seen a.work.now a.locks.now a.pages.now) a.work.now.party.step 9 c.in-9.is
