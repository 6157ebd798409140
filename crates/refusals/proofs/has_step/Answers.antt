-- `refusals::has_step` meets its contract: one law a range of step numbers.
use native.Mathlib.Omega.{arith}
use Rattle.refusals.proofs.StepRanges.{every_operation_locates, find_has_nine, insert_and_delete_change, insert_splits, delete_merges, none_below, none_above}
use Rattle.refusals.proofs.has_step.Goals as goal

pub returns-in-9 : goal.returns-in-9
returns-in-9 c = let a = c.args in find_has_nine a.operation a.step c.in-9.is

pub returns-in-1-to-8 : goal.returns-in-1-to-8
returns-in-1-to-8 c =
    let a = c.args in
    every_operation_locates a.operation a.step (omega arith) (omega arith)

pub returns-in-10-to-14 : goal.returns-in-10-to-14
returns-in-10-to-14 c =
    let a = c.args in
    insert_and_delete_change a.operation a.step (omega arith) (omega arith)

pub returns-in-15-to-22 : goal.returns-in-15-to-22
returns-in-15-to-22 c =
    let a = c.args in
    insert_splits a.operation a.step (omega arith) (omega arith)

pub returns-in-23-to-30 : goal.returns-in-23-to-30
returns-in-23-to-30 c =
    let a = c.args in
    delete_merges a.operation a.step (omega arith) (omega arith)

pub returns-in_default : goal.returns-in_default
returns-in_default c = let a = c.args in none_below a.operation a.step (omega arith)

pub returns-in_default-2 : goal.returns-in_default-2
returns-in_default-2 c =
    let a = c.args in
    none_above a.operation a.step (omega arith)
