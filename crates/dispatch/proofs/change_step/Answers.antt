-- `dispatch::change_step` meets its contract: one number a step, the last what is left of the range.
use mathlib.Core.Path.{◌∙◌}
use native.Mathlib.Omega.{arith}
use Rattle.model.specs.Steps.Dispatch.{step_table, step_of}
use Rattle.records.specs.Work.{seen}
use Rattle.dispatch.proofs.Numbering.{named}
use Rattle.dispatch.proofs.change_step.Goals as goal

pub returns-in-10 : goal.returns-in-10
unfolding step_table step_of
returns-in-10 c =
    let a = c.args in
    c.step_10.ensures ∙ named (seen a.work.now a.locks.now a.pages.now) a.work.now.party.step 10 c.in-10.is

pub returns-in-11 : goal.returns-in-11
unfolding step_table step_of
returns-in-11 c =
    let a = c.args in
    c.step_11.ensures ∙ named (seen a.work.now a.locks.now a.pages.now) a.work.now.party.step 11 c.in-11.is

pub returns-in-12 : goal.returns-in-12
unfolding step_table step_of
returns-in-12 c =
    let a = c.args in
    c.step_12.ensures ∙ named (seen a.work.now a.locks.now a.pages.now) a.work.now.party.step 12 c.in-12.is

pub returns-in-13 : goal.returns-in-13
unfolding step_table step_of
returns-in-13 c =
    let a = c.args in
    c.step_13.ensures ∙ named (seen a.work.now a.locks.now a.pages.now) a.work.now.party.step 13 c.in-13.is

pub returns-in_default : goal.returns-in_default
unfolding step_table step_of
returns-in_default c =
    let a = c.args in
    c.step_14.ensures ∙ named (seen a.work.now a.locks.now a.pages.now) a.work.now.party.step 14 (omega arith)
