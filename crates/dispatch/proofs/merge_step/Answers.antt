-- `dispatch::merge_step` meets its contract: one number a step, the last what is left of the range.
use mathlib.Core.Path.{◌∙◌}
use native.Mathlib.Omega.{arith}
use Rattle.model.specs.Steps.Dispatch.{step_table, step_of}
use Rattle.records.specs.Work.{seen}
use Rattle.dispatch.proofs.Numbering.{named}
use Rattle.dispatch.proofs.merge_step.Goals as goal

pub returns-in-23 : goal.returns-in-23
unfolding step_table step_of
returns-in-23 c =
    let a = c.args in
    c.step_23.ensures a.pages.now ∙ named (seen a.work.now a.locks.now a.pages.now) a.work.now.party.step 23 c.in-23.is

pub returns-in-24 : goal.returns-in-24
unfolding step_table step_of
returns-in-24 c =
    let a = c.args in
    c.step_24.ensures ∙ named (seen a.work.now a.locks.now a.pages.now) a.work.now.party.step 24 c.in-24.is

pub returns-in-25 : goal.returns-in-25
unfolding step_table step_of
returns-in-25 c =
    let a = c.args in
    c.step_25.ensures a.pages.now ∙ named (seen a.work.now a.locks.now a.pages.now) a.work.now.party.step 25 c.in-25.is

pub returns-in-26 : goal.returns-in-26
unfolding step_table step_of
returns-in-26 c =
    let a = c.args in
    c.step_26.ensures ∙ named (seen a.work.now a.locks.now a.pages.now) a.work.now.party.step 26 c.in-26.is

pub returns-in-27 : goal.returns-in-27
unfolding step_table step_of
returns-in-27 c =
    let a = c.args in
    c.step_27.ensures ∙ named (seen a.work.now a.locks.now a.pages.now) a.work.now.party.step 27 c.in-27.is

pub returns-in-28 : goal.returns-in-28
unfolding step_table step_of
returns-in-28 c =
    let a = c.args in
    c.step_28.ensures ∙ named (seen a.work.now a.locks.now a.pages.now) a.work.now.party.step 28 c.in-28.is

pub returns-in-29 : goal.returns-in-29
unfolding step_table step_of
returns-in-29 c =
    let a = c.args in
    c.step_29.ensures ∙ named (seen a.work.now a.locks.now a.pages.now) a.work.now.party.step 29 c.in-29.is

pub returns-in_default : goal.returns-in_default
unfolding step_table step_of
returns-in_default c =
    let a = c.args in
    c.step_30.ensures ∙ named (seen a.work.now a.locks.now a.pages.now) a.work.now.party.step 30 (omega arith)
