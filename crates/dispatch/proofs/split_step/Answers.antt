-- `dispatch::split_step` meets its contract: one number a step, the last what is left of the range.
use mathlib.Core.Path.{◌∙◌}
use native.Mathlib.Omega.{arith}
use Rattle.model.specs.Steps.Dispatch.{step_table, step_of}
use Rattle.records.specs.Work.{seen}
use Rattle.dispatch.proofs.Numbering.{named}
use Rattle.dispatch.proofs.split_step.Goals as goal

pub returns-in-15 : goal.returns-in-15
unfolding step_table step_of
returns-in-15 c =
    let a = c.args in
    c.step_15.ensures a.pages.now ∙ named (seen a.work.now a.locks.now a.pages.now) a.work.now.party.step 15 c.in-15.is

pub returns-in-16 : goal.returns-in-16
unfolding step_table step_of
returns-in-16 c =
    let a = c.args in
    c.step_16.ensures ∙ named (seen a.work.now a.locks.now a.pages.now) a.work.now.party.step 16 c.in-16.is

pub returns-in-17 : goal.returns-in-17
unfolding step_table step_of
returns-in-17 c =
    let a = c.args in
    c.step_17.ensures ∙ named (seen a.work.now a.locks.now a.pages.now) a.work.now.party.step 17 c.in-17.is

pub returns-in-18 : goal.returns-in-18
unfolding step_table step_of
returns-in-18 c =
    let a = c.args in
    c.step_18.ensures ∙ named (seen a.work.now a.locks.now a.pages.now) a.work.now.party.step 18 c.in-18.is

pub returns-in-19 : goal.returns-in-19
unfolding step_table step_of
returns-in-19 c =
    let a = c.args in
    c.step_19.ensures a.pages.now ∙ named (seen a.work.now a.locks.now a.pages.now) a.work.now.party.step 19 c.in-19.is

pub returns-in-20 : goal.returns-in-20
unfolding step_table step_of
returns-in-20 c =
    let a = c.args in
    c.step_20.ensures ∙ named (seen a.work.now a.locks.now a.pages.now) a.work.now.party.step 20 c.in-20.is

pub returns-in-21 : goal.returns-in-21
unfolding step_table step_of
returns-in-21 c =
    let a = c.args in
    c.step_21.ensures ∙ named (seen a.work.now a.locks.now a.pages.now) a.work.now.party.step 21 c.in-21.is

pub returns-in_default : goal.returns-in_default
unfolding step_table step_of
returns-in_default c =
    let a = c.args in
    c.step_22.ensures ∙ named (seen a.work.now a.locks.now a.pages.now) a.work.now.party.step 22 (omega arith)
