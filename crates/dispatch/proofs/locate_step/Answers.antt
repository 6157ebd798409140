-- `dispatch::locate_step` meets its contract: one number a step, the last what is left of the range.
use mathlib.Core.Path.{◌∙◌}
use native.Mathlib.Omega.{arith}
use Rattle.model.specs.Steps.Dispatch.{step_table, step_of}
use Rattle.records.specs.Work.{seen}
use Rattle.dispatch.proofs.Numbering.{named}
use Rattle.dispatch.proofs.locate_step.Goals as goal

pub returns-in-1 : goal.returns-in-1
unfolding step_table step_of
returns-in-1 c =
    let a = c.args in
    c.step_01.ensures a.pages.now ∙ named (seen a.work.now a.locks.now a.pages.now) a.work.now.party.step 1 c.in-1.is

pub returns-in-2 : goal.returns-in-2
unfolding step_table step_of
returns-in-2 c =
    let a = c.args in
    c.step_02.ensures ∙ named (seen a.work.now a.locks.now a.pages.now) a.work.now.party.step 2 c.in-2.is

pub returns-in-3 : goal.returns-in-3
unfolding step_table step_of
returns-in-3 c =
    let a = c.args in
    c.step_03.ensures ∙ named (seen a.work.now a.locks.now a.pages.now) a.work.now.party.step 3 c.in-3.is

pub returns-in-4 : goal.returns-in-4
unfolding step_table step_of
returns-in-4 c =
    let a = c.args in
    c.step_04.ensures a.pages.now ∙ named (seen a.work.now a.locks.now a.pages.now) a.work.now.party.step 4 c.in-4.is

pub returns-in-5 : goal.returns-in-5
unfolding step_table step_of
returns-in-5 c =
    let a = c.args in
    c.step_05.ensures a.pages.now ∙ named (seen a.work.now a.locks.now a.pages.now) a.work.now.party.step 5 c.in-5.is

pub returns-in-6 : goal.returns-in-6
unfolding step_table step_of
returns-in-6 c =
    let a = c.args in
    c.step_06.ensures ∙ named (seen a.work.now a.locks.now a.pages.now) a.work.now.party.step 6 c.in-6.is

pub returns-in-7 : goal.returns-in-7
unfolding step_table step_of
returns-in-7 c =
    let a = c.args in
    c.step_07.ensures a.pages.now ∙ named (seen a.work.now a.locks.now a.pages.now) a.work.now.party.step 7 c.in-7.is

pub returns-in_default : goal.returns-in_default
unfolding step_table step_of
returns-in_default c =
    let a = c.args in
    c.step_08.ensures a.pages.now ∙ named (seen a.work.now a.locks.now a.pages.now) a.work.now.party.step 8 (omega arith)
