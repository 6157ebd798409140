-- `calls::step_in_place` meets its contract: refused by the first cause, held back, or the step that the record names.
use mathlib.Core.Path.{sym, ap, ◌∙◌}
use borrow.Author.Tests.{not-true, not-false}
use Prim.Native.Nat.{ℕ}
use lib.ListN.{set}
use Rattle.model.specs.Outcome.{outcome}
use Rattle.model.specs.Ready.{viewing}
use Rattle.model.specs.WaitingRow.{row_after}
use Rattle.model.specs.Calls.{called}
use Rattle.records.specs.Work.{seen}
use Rattle.calls.specs.Lent.{lent, left_in_place}
use Rattle.refusals.proofs.Accepted.{ready}
use Rattle.calls.proofs.Calling.{handed_on, fits, step_number, step_refused_ok, row_damaged, step_held, step-stepped}
use Rattle.calls.proofs.step_in_place.Goals as goal

pub returns-in_err-step_cause-clause-left : goal.returns-in_err-step_cause-clause-left
returns-in_err-step_cause-clause-left c = λ row ws e here right.
    let a = c.args in
    let w = a.work.now in
    let cause = rw c.lengths-lengths.ensures at c.step_cause.ensures in
    ap (λ x. left_in_place x w row a.locks.now a.pages.now ws) (handed_on c.from_residual.result c.from_residual.ensures)
    ∙ step_refused_ok w.root row a.locks.now a.pages.now ws _ (fits w.root row a.locks.now a.pages.now ws e) w.number w.party here a.place right (sym cause ∙ c.in_err-step_cause.was)

pub step_by_number-requires : goal.step_by_number-requires
step_by_number-requires c =
    let a = c.args in
    let w = a.work.now in
    let cause = rw c.lengths-lengths.ensures at c.step_cause.ensures in
    ready w.root w.party a.rows.parties a.rows.waiting w.number a.locks.now a.pages.now _ (sym cause ∙ c.in_ok-step_cause.was)

pub returns-then-not-place-clause-number : goal.returns-then-not-place-clause-number
returns-then-not-place-clause-number c =
    let a = c.args in
    let s = c.step_by_number in
    step_number (seen s.new.work s.new.locks s.new.pages) (seen a.work.now a.locks.now a.pages.now) s.ensures

pub returns-then-not-place-clause-left : goal.returns-then-not-place-clause-left
returns-then-not-place-clause-left c = λ row ws e here right.
    let a = c.args in
    let w = a.work.now in
    let cause = rw c.lengths-lengths.ensures at c.step_cause.ensures in
    let u = c.step_by_number.new.work in
    let same = step_number (seen u c.step_by_number.new.locks c.step_by_number.new.pages) (seen w a.locks.now a.pages.now) c.step_by_number.ensures in
    let made = ap (λ (k : ℕ). outcome c.step_by_number.result (viewing u.root u.party k c.step_by_number.new.locks c.step_by_number.new.pages)) (sym same) ∙ c.step_by_number.ensures in
    ap (λ (k : ℕ). called c.step_by_number.result (lent u.root (set row k u.party) c.step_by_number.new.locks c.step_by_number.new.pages (row_after k ws c.step_by_number.result))) same
    ∙ step-stepped w.root row a.locks.now a.pages.now ws _ (fits w.root row a.locks.now a.pages.now ws e) w.number w.party here a.place right (sym cause ∙ c.in_ok-step_cause.was) (not-true a.place.apart c.if-not-place.true) made

pub returns-then-not-place-2-clause-left : goal.returns-then-not-place-2-clause-left
returns-then-not-place-2-clause-left c = λ row ws e here right.
    let a = c.args in
    let w = a.work.now in
    let cause = rw c.lengths-lengths.ensures at c.step_cause.ensures in
    row_damaged w.root row a.locks.now a.pages.now ws _ (fits w.root row a.locks.now a.pages.now ws e) w.number w.party here a.place right (sym cause ∙ c.in_ok-step_cause.was) (not-true a.place.sound c.if-not-place-2.true)

pub returns-clause-left : goal.returns-clause-left
returns-clause-left c = λ row ws e here right.
    let a = c.args in
    let w = a.work.now in
    let cause = rw c.lengths-lengths.ensures at c.step_cause.ensures in
    let apart = not-false a.place.apart c.if-not-place.false in
    let whole = not-false a.place.sound c.if-not-place-2.false in
    step_held w.root row a.locks.now a.pages.now ws _ (fits w.root row a.locks.now a.pages.now ws e) w.number w.party here a.place right (sym cause ∙ c.in_ok-step_cause.was) whole apart c.held_back.ensures
