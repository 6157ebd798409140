-- `calls::withdraw` meets its contract: refused by the first cause, or the operation is taken back.
use mathlib.Core.Path.{sym, ap, ◌∙◌}
use Rattle.model.specs.Withdraw.{withdrawal}
use Prim.Native.Nat.{ℕ}
use Rattle.std.specs.Prelude.{Ok, Err}
use Rattle.model.specs.Ready.{viewing}
use Rattle.records.specs.Work.{seen}
use Rattle.refusals.proofs.Accepted.{withdraw_ready}
use Rattle.calls.specs.Lent.{left_by_withdraw}
use Rattle.calls.proofs.Calling.{handed_on, fits, withdraw_number, withdraw_refused_ok, withdraw_withdrawn, withdraw_damaged}
use Rattle.calls.proofs.withdraw.Goals as goal

pub returns-in_err-withdraw_cause : goal.returns-in_err-withdraw_cause
returns-in_err-withdraw_cause c = λ row ws e here right.
    let a = c.args in
    let cause = rw c.lengths-lengths.ensures at c.withdraw_cause.ensures in
    ap (λ x. left_by_withdraw x a.root row a.q a.locks.now a.pages.now ws) (handed_on c.from_residual.result c.from_residual.ensures)
    ∙ withdraw_refused_ok a.root row a.locks.now a.pages.now ws _ (fits a.root row a.locks.now a.pages.now ws e) a.q a.party here a.place right (sym cause ∙ c.in_err-withdraw_cause.was)

pub withdrawn-requires : goal.withdrawn-requires
withdrawn-requires c =
    let a = c.args in
    let cause = rw c.lengths-lengths.ensures at c.withdraw_cause.ensures in
    withdraw_ready a.root a.party a.rows.parties a.rows.waiting a.q a.locks.now a.pages.now _ (sym cause ∙ c.in_ok-withdraw_cause.was)

pub returns-in_err-withdrawn : goal.returns-in_err-withdrawn
returns-in_err-withdrawn c = λ row ws e here right.
    let a = c.args in
    let cause = rw c.lengths-lengths.ensures at c.withdraw_cause.ensures in
    let w = c.withdrawn.new in
    let told = c.in_err-withdrawn.was in
    let said = ap (λ x. withdrawal x (seen w.work w.locks w.pages)) (sym told) ∙ c.withdrawn.ensures in
    let same = withdraw_number (seen w.work w.locks w.pages) (viewing a.root a.party a.q a.locks.now a.pages.now) said in
    let made = ap (λ (k : ℕ). withdrawal (Err c.in_err-withdrawn.field-0.0) (viewing w.work.root w.work.party k w.locks w.pages)) (sym same) ∙ said in
    ap (λ x. left_by_withdraw x a.root row a.q w.locks w.pages ws) (handed_on c.from_residual-in_err-withdrawn.result c.from_residual-in_err-withdrawn.ensures)
    ∙ withdraw_damaged a.root row a.locks.now a.pages.now ws _ (fits a.root row a.locks.now a.pages.now ws e) a.q a.party here a.place right (sym cause ∙ c.in_ok-withdraw_cause.was) made

pub returns : goal.returns
returns c = λ row ws e here right.
    let a = c.args in
    let cause = rw c.lengths-lengths.ensures at c.withdraw_cause.ensures in
    let w = c.withdrawn.new in
    let told = c.in_ok-withdrawn.was in
    let said = ap (λ x. withdrawal x (seen w.work w.locks w.pages)) (sym told) ∙ c.withdrawn.ensures in
    let same = withdraw_number (seen w.work w.locks w.pages) (viewing a.root a.party a.q a.locks.now a.pages.now) said in
    let made = ap (λ (k : ℕ). withdrawal (Ok tt) (viewing w.work.root w.work.party k w.locks w.pages)) (sym same) ∙ said in
    withdraw_withdrawn a.root row a.locks.now a.pages.now ws _ (fits a.root row a.locks.now a.pages.now ws e) a.q a.party here a.place right (sym cause ∙ c.in_ok-withdraw_cause.was) made
