-- `told::is_right` meets its contract, by its three cases.
use Rattle.std.proofs.Common.{◌≡◌, Bool, not, eqb, sym, ap, ◌∙◌}
use Rattle.std.specs.Prelude.{Result, ⊤}
use mathlib.Core.Bool.{beq}
use Rattle.model.specs.declared.Refusal.{Refusal}
use Rattle.model.specs.Answers.{cause_number, refusal_number}
use Rattle.cases.specs.Verdict.{is_right}
use Rattle.cases.proofs.Verdicts.{other_refusal, accepted_right, refused_right}
use Rattle.cases.proofs.told.is_right.Goals as goal

pub returns-then-refusal_number : goal.returns-then-refusal_number
returns-then-refusal_number c =
    let a = c.args in
    other_refusal a.call a.came a.expected (λ e. c.if-refusal_number.true (c.refusal_number.ensures ∙ e ∙ sym c.refusal_number-2.ensures))

pub returns-in-Ok : goal.returns-in-Ok
unfolding refusal_number
returns-in-Ok c =
    let a = c.args in
    let same : refusal_number a.came.answer ≡ 0 = sym c.refusal_number.ensures ∙ c.if-refusal_number.false ∙ c.refusal_number-2.ensures ∙ ap (λ (r : Result ⊤ Refusal). refusal_number r) c.in-Ok.is in
    ap (λ (b : Bool). beq (not (eqb a.came.altered 0)) b) c.alters.ensures ∙ accepted_right a.call a.came c.in-Ok.field-0 same ∙ ap (is_right a.call a.came) (sym c.in-Ok.is)

pub returns-in-Err : goal.returns-in-Err
unfolding refusal_number
returns-in-Err c =
    let a = c.args in
    let same : refusal_number a.came.answer ≡ cause_number c.in-Err.field-0 =
    sym c.refusal_number.ensures ∙ c.if-refusal_number.false ∙ c.refusal_number-2.ensures ∙ ap (λ (r : Result ⊤ Refusal). refusal_number r) c.in-Err.is in
    refused_right a.call a.came c.in-Err.field-0 same ∙ ap (is_right a.call a.came) (sym c.in-Err.is)
