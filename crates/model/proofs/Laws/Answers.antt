-- Answers told apart by their numbers and the settings that they carry; what is refused is not accepted, and has a number.
-- Main statements: same_answer_lem (an answer is the same as itself); answers_same (two that are the same are equal); cause_some,
-- not_refused; Caused and caused (a call by its first cause).
use mathlib.Core.Path.{◌≡◌, refl, sym, ap, ◌∙◌}
use mathlib.Core.Logic.{◌≢◌}
use mathlib.Core.Bool.{true, cond, true≢false}
use Prim.Native.Nat.{ℕ}
use native.Mathlib.Omega.{arith}
use lib.Dec.{eqb}
use Rattle.std.specs.Prelude.{Ok, Err, Result, is_ok}
use Rattle.model.specs.declared.Refusal.{Refusal}
use Rattle.model.specs.declared.OperationAnswer.{OperationAnswer}
use Rattle.model.specs.Answers.{answer_number, answer_of, setting_found, same_answer, cause_number, CallReply}
use Rattle.model.proofs.Laws.Lists.{and_both, both-and, eqb-true, eqb_same}

pub same_answer_lem : (a : OperationAnswer) → same_answer a a ≡ true
unfolding same_answer
same_answer_lem a = both-and (eqb_same (answer_number a) (answer_number a) refl) (eqb_same (setting_found a) (setting_found a) refl)

-- An answer, by its number and its setting.
answer_with : ℕ → ℕ → OperationAnswer
answer_with n x = cond (eqb n 6) (OperationAnswer.Found x) (answer_of n)

answer_back : (a : OperationAnswer) → answer_with (answer_number a) (setting_found a) ≡ a
unfolding answer_with answer_number setting_found answer_of
answer_back OperationAnswer.Inserted = refl
answer_back OperationAnswer.Present = refl
answer_back OperationAnswer.Deleted = refl
answer_back OperationAnswer.Absent = refl
answer_back OperationAnswer.NoPage = refl
answer_back (OperationAnswer.Found x) = refl

pub answers_same : (a c : OperationAnswer) → same_answer a c ≡ true → a ≡ c
unfolding same_answer
answers_same a c h =
    let f = and_both (eqb (answer_number a) (answer_number c)) (eqb (setting_found a) (setting_found c)) h in
    sym (answer_back a) ∙ ap (λ (n : ℕ). answer_with n (setting_found a)) (eqb-true (answer_number a) (answer_number c) f.0)
    ∙ ap (answer_with (answer_number c)) (eqb-true (setting_found a) (setting_found c) f.1) ∙ answer_back c

-- A refusal's number is not 0.
pub cause_some : (c : Refusal) → cause_number c ≢ 0
unfolding cause_number
cause_some Refusal.Size = λ e. omega arith
cause_some Refusal.Length = λ e. omega arith
cause_some Refusal.Unsaved = λ e. omega arith
cause_some Refusal.Party = λ e. omega arith
cause_some Refusal.Busy = λ e. omega arith
cause_some Refusal.Idle = λ e. omega arith
cause_some Refusal.Decided = λ e. omega arith
cause_some Refusal.Damage = λ e. omega arith

pub not_refused : {A : Type 0} (a : A) (c : Refusal) → ◌≡◌ {A = Result A Refusal} (Ok a) (Err c) → ⊥
not_refused a c e = true≢false (ap is_ok e)

-- A call meets no cause, or this one first.
pub data Caused (x : CallReply) : Type 0 where
  no_cause : x ≡ Ok tt → Caused x
  caused_by : (c : Refusal) → x ≡ Err c → Caused x

pub caused : (x : CallReply) → Caused x
caused (Ok _) = no_cause refl
caused (Err c) = caused_by c refl
