-- One answer: which are right, as tables over every refusal; and where a split and a merge stop.
-- Main statements: answers_to-request, answers_without_request, answers_idle (a step); begins_beyond, begins_busy,
-- begins_free (a begin); withdraws_beyond, withdraws_idle, withdraws_decided, withdraws_free (a withdraw); stops_told,
-- merge_stops_told, open_below_P, barred_at_P, open_above_N, barred_at_N (a split and a merge); limits_told,
-- limits_met (sizes).
use mathlib.Core.Path.{◌≡◌, refl}
use mathlib.Core.Logic.{◌≢◌}
use mathlib.Core.Bool.{Bool, true, false, cond, not}
use mathlib.Core.List.{List, [], ◌∷◌, map}
use Prim.Native.Nat.{ℕ, ◌≤◌}
use native.Mathlib.Omega.{arith}
use lib.Dec.{eqb, leb}
use Rattle.std.specs.Prelude.{Ok, Err}
use Rattle.model.specs.declared.Refusal.{Refusal}
use Rattle.model.specs.Answers.{StepReply, CallReply, cause_number}
use Rattle.model.specs.declared.OperationAnswer.{OperationAnswer}
use Rattle.model.specs.declared.Restructuring.{Restructuring}
use Rattle.model.specs.declared.StepAnswer.{StepAnswer}
use Rattle.model.specs.Sizes.{within_limits}
use Rattle.model.specs.Records.{root_of_sizes}
use Rattle.model.specs.Addresses.{split_barred, merge_barred}
use Rattle.model.specs.Holds.{grant_right, never_waits, refused_with, idle_right, begin_right, withdraw_right}
use Rattle.model.proofs.Laws.Lists.{eqb_same, eqb-diff, le-leb}

-- What a step can answer.
abbrev pub step_answers : OperationAnswer → Restructuring → Refusal → List StepReply
step_answers a s n = Ok StepAnswer.Waiting ∷ Ok StepAnswer.Moved ∷ Ok (StepAnswer.Done a s) ∷ Err n ∷ []

-- To a request: moved where it is permitted, waiting where it is not, and nothing else.
pub answers_to-request : (may : Bool) (a : OperationAnswer) (s : Restructuring) (n : Refusal) → map (grant_right may) (step_answers a s n) ≡ not may ∷ may ∷ false ∷ false ∷ []
unfolding grant_right
answers_to-request may a s n = refl

-- Without one: moved or done.
pub answers_without_request : (a : OperationAnswer) (s : Restructuring) (n : Refusal) → map never_waits (step_answers a s n) ≡ false ∷ true ∷ true ∷ false ∷ []
unfolding never_waits
answers_without_request a s n = refl

-- With nothing under way: refused, 3 beyond the row and else 5, with that number alone.
pub answers_idle :
    (parties q : ℕ) (a : OperationAnswer) (s : Restructuring) (n : Refusal)
    → map (idle_right parties q) (step_answers a s n) ≡ false ∷ false ∷ false ∷ eqb (cause_number n) (cond (leb parties q) 3 5) ∷ []
unfolding idle_right refused_with
answers_idle parties q a s n = refl

-- What a begin can answer: 3 beyond the row, 4 where one is under way, and else begun.
abbrev pub begin_answers : Refusal → List CallReply
begin_answers n = Ok tt ∷ Err n ∷ []

pub begins_beyond : (parties q : ℕ) (busy : Bool) (n : Refusal) → leb parties q ≡ true → map (begin_right parties q busy) (begin_answers n) ≡ false ∷ eqb (cause_number n) 3 ∷ []
unfolding begin_right refused_with
begins_beyond parties q busy n h = rw h refl

pub begins_busy : (parties q : ℕ) (n : Refusal) → leb parties q ≡ false → map (begin_right parties q true) (begin_answers n) ≡ false ∷ eqb (cause_number n) 4 ∷ []
unfolding begin_right refused_with
begins_busy parties q n h = rw h refl

pub begins_free : (parties q : ℕ) (n : Refusal) → leb parties q ≡ false → map (begin_right parties q false) (begin_answers n) ≡ true ∷ false ∷ []
unfolding begin_right
begins_free parties q n h = rw h refl

-- What a withdraw can answer: 3 beyond the row, 5 with nothing under way, 7 where the decisive step is taken, and else
-- withdrawn.
abbrev pub withdraw_answers : Refusal → List CallReply
withdraw_answers n = Ok tt ∷ Err n ∷ []

pub withdraws_beyond : (parties q : ℕ) (busy decided : Bool) (n : Refusal) → leb parties q ≡ true → map (withdraw_right parties q busy decided) (withdraw_answers n) ≡ false ∷ eqb (cause_number n) 3 ∷ []
unfolding withdraw_right refused_with
withdraws_beyond parties q busy decided n h = rw h refl

pub withdraws_idle : (parties q : ℕ) (decided : Bool) (n : Refusal) → leb parties q ≡ false → map (withdraw_right parties q false decided) (withdraw_answers n) ≡ false ∷ eqb (cause_number n) 5 ∷ []
unfolding withdraw_right refused_with
withdraws_idle parties q decided n h = rw h refl

pub withdraws_decided : (parties q : ℕ) (n : Refusal) → leb parties q ≡ false → map (withdraw_right parties q true true) (withdraw_answers n) ≡ false ∷ eqb (cause_number n) 7 ∷ []
unfolding withdraw_right refused_with
withdraws_decided parties q n h = rw h refl

pub withdraws_free : (parties q : ℕ) (n : Refusal) → leb parties q ≡ false → map (withdraw_right parties q true false) (withdraw_answers n) ≡ true ∷ false ∷ []
unfolding withdraw_right
withdraws_free parties q n h = rw h refl

-- ---- Where a split and a merge stop

-- At n = P, here 9, and at n = N, here 2, and at no other n.
stops_told : map (λ n. split_barred n 9) (2 ∷ 5 ∷ 7 ∷ 8 ∷ 9 ∷ []) ≡ false ∷ false ∷ false ∷ false ∷ true ∷ []
unfolding split_barred
stops_told = refl

merge_stops_told : map (λ n. merge_barred n 2) (2 ∷ 3 ∷ 5 ∷ 7 ∷ 9 ∷ []) ≡ true ∷ false ∷ false ∷ false ∷ false ∷ []
unfolding merge_barred
merge_stops_told = refl

pub open_below_P : (n most : ℕ) → n ≢ most → split_barred n most ≡ false
unfolding split_barred
open_below_P n most h = eqb-diff n most h

pub barred_at_P : (n : ℕ) → split_barred n n ≡ true
unfolding split_barred
barred_at_P n = eqb_same n n refl

pub open_above_N : (n originals : ℕ) → n ≢ originals → merge_barred n originals ≡ false
unfolding merge_barred
open_above_N n originals h = eqb-diff n originals h

pub barred_at_N : (n : ℕ) → merge_barred n n ≡ true
unfolding merge_barred
barred_at_N n = eqb_same n n refl

-- ---- Sizes

-- The largest and the smallest sizes, and each size one beyond its limit.
limits_told :
    map within_limits (
    root_of_sizes 256 6 256 752 16 ∷ root_of_sizes 1 1 1 0 1 ∷ root_of_sizes 0 6 256 752 16 ∷ root_of_sizes 9 6 8 752 16 ∷ root_of_sizes 256 6 257 752 16 ∷ root_of_sizes 256 6 256 753 16
    ∷ root_of_sizes 256 6 256 752 17 ∷ root_of_sizes 256 6 256 752 0 ∷ root_of_sizes 256 7 256 752 16 ∷ root_of_sizes 256 0 256 752 16 ∷ []
    )
    ≡ true ∷ true ∷ false ∷ false ∷ false ∷ false ∷ false ∷ false ∷ false ∷ false ∷ []
unfolding within_limits
limits_told = refl

-- Every size within the limits of document 01 is taken, N up to P.
pub limits_met :
    (n b p v q : ℕ) → 1 ≤ n → n ≤ p → p ≤ 256 → v ≤ 752 → 1 ≤ q → q ≤ 16 → 1 ≤ b → b ≤ 6 → within_limits (root_of_sizes n b p v q) ≡ true
unfolding within_limits
limits_met n b p v q one most chains pages some row key full =
    rw (
      le-leb 1 n one,
      le-leb n p most,
      le-leb 1 p (omega arith),
      le-leb p 256 chains,
      le-leb v 752 pages,
      le-leb 1 q some,
      le-leb q 16 row,
      le-leb 1 b key,
      le-leb b 6 full,
    ) refl
