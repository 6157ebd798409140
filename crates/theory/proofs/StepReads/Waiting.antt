-- A step that waits goes by no page: beside any other page memory it waits too.
-- Main statement: waits_beside (of every step number).
use mathlib.Core.Path.{◌≡◌, sym, ap, ◌∙◌}
use mathlib.Core.Bool.{Bool, true, false, false≢true}
use mathlib.Core.List.{List}
use mathlib.Core.Option.{Option, none, some}
use Prim.Native.Nat.{ℕ}
use native.Mathlib.Omega.{arith}
use Rattle.std.specs.Prelude.{Ok, Err}
use Rattle.model.specs.Answers.{StepReply}
use Rattle.model.specs.declared.StepAnswer.{StepAnswer}
use Rattle.model.specs.LockWords.{Claim}
use Rattle.model.specs.Outcome.{View, Outcome, with_pages}
use Rattle.model.specs.LockRequests.{is_granted}
use Rattle.model.specs.Steps.Dispatch.{step_of}
use Rattle.model.proofs.Exits.Statement.{Exit, refusing, waiting, taking, moving, looking, ending}
use Rattle.model.proofs.Exits.{step_exits}

-- Whether an answer is waiting.
unfoldable pub is_waiting : StepReply → Bool
is_waiting (Ok StepAnswer.Waiting) = true
is_waiting (Ok StepAnswer.Moved) = false
is_waiting (Ok (StepAnswer.Done a s)) = false
is_waiting (Err n) = false

-- The outcome o waits, and so does o'.
pub record Waits (o o' : Outcome) : Type 0 where
  pub go : is_waiting o.answer ≡ true → is_waiting o'.answer ≡ true

-- The lock wanted, and whether it is granted, go by no page; nor does what is tested before a request.
same_lock : (c d : Claim) → ◌≡◌ {A = Option Claim} (some c) (some d) → c ≡ d
same_lock c d e = cc

no_lock_lem : (c : Claim) → ◌≡◌ {A = Option Claim} none (some c) → ⊥
no_lock_lem c e = let z : ◌≡◌ {A = ℕ} 0 1 = cc in omega arith

module _ (v : View) (ps' : List ℕ) (k : ℕ) where
  waits_so : (o o' : Outcome) → Exit v k o → Exit (with_pages ps' v) k o' → Waits o o'
  unfolding is_waiting is_granted
  waits_so o o' (refusing r) x = record { go = λ h. absurd (false≢true h) }
  waits_so o o' (taking c u w g d m) x = record { go = λ h. absurd (false≢true h) }
  waits_so o o' (moving u w d m) x = record { go = λ h. absurd (false≢true h) }
  waits_so o o' (looking e w l m) x = record { go = λ h. absurd (false≢true h) }
  waits_so o o' (ending a s u w e) x = record { go = λ h. absurd (false≢true h) }
  waits_so o o' (waiting c w g r) (refusing r') = absurd (false≢true (sym r' ∙ r))
  waits_so o o' (waiting c w g r) (waiting c' w' g' r') = record { go = λ h. h }
  waits_so o o' (waiting c w g r) (taking c' u w' g' d m) = absurd (false≢true (sym g ∙ ap (is_granted v) (same_lock c c' (sym w ∙ w')) ∙ g'))
  waits_so o o' (waiting c w g r) (moving u w' d m) = absurd (no_lock_lem c (sym w' ∙ w))
  waits_so o o' (waiting c w g r) (looking e w' l m) = absurd (no_lock_lem c (sym w' ∙ w))
  waits_so o o' (waiting c w g r) (ending a s u w' e) = absurd (no_lock_lem c (sym w' ∙ w))

pub waits_beside : (v : View) (ps' : List ℕ) → Waits (step_of v.party.step v) (step_of v.party.step (with_pages ps' v))
waits_beside v ps' =
    let k = v.party.step in
    waits_so v ps' k (step_of k v) (step_of k (with_pages ps' v)) (step_exits k v) (step_exits k (with_pages ps' v))
