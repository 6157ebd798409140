-- What a step can answer: it waits exactly for a lock that it requests and is not granted, and it is refused for
-- damage alone.
-- Main statements: fairly (the answers that go with a request, or with none); step_fair (every step answers so, by the
-- lock that its number wants).
use mathlib.Core.Path.{◌≡◌, refl, sym, ap, ◌∙◌, subst}
use mathlib.Core.Bool.{Bool, true, false, not}
use mathlib.Core.Option.{Option, none, some}
use Prim.Native.Nat.{ℕ}
use Rattle.std.specs.Prelude.{Ok, Err}
use Rattle.model.specs.declared.Refusal.{Refusal}
use Rattle.model.specs.declared.OperationAnswer.{OperationAnswer}
use Rattle.model.specs.declared.Restructuring.{Restructuring}
use Rattle.model.specs.declared.StepAnswer.{StepAnswer}
use Rattle.model.specs.Answers.{is_moved, StepReply, is_damage}
use Rattle.model.specs.LockWords.{Claim, permits}
use Rattle.model.specs.Outcome.{View, Outcome, refuse}
use Rattle.model.specs.LockRequests.{lock_word, is_granted}
use Rattle.model.specs.Steps.Dispatch.{has_step, step_of, wants}
use Rattle.model.specs.WaitingRow.{requests, is_some}
use Rattle.model.proofs.Laws.Lists.{false≢true, right_fails}
use Rattle.model.proofs.Exits.Statement.{want_at, Exit, refusing, waiting, taking, moving, looking, ending}
use Rattle.model.proofs.Exits.{step_exits}

-- ---- The answers that go with a request

-- Without a request a step never waits.
unfoldable pub unasked : StepReply → Bool
unasked (Ok StepAnswer.Waiting) = false
unasked (Ok StepAnswer.Moved) = true
unasked (Ok (StepAnswer.Done a s)) = true
unasked (Err c) = is_damage c

-- With a request it moves where the lock is granted, and else waits.
unfoldable pub asked : Bool → StepReply → Bool
asked may (Ok StepAnswer.Waiting) = not may
asked may (Ok StepAnswer.Moved) = may
asked may (Ok (StepAnswer.Done a s)) = false
asked may (Err c) = is_damage c

-- The answers that go with this request, or with none.
unfoldable pub fairly : View → Option Claim → StepReply → Bool
fairly v none a = unasked a
fairly v (some c) a = asked (is_granted v c) a

-- An outcome that goes with what was requested.
pub record Fair (v : View) (w : Option Claim) (o : Outcome) : Type 0 where
  pub fair : fairly v w o.answer ≡ true

-- ---- Every step

refused_fair : (v : View) (w : Option Claim) → Fair v w (refuse Refusal.Damage v)
unfolding fairly unasked asked is_damage
refused_fair v none = record { fair = refl }
refused_fair v (some c) = record { fair = refl }

by_exit : (v : View) (k : ℕ) (o : Outcome) → Exit v k o → Fair v (want_at k v) o
unfolding fairly unasked asked
by_exit v k o (refusing r) = refused_fair v (want_at k v)
by_exit v k o (waiting c w g r) = record { fair = rw (w, g) refl }
by_exit v k o (taking c u w g d m) = record { fair = rw (w, g) refl }
by_exit v k o (moving u w d m) = record { fair = rw w refl }
by_exit v k o (looking e w l m) = record { fair = rw w refl }
by_exit v k o (ending a s u w e) = record { fair = rw w refl }

-- Every step answers as the lock that its number wants asks.
pub step_fair : (v : View) → Fair v (wants v.root v.party) (step_of v.party.step v)
unfolding wants
step_fair v = by_exit v v.party.step (step_of v.party.step v) (step_exits v.party.step v)

-- ---- What a party requests whose step waits, or is done

module _ (v : View) (has : has_step v.party.operation v.party.step ≡ true) where
  pub asked_wanted : requests v.root v.party ≡ wants v.root v.party
  unfolding requests
  asked_wanted = rw has refl

  waiting_some : (o : Option Claim) → fairly v o (Ok StepAnswer.Waiting) ≡ true → is_some o ≡ true
  unfolding fairly unasked asked is_some
  waiting_some none f = absurd (false≢true f)
  waiting_some (some c) f = refl

  done_none : (o : Option Claim) (a : OperationAnswer) (s : Restructuring) → fairly v o (Ok (StepAnswer.Done a s)) ≡ true → is_some o ≡ false
  unfolding fairly unasked asked is_some
  done_none none a s f = refl
  done_none (some c) a s f = absurd (false≢true f)

  fair_to : (a : StepReply) → (step_of v.party.step v).answer ≡ a → fairly v (wants v.root v.party) a ≡ true
  fair_to a e = subst (λ (x : StepReply). fairly v (wants v.root v.party) x ≡ true) e (step_fair v).fair

  pub waiting_asks : (step_of v.party.step v).answer ≡ Ok StepAnswer.Waiting → is_some (requests v.root v.party) ≡ true
  waiting_asks e = ap is_some asked_wanted ∙ waiting_some (wants v.root v.party) (fair_to (Ok StepAnswer.Waiting) e)

  pub done-asks-none : (a : OperationAnswer) (s : Restructuring) → (step_of v.party.step v).answer ≡ Ok (StepAnswer.Done a s) → is_some (requests v.root v.party) ≡ false
  done-asks-none a s e = ap is_some asked_wanted ∙ done_none (wants v.root v.party) a s (fair_to (Ok (StepAnswer.Done a s)) e)

  refused_six : (o : Option Claim) (c : Refusal) → fairly v o (Err c) ≡ true → is_damage c ≡ true
  unfolding fairly unasked asked
  refused_six none c f = f
  refused_six (some l) c f = f

  pub refused_damage : (c : Refusal) → (step_of v.party.step v).answer ≡ Err c → is_damage c ≡ true
  refused_damage c e = refused_six (wants v.root v.party) c (fair_to (Err c) e)

-- A step that stands behind an earlier waiting request does not move.
pub behind_not-moved : (v : View) (c : Claim) → wants v.root v.party ≡ some c → v.behind ≡ true → is_moved (step_of v.party.step v).answer ≡ false
unfolding fairly asked is_granted is_moved
behind_not-moved v c w h = go (step_of v.party.step v).answer (subst (λ (o : Option Claim). fairly v o (step_of v.party.step v).answer ≡ true) w (step_fair v).fair)
  where
    barred : is_granted v c ≡ false
    barred = right_fails (permits (lock_word v c.word) c.mode) (ap not h)

    go : (a : StepReply) → asked (is_granted v c) a ≡ true → is_moved a ≡ false
    go (Ok StepAnswer.Waiting) f = refl
    go (Ok StepAnswer.Moved) f = absurd (false≢true (sym barred ∙ f))
    go (Ok (StepAnswer.Done y s)) f = refl
    go (Err n) f = refl
