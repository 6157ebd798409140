-- When what came of a call is right, by the three cases of `told::is_right`.
-- Main statements: other_refusal, accepted_right, refused_right.
use Rattle.std.proofs.Common.{◌≡◌, Bool, true, false, not, eqb, refl}
use Rattle.std.specs.Prelude.{Result, Ok, Err, ⊤}
use mathlib.Core.Bool.{beq}
use Rattle.model.proofs.Laws.Lists.{eqb_same, eqb-diff}
use Rattle.cases.specs.declared.scene.Call.{Call}
use Rattle.cases.specs.declared.made.Came.{Came}
use Rattle.model.specs.declared.Refusal.{Refusal}
use Rattle.model.specs.Answers.{cause_number, refusal_number}
use Rattle.cases.specs.Verdict.{alters, is_right}

pub other_refusal : (call : Call) (came : Came) (expected : Result ⊤ Refusal) → (refusal_number came.answer ≡ refusal_number expected → ⊥) → false ≡ is_right call came expected
unfolding is_right
other_refusal call came expected other = rw (eqb-diff (refusal_number came.answer) (refusal_number expected) other)

-- An accepted call altered something where its call does.
pub accepted_right : (call : Call) (came : Came) (x : ⊤) → refusal_number came.answer ≡ 0 → beq (not (eqb came.altered 0)) (alters call) ≡ is_right call came (Ok x)
unfolding is_right refusal_number
accepted_right call came x same = rw (eqb_same (refusal_number came.answer) 0 same)

none_altered : (b : Bool) → b ≡ beq (not b) false
none_altered true = refl
none_altered false = refl

some_cause : (r : Refusal) → eqb (cause_number r) 0 ≡ false
unfolding cause_number
some_cause Refusal.Size = refl
some_cause Refusal.Length = refl
some_cause Refusal.Unsaved = refl
some_cause Refusal.Party = refl
some_cause Refusal.Busy = refl
some_cause Refusal.Idle = refl
some_cause Refusal.Decided = refl
some_cause Refusal.Damage = refl

-- A refused one altered nothing.
pub refused_right : (call : Call) (came : Came) (r : Refusal) → refusal_number came.answer ≡ cause_number r → eqb came.altered 0 ≡ is_right call came (Err r)
unfolding is_right refusal_number
refused_right call came r same = rw (eqb_same (refusal_number came.answer) (cause_number r) same, some_cause r) (none_altered (eqb came.altered 0))
