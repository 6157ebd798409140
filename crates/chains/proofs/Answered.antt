-- What an answer of a walk says of what it read.
-- Main statements: answered_damaged (an error says damage); answered_sound (a value says what was read); damage_is
-- (what an error is that a `?` hands on).
use mathlib.Core.Path.{◌≡◌, refl}
use Rattle.std.specs.Prelude.{Result, Ok, Err, IsErr}
use Rattle.model.specs.declared.Damaged.{Damaged}
use Rattle.model.specs.Chains.{Checked, damaged, sound}
use Rattle.chains.specs.Walks.{answered}

-- The reading x is sound, and its answer is b.
pub record ReadAs {A B : Type 0} (f : A → B) (x : Checked A) (b : B) : Type 0 where
  pub value : A
  pub is_sound : x ≡ sound value
  pub answer : f value ≡ b

module _ {A B : Type 0} (f : A → B) where
  pub answered_damaged : {e : Damaged} (x : Checked A) → Err e ≡ answered f x → x ≡ damaged
  answered_damaged damaged h = refl
  answered_damaged (sound a) h = cc

  pub answered_sound : {b : B} (x : Checked A) → Ok b ≡ answered f x → ReadAs f x b
  answered_sound damaged h = cc
  answered_sound (sound a) h = record { value = a; is_sound = refl; answer = cc }

-- An error says nothing more, so that a `?` hands on the same.
pub damage_is : {B : Type 0} (r : Result B Damaged) → IsErr r → r ≡ Err (record {})
damage_is (Ok b) h = cc
damage_is (Err e) h = refl
