-- What a conjunction of tests says of each test, one side a lemma, as a search through a long one wants it; and when tests are equal.
-- Main statements: and_left, and_right; eq_of_iff.
use mathlib.Core.Path.{◌≡◌, refl, sym}
use mathlib.Core.Bool.{Bool, true, false, ◌&&◌}
use Rattle.model.proofs.Laws.Lists.{and_both}

pub and_left : (a b : Bool) → (a && b) ≡ true → a ≡ true
and_left a b e = (and_both a b e).0

pub and_right : (a b : Bool) → (a && b) ≡ true → b ≡ true
and_right a b e = (and_both a b e).1

-- Tests that pass together are equal.
pub eq_of_iff : {a b : Bool} → (a ≡ true → b ≡ true) → (b ≡ true → a ≡ true) → a ≡ b
eq_of_iff {a = true} f g = sym (f refl)
eq_of_iff {a = false} {b = true} f g = g refl
eq_of_iff {a = false} {b = false} f g = refl
