-- The grammar: which numbers and which lines a pattern derives.
-- Main definitions: Numeral (digits and their value), Derives. Plain: what makes a pattern unambiguous.
use Rattle.std.specs.Prelude.{◌≡◌, Bool, true, false, cond, not, ◌&&◌, List, [], ◌∷◌, ◌++◌, ℕ, ◌+◌, ◌≤◌, length, eqb}
use Rattle.patterns.specs.Numbers.{is_digit, all_digits, value_of, most_digits, largest}
use Rattle.patterns.specs.Patterns.{hole, most_numbers}

-- One to ten digits, of value v, which fits 32 bits.
pub record Numeral (ds : List ℕ) (v : ℕ) : Type 0 where
  pub some : 1 ≤ length ds
  pub few : length ds ≤ most_digits
  pub digits : all_digits ds ≡ true
  pub value : value_of ds ≡ v
  pub small : v ≤ largest

-- A byte of the pattern that is no hole derives itself, a hole a numeral.
pub data Derives : List ℕ → List ℕ → List ℕ → Type 0 where
  end : Derives [] [] []
  byte : {b : ℕ} {p ns l : List ℕ} → (b ≡ hole → ⊥) → Derives p ns l → Derives (b ∷ p) ns (b ∷ l)
  number : {b v : ℕ} {p ns ds l : List ℕ} → b ≡ hole → Numeral ds v → Derives p ns l → Derives (b ∷ p) (v ∷ ns) (ds ++ l)

-- No byte of a pattern is a digit and no two holes are neighbours; `after` says that a hole stands before it.
unfoldable pub plain : Bool → List ℕ → Bool
plain after [] = true
plain after (b ∷ p) = cond (eqb b hole) (not after) (not (is_digit b)) && plain (eqb b hole) p

-- How many numbers a pattern asks for.
unfoldable pub holes : List ℕ → ℕ
holes [] = 0
holes (b ∷ p) = cond (eqb b hole) 1 0 + holes p

-- A pattern without ambiguity, which asks for no more numbers than can be held.
pub record Plain (p : List ℕ) : Type 0 where
  pub parted : plain false p ≡ true
  pub held : holes p ≤ most_numbers
