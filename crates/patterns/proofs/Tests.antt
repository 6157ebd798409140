-- A test passes or fails, and what is left of a list at a place.
-- Main statements: tell, both_true; next_of, left-from.
use mathlib.Core.Path.{◌≡◌, refl, sym}
use mathlib.Core.Bool.{Bool, true, false, ◌&&◌, true≢false}
use mathlib.Core.List.{List, ◌∷◌}
use Prim.Native.Nat.{ℕ, ◌+◌, ◌-◌, ◌≤◌, ◌<◌}
use native.Mathlib.Numerals.{add-one}
use native.Mathlib.Omega.{arith}
use lib.ListN.{length, get_or, drop, length-drop}
use lib.Seq.{drop-cons}

pub data Told (t : Bool) : Type 0 where
  holds : t ≡ true → Told t
  fails : t ≡ false → Told t

pub tell : (t : Bool) → Told t
tell true = holds refl
tell false = fails refl

pub both_true : (s t : Bool) → (s && t) ≡ true → (s ≡ true) × (t ≡ true)
both_true true true e = (refl, refl)
both_true true false e = absurd (true≢false (sym e))
both_true false t e = absurd (true≢false (sym e))

pub next_of : (l : List ℕ) (i : ℕ) → i < length l → drop i l ≡ get_or l i 0 ∷ drop (i + 1) l
next_of l i h = rw add-one (drop-cons l i 0 h)

-- The place where the rest from i on begins is i.
pub left-from : (l : List ℕ) (i : ℕ) → i ≤ length l → length l - length (drop i l) ≡ i
left-from l i h = rw length-drop (omega arith)
