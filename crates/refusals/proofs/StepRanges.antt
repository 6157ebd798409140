-- Which operation has which steps, by the ranges of step numbers in which the answer is the same.
-- Main statements: every_operation_locates, find_has_nine, insert_and_delete_change, insert_splits, delete_merges;
-- none_below, none_above, none_other.
use mathlib.Core.Path.{◌≡◌}
use mathlib.Core.Bool.{Bool, true, false, ◌&&◌, ◌||◌, and-true, and-false, or-false}
use Prim.Native.Nat.{ℕ, ◌≤◌, ◌<◌}
use native.Mathlib.Omega.{arith}
use lib.Dec.{leb, eqb}
use borrow.Author.Tests.{le-leb, lt-leb, ne_eqb}
use Rattle.model.specs.Sizes.{within}
use Rattle.model.specs.Steps.Dispatch.{has_step}

-- ---- Where a number stands to a range

inside : (a e k : ℕ) → a ≤ k → k ≤ e → within a e k ≡ true
inside a e k h g = rw (le-leb a k h, le-leb k e g)

below : (a e k : ℕ) → k < a → within a e k ≡ false
below a e k h = rw (lt-leb a k h)

above : (a e k : ℕ) → e < k → within a e k ≡ false
above a e k h = rw (lt-leb k e h) (and-false (leb a k))

-- ---- The steps

-- What the five ranges of the definition say of step k decides.
by_ranges : (o k : ℕ) {a b c d e : Bool} → within 1 9 k ≡ a → within 1 8 k ≡ b → within 10 22 k ≡ c → within 10 14 k ≡ d → within 23 30 k ≡ e
    → has_step o k ≡ ((eqb o 1 && a) || (eqb o 2 && (b || c)) || (eqb o 3 && (b || d || e)))
unfolding has_step
by_ranges o k ea eb ec ed ee = rw (ea, eb, ec, ed, ee)

module _ (o k : ℕ) where
  pub every_operation_locates : 1 ≤ k → k ≤ 8 → (eqb o 1 || eqb o 2 || eqb o 3) ≡ has_step o k
  every_operation_locates h g =
      rw (by_ranges o k (inside 1 9 k h (omega arith)) (inside 1 8 k h g) (below 10 22 k (omega arith)) (below 10 14 k (omega arith)) (below 23 30 k (omega arith)))
      (simp and-true)

  pub find_has_nine : k ≡ 9 → eqb o 1 ≡ has_step o k
  find_has_nine e =
      rw (by_ranges o k (inside 1 9 k (omega arith) (omega arith)) (above 1 8 k (omega arith)) (below 10 22 k (omega arith)) (below 10 14 k (omega arith))
      (below 23 30 k (omega arith)))
      (simp (and-true, and-false, or-false))

  pub insert_and_delete_change : 10 ≤ k → k ≤ 14 → (eqb o 2 || eqb o 3) ≡ has_step o k
  insert_and_delete_change h g =
      rw (by_ranges o k (above 1 9 k h) (above 1 8 k (omega arith)) (inside 10 22 k h (omega arith)) (inside 10 14 k h g) (below 23 30 k (omega arith)))
      (simp (and-true, and-false))

  pub insert_splits : 15 ≤ k → k ≤ 22 → eqb o 2 ≡ has_step o k
  insert_splits h g =
      rw (by_ranges o k (above 1 9 k (omega arith)) (above 1 8 k (omega arith)) (inside 10 22 k (omega arith) g) (above 10 14 k h) (below 23 30 k (omega arith)))
      (simp (and-true, and-false, or-false))

  pub delete_merges : 23 ≤ k → k ≤ 30 → eqb o 3 ≡ has_step o k
  delete_merges h g =
      rw (by_ranges o k (above 1 9 k (omega arith)) (above 1 8 k (omega arith)) (above 10 22 k h) (above 10 14 k (omega arith)) (inside 23 30 k h g))
      (simp (and-true, and-false))

  pub none_below : k < 1 → false ≡ has_step o k
  none_below h =
      rw (by_ranges o k (below 1 9 k h) (below 1 8 k h) (below 10 22 k (omega arith)) (below 10 14 k (omega arith)) (below 23 30 k (omega arith)))
      (simp and-false)

  pub none_above : 30 < k → false ≡ has_step o k
  none_above h =
      rw (by_ranges o k (above 1 9 k (omega arith)) (above 1 8 k (omega arith)) (above 10 22 k (omega arith)) (above 10 14 k (omega arith)) (above 23 30 k h))
      (simp and-false)

  -- No other operation has a step.
  pub none_other : 3 < o → false ≡ has_step o k
  unfolding has_step
  none_other h = rw (ne_eqb o 1 (omega arith), ne_eqb o 2 (omega arith), ne_eqb o 3 (omega arith))
