-- A step number and the step that it names.
-- Main statements: named (equal numbers name the same step); past, exactly (what is left of a range of numbers);
-- some-step, last_step (an operation's step is one of 1 to 30).
use mathlib.Core.Path.{◌≡◌, refl, sym, ap}
use mathlib.Core.Logic.{◌≢◌}
use mathlib.Core.Bool.{Bool, true, false}
use Prim.Native.Nat.{ℕ, ◌+◌, ◌≤◌}
use native.Mathlib.Omega.{arith}
use lib.Dec.{ltb}
use borrow.Author.Tests.{ltb-true, ltb-false}
use Rattle.model.specs.Outcome.{View}
use Rattle.model.specs.Steps.Dispatch.{has_step, step_of}
use Rattle.refusals.proofs.StepRanges.{none_below, none_above}

pub named : (v : View) (k n : ℕ) → k ≡ n → step_of n v ≡ step_of k v
named v k n e = ap (λ (i : ℕ). step_of i v) (sym e)

pub past : (a k : ℕ) → a ≤ k → k ≢ a → a + 1 ≤ k
past a k h ne = omega (arith, ne)

pub exactly : (a k : ℕ) → a ≤ k → k ≤ a → k ≡ a
exactly a k h g = omega arith

-- ---- The numbers that an operation has

module _ (o k : ℕ) (has : has_step o k ≡ true) where
  lacks : false ≡ has_step o k → ◌≡◌ {A = ℕ} 0 1
  lacks e = cc

  pub some-step : 1 ≤ k
  some-step = go (ltb k 1) refl
    where
      go : (b : Bool) → b ≡ ltb k 1 → 1 ≤ k
      go true e = absurd (let z = lacks (none_below o k (ltb-true k 1 (sym e))) in omega arith)
      go false e = ltb-false k 1 (sym e)

  pub last_step : k ≤ 30
  last_step = go (ltb 30 k) refl
    where
      go : (b : Bool) → b ≡ ltb 30 k → k ≤ 30
      go true e = absurd (let z = lacks (none_above o k (ltb-true 30 k (sym e))) in omega arith)
      go false e = ltb-false 30 k (sym e)
