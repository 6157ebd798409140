-- A chase turn by turn, over the model's chase.
-- Main statements: chase_ends, chase-leaves, chase_goes_on (one turn).
use mathlib.Core.Path.{◌≡◌, refl, ap, ◌∙◌}
use Prim.Native.Nat.{ℕ, suc, ◌+◌, ◌-◌, ◌<◌}
use native.Mathlib.Omega.{arith}
use borrow.Author.Tests.{eq-eqb, ne_eqb}
use Rattle.model.specs.Addresses.{hash_of}
use Rattle.model.specs.Steps.Chase.{Chase, chase}

-- Where a chase ended, from its parts.
abbrev pub ended : ℕ → ℕ → Chase
ended lev c = record { lev = lev; chain = c }

module _ (n m c d lev : ℕ) where
  pub chase_ends : d ≡ 0 → ended lev c ≡ chase n m c d lev
  unfolding chase
  chase_ends z = rw (z, chase) refl

  pub chase-leaves : {h : ℕ} → 0 < d → h ≡ hash_of n (lev + 1) m → (h ≡ c → ⊥) → ended (lev + 1) h ≡ chase n m c d lev
  unfolding chase
  chase-leaves {h} z e away = let q : d ≡ suc (d - 1) = omega arith in rw (q, chase, ← e, ne_eqb h c away) refl

  pub chase_goes_on : {h : ℕ} → 0 < d → h ≡ hash_of n (lev + 1) m → h ≡ c → chase n m c d lev ≡ chase n m c (d - 1) (lev + 1)
  unfolding chase
  chase_goes_on {h} z e here =
      let q : d ≡ suc (d - 1) = omega arith in
      ap (λ (x : ℕ). chase n m c x lev) q ∙ rw (← e, eq-eqb h c here) refl
