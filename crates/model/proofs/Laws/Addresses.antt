-- Laws of addresses: what one more bit of a key adds to its hash, and that an address is one of the chains there are.
-- Main statements: span_next, span_pos; hash_lt, hash_next; address_lt.
use mathlib.Core.Path.{◌≡◌, ap, ◌∙◌}
use mathlib.Core.Logic.{◌⊎◌, inl, inr}
use Prim.Native.Nat.{ℕ, zero, suc, ◌+◌, ◌*◌, ◌/◌, ◌%◌, ◌<◌}
use native.Mathlib.Nat.{mod-lt, mul-pos}
use native.Mathlib.Omega.{arith}
use lib.Arith.{mod-mul}
use lib.Pow.{pow_pos, pow-add}
use lib.Dec.{ltb}
use Rattle.model.specs.Mixing.{mixed}
use Rattle.model.specs.Addresses.{span, hash_of, hash, level_for, address_for, address_of, chain_count}
use Rattle.model.proofs.Laws.Lists.{cond_ind, ltb-true}

-- N × 2^(i+1) is twice N × 2^i.
pub span_next : (n i : ℕ) → span n (i + 1) ≡ 2 * span n i
unfolding span
span_next n i = ap (λ (x : ℕ). n * x) (pow-add 2 i 1) ∙ omega arith

pub span_pos : (n i : ℕ) → 0 < n → 0 < span n i
unfolding span
span_pos n i h = mul-pos h (pow_pos i)

module _ (n i k : ℕ) (some : 0 < n) where
  pub hash_lt : hash n i k < span n i
  unfolding hash_of
  hash_lt = mod-lt (mixed k) (span_pos n i some)

  -- h_(i+1) is h_i, or h_i and N × 2^i more.
  pub hash_next : (hash n (i + 1) k ≡ hash n i k) ⊎ (hash n (i + 1) k ≡ hash n i k + span n i)
  unfolding hash_of
  hash_next = go (mixed k / span n i % 2) (mod-lt (mixed k / span n i) (omega arith)) (ap (λ (x : ℕ). mixed k % x) (span_next n i) ∙ mod-mul (mixed k) (omega arith) (span_pos n i some))
    where
      go : (d : ℕ) → d < 2 → mixed k % span n (i + 1) ≡ d * span n i + mixed k % span n i
          → (mixed k % span n (i + 1) ≡ mixed k % span n i) ⊎ (mixed k % span n (i + 1) ≡ mixed k % span n i + span n i)
      go zero h e = inl (omega arith)
      go (suc zero) h e = inr (omega arith)
      go (suc (suc d)) h e = absurd (omega arith)

-- An address is below n, the number of chains.
pub address_lt : (n level next k : ℕ) → 0 < n → address_of n level next k < chain_count n level next
unfolding address_for level_for chain_count
address_lt n level next k some =
    cond_ind (λ i. hash n i k < span n level + next) (ltb (hash n level k) next) (level + 1) level
    (λ e. raised (hash_next n level k some) (ltb-true (hash n level k) next e))
    (λ e. let l = hash_lt n level k some in omega arith)
  where
    raised : (hash n (level + 1) k ≡ hash n level k) ⊎ (hash n (level + 1) k ≡ hash n level k + span n level) → hash n level k < next
        → hash n (level + 1) k < span n level + next
    raised (inl e) h = let l = hash_lt n level k some in omega arith
    raised (inr e) h = omega arith
