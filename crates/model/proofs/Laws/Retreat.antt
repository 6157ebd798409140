-- A merge moves level and next one split back.
-- Main statements: Retreat (an extent one split back), merge_retreats (target and level after a merge are one), merge_partner_ok (the partner is then the chain behind the last),
-- target_before.
use mathlib.Core.Path.{◌≡◌, sym, ap, ◌∙◌}
use mathlib.Core.Logic.{◌≢◌}
use mathlib.Core.Bool.{false, cond}
use Prim.Native.Nat.{ℕ, zero, suc, ◌+◌, ◌-◌, ◌<◌}
use native.Mathlib.Omega.{arith}
use lib.Dec.{eqb}
use Rattle.model.specs.Addresses.{span, chain_count, merge_target, merge_partner, merge_level, merge_barred}
use Rattle.model.proofs.Laws.Lists.{eqb_same, eqb-diff, eqb-false}
use Rattle.model.proofs.Laws.Addresses.{span_next, span_pos}
use Rattle.model.proofs.Invariant.Ghost.{Extent, extent, size, advance}

-- The extent f is one split short of e.
pub record Retreat (n : ℕ) (e f : Extent) : Type 0 where
  pub next_fits : f.next < span n f.level
  pub advances : advance n f ≡ e
  pub one_less : size n e ≡ suc (size n f)

-- Where next is not 0, only next moves.
next_retreats : (n level x : ℕ) → suc x < span n level → Retreat n (extent level (suc x)) (extent level x)
unfolding advance size chain_count
next_retreats n level x h = record {
  next_fits = omega arith;
  advances = rw (eqb-diff (x + 1) (span n level) (omega arith)) (ap (λ (y : ℕ). extent level y) (omega arith));
  one_less = omega arith;
}

-- Where next is 0, the last chain of the level below is the next to split.
level_retreats : (n l : ℕ) → 0 < n → Retreat n (extent (suc l) 0) (extent l (span n l - 1))
unfolding advance size chain_count
level_retreats n l some =
    let some-span = span_pos n l some in
    let up : l + 1 ≡ suc l = omega arith in
    let twice = sym (ap (λ (i : ℕ). span n i) up) ∙ span_next n l in
    record {
      next_fits = omega arith;
      advances = rw (eqb_same (span n l - 1 + 1) (span n l) (omega arith)) (ap (λ (i : ℕ). extent i 0) up);
      one_less = omega arith;
    }

-- Level 0 and next 0 are the file as it was formatted.
span-zero : (n : ℕ) → span n 0 ≡ n
unfolding span
span-zero n = omega arith

module _ (n level next : ℕ) (some : 0 < n) (next_fits : next < span n level) (goes_on : merge_barred (chain_count n level next) n ≡ false) where
  many : span n level + next ≢ n
  unfolding merge_barred chain_count
  many = eqb-false (span n level + next) n goes_on

  pub merge_retreats : Retreat n (extent level next) (extent (merge_level level next) (merge_target n level next))
  unfolding merge_level merge_target
  merge_retreats = go level next next_fits many
    where
      go : (l x : ℕ) → x < span n l → span n l + x ≢ n → Retreat n (extent l x) (extent (cond (eqb x 0) (l - 1) l) (cond (eqb x 0) (span n (l - 1) - 1) (x - 1)))
      go zero zero h f = absurd (f (omega (arith, span-zero n)))
      go (suc l) zero h f = let down : suc l - 1 ≡ l = omega arith in rw down (level_retreats n l some)
      go l (suc x) h f = let down : suc x - 1 ≡ x = omega arith in rw (eqb-diff (suc x) 0 (omega arith), down) (next_retreats n l x h)

  pub merge_partner_ok : merge_partner n level next ≡ size n (extent (merge_level level next) (merge_target n level next))
  unfolding merge_partner size
  merge_partner_ok = omega (arith, merge_retreats.one_less)

  -- The target lies before the partner.
  pub target_before : merge_target n level next < merge_partner n level next
  unfolding size chain_count
  target_before = omega (arith, merge_partner_ok, merge_retreats.next_fits)
