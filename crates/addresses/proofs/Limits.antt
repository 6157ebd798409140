-- How large the numbers of this crate can get, where an address's level is raised, and where a level can be lowered.
-- Main statements: span_fits (N × 2^i), below_next_raises and else_not_raised (the level of an address), unbarred_has_level (a merge that finds next 0);
-- ready_root_fits (for every view that is Ready).
use mathlib.Core.Path.{◌≡◌, refl}
use mathlib.Core.Bool.{false}
use Prim.Native.Nat.{ℕ, zero, suc, ◌+◌, ◌*◌, ◌^◌, ◌≤◌, ◌<◌}
use native.Mathlib.Omega.{arith}
use lib.Pow.{shl_lt, pow_mono}
use lib.Dec.{ltb}
use borrow.Author.Tests.{lt-ltb, le-ltb, eqb-false}
use Rattle.model.specs.Addresses.{span, hash_of, level_for, chain_count, merge_barred}
use Rattle.model.specs.Outcome.{View}
use Rattle.model.specs.Ready.{Ready}
use Rattle.model.proofs.Laws.Lists.{cond_ind}
use Rattle.addresses.specs.Fits.{RootFits}

pub span_fits : (n i : ℕ) → n ≤ 256 → i ≤ 10 → span n i < 2 ^ 19
unfolding span
span_fits n i h k =
    let below : n * 2 ^ i < 2 ^ (9 + i) = shl_lt 9 i (omega arith) in
    let most : 2 ^ (9 + i) ≤ 2 ^ 19 = pow_mono {i = 9 + i} {j = 19} (omega arith) in
    omega arith

module _ (n level next m : ℕ) {low : ℕ} where
  pub below_next_raises : low ≡ hash_of n level m → low < next → level + 1 ≡ level_for n level next m
  unfolding level_for
  below_next_raises e h = rw (← e, lt-ltb low next h) refl

  pub else_not_raised : low ≡ hash_of n level m → next ≤ low → level ≡ level_for n level next m
  unfolding level_for
  else_not_raised e h = rw (← e, le-ltb low next h) refl

pub level_raised_once : (n level next m : ℕ) → level_for n level next m ≤ level + 1
unfolding level_for
level_raised_once n level next m = cond_ind (λ i. i ≤ level + 1) (ltb (hash_of n level m) next) (level + 1) level (λ _. omega arith) (λ _. omega arith)

-- With level 0 and next 0 there are N chains, and a merge is barred.
pub unbarred_has_level : (n level next : ℕ) → merge_barred (chain_count n level next) n ≡ false → next ≡ 0 → 1 ≤ level
unfolding merge_barred chain_count span
unbarred_has_level n zero next e z = absurd (eqb-false (n * 2 ^ 0 + next) n e (omega arith))
unbarred_has_level n (suc level) next e z = omega arith

pub ready_root_fits : (v : View) → Ready v → RootFits v.root
ready_root_fits v ready = record {
  some_original = ready.some_original;
  originals_fit = omega arith;
  level_fits = ready.level_fits;
  next_fits = ready.next_fits;
}
