-- A chain of few pages: it can be gathered, how many records it has, and how many pages its halves need.
-- Main statements: can_gather; front_few (eight pages' records at most); halves_few (halves of so many records need
-- eight overflow pages at most).
use mathlib.Core.List.{List}
use Prim.Native.Nat.{ℕ, ◌+◌, ◌*◌, ◌≤◌, ◌<◌}
use native.Mathlib.Nat.{lt_of_mul-lt-mul_right}
use native.Mathlib.Omega.{arith}
use lib.ListN.{length}
use Rattle.model.specs.Chains.{chain_of}
use Rattle.model.specs.Filling.{overflow_needed}
use Rattle.model.proofs.Laws.Filling.{needed_exact}
use Rattle.records.specs.declared.Working.{Working}
use Rattle.chain_keys.specs.declared.Front.{Front}
use Rattle.chain_keys.specs.Gathering.{CanGather}
use Rattle.chain_keys.proofs.WholeChain.{Whole}
use Rattle.chain_change.proofs.ReadChains.{few_records}
use Rattle.split_few.specs.Splitting.{CanDivideFew}

-- A buffer of 108 words has room for its records.
pub can_gather : {w : Working} {n room : ℕ} {ps : List ℕ} → CanDivideFew w n ps → 108 ≤ room → CanGather w.root ps w.party.chain n room
can_gather can long =
    let fits = can.can_split.can_change in
    record {
      can_walk = record { chain_fits = fits.chain_fits; pages_fit = fits.pages_fit };
      keys_fit = fits.keys_fit;
      walked = can.walked;
      has_room = omega (arith, can.few, long);
    }

pub front_few : {w : Working} {n : ℕ} {ps words : List ℕ} {g : Front} → CanDivideFew w n ps → Whole (chain_of w.root ps w.party.chain) n g words → g.count ≤ 8 * w.root.capacity
front_few {w} {ps = ps} can whole =
    let fewer : length whole.chain.pages ≤ 7 = omega (arith, can.few, whole.pages) in
    omega (arith, few_records w.root ps w.party.chain whole.chain whole.is_sound_ok fewer, whole.count)

pub halves_few : (b m n : ℕ) → 1 ≤ b → m + n ≤ 8 * b → overflow_needed b m + overflow_needed b n ≤ 8
halves_few b m n some few =
    let less : (overflow_needed b m + overflow_needed b n) * b < 9 * b = omega (arith, (needed_exact b m (omega arith)).none_empty, (needed_exact b n (omega arith)).none_empty) in
    let fewer : overflow_needed b m + overflow_needed b n < 9 = lt_of_mul-lt-mul_right b less in
    omega arith
