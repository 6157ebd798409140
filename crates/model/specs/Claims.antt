-- The locks that a party holds, by its step number (document 01, "The thirty steps": what the steps before have
-- requested and not given up).
-- Main definition: claims. A withdraw gives up these locks, and no others; proofs/Invariant: on a reachable memory they
-- are those held.
use Rattle.std.specs.Prelude.{List, map, get_or}
use Rattle.model.specs.declared.Root.{Root}
use Rattle.model.specs.declared.Party.{Party}
use Rattle.model.specs.LockWords.{Claim}
use Rattle.model.specs.Steps.Table.{StepRow, row_table}
pub use Rattle.model.specs.Steps.Table.{Claims, no_lock, on_root, on_root_and_chain, on_chain, on_other, on_both, on_chain_exclusive, splitting, merging_target, merging}

-- By step number, from 0.
abbrev pub claim_table : List Claims
claim_table = map (λ (x : StepRow). x.holds) row_table

-- The locks that the party holds, by its step number; the root record does not matter.
unfoldable pub claims : Root → Party → List Claim
claims r p = get_or claim_table p.step no_lock p
