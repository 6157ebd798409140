-- The locks of a merge: steps 23, 24, 25 and 30 (document 01, "The thirty steps"), inside a delete.
-- Main definitions: merge_stops, target_of, merge_locks; step23, step24, step25, step30.
use Rattle.std.specs.Prelude.{Bool, cond, List, [], ◌∷◌, ℕ}
use Rattle.model.specs.declared.Mode.TheVariants.{Exclusive}
use Rattle.model.specs.declared.Party.{Party}
use Rattle.model.specs.declared.Restructuring.{Restructuring}
use Rattle.model.specs.declared.Root.{Root}
use Rattle.model.specs.Records.{at_step, with_chain, with_other}
use Rattle.model.specs.LockWords.{Claim, claim, chain_word}
use Rattle.model.specs.Addresses.{count_of_chains, merge_partner, merge_target, merge_barred}
use Rattle.model.specs.Outcome.{View, Outcome}
use Rattle.model.specs.LockRequests.{root_selective, root_exclusive, chain_exclusive, other_exclusive, request}
use Rattle.model.specs.Endings.{ended_with}

-- The chain that a merge's partner is joined to, and its lock.
abbrev pub target_of : Root → ℕ
target_of r = merge_target r.originals r.level r.next

abbrev pub target_exclusive : Root → Claim
target_exclusive r = claim (chain_word (target_of r)) Exclusive

-- Whether a merge is barred: n = N.
abbrev pub merge_stops : Root → Bool
merge_stops r = merge_barred (count_of_chains r) r.originals

-- The locks that a merge holds until 27, and from there on.
abbrev pub merge_locks : Claim → Party → List Claim
merge_locks root p = root ∷ (chain_exclusive p ∷ (other_exclusive p ∷ []))

-- 23: request exclusive on root.
unfoldable pub step23 : View → Outcome
step23 v = request v root_exclusive (at_step 24 v.party)

-- The record once the target is granted: target and, as other chain, partner.
unfoldable pub merging : Root → Party → Party
merging r p = at_step 25 (with_chain (target_of r) (with_other (merge_partner r.originals r.level r.next) p))

-- 24: if n = N give up root, done, merge skipped; else request exclusive on the target.
unfoldable pub step24 : View → Outcome
step24 v =
    cond (merge_stops v.root)
    (ended_with v (root_exclusive ∷ []) Restructuring.MergeSkipped)
    (request v (target_exclusive v.root) (merging v.root v.party))

-- 25: on the partner.
unfoldable pub step25 : View → Outcome
step25 v = request v (other_exclusive v.party) (at_step 26 v.party)

-- 30: give up all, done.
unfoldable pub step30 : View → Outcome
step30 v = ended_with v (merge_locks root_selective v.party) Restructuring.Merged
