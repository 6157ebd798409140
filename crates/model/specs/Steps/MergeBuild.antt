-- Two chains joined: step 26 (document 01, "The thirty steps"; document 02, change 4), inside a delete.
-- Main definitions: Pair and pair_of (the two chains), merge_goes; step26.
use Rattle.std.specs.Prelude.{Bool, cond, not, List, [], ℕ}
use Rattle.model.specs.declared.Restructuring.{Restructuring}
use Rattle.model.specs.declared.Root.{Root}
use Rattle.model.specs.Records.{at_step, with_old}
use Rattle.model.specs.declared.Entry.{Entry}
use Rattle.model.specs.Entries.{joined, shares_key}
use Rattle.model.specs.Chains.{Checked, and_then, Chain, chain_of, sound_if}
use Rattle.model.specs.Filling.{fits_primary, primary_of}
use Rattle.model.specs.Outcome.{View, with_party, Outcome, moved, guarded, checked}
use Rattle.model.specs.LockRequests.{root_exclusive}
use Rattle.model.specs.ScratchPages.{with_scratch}
use Rattle.model.specs.Endings.{ended_with}
use Rattle.model.specs.Steps.MergeLocks.{merge_stops, merge_locks}

-- The two chains of a merge.
pub record Pair : Type 0 where
  pub target : Chain
  pub partner : Chain

-- Both chains looked through whole; "a key in both halves of a merge" is damage, whether or not the joined records fit.
unfoldable pub pair_of : Root → List ℕ → ℕ → ℕ → Checked Pair
pair_of r ps c o =
    and_then (chain_of r ps c) (λ t. and_then (chain_of r ps o) (λ u. sound_if (not (shares_key t.entries u.entries)) (record { target = t; partner = u })))

-- The records of the joined chain.
unfoldable pub joined_entries : Pair → List Entry
joined_entries m = joined m.target.entries m.partner.entries

-- "A merge now goes ahead only if the joined records fit the primary page". "Want of pages no longer stops a merge."
unfoldable pub merge_goes : Root → Pair → Bool
merge_goes r m = fits_primary r.capacity (joined_entries m)

-- "primary page in scratch at the target's local level, and set the old link to the target's": a chain of one page, so that no page is taken.
unfoldable pub combined : View → Pair → Outcome
combined v m =
    moved (with_party (at_step 27 (with_old m.target.link v.party)) (with_scratch (primary_of v.root.capacity m.target.level (joined_entries m) []) v))

-- "else step 26 gives up all locks and answers merge skipped".
unfoldable pub combine_with : View → Pair → Outcome
combine_with v m = cond (merge_goes v.root m) (combined v m) (ended_with v (merge_locks root_exclusive v.party) Restructuring.MergeSkipped)

-- 26: join the records of both chains. "n = N at 26" is damage.
unfoldable pub step26 : View → Outcome
step26 v =
    let join = checked v (pair_of v.root v.pages v.party.chain v.party.other) (λ m. combine_with v m) in
    guarded v (not (merge_stops v.root)) join
