-- Step 26 by its cases.
-- Main statements: barred_refused, target_refused, partner_refused; on two chains looked through, shared_refused,
-- skipped_ends and joined_moves.
use mathlib.Core.Path.{◌≡◌, refl, sym}
use mathlib.Core.Bool.{true, false}
use mathlib.Core.List.{List, []}
use Prim.Native.Nat.{ℕ, ◌≤◌, ◌<◌}
use lib.ListN.{length}
use borrow.Author.Tests.{le-leb, lt-leb}
use Rattle.model.specs.declared.Party.{Party}
use Rattle.model.specs.declared.Refusal.{Refusal}
use Rattle.model.specs.declared.Restructuring.TheVariants.{MergeSkipped}
use Rattle.model.specs.Records.{at_step, with_old}
use Rattle.model.specs.Entries.{joined, shares_key}
use Rattle.model.specs.Pages.{with_page, scratch_page}
use Rattle.model.specs.Chains.{Checked, damaged, sound, and_then, Chain, chain_of}
use Rattle.model.specs.Filling.{fits_primary, primary_of}
use Rattle.model.specs.Outcome.{View, refuse, moved, checked}
use Rattle.model.specs.Ready.{viewing}
use Rattle.records.specs.declared.Working.{Working}
use Rattle.records.specs.Work.{seen}
use Rattle.model.specs.LockRequests.{root_exclusive}
use Rattle.model.specs.Endings.{ended_with}
use Rattle.model.specs.Steps.MergeLocks.{merge_stops, merge_locks}
use Rattle.model.specs.Steps.MergeBuild.{Pair, pair_of, joined_entries, merge_goes, combined, combine_with, step26}
use Rattle.model.proofs.Theorems.Merges.{shared_damage}

module _ (w : Working) (ls ps : List ℕ) where
  abbrev v : View
  v = seen w ls ps

  pub barred_refused : merge_stops w.root ≡ true → refuse Refusal.Damage v ≡ step26 v
  unfolding step26
  barred_refused e = rw e refl

  module _ (goes : merge_stops w.root ≡ false) where
    pub target_refused : chain_of w.root ps w.party.chain ≡ damaged → refuse Refusal.Damage v ≡ step26 v
    unfolding step26 pair_of
    target_refused e = rw (goes, e) refl

    pub partner_refused : chain_of w.root ps w.party.other ≡ damaged → refuse Refusal.Damage v ≡ step26 v
    unfolding step26 pair_of
    partner_refused e = rw (goes, e) (go (chain_of w.root ps w.party.chain))
      where
        none : Checked Pair
        none = damaged

        go : (x : Checked Chain) → refuse Refusal.Damage v ≡ checked v (and_then x (λ t. none)) (λ m. combine_with v m)
        go damaged = refl
        go (sound t) = refl

    module _ (t u : Chain) (target : chain_of w.root ps w.party.chain ≡ sound t) (partner : chain_of w.root ps w.party.other ≡ sound u) where
      abbrev both : Pair
      both = record { target = t; partner = u }

      pub shared_refused : shares_key t.entries u.entries ≡ true → refuse Refusal.Damage v ≡ step26 v
      shared_refused e = sym (shared_damage v t u goes target partner e)

      module _ (apart : shares_key t.entries u.entries ≡ false) where
        both-combined : combine_with v both ≡ step26 v
        unfolding step26 pair_of
        both-combined = rw (goes, target, partner, apart) refl

        pub skipped_ends : w.root.capacity < length (joined t.entries u.entries) → ended_with v (merge_locks root_exclusive w.party) MergeSkipped ≡ step26 v
        unfolding combine_with merge_goes joined_entries fits_primary
        skipped_ends h = rw (← both-combined, lt-leb (length (joined t.entries u.entries)) w.root.capacity h) refl

        pub joined_moves : length (joined t.entries u.entries) ≤ w.root.capacity → {p' : Party} {ps' : List ℕ} → p' ≡ at_step 27 (with_old t.link w.party)
            → ps' ≡ with_page ps (scratch_page w.root w.number) (primary_of w.root.capacity t.level (joined t.entries u.entries) []) → moved (viewing w.root p' w.number ls ps') ≡ step26 v
        unfolding combine_with merge_goes joined_entries fits_primary combined
        joined_moves h ep es = rw (← both-combined, le-leb (length (joined t.entries u.entries)) w.root.capacity h, ep, es) refl
