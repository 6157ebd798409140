-- Step 17 by its cases, over what the code says became of the chain.
-- Main statements: barred_refused, chain_refused; too_few_skipped, free_list_damaged, halves_written_ok (on a chain
-- looked through, by the pages that both halves need); at_hand_can_split.
use mathlib.Core.Path.{◌≡◌, refl}
use mathlib.Core.Bool.{true, false}
use mathlib.Core.List.{List}
use Prim.Native.Nat.{ℕ, ◌+◌, ◌-◌, ◌≤◌, ◌<◌}
use native.Mathlib.Omega.{arith}
use borrow.Author.Tests.{lt-ltb, le-ltb}
use Rattle.std.specs.Prelude.{Result, Ok, Err, IsErr, Option, Some, None}
use Rattle.model.specs.declared.Damaged.{Damaged}
use Rattle.model.specs.declared.Refusal.{Refusal}
use Rattle.model.specs.Addresses.{split_barred, count_of_chains}
use Rattle.model.specs.Pages.{page_of, link_of, primary_page, scratch_page}
use Rattle.model.specs.Chains.{damaged, sound, Chain, chain_of}
use Rattle.model.specs.Filling.{pages_for}
use Rattle.model.specs.FreeList.{Taken, too_few, pages_taken, root_after_taking}
use Rattle.model.specs.Outcome.{View, refuse}
use Rattle.model.specs.Steps.SplitBuild.{halves_of, halves_need, halves_written, divided, divide_with, step17}
use Rattle.records.specs.declared.Working.{Working}
use Rattle.records.specs.Work.{AtHand}
use Rattle.chain_change.proofs.Changes.{at_hand_can_change}
use Rattle.split_few.specs.declared.Halved.{Halved}
use Rattle.split_few.specs.Splitting.{halved, both_written, after_dividing, CanSplit}

pub barred_refused : (v : View) → split_barred (count_of_chains v.root) v.root.primaries ≡ true → refuse Refusal.Damage v ≡ step17 v
unfolding step17
barred_refused v e = rw e refl

module _ (v : View) (open_to : split_barred (count_of_chains v.root) v.root.primaries ≡ false) where
  pub chain_refused : (a : Result (Option Halved) Damaged) → IsErr a → chain_of v.root v.pages v.party.chain ≡ damaged → after_dividing v v.pages a ≡ step17 v
  unfolding step17 after_dividing
  chain_refused (Ok b) h e = cc
  chain_refused (Err d) h e = rw (open_to, e) refl

  module _ (c : Chain) (found : chain_of v.root v.pages v.party.chain ≡ sound c) where
    chain_divided : divide_with v c (halves_of v c) ≡ step17 v
    unfolding step17
    chain_divided = rw (open_to, found) refl

    -- Both halves need k pages, and the staying half the first of them.
    module _ (k : ℕ) (all_are : k ≡ halves_need v.root.capacity (halved v.root v.party.chain c.entries)) where
      pub too_few_skipped : v.root.free < k → after_dividing v v.pages (Ok None) ≡ step17 v
      unfolding divide_with too_few halves_of after_dividing
      too_few_skipped f = rw (← chain_divided, ← all_are, lt-ltb v.root.free k f) refl

      module _ (enough : k ≤ v.root.free) where
        pub free_list_damaged : (a : Result (Option Halved) Damaged) → IsErr a → pages_taken v.root v.pages k ≡ damaged → after_dividing v v.pages a ≡ step17 v
        unfolding divide_with too_few halves_of after_dividing
        free_list_damaged (Ok b) h e = cc
        free_list_damaged (Err d) h e = rw (← chain_divided, ← all_are, le-ltb v.root.free k enough, e) refl

        -- The pages of t were taken, and both halves are written: the code left ps.
        pub halves_written_ok : (t : Taken) (first : ℕ) (ps : List ℕ) → first ≡ pages_for v.root.capacity (halved v.root v.party.chain c.entries).stay
            → pages_taken v.root v.pages k ≡ sound t → c.link ≡ link_of (page_of v.pages (primary_page v.party.chain))
            → ps
            ≡ both_written v.root.capacity (v.root.level + 1) v.party.other (scratch_page v.root v.number) (halved v.root v.party.chain c.entries) first t.pages v.pages
            → after_dividing v ps (Ok (Some (record { head = t.head; free = v.root.free - k }))) ≡ step17 v
        unfolding divide_with too_few halves_of divided root_after_taking halves_written both_written after_dividing
        halves_written_ok t first ps first-is e link written =
            rw (← chain_divided, ← all_are, le-ltb v.root.free k enough, e, link, written, first-is) refl

-- What every division may take for granted holds once the refusal table's tests have passed, where a chain is left to
-- split into.
pub at_hand_can_split : (w : Working) (ls ps : List ℕ) → AtHand w ls ps → split_barred (count_of_chains w.root) w.root.primaries ≡ false → CanSplit w ps
at_hand_can_split w ls ps ready open_to = record {
  can_change = at_hand_can_change w ls ps ready;
  some_original = ready.some_original;
  originals_fit = omega (arith, ready.originals_fit, ready.chains_fit_ok);
  level_fits = ready.level_fits;
  other_fits = ready.other_fits;
  not-barred = open_to;
}
