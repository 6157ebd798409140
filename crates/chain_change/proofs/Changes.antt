-- Step 10 by its cases, over what the code says became of the chain.
-- Main statements: key_inserted, key_present, key_deleted, key_absent, nothing_changed (change_of); split_owed_ok,
-- no_split_owed, merge_owed_lem, no_merge_owed (owed_by);
-- chain_refused, change_kept, no_page_answered, free_list_damaged, change_written (step10); at_hand_can_change.
use mathlib.Core.Path.{◌≡◌, refl, ◌∙◌}
use mathlib.Core.Bool.{Bool, true, false, not, beq}
use mathlib.Core.List.{List, [], ◌∷◌}
use Prim.Native.Nat.{ℕ, ◌≤◌, ◌<◌}
use native.Mathlib.Omega.{arith}
use lib.ListN.{length}
use lib.Dec.{eqb}
use borrow.Author.Tests.{eq-eqb, ne_eqb, lt-ltb, le-ltb}
use Rattle.model.specs.Answers.{answer_number}
use Rattle.std.specs.Prelude.{Result, Ok, Err, IsErr}
use Rattle.model.specs.declared.Damaged.{Damaged}
use Rattle.model.specs.declared.Entry.{Entry}
use Rattle.model.specs.Entries.{entry_of, has_key, inserted_into, removed_from, is_empty}
use Rattle.model.specs.Pages.{page_of, with_page, link_of, primary_page, scratch_page}
use Rattle.model.specs.Chains.{damaged, sound, Chain, chain_of}
use Rattle.model.specs.Filling.{pages_for, primary_of, overflow_written}
use Rattle.model.specs.FreeList.{too_few, Taken, pages_taken, root_after_taking}
use Rattle.model.specs.Outcome.{View}
use Rattle.model.specs.Steps.Rebuild.{kept, changed, change_of, split_owed, merge_owed, owed_by, changes_nothing, changing, rebuilt, rebuild_with, step10}
use Rattle.model.proofs.Laws.Lists.{Cmp, same, diff, cmp, eqb_same, eqb-diff}
use Rattle.records.specs.declared.Working.{Working}
use Rattle.records.specs.Work.{seen, AtHand}
use Rattle.endings.proofs.Scratching.{ready_has_scratch}
use Rattle.chain_change.specs.declared.Changed.{Changed}
use Rattle.chain_change.specs.Changing.{kept_answer, changed_answer, after_change, CanChange}

-- ---- What an operation makes of a chain's records

module _ (operation k x : ℕ) (es : List Entry) where
  pub key_inserted : operation ≡ 2 → has_key k es ≡ false → changed (changed_answer operation) (inserted_into (entry_of k x) es) ≡ change_of operation k x es
  unfolding change_of answer_number changed_answer
  key_inserted e h = rw (eq-eqb operation 2 e, h) refl

  pub key_present : operation ≡ 2 → has_key k es ≡ true → kept (kept_answer operation) ≡ change_of operation k x es
  unfolding change_of answer_number kept_answer
  key_present e h = rw (eq-eqb operation 2 e, h) refl

  pub key_deleted : (operation ≡ 2 → ⊥) → has_key k es ≡ true → changed (changed_answer operation) (removed_from k es) ≡ change_of operation k x es
  unfolding change_of answer_number changed_answer
  key_deleted e h = rw (ne_eqb operation 2 e, h) refl

  pub key_absent : (operation ≡ 2 → ⊥) → has_key k es ≡ false → kept (kept_answer operation) ≡ change_of operation k x es
  unfolding change_of answer_number kept_answer
  key_absent e h = rw (ne_eqb operation 2 e, h) refl

-- Two tests that agree, and two that do not.
pub agree : (s t : Bool) → beq s t ≡ true → s ≡ t
agree true true h = refl
agree true false h = cc
agree false true h = cc
agree false false h = refl

pub differ : (s t : Bool) → beq s t ≡ false → s ≡ not t
differ true true h = cc
differ true false h = refl
differ false true h = refl
differ false false h = cc

-- An insert keeps a chain that has its key, every other one a chain that has not.
pub nothing_changed : (operation k x : ℕ) (es : List Entry) {found : Bool} → has_key k es ≡ found → found ≡ eqb operation 2 → kept (kept_answer operation) ≡ change_of operation k x es
nothing_changed operation k x es has e = go (cmp operation 2)
  where
    go : Cmp operation 2 → kept (kept_answer operation) ≡ change_of operation k x es
    go (same s) = key_present operation k x es s (has ∙ e ∙ eqb_same operation 2 s)
    go (diff n) = key_absent operation k x es n (has ∙ e ∙ eqb-diff operation 2 n)

-- ---- Restructure owed

module _ (operation before after : ℕ) (es : List Entry) where
  pub split_owed_ok : operation ≡ 2 → before < after → 1 ≡ owed_by operation before after es
  unfolding owed_by split_owed
  split_owed_ok e h = rw (eq-eqb operation 2 e, lt-ltb before after h) refl

  pub no_split_owed : operation ≡ 2 → after ≤ before → 0 ≡ owed_by operation before after es
  unfolding owed_by split_owed
  no_split_owed e h = rw (eq-eqb operation 2 e, le-ltb before after h) refl

pub merge_owed_lem : (operation before after : ℕ) (es : List Entry) → (operation ≡ 2 → ⊥) → length es ≡ 0 → 2 ≡ owed_by operation before after es
unfolding owed_by merge_owed is_empty
merge_owed_lem operation before after [] n e = rw (ne_eqb operation 2 n) refl
merge_owed_lem operation before after (x ∷ es) n e = absurd (omega arith)

pub no_merge_owed : (operation before after : ℕ) (es : List Entry) → (operation ≡ 2 → ⊥) → (length es ≡ 0 → ⊥) → 0 ≡ owed_by operation before after es
unfolding owed_by merge_owed is_empty
no_merge_owed operation before after [] n e = absurd (e refl)
no_merge_owed operation before after (x ∷ es) n e = rw (ne_eqb operation 2 n) refl

-- ---- Step 10

module _ (v : View) where
  pub chain_refused : (a : Result Changed Damaged) → IsErr a → chain_of v.root v.pages v.party.chain ≡ damaged → after_change v v.pages a ≡ step10 v
  unfolding step10 after_change
  chain_refused (Ok b) h e = cc
  chain_refused (Err d) h e = rw e refl

  module _ (c : Chain) (found : chain_of v.root v.pages v.party.chain ≡ sound c) where
    pub change_kept : (a : ℕ) → kept a ≡ change_of v.party.operation v.party.key v.party.setting c.entries → after_change v v.pages (Ok (Changed.Kept a)) ≡ step10 v
    unfolding step10 rebuild_with changes_nothing after_change
    change_kept a e = rw (found, ← e) refl

    -- The change asked for makes the records es, which need k pages.
    module _ (a : ℕ) (es : List Entry) (made : changed a es ≡ change_of v.party.operation v.party.key v.party.setting c.entries) (k : ℕ) (many : k ≡ pages_for v.root.capacity es) where
      pub no_page_answered : v.root.free < k → after_change v v.pages (Ok (Changed.Kept 5)) ≡ step10 v
      unfolding step10 rebuild_with changes_nothing too_few answer_number after_change
      no_page_answered h = rw (found, ← made, ← many, lt-ltb v.root.free k h) refl

      module _ (enough : k ≤ v.root.free) where
        pub free_list_damaged : (b : Result Changed Damaged) → IsErr b → pages_taken v.root v.pages k ≡ damaged → after_change v v.pages b ≡ step10 v
        unfolding step10 rebuild_with too_few after_change
        free_list_damaged (Ok b) h e = cc
        free_list_damaged (Err d) h e = rw (found, ← made, ← many, le-ltb v.root.free k enough, e) refl

        -- The pages of t were taken, and the chain is written: the code left ps.
        pub change_written : (t : Taken) (owed : ℕ) (ps : List ℕ) → pages_taken v.root v.pages k ≡ sound t
            → c.link ≡ link_of (page_of v.pages (primary_page v.party.chain))
            → owed ≡ owed_by v.party.operation (length c.pages) k es
            → ps ≡ with_page (overflow_written v.root.capacity v.pages t.pages es) (scratch_page v.root v.number) (primary_of v.root.capacity c.level es t.pages)
            → after_change v ps (Ok (Changed.Written (record { answer = a; owed = owed; taken = k; head = t.head }))) ≡ step10 v
        unfolding step10 rebuild_with rebuilt changing root_after_taking too_few after_change
        change_written t owed ps e link owes eq = rw (found, ← made, ← many, le-ltb v.root.free k enough, e, link, owes, eq) refl

-- What every change may take for granted holds once the refusal table's tests have passed.
pub at_hand_can_change : (w : Working) (ls ps : List ℕ) → AtHand w ls ps → CanChange w ps
at_hand_can_change w ls ps ready = record {
  chains_fit_ok = ready.chains_fit_ok;
  overflow_fits = ready.overflow_fits;
  some_key = ready.some_key;
  keys_fit = ready.keys_fit;
  free_fits = ready.free_fits;
  chain_fits = ready.chain_fits;
  pages_fit = omega arith;
  scratch = ready_has_scratch (seen w ls ps) ready;
}
