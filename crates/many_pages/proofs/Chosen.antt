-- The records chosen of a chain that was looked through whole.
-- Main statements: chosen_few (how many records there are at most), chain_level, can_start and records_chosen (the
-- records can be read from the primary page on); one_fewer (how many records there are without one); made_with,
-- made_without (they are what the operation makes of the chain).
use mathlib.Core.Path.{◌≡◌, refl, ap, ◌∙◌}
use mathlib.Core.Bool.{true, false}
use mathlib.Core.List.{List, ◌++◌}
use Prim.Native.Nat.{ℕ, ◌+◌, ◌-◌, ◌*◌, ◌≤◌}
use native.Mathlib.Nat.{mul-le-mul}
use native.Mathlib.Omega.{arith}
use lib.ListN.{length, take, drop, length-append, length-drop}
use lib.Seq.{length-take-le}
use Rattle.model.specs.declared.Root.{Root}
use Rattle.model.specs.Sizes.{most_records}
use Rattle.model.specs.declared.Entry.{Entry}
use Rattle.model.specs.Entries.{entry_of, has_key}
use Rattle.model.specs.Pages.{page_of, level_of, link_of, entries_of}
use Rattle.model.specs.Chains.{sound, Chain, read_chain, chain_of}
use Rattle.model.specs.Steps.Rebuild.{changed, change_of}
use Rattle.records.specs.declared.Working.{Working}
use Rattle.entries.specs.Places.{place_of}
use Rattle.entries.proofs.Places.{place_inside, removed_at}
use Rattle.chain_keys.specs.Gathering.{entries_from}
use Rattle.model.proofs.Laws.Walks.{chain_reads}
use Rattle.chain_keys.proofs.WholeChain.{sound_ascends}
use Rattle.key_source.specs.declared.Place.{Place}
use Rattle.key_source.specs.declared.Choice.{Choice}
use Rattle.key_source.specs.declared.Choice.TheVariants.{With, Without}
use Rattle.key_source.specs.Sources.{records_at, CanStart, chosen, chosen_of}
use Rattle.key_source.proofs.Places.{chain_starts, chain_records}
use Rattle.key_source.proofs.Choices.{most_chosen}
use Rattle.chain_change.specs.Changing.{changed_answer, CanChange}
use Rattle.chain_change.proofs.Changes.{key_inserted, key_deleted}
use Rattle.chain_change.proofs.ReadChains.{chain_bounded}

-- ---- A chain that was looked through whole

module _ (w : Working) (ps : List ℕ) (can : CanChange w ps) (d : Chain) (found : chain_of w.root ps w.party.chain ≡ sound d) where
  abbrev r : Root
  r = w.root

  abbrev c : ℕ
  c = w.party.chain

  starts : CanStart ps c (length d.pages)
  starts = chain_starts r ps c can.keys_fit can.overflow_fits record { chain_fits = can.chain_fits; pages_fit = can.pages_fit } d found

  pub chosen_few : (choice : Choice) → length (chosen choice d.entries) ≤ 4519
  chosen_few choice =
      let few : length d.pages + 1 ≤ 753 = omega (arith, starts.few_pages_lem) in
      let most : (length d.pages + 1) * r.capacity ≤ 753 * most_records = mul-le-mul few can.keys_fit in
      omega (arith, most_chosen choice d.entries, chain_bounded r ps c d found, most)

  pub chain_level : level_of (page_of ps c) ≡ d.level
  unfolding read_chain
  chain_level = let h = chain_reads r ps c d found in rw (← h.chain_is) refl

  -- The overflow pages that were walked, n of them, can be followed.
  module _ (n : ℕ) (many : n ≡ length d.pages) where
    pub can_start : CanStart ps c n
    can_start = rw many starts

    records_are : entries_of (page_of ps c) ++ entries_from ps n (link_of (page_of ps c)) ≡ d.entries
    records_are = rw many (chain_records r ps c can.keys_fit can.overflow_fits record { chain_fits = can.chain_fits; pages_fit = can.pages_fit } d found)

    -- The records of a source that starts at the primary page.
    pub records_chosen : (choice : Choice) (p : Place) → records_at ps p ≡ entries_of (page_of ps c) ++ entries_from ps n (link_of (page_of ps c))
        → chosen_of ps (record { choice = choice; place = p }) ≡ chosen choice d.entries
    unfolding chosen_of
    records_chosen choice p e = ap (chosen choice) (e ∙ records_are)

  -- One record fewer, where the key is there.
  pub one_fewer : (k : ℕ) → has_key k d.entries ≡ true → length (chosen (Without k) d.entries) ≡ length d.entries - 1
  unfolding chosen
  one_fewer k has =
      let es = d.entries in
      let i = place_of k es in
      let inside = place_inside k es has in
      let front = length-take-le i es (omega arith) in
      let parts = length-append (take i es) (drop (i + 1) es) in
      let rest = length-drop (i + 1) es in
      ap length (removed_at k es (sound_ascends r ps c d found) has) ∙ omega (arith, parts, front, rest, inside)

-- ---- What the operation makes of a chain

module _ (operation k x : ℕ) (es : List Entry) where
  pub made_with : operation ≡ 2 → has_key k es ≡ false → changed (changed_answer operation) (chosen (With (entry_of k x)) es) ≡ change_of operation k x es
  unfolding chosen
  made_with e h = key_inserted operation k x es e h

  pub made_without : (operation ≡ 2 → ⊥) → has_key k es ≡ true → changed (changed_answer operation) (chosen (Without k) es) ≡ change_of operation k x es
  unfolding chosen
  made_without e h = key_deleted operation k x es e h
