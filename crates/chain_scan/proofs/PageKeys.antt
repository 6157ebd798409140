-- The records of a page passed one by one. The key of record i is word 3 + i * 2, its setting the word after it.
-- Main statements: key_met, key_passed, key_nowhere (one turn in search of a key, from the end of the page on, and its
-- start), search_told (what the search says); key_falls, key_rises, all_risen (one turn over ascent_from).
use mathlib.Core.Path.{◌≡◌, refl, sym, ap, ◌∙◌}
use mathlib.Core.Bool.{Bool, true, false, ◌&&◌, and-true}
use mathlib.Core.List.{List, [], ◌∷◌}
use Prim.Native.Nat.{ℕ, suc, ◌+◌, ◌*◌, ◌≤◌, ◌<◌}
use native.Mathlib.Numerals.{add-one}
use native.Mathlib.Omega.{arith}
use lib.ListN.{length, get_or, drop, length-drop, drop_of_length-le}
use lib.Seq.{drop-cons, get_or-take, get_or-drop}
use lib.Dec.{eqb, ltb}
use borrow.Author.Tests.{le-leb, lt-leb}
use Rattle.std.specs.Prelude.{Option, None, Some, MatchOption, is_some, Ok, Err}
use Rattle.model.specs.declared.Entry.{Entry}
use Rattle.model.specs.Sizes.{page_words, most_records, record_words}
use Rattle.model.specs.Entries.{entry_of, has_key, setting_in}
use Rattle.model.specs.Pages.{count_of, records_in, entries_of}
use Rattle.model.specs.Filling.{record_at}
use Rattle.model.proofs.Laws.Lists.{Ord, lt, ge, ord, and_both, ltb-true}
use Rattle.model.proofs.Laws.RecordWords.{length_records, record_at_lem}
use Rattle.model.proofs.Laws.Pages.{length-entries_of}
use Rattle.chain_scan.specs.Scans.{StandsAt, ascent_from}

-- What the search for key k over the records of page w from record i on says.
abbrev pub Searched : List ℕ → ℕ → Option ℕ → ℕ → Type 0
Searched w k o i = MatchOption o (has_key k (drop i (entries_of w)) ≡ false) (λ place. StandsAt w (drop i (entries_of w)) k place)

module _ (w : List ℕ) (i : ℕ) (sixteen : length w ≡ page_words) (fits : count_of w ≤ most_records) where
  -- Record i: its key, then its setting.
  here : ℕ → Entry
  here j = entry_of (get_or w (3 + j * record_words) 0) (get_or w (3 + j * record_words + 1) 0)

  record_on : i < count_of w → record_at (entries_of w) i ≡ here i
  unfolding entries_of here
  record_on h =
      let rs = drop 3 w in
      let next : 3 + (i * record_words + 1) ≡ 3 + i * record_words + 1 = omega arith in
      let inside : i < length (records_in rs) = rw (length_records, length-drop) (omega arith) in
      get_or-take (count_of w) (records_in rs) i (entry_of 0 0) h ∙ record_at_lem rs i inside
      ∙ rw (get_or-drop 3 w (i * record_words) 0, get_or-drop 3 w (i * record_words + 1) 0, next) refl

  -- From record i on: record i, and those from i + 1 on.
  next_on : i < count_of w → drop i (entries_of w) ≡ here i ∷ drop (i + 1) (entries_of w)
  next_on h =
      rw add-one
      (drop-cons (entries_of w) i (entry_of 0 0) (omega (arith, length-entries_of w sixteen fits)) ∙ ap (λ (x : Entry). x ∷ drop (suc i) (entries_of w)) (record_on h))

  keys_end : count_of w ≤ i → drop i (entries_of w) ≡ []
  keys_end h = drop_of_length-le (entries_of w) {i = i} (omega (arith, length-entries_of w sixteen fits))

  -- ---- Where key k stands

  module _ (k : ℕ) where
    -- Whether record i is one that the page counts, and has the key.
    abbrev met : Bool
    met = eqb (get_or w (3 + i * record_words) 0) k && ltb i (count_of w)

    -- It is the first from i on that has the key.
    pub key_met : i < most_records → met ≡ true → StandsAt w (drop i (entries_of w)) k i
    unfolding has_key setting_in here
    key_met inside e =
        let both = and_both (eqb (get_or w (3 + i * record_words) 0) k) (ltb i (count_of w)) e in
        let next = next_on (ltb-true i (count_of w) both.1) in
        record { inside = inside; has_key_ok = rw (next, both.0) refl; setting = rw (next, both.0) refl }

    -- It has not the key: the search from i + 1 on says the same as that from i on.
    same_search : met ≡ false → (has_key k (drop i (entries_of w)) ≡ has_key k (drop (i + 1) (entries_of w)))
        × (setting_in k (drop i (entries_of w)) ≡ setting_in k (drop (i + 1) (entries_of w)))
    unfolding has_key setting_in here
    same_search e = go (ord i (count_of w))
      where
        go : Ord i (count_of w) → (has_key k (drop i (entries_of w)) ≡ has_key k (drop (i + 1) (entries_of w)))
            × (setting_in k (drop i (entries_of w)) ≡ setting_in k (drop (i + 1) (entries_of w)))
        go (lt h t) =
            let other : eqb (get_or w (3 + i * record_words) 0) k ≡ false = sym (and-true (eqb (get_or w (3 + i * record_words) 0) k)) ∙ rw t at e in
            (rw (next_on h, other) refl, rw (next_on h, other) refl)
        go (ge h t) =
            let none = drop_of_length-le (entries_of w) {i = i + 1} (omega (arith, length-entries_of w sixteen fits)) in
            (rw (keys_end h, none) refl, rw (keys_end h, none) refl)

    pub key_passed : (o : Option ℕ) → met ≡ false → Searched w k o (i + 1) → Searched w k o i
    key_passed None e rest = (same_search e).0 ∙ rest
    key_passed (Some place) e rest = let same = same_search e in record { inside = rest.inside; has_key_ok = same.0 ∙ rest.has_key_ok; setting = same.1 ∙ rest.setting }

    -- Past the last place there is none.
    pub key_nowhere : most_records ≤ i → has_key k (drop i (entries_of w)) ≡ false
    unfolding has_key
    key_nowhere past = rw (keys_end (omega (arith, fits))) refl

  -- ---- Whether the keys ascend from a floor on

  module _ (low : ℕ) where
    pub key_falls : i < count_of w → get_or w (3 + i * record_words) 0 < low → ascent_from low (drop i (entries_of w)) ≡ Err (record {})
    unfolding ascent_from here
    key_falls h k = rw (next_on h, lt-leb low (get_or w (3 + i * record_words) 0) k) refl

    pub key_rises : i < count_of w → low ≤ get_or w (3 + i * record_words) 0 → ascent_from low (drop i (entries_of w)) ≡ ascent_from (get_or w (3 + i * record_words) 0 + 1) (drop (i + 1) (entries_of w))
    unfolding ascent_from here
    key_rises h k = rw (next_on h, le-leb low (get_or w (3 + i * record_words) 0) k) refl

    pub all_risen : count_of w ≤ i → ascent_from low (drop i (entries_of w)) ≡ Ok low
    unfolding ascent_from
    all_risen h = rw (keys_end h) refl

-- Where a page was searched, whether a place was found says whether it has the key.
pub search_told : (w : List ℕ) (es : List Entry) (k : ℕ) (o : Option ℕ) → MatchOption o (has_key k es ≡ false) (λ i. StandsAt w es k i) → has_key k es ≡ is_some o
search_told w es k None h = h
search_told w es k (Some i) h = h.has_key_ok
