-- Places in a chain: the records from a place on, record by record and page by page.
-- Main statements: first_sits, first_records (a page's first record); next_start, page_over, none_left (a page without a record left); entry_at, first_entry, onward_sits (one record further);
-- length-records_at (how many records there are at most); chain_starts, chain_records (a chain that was looked through whole).
use mathlib.Core.Path.{◌≡◌, refl, sym, ap, ◌∙◌}
use mathlib.Core.List.{List, [], ◌∷◌, ◌++◌}
use Prim.Native.Nat.{ℕ, zero, suc, ◌+◌, ◌-◌, ◌*◌, ◌≤◌, ◌<◌}
use native.Mathlib.Numerals.{add-one}
use native.Mathlib.Omega.{arith}
use lib.ListN.{length, get_or, take, drop, length-append, length-take}
use lib.Seq.{drop-cons, drop-drop}
use Rattle.model.specs.declared.Root.{Root}
use Rattle.model.specs.declared.Entry.{Entry}
use Rattle.model.specs.Sizes.{page_words, most_records, record_words}
use Rattle.model.specs.Pages.{page_of, count_of, link_of, records_in, entries_of}
use Rattle.model.proofs.Laws.Lists.{all_map}
use Rattle.model.proofs.Laws.RecordWords.{records_take}
use Rattle.model.specs.Chains.{sound, Chain, list_from, entries_on, read_chain, chain_of}
use Rattle.model.proofs.Laws.Tests.{sound_page_links, sound_page_counts}
use Rattle.model.proofs.Laws.Walks.{walked_chained, Reads, chain_reads, length-entries_on}
use Rattle.chains.specs.Links.{linked_pages}
use Rattle.chains.proofs.Links.{length-linked_pages, leads_all, next_page}
use Rattle.chain_keys.specs.Gathering.{CanWalk, entries_from, Followed}
use Rattle.chain_keys.proofs.Following.{Walks, walked_walks, entries_next, entries_none}
use Rattle.key_source.specs.declared.Place.{Place}
pub use Rattle.key_source.specs.Sources.{entry_at}
use Rattle.key_source.specs.Sources.{records_at, Sits, CanStart, onward}

-- ---- A page's first record

-- Some words of a front, after the first m.
part_of_front : (m k n : ℕ) (l : List ℕ) → m + k ≤ n → take k (drop m (take n l)) ≡ take k (drop m l)
part_of_front m zero n l h = refl
part_of_front zero (suc k) zero l h = absurd (omega arith)
part_of_front zero (suc k) (suc n) [] h = refl
part_of_front zero (suc k) (suc n) (x ∷ l) h = ap (λ (y : List ℕ). x ∷ y) (part_of_front zero k n l (omega arith))
part_of_front (suc m) (suc k) zero l h = absurd (omega arith)
part_of_front (suc m) (suc k) (suc n) [] h = refl
part_of_front (suc m) (suc k) (suc n) (x ∷ l) h = part_of_front m (suc k) n l (omega arith)

module _ (ps : List ℕ) (page n : ℕ) (can : CanStart ps page n) where
  -- The place of the page's first record.
  abbrev first_place : Place
  first_place = record { at = page * 16 + 3; left = count_of (page_of ps page); link = link_of (page_of ps page); pages = n }

  pub first_sits : Sits ps first_place
  first_sits = record {
    within = omega (arith, can.fits, can.few);
    few = can.few;
    few_pages_lem = can.few_pages_lem;
    followed = can.followed;
  }

  records_read_ok : take (count_of (page_of ps page)) (records_in (drop (page * 16 + 3) ps)) ≡ entries_of (page_of ps page)
  unfolding entries_of page_of
  records_read_ok =
      let n = count_of (page_of ps page) in
      let words = part_of_front 3 (n * record_words) page_words (drop (page * 16) ps) (omega (arith, can.few)) ∙ ap (take (n * record_words)) (drop-drop 3 (page * 16) ps) in
      sym (records_take n (drop (page * 16 + 3) ps)) ∙ ap records_in (sym words) ∙ records_take n (drop 3 (page_of ps page))

  pub first_records : records_at ps first_place ≡ entries_of (page_of ps page) ++ entries_from ps n (link_of (page_of ps page))
  unfolding records_at
  first_records = rw records_read_ok

-- ---- A page without a record left

module _ (ps : List ℕ) (p : Place) (sits : Sits ps p) where
  no_record : p.left ≡ 0 → records_at ps p ≡ entries_from ps p.pages p.link
  unfolding records_at
  no_record e = rw e

  pub none_left : p.left ≡ 0 → p.pages ≤ 0 → records_at ps p ≡ []
  none_left e f = no_record e ∙ entries_none ps p.pages p.link f

  pub linked : 0 < p.pages → 0 < p.link
  linked h = (next_page ps h sits.followed).linked

  pub next_start : 0 < p.pages → CanStart ps (p.link - 1) (p.pages - 1)
  next_start h =
      let next = next_page ps h sits.followed in
      record { fits = next.page.fits; few = next.page.few; few_pages_lem = omega (arith, sits.few_pages_lem); followed = next.rest }

  pub page_over :
      p.left ≡ 0 → 0 < p.pages → records_at ps p ≡ entries_of (page_of ps (p.link - 1)) ++ entries_from ps (p.pages - 1) (link_of (page_of ps (p.link - 1)))
  page_over e h = no_record e ∙ entries_next ps p.pages p.link h

  -- ---- One record further

  pub first_entry : 1 ≤ p.left → records_at ps p ≡ entry_at ps p.at ∷ records_at ps (onward p)
  unfolding records_at records_in
  first_entry h = ap (λ (es : List Entry). es ++ entries_from ps p.pages p.link) (go p.left h sits.within)
    where
      pair : p.at + 1 < length ps → drop p.at ps ≡ get_or ps p.at 0 ∷ (get_or ps (p.at + 1) 0 ∷ drop (p.at + record_words) ps)
      pair w =
          let on : p.at + record_words ≡ suc (p.at + 1) = omega arith in
          let next : drop (suc p.at) ps ≡ get_or ps (p.at + 1) 0 ∷ drop (p.at + record_words) ps = rw on (ap (λ (i : ℕ). drop i ps) (sym (add-one p.at)) ∙ drop-cons ps (p.at + 1) 0 w) in
          drop-cons ps p.at 0 (omega arith) ∙ ap (λ (l : List ℕ). get_or ps p.at 0 ∷ l) next

      go : (n : ℕ) → 1 ≤ n → p.at + n * record_words ≤ length ps
          → take n (records_in (drop p.at ps)) ≡ entry_at ps p.at ∷ take (n - 1) (records_in (drop (p.at + record_words) ps))
      go zero h w = absurd (omega arith)
      go (suc n) h w =
          let q : suc n - 1 ≡ n = omega arith in
          rw q (ap (λ (l : List ℕ). take (suc n) (records_in l)) (pair (omega (arith, w))))

  pub onward_sits : 1 ≤ p.left → Sits ps (onward p)
  onward_sits h = record {
    within = omega (arith, sits.within);
    few = omega (arith, sits.few);
    few_pages_lem = sits.few_pages_lem;
    followed = sits.followed;
  }

-- ---- How many records there are

length_from : (ps : List ℕ) {n l : ℕ} → Followed ps n l → length (entries_from ps n l) ≤ most_records * n
unfolding entries_from
length_from ps {n} {l} f =
    let few = all_map (linked_pages ps n l) (λ x h. h.few) (leads_all ps f) in
    omega (arith, length-entries_on most_records ps (linked_pages ps n l) few, length-linked_pages ps n l)

pub length-records_at : (ps : List ℕ) (p : Place) → Sits ps p → length (records_at ps p) ≤ most_records * 753
unfolding records_at
length-records_at ps p sits = rw (length-append, length-take) (omega (arith, length_from ps sits.followed, sits.few, sits.few_pages_lem))

-- ---- A chain that was looked through whole can be read again, from its primary page on

module _ (r : Root) (ps : List ℕ) (c : ℕ) (keys : r.capacity ≤ most_records) (overflow : r.overflow ≤ 752) (can : CanWalk r ps c) (d : Chain) (found : chain_of r ps c ≡ sound d) where
  reads : Reads r ps c d
  reads = chain_reads r ps c d found

  walks : Walks ps (link_of (page_of ps c)) reads.xs
  unfolding list_from
  walks = walked_walks r ps keys can.pages_fit r.overflow (link_of (page_of ps c)) reads.xs (sound_page_links r (page_of ps c) reads.page_sound_ok) reads.listed

  pub chain_starts : CanStart ps c (length d.pages)
  unfolding read_chain list_from
  chain_starts = rw (← reads.chain_is) record {
    fits = omega (arith, can.chain_fits, can.pages_fit);
    few = omega (arith, sound_page_counts r (page_of ps c) reads.page_sound_ok, keys);
    few_pages_lem = omega (arith, (walked_chained r ps r.overflow (link_of (page_of ps c)) reads.xs reads.listed).1, overflow);
    followed = walks.followed;
  }

  pub chain_records : entries_of (page_of ps c) ++ entries_from ps (length d.pages) (link_of (page_of ps c)) ≡ d.entries
  unfolding read_chain entries_on
  chain_records = rw (← reads.chain_is) (ap (λ (es : List Entry). entries_of (page_of ps c) ++ es) walks.entries)
