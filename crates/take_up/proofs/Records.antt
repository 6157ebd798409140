-- Records seen one after the other, and pages.
-- Main statements: same_test (two tests that imply each other); record_seen, records_seen (the records of a page);
-- good_parts and parts_good (what is seen is ascent and home); listed_ok (the pages of a list), page_passes,
-- page_stops, one_listed, none-listed.
use mathlib.Core.Path.{◌≡◌, refl, sym, ap, ◌∙◌}
use mathlib.Core.Bool.{Bool, true, false, ◌&&◌}
use mathlib.Core.List.{List, [], ◌∷◌, ◌++◌}
use Prim.Native.Nat.{ℕ, zero, suc, ◌+◌, ◌-◌, ◌*◌, ◌≤◌, ◌<◌}
use native.Mathlib.Omega.{arith}
use lib.ListN.{length, get_or, drop, length-drop, drop_of_length-le}
use lib.Seq.{drop-cons, get_or-take, get_or-drop}
use lib.Dec.{leb}
use Rattle.std.specs.Prelude.{Some, None}
use Rattle.model.specs.declared.Root.{Root}
use Rattle.model.specs.declared.Entry.{Entry}
use Rattle.model.specs.Sizes.{page_words, most_records, record_words}
use Rattle.model.specs.Entries.{key_of, entry_of, below_first, ascending}
use Rattle.model.specs.Pages.{page_of, count_of, link_of, records_in, entries_of}
use Rattle.model.specs.Filling.{record_at}
use Rattle.model.specs.Chains.{entries_on}
use Rattle.model.specs.TakeUp.{all_home}
use Rattle.model.proofs.Laws.Lists.{and_both, both-and, leb-true, le-leb, lt-ltb, ltb-true}
use Rattle.model.proofs.Laws.RecordWords.{length_records, record_at_lem}
use Rattle.model.proofs.Laws.Pages.{length-entries_of}
use Rattle.chains.specs.Links.{linked_pages}
use Rattle.chains.proofs.Links.{length-linked_pages}
use Rattle.take_up.specs.declared.Home.{Home}
use Rattle.take_up.specs.Seen.{fits_home, good_from, least_after, behind, after_record, after_records, page_filled, fewest_on, page_good, after_page, listed_good, pages_seen}

-- ---- Tests

pub same_test : (a b : Bool) → (a ≡ true → b ≡ true) → (b ≡ true → a ≡ true) → a ≡ b
same_test true true f g = refl
same_test true false f g = sym (f refl)
same_test false true f g = g refl
same_test false false f g = refl

and_assoc : (a b c : Bool) → ((a && b) && c) ≡ (a && (b && c))
and_assoc true b c = refl
and_assoc false b c = refl

swapped : (f g k l : Bool) → ((f && g) && (k && l)) ≡ ((g && k) && (f && l))
swapped true true k l = refl
swapped true false k l = refl
swapped false true true l = refl
swapped false true false l = refl
swapped false false k l = refl

-- ---- Records

-- The first record of some, and those behind it.
records_next : (h : Home) (l : ℕ) (e : Entry) (es : List Entry) {m : ℕ} → after_record h l (key_of e) ≡ Some m
    → after_records h l (e ∷ es) ≡ after_records h m es
unfolding after_records good_from least_after
records_next h l e es {m} q = go (leb l (key_of e) && fits_home h (key_of e)) q
  where
    go : (t : Bool) → behind t (key_of e + 1) ≡ Some m
        → behind (t && good_from h (key_of e + 1) es) (least_after (key_of e + 1) es) ≡ behind (good_from h m es) (least_after m es)
    go true q = let same : key_of e + 1 ≡ m = cc in rw same refl
    go false q = cc

record_fails : (h : Home) (l : ℕ) (e : Entry) (es : List Entry) → after_record h l (key_of e) ≡ None → after_records h l (e ∷ es) ≡ None
unfolding after_records good_from
record_fails h l e es q = go (leb l (key_of e) && fits_home h (key_of e)) q
  where
    go : (t : Bool) → behind t (key_of e + 1) ≡ None → behind (t && good_from h (key_of e + 1) es) (least_after l (e ∷ es)) ≡ None
    go true q = cc
    go false q = refl

module _ (w : List ℕ) (i : ℕ) (sixteen : length w ≡ page_words) (fits : count_of w ≤ most_records) where
  -- Record i: its key, then its setting.
  here : Entry
  here = entry_of (get_or w (3 + i * record_words) 0) (get_or w (3 + i * record_words + 1) 0)

  record_on : i < count_of w → record_at (entries_of w) i ≡ here
  unfolding entries_of here
  record_on h =
      let rs = drop 3 w in
      let next : 3 + (i * record_words + 1) ≡ 3 + i * record_words + 1 = omega arith in
      let inside : i < length (records_in rs) = rw (length_records, length-drop) (omega arith) in
      get_or-take (count_of w) (records_in rs) i (entry_of 0 0) h ∙ record_at_lem rs i inside
      ∙ rw (get_or-drop 3 w (i * record_words) 0, get_or-drop 3 w (i * record_words + 1) 0, next) refl

  next_on : i < count_of w → drop i (entries_of w) ≡ here ∷ drop (i + 1) (entries_of w)
  next_on h =
      let one : i + 1 ≡ suc i = omega arith in
      rw one
      (drop-cons (entries_of w) i (entry_of 0 0) (omega (arith, length-entries_of w sixteen fits)) ∙ ap (λ (x : Entry). x ∷ drop (suc i) (entries_of w)) (record_on h))

  pub record_seen : (h : Home) (l : ℕ) {m : ℕ} → i < count_of w → after_record h l (get_or w (3 + i * record_words) 0) ≡ Some m
      → after_records h l (drop i (entries_of w)) ≡ after_records h m (drop (i + 1) (entries_of w))
  unfolding here
  record_seen h l b q = ap (after_records h l) (next_on b) ∙ records_next h l here (drop (i + 1) (entries_of w)) q

  pub record_unseen : (h : Home) (l : ℕ) → i < count_of w → after_record h l (get_or w (3 + i * record_words) 0) ≡ None
      → after_records h l (drop i (entries_of w)) ≡ None
  unfolding here
  record_unseen h l b q = ap (after_records h l) (next_on b) ∙ record_fails h l here (drop (i + 1) (entries_of w)) q

  pub records_seen : (h : Home) (l : ℕ) → count_of w ≤ i → after_records h l (drop i (entries_of w)) ≡ Some l
  unfolding after_records good_from least_after
  records_seen h l b =
      ap (after_records h l) (drop_of_length-le (entries_of w) {i = i} (omega (arith, length-entries_of w sixteen fits)))

-- ---- What is seen of records

-- Whether the first key is l or more.
unfoldable pub reaches : ℕ → List Entry → Bool
reaches l [] = true
reaches l (e ∷ es) = leb l (key_of e)

reaches_below : (k : ℕ) (es : List Entry) → reaches (k + 1) es ≡ true → below_first k es ≡ true
unfolding reaches below_first
reaches_below k [] e = refl
reaches_below k (x ∷ xs) e = lt-ltb k (key_of x) (omega (arith, leb-true (k + 1) (key_of x) e))

below_reaches : (k : ℕ) (es : List Entry) → below_first k es ≡ true → reaches (k + 1) es ≡ true
unfolding reaches below_first
below_reaches k [] e = refl
below_reaches k (x ∷ xs) e = le-leb (k + 1) (key_of x) (omega (arith, ltb-true k (key_of x) e))

pub record GoodParts (h : Home) (l : ℕ) (es : List Entry) : Type 0 where
  pub reached : reaches l es ≡ true
  pub ascends : ascending es ≡ true
  pub homes : all_home h.originals h.level h.chain es ≡ true

pub good_parts : (h : Home) (l : ℕ) (es : List Entry) → good_from h l es ≡ true → GoodParts h l es
unfolding good_from reaches ascending all_home fits_home
good_parts h l [] e = record { reached = refl; ascends = refl; homes = refl }
good_parts h l (x ∷ xs) e =
    let a = and_both (leb l (key_of x) && fits_home h (key_of x)) (good_from h (key_of x + 1) xs) e in
    let b = and_both (leb l (key_of x)) (fits_home h (key_of x)) a.0 in
    let c = good_parts h (key_of x + 1) xs a.1 in
    record { reached = b.0; ascends = both-and (reaches_below (key_of x) xs c.reached) c.ascends; homes = both-and b.1 c.homes }

pub parts_good : (h : Home) (l : ℕ) (es : List Entry) → GoodParts h l es → good_from h l es ≡ true
unfolding good_from reaches ascending all_home fits_home
parts_good h l [] p = refl
parts_good h l (x ∷ xs) p =
    let a = and_both (below_first (key_of x) xs) (ascending xs) p.ascends in
    let b = and_both (fits_home h (key_of x)) (all_home h.originals h.level h.chain xs) p.homes in
    both-and (both-and p.reached b.0) (parts_good h (key_of x + 1) xs (record { reached = below_reaches (key_of x) xs a.0; ascends = a.1; homes = b.1 }))

-- From 0 on every key will do.
pub any_reaches : (es : List Entry) → reaches 0 es ≡ true
unfolding reaches
any_reaches [] = refl
any_reaches (e ∷ es) = le-leb 0 (key_of e) (omega arith)

good_append : (h : Home) (l : ℕ) (xs ys : List Entry) → good_from h l (xs ++ ys) ≡ (good_from h l xs && good_from h (least_after l xs) ys)
unfolding good_from least_after
good_append h l [] ys = refl
good_append h l (x ∷ xs) ys =
    ap (λ (t : Bool). leb l (key_of x) && fits_home h (key_of x) && t) (good_append h (key_of x + 1) xs ys)
    ∙ sym (and_assoc (leb l (key_of x) && fits_home h (key_of x)) (good_from h (key_of x + 1) xs) (good_from h (least_after (key_of x + 1) xs) ys))

-- ---- Pages

-- Whether each overflow page of a list has level 0, as many records as it must, and zeros behind them.
unfoldable pub filled_all : ℕ → List ℕ → List ℕ → Bool
filled_all b ps [] = true
filled_all b ps (x ∷ xs) = page_filled (page_of ps x) 0 (fewest_on b (length xs) 1) && filled_all b ps xs

-- A page and those behind it.
pub page_ok : (h : Home) (b l : ℕ) (w : List ℕ) (level fewest : ℕ) (k : Bool) (es : List Entry)
    → (page_good h l w level fewest && (good_from h (least_after l (entries_of w)) es && k))
    ≡ (good_from h l (entries_of w ++ es) && (page_filled w level fewest && k))
page_ok h b l w level fewest k es =
    swapped (page_filled w level fewest) (good_from h l (entries_of w)) (good_from h (least_after l (entries_of w)) es) k
    ∙ ap (λ (t : Bool). t && (page_filled w level fewest && k)) (sym (good_append h l (entries_of w) es))

pub listed_ok : (h : Home) (b l : ℕ) (ps xs : List ℕ) → listed_good h b l ps xs ≡ (good_from h l (entries_on ps xs) && filled_all b ps xs)
unfolding listed_good entries_on filled_all good_from
listed_ok h b l ps [] = refl
listed_ok h b l ps (x ∷ xs) =
    let w = page_of ps x in
    ap (λ (t : Bool). page_good h l w 0 (fewest_on b (length xs) 1) && t) (listed_ok h b (least_after l (entries_of w)) ps xs)
    ∙ page_ok h b l w 0 (fewest_on b (length xs) 1) (filled_all b ps xs) (entries_on ps xs)

-- ---- Pages followed by their links

-- What a page's answer says.
pub page_passes : (h : Home) (l : ℕ) (w : List ℕ) (level fewest : ℕ) {m : ℕ} → after_page h l w level fewest ≡ Some m
    → (page_good h l w level fewest ≡ true) × (least_after l (entries_of w) ≡ m)
unfolding after_page
page_passes h l w level fewest {m} q = go (page_good h l w level fewest) q
  where
    go : (t : Bool) → behind t (least_after l (entries_of w)) ≡ Some m → (t ≡ true) × (least_after l (entries_of w) ≡ m)
    go true q = (refl, cc)
    go false q = cc

pub page_stops : (h : Home) (l : ℕ) (w : List ℕ) (level fewest : ℕ) → after_page h l w level fewest ≡ None → page_good h l w level fewest ≡ false
unfolding after_page
page_stops h l w level fewest q = go (page_good h l w level fewest) q
  where
    go : (t : Bool) → behind t (least_after l (entries_of w)) ≡ None → t ≡ false
    go true q = cc
    go false q = refl

pub one_listed : (h : Home) (b l : ℕ) (ps : List ℕ) (n link : ℕ) → 0 < n
    → listed_good h b l ps (linked_pages ps n link)
    ≡ (page_good h l (page_of ps (link - 1)) 0 (fewest_on b (n - 1) 1)
    && listed_good h b (least_after l (entries_of (page_of ps (link - 1)))) ps (linked_pages ps (n - 1) (link_of (page_of ps (link - 1)))))
unfolding listed_good linked_pages
one_listed h b l ps zero link some = absurd (omega arith)
one_listed h b l ps (suc n) link some =
    let less : n ≡ suc n - 1 = omega arith in
    let w = page_of ps (link - 1) in
    let m = least_after l (entries_of w) in
    ap (λ (k : ℕ). page_good h l w 0 (fewest_on b k 1) && listed_good h b m ps (linked_pages ps n (link_of w))) (length-linked_pages ps n (link_of w))
    ∙ ap (λ (k : ℕ). page_good h l w 0 (fewest_on b k 1) && listed_good h b m ps (linked_pages ps k (link_of w))) less

pub none-listed : (h : Home) (b l : ℕ) (ps : List ℕ) (n link : ℕ) → n ≤ 0 → listed_good h b l ps (linked_pages ps n link) ≡ true
unfolding listed_good linked_pages
none-listed h b l ps zero link some = refl
none-listed h b l ps (suc n) link some = absurd (omega arith)

-- ---- Pages as they were loaded

module _ (h : Home) (b l : ℕ) (ps : List ℕ) (n link : ℕ) (some : 0 < n) (w : List ℕ) (fewest : ℕ)
    (loaded : w ≡ page_of ps (link - 1)) (must : fewest ≡ fewest_on b (n - 1) 1) where
  abbrev behind_it : ℕ → List ℕ → Bool
  behind_it k v = listed_good h b (least_after l (entries_of v)) ps (linked_pages ps (n - 1) k)

  this_first : listed_good h b l ps (linked_pages ps n link) ≡ (page_good h l w 0 fewest && behind_it (link_of w) w)
  this_first =
      one_listed h b l ps n link some
      ∙ (λ i. page_good h l (sym loaded i) 0 (sym must i) && behind_it (link_of (sym loaded i)) (sym loaded i))

  pub page_listed : {m next : ℕ} → next ≡ link_of w → after_page h l w 0 fewest ≡ Some m
      → listed_good h b l ps (linked_pages ps n link) ≡ listed_good h b m ps (linked_pages ps (n - 1) next)
  page_listed e q =
      let p = page_passes h l w 0 fewest q in
      this_first ∙ (λ i. p.0 i && listed_good h b (p.1 i) ps (linked_pages ps (n - 1) (sym e i)))

  pub page_unlisted : after_page h l w 0 fewest ≡ None → listed_good h b l ps (linked_pages ps n link) ≡ false
  page_unlisted q = this_first ∙ ap (λ (t : Bool). t && behind_it (link_of w) w) (page_stops h l w 0 fewest q)

module _ (r : Root) (h : Home) (n : ℕ) (ps w : List ℕ) (fewest : ℕ)
    (loaded : w ≡ page_of ps h.chain) (must : fewest ≡ fewest_on r.capacity n 0) where
  abbrev all_behind : ℕ → List ℕ → Bool
  all_behind k v = listed_good h r.capacity (least_after 0 (entries_of v)) ps (linked_pages ps n k)

  primary_first : pages_seen r h n ps ≡ (page_good h 0 w h.level fewest && all_behind (link_of w) w)
  unfolding pages_seen
  primary_first = λ i. page_good h 0 (sym loaded i) h.level (sym must i) && all_behind (link_of (sym loaded i)) (sym loaded i)

  pub primary_seen : {m next : ℕ} → next ≡ link_of w → after_page h 0 w h.level fewest ≡ Some m
      → pages_seen r h n ps ≡ listed_good h r.capacity m ps (linked_pages ps n next)
  primary_seen e q =
      let p = page_passes h 0 w h.level fewest q in
      primary_first ∙ (λ i. p.0 i && listed_good h r.capacity (p.1 i) ps (linked_pages ps n (sym e i)))

  pub primary_unseen : after_page h 0 w h.level fewest ≡ None → pages_seen r h n ps ≡ false
  primary_unseen q = primary_first ∙ ap (λ (t : Bool). t && all_behind (link_of w) w) (page_stops h 0 w h.level fewest q)
