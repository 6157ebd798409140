-- Page filling for every number b of records a page: how many overflow pages a chain needs, and what its pages are once filled.
-- Main definitions: Chained (the pages that a link word leads to), Room (pages enough to write a chain), Written (what holds once it is written).
-- Main statements: needed_few, needed_more (overflow pages needed); none_over, one_page, fits_page (records that fit the primary page); overflow_filled, filled_other, length-filled (overflow pages filled);
-- overflow_entries, overflow_linked, chain_entries, chain_chained (what a chain's pages say); chain_written_lem (a chain written whole).
use mathlib.Core.Path.{◌≡◌, refl, sym, ap, ◌∙◌}
use mathlib.Core.Logic.{◌≢◌}
use mathlib.Core.Bool.{Bool, true, false}
use mathlib.Core.List.{List, [], ◌∷◌}
use Prim.Native.Nat.{ℕ, zero, suc, ◌+◌, ◌-◌, ◌*◌, ◌/◌, ◌%◌, ◌≤◌, ◌<◌}
use native.Mathlib.Nat.{add-div_right, div-eq_of_lt, div-add-mod', mod-lt}
use native.Mathlib.Omega.{arith}
use lib.ListN.{length, take, drop, length-take, length-drop, take-append-drop, drop_of_length-le}
use lib.Dec.{leb}
use borrow.Author.Tests.{leb-true, leb-false, le-leb, lt-ltb, ne_eqb}
use Rattle.model.specs.declared.Root.{Root}
use Rattle.model.specs.Sizes.{page_words, most_records}
use Rattle.model.specs.declared.Entry.{Entry}
use Rattle.model.specs.Pages.{page_of, with_page, level_of, count_of, link_of, filled_page, link_to_first, names_overflow, link_sound, most_level, page_sound}
use Rattle.model.specs.Chains.{entries_on}
use Rattle.model.specs.Filling.{overflow_needed, pages_for, primary_of, filled, overflow_written}
use Rattle.model.proofs.Laws.Lists.{All, all_map}
use Rattle.model.proofs.Laws.Distinct.{Outside, Distinct}
use Rattle.model.proofs.Laws.Pages.{Has, length-with_page, page_same, page_other, has_with_page, level_filled_page, count-filled_page, link_filled_page, entries_filled_page, length-filled_page}
use Rattle.model.proofs.Laws.Structure.{Linked, Overflow, ChainIs, SameOn, overflow_frame}

-- ---- Overflow pages needed: ceil(m/b) − 1, none for 0

module _ (b m : ℕ) (some : 0 < b) where
  pub needed_few : m ≤ b → overflow_needed b m ≡ 0
  unfolding overflow_needed
  needed_few h = go (leb 1 m) refl
    where
      go : (t : Bool) → leb 1 m ≡ t → (m + (b - 1)) / b - 1 ≡ 0
      go true e =
          let h1 = leb-true 1 m e in
          let q : m + (b - 1) ≡ (m - 1) + b = omega arith in
          let d : (m - 1) / b ≡ 0 = div-eq_of_lt (omega arith) in
          ap (λ (x : ℕ). x / b - 1) q ∙ ap (λ (x : ℕ). x - 1) (add-div_right (m - 1) some) ∙ omega (arith, d)
      go false e =
          let h0 = leb-false 1 m e in
          let d : (m + (b - 1)) / b ≡ 0 = div-eq_of_lt (omega arith) in
          omega (arith, d)

  pub needed_more : b < m → overflow_needed b m ≡ suc (overflow_needed b (m - b))
  unfolding overflow_needed
  needed_more h =
      let q : m + (b - 1) ≡ ((m - b) + (b - 1)) + b = omega arith in
      let one : ((m - b) + (b - 1)) / b ≡ ((m - b) - 1 + b) / b = ap (λ (x : ℕ). x / b) (omega arith) in
      let two = add-div_right ((m - b) - 1) some in
      ap (λ (x : ℕ). x / b - 1) q ∙ ap (λ (x : ℕ). x - 1) (add-div_right ((m - b) + (b - 1)) some) ∙ omega (arith, one, two)

-- k pages of b records are enough for n records, and none of them stays empty.
pub record Exact (b n k : ℕ) : Type 0 where
  pub enough : n ≤ k * b
  pub none_empty : k * b < n + b

-- So it is of the pages needed, and the records after the first b.
pub needed_exact : (b m : ℕ) → 0 < b → Exact b (m - b) (overflow_needed b m)
unfolding overflow_needed
needed_exact b m some = go ((m + (b - 1)) / b) (div-add-mod' (m + (b - 1)) b) (mod-lt (m + (b - 1)) some)
  where
    go : (q : ℕ) → q * b + (m + (b - 1)) % b ≡ m + (b - 1) → (m + (b - 1)) % b < b → Exact b (m - b) (q - 1)
    go zero e l = record { enough = omega arith; none_empty = omega arith }
    go (suc q) e l = let s : suc q - 1 ≡ q = omega arith in rw s record { enough = omega arith; none_empty = omega arith }

pub exact_less : (b n k : ℕ) → Exact b n (suc k) → Exact b (n - b) k
exact_less b n k x = record { enough = omega arith; none_empty = omega arith }

-- ---- Records that fit the primary page

-- They leave no record for an overflow page.
pub none_over : (b : ℕ) (es : List Entry) → length es ≤ b → drop b es ≡ []
none_over b es h = drop_of_length-le es h

-- A chain of such records has no overflow page, and a chain without overflow pages such records.
pub one_page : (b : ℕ) (ps xs : List ℕ) (es : List Entry) → length es ≤ b → Overflow b ps xs (drop b es) → xs ≡ []
one_page b ps [] es h k = refl
one_page b ps (x ∷ xs) es h k = absurd (let n = k.0 in let l = length-drop b es in omega arith)

pub fits_page : (b : ℕ) (es : List Entry) → drop b es ≡ [] → length es ≤ b
fits_page b es e = let l = length-drop b es in let z = ap length e in omega arith

-- ---- What the overflow pages of a chain say

-- The pages that the link word l leads to: xs, to the end, each sound.
pub record Chained (r : Root) (ps : List ℕ) (l : ℕ) (xs : List ℕ) : Type 0 where
  pub first : l ≡ link_to_first xs
  pub linked : Linked r ps xs

-- x is an overflow page.
pub record IsOverflow (r : Root) (x : ℕ) : Type 0 where
  pub above : r.primaries ≤ x
  pub below : x < r.primaries + r.overflow

take_fits : (b : ℕ) (es : List Entry) → length (take b es) ≤ b
take_fits b es = rw length-take (omega arith)

-- A chain's primary page has sixteen words.
pub length-primary_of : (b level : ℕ) (es : List Entry) (xs : List ℕ) → b ≤ most_records → length (primary_of b level es xs) ≡ page_words
unfolding primary_of
length-primary_of b level es xs small = let h = take_fits b es in length-filled_page level (take b es) (link_to_first xs) (omega arith)

-- A link word to the first of some overflow pages, or to none, is sound.
pub link_sound_lem : (r : Root) (xs : List ℕ) → All (IsOverflow r) xs → link_sound r (link_to_first xs) ≡ true
unfolding link_sound names_overflow link_to_first
link_sound_lem r [] a = refl
link_sound_lem r (x ∷ xs) a =
    let here = a.0 in
    rw (ne_eqb (x + 1) 0 (λ e. omega arith), lt-ltb r.primaries (x + 1) (omega arith), le-leb (x + 1) (r.primaries + r.overflow) (omega arith))

-- A page so filled passes the tests of a page followed.
filled_sound :
    (r : Root) (level : ℕ) (es : List Entry) (xs : List ℕ) → level ≤ most_level → All (IsOverflow r) xs
    → page_sound r (filled_page level (take r.capacity es) (link_to_first xs)) ≡ true
unfolding page_sound
filled_sound r level es xs h a =
    let w = take r.capacity es in
    let l = link_to_first xs in
    rw (level_filled_page level w l, count-filled_page level w l, link_filled_page level w l, le-leb (length w) r.capacity (take_fits r.capacity es), le-leb level most_level h)
    (link_sound_lem r xs a)

pub overflow_linked : (r : Root) (ps xs : List ℕ) (es : List Entry) → All (IsOverflow r) xs → Overflow r.capacity ps xs es → Linked r ps xs
overflow_linked r ps [] es a o = tt
overflow_linked r ps (x ∷ xs) es a o = (
  rw o.1 (filled_sound r 0 es xs (omega arith) a.1),
  rw o.1 (link_filled_page 0 (take r.capacity es) (link_to_first xs)),
  overflow_linked r ps xs (drop r.capacity es) a.1 o.2,
)

pub overflow_entries : (b : ℕ) (ps xs : List ℕ) (es : List Entry) → Overflow b ps xs es → entries_on ps xs ≡ es
unfolding entries_on
overflow_entries b ps [] es o = sym o
overflow_entries b ps (x ∷ xs) es o =
    rw (o.1, entries_filled_page 0 (take b es) (link_to_first xs), overflow_entries b ps xs (drop b es) o.2) (take-append-drop b es)

-- "0 on an overflow page", and at most b records.
pub record OverflowWords (b : ℕ) (w : List ℕ) : Type 0 where
  pub level_zero : level_of w ≡ 0
  pub count_fits : count_of w ≤ b

pub overflow_words : (b : ℕ) (ps xs : List ℕ) (es : List Entry) → Overflow b ps xs es → All (λ x. OverflowWords b (page_of ps x)) xs
overflow_words b ps [] es o = tt
overflow_words b ps (x ∷ xs) es o = (here, overflow_words b ps xs (drop b es) o.2)
  where
    here : OverflowWords b (page_of ps x)
    here = rw o.1 record {
      level_zero = level_filled_page 0 (take b es) (link_to_first xs);
      count_fits = rw count-filled_page (take_fits b es);
    }

-- ---- What a whole chain says

module _ (b : ℕ) (ps : List ℕ) (c level : ℕ) (es : List Entry) (xs : List ℕ) (chain : ChainIs b ps c level es xs) where
  pub chain_level : level_of (page_of ps c) ≡ level
  unfolding primary_of
  chain_level = rw chain.primary (level_filled_page level (take b es) (link_to_first xs))

  pub chain_count_ok : count_of (page_of ps c) ≤ b
  unfolding primary_of
  chain_count_ok = rw (chain.primary, count-filled_page level (take b es) (link_to_first xs)) (take_fits b es)

  pub chain_link : link_of (page_of ps c) ≡ link_to_first xs
  unfolding primary_of
  chain_link = rw chain.primary (link_filled_page level (take b es) (link_to_first xs))

  pub chain_entries : entries_on ps (c ∷ xs) ≡ es
  unfolding entries_on primary_of
  chain_entries =
      rw (chain.primary, entries_filled_page level (take b es) (link_to_first xs), overflow_entries b ps xs (drop b es) chain.overflow) (take-append-drop b es)

module _ (r : Root) (ps : List ℕ) (c level : ℕ) (es : List Entry) (xs : List ℕ) (chain : ChainIs r.capacity ps c level es xs) (over : All (IsOverflow r) xs) where
  pub chain_chained : Chained r ps (link_of (page_of ps c)) xs
  chain_chained = record { first = chain_link r.capacity ps c level es xs chain; linked = overflow_linked r ps xs (drop r.capacity es) over chain.overflow }

  pub chain_sound : level ≤ most_level → page_sound r (page_of ps c) ≡ true
  unfolding primary_of
  chain_sound h = rw chain.primary (filled_sound r level es xs h over)

-- ---- Overflow pages filled

module _ (b : ℕ) (small : b ≤ most_records) where
  whole : (level : ℕ) (es : List Entry) (l : ℕ) → length (filled_page level (take b es) l) ≡ page_words
  whole level es l = let h = take_fits b es in length-filled_page level (take b es) l (omega arith)

  all_has : (ps xs : List ℕ) (x : ℕ) (w : List ℕ) → Has ps x → length w ≡ page_words → All (Has ps) xs → All (Has (with_page ps x w)) xs
  all_has ps xs x w h e a = all_map xs (λ y k. has_with_page ps x w h e k) a

  pub length-filled : (ps xs : List ℕ) (es : List Entry) → All (Has ps) xs → length (filled b ps xs es) ≡ length ps
  unfolding filled
  length-filled ps [] es a = refl
  length-filled ps (x ∷ xs) es a =
      let w = filled_page 0 (take b es) (link_to_first xs) in
      let e = whole 0 es (link_to_first xs) in
      length-filled (with_page ps x w) xs (drop b es) (all_has ps xs x w a.0 e a.1) ∙ length-with_page ps x w a.0 e

  pub filled_other : (ps xs : List ℕ) (es : List Entry) → All (Has ps) xs → (y : ℕ) → Outside y xs → page_of (filled b ps xs es) y ≡ page_of ps y
  unfolding filled
  filled_other ps [] es a y o = refl
  filled_other ps (x ∷ xs) es a y o =
      let w = filled_page 0 (take b es) (link_to_first xs) in
      let e = whole 0 es (link_to_first xs) in
      filled_other (with_page ps x w) xs (drop b es) (all_has ps xs x w a.0 e a.1) y o.1 ∙ page_other ps x w a.0 e y o.0

  pub overflow_filled : (ps xs : List ℕ) (es : List Entry) → All (Has ps) xs → Distinct xs → Exact b (length es) (length xs) → Overflow b (filled b ps xs es) xs es
  unfolding filled
  overflow_filled ps [] es a d k = drop_of_length-le es {i = 0} (omega arith)
  overflow_filled ps (x ∷ xs) es a d k =
      let w = filled_page 0 (take b es) (link_to_first xs) in
      let e = whole 0 es (link_to_first xs) in
      let a₁ = all_has ps xs x w a.0 e a.1 in (
        omega arith,
        filled_other (with_page ps x w) xs (drop b es) a₁ x d.0 ∙ page_same ps x w a.0 e,
        overflow_filled (with_page ps x w) xs (drop b es) a₁ d.1 (rw length-drop (exact_less b (length es) (length xs) k)),
      )

  -- The same of the overflow pages of a chain whose records are es.
  pub length-overflow_written : (ps xs : List ℕ) (es : List Entry) → All (Has ps) xs → length (overflow_written b ps xs es) ≡ length ps
  unfolding overflow_written
  length-overflow_written ps xs es a = length-filled ps xs (drop b es) a

  pub overflow_written_other : (ps xs : List ℕ) (es : List Entry) → All (Has ps) xs → (y : ℕ) → Outside y xs → page_of (overflow_written b ps xs es) y ≡ page_of ps y
  unfolding overflow_written
  overflow_written_other ps xs es a y o = filled_other ps xs (drop b es) a y o

  pub overflow_written_ok :
      (ps xs : List ℕ) (es : List Entry) → 0 < b → All (Has ps) xs → Distinct xs → length xs ≡ pages_for b es
      → Overflow b (overflow_written b ps xs es) xs (drop b es)
  unfolding overflow_written pages_for
  overflow_written_ok ps xs es some a d e = overflow_filled ps xs (drop b es) a d (rw (length-drop, e) (needed_exact b (length es) some))

-- ---- A chain written whole

-- Room for the records es: a page c, and as many overflow pages xs as they need, all different pages of the memory.
pub record Room (b : ℕ) (ps : List ℕ) (c : ℕ) (es : List Entry) (xs : List ℕ) : Type 0 where
  pub some_key : 0 < b
  pub keys_fit : b ≤ most_records
  pub has_primary : Has ps c
  pub has_overflow : All (Has ps) xs
  pub distinct : Distinct xs
  pub apart : Outside c xs
  pub enough : length xs ≡ pages_for b es

-- The memory with the chain written: its overflow pages, then its primary page c.
abbrev pub chain_written : ℕ → List ℕ → ℕ → ℕ → List Entry → List ℕ → List ℕ
chain_written b ps c level es xs = with_page (overflow_written b ps xs es) c (primary_of b level es xs)

-- What holds once it is written: memory ps before, qs after.
pub record Written (b : ℕ) (ps qs : List ℕ) (c level : ℕ) (es : List Entry) (xs : List ℕ) : Type 0 where
  pub chain : ChainIs b qs c level es xs
  pub entries : entries_on qs (c ∷ xs) ≡ es
  pub level_kept : level_of (page_of qs c) ≡ level
  pub count_fits : count_of (page_of qs c) ≤ b
  pub overflow : All (λ x. OverflowWords b (page_of qs x)) xs
  pub chained : (r : Root) → r.capacity ≡ b → All (IsOverflow r) xs → Chained r qs (link_of (page_of qs c)) xs
  pub others : (y : ℕ) → y ≢ c → Outside y xs → page_of qs y ≡ page_of ps y
  pub length-kept : length qs ≡ length ps

module _ (b : ℕ) (ps : List ℕ) (c level : ℕ) (es : List Entry) (xs : List ℕ) (room : Room b ps c es xs) where
  length_primary : length (primary_of b level es xs) ≡ page_words
  length_primary = length-primary_of b level es xs room.keys_fit

  length_beside : length (overflow_written b ps xs es) ≡ length ps
  length_beside = length-overflow_written b room.keys_fit ps xs es room.has_overflow

  has_beside : Has (overflow_written b ps xs es) c
  has_beside = record { fits = rw length_beside room.has_primary.fits }

  written_beside : (y : ℕ) → y ≢ c → page_of (chain_written b ps c level es xs) y ≡ page_of (overflow_written b ps xs es) y
  written_beside y n = page_other (overflow_written b ps xs es) c (primary_of b level es xs) has_beside length_primary y n

  same_beside : (ys : List ℕ) → Outside c ys → SameOn (overflow_written b ps xs es) (chain_written b ps c level es xs) ys
  same_beside [] o = tt
  same_beside (y ∷ ys) o = (written_beside y (λ e. o.0 (sym e)), same_beside ys o.1)

  pub written_chain : ChainIs b (chain_written b ps c level es xs) c level es xs
  written_chain = record {
    primary = page_same (overflow_written b ps xs es) c (primary_of b level es xs) has_beside length_primary;
    overflow =
        overflow_frame b (overflow_written b ps xs es) (chain_written b ps c level es xs) xs (drop b es) (same_beside xs room.apart)
        (overflow_written_ok b room.keys_fit ps xs es room.some_key room.has_overflow room.distinct room.enough);
  }

  pub chain_written_lem : Written b ps (chain_written b ps c level es xs) c level es xs
  chain_written_lem =
      let qs = chain_written b ps c level es xs in
      record {
        chain = written_chain;
        entries = chain_entries b qs c level es xs written_chain;
        level_kept = chain_level b qs c level es xs written_chain;
        count_fits = chain_count_ok b qs c level es xs written_chain;
        overflow = overflow_words b qs xs (drop b es) written_chain.overflow;
        chained = λ r k over. chain_chained r qs c level es xs (rw k written_chain) over;
        others = λ y n o. written_beside y n ∙ overflow_written_other b room.keys_fit ps xs es room.has_overflow y o;
        length-kept = length-with_page (overflow_written b ps xs es) c (primary_of b level es xs) has_beside length_primary ∙ length_beside;
      }
