-- Laws of pages: what page memory and a page's fields are after a page was written.
-- A page of the memory: Has.
-- Main statements: page_same, page_other, length-with_page; length_page_of, word_at, same_words_lem (pages say all words);
-- with_page_page_of, with_page-with_page, with_page_comm; length_words_of, records_words_of (records as words);
-- level-, count-, link-, entries- and length- of filled_page, free_page, zero_page and with_local_level.
use mathlib.Core.Path.{◌≡◌, refl, sym, ap, ◌∙◌}
use mathlib.Core.Logic.{◌≢◌}
use mathlib.Core.List.{List, [], ◌∷◌, ◌++◌, append_assoc}
use Prim.Native.Nat.{ℕ, zero, suc, ◌+◌, ◌-◌, ◌*◌, ◌/◌, ◌%◌, ◌≤◌, ◌<◌}
use native.Mathlib.Nat.{div-add-mod', mod-lt}
use native.Mathlib.Omega.{arith}
use lib.ListN.{length, get_or, set, take, drop, replicate, length-append, length-drop, length-replicate, take-append-drop}
use lib.Seq.{ext_get_or, length-take-le, take_at, drop_at, drop-append-le, take-append-le, drop-append-add, drop-drop, take-append_seam, get_or-take, get_or-drop, set_comm, sets, sets-eq, length-sets}
use Rattle.model.specs.Sizes.{page_words, most_records, record_words}
use Rattle.model.specs.declared.Entry.{Entry}
use Rattle.model.proofs.Laws.Lists.{Ord, lt, ge, ord}
use Rattle.model.specs.Pages.{page_of, with_page, level_of, count_of, link_of, records_in, entries_of, words_of, filled_page, free_page, zero_page, with_local_level}

-- Page p is a page of the memory ps.
pub record Has (ps : List ℕ) (p : ℕ) : Type 0 where
  pub fits : p * page_words + page_words ≤ length ps

-- ---- Reading a page

pub length_page_of : {ps : List ℕ} {p : ℕ} → Has ps p → length (page_of ps p) ≡ page_words
unfolding page_of
length_page_of {ps} {p} h = length-take-le page_words (drop (p * page_words) ps) (rw length-drop (omega (arith, h.fits)))

-- Word i of page p, where it stands in the memory.
pub word_at : (ps : List ℕ) (p i : ℕ) → i < page_words → get_or ps (p * page_words + i) 0 ≡ get_or (page_of ps p) i 0
unfolding page_of
word_at ps p i h = rw (get_or-take, get_or-drop)

-- Memories of one length that agree on every page are the same: word i stands on page i / 16.
pub same_words_lem : (ps qs : List ℕ) → length ps ≡ length qs → ((x : ℕ) → page_of ps x ≡ page_of qs x) → ps ≡ qs
same_words_lem ps qs e f = ext_get_or 0 ps qs e (λ i h. word_of ps i ∙ ap (λ (w : List ℕ). get_or w (i % page_words) 0) (f (i / page_words)) ∙ sym (word_of qs i))
  where
    word_of : (l : List ℕ) (i : ℕ) → get_or l i 0 ≡ get_or (page_of l (i / page_words)) (i % page_words) 0
    word_of l i = ap (λ (j : ℕ). get_or l j 0) (sym (div-add-mod' i page_words)) ∙ word_at l (i / page_words) (i % page_words) (mod-lt i {m = page_words} (omega arith))

-- ---- Writing a page: memory ps, page p, the words w

module _ (ps : List ℕ) (p : ℕ) (w : List ℕ) (has : Has ps p) (whole : length w ≡ page_words) where
  -- The memory before the page, and after it.
  before : length (take (p * page_words) ps) ≡ p * page_words
  before = length-take-le (p * page_words) ps (omega (arith, has.fits))

  through : length (take (p * page_words) ps ++ w) ≡ p * page_words + page_words
  through = length-append (take (p * page_words) ps) w ∙ omega (arith, before)

  pub length-with_page : length (with_page ps p w) ≡ length ps
  unfolding with_page
  length-with_page = simp (length-append, length-drop) (omega (arith, before, has.fits))

  pub page_same : page_of (with_page ps p w) p ≡ w
  unfolding page_of with_page
  page_same =
      let rest = drop (p * page_words + page_words) ps in
      ap (take page_words) (drop_at (take (p * page_words) ps) (w ++ rest) (p * page_words) before) ∙ take_at w rest page_words whole

  page_below : (r : ℕ) → r < p → page_of (with_page ps p w) r ≡ page_of ps r
  unfolding page_of with_page
  page_below r h =
      let x = take (p * page_words) ps in
      let front : (y : List ℕ) → take page_words (drop (r * page_words) (x ++ y)) ≡ take page_words (drop (r * page_words) x) =
      λ y. ap (take page_words) (drop-append-le (r * page_words) x y (omega (arith, before)))
      ∙ take-append-le page_words (drop (r * page_words) x) y (rw length-drop (omega (arith, before))) in
      front (w ++ drop (p * page_words + page_words) ps) ∙ sym (front (drop (p * page_words) ps))
      ∙ ap (λ (z : List ℕ). take page_words (drop (r * page_words) z)) (take-append-drop (p * page_words) ps)

  page_above : (r : ℕ) → p < r → page_of (with_page ps p w) r ≡ page_of ps r
  unfolding page_of with_page
  page_above r h =
      let x = take (p * page_words) ps ++ w in
      let y = drop (p * page_words + page_words) ps in
      let n = r * page_words - (p * page_words + page_words) in
      let e : r * page_words ≡ length x + n = omega (arith, through) in
      let e' : p * page_words + page_words + n ≡ r * page_words = omega arith in
      ap (λ (z : List ℕ). take page_words (drop (r * page_words) z)) (sym (append_assoc (take (p * page_words) ps) w y))
      ∙ ap (λ (m : ℕ). take page_words (drop m (x ++ y))) e
      ∙ ap (take page_words) (drop-append-add x y n ∙ drop-drop n (p * page_words + page_words) ps)
      ∙ ap (λ (m : ℕ). take page_words (drop m ps)) e'

  pub page_other : (r : ℕ) → r ≢ p → page_of (with_page ps p w) r ≡ page_of ps r
  page_other r n = go (ord r p)
    where
      go : Ord r p → page_of (with_page ps p w) r ≡ page_of ps r
      go (lt h e) = page_below r h
      go (ge h e) = page_above r (omega (arith, n))

  pub has_with_page : {r : ℕ} → Has ps r → Has (with_page ps p w) r
  has_with_page h = record { fits = rw length-with_page h.fits }

  -- A page written twice: the later words stand.
  pub with_page-with_page : (u : List ℕ) → with_page (with_page ps p w) p u ≡ with_page ps p u
  unfolding with_page
  with_page-with_page u =
      let x = take (p * page_words) ps in
      let y = drop (p * page_words + page_words) ps in
      let front : take (p * page_words) (x ++ (w ++ y)) ≡ x = take_at x (w ++ y) (p * page_words) before in
      let back : drop (p * page_words + page_words) (x ++ (w ++ y)) ≡ y =
      ap (drop (p * page_words + page_words)) (sym (append_assoc x w y)) ∙ drop_at (x ++ w) y (p * page_words + page_words) through in
      rw (front, back)

-- A page written with its own words.
pub with_page_page_of : (ps : List ℕ) (p : ℕ) → with_page ps p (page_of ps p) ≡ ps
unfolding with_page page_of
with_page_page_of ps p =
    let rest = drop (p * page_words) ps in
    ap (λ (z : List ℕ). take (p * page_words) ps ++ (take page_words rest ++ z)) (sym (drop-drop page_words (p * page_words) ps))
    ∙ ap (λ (z : List ℕ). take (p * page_words) ps ++ z) (take-append-drop page_words rest)
    ∙ take-append-drop (p * page_words) ps

-- ---- Two pages written

set_before : (l : List ℕ) (i : ℕ) (a : ℕ) (j : ℕ) (vs : List ℕ) → i < j → sets (set l i a) j vs ≡ set (sets l j vs) i a
set_before l i a j [] h = refl
set_before l i a j (v ∷ vs) h =
    ap (λ (k : List ℕ). sets k (suc j) vs) (set_comm l i j a v (λ e. omega arith)) ∙ set_before (set l j v) i a (suc j) vs (omega arith)

sets_before : (l : List ℕ) (i : ℕ) (us : List ℕ) (j : ℕ) (vs : List ℕ) → i + length us ≤ j → sets (sets l i us) j vs ≡ sets (sets l j vs) i us
sets_before l i [] j vs h = refl
sets_before l i (u ∷ us) j vs h =
    sets_before (set l i u) (suc i) us j vs (omega arith) ∙ ap (λ (k : List ℕ). sets k (suc i) us) (set_before l i u j vs (omega arith))

-- A page written is its words stored one after the other.
page_stored : (ps : List ℕ) (p : ℕ) (w : List ℕ) → Has ps p → length w ≡ page_words → with_page ps p w ≡ sets ps (p * page_words) w
unfolding with_page
page_stored ps p w h e = sym (sets-eq w ps (p * page_words) (rw e h.fits) ∙ rw e (append_assoc (take (p * page_words) ps) w (drop (p * page_words + page_words) ps)))

-- Two pages may be written in either order.
pub with_page_comm :
    (ps u v : List ℕ) (p q : ℕ) → p ≢ q → Has ps p → Has ps q → length u ≡ page_words → length v ≡ page_words
    → with_page (with_page ps p u) q v ≡ with_page (with_page ps q v) p u
with_page_comm ps u v p q n hp hq lu lv = go (ord p q)
  where
    both : (x y : List ℕ) (i j : ℕ) → Has ps i → Has ps j → length x ≡ page_words → length y ≡ page_words
        → with_page (with_page ps i x) j y ≡ sets (sets ps (i * page_words) x) (j * page_words) y
    both x y i j hi hj lx ly =
        ap (λ (k : List ℕ). with_page k j y) (page_stored ps i x hi lx) ∙ page_stored (sets ps (i * page_words) x) j y record { fits = rw length-sets hj.fits } ly

    swapped : sets (sets ps (p * page_words) u) (q * page_words) v ≡ sets (sets ps (q * page_words) v) (p * page_words) u
        → with_page (with_page ps p u) q v ≡ with_page (with_page ps q v) p u
    swapped s = both u v p q hp hq lu lv ∙ s ∙ sym (both v u q p hq hp lv lu)

    go : Ord p q → with_page (with_page ps p u) q v ≡ with_page (with_page ps q v) p u
    go (lt h e) = swapped (sets_before ps (p * page_words) u (q * page_words) v (omega arith))
    go (ge h e) = swapped (sym (sets_before ps (q * page_words) v (p * page_words) u (omega (arith, h, n))))

-- ---- Records as words

-- A record takes two words.
pub length_words_of : (es : List Entry) → length (words_of es) ≡ length es * record_words
unfolding words_of
length_words_of [] = refl
length_words_of (e ∷ es) = let h = length_words_of es in omega (arith, h)

-- Words of records, read as records, are these records, then those of the words behind them.
pub records_words_of : (es : List Entry) (ws : List ℕ) → records_in (words_of es ++ ws) ≡ es ++ records_in ws
unfolding records_in words_of
records_words_of [] ws = refl
records_words_of (e ∷ es) ws = ap (λ (l : List Entry). e ∷ l) (records_words_of es ws)

-- As many records as pairs of words.
length-records_in : (ws : List ℕ) (n : ℕ) → n * record_words ≤ length ws → n ≤ length (records_in ws)
unfolding records_in
length-records_in [] n h = omega (arith, h)
length-records_in (k ∷ []) n h = omega (arith, h)
length-records_in (k ∷ (x ∷ ws)) zero h = omega arith
length-records_in (k ∷ (x ∷ ws)) (suc n) h = let ih = length-records_in ws n (omega (arith, h)) in omega (arith, ih)

-- ---- A filled page

pub level_filled_page : (level : ℕ) (es : List Entry) (link : ℕ) → level_of (filled_page level es link) ≡ level
unfolding level_of filled_page
level_filled_page level es link = refl

pub count-filled_page : (level : ℕ) (es : List Entry) (link : ℕ) → count_of (filled_page level es link) ≡ length es
unfolding count_of filled_page
count-filled_page level es link = refl

pub link_filled_page : (level : ℕ) (es : List Entry) (link : ℕ) → link_of (filled_page level es link) ≡ link
unfolding link_of filled_page
link_filled_page level es link = refl

pub entries_filled_page : (level : ℕ) (es : List Entry) (link : ℕ) → entries_of (filled_page level es link) ≡ es
unfolding entries_of count_of filled_page
entries_filled_page level es link =
    let zeroes : List ℕ = replicate (most_records * record_words + 1 - length es * record_words) 0 in
    ap (take (length es)) (records_words_of es zeroes) ∙ take-append_seam es (records_in zeroes)

pub length-filled_page : (level : ℕ) (es : List Entry) (link : ℕ) → length es ≤ most_records → length (filled_page level es link) ≡ page_words
unfolding filled_page
length-filled_page level es link h = simp (length-append, length-replicate) (omega (arith, length_words_of es))

-- ---- A free page and a zero page

pub level_free_page : (link : ℕ) → level_of (free_page link) ≡ 0
unfolding free_page
level_free_page link = level_filled_page 0 [] link

pub count-free_page : (link : ℕ) → count_of (free_page link) ≡ 0
unfolding free_page
count-free_page link = count-filled_page 0 [] link

pub link_free_page : (link : ℕ) → link_of (free_page link) ≡ link
unfolding free_page
link_free_page link = link_filled_page 0 [] link

pub entries_free_page : (link : ℕ) → entries_of (free_page link) ≡ []
unfolding free_page
entries_free_page link = entries_filled_page 0 [] link

pub length-free_page : (link : ℕ) → length (free_page link) ≡ page_words
unfolding free_page
length-free_page link = length-filled_page 0 [] link (omega arith)

-- A zero page is a free page without a link, so the laws of free pages are its laws.
pub zero_page_free : zero_page ≡ free_page 0
unfolding zero_page free_page
zero_page_free = refl

pub level_zero_page : level_of zero_page ≡ 0
level_zero_page = rw zero_page_free (level_free_page 0)

pub count-zero_page : count_of zero_page ≡ 0
count-zero_page = rw zero_page_free (count-free_page 0)

pub link_zero_page : link_of zero_page ≡ 0
link_zero_page = rw zero_page_free (link_free_page 0)

pub entries_zero_page : entries_of zero_page ≡ []
entries_zero_page = rw zero_page_free (entries_free_page 0)

pub length-zero_page : length zero_page ≡ page_words
length-zero_page = rw zero_page_free (length-free_page 0)

-- ---- A page with another local level

pub level_with_local_level : (level : ℕ) (w : List ℕ) → level_of (with_local_level level w) ≡ level
unfolding level_of with_local_level
level_with_local_level level w = refl

pub count-with_local_level : (level : ℕ) (w : List ℕ) → count_of (with_local_level level w) ≡ count_of w
unfolding count_of with_local_level
count-with_local_level level [] = refl
count-with_local_level level (x ∷ w) = refl

pub link_with_local_level : (level : ℕ) (w : List ℕ) → link_of (with_local_level level w) ≡ link_of w
unfolding link_of with_local_level
link_with_local_level level [] = refl
link_with_local_level level (x ∷ w) = refl

pub entries_with_local_level : (level : ℕ) (w : List ℕ) → entries_of (with_local_level level w) ≡ entries_of w
unfolding entries_of count_of with_local_level
entries_with_local_level level [] = refl
entries_with_local_level level (x ∷ w) = refl

pub length-with_local_level : (level : ℕ) (w : List ℕ) → length w ≡ page_words → length (with_local_level level w) ≡ page_words
unfolding with_local_level
length-with_local_level level [] e = absurd (omega (arith, e))
length-with_local_level level (x ∷ w) e = e

pub with_local_level-filled_page : (level old : ℕ) (es : List Entry) (link : ℕ) → with_local_level level (filled_page old es link) ≡ filled_page level es link
unfolding with_local_level filled_page
with_local_level-filled_page level old es link = refl

-- ---- The records of a page

-- As many as the count says, where the count is no damage.
pub length-entries_of : (w : List ℕ) → length w ≡ page_words → count_of w ≤ most_records → length (entries_of w) ≡ count_of w
unfolding entries_of
length-entries_of w e h = length-take-le (count_of w) (records_in (drop 3 w)) (length-records_in (drop 3 w) (count_of w) (rw length-drop (omega (arith, e))))
