-- Laws of format: the pages of two memories one after the other, and what each page holds once memory is formatted.
-- Main statements: page_left, page_right; length-formatted; formatted_primary and formatted_scratch (zero pages); formatted_free (the free list, ascending).
use mathlib.Core.Path.{◌≡◌, refl, sym, ap, ◌∙◌}
use mathlib.Core.Bool.{cond}
use mathlib.Core.List.{List, ◌++◌, append_assoc}
use Prim.Native.Nat.{ℕ, zero, suc, ◌+◌, ◌-◌, ◌*◌, ◌<◌}
use native.Mathlib.Omega.{arith}
use lib.ListN.{length, take, drop, replicate, length-append, length-drop, length-replicate, replicate-append-replicate}
use lib.Seq.{drop-append-le, take-append-le, drop-append-add, drop_at, take_at}
use lib.Dec.{eqb}
use Rattle.model.specs.declared.Root.{Root}
use Rattle.model.specs.Sizes.{page_words, all_page_words}
use Rattle.model.specs.Pages.{page_of, words_of, filled_page, free_page, zero_page, link_to, link_to_first, primary_page, scratch_page}
use Rattle.model.specs.Memory.{free_pages, formatted_pages}
use Rattle.model.proofs.Laws.Lists.{eqb-diff}
use Rattle.model.proofs.Laws.Pages.{Has, length-free_page}
use Rattle.model.proofs.Laws.Structure.{FreePages}
use Rattle.model.proofs.Invariant.Owners.{up_from}

-- ---- Two memories, one after the other

pub page_left : (xs ys : List ℕ) (x : ℕ) → Has xs x → page_of (xs ++ ys) x ≡ page_of xs x
unfolding page_of
page_left xs ys x h =
    ap (take page_words) (drop-append-le (x * page_words) xs ys (omega (arith, h.fits)))
    ∙ take-append-le page_words (drop (x * page_words) xs) ys (rw length-drop (omega (arith, h.fits)))

pub page_right : (xs ys : List ℕ) (n x : ℕ) → length xs ≡ n * page_words → page_of (xs ++ ys) (n + x) ≡ page_of ys x
unfolding page_of
page_right xs ys n x e =
    let at : (n + x) * page_words ≡ length xs + x * page_words = omega (arith, e) in
    rw at (ap (take page_words) (drop-append-add xs ys (x * page_words)))

-- A page between two memories.
page_between : (before w after : List ℕ) (x : ℕ) → length before ≡ x * page_words → length w ≡ page_words → page_of (before ++ (w ++ after)) x ≡ w
unfolding page_of
page_between before w after x e whole = ap (take page_words) (drop_at before (w ++ after) (x * page_words) e) ∙ take_at w after page_words whole

-- ---- Zeroes

-- k zero words.
abbrev zeroes : ℕ → List ℕ
zeroes k = replicate k 0

length_zeroes : (k : ℕ) → length (zeroes k) ≡ k
length_zeroes k = length-replicate k 0

zero_words : zero_page ≡ zeroes page_words
unfolding zero_page filled_page words_of
zero_words = refl

page_zeroes : (n x : ℕ) → x < n → page_of (zeroes (page_words * n)) x ≡ zero_page
page_zeroes n x h =
    let front = zeroes (x * page_words) in
    let k = page_words * (n - x - 1) in
    let sum : x * page_words + (page_words + k) ≡ page_words * n = omega arith in
    let joined : front ++ (zeroes page_words ++ zeroes k) ≡ zeroes (page_words * n) =
    ap (λ (r : List ℕ). front ++ r) (replicate-append-replicate page_words k 0)
    ∙ replicate-append-replicate (x * page_words) (page_words + k) 0
    ∙ ap zeroes sum in
    ap (λ (r : List ℕ). page_of r x) (sym joined)
    ∙ page_between front (zeroes page_words) (zeroes k) x (length_zeroes (x * page_words)) (length_zeroes page_words)
    ∙ sym zero_words

-- ---- The free list

length-free_pages : (x n : ℕ) → length (free_pages x n) ≡ n * page_words
unfolding free_pages
length-free_pages x zero = refl
length-free_pages x (suc n) =
    let l = cond (eqb n 0) 0 (link_to (x + 1)) in
    length-append (free_page l) (free_pages (x + 1) n) ∙ omega (arith, length-free_page l, length-free_pages (x + 1) n)

-- The numbers from x on, as many as said.
pub length_up : (x n : ℕ) → length (up_from x n) ≡ n
unfolding up_from
length_up x zero = refl
length_up x (suc n) = ap suc (length_up (x + 1) n)

-- The link word to the first of n pages from page x on.
pub first_up : (x n : ℕ) → cond (eqb n 0) 0 (link_to x) ≡ link_to_first (up_from x n)
unfolding up_from link_to_first
first_up x zero = refl
first_up x (suc n) = rw (eqb-diff (suc n) 0 (λ e. omega arith))

-- Behind x pages stand n free ones, each linked to the next.
free_up : (before : List ℕ) (x n : ℕ) (after : List ℕ) → length before ≡ x * page_words → FreePages (before ++ (free_pages x n ++ after)) (up_from x n)
unfolding free_pages up_from
free_up before x zero after e = tt
free_up before x (suc n) after e =
    let l = cond (eqb n 0) 0 (link_to (x + 1)) in
    let w = free_page l in
    let whole = length-free_page l in
    let rest = free_pages (x + 1) n in
    let seam : (before ++ w) ++ (rest ++ after) ≡ before ++ ((w ++ rest) ++ after) =
    append_assoc before w (rest ++ after) ∙ ap (λ (r : List ℕ). before ++ r) (sym (append_assoc w rest after)) in
    let here : page_of (before ++ ((w ++ rest) ++ after)) x ≡ w =
    ap (λ (r : List ℕ). page_of (before ++ r) x) (append_assoc w rest after) ∙ page_between before w (rest ++ after) x e whole in
    let longer : length (before ++ w) ≡ (x + 1) * page_words = length-append before w ∙ omega arith in
    (here ∙ ap free_page (first_up (x + 1) n), rw seam at (free_up (before ++ w) (x + 1) n after longer))

-- ---- Formatted memory

module _ (r : Root) where
  -- The primary pages come first.
  primaries : length (zeroes (page_words * r.primaries)) ≡ r.primaries * page_words
  primaries = length_zeroes (page_words * r.primaries) ∙ omega arith

  pub length-formatted : length (formatted_pages r) ≡ all_page_words r
  unfolding formatted_pages
  length-formatted = simp (length-append, length-replicate, length-free_pages) (omega arith)

  pub formatted_primary : (c : ℕ) → c < r.primaries → page_of (formatted_pages r) (primary_page c) ≡ zero_page
  unfolding formatted_pages
  formatted_primary c h =
      page_left (zeroes (page_words * r.primaries)) (free_pages r.primaries r.overflow ++ zeroes (page_words * r.parties)) c
      (record { fits = omega (arith, primaries) })
      ∙ page_zeroes r.primaries c h

  pub formatted_free : FreePages (formatted_pages r) (up_from r.primaries r.overflow)
  unfolding formatted_pages
  formatted_free = free_up (zeroes (page_words * r.primaries)) r.primaries r.overflow (zeroes (page_words * r.parties)) primaries

  pub formatted_scratch : (q : ℕ) → q < r.parties → page_of (formatted_pages r) (scratch_page r q) ≡ zero_page
  unfolding formatted_pages
  formatted_scratch q h =
      let scratches = zeroes (page_words * r.parties) in
      let frees = free_pages r.primaries r.overflow in
      let front = zeroes (page_words * r.primaries) ++ frees in
      let long : length front ≡ (r.primaries + r.overflow) * page_words =
      length-append (zeroes (page_words * r.primaries)) frees ∙ omega (arith, primaries, length-free_pages r.primaries r.overflow) in
      ap (λ (m : List ℕ). page_of m (scratch_page r q)) (sym (append_assoc (zeroes (page_words * r.primaries)) frees scratches))
      ∙ page_right front scratches (r.primaries + r.overflow) q long
      ∙ page_zeroes r.parties q h
