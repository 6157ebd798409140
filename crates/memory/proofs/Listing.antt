-- Overflow pages linked from the last to the first, in page words that were zero: one turn, over the model's free_pages.
-- Main statements: none-listed (the start), one_listed (a turn), all_listed (the end).
use mathlib.Core.Path.{◌≡◌, refl, sym, ap, ap₂, ◌∙◌}
use mathlib.Core.Bool.{cond}
use mathlib.Core.List.{List, ◌++◌, append_assoc}
use Prim.Native.Nat.{ℕ, suc, ◌+◌, ◌-◌, ◌*◌, ◌≤◌, ◌<◌}
use native.Mathlib.Omega.{arith}
use lib.ListN.{length, drop, replicate, length-replicate, replicate-append-replicate}
use lib.Seq.{take_at, drop_at, drop-append-add}
use lib.Dec.{eqb}
use borrow.Author.Tests.{ne_eqb}
use Rattle.model.specs.declared.Root.{Root}
use Rattle.model.specs.Sizes.{page_words, all_page_words}
use Rattle.model.specs.Pages.{with_page, free_page, link_to}
use Rattle.model.specs.Memory.{free_pages, formatted_root, formatted_pages}

-- k zero words.
abbrev zeroes : ℕ → List ℕ
zeroes k = replicate k 0

-- A page written between two memories.
page_between_written : (before old after : List ℕ) (x : ℕ) (w : List ℕ) → length before ≡ x * page_words → length old ≡ page_words
    → with_page (before ++ (old ++ after)) x w ≡ before ++ (w ++ after)
unfolding with_page
page_between_written before old after x w e whole =
    let behind : drop (x * page_words + page_words) (before ++ (old ++ after)) ≡ after =
    rw (← e) (drop-append-add before (old ++ after) page_words) ∙ drop_at old after page_words whole in
    ap₂ (λ (f b : List ℕ). f ++ (w ++ b)) (take_at before (old ++ after) (x * page_words) e) behind

-- The link word to the first of n pages from page x on, 0 for none.
abbrev first_link : ℕ → ℕ → ℕ
first_link x n = cond (eqb n 0) 0 (link_to x)

-- Zero words up to page x, from there on n free pages, and what stands behind these.
abbrev listing : ℕ → ℕ → List ℕ → List ℕ
listing x n after = zeroes (page_words * x) ++ (free_pages x n ++ after)

-- Page x linked to the first of the n free pages above it makes one more.
page_listed : (x n : ℕ) (after : List ℕ) → with_page (listing (x + 1) n after) x (free_page (first_link (x + 1) n)) ≡ listing x (suc n) after
unfolding free_pages
page_listed x n after =
    let front = zeroes (page_words * x) in
    let rest = free_pages (x + 1) n ++ after in
    let w = free_page (first_link (x + 1) n) in
    let sum : page_words * x + page_words ≡ page_words * (x + 1) = omega arith in
    let apart : listing (x + 1) n after ≡ front ++ (zeroes page_words ++ rest) =
    ap (λ (k : ℕ). zeroes k ++ rest) (sym sum)
    ∙ ap (λ (z : List ℕ). z ++ rest) (sym (replicate-append-replicate (page_words * x) page_words 0))
    ∙ append_assoc front (zeroes page_words) rest in
    ap (λ (ps : List ℕ). with_page ps x w) apart
    ∙ page_between_written front (zeroes page_words) rest x w (length-replicate (page_words * x) 0 ∙ omega arith) refl
    ∙ ap (λ (z : List ℕ). front ++ z) (sym (append_assoc w (free_pages (x + 1) n) after))

-- The overflow pages from page x on are linked, and link names the first of them.
pub record Listed (r : Root) (ps : List ℕ) (link x : ℕ) : Type 0 where
  pub low : r.primaries ≤ x
  pub high : x ≤ r.primaries + r.overflow
  pub linked : link ≡ first_link x (r.primaries + r.overflow - x)
  pub words : ps ≡ listing x (r.primaries + r.overflow - x) (zeroes (page_words * r.parties))

module _ (r : Root) where
  -- No page is linked yet.
  pub none-listed : (ps : List ℕ) → ps ≡ zeroes (all_page_words r) → Listed r ps 0 (r.primaries + r.overflow)
  unfolding free_pages
  none-listed ps e =
      let end = r.primaries + r.overflow in
      let none : end - end ≡ 0 = omega arith in
      let sum : all_page_words r ≡ page_words * end + page_words * r.parties = omega arith in
      record {
        low = omega arith;
        high = omega arith;
        linked = rw none refl;
        words = rw (none, e, sum) (sym (replicate-append-replicate (page_words * end) (page_words * r.parties) 0));
      }

  -- The page below is linked too.
  pub one_listed : (ps : List ℕ) (link x : ℕ) → Listed r ps link x → r.primaries < x → {ps' : List ℕ} {link' : ℕ} → ps' ≡ with_page ps (x - 1) (free_page link)
      → link' ≡ x - 1 + 1 → Listed r ps' link' (x - 1)
  one_listed ps link x l more ep el =
      let y = x - 1 in
      let n = r.primaries + r.overflow - x in
      let after = zeroes (page_words * r.parties) in
      let at : x ≡ y + 1 = omega (arith, more) in
      let count : r.primaries + r.overflow - y ≡ suc n = omega (arith, more, l.high) in
      let w : ps ≡ listing (y + 1) n after = l.words ∙ ap (λ (k : ℕ). listing k n after) at in
      let k : link ≡ first_link (y + 1) n = l.linked ∙ ap (λ (k : ℕ). first_link k n) at in
      record {
        low = omega (arith, more);
        high = omega (arith, l.high);
        linked = rw (count, ne_eqb (suc n) 0 (λ e. omega arith)) el;
        words = rw count (ep ∙ ap₂ (λ (p : List ℕ) (m : ℕ). with_page p y (free_page m)) w k ∙ page_listed y n after);
      }

  -- All are linked.
  pub all_listed : (ps : List ℕ) (link x : ℕ) → Listed r ps link x → x ≤ r.primaries → (link ≡ (formatted_root r).head) × (ps ≡ formatted_pages r)
  unfolding formatted_root formatted_pages
  all_listed ps link x l end =
      let at : x ≡ r.primaries = omega (arith, l.low) in
      let count : r.primaries + r.overflow - x ≡ r.overflow = omega (arith, l.low) in
      (rw (← at, ← count) l.linked, rw (← at, ← count) l.words)
