-- Overflow pages filled one after the other: one turn, over the model's filled.
-- Main statements: share_front, share_rest (a page's share of the records); first_link_lem, no_link;
-- page_filled_ok (a turn), all_filled (the end); overflow_fillable.
use mathlib.Core.Path.{◌≡◌, refl, ap, ◌∙◌}
use mathlib.Core.List.{List, [], ◌∷◌}
use Prim.Native.Nat.{ℕ, zero, suc, ◌+◌, ◌*◌, ◌≤◌, ◌<◌, min}
use native.Mathlib.Numerals.{add-one}
use native.Mathlib.Omega.{arith}
use lib.ListN.{length, get_or, take, drop, drop_of_length-le}
use lib.Seq.{drop-cons, take_all}
use Rattle.model.specs.declared.Root.{Root}
use Rattle.model.specs.declared.Entry.{Entry}
use Rattle.model.specs.Sizes.{page_words, record_words}
use Rattle.model.specs.Pages.{records_in, with_page, filled_page, link_to_first}
use Rattle.model.specs.Filling.{filled}
use Rattle.model.proofs.Laws.Lists.{All, Ord, lt, ge, ord}
use Rattle.model.proofs.Laws.Filling.{IsOverflow}
use Rattle.model.proofs.Laws.RecordWords.{records_take, records_drop}
use Rattle.filling.specs.Fills.{Fillable}

-- ---- A page's share

take_short : (k : ℕ) (ws : List ℕ) → take (min (length ws) k) ws ≡ take k ws
take_short k ws = go (ord k (length ws))
  where
    go : Ord k (length ws) → take (min (length ws) k) ws ≡ take k ws
    go (lt h t) = let q : min (length ws) k ≡ k = omega arith in rw q refl
    go (ge h t) =
        let q : min (length ws) k ≡ length ws = omega arith in
        rw (q, take_all (length ws) ws (omega arith), take_all k ws h) refl

drop_short : (k : ℕ) (ws : List ℕ) → drop (min (length ws) k) ws ≡ drop k ws
drop_short k ws = go (ord k (length ws))
  where
    go : Ord k (length ws) → drop (min (length ws) k) ws ≡ drop k ws
    go (lt h t) = let q : min (length ws) k ≡ k = omega arith in rw q refl
    go (ge h t) =
        let q : min (length ws) k ≡ length ws = omega arith in
        let none : length ws ≤ length ws = omega arith in
        rw (q, drop_of_length-le ws none, drop_of_length-le ws h) refl

-- The first b of the records whose words are left, and the others.
pub share_front : (b : ℕ) (ws : List ℕ) → records_in (take (min (length ws) (b * record_words)) ws) ≡ take b (records_in ws)
share_front b ws = ap records_in (take_short (b * record_words) ws) ∙ records_take b ws

pub share_rest : (b : ℕ) (ws : List ℕ) → records_in (drop (min (length ws) (b * record_words)) ws) ≡ drop b (records_in ws)
share_rest b ws = ap records_in (drop_short (b * record_words) ws) ∙ records_drop b ws

-- ---- Links

pub first_link_lem : (xs : List ℕ) (i : ℕ) → i < length xs → link_to_first (drop i xs) ≡ get_or xs i 0 + 1
unfolding link_to_first
first_link_lem xs i h = ap link_to_first (drop-cons xs i 0 h)

pub no_link : (xs : List ℕ) (i : ℕ) → length xs ≤ i → link_to_first (drop i xs) ≡ 0
unfolding link_to_first
no_link xs i h = ap link_to_first (drop_of_length-le xs h)

-- ---- Turns

module _ (b : ℕ) (ps xs : List ℕ) (i : ℕ) where
  -- Page i of the list is written.
  pub page_filled_ok : (es : List Entry) → i < length xs
      → filled b ps (drop i xs) es ≡ filled b (with_page ps (get_or xs i 0) (filled_page 0 (take b es) (link_to_first (drop (i + 1) xs)))) (drop (i + 1) xs) (drop b es)
  unfolding filled
  page_filled_ok es h = rw add-one (ap (λ (ys : List ℕ). filled b ps ys es) (drop-cons xs i 0 h))

  pub all_filled : (es : List Entry) → length xs ≤ i → filled b ps (drop i xs) es ≡ ps
  unfolding filled
  all_filled es h = ap (λ (ys : List ℕ). filled b ps ys es) (drop_of_length-le xs h)

-- ---- Overflow pages can be filled

all_at : (r : Root) (xs : List ℕ) → All (IsOverflow r) xs → (i : ℕ) → i < length xs → IsOverflow r (get_or xs i 0)
all_at r [] a i h = absurd (omega arith)
all_at r (x ∷ xs) a zero h = a.0
all_at r (x ∷ xs) a (suc i) h = all_at r xs a.1 i (omega arith)

pub overflow_fillable : (r : Root) (ps xs : List ℕ) → r.primaries ≤ 256 → r.overflow ≤ 752 → page_words * (r.primaries + r.overflow) ≤ length ps → All (IsOverflow r) xs → Fillable ps xs
overflow_fillable r ps xs primaries overflow fits a = record {
  fits = λ i h. let o = all_at r xs a i h in omega (arith, o.below);
  links = λ i h. let o = all_at r xs a i h in omega (arith, o.below);
}
