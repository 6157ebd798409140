-- Words looked through one after the other.
-- Main statements: all_looked_at (a row of words), free_words (a free page), pages_words (a row of pages), free_next and
-- free_ends (free pages, one after the other).
use mathlib.Core.Path.{◌≡◌, refl, sym, ap, ◌∙◌}
use mathlib.Core.Bool.{Bool, true, false, ◌&&◌, and-true}
use mathlib.Core.List.{List, [], ◌∷◌, ◌++◌}
use Prim.Native.Nat.{ℕ, zero, suc, ◌+◌, ◌-◌, ◌*◌, ◌≤◌, ◌<◌}
use native.Mathlib.Omega.{arith}
use lib.ListN.{length, get_or, take, drop, replicate}
use lib.Seq.{take-add, drop-drop}
use lib.Dec.{eqb}
use Rattle.std.specs.List.{fold}
use Rattle.model.specs.Sizes.{page_words}
use Rattle.model.specs.Pages.{page_of, link_of, words_of, filled_page, free_page, zero_page}
use Rattle.model.specs.WaitingRow.{all_zero}
use Rattle.model.specs.TakeUp.{same_words, zero_pages, all_free}
use Rattle.model.proofs.Laws.Lists.{eqb_same}
use Rattle.model.proofs.Laws.Pages.{Has, length_page_of}
use Rattle.chains.specs.Links.{linked_pages}

and_assoc : (a b c : Bool) → (a && (b && c)) ≡ ((a && b) && c)
and_assoc true b c = refl
and_assoc false b c = refl

-- Words looked at one after the other.
pub all_looked_at : (clear : Bool) (ws : List ℕ) → fold (λ c w. c && eqb w 0) clear ws ≡ (clear && all_zero ws)
unfolding all_zero
all_looked_at clear [] = sym (and-true clear)
all_looked_at clear (w ∷ ws) = all_looked_at (clear && eqb w 0) ws ∙ sym (and_assoc clear (eqb w 0) (all_zero ws))

-- ---- Zeros as a row of zeros

zero_same : (k : ℕ) (ws : List ℕ) → length ws ≡ k → same_words ws (replicate k 0) ≡ all_zero ws
unfolding same_words all_zero
zero_same zero [] e = refl
zero_same zero (w ∷ ws) e = absurd (omega arith)
zero_same (suc k) [] e = absurd (omega arith)
zero_same (suc k) (w ∷ ws) e = ap (λ (t : Bool). eqb w 0 && t) (zero_same k ws (omega arith))

-- ---- A free page

pub free_words : (w : List ℕ) → length w ≡ page_words → ((eqb (get_or w 0 0) 0 && eqb (get_or w 1 0) 0) && all_zero (drop 3 w)) ≡ same_words w (free_page (link_of w))
unfolding same_words free_page filled_page link_of words_of
free_words [] long = absurd (omega arith)
free_words (a ∷ []) long = absurd (omega arith)
free_words (a ∷ (n ∷ [])) long = absurd (omega arith)
free_words (a ∷ (n ∷ (l ∷ ws))) long =
    sym (and_assoc (eqb a 0) (eqb n 0) (all_zero ws))
    ∙ (λ i. eqb a 0 && (eqb n 0 && (sym (eqb_same l l refl) i && sym (zero_same 13 ws (omega (arith, long))) i)))

-- ---- A row of pages

zero_append : (xs ys : List ℕ) → all_zero (xs ++ ys) ≡ (all_zero xs && all_zero ys)
unfolding all_zero
zero_append [] ys = refl
zero_append (x ∷ xs) ys = ap (λ (t : Bool). eqb x 0 && t) (zero_append xs ys) ∙ and_assoc (eqb x 0) (all_zero xs) (all_zero ys)

zero_page_lem : zero_page ≡ replicate 16 0
unfolding zero_page filled_page words_of
zero_page_lem = refl

page_zero : (w : List ℕ) → length w ≡ page_words → same_words w zero_page ≡ all_zero w
page_zero w long = ap (same_words w) zero_page_lem ∙ zero_same 16 w long

pub pages_words : (ps : List ℕ) (n x : ℕ) → (x + n) * page_words ≤ length ps → all_zero (take (n * page_words) (drop (x * page_words) ps)) ≡ zero_pages ps n x
unfolding zero_pages page_of all_zero
pages_words ps zero x h = refl
pages_words ps (suc n) x h =
    let more : suc n * page_words ≡ page_words + n * page_words = omega arith in
    let further : x * page_words + page_words ≡ (x + 1) * page_words = omega arith in
    let from = drop (x * page_words) ps in
    let has : Has ps x = record { fits = omega (arith, h) } in
    ap (λ (k : ℕ). all_zero (take k from)) more ∙ ap all_zero (take-add page_words (n * page_words) from) ∙ zero_append (take page_words from) (take (n * page_words) (drop page_words from))
    ∙ (λ i. sym (page_zero (take page_words from) (length_page_of has)) i
    && (ap (λ (l : List ℕ). all_zero (take (n * page_words) l)) (drop-drop page_words (x * page_words) ps ∙ ap (λ (k : ℕ). drop k ps) further) ∙ pages_words ps n (x + 1) (omega (arith, h))) i)

-- ---- Free pages followed by their links

pub free_next : (ps : List ℕ) (n l : ℕ) → 0 < n
    → all_free ps (linked_pages ps n l)
    ≡ (same_words (page_of ps (l - 1)) (free_page (link_of (page_of ps (l - 1)))) && all_free ps (linked_pages ps (n - 1) (link_of (page_of ps (l - 1)))))
unfolding all_free linked_pages
free_next ps zero l some = absurd (omega arith)
free_next ps (suc n) l some =
    let less : n ≡ suc n - 1 = omega arith in
    let w = page_of ps (l - 1) in
    ap (λ (k : ℕ). same_words w (free_page (link_of w)) && all_free ps (linked_pages ps k (link_of w))) less

pub free_ends : (ps : List ℕ) (n l : ℕ) → n ≤ 0 → all_free ps (linked_pages ps n l) ≡ true
unfolding all_free linked_pages
free_ends ps zero l some = refl
free_ends ps (suc n) l some = absurd (omega arith)
