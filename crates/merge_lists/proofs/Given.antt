-- Pages given back: in which order pages may be written, and one list given back after another.
-- Main statements: written_after (a page may be written before or after the giving back of others),
-- same_head (the head that is left does not depend on the page words), length-left, given_append.
use mathlib.Core.Path.{◌≡◌, refl, ap, ◌∙◌}
use mathlib.Core.List.{List, [], ◌∷◌, ◌++◌}
use Prim.Native.Nat.{ℕ, ◌+◌, ◌*◌, ◌≤◌}
use native.Mathlib.Omega.{arith}
use lib.ListN.{length}
use Rattle.model.specs.declared.Root.{Root}
use Rattle.model.specs.Sizes.{page_words}
use Rattle.model.specs.Pages.{with_page, free_page}
use Rattle.model.specs.FreeList.{given_back}
use Rattle.model.proofs.Laws.Lists.{All, all_map}
use Rattle.model.proofs.Laws.Pages.{Has, length-free_page, length-with_page, with_page_comm}
use Rattle.model.proofs.Laws.Filling.{IsOverflow}
use Rattle.model.proofs.Laws.FreeList.{length-given}
use Rattle.model.proofs.Laws.Distinct.{Outside}

-- ---- Pages given back

-- The head that is left does not depend on the page words.
pub same_head : (ps qs : List ℕ) (head : ℕ) (xs : List ℕ) → (given_back ps head xs).head ≡ (given_back qs head xs).head
unfolding given_back
same_head ps qs head [] = refl
same_head ps qs head (x ∷ xs) = same_head (with_page ps x (free_page head)) (with_page qs x (free_page head)) (x + 1) xs

-- One list after another.
pub given_append : (ps : List ℕ) (head : ℕ) (xs ys : List ℕ)
    → given_back ps head (xs ++ ys) ≡ given_back (given_back ps head xs).pages (given_back ps head xs).head ys
unfolding given_back
given_append ps head [] ys = refl
given_append ps head (x ∷ xs) ys = given_append (with_page ps x (free_page head)) (x + 1) xs ys

module _ (r : Root) (ps : List ℕ) (fits : page_words * (r.primaries + r.overflow) ≤ length ps) where
  overflow_has : (x : ℕ) → IsOverflow r x → Has ps x
  overflow_has x o = record { fits = omega (arith, o.below) }

  -- Giving back overflow pages leaves the length.
  pub length-left : (head : ℕ) (xs : List ℕ) → All (IsOverflow r) xs → length (given_back ps head xs).pages ≡ length ps
  length-left head xs all = length-given ps head xs (all_map xs overflow_has all)

-- A page that is not among those given back may be written before or after.
pub written_after :
    (r : Root) (ps : List ℕ) (x : ℕ) (w : List ℕ) (head : ℕ) (ys : List ℕ) → page_words * (r.primaries + r.overflow) ≤ length ps → IsOverflow r x → length w ≡ page_words
    → All (IsOverflow r) ys → Outside x ys → (given_back (with_page ps x w) head ys).pages ≡ with_page (given_back ps head ys).pages x w
unfolding given_back
written_after r ps x w head [] fits o e all apart = refl
written_after r ps x w head (y ∷ ys) fits o e all apart =
    let f = free_page head in
    let has = overflow_has r ps fits y all.0 in
    let same : length (with_page ps y f) ≡ length ps = length-with_page ps y f has (length-free_page head) in
    ap (λ (k : List ℕ). (given_back k (y + 1) ys).pages) (with_page_comm ps w f x y apart.0 (overflow_has r ps fits x o) has e (length-free_page head))
    ∙ written_after r (with_page ps y f) x w (y + 1) ys (omega arith) o e all.1 apart.1
