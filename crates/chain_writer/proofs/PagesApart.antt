-- Pages written in either order.
-- Main statements: filled_beside (a page, and overflow pages that it is none of); filled_apart (overflow pages of two chains, none of both).
use mathlib.Core.Path.{◌≡◌, refl, sym, ap, ◌∙◌}
use mathlib.Core.List.{List, [], ◌∷◌}
use Prim.Native.Nat.{ℕ, ◌≤◌}
use native.Mathlib.Omega.{arith}
use lib.ListN.{length, take, drop, length-take}
use Rattle.model.specs.Sizes.{page_words, most_records}
use Rattle.model.specs.declared.Entry.{Entry}
use Rattle.model.specs.Pages.{with_page, filled_page, link_to_first}
use Rattle.model.specs.Filling.{filled}
use Rattle.model.proofs.Laws.Lists.{All, all_map}
use Rattle.model.proofs.Laws.Distinct.{Outside}
use Rattle.model.proofs.Laws.Pages.{Has, has_with_page, with_page_comm, length-filled_page}

-- ---- A page, and overflow pages

module _ (b : ℕ) (small : b ≤ most_records) (x : ℕ) (w : List ℕ) (whole : length w ≡ page_words) where
  pub filled_beside : (ps xs : List ℕ) (es : List Entry) → Has ps x → All (Has ps) xs → Outside x xs → filled b (with_page ps x w) xs es ≡ with_page (filled b ps xs es) x w
  unfolding filled
  filled_beside ps [] es h a o = refl
  filled_beside ps (y ∷ ys) es h a o =
      let v = filled_page 0 (take b es) (link_to_first ys) in
      let few : length (take b es) ≤ most_records = rw length-take (omega arith) in
      let lv = length-filled_page 0 (take b es) (link_to_first ys) few in
      ap (λ (l : List ℕ). filled b l ys (drop b es)) (with_page_comm ps w v x y o.0 h a.0 whole lv)
      ∙ filled_beside (with_page ps y v) ys (drop b es) (has_with_page ps y v a.0 lv h) (all_map ys (λ z k. has_with_page ps y v a.0 lv k) a.1) o.1

-- ---- Overflow pages of two chains

pub filled_apart :
    (b : ℕ) → b ≤ most_records → (ps xs ys : List ℕ) (es fs : List Entry) → All (Has ps) xs → All (Has ps) ys → All (λ x. Outside x ys) xs
    → filled b (filled b ps ys fs) xs es ≡ filled b (filled b ps xs es) ys fs
unfolding filled
filled_apart b small ps [] ys es fs a d o = refl
filled_apart b small ps (x ∷ xs) ys es fs a d o =
    let w = filled_page 0 (take b es) (link_to_first xs) in
    let few : length (take b es) ≤ most_records = rw length-take (omega arith) in
    let lw = length-filled_page 0 (take b es) (link_to_first xs) few in
    let still : (zs : List ℕ) → All (Has ps) zs → All (Has (with_page ps x w)) zs = λ zs g. all_map zs (λ z k. has_with_page ps x w a.0 lw k) g in
    ap (λ (l : List ℕ). filled b l xs (drop b es)) (sym (filled_beside b small x w lw ps ys fs a.0 d o.0))
    ∙ filled_apart b small (with_page ps x w) xs ys (drop b es) fs (still xs a.1) (still ys d) o.1
