-- The parts of the model's formatted memory, from what each function of this crate leaves.
-- Main statements: can_list (zeroed page words are ready for the free list); root_formatted, locks_formatted, pages_formatted;
-- memory_formatted (these and a row of idle parties are the whole).
use mathlib.Core.Path.{◌≡◌, ap, ◌∙◌}
use mathlib.Core.List.{List}
use Prim.Native.Nat.{ℕ}
use lib.ListN.{replicate}
use Rattle.model.specs.declared.Root.{Root}
use Rattle.model.specs.declared.Party.{Party}
use Rattle.model.specs.Sizes.{all_page_words}
use Rattle.model.specs.Records.{idle, with_free_list}
use Rattle.model.specs.Memory.{formatted_root, formatted_pages, formatted}
use Rattle.memory.specs.Lent.{SizesFit, CanFormat}

-- s is the root record of the sizes, r the one that the code made of them.
module _ (s : Root) {r : Root} (made : r ≡ s) where
  pub can_list : {locks pages : ℕ} {ps : List ℕ} → CanFormat s locks pages → ps ≡ replicate pages 0 → SizesFit r × (ps ≡ replicate (all_page_words r) 0)
  can_list can e = rw made (can.sizes_fit, e ∙ ap (λ (k : ℕ). replicate k 0) can.pages_fit)

  pub root_formatted : {head : ℕ} → head ≡ (formatted_root r).head → with_free_list head s.overflow r ≡ (formatted s).root
  unfolding formatted formatted_root
  root_formatted e = rw (e, made)

  pub pages_formatted : {ps : List ℕ} → ps ≡ formatted_pages r → ps ≡ (formatted s).pages
  unfolding formatted
  pages_formatted e = e ∙ ap formatted_pages made

pub locks_formatted : (s : Root) {locks pages : ℕ} {ls : List ℕ} → CanFormat s locks pages → ls ≡ replicate locks 0 → ls ≡ (formatted s).locks
unfolding formatted
locks_formatted s can e = e ∙ ap (λ (k : ℕ). replicate k 0) can.locks_fit

-- The parts, with a row of idle parties and a waiting row of zeros, are the whole.
pub memory_formatted : (s : Root) {r : Root} {rs : List Party} {ls ps ws : List ℕ} → r ≡ (formatted s).root → rs ≡ replicate s.parties idle
    → ls ≡ (formatted s).locks → ps ≡ (formatted s).pages → ws ≡ replicate s.parties 0
    → record { root = r; parties = rs; locks = ls; pages = ps; waiting = ws } ≡ formatted s
unfolding formatted
memory_formatted s er ep el eg ew = rw (er, ep, el, eg, ew)
