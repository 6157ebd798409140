-- What format's code may take for granted of the sizes given and the lengths lent.
-- Main definitions: SizesFit, CanFormat. proofs/Accepted.antt shows that both hold once format meets no cause of refusal.
use Rattle.std.specs.Prelude.{◌≡◌, ℕ, ◌≤◌}
use Rattle.model.specs.declared.Root.{Root}
use Rattle.model.specs.Sizes.{lock_words, all_page_words}

-- Every link word fits.
pub record SizesFit (r : Root) : Type 0 where
  pub chains_fit_ok : r.primaries ≤ 256
  pub overflow_fits : r.overflow ≤ 752

-- As many lock words and page words as the sizes ask for.
pub record CanFormat (r : Root) (locks pages : ℕ) : Type 0 where
  pub sizes_fit : SizesFit r
  pub locks_fit : locks ≡ lock_words r
  pub pages_fit : pages ≡ all_page_words r
