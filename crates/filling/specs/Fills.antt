-- What filling pages works on: pages that can be written.
-- Main definition: Fillable.
use Rattle.std.specs.Prelude.{List, ℕ, ◌+◌, ◌*◌, ◌^◌, ◌≤◌, ◌<◌, length, get_or}
use Rattle.model.specs.Sizes.{page_words}

-- Every page of the list lies within the page memory, and its link word is a 32-bit word.
pub record Fillable (ps xs : List ℕ) : Type 0 where
  pub fits : (i : ℕ) → i < length xs → get_or xs i 0 * page_words + page_words ≤ length ps
  pub links : (i : ℕ) → i < length xs → get_or xs i 0 + 1 < 2 ^ 32
