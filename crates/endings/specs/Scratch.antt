-- A party's scratch page in the page memory (document 01, "The lent memory": "then one scratch page a party").
-- Main definitions: HasScratch, cleared.
use Rattle.std.specs.Prelude.{List, ℕ, ◌+◌, ◌*◌, ◌^◌, ◌≤◌, ◌<◌, length}
use Rattle.model.specs.declared.Root.{Root}
use Rattle.model.specs.Sizes.{page_words}
use Rattle.model.specs.Pages.{scratch_page, zero_page}
use Rattle.model.specs.Records.{idle}
use Rattle.model.specs.Outcome.{View, with_party}
use Rattle.model.specs.ScratchPages.{with_scratch}

-- Party q's scratch page has a 32-bit number and lies within the page memory.
pub record HasScratch (r : Root) (q : ℕ) (ps : List ℕ) : Type 0 where
  pub number_fits : scratch_page r q < 2 ^ 32
  pub page_fits : scratch_page r q * page_words + page_words ≤ length ps

-- The party's record and scratch page zeroed.
abbrev pub cleared : View → View
cleared v = with_party idle (with_scratch zero_page v)
