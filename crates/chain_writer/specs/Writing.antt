-- A chain written to its page and on to free pages, and after it the rest.
-- Main definitions: CanFill (links lead to pages of the memory, and none comes twice);
-- HasPage (a page made of the next records); chain_written, rest_written, all_written (what is written), CanPlace, CanPlaceRest and CanWrite (what writing needs).
use Rattle.std.specs.Prelude.{◌≡◌, List, ℕ, ◌+◌, ◌*◌, ◌≤◌, length, take, drop}
use Rattle.model.specs.Sizes.{page_words, most_records}
use Rattle.model.specs.declared.Entry.{Entry}
use Rattle.model.specs.Pages.{with_page, filled_page}
use Rattle.model.specs.Filling.{overflow_needed, primary_of, overflow_written}
use Rattle.model.proofs.Laws.Pages.{Has}
use Rattle.chains.specs.Links.{linked_pages, link_after, LeadsApart}
use Rattle.key_source.specs.declared.Source.{Source}
use Rattle.key_source.specs.Sources.{Sits, CanChoose, chosen_of}
use Rattle.chain_writer.specs.declared.Planned.{Planned}
use Rattle.std.specs.Prelude.{Option, None, Some}
use Rattle.chain_writer.specs.declared.Filled.{Filled}

-- Each of the k links from l on names a page of the memory, and no page comes twice.
abbrev pub CanFill : List ℕ → ℕ → ℕ → Type 0
CanFill ps k l = LeadsApart (Has ps) ps k l

-- ---- Pages made

-- The page of the next n records of s, with this local level and this link, and the source of the others.
pub record HasPage (ps : List ℕ) (level n link : ℕ) (s : Source) (f : Filled) : Type 0 where
  pub words : f.w ≡ filled_page level (take n (chosen_of ps s)) link
  pub sits : Sits ps f.source.place
  pub can_choose : CanChoose f.source.choice
  pub others : chosen_of ps f.source ≡ drop n (chosen_of ps s)

-- ---- Chains written

-- The memory with a chain of the records es in the page `to` and the overflow pages xs.
unfoldable pub chain_written : ℕ → List ℕ → ℕ → ℕ → List Entry → List ℕ → List ℕ
chain_written b ps to level es xs = with_page (overflow_written b ps xs es) to (primary_of b level es xs)

-- The memory with the rest written, to pages from link l on.
unfoldable pub rest_written : ℕ → List ℕ → Option Planned → ℕ → List ℕ
rest_written b ps None l = ps
rest_written b ps (Some d) l = chain_written b ps d.to.0 d.level (chosen_of ps d.source) (linked_pages ps (overflow_needed b d.left) l)

-- The memory with the rest and then the chain c written, to pages from link l on: c's first, the rest's after them.
abbrev pub all_written : ℕ → Planned → ℕ → Option Planned → List ℕ → List ℕ
all_written b c l rest ps =
    chain_written b (rest_written b ps rest (link_after ps (overflow_needed b c.left) l)) c.to.0 c.level (chosen_of ps c.source) (linked_pages ps (overflow_needed b c.left) l)

-- The records of c can be read and are as many as it says; its page, and the pages from link l on that it needs, are pages of the memory.
pub record CanPlace (b : ℕ) (c : Planned) (l : ℕ) (ps : List ℕ) : Type 0 where
  pub sits : Sits ps c.source.place
  pub can_choose : CanChoose c.source.choice
  pub many : length (chosen_of ps c.source) ≡ c.left
  pub page_fits : c.to.0 * page_words + page_words ≤ length ps
  pub can_fill : CanFill ps (overflow_needed b c.left) l

abbrev pub CanPlaceRest : ℕ → Option Planned → ℕ → List ℕ → Type 0
CanPlaceRest b None l ps = Unit {0}
CanPlaceRest b (Some d) l ps = CanPlace b d l ps

-- The chain c can be written to pages from link l on, and the rest to those after them.
pub record CanWrite (b : ℕ) (c : Planned) (l : ℕ) (rest : Option Planned) (ps : List ℕ) : Type 0 where
  pub some_key : 1 ≤ b
  pub keys_fit : b ≤ most_records
  pub chain : CanPlace b c l ps
  pub others : CanPlaceRest b rest (link_after ps (overflow_needed b c.left) l) ps
