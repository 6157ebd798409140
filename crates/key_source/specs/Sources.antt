-- The records of a new chain, read where they stand: a place in a chain, and which of the chain's records are chosen.
-- Main definitions: records_at and Sits (the records from a place on, and that they can be read); chosen (of a chain's records, those of the new chain), CanChoose; chosen_of (the records of a source).
-- entry_at (the record at a place). A choice key by key: kept, extra_records; CanStart (a page whose records, and those of the pages after it, can be read); Gives (one record taken off).
use Rattle.std.specs.Prelude.{◌≡◌, Bool, true, not, List, ◌∷◌, ◌++◌, ℕ, ◌+◌, ◌-◌, ◌*◌, ◌≤◌, length, get_or, take, drop, eqb}
use Rattle.model.specs.declared.Entry.{Entry}
use Rattle.model.specs.Sizes.{page_words, most_records, record_words}
use Rattle.model.specs.Addresses.{hash}
use Rattle.model.specs.Entries.{entry_of, inserted_into, removed_from, staying, going}
use Rattle.model.specs.Pages.{page_of, count_of, link_of, records_in}
use Rattle.chain_keys.specs.Gathering.{entries_from, Followed}
use Rattle.key_source.specs.declared.Place.{Place}
use Rattle.key_source.specs.declared.Halving.{Halving}
use Rattle.key_source.specs.declared.Choice.{Choice}
use Rattle.key_source.specs.declared.Choice.TheVariants.{All, With, Without, Staying, Going}
use Rattle.key_source.specs.declared.Source.{Source}
use Rattle.key_source.specs.declared.Given.{Given}

-- ---- Places

-- The records from a place on: those left on its page, and those of the pages that its link leads to.
unfoldable pub records_at : List ℕ → Place → List Entry
records_at ps p = take p.left (records_in (drop p.at ps)) ++ entries_from ps p.pages p.link

-- These records are within the page memory.
pub record Sits (ps : List ℕ) (p : Place) : Type 0 where
  pub within : p.at + p.left * record_words ≤ length ps
  pub few : p.left ≤ most_records
  pub few_pages_lem : p.pages ≤ 752
  pub followed : Followed ps p.pages p.link

-- A page is within the page memory, its count is no damage, and n pages follow it.
pub record CanStart (ps : List ℕ) (page n : ℕ) : Type 0 where
  pub fits : page * page_words + page_words ≤ length ps
  pub few : count_of (page_of ps page) ≤ most_records
  pub few_pages_lem : n ≤ 752
  pub followed : Followed ps n (link_of (page_of ps page))

-- The record whose key is word i.
abbrev pub entry_at : List ℕ → ℕ → Entry
entry_at ps i = entry_of (get_or ps i 0) (get_or ps (i + 1) 0)

-- One record further on the same page.
abbrev pub onward : Place → Place
onward p = record { at = p.at + record_words; left = p.left - 1; link = p.link; pages = p.pages }

-- ---- Choices

-- Which records of a chain the new chain has.
unfoldable pub chosen : Choice → List Entry → List Entry
chosen All es = es
chosen (With x) es = inserted_into x es
chosen (Without k) es = removed_from k es
chosen (Staying h) es = staying h.originals h.level h.chain.0 es
chosen (Going h) es = going h.originals h.level h.chain.0 es

-- The hash function of a division is one that the file uses.
pub record CanHalve (h : Halving) : Type 0 where
  pub some_original : 1 ≤ h.originals
  pub originals_fit : h.originals ≤ 256
  pub level_fits : h.level ≤ 10

abbrev pub CanChoose : Choice → Type 0
CanChoose All = Unit {0}
CanChoose (With x) = Unit {0}
CanChoose (Without k) = Unit {0}
CanChoose (Staying h) = CanHalve h
CanChoose (Going h) = CanHalve h

-- Whether a record of the chain is chosen, by its key k.
unfoldable pub kept : Choice → ℕ → Bool
kept All k = true
kept (With x) k = true
kept (Without j) k = not (eqb k j)
kept (Staying h) k = eqb (hash h.originals h.level k) h.chain.0
kept (Going h) k = not (eqb (hash h.originals h.level k) h.chain.0)

-- How many records come in addition to those of the chain.
unfoldable pub extra_records : Choice → ℕ
extra_records All = 0
extra_records (With x) = 1
extra_records (Without k) = 0
extra_records (Staying h) = 0
extra_records (Going h) = 0

-- ---- Sources

-- The records of a source.
unfoldable pub chosen_of : List ℕ → Source → List Entry
chosen_of ps s = chosen s.choice (records_at ps s.place)

-- The record x, and after it all records from a place on.
abbrev pub then_all : Entry → Place → Given
then_all x p = record { entry = x; source = record { choice = All; place = p } }

-- The first of the records es is given, and the source of the others.
pub record Gives (ps : List ℕ) (es : List Entry) (g : Given) : Type 0 where
  pub sits : Sits ps g.source.place
  pub can_choose : CanChoose g.source.choice
  pub records : es ≡ g.entry ∷ chosen_of ps g.source
