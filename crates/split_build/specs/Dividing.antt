-- The chain of step 17 divided where it stands: its records, its two halves, and what writing them needs of the
-- memory.
-- Main definitions: records_of (a chain's records); staying_from, going_from, Divides (a division, as the code has
-- it); CanDivide, CanWriteHalves (what the functions need).
use Rattle.std.specs.Prelude.{◌≡◌, List, ◌++◌, ℕ, ◌+◌, ◌*◌, ◌≤◌, length}
use Rattle.model.specs.declared.Root.{Root}
use Rattle.model.specs.Sizes.{page_words, most_records}
use Rattle.model.specs.declared.Entry.{Entry}
use Rattle.model.specs.Pages.{page_of, link_of, entries_of}
use Rattle.model.specs.Filling.{overflow_needed}
use Rattle.model.specs.Steps.SplitBuild.{Halves}
use Rattle.model.proofs.Laws.Distinct.{Outside}
use Rattle.chain_keys.specs.Gathering.{entries_from}
use Rattle.chain_scan.specs.declared.Looked.{Looked}
use Rattle.key_source.specs.declared.Choice.TheVariants.{Staying, Going}
use Rattle.key_source.specs.declared.Source.{Source}
use Rattle.key_source.specs.Sources.{Sits, CanStart, CanHalve, chosen_of}
use Rattle.chains.specs.Links.{linked_pages}
use Rattle.chain_writer.specs.Writing.{CanFill}
use Rattle.split_build.specs.declared.Division.{Division}

-- ---- A chain's records

-- The records of page c and of the n pages that its link leads to.
unfoldable pub records_of : List ℕ → ℕ → ℕ → List Entry
records_of ps c n = entries_of (page_of ps c) ++ entries_from ps n (link_of (page_of ps c))

-- ---- A division

abbrev pub staying_from : Division → Source
staying_from d = record { choice = Staying d.halving; place = d.place }

abbrev pub going_from : Division → Source
going_from d = record { choice = Going d.halving; place = d.place }

-- The halves h can be read where they stand, and d has how many records each has.
pub record Divides (ps : List ℕ) (h : Halves) (d : Division) : Type 0 where
  pub sits : Sits ps d.place
  pub can_halve : CanHalve d.halving
  pub stay : chosen_of ps (staying_from d) ≡ h.stay
  pub go : chosen_of ps (going_from d) ≡ h.go
  pub many_stay : d.staying ≡ length h.stay
  pub many_go : d.going ≡ length h.go

-- The chain of page c has as many pages and records as l says, and they can be read; the hash function of the next
-- level is one that the file uses.
pub record CanDivide (r : Root) (ps : List ℕ) (c : ℕ) (l : Looked) : Type 0 where
  pub some_original : 1 ≤ r.originals
  pub originals_fit : r.originals ≤ 256
  pub level_fits : r.level ≤ 8
  pub can_start : CanStart ps c l.pages
  pub count : l.count ≡ length (records_of ps c l.pages)

-- ---- Both halves written

-- The overflow pages that the staying half needs, and both.
abbrev pub first_need : Root → Division → ℕ
first_need r d = overflow_needed r.capacity d.staying

abbrev pub both_need : Root → Division → ℕ
both_need r d = first_need r d + overflow_needed r.capacity d.going

-- Both halves can be read, the pages at the head of the free list can be filled, and the memory has the places of both
-- primary pages.
pub record CanWriteHalves (r : Root) (ps : List ℕ) (d : Division) (scratch other : ℕ) : Type 0 where
  pub some_key : 1 ≤ r.capacity
  pub keys_fit : r.capacity ≤ most_records
  pub level_fits : r.level ≤ 8
  pub sits : Sits ps d.place
  pub can_halve : CanHalve d.halving
  pub many_stay : length (chosen_of ps (staying_from d)) ≡ d.staying
  pub many_go : length (chosen_of ps (going_from d)) ≡ d.going
  pub scratch_fits : scratch * page_words + page_words ≤ length ps
  pub other_fits : other * page_words + page_words ≤ length ps
  pub can_fill : CanFill ps (both_need r d) r.head
  pub apart : Outside other (linked_pages ps (first_need r d) r.head)
