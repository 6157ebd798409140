-- Step 17 in its parts (document 01, "The thirty steps"): what the code says became of a chain, what that leaves of
-- the memory, and what the functions may take for granted.
-- Main definitions: halved (a chain's halves), both_written (both in new pages); after_dividing (the memory after a
-- division); CanSplit (what every division may take for granted);
-- CanDivideFew (the pages were walked, and they are few), CanPart, CanWriteHalves (buffers with the records of a
-- chain, and of its halves).
use Rattle.std.specs.Prelude.{◌≡◌, false, List, [], ◌∷◌, ℕ, ◌+◌, ◌*◌, ◌≤◌, ◌<◌, length, take, drop, Result, Ok, Err, Option, Some, None}
use Rattle.model.specs.declared.Root.{Root}
use Rattle.model.specs.declared.Damaged.{Damaged}
use Rattle.model.specs.declared.Refusal.{Refusal}
use Rattle.model.specs.declared.Entry.{Entry}
use Rattle.model.specs.declared.Restructuring.TheVariants.{SplitSkipped}
use Rattle.model.specs.Sizes.{most_records, record_words}
use Rattle.model.specs.Records.{at_step, with_old, with_free_list}
use Rattle.model.specs.Addresses.{split_barred, count_of_chains}
use Rattle.model.specs.Entries.{staying, going}
use Rattle.model.specs.Pages.{page_of, with_page, link_of, primary_page}
use Rattle.model.specs.Filling.{primary_of, overflow_written}
use Rattle.model.specs.Outcome.{View, Outcome, refuse, moved, with_root, with_party, with_pages}
use Rattle.model.specs.LockRequests.{root_selective, chain_selective}
use Rattle.model.specs.Endings.{ended_with}
use Rattle.model.specs.Steps.SplitBuild.{Halves}
use Rattle.records.specs.declared.Working.{Working}
use Rattle.chains.specs.Walks.{counted}
use Rattle.chain_keys.specs.Gathering.{overflow_of}
use Rattle.chain_change.specs.Changing.{CanChange}
use Rattle.key_source.specs.declared.Halving.{Halving}
use Rattle.key_source.specs.Sources.{CanHalve}
use Rattle.split_few.specs.declared.Halved.{Halved}

-- ---- Both halves

-- Records that stay and records that go.
abbrev pub both : List Entry → List Entry → Halves
both stay go = record { stay = stay; go = go }

-- The halves of the records of chain c.
abbrev pub halved : Root → ℕ → List Entry → Halves
halved r c es = both (staying r.originals (r.level + 1) c es) (going r.originals (r.level + 1) c es)

-- The page memory with the overflow pages of both halves, the new chain's primary page and, in scratch, the old
-- chain's.
unfoldable pub both_written : ℕ → ℕ → ℕ → ℕ → Halves → ℕ → List ℕ → List ℕ → List ℕ
both_written b level other scratch h first taken ps =
    let qs = overflow_written b (overflow_written b ps (take first taken) h.stay) (drop first taken) h.go in
    with_page (with_page qs other (primary_of b level h.go (drop first taken))) scratch (primary_of b level h.stay (take first taken))

-- ---- A division, whichever way

-- The memory after a division that left the page words ps: two chains, and "set the old link"; or none, and "give up
-- both locks, done, split skipped".
unfoldable pub after_dividing : View → List ℕ → Result (Option Halved) Damaged → Outcome
after_dividing v ps (Err d) = refuse Refusal.Damage (with_pages ps v)
after_dividing v ps (Ok None) = ended_with (with_pages ps v) (root_selective ∷ (chain_selective v.party ∷ [])) SplitSkipped
after_dividing v ps (Ok (Some m)) =
    let link = link_of (page_of v.pages (primary_page v.party.chain)) in
    moved (with_party (at_step 18 (with_old link v.party)) (with_root (with_free_list m.head m.free v.root) (with_pages ps v)))

-- A chain is left to split into, the party's chains are chains of the file, and the hash function of the next level is
-- one that the file uses.
pub record CanSplit (w : Working) (ps : List ℕ) : Type 0 where
  pub can_change : CanChange w ps
  pub some_original : 1 ≤ w.root.originals
  pub originals_fit : w.root.originals ≤ 256
  pub level_fits : w.root.level ≤ 8
  pub other_fits : w.party.other < w.root.primaries
  pub not-barred : split_barred (count_of_chains w.root) w.root.primaries ≡ false

-- ---- Few pages

-- The n overflow pages of the party's chain were walked, and there are seven at most.
pub record CanDivideFew (w : Working) (n : ℕ) (ps : List ℕ) : Type 0 where
  pub can_split : CanSplit w ps
  pub walked : counted (overflow_of w.root ps w.party.chain) ≡ Ok n
  pub few : n ≤ 7

-- Both buffers have room for so many records.
pub record CanPart (h : Halving) (count : ℕ) (words gone : List ℕ) : Type 0 where
  pub can_halve : CanHalve h
  pub front_fits : count * record_words ≤ length words
  pub back_fits : count * record_words ≤ length gone

-- Both halves have no more records than eight pages, and each buffer has room for so many and for a page's more.
pub record CanWriteHalves (w : Working) (m n : ℕ) (words gone ps : List ℕ) : Type 0 where
  pub can_split : CanSplit w ps
  pub few : m + n ≤ 8 * w.root.capacity
  pub stay_room : (8 * w.root.capacity + most_records) * record_words ≤ length words
  pub go_room : (8 * w.root.capacity + most_records) * record_words ≤ length gone
