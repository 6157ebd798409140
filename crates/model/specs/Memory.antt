-- The lent memory whole (document 01, "The lent memory"), and what format makes of it.
-- Main definitions: Memory, party_at, view_of, after_step, with_waiting; formatted.
use Rattle.std.specs.Prelude.{cond, List, [], ◌++◌, ℕ, zero, suc, ◌+◌, ◌*◌, get_or, set, replicate, eqb}
use Rattle.model.specs.declared.Root.{Root}
use Rattle.model.specs.declared.Party.{Party}
use Rattle.model.specs.Sizes.{page_words, lock_words}
use Rattle.model.specs.Records.{idle, with_free_list}
use Rattle.model.specs.Pages.{free_page, link_to}
use Rattle.model.specs.Outcome.{View}
use Rattle.model.specs.WaitingRow.{stands_behind}

-- The root record, the row of party records, the lock words, the page words and the waiting row.
pub record Memory : Type 0 where
  pub root : Root
  pub parties : List Party
  pub locks : List ℕ
  pub pages : List ℕ
  pub waiting : List ℕ

-- Party q's record; past the row's end, the zero record.
abbrev pub party_at : List Party → ℕ → Party
party_at ps q = get_or ps q idle

-- The memory as party q's step is lent it.
abbrev pub view_of : Memory → ℕ → View
view_of m q = record { root = m.root; party = party_at m.parties q; number = q; locks = m.locks; pages = m.pages; behind = stands_behind m.root m.parties m.waiting q }

-- The memory after a step of party q left this view.
abbrev pub after_step : Memory → View → Memory
after_step m v = record { root = v.root; parties = set m.parties v.number v.party; locks = v.locks; pages = v.pages; waiting = m.waiting }

-- The memory with another waiting row.
abbrev pub with_waiting : List ℕ → Memory → Memory
with_waiting row m = record { root = m.root; parties = m.parties; locks = m.locks; pages = m.pages; waiting = row }

-- ---- Format

-- n free pages from page x on, each linked to the next, the last to none.
unfoldable pub free_pages : ℕ → ℕ → List ℕ
free_pages x zero = []
free_pages x (suc n) = free_page (cond (eqb n 0) 0 (link_to (x + 1))) ++ free_pages (x + 1) n

-- "Format makes N empty chains of level 0, lists overflow pages ascending and zeroes the rest."
unfoldable pub formatted_root : Root → Root
formatted_root r = with_free_list (cond (eqb r.overflow 0) 0 (link_to r.primaries)) r.overflow r

unfoldable pub formatted_pages : Root → List ℕ
formatted_pages r = replicate (page_words * r.primaries) 0 ++ (free_pages r.primaries r.overflow ++ replicate (page_words * r.parties) 0)

unfoldable pub formatted : Root → Memory
formatted r = record {
  root = formatted_root r;
  parties = replicate r.parties idle;
  locks = replicate (lock_words r) 0;
  pages = formatted_pages r;
  waiting = replicate r.parties 0;
}
