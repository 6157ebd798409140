-- Step 10 in its parts (document 01, "The thirty steps"): what the code says became of a chain, and what that leaves
-- of the memory.
-- Main definitions: kept_answer and changed_answer (an operation's answer), after_change (the memory after a change),
-- CanChange (what every change may take for granted).
use Rattle.std.specs.Prelude.{cond, List, ℕ, ◌+◌, ◌-◌, ◌*◌, ◌≤◌, ◌<◌, length, eqb, Result, Ok, Err}
use Rattle.model.specs.declared.Damaged.{Damaged}
use Rattle.model.specs.declared.Refusal.{Refusal}
use Rattle.model.specs.Sizes.{page_words, most_records}
use Rattle.model.specs.Records.{at_step, with_answer, with_old, with_owed, with_free_list}
use Rattle.model.specs.Pages.{page_of, link_of, primary_page}
use Rattle.model.specs.Outcome.{View, Outcome, refuse, moved, with_root, with_party, with_pages}
use Rattle.records.specs.declared.Working.{Working}
use Rattle.endings.specs.Scratch.{HasScratch}
use Rattle.chain_change.specs.declared.Changed.{Changed}

-- The answer's number of an operation that changes nothing, and of one that changes its chain.
unfoldable pub kept_answer : ℕ → ℕ
kept_answer operation = cond (eqb operation 2) 2 4

unfoldable pub changed_answer : ℕ → ℕ
changed_answer operation = cond (eqb operation 2) 1 3

-- The memory after a change that left the page words ps. A new chain: "set answer, old link and owed".
unfoldable pub after_change : View → List ℕ → Result Changed Damaged → Outcome
after_change v ps (Err d) = refuse Refusal.Damage (with_pages ps v)
after_change v ps (Ok (Changed.Kept a)) = moved (with_party (at_step 12 (with_answer a v.party)) (with_pages ps v))
after_change v ps (Ok (Changed.Written m)) =
    let link = link_of (page_of v.pages (primary_page v.party.chain)) in
    let p = at_step 11 (with_owed m.owed (with_old link (with_answer m.answer v.party))) in
    moved (with_party p (with_root (with_free_list m.head (v.root.free - m.taken) v.root) (with_pages ps v)))

-- The sizes are within their limits, the page memory has all pages and the party's scratch page, and the party's chain
-- is one of the chains.
pub record CanChange (w : Working) (ps : List ℕ) : Type 0 where
  pub chains_fit_ok : w.root.primaries ≤ 256
  pub overflow_fits : w.root.overflow ≤ 752
  pub some_key : 1 ≤ w.root.capacity
  pub keys_fit : w.root.capacity ≤ most_records
  pub free_fits : w.root.free ≤ w.root.overflow
  pub chain_fits : w.party.chain < w.root.primaries
  pub pages_fit : page_words * (w.root.primaries + w.root.overflow) ≤ length ps
  pub scratch : HasScratch w.root w.number ps
