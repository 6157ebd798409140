-- Step 10 on a chain of few pages: what its functions may take for granted.
-- Main definitions: CanChangeFew (the pages were walked, and they are few), CanChangeFront (the records at the front
-- of the buffer are to be changed), CanWriteFew (the changed records are few).
use Rattle.std.specs.Prelude.{◌≡◌, true, not, List, ℕ, ◌+◌, ◌*◌, ◌≤◌, length, take, eqb, Ok}
use Rattle.model.specs.declared.Party.{Party}
use Rattle.model.specs.Sizes.{most_records, record_words}
use Rattle.model.specs.Entries.{has_key, ascending}
use Rattle.model.specs.Pages.{records_in}
use Rattle.records.specs.declared.Working.{Working}
use Rattle.entries.specs.Places.{place_of}
use Rattle.chains.specs.Walks.{counted}
use Rattle.chain_keys.specs.Gathering.{overflow_of}
use Rattle.chain_change.specs.Changing.{CanChange}

-- The n overflow pages of the party's chain were walked, and there are seven at most.
pub record CanChangeFew (w : Working) (n : ℕ) (ps : List ℕ) : Type 0 where
  pub can_change : CanChange w ps
  pub walked : counted (overflow_of w.root ps w.party.chain) ≡ Ok n
  pub few : n ≤ 7

-- The `count` records at the front of the words ascend, with room for one more; `at` is the place of the party's key,
-- which is among them unless the party inserts.
pub record CanChangeFront (p : Party) (at count : ℕ) (words : List ℕ) : Type 0 where
  pub has_room : (count + 1) * record_words ≤ length words
  pub ascends : ascending (take count (records_in words)) ≡ true
  pub place : at ≡ place_of p.key (take count (records_in words))
  pub changes : has_key p.key (take count (records_in words)) ≡ not (eqb p.operation 2)

-- The m records at the front of the words are one more at most than eight pages have, so that eight overflow pages
-- have room for them; and the words of a page can be read wherever one of them stands.
pub record CanWriteFew (w : Working) (m : ℕ) (words ps : List ℕ) : Type 0 where
  pub can_change : CanChange w ps
  pub few : m ≤ 8 * w.root.capacity + 1
  pub has_room : (m + most_records) * record_words ≤ length words
