-- A chain looked through in two passes: its pages walked, then its records gathered.
-- Main definitions: overflow_of (a chain's overflow pages, walked), CanWalk, CanGather; entries_from and Followed (the records on the pages that a link leads to);
-- gathered, in_front and entries_in (a chain gathered in a buffer).
use Rattle.std.specs.Prelude.{◌≡◌, cond, List, ℕ, ◌+◌, ◌*◌, ◌≤◌, ◌<◌, length, take, Result, Ok, Err}
use Rattle.model.specs.declared.Damaged.{Damaged}
use Rattle.model.specs.declared.Root.{Root}
use Rattle.model.specs.Sizes.{page_words, most_records, record_words}
use Rattle.model.specs.declared.Entry.{Entry}
use Rattle.model.specs.Pages.{page_of, count_of, link_of, records_in, page_sound, primary_page}
use Rattle.model.specs.Chains.{Checked, damaged, sound, and_then, list_from, entries_on, Chain}
use Rattle.chains.specs.Links.{linked_pages, LeadsOn}
use Rattle.chains.specs.Walks.{answered, counted}
use Rattle.chain_keys.specs.declared.Front.{Front}

-- The overflow pages of chain c: its primary page is tested, and every page of the list.
unfoldable pub overflow_of : Root → List ℕ → ℕ → Checked (List ℕ)
overflow_of r ps c = cond (page_sound r (page_of ps (primary_page c))) (list_from r ps (link_of (page_of ps (primary_page c)))) damaged

-- The page memory has all primary and overflow pages, and chain c is one of the chains.
pub record CanWalk (r : Root) (ps : List ℕ) (c : ℕ) : Type 0 where
  pub chain_fits : c < r.primaries
  pub pages_fit : page_words * (r.primaries + r.overflow) ≤ length ps

-- The n overflow pages of chain c were walked, and the buffer, of `room` words, has room for the records of all its pages.
pub record CanGather (r : Root) (ps : List ℕ) (c n room : ℕ) : Type 0 where
  pub can_walk : CanWalk r ps c
  pub keys_fit : r.capacity ≤ most_records
  pub walked : counted (overflow_of r ps c) ≡ Ok n
  pub has_room : most_records * record_words * (n + 1) ≤ room

-- The records on the n pages from link l on.
unfoldable pub entries_from : List ℕ → ℕ → ℕ → List Entry
entries_from ps n l = entries_on ps (linked_pages ps n l)

-- Page x is within the page memory, and its count is no damage.
pub record CanRead (ps : List ℕ) (x : ℕ) : Type 0 where
  pub fits : x * page_words + page_words ≤ length ps
  pub few : count_of (page_of ps x) ≤ most_records

-- There are n pages from link l on, and they can be read.
abbrev pub Followed : List ℕ → ℕ → ℕ → Type 0
Followed ps n l = LeadsOn (CanRead ps) ps n l

-- What is said of a chain whose records stand at the front of a buffer.
abbrev pub front_of : Chain → Front
front_of c = record { level = c.level; link = c.link; count = length c.entries }

-- What gathering a chain answers.
abbrev pub gathered : Checked Chain → Result Front Damaged
gathered x = answered front_of x

-- The records that gathering left at the front of the buffer.
abbrev pub in_front : Result Front Damaged → List ℕ → Checked (List Entry)
in_front (Err e) words = damaged
in_front (Ok g) words = sound (take g.count (records_in words))

-- The records of a chain that was looked through whole.
abbrev pub entries_in : Checked Chain → Checked (List Entry)
entries_in x = and_then x (λ c. sound c.entries)
