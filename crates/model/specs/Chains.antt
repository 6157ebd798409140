-- Bucket chains walked by their links, with the tests of damage (document 01, "Refused calls").
-- Main definitions: Checked (a reading, or damage); overflow_from and list_from (the pages that a link leads to); Chain
-- and chain_of (a chain looked through whole); chains_from (the records of some chains).
use Rattle.std.specs.Prelude.{Bool, true, false, cond, List, [], ◌∷◌, ◌++◌, ℕ, zero, suc, ◌+◌, eqb}
use Rattle.model.specs.declared.Root.{Root}
use Rattle.model.specs.declared.Entry.{Entry}
use Rattle.model.specs.Entries.{ascending}
use Rattle.model.specs.Pages.{page_of, level_of, link_of, entries_of, page_sound, primary_page, linked_page}

-- What was read, or that a number was damaged.
pub data Checked (A : Type 0) : Type 0 where
  damaged : Checked A
  sound : A → Checked A

-- A value where the test holds, damage where it does not.
abbrev pub sound_if : {A : Type 0} → Bool → A → Checked A
sound_if true a = sound a
sound_if false a = damaged

-- A reading, and one more that needs what it read.
abbrev pub and_then : {A B : Type 0} → Checked A → (A → Checked B) → Checked B
and_then damaged f = damaged
and_then (sound a) f = f a

-- The pages that link l leads to, in order, at most n of them, each sound; the link itself was tested where it was read.
unfoldable pub overflow_from : Root → List ℕ → ℕ → ℕ → Checked (List ℕ)
overflow_from r ps zero l = sound_if (eqb l 0) []
overflow_from r ps (suc n) l =
    let x = linked_page l in
    let rest = overflow_from r ps n (link_of (page_of ps x)) in
    let more = cond (page_sound r (page_of ps x)) (and_then rest (λ xs. sound (x ∷ xs))) damaged in
    cond (eqb l 0) (sound []) more

-- "a chain of more than V overflow pages" is damage.
unfoldable pub list_from : Root → List ℕ → ℕ → Checked (List ℕ)
list_from r ps l = overflow_from r ps r.overflow l

-- The records on the pages xs, one page after the other.
unfoldable pub entries_on : List ℕ → List ℕ → List Entry
entries_on ps [] = []
entries_on ps (x ∷ xs) = entries_of (page_of ps x) ++ entries_on ps xs

-- A chain looked through whole: its local level, its link, its overflow pages and its records.
pub record Chain : Type 0 where
  pub level : ℕ
  pub link : ℕ
  pub pages : List ℕ
  pub entries : List Entry

unfoldable pub read_chain : List ℕ → ℕ → List ℕ → Chain
read_chain ps c xs = record {
  level = level_of (page_of ps (primary_page c));
  link = link_of (page_of ps (primary_page c));
  pages = xs;
  entries = entries_on ps (primary_page c ∷ xs);
}

-- "keys that do not strictly ascend in a chain looked through whole" are damage.
unfoldable pub ascending_chain : Chain → Checked Chain
ascending_chain c = sound_if (ascending c.entries) c

unfoldable pub chain_of : Root → List ℕ → ℕ → Checked Chain
chain_of r ps c =
    let w = page_of ps (primary_page c) in
    let walked = and_then (list_from r ps (link_of w)) (λ xs. ascending_chain (read_chain ps c xs)) in
    cond (page_sound r w) walked damaged

-- The overflow pages of a chain that reads as sound, and of a list.
unfoldable pub pages_in : Checked Chain → List ℕ
pages_in damaged = []
pages_in (sound c) = c.pages

unfoldable pub pages_listed : Checked (List ℕ) → List ℕ
pages_listed damaged = []
pages_listed (sound xs) = xs

-- Its records, and those of the n chains from chain c on, a list each.
unfoldable pub records_read : Checked Chain → List Entry
records_read damaged = []
records_read (sound c) = c.entries

unfoldable pub chains_from : Root → List ℕ → ℕ → ℕ → List (List Entry)
chains_from r ps zero c = []
chains_from r ps (suc n) c = records_read (chain_of r ps c) ∷ chains_from r ps n (c + 1)
