-- What Ellis 1987 argues for in section 4, over the memory alone: P2 with its statements S1 to S4 and, outside a restructuring, S3' and S4' (section 4.2); P3, where a search ends (4.3); the records of P4 (4.4).
-- P1 is specs/Progress.antt; P4's answers are specs/Book.antt.
-- Main definitions: Consistent (P2), PairsPlaced (where each record stands), HomeLocked, SearchEnds and LeftToWalk (P3), SameMap (P4).
use Rattle.std.specs.Prelude.{◌≡◌, Bool, true, false, cond, ◌||◌, List, ◌∷◌, ◌++◌, ℕ, ◌+◌, ◌/◌, ◌%◌, ◌≤◌, ◌<◌, length, get_or, ltb, leb}
use Rattle.std.proofs.Math.Option.{some}
use Rattle.model.specs.declared.Party.{Party}
use Rattle.model.specs.Answers.{found_or_absent}
use Rattle.model.specs.Sizes.{within}
use Rattle.model.specs.LockWords.{holds, chain_word}
use Rattle.model.specs.Addresses.{span, hash, chain_count}
use Rattle.model.specs.declared.Entry.{Entry}
use Rattle.model.specs.Entries.{has_key, setting_in, joined_all}
use Rattle.model.specs.Pages.{page_of, entries_of, primary_page, scratch_page}
use Rattle.model.specs.Chains.{sound, Chain, chain_of, list_from, entries_on, chains_from}
use Rattle.model.specs.Filling.{record_at, PairIs}
use Rattle.model.specs.LockRequests.{mode_of}
use Rattle.model.specs.Memory.{Memory, party_at}
use Rattle.model.specs.Calls.{step_call}
use Rattle.model.specs.Book.{Book, Entered, Value}
use Rattle.model.specs.Effects.{scratch_link}

-- ---- P2, the file

-- Whether a party's record is that of a restructuring in progress: the root was granted it for a split or a merge.
unfoldable pub restructures : Party → Bool
restructures p = within 16 22 p.step || within 24 30 p.step

-- Ellis's n, x chains of this round being split: 2^level × N + x.
abbrev pub chains_with : Memory → ℕ → ℕ
chains_with m x = chain_count m.root.originals m.root.level x

-- "The data structure is always consistent." A split's new chain counts from the write of the old one on (18), a merge's partner until the target is written (28).
pub record Consistent (m : Memory) : Type 0 where
  -- Ellis's x: so many chains, from the first on, have split in this round.
  pub split : ℕ
  -- Each chain of the file, looked through whole.
  pub chain : ℕ → Chain
  pub reads : (c : ℕ) → c < chains_with m split → chain_of m.root m.pages c ≡ sound (chain c)
  -- S1: "for all keys k contained in bucket i, h_(i.locallevel)(k) = i".
  pub homed : (c k : ℕ) → c < chains_with m split → has_key k (chain c).entries ≡ true → hash m.root.originals (chain c).level k ≡ c
  -- S2, by S2' at all times: "The contents of all bucket chains are disjoint."
  pub disjoint : (c d k : ℕ) → c < chains_with m split → d < chains_with m split → has_key k (chain c).entries ≡ true → has_key k (chain d).entries ≡ true → c ≡ d
  -- S3: the local levels are level + 1 on the first x chains, level on the others that h_level names, level + 1 on those behind them.
  pub levels : (c : ℕ) → c < chains_with m split
      → (chain c).level ≡ cond (ltb c split || leb (span m.root.originals m.root.level) c) (m.root.level + 1) m.root.level
  -- S4: "2^level N + next ≤ n ≤ 2^(level+1) N with next ≤ 2^level N − 1".
  pub at_least : chains_with m m.root.next ≤ chains_with m split
  pub at_most : chains_with m split ≤ span m.root.originals (m.root.level + 1)
  pub next_inside : m.root.next < span m.root.originals m.root.level
  -- S3' and S4', where "no restructuring operation (split or merge) is in progress": x = next, so n = 2^level N + next.
  pub at_rest_lem : ((q : ℕ) → restructures (party_at m.parties q) ≡ false) → split ≡ m.root.next

-- Where each record stands: record i of a chain is pair i mod b of the chain's page i / b, the primary page first.
pub record PairsPlaced (m : Memory) (f : Consistent m) : Type 0 where
  pub placed : (c i : ℕ) → c < chains_with m f.split → i < length (f.chain c).entries
      → PairIs (page_of m.pages (get_or (primary_page c ∷ (f.chain c).pages) (i / m.root.capacity) 0)) (i % m.root.capacity) (record_at (f.chain c).entries i)

-- ---- P3, the search

-- Party q's chain is the home of its key, and locked by it: "an appropriate target bucket has been locked", "h_(bucketchain.locallevel)(k) = bucketchain".
pub record HomeLocked (m : Memory) (q : ℕ) : Type 0 where
  pub chain : Chain
  pub reads : chain_of m.root m.pages (party_at m.parties q).chain ≡ sound chain
  pub home : hash m.root.originals chain.level (party_at m.parties q).key ≡ (party_at m.parties q).chain
  pub locked : holds (get_or m.locks (chain_word (party_at m.parties q).chain) 0) q (mode_of (party_at m.parties q)) ≡ true

-- The party's 6 ends its search: its chain is at that time the key's home, and the primary page is read "into a private buffer", its scratch page.
pub record SearchEnds (m : Memory) (q : ℕ) : Type 0 where
  pub at_home : HomeLocked m q
  pub current : page_of (step_call m q).memory.pages (scratch_page m.root q) ≡ page_of m.pages (primary_page (party_at m.parties q).chain)

-- 9: its chain is locked for reading; scratch and the pages behind it are what is left to look at, and have the key, with this setting, exactly where the book noted found with it.
pub record LeftToWalk (m : Memory) (b : Book) (q : ℕ) : Type 0 where
  pub entered : Entered
  pub entry : b.entries q ≡ some entered
  pub rest : List ℕ
  pub reads : list_from m.root m.pages (scratch_link m q) ≡ sound rest
  pub note : entered.note
      ≡ some (found_or_absent (setting_in (party_at m.parties q).key (entries_of (page_of m.pages (scratch_page m.root q)) ++ entries_on m.pages rest)))
  pub locked : holds (get_or m.locks (chain_word (party_at m.parties q).chain) 0) q (mode_of (party_at m.parties q)) ≡ true

-- ---- P4, the records

-- A chain of the file has key k, with setting x. (What records_in says of one key: proofs/Theorems/Records.antt.)
pub record InFile (m : Memory) (f : Consistent m) (k : ℕ) (x : Value) : Type 0 where
  pub number : ℕ
  pub inside : number < chains_with m f.split
  pub has : setting_in k (f.chain number).entries ≡ some x

-- "The set of records in the hashfile": those of all its chains, joined in the order of their keys.
unfoldable pub records_in : (m : Memory) → Consistent m → List Entry
records_in m f = joined_all (chains_from m.root m.pages (chains_with m f.split) 0)

-- They are the book's map, which decisive steps alone change.
pub record SameMap (m : Memory) (b : Book) (f : Consistent m) : Type 0 where
  pub records : records_in m f ≡ b.contents
