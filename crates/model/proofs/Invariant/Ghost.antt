-- What only the proof knows: who owns each overflow page, the list of pages that each owner has, the records of each live chain, and how far the live file extends.
-- Main statements: Owner, Extent, Ghost; Owned (each overflow page is once in its owner's list and in no other); own_after, held_after (owners and lists after pages changed hands).
use mathlib.Core.Path.{◌≡◌}
use mathlib.Core.Bool.{Bool, false, cond, ◌&&◌}
use mathlib.Core.List.{List, []}
use Prim.Native.Nat.{ℕ, ◌+◌, ◌≤◌, ◌<◌}
use lib.Dec.{ltb, leb, eqb}
use Rattle.model.specs.declared.Root.{Root}
use Rattle.model.specs.declared.Entry.{Entry}
use Rattle.model.specs.Addresses.{span, chain_count}
use Rattle.model.specs.FreeList.{is_among}
unfoldable pub use Rattle.model.specs.PagePlaces.{count}

-- ---- Owners

-- An owner: a kind, and the number of the chain or the party.
pub record Owner : Type 0 where
  pub kind : ℕ
  pub index : ℕ

abbrev pub owner : ℕ → ℕ → Owner
owner k i = record { kind = k; index = i }

-- No overflow page.
abbrev pub nobody : Owner
nobody = owner 0 0

-- The free list.
abbrev pub free : Owner
free = owner 1 0

-- Live chain c.
abbrev pub in_chain : ℕ → Owner
in_chain c = owner 2 c

-- Pages that party q's old link leads to, to be given back.
abbrev pub old_of : ℕ → Owner
old_of q = owner 3 q

-- Pages of the partner that party q merged away, to be given back.
abbrev pub partner_of : ℕ → Owner
partner_of q = owner 4 q

-- Pages that party q's scratch page leads to, not in the file yet.
abbrev pub built_by : ℕ → Owner
built_by q = owner 5 q

-- Pages of the new chain of party q's split, not in the file yet.
abbrev pub new_by : ℕ → Owner
new_by q = owner 6 q

-- These are all: of the kinds 0 and 1 there is one each.
abbrev pub Named : Owner → Type 0
Named o = (o.kind ≤ 6) × (o.kind ≤ 1 → o.index ≡ 0)

unfoldable pub same_owner : Owner → Owner → Bool
same_owner a b = eqb a.kind b.kind && eqb a.index b.index

-- 1 where the owners are the same, else 0.
unfoldable pub owns : Owner → Owner → ℕ
owns a b = cond (same_owner a b) 1 0

-- ---- How far a file extends

-- A level and a next.
pub record Extent : Type 0 where
  pub level : ℕ
  pub next : ℕ

abbrev pub extent : ℕ → ℕ → Extent
extent l x = record { level = l; next = x }

abbrev pub root_extent : Root → Extent
root_extent r = extent r.level r.next

-- How many chains it has.
unfoldable pub size : ℕ → Extent → ℕ
size n e = chain_count n e.level e.next

-- The extent one split further.
unfoldable pub advance : ℕ → Extent → Extent
advance n e = cond (eqb (e.next + 1) (span n e.level)) (extent (e.level + 1) 0) (extent e.level (e.next + 1))

-- The local level of chain c: one more on the chains that have split in this round, and on those they made.
unfoldable pub local_level : ℕ → Extent → ℕ → ℕ
local_level n e c = cond (ltb c e.next) (e.level + 1) (cond (leb (span n e.level) c) (e.level + 1) e.level)

-- ---- The ghost

-- What only the proof knows of a memory.
pub record Ghost : Type 0 where
  -- The owner of each page.
  pub own : ℕ → Owner
  -- Each owner's pages, in the order in which links lead through them.
  pub held : Owner → List ℕ
  -- The records of each live chain, in order.
  pub records : ℕ → List Entry
  -- How far the live file extends.
  pub live : Extent
  -- How far a party at 4 or 5 may count on it to extend.
  pub low : Extent

-- Each overflow page, from p to p + v − 1, is in exactly one list, that of its owner, and once. Every other page is nobody's, and nobody has no list.
pub record Owned (p v : ℕ) (own : ℕ → Owner) (held : Owner → List ℕ) : Type 0 where
  pub once : (o : Owner) (x : ℕ) → same_owner o nobody ≡ false → count x (held o) ≡ owns (own x) o
  pub none_of_nobody : held nobody ≡ []
  pub owned : (x : ℕ) → p ≤ x → x < p + v → same_owner (own x) nobody ≡ false
  pub inside : (x : ℕ) → same_owner (own x) nobody ≡ false → (p ≤ x) × (x < p + v)

-- The owners after the pages ys went to owner o, and the lists after owner o has the list l.
unfoldable pub own_after : (ℕ → Owner) → List ℕ → Owner → ℕ → Owner
own_after own ys o x = cond (is_among x ys) o (own x)

unfoldable pub held_after : (Owner → List ℕ) → Owner → List ℕ → Owner → List ℕ
held_after held o l a = cond (same_owner a o) l (held a)
