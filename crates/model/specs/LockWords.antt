-- Lock words and Table I (document 01, "The lent memory" and "Addresses and locks").
-- A lock word is read by fields: bit q marks party q as a reader, bits 16 to 20 hold the selective holder plus one, bits 21 to 25 the exclusive holder plus one.
-- Main definitions: field_of, with_field; Claim (a lock: which word, which mode); table_one (Table I, its nine entries),
-- permits (Table I against a word); holds, granted_word, released_word.
use Rattle.std.specs.Prelude.{Bool, true, false, ◌&&◌, ℕ, ◌+◌, ◌*◌, ◌/◌, ◌%◌, ◌^◌, eqb}
use Rattle.model.specs.declared.Mode.{Mode}
use Rattle.model.specs.declared.Mode.TheVariants.{Read, Selective, Exclusive}

-- A lock: the number of its word, and the mode in which it is held or wanted.
pub record Claim : Type 0 where
  pub word : ℕ
  pub mode : Mode

abbrev pub claim : ℕ → Mode → Claim
claim i m = record { word = i; mode = m }

-- "word 0 for the root, word c+1 for chain c".
abbrev pub root_word : ℕ
root_word = 0

abbrev pub chain_word : ℕ → ℕ
chain_word c = c + 1

-- The n bits of w from bit k.
unfoldable pub field_of : ℕ → ℕ → ℕ → ℕ
field_of k n w = w / 2 ^ k % 2 ^ n

-- w with the n bits from bit k replaced by v; every other bit is kept.
unfoldable pub with_field : ℕ → ℕ → ℕ → ℕ → ℕ
with_field k n w v = (w / 2 ^ k / 2 ^ n * 2 ^ n + v) * 2 ^ k + w % 2 ^ k

-- The sixteen reader bits together, and the two holder fields.
abbrev pub readers_of : ℕ → ℕ
readers_of w = field_of 0 16 w

abbrev pub selective_of : ℕ → ℕ
selective_of w = field_of 16 5 w

abbrev pub exclusive_of : ℕ → ℕ
exclusive_of w = field_of 21 5 w

-- Table I: a request (first) beside a lock held, or one wanted by who came before (second): true to grant, false to
-- wait.
unfoldable pub table_one : Mode → Mode → Bool
table_one Read Read = true
table_one Read Selective = true
table_one Read Exclusive = false
table_one Selective Read = true
table_one Selective Selective = false
table_one Selective Exclusive = false
table_one Exclusive Read = false
table_one Exclusive Selective = false
table_one Exclusive Exclusive = false

-- Table I: whether a lock word permits a request. Read waits for an exclusive lock, selective for a selective or exclusive one, exclusive for any.
unfoldable pub permits : ℕ → Mode → Bool
permits w Read = eqb (exclusive_of w) 0
permits w Selective = eqb (selective_of w) 0 && eqb (exclusive_of w) 0
permits w Exclusive = eqb (readers_of w) 0 && eqb (selective_of w) 0 && eqb (exclusive_of w) 0

-- Whether party q holds the lock in this mode.
unfoldable pub holds : ℕ → ℕ → Mode → Bool
holds w q Read = eqb (field_of q 1 w) 1
holds w q Selective = eqb (selective_of w) (q + 1)
holds w q Exclusive = eqb (exclusive_of w) (q + 1)

-- The word after a grant to party q.
unfoldable pub granted_word : ℕ → ℕ → Mode → ℕ
granted_word w q Read = with_field q 1 w 1
granted_word w q Selective = with_field 16 5 w (q + 1)
granted_word w q Exclusive = with_field 21 5 w (q + 1)

-- The word after party q gave the lock up.
unfoldable pub released_word : ℕ → ℕ → Mode → ℕ
released_word w q Read = with_field q 1 w 0
released_word w q Selective = with_field 16 5 w 0
released_word w q Exclusive = with_field 21 5 w 0

-- "exclusive on root becomes selective" (step 27): the exclusive field is cleared and the selective field names q, whatever stood there.
unfoldable pub turned_selective : ℕ → ℕ → ℕ
turned_selective w q = granted_word (released_word w q Exclusive) q Selective
