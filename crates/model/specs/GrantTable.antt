-- Table I read by the strongest lock held (document 02, change 5): "the request and the strongest lock held as its sides; where none is held, every request is granted".
-- Main definitions: rank (the order of rows and columns), held_in (whether a word has a holder in a mode), strongest (of the modes held), StrongestIs, granted_beside.
use Rattle.std.specs.Prelude.{◌≡◌, Bool, true, false, cond, not, ℕ, ◌≤◌, eqb}
use Rattle.std.proofs.Math.Option.{Option, none, some}
use Rattle.model.specs.declared.Mode.{Mode}
use Rattle.model.specs.declared.Mode.TheVariants.{Read, Selective, Exclusive}
use Rattle.model.specs.LockWords.{readers_of, selective_of, exclusive_of, table_one}

-- The order of Table I's rows and columns, which is that of strength: read, selective, exclusive.
unfoldable pub rank : Mode → ℕ
rank Read = 0
rank Selective = 1
rank Exclusive = 2

-- Whether a lock word has a holder in a mode.
unfoldable pub held_in : ℕ → Mode → Bool
held_in w Read = not (eqb (readers_of w) 0)
held_in w Selective = not (eqb (selective_of w) 0)
held_in w Exclusive = not (eqb (exclusive_of w) 0)

-- The strongest of the modes in which a lock is held, or none.
unfoldable pub strongest : (Mode → Bool) → Option Mode
strongest h = cond (h Exclusive) (some Exclusive) (cond (h Selective) (some Selective) (cond (h Read) (some Read) none))

-- What the strongest lock held means: where it is none, no mode is held; else it is held, and no mode held is stronger.
pub data StrongestIs (h : Mode → Bool) : Option Mode → Type 0 where
  nobody : ((a : Mode) → h a ≡ false) → StrongestIs h none
  holder : (s : Mode) → h s ≡ true → ((a : Mode) → h a ≡ true → rank a ≤ rank s) → StrongestIs h (some s)

-- Whether a request is granted beside the strongest lock held.
unfoldable pub granted_beside : Mode → Option Mode → Bool
granted_beside m none = true
granted_beside m (some s) = table_one m s
