-- Which locks a party holds is a function of its record (specs/Claims.antt); every lock word is the encoding of that function over all parties.
-- Main statements: is_claimed, claimed; WordOk (a lock word says exactly who holds it, and an exclusive holder is alone), LocksOk.
use mathlib.Core.Path.{◌≡◌}
use mathlib.Core.Logic.{◌≢◌}
use mathlib.Core.Bool.{Bool, true, false, ◌&&◌, ◌||◌}
use mathlib.Core.List.{List, [], ◌∷◌}
use Prim.Native.Nat.{ℕ, suc, ◌^◌, ◌≤◌, ◌<◌}
use lib.ListN.{length, get_or}
use lib.Dec.{eqb}
use Rattle.model.specs.declared.Root.{Root}
use Rattle.model.specs.declared.Party.{Party}
use Rattle.model.specs.declared.Mode.{Mode}
use Rattle.model.specs.declared.Mode.TheVariants.{Read, Selective, Exclusive}
use Rattle.model.specs.LockWords.{Claim, field_of, readers_of, selective_of, exclusive_of}
use Rattle.model.specs.Holds.{same_mode}
use Rattle.model.specs.Memory.{party_at}
use Rattle.model.specs.Claims.{claims}

-- ---- The locks that a record says its party holds

-- Whether a list of locks has the lock of word i in mode m.
unfoldable pub is_claimed : List Claim → ℕ → Mode → Bool
is_claimed [] i m = false
is_claimed (c ∷ cs) i m = (eqb c.word i && same_mode c.mode m) || is_claimed cs i m

-- Whether party q holds word i in mode m, by its record.
abbrev pub claimed : Root → List Party → ℕ → ℕ → Mode → Bool
claimed r ps i q m = is_claimed (claims r (party_at ps q)) i m

-- ---- Lock words

abbrev pub bit : Bool → ℕ
bit true = 1
bit false = 0

-- A holder field names exactly the party that claims the lock.
pub record HolderIs (field : ℕ) (h : ℕ → Bool) : Type 0 where
  pub named : (q : ℕ) → field ≡ suc q → h q ≡ true
  pub claims_it : (q : ℕ) → h q ≡ true → field ≡ suc q

-- A lock word that says exactly who holds it, by party and mode; an exclusive holder is alone.
pub record WordOk (w : ℕ) (h : ℕ → Mode → Bool) : Type 0 where
  pub small : w < 2 ^ 26
  pub readers : (q : ℕ) → q < 16 → field_of q 1 w ≡ bit (h q Read)
  pub no_other_reader : (q : ℕ) → 16 ≤ q → h q Read ≡ false
  pub selective : HolderIs (selective_of w) (λ q. h q Selective)
  pub exclusive : HolderIs (exclusive_of w) (λ q. h q Exclusive)
  pub alone : exclusive_of w ≢ 0 → (readers_of w ≡ 0) × (selective_of w ≡ 0)

-- All lock words, n of them; h says by word, party and mode who holds what.
pub record LocksOk (n : ℕ) (locks : List ℕ) (h : ℕ → ℕ → Mode → Bool) : Type 0 where
  pub as_many : length locks ≡ n
  pub each : (i : ℕ) → i < n → WordOk (get_or locks i 0) (h i)
