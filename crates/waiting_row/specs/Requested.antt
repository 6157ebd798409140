-- A request as code has it: the lock's kind and its word.
-- Main definitions: request_in (a claim or none, as code has it); asks (what a party requests, of a root whose level is
-- sound); stops (where 16 and 24 request nothing); hindered_by.
use Rattle.std.specs.Prelude.{Bool, false, cond, not, ◌&&◌, ◌||◌, ℕ, eqb, ltb}
use Rattle.std.specs.Prelude.{Option as Maybe, Some, None}
use Rattle.std.proofs.Math.Option.{Option, none, some}
use Rattle.model.specs.declared.Root.{Root}
use Rattle.model.specs.declared.Party.{Party}
use Rattle.model.specs.LockWords.{Claim, table_one}
use Rattle.model.specs.Addresses.{count_of_chains, split_barred}
use Rattle.model.specs.Steps.MergeLocks.{merge_stops}
use Rattle.model.specs.WaitingRow.{requests}
use Rattle.waiting_row.specs.declared.Request.{Request}

abbrev pub request_of : Claim → Request
request_of c = record { mode = c.mode; word = c.word }

abbrev pub request_in : Option Claim → Maybe Request
request_in none = None
request_in (some c) = Some (request_of c)

-- The steps whose request goes by the root: 16 and 24.
unfoldable pub by_root : ℕ → Bool
by_root k = eqb k 16 || eqb k 24

-- What a party requests. Of a root with a level above 8, which is damage, no request that goes by it is told.
unfoldable pub asks : Root → Party → Option Claim
asks r p = cond (ltb 8 r.level && by_root p.step) none (requests r p)

-- Whether 16 or 24 is barred: n = P, n = N.
unfoldable pub barred : Root → ℕ → Bool
barred r k = cond (eqb k 16) (split_barred (count_of_chains r) r.primaries) (merge_stops r)

unfoldable pub stops : Root → ℕ → Bool
stops r k = ltb 8 r.level || barred r k

-- ---- Two requests

-- Whether a request that came first is for the same lock as another, and Table I has wait between them.
unfoldable pub hindered_by : Claim → Maybe Request → Bool
hindered_by c None = false
hindered_by c (Some m) = eqb c.word m.word && not (table_one m.mode c.mode)
