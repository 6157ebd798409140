-- The locks that a record claims before and after a step.
-- Main statements: claim_count (how often a lock stands in a list of locks); Trade (the claims before and after), with
-- trade_none, trade_all, trade_more, trade_less, trade_last, trade_turn.
use mathlib.Core.Path.{◌≡◌}
use mathlib.Core.Bool.{Bool, ◌&&◌}
use mathlib.Core.List.{List, [], ◌∷◌, ◌++◌}
use mathlib.Core.Option.{Option, none, some}
use Prim.Native.Nat.{ℕ, ◌+◌, ◌-◌}
use native.Mathlib.Omega.{arith}
use lib.Dec.{eqb}
use Rattle.model.specs.LockWords.{Claim}
use Rattle.model.specs.Holds.{same_mode}
use Rattle.model.proofs.Invariant.Claims.{bit}

-- ---- How often

-- Whether lock d is lock c.
unfoldable pub is_claim : Claim → Claim → Bool
is_claim c d = eqb d.word c.word && same_mode d.mode c.mode

-- How often lock c stands in a list.
unfoldable pub claim_count : List Claim → Claim → ℕ
claim_count [] c = 0
claim_count (d ∷ ds) c = bit (is_claim c d) + claim_count ds c

-- The lock of a request as a list: one, or none.
abbrev pub listed : Option Claim → List Claim
listed none = []
listed (some c) = c ∷ []

-- ---- Claims before and after

-- The locks new are the locks old without the locks up, with the locks got, each counted.
pub record Trade (old up got new : List Claim) : Type 0 where
  pub counts : (d : Claim) → claim_count new d ≡ claim_count old d - claim_count up d + claim_count got d

count_last : (cs : List Claim) (c d : Claim) → claim_count (cs ++ (c ∷ [])) d ≡ claim_count cs d + claim_count (c ∷ []) d
unfolding claim_count
count_last [] c d = omega arith
count_last (e ∷ cs) c d = omega (arith, count_last cs c d)

pub trade_none : (cs : List Claim) → Trade cs [] [] cs
unfolding claim_count
trade_none cs = record { counts = λ d. omega arith }

pub trade_all : (cs : List Claim) → Trade cs cs [] []
unfolding claim_count
trade_all cs = record { counts = λ d. omega arith }

-- One lock more, at the end; one less, at the front and at the end; one for another, at the front.
pub trade_more : (cs : List Claim) (c : Claim) → Trade cs [] (c ∷ []) (cs ++ (c ∷ []))
unfolding claim_count
trade_more cs c = record { counts = λ d. omega (arith, count_last cs c d) }

pub trade_less : (c : Claim) (cs : List Claim) → Trade (c ∷ cs) (c ∷ []) [] cs
unfolding claim_count
trade_less c cs = record { counts = λ d. omega arith }

pub trade_last : (cs : List Claim) (c : Claim) → Trade (cs ++ (c ∷ [])) (c ∷ []) [] cs
unfolding claim_count
trade_last cs c = record { counts = λ d. omega (arith, count_last cs c d) }

pub trade_turn : (c d : Claim) (cs : List Claim) → Trade (c ∷ cs) (c ∷ []) (d ∷ []) (d ∷ cs)
unfolding claim_count
trade_turn c d cs = record { counts = λ e. omega arith }
