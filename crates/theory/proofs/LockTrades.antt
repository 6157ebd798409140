-- What each of the thirty steps does to the locks that its party claims, from the step definitions alone: a step that
-- moves or is done claims what it claimed before, without what it gives up, with what it is granted; one that waits
-- or is refused claims the same.
-- Main statements: Trades (what is said of an outcome of step k); step_trades (every step number).
use mathlib.Core.Path.{◌≡◌, refl, ap}
use mathlib.Core.Bool.{true, cond}
use mathlib.Core.List.{List, []}
use mathlib.Core.Option.{Option}
use Prim.Native.Nat.{ℕ}
use Rattle.model.specs.Answers.{is_moved, StepReply}
use Rattle.model.specs.LockWords.{Claim}
use Rattle.model.specs.Outcome.{View, Outcome}
use Rattle.model.specs.Holds.{gives_up, requested}
use Rattle.model.specs.Claims.{claims}
use Rattle.model.specs.Steps.Dispatch.{has_step, step_of}
use Rattle.model.proofs.Invariant.Turn.{claims_at}
use Rattle.model.proofs.Invariant.Frame.{claims_at_lem}
use Rattle.model.proofs.Exits.Trades.{listed, Trade, trade_none, trade_all}
use Rattle.model.proofs.Exits.Statement.{want_at, Kept, Exit, refusing, waiting, taking, moving, looking, ending}
use Rattle.model.proofs.Exits.{step_exits}

-- The locks that a step with this answer is granted.
unfoldable pub gained : ℕ → Option Claim → StepReply → List Claim
gained k w a = cond (is_moved a) (listed (requested k w)) []

-- An outcome of step k: the party's claims are traded as the ledger has it.
pub record Trades (v : View) (k : ℕ) (o : Outcome) : Type 0 where
  pub number= : o.after.number ≡ v.number
  pub trade : Trade (claims_at k v.party) (gives_up k v.party o.answer) (gained k (want_at k v) o.answer) (claims o.after.root o.after.party)

module _ (v : View) (k : ℕ) (at : v.party.step ≡ k) (has : has_step v.party.operation k ≡ true) where
  by_exit : (o : Outcome) → Exit v k o → Trades v k o
  unfolding gives_up gained is_moved claims
  by_exit o (refusing r) = record { number= = refl; trade = rw (claims_at_lem v.root v.party k at) (trade_none (claims_at k v.party)) }
  by_exit o (waiting c w g r) = record { number= = refl; trade = rw (claims_at_lem v.root v.party k at) (trade_none (claims_at k v.party)) }
  by_exit o (taking c u w g d m) = record { number= = ap (λ (x : Kept). x.number) m.kept; trade = m.trade has }
  by_exit o (moving u w d m) = record { number= = ap (λ (x : Kept). x.number) m.kept; trade = m.trade has }
  by_exit o (looking e w l m) = record { number= = refl; trade = (m at).trade has }
  by_exit o (ending a s u w e) = record { number= = ap (λ (x : Kept). x.number) e.kept; trade = trade_all (claims_at k v.party) }

-- Every outcome of this step trades so, where the party is at step number k and its operation has that step.
abbrev pub TradeStep : ℕ → (View → Outcome) → Type 0
TradeStep k f = (v : View) → v.party.step ≡ k → has_step v.party.operation k ≡ true → Trades v k (f v)

pub step_trades : (k : ℕ) → TradeStep k (step_of k)
step_trades k v at has = by_exit v k at has (step_of k v) (step_exits k v)
