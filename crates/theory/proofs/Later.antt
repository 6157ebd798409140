-- From step 11 on a step leads to a step from 12 on with the answer kept, or ends the operation with that answer.
-- Main statements: Later (what an outcome leaves of the record), later_at (every step number from 11 on).
use mathlib.Core.Path.{◌≡◌, refl, ap}
use mathlib.Core.Bool.{true, false, not, ◌||◌}
use Prim.Native.Nat.{ℕ, ◌≤◌}
use native.Mathlib.Omega.{arith}
use lib.Dec.{leb, ltb}
use Rattle.std.specs.Prelude.{Ok}
use Rattle.model.specs.declared.OperationAnswer.{OperationAnswer}
use Rattle.model.specs.declared.Restructuring.{Restructuring}
use Rattle.model.specs.declared.StepAnswer.TheVariants as StepAnswer
use Rattle.model.specs.Records.{idle}
use Rattle.model.specs.Answers.{answer_of, performs}
use Rattle.model.specs.Outcome.{View, Outcome, moved}
use Rattle.model.specs.FreeList.{is_among}
use Rattle.model.specs.Steps.Dispatch.{step_of, next_table, writes_table}
use Rattle.model.specs.Steps.Table.{answer_word}
use Rattle.model.proofs.Laws.Lists.{le-ltb, leb-true}
use Rattle.model.proofs.Exits.Statement.{is_other, Kept, every_next, none-writes, Moves, Exit, refusing, waiting, taking, moving, looking, ending}
use Rattle.model.proofs.Exits.{step_exits}

-- Waiting or refused; moved on, to 12 or further, with the answer so far; or done with it.
pub data Later (v : View) (o : Outcome) : Type 0 where
  stays : performs o.answer ≡ false → Later v o
  goes : o.answer ≡ Ok StepAnswer.Moved → 12 ≤ o.after.party.step → o.after.party.answer ≡ v.party.answer → Later v o
  ends : (s : Restructuring) → o.answer ≡ Ok (StepAnswer.Done (answer_of v.party.answer) s) → o.after.party ≡ idle → Later v o

module _ (v : View) (k : ℕ) (late : 11 ≤ k) where
  -- From 11 on a step that moves leads to 12 or further.
  moves_later : (u : View) → is_other k u.party.step ≡ true → Moves v k u → Later v (moved u)
  unfolding next_table writes_table is_among
  moves_later u d m =
      let n = u.party.step in
      let t = every_next (λ j i. ltb j 11 || (not (is_other j i) || leb 12 i)) refl refl v.party.operation k n m.next in
      let w = none-writes (λ j. ltb j 11) answer_word refl k (le-ltb k 11 late) in
      goes refl (leb-true 12 n (rw (le-ltb k 11 late, d) at t)) (rw w at (ap (λ (x : Kept). x.answer) m.kept))

  by_exit : (o : Outcome) → Exit v k o → Later v o
  unfolding performs
  by_exit o (refusing r) = stays refl
  by_exit o (waiting c w g r) = stays refl
  by_exit o (taking c u w g d m) = moves_later u d m
  by_exit o (moving u w d m) = moves_later u d m
  by_exit o (looking e w l m) = absurd (omega arith)
  by_exit o (ending a s u w e) = ends s (ap (λ (b : OperationAnswer). Ok (StepAnswer.Done b s)) (e.answer= (λ e. omega arith))) refl

pub later_at : (k : ℕ) → 11 ≤ k → (v : View) → Later v (step_of k v)
later_at k h v = by_exit v k h (step_of k v) (step_exits k v)
