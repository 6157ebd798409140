-- Step 13 keeps the invariant: an insert or a delete that left old pages requests its chain exclusively.
-- Main statement: step13-kept.
use mathlib.Core.Path.{refl}
use Prim.Native.Nat.{ℕ}
use native.Mathlib.Omega.{arith}
use Rattle.model.specs.Records.{at_step}
use Rattle.model.specs.LockRequests.{chain_exclusive}
use Rattle.model.specs.Memory.{Memory, view_of}
use Rattle.model.specs.Book.{Book}
use Rattle.model.specs.Steps.OldPages.{step13}
use Rattle.model.specs.Steps.Dispatch.{has_step}
use Rattle.model.proofs.Invariant.Statement.{restructures}
use Rattle.model.proofs.Invariant.Turn.{Turn, has_step_ok, me}
use Rattle.model.proofs.Effects.Kept.{Kept}
use Rattle.model.proofs.Effects.Moves.{names_old, extents_rest, busy_to, leaving-to, same_file}
use Rattle.model.proofs.Effects.Requests.{request-kept}

module _ {m : Memory} {b : Book} {q : ℕ} (t : Turn m b q 13) where
  pub step13-kept : Kept m b q (step13 (view_of m q))
  unfolding step13 has_step restructures
  step13-kept =
      let f = t.facts in
      rw (names_old t f)
      (request-kept t (chain_exclusive (me t)) (at_step 14 (me t))
      (record {
        word_fits = omega (arith, t.busy.chain_fits);
        gains = refl;
        moves = λ _. record {
          plain = refl;
          stays = λ x h. refl;
          extents = extents_rest t (same_file t) (at_step 14 (me t)) refl refl;
          busy = busy_to t 14 (has_step_ok t) (omega arith);
          facts = record { leaving = leaving-to t 14 (me t).owed f.leaving; some_old = f.some_old; owed_fits_ok = f.owed_fits_ok };
        };
      }))
