-- Steps 7 and 8 keep the invariant: a chase locks the chain that it is led to, then gives up the one before.
-- Main statements: step07-kept, step08-kept.
use mathlib.Core.Path.{refl}
use mathlib.Core.List.{[], ◌∷◌}
use Prim.Native.Nat.{ℕ}
use native.Mathlib.Omega.{arith}
use Rattle.model.specs.LockRequests.{mode_of, chain_lock, other_lock}
use Rattle.model.specs.Memory.{Memory, view_of}
use Rattle.model.specs.Book.{Book}
use Rattle.model.specs.Steps.Chase.{step07, step08}
use Rattle.model.specs.Steps.Dispatch.{has_step}
use Rattle.model.specs.Records.{at_step}
use Rattle.model.proofs.Invariant.Extents.{chasing_heads}
use Rattle.model.proofs.Invariant.Turn.{Turn, has_step_ok, me}
use Rattle.model.proofs.Effects.Kept.{Kept}
use Rattle.model.proofs.Effects.Requests.{request-kept}
use Rattle.model.proofs.Effects.Releases.{release-kept}
use Rattle.model.proofs.Effects.Locating.{locating}

module _ {m : Memory} {b : Book} {q : ℕ} where
  pub step07-kept : Turn m b q 7 → Kept m b q (step07 (view_of m q))
  unfolding step07 mode_of has_step
  step07-kept t =
      request-kept t (chain_lock (me t)) (at_step 8 (me t))
      (record {
        word_fits = omega (arith, t.busy.chain_fits);
        gains = refl;
        moves = λ _.
            locating t 8 (me t).lev (me t).chain
            (record {
              numbers = omega arith;
              has_next = has_step_ok t;
              early = t.facts.0;
              lev_fits = t.busy.lev_fits;
              chain_fits = t.busy.chain_fits;
              knows = λ h. (h, chasing_heads m.root.originals t.inv.ghost.live (me t) t.inv.limits.some_original t.facts.1, t.facts.1.apart);
            });
      })

  pub step08-kept : Turn m b q 8 → Kept m b q (step08 (view_of m q))
  unfolding step08 mode_of has_step
  step08-kept t =
      release-kept t (other_lock (me t)) (at_step 6 (me t))
      (record {
        held = record { word_fits = omega (arith, t.busy.other_fits); front = []; back = chain_lock (me t) ∷ []; has = refl };
        left = refl;
        apart = ((λ s. t.facts.2 (omega arith)), tt);
        moves =
            locating t 6 (me t).lev (me t).chain
            (record { numbers = omega arith; has_next = has_step_ok t; early = t.facts.0; lev_fits = t.busy.lev_fits; chain_fits = t.busy.chain_fits; knows = λ h. (h, t.facts.1) });
      })
