-- Steps 23, 24, 25 and 30 keep the invariant: the locks of a merge, taken and given up.
-- Main statements: step23-kept, step24-kept, step25-kept, step30-kept.
use mathlib.Core.Path.{◌≡◌, refl}
use mathlib.Core.Bool.{false}
use mathlib.Core.List.{[], ◌∷◌}
use Prim.Native.Nat.{ℕ, ◌<◌}
use native.Mathlib.Omega.{arith}
use Rattle.model.specs.declared.Mode.TheVariants.{Exclusive}
use Rattle.model.specs.declared.Restructuring.TheVariants as Restructuring
use Rattle.model.specs.Records.{idle, at_step}
use Rattle.model.specs.Addresses.{chain_count, merge_partner}
use Rattle.model.specs.Memory.{Memory, view_of}
use Rattle.model.specs.Book.{Book}
use Rattle.model.specs.Holds.{same_mode}
use Rattle.model.specs.LockRequests.{request, root_exclusive, other_exclusive}
use Rattle.model.specs.Endings.{ended_with}
use Rattle.model.specs.Steps.MergeLocks.{target_of, target_exclusive, merge_stops, merging, step23, step24, step25, step30}
use Rattle.model.specs.Steps.Dispatch.{has_step}
use Rattle.model.proofs.Laws.Lists.{cond_ind}
use Rattle.model.proofs.Laws.Addresses.{span_pos}
use Rattle.model.proofs.Laws.Retreat.{target_before}
use Rattle.model.proofs.Invariant.Ghost.{size}
use Rattle.model.proofs.Invariant.Statement.{restructures, live_for, low_for}
use Rattle.model.proofs.Invariant.Turn.{Turn, has_step_ok, me, owns_no_old}
use Rattle.model.proofs.Effects.Kept.{Kept}
use Rattle.model.proofs.Effects.Requests.{request-kept}
use Rattle.model.proofs.Effects.Moves.{busy_chains, extents_keep, extents_stop, busy_to, same_file, settled_to}
use Rattle.model.proofs.Effects.Done.{ended-kept}
use Rattle.model.proofs.Effects.RootGrants.{extents_enter}

-- ---- 23: the root is requested

pub step23-kept : {m : Memory} {b : Book} {q : ℕ} → Turn m b q 23 → Kept m b q (step23 (view_of m q))
unfolding step23 same_mode live_for low_for has_step
step23-kept t =
    request-kept t root_exclusive (at_step 24 (me t))
    (record {
      word_fits = omega arith;
      gains = refl;
      moves = λ granted. record {
        plain = refl;
        stays = λ x o. refl;
        extents = extents_enter t (at_step 24 (me t)) Exclusive refl granted refl refl;
        busy = busy_to t 24 (has_step_ok t) (omega arith);
        facts = settled_to t 24 (me t).chain (me t).other t.facts;
      };
    })

-- ---- 24: the target is requested, or the merge is skipped

module _ {m : Memory} {b : Book} {q : ℕ} (t : Turn m b q 24) where
  skipped : Kept m b q (ended_with (view_of m q) (root_exclusive ∷ []) Restructuring.MergeSkipped)
  unfolding restructures live_for low_for
  skipped =
      ended-kept t
      (record {
        plain = refl;
        noted = t.facts.noted;
        no_pages = t.facts.no_pages;
        extents = extents_stop t idle refl refl refl refl;
        holds = refl;
        apart = (tt, tt);
        fit = (omega arith, tt);
      })
      Restructuring.MergeSkipped

  granted : merge_stops m.root ≡ false → Kept m b q (request (view_of m q) (target_exclusive m.root) (merging m.root (me t)))
  unfolding merging restructures live_for low_for has_step size merge_partner
  granted goes_on =
      let r = m.root in
      let partner = merge_partner r.originals r.level r.next in
      let partner_fits : partner < r.primaries = omega (arith, t.inv.extents_ok.root_fits, t.inv.limits.some_original, t.inv.limits.originals_fit) in
      let first = target_before r.originals r.level r.next t.inv.limits.some_original t.inv.extents_ok.root_next goes_on in
      let target_fits : target_of r < r.primaries = omega arith in
      request-kept t (target_exclusive r) (merging r (me t))
      (record {
        word_fits = omega arith;
        gains = refl;
        moves = λ _. record {
          plain = refl;
          stays = λ x o. absurd (owns_no_old t t.facts.no_pages x o);
          extents = extents_keep t (same_file t) (merging r (me t)) refl refl refl;
          busy = busy_chains t 25 (has_step_ok t) (omega arith) (target_of r) partner target_fits partner_fits;
          facts = record { settled = settled_to t 25 (target_of r) partner t.facts; chains = record { target = refl; partner = refl; goes_on = goes_on } };
        };
      })

  pub step24-kept : Kept m b q (step24 (view_of m q))
  unfolding step24
  step24-kept = cond_ind (Kept m b q) (merge_stops m.root) _ _ (λ _. skipped) granted

-- ---- 25: the partner is requested

pub step25-kept : {m : Memory} {b : Book} {q : ℕ} → Turn m b q 25 → Kept m b q (step25 (view_of m q))
unfolding step25 restructures live_for low_for has_step
step25-kept t =
    let chains = t.facts.chains in
    request-kept t (other_exclusive (me t)) (at_step 26 (me t))
    (record {
      word_fits = omega (arith, t.busy.other_fits);
      gains = refl;
      moves = λ _. record {
        plain = refl;
        stays = λ x o. refl;
        extents = extents_keep t (same_file t) (at_step 26 (me t)) refl refl refl;
        busy = busy_to t 26 (has_step_ok t) (omega arith);
        facts = record {
          settled = settled_to t 26 (me t).chain (me t).other t.facts.settled;
          chains = record { target = chains.target; partner = chains.partner; goes_on = chains.goes_on };
        };
      };
    })

-- ---- 30: all locks are given up

module _ {m : Memory} {b : Book} {q : ℕ} (t : Turn m b q 30) where
  target_first : (me t).chain < (me t).other
  unfolding chain_count
  target_first =
      let back = t.facts.1 in
      omega (arith, back.target, back.partner, span_pos m.root.originals m.root.level t.inv.limits.some_original)

  pub step30-kept : Kept m b q (step30 (view_of m q))
  unfolding step30 restructures live_for low_for
  step30-kept =
      let first = target_first in
      ended-kept t
      (record {
        plain = refl;
        noted = t.facts.0.noted;
        no_pages = t.facts.0.no_pages;
        extents = extents_stop t idle refl refl refl refl;
        holds = refl;
        apart = ((omega arith, (omega arith, tt)), ((omega arith, tt), (tt, tt)));
        fit = (omega arith, (omega (arith, t.busy.chain_fits), (omega (arith, t.busy.other_fits), tt)));
      })
      Restructuring.Merged
