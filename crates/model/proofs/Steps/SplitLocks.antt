-- Steps 15, 16, 19 and 22 keep the invariant: a split requests the root and the chain that splits, and gives them up again.
-- Main statements: step15-kept, step16-kept, step19-kept, step22-kept.
use mathlib.Core.Path.{◌≡◌, refl, sym, ◌∙◌}
use mathlib.Core.Logic.{◌≢◌}
use mathlib.Core.Bool.{Bool, true, false, ◌&&◌, ◌||◌, and-false, false≢true}
use mathlib.Core.List.{[], ◌∷◌}
use Prim.Native.Nat.{ℕ, ◌<◌}
use native.Mathlib.Omega.{arith}
use lib.Dec.{eqb}
use Rattle.model.specs.declared.Mode.TheVariants.{Selective}
use Rattle.model.specs.declared.Restructuring.TheVariants as Restructuring
use Rattle.model.specs.Records.{idle, at_step, with_chain, with_other, with_owed}
use Rattle.model.specs.Answers.{answer_of, restructuring_of}
use Rattle.model.specs.Addresses.{chain_count, split_barred, count_of_chains}
use Rattle.model.specs.Outcome.{with_party, moved}
use Rattle.model.specs.LockRequests.{request, given_up, without_hold, chain_selective, root_selective}
use Rattle.model.specs.Endings.{done, old_pages_first, finished, ended_with}
use Rattle.model.specs.Memory.{Memory, view_of}
use Rattle.model.specs.Book.{Book}
use Rattle.model.specs.Holds.{same_mode}
use Rattle.model.specs.Steps.SplitLocks.{next_selective, splitting, step15, step16, step19, step22}
use Rattle.model.specs.Steps.Dispatch.{has_step}
use Rattle.model.proofs.Laws.Lists.{cond_ind, eqb-true, eqb-false}
use Rattle.model.proofs.Invariant.Ghost.{size}
use Rattle.model.proofs.Invariant.Statement.{restructures, live_for, low_for, owed_fits}
use Rattle.model.proofs.Invariant.Turn.{Turn, has_step_ok, me, owns_no_old}
use Rattle.model.proofs.Effects.Kept.{Kept}
use Rattle.model.proofs.Effects.Moves.{busy_chains, busy_owed, no_pages_left, extents_keep, extents_stop, busy_to, leaving-to, same_file, settled_to}
use Rattle.model.proofs.Effects.Requests.{request-kept}
use Rattle.model.proofs.Effects.Releases.{held_one, given_up_kept, release-kept, Holds}
use Rattle.model.proofs.Effects.Done.{ended-kept, done-kept}
use Rattle.model.proofs.Effects.RootGrants.{extents_enter}

-- Only an insert has a step 22.
splits_insert : (o : ℕ) → has_step o 22 ≡ true → o ≡ 2
unfolding has_step
splits_insert o h = eqb-true o 2 (go (eqb o 1) (eqb o 2) (eqb o 3) h)
  where
    go : (x y z : Bool) → ((x && false) || (y && true) || (z && false)) ≡ true → y ≡ true
    go x true z e = refl
    go x false z e = absurd (false≢true (sym (rw (and-false x, and-false z) refl) ∙ e))

-- ---- 15: request selective on root

pub step15-kept : {m : Memory} {b : Book} {q : ℕ} → Turn m b q 15 → Kept m b q (step15 (view_of m q))
unfolding step15 same_mode live_for low_for has_step
step15-kept t =
    request-kept t root_selective (at_step 16 (me t))
    (record {
      word_fits = omega arith;
      gains = refl;
      moves = λ granted. record {
        plain = refl;
        stays = λ x h. refl;
        extents = extents_enter t (at_step 16 (me t)) Selective refl granted refl refl;
        busy = busy_to t 16 (has_step_ok t) (omega arith);
        facts = settled_to t 16 (me t).chain (me t).other t.facts;
      };
    })

-- ---- 16: skip the split, or request selective on chain next

module _ {m : Memory} {b : Book} {q : ℕ} (t : Turn m b q 16) where
  skips : Kept m b q (ended_with (view_of m q) (root_selective ∷ []) Restructuring.SplitSkipped)
  unfolding restructures live_for low_for
  skips =
      ended-kept t
      (record {
        plain = refl;
        noted = t.facts.noted;
        no_pages = t.facts.no_pages;
        extents = extents_stop t idle refl refl refl refl;
        holds = refl;
        apart = (tt, tt);
        fit = (omega arith, tt);
      })
      Restructuring.SplitSkipped

  divides : count_of_chains m.root < m.root.primaries
      → Kept m b q (request (view_of m q) (next_selective m.root) (at_step 17 (with_chain m.root.next (with_other (count_of_chains m.root) (me t)))))
  unfolding has_step restructures live_for low_for size chain_count
  divides room =
      let next_fits : m.root.next < m.root.primaries = omega (arith, t.inv.extents_ok.root_next, t.inv.extents_ok.root_fits) in
      request-kept t (next_selective m.root) (at_step 17 (with_chain m.root.next (with_other (count_of_chains m.root) (me t))))
      (record {
        word_fits = omega (arith, next_fits);
        gains = refl;
        moves = λ _. record {
          plain = refl;
          stays = λ x e. absurd (owns_no_old t t.facts.no_pages x e);
          extents = extents_keep t (same_file t) _ refl refl refl;
          busy = busy_chains t 17 (has_step_ok t) (omega arith) m.root.next (count_of_chains m.root) next_fits room;
          facts = record {
            settled = settled_to t 17 m.root.next (count_of_chains m.root) t.facts;
            chains = record { old_chain = refl; new_chain = refl; room = room };
          };
        };
      })

  pub step16-kept : Kept m b q (step16 (view_of m q))
  unfolding step16 splitting split_barred size
  step16-kept =
      cond_ind (Kept m b q) (eqb (count_of_chains m.root) m.root.primaries) _ _ (λ _. skips)
      (λ n. let d = eqb-false (count_of_chains m.root) m.root.primaries n in divides (omega (arith, t.inv.extents_ok.root_fits)))

-- ---- 19: give up the chain

pub step19-kept : {m : Memory} {b : Book} {q : ℕ} → Turn m b q 19 → Kept m b q (step19 (view_of m q))
unfolding step19 has_step restructures live_for low_for
step19-kept t =
    release-kept t (chain_selective (me t)) (at_step 20 (me t))
    (record {
      held = record { word_fits = omega (arith, t.busy.chain_fits); front = root_selective ∷ []; back = []; has = refl };
      left = refl;
      apart = (omega arith, tt);
      moves = record {
        plain = refl;
        stays = λ x h. refl;
        extents = extents_keep t (same_file t) (at_step 20 (me t)) refl refl refl;
        busy = busy_to t 20 (has_step_ok t) (omega arith);
        facts = leaving-to t 20 (me t).owed t.facts;
      };
    })

-- ---- 22: give up root

module _ {m : Memory} {b : Book} {q : ℕ} (t : Turn m b q 22) where
  abbrev holds_root_lem : Holds t root_selective
  holds_root_lem = record { word_fits = omega arith; front = []; back = []; has = refl }

  inserts : (me t).operation ≡ 2
  inserts = splits_insert (me t).operation (has_step_ok t)

  -- Old pages are left: the chain is requested again.
  returns : (me t).old ≢ 0 → Kept m b q (moved (with_party (at_step 13 (with_owed 3 (me t))) (given_up (root_selective ∷ []) (view_of m q))))
  unfolding restructures live_for low_for has_step owed_fits
  returns n =
      given_up_kept t root_selective (at_step 13 (with_owed 3 (me t)))
      (record {
        held = holds_root_lem;
        left = refl;
        apart = tt;
        moves = record {
          plain = refl;
          stays = λ x h. refl;
          extents = extents_stop t (at_step 13 (with_owed 3 (me t))) refl refl refl refl;
          busy = busy_owed t 13 (rw inserts refl) (omega arith) 3 (omega arith);
          facts = record { leaving = leaving-to t 13 3 t.facts; some_old = n; owed_fits_ok = rw inserts refl };
        };
      })

  ends : (me t).old ≡ 0 → Kept m b q (done (answer_of (me t).answer) (restructuring_of 3) (given_up (root_selective ∷ []) (view_of m q)))
  unfolding restructures live_for low_for
  ends z =
      done-kept t
      (record {
        plain = refl;
        noted = t.facts.noted;
        no_pages = no_pages_left t z t.facts;
        extents = extents_stop t idle refl refl refl refl;
        holds = refl;
        apart = (tt, tt);
        fit = (omega arith, tt);
      })
      (restructuring_of 3)

  pub step22-kept : Kept m b q (step22 (view_of m q))
  unfolding step22 old_pages_first finished given_up without_hold
  step22-kept =
      rw (held_one t holds_root_lem)
      (cond_ind (Kept m b q) (eqb (me t).old 0) _ _ (λ z. ends (eqb-true _ _ z)) (λ n. returns (eqb-false _ _ n)))
