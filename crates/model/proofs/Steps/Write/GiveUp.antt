-- Step 12 keeps the invariant: an insert or a delete gives up its chain, and is done or goes on to what is left.
-- Main statements: made_is_change; step12-kept.
use mathlib.Core.Path.{◌≡◌, refl, ap, ◌∙◌}
use mathlib.Core.Logic.{◌≢◌}
use mathlib.Core.Bool.{true, false, cond, ◌||◌}
use mathlib.Core.List.{[], ◌∷◌}
use Prim.Native.Nat.{ℕ}
use native.Mathlib.Omega.{arith}
use lib.Dec.{eqb}
use Rattle.model.specs.declared.Party.{Party}
use Rattle.model.specs.declared.Mode.{Mode}
use Rattle.model.specs.declared.Restructuring.{Restructuring}
use Rattle.model.specs.Records.{idle, at_step}
use Rattle.model.specs.Answers.{answer_number, answer_of, restructuring_of}
use Rattle.model.specs.LockWords.{claim, chain_word}
use Rattle.model.specs.Outcome.{View, with_party, moved}
use Rattle.model.specs.Endings.{done, old_pages_first, onward, finished}
use Rattle.model.specs.LockRequests.{given_up, without_hold, chain_selective}
use Rattle.model.specs.Memory.{Memory, view_of}
use Rattle.model.specs.Book.{Book}
use Rattle.model.specs.Steps.Write.{step12, is_change}
use Rattle.model.specs.Steps.Dispatch.{has_step}
use Rattle.model.proofs.Laws.Lists.{cond_ind, eqb-true, eqb-false}
use Rattle.model.proofs.Invariant.Statement.{restructures, NoPages, Noted, Made, Written, unchanged, made_change, Leaving, Settled, owed_fits, facts_at}
use Rattle.model.proofs.Invariant.Frame.{changes_selectively}
use Rattle.model.proofs.Invariant.Turn.{Turn, after, before, claims_at, has_step_ok, me, restructures_at}
use Rattle.model.proofs.Effects.Kept.{Kept}
use Rattle.model.proofs.Effects.Moves.{restructures_at_lem, no_pages_left, settled_left, split_owed_ok, merge_owed_lem, extents_rest, busy_to, leaving-to, same_file, settled_to}
use Rattle.model.proofs.Effects.Releases.{held_one, given_up_kept, Holds}
use Rattle.model.proofs.Effects.Done.{done-kept}

-- The answer of a change made is a change.
pub made_is_change : (p : Party) → Made p → is_change p.answer ≡ true
unfolding is_change answer_number
made_is_change p e = rw e (cond_ind (λ a. (eqb a 1 || eqb a 3) ≡ true) (eqb p.operation 2) 1 3 (λ _. refl) (λ _. refl))

module _ {m : Memory} {b : Book} {q : ℕ} (t : Turn m b q 12) where
  -- The memory with the chain given up.
  abbrev left : View
  left = given_up (chain_selective (me t) ∷ []) (view_of m q)

  -- An insert or a delete holds its chain selectively.
  claims_twelve : claims_at 12 (me t) ≡ chain_selective (me t) ∷ []
  unfolding has_step
  claims_twelve = ap (λ (o : Mode). claim (chain_word (me t).chain) o ∷ []) (changes_selectively (me t) (has_step_ok t))

  abbrev holds_chain_lem : Holds t (chain_selective (me t))
  holds_chain_lem = record { word_fits = omega (arith, t.busy.chain_fits); front = []; back = []; has = claims_twelve }

  -- On to 13, 15 or 23, with no lock.
  goes_on : (n : ℕ) → claims_at n (at_step n (me t)) ≡ [] → restructures_at n ≡ false → has_step (me t).operation n ≡ true
      → facts_at n (after t (at_step n (me t))) q (at_step n (me t)) t.entered → Kept m b q (moved (with_party (at_step n (me t)) left))
  goes_on n no_claims rests has facts =
      given_up_kept t (chain_selective (me t)) (at_step n (me t))
      (record {
        held = holds_chain_lem;
        left = no_claims;
        apart = tt;
        moves = record {
          plain = refl;
          stays = λ x e. refl;
          extents = extents_rest t (same_file t) (at_step n (me t)) refl (restructures_at_lem (at_step n (me t)) n refl ∙ rests);
          busy = busy_to t n has (omega arith);
          facts = facts;
        };
      })

  ends : Noted (me t) t.entered → NoPages (before t) q → (s : Restructuring) → Kept m b q (done (answer_of (me t).answer) s left)
  unfolding restructures
  ends noted no_pages s =
      done-kept t
      (record {
        plain = refl;
        noted = noted;
        no_pages = no_pages;
        extents = extents_rest t (same_file t) idle refl refl;
        holds = claims_twelve;
        apart = (tt, tt);
        fit = (holds_chain_lem.word_fits, tt);
      })
      s

  -- A change was made, and no old pages are left: on to what is owed, or done.
  settles : Leaving (before t) q (me t) t.entered → owed_fits (me t).operation (me t).owed ≡ true → (me t).old ≡ 0 → Kept m b q (onward left)
  unfolding onward finished given_up without_hold has_step
  settles l f z =
      cond_ind (Kept m b q) (eqb (me t).owed 1) _ _
      (λ o. goes_on 15 refl refl (rw (split_owed_ok (me t) f (eqb-true _ _ o)) refl) (settled 15))
      (λ _. cond_ind (Kept m b q) (eqb (me t).owed 2) _ _
      (λ o. goes_on 23 refl refl (rw (merge_owed_lem (me t) f (eqb-true _ _ o)) refl) (settled 23))
      (λ _. ends l.noted (no_pages_left t z l) (restructuring_of (me t).owed)))
    where
      settled : (n : ℕ) → Settled (after t (at_step n (me t))) q (at_step n (me t)) t.entered
      settled n = settled_to t n (me t).chain (me t).other (settled_left t z l)

  -- Old pages are left.
  returns : Leaving (before t) q (me t) t.entered → owed_fits (me t).operation (me t).owed ≡ true → (me t).old ≢ 0 → Kept m b q (moved (with_party (at_step 13 (me t)) left))
  unfolding has_step
  returns l f n = goes_on 13 refl refl (has_step_ok t) (record { leaving = leaving-to t 13 (me t).owed l; some_old = n; owed_fits_ok = f })

  pub step12-kept : Kept m b q (step12 (view_of m q))
  unfolding step12 old_pages_first finished given_up without_hold
  step12-kept = rw (held_one t holds_chain_lem) (go t.facts)
    where
      go : Written (before t) q (me t) t.entered → Kept m b q (cond (is_change (me t).answer) (old_pages_first left (onward left)) (finished left))
      go (unchanged noted same nothing_owed no_pages) = rw same (ends noted no_pages (restructuring_of (me t).owed))
      go (made_change l f) =
          rw (made_is_change (me t) l.made)
          (cond_ind (Kept m b q) (eqb (me t).old 0) _ _ (λ z. settles l f (eqb-true _ _ z)) (λ n. returns l f (eqb-false _ _ n)))
