-- Tests made one by one against the model's conjunctions: what a conjunction that holds says of each test, and when
-- the last test decides.
-- Main statements: fields_fit (of a sound party's record); step_decides, decides_early, decides_answered (where the
-- record's other words pass).
use mathlib.Core.Path.{◌≡◌, sym, ◌∙◌}
use mathlib.Core.Logic.{◌≢◌}
use mathlib.Core.Bool.{true, not, ◌||◌, true≢false}
use Prim.Native.Nat.{ℕ, ◌≤◌, ◌<◌}
use lib.Dec.{ltb, eqb}
use native.Mathlib.Omega.{arith}
use borrow.Author.Tests.{leb-true, ltb-true, le-leb, lt-ltb, le-ltb, eq-eqb, ne_eqb}
use Rattle.model.specs.declared.Root.{Root}
use Rattle.model.specs.declared.Party.{Party}
use Rattle.model.specs.Refusals.{party_sound}
use Rattle.model.specs.Steps.Dispatch.{has_step}
use Rattle.model.proofs.Laws.Lists.{Ord, ord, lt, ge, not-both}
use Rattle.model.proofs.Laws.Booleans.{and_left, and_right, eq_of_iff}
use Rattle.refusals.proofs.StepRanges.{none_other}

-- ---- A party's record

-- What every word of a sound record but operation and step has.
pub record FieldsFit (r : Root) (p : Party) : Type 0 where
  pub lev_fits : p.lev ≤ 9
  pub owed_fits_ok : p.owed ≤ 3
  pub answer_fits : p.answer ≤ 5
  pub answer_given : 12 ≤ p.step → p.answer ≢ 0
  pub chain_fits : p.chain < r.primaries
  pub other_fits : p.other < r.primaries

-- "an answer ... 0 from step 12 on" is damage.
passed_given : (s a : ℕ) → (ltb s 12 || not (eqb a 0)) ≡ true → 12 ≤ s → a ≢ 0
passed_given s a e h z = true≢false (sym e ∙ rw (le-ltb s 12 h, eq-eqb a 0 z))

given_passes : (s a : ℕ) → (12 ≤ s → a ≢ 0) → (ltb s 12 || not (eqb a 0)) ≡ true
given_passes s a f = go (ord s 12)
  where
    go : Ord s 12 → (ltb s 12 || not (eqb a 0)) ≡ true
    go (lt h t) = rw t
    go (ge h t) = rw (t, ne_eqb a 0 (f h))

-- Only operations up to 3 have steps.
operation_fits : (o k : ℕ) → has_step o k ≡ true → o ≤ 3
operation_fits o k e = go (ord 3 o)
  where
    go : Ord 3 o → o ≤ 3
    go (lt h t) = absurd (not-both (has_step o k) e (sym (none_other o k h)))
    go (ge h t) = h

module _ (r : Root) (p : Party) where
  pub fields_fit : party_sound r p ≡ true → FieldsFit r p
  unfolding party_sound
  fields_fit e =
      record {
        lev_fits = leb-true p.lev 9 (search (and_left, and_right) depth 8);
        owed_fits_ok = leb-true p.owed 3 (search (and_left, and_right));
        answer_fits = leb-true p.answer 5 (search (and_left, and_right));
        answer_given = passed_given p.step p.answer (search (and_left, and_right));
        chain_fits = ltb-true p.chain r.primaries (search (and_left, and_right));
        other_fits = ltb-true p.other r.primaries (search (and_left, and_right));
      }

  -- Where the other words pass, the step decides.
  pub step_decides : FieldsFit r p → has_step p.operation p.step ≡ party_sound r p
  unfolding party_sound
  step_decides f = eq_of_iff holds (λ e. search (and_left, and_right) depth 8)
    where
      holds : has_step p.operation p.step ≡ true → party_sound r p ≡ true
      holds e =
          rw (
            le-leb p.operation 3 (operation_fits p.operation p.step e),
            e,
            le-leb p.lev 9 f.lev_fits,
            le-leb p.owed 3 f.owed_fits_ok,
            le-leb p.answer 5 f.answer_fits,
            given_passes p.step p.answer f.answer_given,
            lt-ltb p.chain r.primaries f.chain_fits,
            lt-ltb p.other r.primaries f.other_fits,
          )

  -- The same from the six tests, before step 12 and with an answer.
  pub decides_early : p.lev ≤ 9 → p.owed ≤ 3 → p.answer ≤ 5 → p.step < 12 → p.chain < r.primaries → p.other < r.primaries → has_step p.operation p.step ≡ party_sound r p
  decides_early l o a s c d =
      step_decides record {
        lev_fits = l;
        owed_fits_ok = o;
        answer_fits = a;
        answer_given = λ h. absurd (omega arith);
        chain_fits = c;
        other_fits = d;
      }

  pub decides_answered : p.lev ≤ 9 → p.owed ≤ 3 → p.answer ≤ 5 → p.answer ≢ 0 → p.chain < r.primaries → p.other < r.primaries → has_step p.operation p.step ≡ party_sound r p
  decides_answered l o a n c d =
      step_decides record {
        lev_fits = l;
        owed_fits_ok = o;
        answer_fits = a;
        answer_given = λ h. n;
        chain_fits = c;
        other_fits = d;
      }
