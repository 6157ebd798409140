-- The lemmas of the thirty steps together: every step of a party under way is not refused, agrees with the book and keeps the invariant.
-- Main statement: steps_kept.
use mathlib.Core.Path.{◌≡◌, subst, ap, refl}
use mathlib.Core.Logic.{◌⊎◌, inl, inr}
use mathlib.Core.Bool.{true, ◌&&◌, ◌||◌, and-false, false≢true}
use Prim.Native.Nat.{ℕ, ◌<◌}
use native.Mathlib.Omega.{arith}
use lib.Dec.{eqb, leb}
use Rattle.model.specs.declared.Party.{Party}
use Rattle.model.specs.Sizes.{within}
use Rattle.model.specs.Outcome.{View, Outcome}
use Rattle.model.specs.Memory.{Memory, party_at, view_of}
use Rattle.model.specs.Book.{Book}
use Rattle.model.specs.Steps.Dispatch.{has_step, no_step, step_table, step_of}
use Rattle.model.proofs.Laws.Lists.{and_both, or_either, leb-true, Numbered, numbered_below, ◌▸◌}
use Rattle.model.proofs.Invariant.Statement.{Inv, PartyOk, scene_of, resting, working}
use Rattle.model.proofs.Invariant.Turn.{Turn}
use Rattle.model.proofs.Effects.Kept.{Kept}
use Rattle.model.proofs.Theorems.Calls.{StepsKept}
use Rattle.model.proofs.Steps.Locate.{step01-kept, step02-kept, step03-kept, step04-kept, step05-kept}
use Rattle.model.proofs.Steps.Chase.Follow.{step07-kept, step08-kept}
use Rattle.model.proofs.Steps.Chase.Copy.{step06-kept}
use Rattle.model.proofs.Steps.Find.{step09-kept}
use Rattle.model.proofs.Steps.Rebuild.{step10-kept}
use Rattle.model.proofs.Steps.Write.PrimaryPage.{step11-kept}
use Rattle.model.proofs.Steps.Write.GiveUp.{step12-kept}
use Rattle.model.proofs.Steps.OldPages.Request.{step13-kept}
use Rattle.model.proofs.Steps.OldPages.GiveBack.{step14-kept}
use Rattle.model.proofs.Steps.SplitLocks.{step15-kept, step16-kept, step19-kept, step22-kept}
use Rattle.model.proofs.Steps.SplitBuild.{step17-kept}
use Rattle.model.proofs.Steps.SplitWrite.OldChain.{step18-kept}
use Rattle.model.proofs.Steps.SplitWrite.Root.{step20-kept, step21-kept}
use Rattle.model.proofs.Steps.MergeLocks.{step23-kept, step24-kept, step25-kept, step30-kept}
use Rattle.model.proofs.Steps.MergeBuild.{step26-kept}
use Rattle.model.proofs.Steps.MergeWrite.Root.{step27-kept}
use Rattle.model.proofs.Steps.MergeWrite.Target.{step28-kept}
use Rattle.model.proofs.Steps.MergeWrite.Partner.{step29-kept}

-- An operation has steps 1 to 30 only.
steps_last : (o n : ℕ) → has_step o n ≡ true → n < 31
unfolding has_step
steps_last o n h = go (or_either (eqb o 1 && within 1 9 n || eqb o 2 && (within 1 8 n || within 10 22 n)) (eqb o 3 && (within 1 8 n || within 10 14 n || within 23 30 n)) h)
  where
    most : (a e : ℕ) → e < 31 → within a e n ≡ true → n < 31
    most a e l w = let s = leb-true n e (and_both (leb a n) (leb n e) w).1 in omega arith

    two : (a e c f : ℕ) → e < 31 → f < 31 → (within a e n || within c f n) ≡ true → n < 31
    two a e c f l k w = pick (or_either (within a e n) (within c f n) w)
      where
        pick : (within a e n ≡ true) ⊎ (within c f n ≡ true) → n < 31
        pick (inl x) = most a e l x
        pick (inr x) = most c f k x

    three : (within 1 8 n || within 10 14 n || within 23 30 n) ≡ true → n < 31
    three w = pick (or_either (within 1 8 n || within 10 14 n) (within 23 30 n) w)
      where
        pick : ((within 1 8 n || within 10 14 n) ≡ true) ⊎ (within 23 30 n ≡ true) → n < 31
        pick (inl x) = two 1 8 10 14 (omega arith) (omega arith) x
        pick (inr x) = most 23 30 (omega arith) x

    first : ((eqb o 1 && within 1 9 n) ≡ true) ⊎ ((eqb o 2 && (within 1 8 n || within 10 22 n)) ≡ true) → n < 31
    first (inl x) = most 1 9 (omega arith) (and_both (eqb o 1) (within 1 9 n) x).1
    first (inr x) = two 1 8 10 22 (omega arith) (omega arith) (and_both (eqb o 2) (within 1 8 n || within 10 22 n) x).1

    go : ((eqb o 1 && within 1 9 n || eqb o 2 && (within 1 8 n || within 10 22 n)) ≡ true) ⊎ ((eqb o 3 && (within 1 8 n || within 10 14 n || within 23 30 n)) ≡ true) → n < 31
    go (inl x) = first (or_either (eqb o 1 && within 1 9 n) (eqb o 2 && (within 1 8 n || within 10 22 n)) x)
    go (inr x) = three (and_both (eqb o 3) (within 1 8 n || within 10 14 n || within 23 30 n) x).1

-- No operation has step 0.
no_step-zero : (o : ℕ) → has_step o 0 ≡ true → ⊥
unfolding has_step
no_step-zero o h = false≢true (rw (and-false (eqb o 1), and-false (eqb o 2), and-false (eqb o 3)) at h)

-- A party under way has its turn.
turn_of : (m : Memory) (b : Book) → Inv m b → (q : ℕ) → q < m.root.parties → has_step (party_at m.parties q).operation (party_at m.parties q).step ≡ true
    → Turn m b q (party_at m.parties q).step
turn_of m b i q in_row has = go (i.parties_ok q in_row)
  where
    go : PartyOk (scene_of m i.ghost b) q (party_at m.parties q) → Turn m b q (party_at m.parties q).step
    go (resting e x y z) =
        absurd (no_step-zero (party_at m.parties q).operation (subst (λ (n : ℕ). has_step (party_at m.parties q).operation n ≡ true) (ap (λ (p : Party). p.step) e) has))
    go (working e k f) = record { inv = i; in_row = in_row; is_at = refl; entered = e; busy = k; facts = f }

module _ (m : Memory) (b : Book) (q : ℕ) where
  -- A step keeps the invariant in a turn at number n.
  abbrev KeepsAt : ℕ → (View → Outcome) → Type 0
  KeepsAt n f = Turn m b q n → Kept m b q (f (view_of m q))

  all_kept : Numbered KeepsAt 0 step_table
  unfolding step_table
  all_kept =
      (λ (t : Turn m b q 0). absurd t.facts) ▸ step01-kept ▸ step02-kept ▸ step03-kept ▸ step04-kept ▸ step05-kept ▸ step06-kept ▸ step07-kept ▸ step08-kept ▸ step09-kept
      ▸ step10-kept ▸ step11-kept ▸ step12-kept ▸ step13-kept ▸ step14-kept ▸ step15-kept ▸ step16-kept ▸ step17-kept ▸ step18-kept ▸ step19-kept
      ▸ step20-kept ▸ step21-kept ▸ step22-kept ▸ step23-kept ▸ step24-kept ▸ step25-kept ▸ step26-kept ▸ step27-kept ▸ step28-kept ▸ step29-kept
      ▸ step30-kept ▸ tt

pub steps_kept : StepsKept
unfolding step_of step_table
steps_kept m b i q in_row has =
    let k = (party_at m.parties q).step in
    numbered_below (KeepsAt m b q) no_step step_table (all_kept m b q) k (steps_last (party_at m.parties q).operation k has) (turn_of m b i q in_row has)
