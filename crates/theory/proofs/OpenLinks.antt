-- What a step's trace (specs/Links.antt) says of the links in the record that it leaves.
-- Main statements: OldLink, Marks; unmarked (a record with no link to follow), moves_mark (a step that moves on).
use mathlib.Core.Path.{◌≡◌, refl}
use mathlib.Core.Logic.{◌⊎◌, inl, inr}
use mathlib.Core.Bool.{Bool, true, false, ◌&&◌, ◌||◌}
use mathlib.Core.List.{List, []}
use Prim.Native.Nat.{ℕ}
use lib.Dec.{eqb}
use Rattle.std.specs.Prelude.{Ok}
use Rattle.model.specs.declared.Party.{Party}
use Rattle.model.specs.declared.StepAnswer.{StepAnswer}
use Rattle.model.specs.Answers.{is_moved, StepReply}
use Rattle.model.specs.Outcome.{View}
use Rattle.theory.specs.Links.{Trace, trace_of, trace_nine}
use Rattle.model.proofs.Laws.Lists.{cond_ind, not-both, and_both, or_either, left_or, right_or, eqb-true}
use Rattle.model.proofs.Exits.OpenLinks.{scratch_open, old_open, reads_scratch, reads_old, gives_pages, OldThen, none_open, set-now, same_old, LinksThen}

-- A link that was read in this call, which gave no page back.
pub record ReadNow (into : Bool) (gives : List ℕ) : Type 0 where
  pub reads : into ≡ true
  pub keeps_all : gives ≡ []

-- The old link of the record p that the step leaves: there is none to follow, it was read in this call, or it is the
-- one found.
pub data OldLink (v : View) (p : Party) (t : Trace) : Type 0 where
  closed : old_open p ≡ false → OldLink v p t
  read_now_ok : ReadNow t.into_old t.gives → OldLink v p t
  kept_old : p.old ≡ v.party.old → old_open v.party ≡ true → t.gives ≡ [] → OldLink v p t

-- Step number n answers a and leaves the record p: what the record then says of links, at whatever time the step is
-- made.
pub record Marks (n : ℕ) (v : View) (a : StepReply) (p : Party) : Type 0 where
  pub scratch_link_ok : (t s o : ℕ) → scratch_open p.step ≡ true → ReadNow (trace_of t n v a p.step s o).into_scratch (trace_of t n v a p.step s o).gives
  pub old_link : (t s o : ℕ) → OldLink v p (trace_of t n v a p.step s o)

-- A record with no link to follow.
pub unmarked : (n : ℕ) (v : View) (a : StepReply) (p : Party) → scratch_open p.step ≡ false → old_open p ≡ false → Marks n v a p
unmarked n v a p shut h = record { scratch_link_ok = λ t s o e. absurd (not-both (scratch_open p.step) e shut); old_link = λ t s o. closed h }

-- ---- A step that moves on

-- A trace that gives no page back.
abbrev GivesNone : Trace → Type 0
GivesNone x = x.gives ≡ []

module _ (t k : ℕ) (v : View) (n s o : ℕ) where
  abbrev trace_then : ℕ → ℕ → Trace
  trace_then j i = trace_of t j v (Ok StepAnswer.Moved) i s o

  into_scratch_ok : reads_scratch k n ≡ true → ReadNow (trace_then k n).into_scratch (trace_then k n).gives
  unfolding trace_of trace_nine is_moved
  into_scratch_ok h = six (or_either (eqb k 6) (eqb k 9 || (eqb k 10 && eqb n 11)) h)
    where
      ten : (eqb k 9 ≡ true) ⊎ ((eqb k 10 && eqb n 11) ≡ true) → ReadNow (trace_then k n).into_scratch (trace_then k n).gives
      ten (inl e) = rw (eqb-true k 9 e) (record { reads = refl; keeps_all = refl })
      ten (inr e) = let x = and_both (eqb k 10) (eqb n 11) e in rw (eqb-true k 10 x.0, eqb-true n 11 x.1) (record { reads = refl; keeps_all = refl })

      six : (eqb k 6 ≡ true) ⊎ ((eqb k 9 || (eqb k 10 && eqb n 11)) ≡ true) → ReadNow (trace_then k n).into_scratch (trace_then k n).gives
      six (inl e) = rw (eqb-true k 6 e) (record { reads = refl; keeps_all = refl })
      six (inr e) = ten (or_either (eqb k 9) (eqb k 10 && eqb n 11) e)

  into_old_ok : reads_old k n ≡ true → ReadNow (trace_then k n).into_old (trace_then k n).gives
  unfolding trace_of is_moved
  into_old_ok h = ten (or_either (eqb k 10 && eqb n 11) (eqb k 17 || eqb k 26) h)
    where
      both : (eqb k 17 ≡ true) ⊎ (eqb k 26 ≡ true) → ReadNow (trace_then k n).into_old (trace_then k n).gives
      both (inl e) = rw (eqb-true k 17 e) (record { reads = refl; keeps_all = refl })
      both (inr e) = rw (eqb-true k 26 e) (record { reads = refl; keeps_all = refl })

      ten : ((eqb k 10 && eqb n 11) ≡ true) ⊎ ((eqb k 17 || eqb k 26) ≡ true) → ReadNow (trace_then k n).into_old (trace_then k n).gives
      ten (inl e) = let x = and_both (eqb k 10) (eqb n 11) e in rw (eqb-true k 10 x.0, eqb-true n 11 x.1) (record { reads = refl; keeps_all = refl })
      ten (inr e) = both (or_either (eqb k 17) (eqb k 26) e)

  no_gives : gives_pages k ≡ false → (trace_then k n).gives ≡ []
  unfolding trace_of trace_nine is_moved
  no_gives h =
      cond_ind GivesNone (eqb k 6) _ _ (λ _. refl)
      (λ _. cond_ind GivesNone (eqb k 9) _ _ (λ _. refl)
      (λ _. cond_ind GivesNone (eqb k 10) _ _ (λ _. refl)
      (λ _. cond_ind GivesNone (eqb k 14) _ _ (λ e. absurd (not-both (gives_pages k) (left_or (eqb k 29) e) h))
      (λ _. cond_ind GivesNone (eqb k 17) _ _ (λ _. refl)
      (λ _. cond_ind GivesNone (eqb k 26) _ _ (λ _. refl)
      (λ _. cond_ind GivesNone (eqb k 29) _ _ (λ e. absurd (not-both (gives_pages k) (right_or (eqb k 14) e) h)) (λ _. refl)))))))

  old_marks : (p : Party) → p.step ≡ n → OldThen k v p → OldLink v p (trace_then k n)
  old_marks p e (none_open h) = closed h
  old_marks p e (set-now h) = read_now_ok (into_old_ok (rw e at h))
  old_marks p e (same_old i h g) = kept_old i h (no_gives g)

-- The record that such a step leaves has the links that the step has.
pub moves_mark : (k : ℕ) (v : View) (p : Party) → LinksThen k v p → Marks k v (Ok StepAnswer.Moved) p
moves_mark k v p l = record {
  scratch_link_ok = λ t s o h. into_scratch_ok t k v p.step s o (l.scratch_then h);
  old_link = λ t s o. old_marks t k v p.step s o p refl l.old_then;
}
