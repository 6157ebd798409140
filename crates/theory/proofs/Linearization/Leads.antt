-- Where each of the thirty steps leads, by step numbers alone: before the decisive step, at it, or behind it.
-- Main statements: is_behind, past_decided (behind the decisive step); Passage (from one number to the next), Leads
-- (what an outcome does), step_leads (every step number).
use mathlib.Core.Path.{◌≡◌, refl, sym, ap, ◌∙◌}
use mathlib.Core.Logic.{◌≢◌, ◌⊎◌, inl, inr}
use mathlib.Core.Bool.{Bool, true, false, not, ◌&&◌, ◌||◌, false≢true}
use Prim.Native.Nat.{ℕ}
use lib.Dec.{eqb, leb}
use Rattle.std.specs.Prelude.{Ok}
use Rattle.model.specs.declared.Party.{Party}
use Rattle.model.specs.declared.OperationAnswer.{OperationAnswer}
use Rattle.model.specs.declared.Restructuring.{Restructuring}
use Rattle.model.specs.declared.StepAnswer.TheVariants as StepAnswer
use Rattle.model.specs.Records.{idle}
use Rattle.model.specs.Outcome.{View, Outcome, moved}
use Rattle.model.specs.FreeList.{is_among}
use Rattle.model.specs.Steps.Dispatch.{has_step, step_of, next_table, is_next}
use Rattle.model.specs.Withdraw.{is_decided}
use Rattle.model.specs.Answers.{performs}
use Rattle.model.proofs.Laws.Lists.{Told, holds, fails, tell, and_both, or_either, left_or, right_or, neither_or, lt-leb, not-true, eqb-true, eqb-false, eqb-diff}
use Rattle.model.proofs.Steps.Withdraw.{undecided_early}
use Rattle.model.proofs.Exits.Statement.{every_next, Kept, Moves, Exit, refusing, waiting, taking, moving, looking, ending}
use Rattle.model.proofs.Exits.{step_exits}

-- Whether a step number is behind the decisive step: a 6 leads to 9 where it is a find's last, a 10 to 12 where nothing
-- changes and else to 11, an 11 to 12; from 9 a find stays there or is done, and from 12 on all numbers are 12 or above.
unfoldable pub is_behind : ℕ → Bool
is_behind k = eqb k 9 || leb 12 k

-- Whether a party's record has such a number.
abbrev pub is_past : Party → Bool
is_past p = is_behind p.step

-- Of a record that has a step of its operation this is whether its decisive step is taken.
pub past_decided : (p : Party) → has_step p.operation p.step ≡ true → is_past p ≡ is_decided p
unfolding is_behind is_decided
past_decided p has = go (tell (is_decided p))
  where
    k : ℕ
    k = p.step

    late : ((eqb p.operation 1 && eqb k 9) ≡ true) ⊎ (((eqb p.operation 2 || eqb p.operation 3) && leb 12 k) ≡ true) → (eqb k 9 || leb 12 k) ≡ true
    late (inl x) = left_or (leb 12 k) (and_both (eqb p.operation 1) (eqb k 9) x).1
    late (inr x) = right_or (eqb k 9) (and_both (eqb p.operation 2 || eqb p.operation 3) (leb 12 k) x).1

    go : Told (is_decided p) → is_past p ≡ is_decided p
    go (holds d) = late (or_either (eqb p.operation 1 && eqb k 9) ((eqb p.operation 2 || eqb p.operation 3) && leb 12 k) d) ∙ sym d
    go (fails d) =
        let e = undecided_early p has d in
        neither_or (eqb-diff k 9 e.1) (lt-leb 12 k e.0) ∙ sym d

-- From step number k of an operation to step number n.
pub data Passage (operation k n : ℕ) : Type 0 where
  -- The decisive step is still to come.
  searches : is_behind k ≡ false → k ≢ 11 → is_behind n ≡ false → Passage operation k n
  -- A find's last 6; a 10 that changes nothing; 11.
  at_six : k ≡ 6 → operation ≡ 1 → n ≡ 9 → Passage operation k n
  at_ten : k ≡ 10 → n ≡ 12 → Passage operation k n
  at_eleven : k ≡ 11 → n ≡ 12 → Passage operation k n
  -- It is done.
  goes_on : is_behind k ≡ true → is_behind n ≡ true → Passage operation k n

-- What an outcome at step number k does: nothing; it moves on; it ends the operation, whose decisive step is done.
pub data Leads (v : View) (k : ℕ) (o : Outcome) : Type 0 where
  stays : performs o.answer ≡ false → o.after ≡ v → Leads v k o
  moves : o.answer ≡ Ok StepAnswer.Moved → o.after.number ≡ v.number → Passage v.party.operation k o.after.party.step → Leads v k o
  ends : (a : OperationAnswer) (s : Restructuring) → o.answer ≡ Ok (StepAnswer.Done a s) → o.after.number ≡ v.number → o.after.party ≡ idle → is_behind k ≡ true → Leads v k o

-- ---- Every step

-- What a passage asks of the two numbers; and that every step and where it leads are such.
abbrev searching : ℕ → ℕ → Bool
searching k n = (not (is_behind k) && not (eqb k 11)) && not (is_behind n)

abbrev deciding : ℕ → ℕ → Bool
deciding k n = (eqb k 6 && eqb n 9) || ((eqb k 10 && eqb n 12) || (eqb k 11 && eqb n 12))

abbrev passing : ℕ → ℕ → Bool
passing k n = eqb n 0 || (searching k n || (deciding k n || (is_behind k && is_behind n)))

-- Only a find goes from 6 to 9.
from_six : (operation k n : ℕ) → is_next operation k n ≡ true → k ≡ 6 → n ≡ 9 → operation ≡ 1
unfolding is_next next_table is_among
from_six operation k n h e i = go (tell (eqb operation 1))
  where
    go : Told (eqb operation 1) → operation ≡ 1
    go (holds t) = eqb-true operation 1 t
    go (fails t) = absurd (false≢true (rw (e, i, t) at h))

module _ (operation k n : ℕ) (h : is_next operation k n ≡ true) where
  decides_so : (deciding k n ≡ true) → Passage operation k n
  decides_so d = go (or_either (eqb k 6 && eqb n 9) _ d)
    where
      late : ((eqb k 10 && eqb n 12) ≡ true) ⊎ ((eqb k 11 && eqb n 12) ≡ true) → Passage operation k n
      late (inl x) = let f = and_both (eqb k 10) (eqb n 12) x in at_ten (eqb-true k 10 f.0) (eqb-true n 12 f.1)
      late (inr x) = let f = and_both (eqb k 11) (eqb n 12) x in at_eleven (eqb-true k 11 f.0) (eqb-true n 12 f.1)

      go : ((eqb k 6 && eqb n 9) ≡ true) ⊎ (((eqb k 10 && eqb n 12) || (eqb k 11 && eqb n 12)) ≡ true) → Passage operation k n
      go (inl x) =
          let f = and_both (eqb k 6) (eqb n 9) x in
          let e = eqb-true k 6 f.0 in
          let i = eqb-true n 9 f.1 in
          at_six e (from_six operation k n h e i) i
      go (inr x) = late (or_either (eqb k 10 && eqb n 12) (eqb k 11 && eqb n 12) x)

  passage : eqb n 0 ≡ false → Passage operation k n
  unfolding next_table is_behind
  passage d = go (or_either (searching k n) _ (rw d at (every_next passing refl refl operation k n h)))
    where
      behind : (deciding k n ≡ true) ⊎ ((is_behind k && is_behind n) ≡ true) → Passage operation k n
      behind (inl x) = decides_so x
      behind (inr x) = let f = and_both (is_behind k) (is_behind n) x in goes_on f.0 f.1

      go : (searching k n ≡ true) ⊎ ((deciding k n || (is_behind k && is_behind n)) ≡ true) → Passage operation k n
      go (inl x) =
          let f = and_both (not (is_behind k) && not (eqb k 11)) (not (is_behind n)) x in
          let g = and_both (not (is_behind k)) (not (eqb k 11)) f.0 in
          searches (not-true (is_behind k) g.0) (eqb-false k 11 (not-true (eqb k 11) g.1)) (not-true (is_behind n) f.1)
      go (inr x) = behind (or_either (deciding k n) (is_behind k && is_behind n) x)

module _ (v : View) (k : ℕ) (at : v.party.step ≡ k) where
  moves_on : (u : View) → eqb u.party.step 0 ≡ false → Moves v k u → Leads v k (moved u)
  moves_on u d m = moves refl (ap (λ (x : Kept). x.number) m.kept) (passage v.party.operation k u.party.step m.next d)

  by_exit : (o : Outcome) → Exit v k o → Leads v k o
  unfolding performs next_table is_behind
  by_exit o (refusing r) = stays refl refl
  by_exit o (waiting c w g r) = stays refl refl
  by_exit o (taking c u w g d m) = moves_on u (not-true _ (and_both _ _ d).0) m
  by_exit o (moving u w d m) = moves_on u (not-true _ (and_both _ _ d).0) m
  by_exit o (looking e w l m) = moves_on _ (rw (at, e) refl) (m at)
  by_exit o (ending a s u w e) = ends a s refl (ap (λ (x : Kept). x.number) e.kept) refl (every_next (λ j i. not (eqb i 0) || is_behind j) refl refl v.party.operation k 0 e.next)

-- Every step number.
pub step_leads : (v : View) → Leads v v.party.step (step_of v.party.step v)
step_leads v = by_exit v v.party.step refl (step_of v.party.step v) (step_exits v.party.step v)
