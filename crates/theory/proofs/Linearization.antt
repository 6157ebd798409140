-- Every list of calls from formatted memory has a linearization (specs/Linearization.antt), for all sizes within limits.
-- Main statement: linearizable.
-- Below: how an order grows by an event (Ordering, Turns), where each step leads (Leads), what the book notes (Notes),
-- each call as a turn (StepTurns, Calls), what stands before what (Standing); a run worked out by the checker (Example).
use mathlib.Core.Path.{◌≡◌, refl, sym, ap, ◌∙◌}
use mathlib.Core.Logic.{◌≢◌}
use mathlib.Core.Bool.{Bool, true, false, cond}
use mathlib.Core.List.{List}
use mathlib.Core.Option.{Option, none, some}
use Prim.Native.Nat.{ℕ}
use native.Mathlib.Omega.{arith}
use lib.ListN.{get_or-eq_default}
use Rattle.model.specs.declared.Party.{Party}
use Rattle.model.specs.Records.{idle}
use Rattle.model.specs.Memory.{Memory, party_at}
use Rattle.model.specs.Runs.{Call, events}
use Rattle.model.specs.Book.{Book, Entered}
use Rattle.theory.specs.PlainMap.{PlainMap}
use Rattle.theory.specs.Demands.{Start, start, map_start, Reached, book_reached, book_start}
use Rattle.theory.specs.Linearization.{IsOneOf, Operated, operations_of, takes_effect, has_taken_effect, Linearized, answers_in_order, map_after, Placed, Linearization}
use Rattle.model.specs.Withdraw.{is_decided}
use Rattle.model.specs.TakeUp.{open_book}
use Rattle.model.proofs.Laws.Lists.{Ord, lt, ge, ord}
use Rattle.model.proofs.Invariant.Statement.{PartyOk, resting, working, Inv, scene_of}
use Rattle.theory.proofs.Reached.{started_inv, reached_inv}
use Rattle.theory.proofs.Consistency.{always_consistent, same_map}
use Rattle.theory.proofs.Linearization.Ordering.{away, is_fixed, away_not_looking, Origin, from_rest, from_party, PlacedFrom, Begun, Suffix}
use Rattle.theory.proofs.Linearization.Leads.{is_behind, is_past, past_decided}
use Rattle.theory.proofs.Linearization.Notes.{map_of}
use Rattle.theory.proofs.Linearization.StepTurns.{status_by, status_of}
use Rattle.theory.proofs.Linearization.Calls.{run_suffix}
use Rattle.theory.proofs.Linearization.Standing.{stands_before}
pub mod Ordering
pub mod Turns
pub mod Leads
pub mod Notes
pub mod StepTurns
pub mod Calls
pub mod Standing
pub mod Example

-- ---- At the end: a party's decisive step is done exactly where its record says so

fixed_by : (x : Option Entered) (t : Bool) → (x ≡ none → t ≡ false) → is_fixed (status_by x t) ≡ t
fixed_by none t h = sym (h refl)
fixed_by (some e) true h = refl
fixed_by (some e) false h = refl

module _ (m : Memory) (b : Book) (i : Inv m b) (p : ℕ) where
  -- Of an idle party both tests fail.
  idle-both : party_at m.parties p ≡ idle → is_past (party_at m.parties p) ≡ is_decided (party_at m.parties p)
  unfolding is_behind is_decided
  idle-both e = rw e refl

  idle_undecided : party_at m.parties p ≡ idle → is_decided (party_at m.parties p) ≡ false
  unfolding is_decided
  idle_undecided e = ap (λ (x : Party). is_decided x) e

  entered-not : (e : Entered) → b.entries p ≡ some e → b.entries p ≢ none
  entered-not e h n = let z : ◌≡◌ {A = ℕ} 0 1 = cc in omega arith

  unentered_undecided : Ord p m.root.parties → b.entries p ≡ none → is_decided (party_at m.parties p) ≡ false
  unentered_undecided (ge h t) n = idle_undecided (get_or-eq_default m.parties idle (omega (arith, i.parties_many)))
  unentered_undecided (lt h t) n = go (i.parties_ok p h)
    where
      go : PartyOk (scene_of m i.ghost b) p (party_at m.parties p) → is_decided (party_at m.parties p) ≡ false
      go (resting e _ _ _) = idle_undecided e
      go (working e k f) = absurd (entered-not e k.entry n)

  past_by : Ord p m.root.parties → is_past (party_at m.parties p) ≡ is_decided (party_at m.parties p)
  past_by (ge h t) = idle-both (get_or-eq_default m.parties idle (omega (arith, i.parties_many)))
  past_by (lt h t) = go (i.parties_ok p h)
    where
      go : PartyOk (scene_of m i.ghost b) p (party_at m.parties p) → is_past (party_at m.parties p) ≡ is_decided (party_at m.parties p)
      go (resting e _ _ _) = idle-both e
      go (working e k f) = past_decided (party_at m.parties p) k.step_fits

  fixed_decided : is_fixed (status_of m b p) ≡ is_decided (party_at m.parties p)
  unfolding status_of
  fixed_decided =
      ap (λ (t : Bool). is_fixed (status_by (b.entries p) t)) (past_by (ord p m.root.parties))
      ∙ fixed_by (b.entries p) (is_decided (party_at m.parties p)) (unentered_undecided (ord p m.root.parties))

-- ---- From formatted memory

module _ (s : Start) (cs : List Call) where
  all_away : (p : ℕ) → status_of (start s) (book_start s) p ≡ away
  unfolding status_of open_book
  all_away p = refl

  none-begun : Begun 1 (λ p. 0) (status_of (start s) (book_start s))
  none-begun = record { earlier = λ p. omega arith; apart = λ p q d x y. absurd (x (all_away p)) }

  abbrev whole : Suffix 1 (λ p. 0) (status_of (start s) (book_start s)) (map_of (book_start s)) (events (start s) cs) (status_of (Reached s cs) (book_reached s cs)) (map_of (book_reached s cs))
  whole = run_suffix (start s) (book_start s) (started_inv s) cs 1 (λ p. 0) none-begun

  starts_empty : map_of (book_start s) ≡ map_start s
  unfolding open_book
  starts_empty = refl

  of_run : (o : Operated) → Origin 1 (λ p. 0) (status_of (start s) (book_start s)) (events (start s) cs) o → IsOneOf o (operations_of (events (start s) cs))
  of_run o (from_rest m) = m
  of_run o (from_party p u k h e) = absurd (away_not_looking u k (sym (all_away p) ∙ h))

  place : (x : Linearized) → PlacedFrom 1 (λ p. 0) (status_of (start s) (book_start s)) (events (start s) cs) x → Placed (events (start s) cs) x
  place x h = record {
    of_run = of_run x.operated h.origin;
    after_begin_ok = h.after_begin_ok;
    before_end = h.before_end;
    same_answer_lem = h.same_answer_lem;
    decisive = h.decisive;
    last = h.last;
  }

  taken : (o : Operated) → takes_effect (is_fixed (status_of (Reached s cs) (book_reached s cs) o.party)) o.ended ≡ has_taken_effect (Reached s cs) o
  unfolding has_taken_effect
  taken o = ap (λ (t : Bool). takes_effect t o.ended) (fixed_decided (Reached s cs) (book_reached s cs) (reached_inv s cs) o.party)

  map_then : map_after (map_start s) whole.order ≡ map_of (book_reached s cs)
  map_then = ap (λ (z : PlainMap). map_after z whole.order) (sym starts_empty) ∙ whole.left

  -- Every list of calls has a linearization.
  pub linearizable : Linearization s cs
  linearizable = record {
    order = whole.order;
    ascending = whole.ascends;
    placed = λ x m. place x (whole.placed x m);
    each = λ o m. whole.entered o m ∙ ap (λ (t : Bool). cond t 1 0) (taken o);
    real_time = λ x y a m n h l.
        stands_before 1 whole.order whole.ascends x y m n
        (let before = (whole.placed x m).before_end a h in let after = (whole.placed y n).after_begin_ok in omega arith);
    answers = ap (λ (z : PlainMap). answers_in_order z whole.order) (sym starts_empty) ∙ whole.answers;
    file = always_consistent s cs;
    map-left = (same_map s cs).records ∙ sym map_then;
  }
