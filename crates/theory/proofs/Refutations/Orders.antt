-- Operations in an order: places that are wrong, beside the right one; and what was added last.
-- Main statements: placed; too_early, too_late, other_answer, other_step, not_last, not-begun (a find that looks
-- twice); added_last, removed_since, other_insert, never_added (a setting found); orders_ascend, each_once_lem,
-- answers_told (whole orders); answered_stands, withdrawn_stands_not, found_came, stands_between, first-is-first (every
-- linearization).
use mathlib.Core.Path.{◌≡◌, refl, sym, ap, ◌∙◌}
use mathlib.Core.Bool.{Bool, true, false, false≢true}
use mathlib.Core.List.Memᴰ
use mathlib.Core.List.{List, [], ◌∷◌, ◌++◌, map}
use mathlib.Core.Option.{Option, none, some}
use Prim.Native.Nat.{ℕ, ◌+◌, ◌<◌}
use native.Mathlib.Omega.{arith}
use lib.Dec.{leb}
use Rattle.model.specs.Answers.{CallReply}
use Rattle.model.specs.declared.Operation.{Operation}
use Rattle.model.specs.declared.OperationAnswer.{OperationAnswer}
use Rattle.model.specs.Entries.{entry_of}
use Rattle.model.specs.Runs.{Call, step_for, to_begin, to_withdraw, Event, events}
use Rattle.theory.specs.Demands.{Start, start}
use Rattle.theory.specs.Linearization.{Ended, Operated, operations_of, event_at, Linearized, ascending_from, times_in, answers_in_order, step_marks, marks, is_before, Placed, IsOneOf, has_taken_effect, Linearization}
use Rattle.theory.specs.Settings.{Came, from_before, from_insert, leaves_key, FoundInOrder, FoundsRight}
use Rattle.model.proofs.Laws.Lists.{and_both, leb-true, ltb-true}
use Rattle.model.proofs.Refutations.Books.{begins, moves, ends}
use Rattle.theory.proofs.Refutations.Opened.{opened}

-- ---- A find of 7 that looks twice: calls 1 to 6

abbrev run : List Event
run = begins Operation.Find 7 ∷ moves 6 ∷ moves 7 ∷ moves 8 ∷ moves 6 ∷ ends 9 (OperationAnswer.Found 9) ∷ []

abbrev find : Operated
find = record { begun = 1; party = 1; operation = Operation.Find; key = 7; ended = some (record { call = 6; answer = some (OperationAnswer.Found 9) }) }

abbrev at : ℕ → OperationAnswer → Linearized
at n a = record { operated = find; point = n; answer = a }

its_operations : operations_of run ≡ find ∷ []
unfolding opened
its_operations = refl

-- The second look alone is its place: after its begin, before its end, the last 6, and with the answer that it gave.
not_last : Placed run (at 2 (OperationAnswer.Found 9)) → ⊥
unfolding opened
not_last p = false≢true (sym (p.last 5 (omega arith) refl))

too_late : Placed run (at 6 (OperationAnswer.Found 9)) → ⊥
too_late p = let h : 6 < 6 = p.before_end (record { call = 6; answer = some (OperationAnswer.Found 9) }) refl in omega arith

too_early : Placed run (at 1 (OperationAnswer.Found 9)) → ⊥
too_early p = let h : 1 < 1 = p.after_begin_ok in omega arith

other_answer : Placed run (at 5 (OperationAnswer.Found 8)) → ⊥
other_answer p =
    let e : some (OperationAnswer.Found 9) ≡ some (OperationAnswer.Found 8) = p.same_answer_lem (record { call = 6; answer = some (OperationAnswer.Found 9) }) refl in
    let z : ◌≡◌ {A = ℕ} 9 8 = cc in omega arith

-- A 7 is no decisive step.
number_of : Option Event → ℕ
number_of none = 0
number_of (some e) = e.number

other_step : Placed run (at 3 (OperationAnswer.Found 9)) → ⊥
unfolding opened number_of
other_step p = let e : ◌≡◌ {A = ℕ} 7 6 = ap number_of p.decisive in omega arith

-- An operation that the run does not have.
not-begun : Placed [] (at 5 (OperationAnswer.Found 9)) → ⊥
unfolding opened
not-begun p = Memᴰ.not-nil p.of_run

placed : Placed run (at 5 (OperationAnswer.Found 9))
unfolding opened
placed = record {
  of_run = Memᴰ.head refl;
  after_begin_ok = omega arith;
  before_end = λ y e. let h : ◌≡◌ {A = ℕ} 6 y.call = ap call_of_ok e in omega arith;
  same_answer_lem = λ y e. sym (ap answer_of_ok e);
  decisive = refl;
  last = λ j h b. none-later j h b;
}
  where
    call_of_ok : Option Ended → ℕ
    call_of_ok none = 0
    call_of_ok (some y) = y.call

    answer_of_ok : Option Ended → Option OperationAnswer
    answer_of_ok none = none
    answer_of_ok (some y) = y.answer

    none-later : (j : ℕ) → 5 < j → is_before j (some (record { call = 6; answer = some (OperationAnswer.Found 9) })) ≡ true → marks 1 (event_at run j) ≡ false
    none-later j h b = absurd (let l = ltb-true j 6 b in omega arith)

-- ---- A setting found: what was added last

-- Operations on key 7, as they stand in an order: an insert with setting x that answers inserted, and a delete that
-- answers deleted.
abbrev inserting : ℕ → Linearized
inserting x = record { operated = record { begun = 1; party = 1; operation = Operation.Insert x; key = 7; ended = none }; point = 2; answer = OperationAnswer.Inserted }

abbrev deleting : Linearized
deleting = record { operated = record { begun = 3; party = 1; operation = Operation.Delete; key = 7; ended = none }; point = 4; answer = OperationAnswer.Deleted }

added_last : Came [] 7 9 (inserting 8 ∷ deleting ∷ inserting 9 ∷ [])
unfolding opened
added_last = from_insert (record {
  front = inserting 8 ∷ deleting ∷ [];
  insert = inserting 9;
  since = [];
  parts = refl;
  with_setting = refl;
  same_key = refl;
  adds = refl;
  not_since = refl;
})

-- None of these is: nothing was added, another setting was, or the key was removed since.
some_setting : Option ℕ → Bool
some_setting none = false
some_setting (some x) = true

never_added : Came [] 7 9 [] → ⊥
unfolding opened some_setting
never_added (from_before h l) = false≢true (ap some_setting h)
never_added (from_insert a) = go a.front a.insert a.since a.parts
  where
    go : (xs : List Linearized) (y : Linearized) (ys : List Linearized) → [] ≡ xs ++ (y ∷ ys) → ⊥
    go [] y ys e = let z : ◌≡◌ {A = ℕ} 0 1 = cc in omega arith
    go (x ∷ xs) y ys e = let z : ◌≡◌ {A = ℕ} 0 1 = cc in omega arith

setting_of_lem : Operation → ℕ
setting_of_lem Operation.Find = 0
setting_of_lem (Operation.Insert x) = x
setting_of_lem Operation.Delete = 0

other_insert : Came [] 7 9 (inserting 8 ∷ []) → ⊥
unfolding opened some_setting setting_of_lem
other_insert (from_before h l) = false≢true (ap some_setting h)
other_insert (from_insert a) = go a.front a.insert a.since a.parts a.with_setting
  where
    first_of_lem : List Linearized → Operation
    first_of_lem [] = Operation.Find
    first_of_lem (x ∷ xs) = x.operated.operation

    rest_of : List Linearized → ℕ
    rest_of [] = 0
    rest_of (x ∷ []) = 1
    rest_of (x ∷ (y ∷ ys)) = 2

    go : (xs : List Linearized) (y : Linearized) (ys : List Linearized) → inserting 8 ∷ [] ≡ xs ++ (y ∷ ys) → y.operated.operation ≡ Operation.Insert 9 → ⊥
    go [] y ys e s = let z : ◌≡◌ {A = ℕ} 8 9 = ap setting_of_lem (ap first_of_lem e ∙ s) in omega arith
    go (x ∷ []) y ys e s = let z : ◌≡◌ {A = ℕ} 1 2 = ap rest_of e in omega arith
    go (x ∷ (w ∷ xs)) y ys e s = let z : ◌≡◌ {A = ℕ} 1 2 = ap rest_of e in omega arith

removed_since : leaves_key 7 (deleting ∷ []) ∷ leaves_key 7 (inserting 8 ∷ []) ∷ leaves_key 6 (inserting 8 ∷ deleting ∷ []) ∷ [] ≡ false ∷ false ∷ true ∷ []
unfolding opened
removed_since = refl

-- ---- Whole orders

orders_ascend : ascending_from 1 (inserting 8 ∷ deleting ∷ []) ∷ ascending_from 1 (deleting ∷ inserting 8 ∷ []) ∷ ascending_from 1 (deleting ∷ deleting ∷ []) ∷ [] ≡ true ∷ false ∷ false ∷ []
unfolding opened
orders_ascend = refl

each_once_lem : map (λ n. times_in n (inserting 8 ∷ deleting ∷ inserting 9 ∷ [])) (1 ∷ 2 ∷ 3 ∷ []) ≡ 2 ∷ 0 ∷ 1 ∷ []
unfolding opened
each_once_lem = refl

answers_told :
    answers_in_order [] (inserting 8 ∷ deleting ∷ inserting 9 ∷ []) ∷ answers_in_order [] (deleting ∷ inserting 8 ∷ []) ∷ answers_in_order [] (inserting 8 ∷ inserting 9 ∷ []) ∷ answers_in_order (entry_of 7 5 ∷ []) (inserting 8 ∷ []) ∷ []
    ≡ true ∷ false ∷ false ∷ false ∷ []
unfolding opened
answers_told = refl

-- ---- What every linearization of a run has

module _ (s : Start) (cs : List Call) (l : Linearization s cs) (o : Operated) (in_run : IsOneOf o (operations_of (events (start s) cs))) where
  -- An operation that was answered stands in it once, one that was withdrawn nowhere.
  pub answered_stands : (n : ℕ) (a : OperationAnswer) → o.ended ≡ some (record { call = n; answer = some a }) → times_in o.begun l.order ≡ 1
  unfolding has_taken_effect
  answered_stands n a e = l.each o in_run ∙ rw e refl

  pub withdrawn_stands_not : (n : ℕ) → o.ended ≡ some (record { call = n; answer = none }) → times_in o.begun l.order ≡ 0
  unfolding has_taken_effect
  withdrawn_stands_not n e = l.each o in_run ∙ rw e refl

  -- One that was answered found has its setting from an operation before it, or from the start.
  pub found_came : FoundsRight s cs l → (n x : ℕ) → o.ended ≡ some (record { call = n; answer = some (OperationAnswer.Found x) }) → FoundInOrder s o x l.order
  found_came f n x e = f.found o (record { call = n; answer = some (OperationAnswer.Found x) }) x in_run e refl

-- Whatever stands in it takes effect between its begin and its end.
pub stands_between : (s : Start) (cs : List Call) (l : Linearization s cs) (x : Linearized) (y : Ended) → IsOneOf x l.order → x.operated.ended ≡ some y
    → (x.operated.begun < x.point) × (x.point < y.call)
stands_between s cs l x y h e = ((l.placed x h).after_begin_ok, (l.placed x h).before_end y e)

-- What stands first takes effect first.
pub first-is-first : (s : Start) (cs : List Call) (l : Linearization s cs) (x y : Linearized) (zs : List Linearized) → l.order ≡ x ∷ (y ∷ zs) → x.point < y.point
unfolding ascending_from
first-is-first s cs l x y zs e =
    let up : ascending_from 1 (x ∷ (y ∷ zs)) ≡ true = sym (ap (ascending_from 1) e) ∙ l.ascending in
    let rest = (and_both (leb 1 x.point) (ascending_from (x.point + 1) (y ∷ zs)) up).1 in
    let next = leb-true (x.point + 1) y.point (and_both (leb (x.point + 1) y.point) (ascending_from (y.point + 1) zs) rest).0 in
    omega (arith, next)

-- A reply to a call of another kind marks nothing.
pub others_mark_none : (q n j : ℕ) (x : CallReply) (y : CallReply) → step_marks q n (step_for j) (to_begin x) ∷ step_marks q n (step_for j) (to_withdraw y) ∷ [] ≡ false ∷ false ∷ []
unfolding step_marks
others_mark_none q n j x y = refl
