-- A linearization (Herlihy and Wing 1990) of a run: an order of its operations, each at one call between its begin and
-- its answer, in which a plain map gives every answer. "A withdrawn operation has no answer and does not count in the
-- one-at-a-time order" (document 02, change 2).
-- It speaks of the calls and what they returned, and of the memory at the end; of no book. Calls are numbered from 1.
-- Main definitions: Ended, Operated and operations_of (the operations of a run); decisive_step and has_taken_effect (when
-- one takes effect, and whether it has); Linearized and Placed (an operation in its place), StandsBefore;
-- answers_in_order and map_after (the plain map, operation by operation); Linearization.
-- The theorem that every list of calls has one is in proofs/Linearization.antt.
use Rattle.std.specs.Prelude.{◌≡◌, Bool, true, false, cond, ◌&&◌, ◌||◌, ℕ, ◌+◌, ◌<◌, eqb, ltb, leb, Ok, Err}
use mathlib.Core.List.{List, [], ◌∷◌, ◌++◌, Memᴰ}
use Rattle.std.proofs.Math.Option.{Option, none, some}
use Rattle.model.specs.declared.Operation.{Operation}
use Rattle.model.specs.declared.OperationAnswer.{OperationAnswer}
use Rattle.model.specs.declared.StepAnswer.TheVariants as StepAnswer
use Rattle.model.specs.Answers.{answer_number, performs}
use Rattle.model.specs.Steps.Write.{is_change}
use Rattle.model.specs.Withdraw.{is_decided}
use Rattle.model.specs.Memory.{Memory, party_at}
use Rattle.model.specs.Runs.{Call, begin_for, step_for, withdraw_for, Reply, to_begin, to_step, to_withdraw, Event, events}
use Rattle.theory.specs.PlainMap.{PlainMap, answers_as_map, map_left_by}
use Rattle.model.specs.Consistency.{Consistent, records_in}
use Rattle.theory.specs.Demands.{Start, start, map_start, Reached}

-- x is one of xs.
abbrev pub IsOneOf : {A : Type 0} → A → List A → Type 0
IsOneOf x xs = Memᴰ x xs

-- ---- The operations of a run, read off its events

-- How an operation ended: the number of the call, and the answer that it returned; none where it was withdrawn.
pub record Ended : Type 0 where
  pub call : ℕ
  pub answer : Option OperationAnswer

-- An operation: the number of the begin that entered it, its party, which operation with which key, and its end if it
-- has one.
pub record Operated : Type 0 where
  pub begun : ℕ
  pub party : ℕ
  pub operation : Operation
  pub key : ℕ
  pub ended : Option Ended

-- The end that a reply is: a done, with its answer, or a withdraw accepted, without one.
unfoldable pub end_in : Reply → Option (Option OperationAnswer)
end_in (to_begin x) = none
end_in (to_step (Ok StepAnswer.Waiting)) = none
end_in (to_step (Ok StepAnswer.Moved)) = none
end_in (to_step (Ok (StepAnswer.Done a s))) = some (some a)
end_in (to_step (Err c)) = none
end_in (to_withdraw (Ok _)) = some none
end_in (to_withdraw (Err c)) = none

-- The end that a call brings to party q.
unfoldable pub end_to : ℕ → Call → Reply → Option (Option OperationAnswer)
end_to q (begin_for j o k) x = none
end_to q (step_for j) x = cond (eqb j q) (end_in x) none
end_to q (withdraw_for j) x = cond (eqb j q) (end_in x) none

-- The end at call n, or else a later one.
unfoldable pub or_later : ℕ → Option (Option OperationAnswer) → Option Ended → Option Ended
or_later n none later = later
or_later n (some a) later = some (record { call = n; answer = a })

-- The first end for party q, in events of calls numbered from n on.
unfoldable pub first_end : ℕ → ℕ → List Event → Option Ended
first_end q n [] = none
first_end q n (e ∷ es) = or_later n (end_to q e.call e.reply) (first_end q (n + 1) es)

-- A begin answered ok enters its operation, whose end is the first one that its party gets after it; no other call
-- enters any.
unfoldable pub entering : ℕ → Call → Reply → List Event → List Operated → List Operated
entering n (begin_for q o k) (to_begin (Ok _)) later rest =
    record { begun = n; party = q; operation = o; key = k; ended = first_end q (n + 1) later } ∷ rest
entering n (begin_for q o k) (to_begin (Err x)) later rest = rest
entering n (begin_for q o k) (to_step x) later rest = rest
entering n (begin_for q o k) (to_withdraw x) later rest = rest
entering n (step_for q) x later rest = rest
entering n (withdraw_for q) x later rest = rest

-- The operations entered in events of calls numbered from n on, in the order of their begins.
unfoldable pub operations_from : ℕ → List Event → List Operated
operations_from n [] = []
operations_from n (e ∷ es) = entering n e.call e.reply es (operations_from (n + 1) es)

-- The operations of a whole run.
abbrev pub operations_of : List Event → List Operated
operations_of es = operations_from 1 es

-- The event of call j, in events of calls numbered from n on.
unfoldable pub event_from : ℕ → List Event → ℕ → Option Event
event_from n [] j = none
event_from n (e ∷ es) j = cond (eqb j n) (some e) (event_from (n + 1) es j)

-- The event of call j of a whole run.
abbrev pub event_at : List Event → ℕ → Option Event
event_at es j = event_from 1 es j

-- ---- When an operation takes effect

-- "Decisive steps: 11 for a change made; 10 for an insert or delete that changes nothing; the last 6 for a find."
unfoldable pub decisive_step : Operation → OperationAnswer → ℕ
decisive_step Operation.Find a = 6
decisive_step (Operation.Insert x) a = cond (is_change (answer_number a)) 11 10
decisive_step Operation.Delete a = cond (is_change (answer_number a)) 11 10

-- Whether party q performs a 6, a 10 or an 11 at an event.
unfoldable pub step_marks : ℕ → ℕ → Call → Reply → Bool
step_marks q number (begin_for j o k) x = false
step_marks q number (step_for j) (to_begin x) = false
step_marks q number (step_for j) (to_step a) = eqb j q && performs a && (eqb number 6 || eqb number 10 || eqb number 11)
step_marks q number (step_for j) (to_withdraw x) = false
step_marks q number (withdraw_for j) x = false

-- The same of a call that there may be or not.
unfoldable pub marks : ℕ → Option Event → Bool
marks q none = false
marks q (some e) = step_marks q e.number e.call e.reply

-- Whether there is an answer.
abbrev pub is_answer : Option OperationAnswer → Bool
is_answer none = false
is_answer (some a) = true

-- Whether an operation has taken effect: where it has ended, if it was answered, so not if it was withdrawn; where it is
-- under way, if its decisive step is done. (is_decided goes by the step number that the decisive step leads to.)
abbrev pub takes_effect : Bool → Option Ended → Bool
takes_effect decided none = decided
takes_effect decided (some y) = is_answer y.answer

-- The same when the memory m is reached.
unfoldable pub has_taken_effect : Memory → Operated → Bool
has_taken_effect m o = takes_effect (is_decided (party_at m.parties o.party)) o.ended

-- ---- An order of operations

-- An operation in an order: the number of the call at which it takes effect, and the answer that it gets there.
pub record Linearized : Type 0 where
  pub operated : Operated
  pub point : ℕ
  pub answer : OperationAnswer

-- Whether the points ascend, the first at n or later; so no two operations share one.
unfoldable pub ascending_from : ℕ → List Linearized → Bool
ascending_from n [] = true
ascending_from n (x ∷ xs) = leb n x.point && ascending_from (x.point + 1) xs

-- How often the operation entered by call n stands in an order.
unfoldable pub times_in : ℕ → List Linearized → ℕ
times_in n [] = 0
times_in n (x ∷ xs) = cond (eqb x.operated.begun n) 1 0 + times_in n xs

-- Whether a plain map, one operation after the other, gives every answer of an order.
unfoldable pub answers_in_order : PlainMap → List Linearized → Bool
answers_in_order s [] = true
answers_in_order s (x ∷ xs) =
    let o = x.operated in
    answers_as_map s o.operation o.key x.answer && answers_in_order (map_left_by s o.operation o.key x.answer) xs

-- The map that it leaves.
unfoldable pub map_after : PlainMap → List Linearized → PlainMap
map_after s [] = s
map_after s (x ∷ xs) = let o = x.operated in map_after (map_left_by s o.operation o.key x.answer) xs

-- Whether call j comes before an end; before none, every call does.
unfoldable pub is_before : ℕ → Option Ended → Bool
is_before j none = true
is_before j (some y) = ltb j y.call

-- An operation of the run in its place: it takes effect after its begin and before its end, which is its answer, the one
-- that it was given; the call at which it does is its decisive step, and no later call of it performs a 6, a 10 or an 11.
pub record Placed (es : List Event) (x : Linearized) : Type 0 where
  pub of_run : IsOneOf x.operated (operations_of es)
  pub after_begin_ok : x.operated.begun < x.point
  pub before_end : (y : Ended) → x.operated.ended ≡ some y → x.point < y.call
  pub same_answer_lem : (y : Ended) → x.operated.ended ≡ some y → y.answer ≡ some x.answer
  pub decisive : event_at es x.point
      ≡ some (record { call = step_for x.operated.party; number = decisive_step x.operated.operation x.answer; reply = to_step (Ok StepAnswer.Moved) })
  pub last : (j : ℕ) → x.point < j → is_before j x.operated.ended ≡ true → marks x.operated.party (event_at es j) ≡ false

-- x stands before y in an order.
pub record StandsBefore (x y : Linearized) (xs : List Linearized) : Type 0 where
  pub front : List Linearized
  pub between : List Linearized
  pub back : List Linearized
  pub parts : xs ≡ front ++ (x ∷ (between ++ (y ∷ back)))

-- The run of a list of calls from a start has a linearization: an order of operations, by the calls at which they
-- take effect.
pub record Linearization (s : Start) (cs : List Call) : Type 0 where
  pub order : List Linearized
  pub ascending : ascending_from 1 order ≡ true
  pub placed : (x : Linearized) → IsOneOf x order → Placed (events (start s) cs) x
  -- Each operation answered, and each under way whose decisive step is done, stands in it once; no other does, so none
  -- that was withdrawn.
  pub each : (o : Operated) → IsOneOf o (operations_of (events (start s) cs)) → times_in o.begun order ≡ cond (has_taken_effect (Reached s cs) o) 1 0
  -- Real time: an operation answered before another begins stands before it.
  pub real_time : (x y : Linearized) (a : Ended) → IsOneOf x order → IsOneOf y order → x.operated.ended ≡ some a → a.call < y.operated.begun → StandsBefore x y order
  -- From the map at the start on, a plain map gives every answer. "No page" stands only for an insert of a missing key
  -- or a delete of a present one, and leaves the map.
  pub answers : answers_in_order (map_start s) order ≡ true
  -- The map at the end is what the chains of the file hold.
  pub file : Consistent (Reached s cs)
  pub map-left : records_in (Reached s cs) file ≡ map_after (map_start s) order
