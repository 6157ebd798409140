-- How many calls an operation takes (document 02, change 8): waiting ones set aside, a find at most 31 + V, an insert
-- or a delete at most 45, whatever the other parties do.
-- A call counts where it is answered moved or done; begin, waiting and refused calls do not, nor calls of an operation
-- once it is withdrawn.
-- Main definitions: Counted; most_calls (the figures), most_rehashes and most_by_sizes (the same by the sizes);
-- calls_bounded (over a whole list); CallsRight.
use Rattle.std.specs.Prelude.{◌≡◌, Bool, true, false, cond, ◌&&◌, List, [], ◌∷◌, ℕ, zero, suc, ◌+◌, ◌*◌, leb, ltb, Ok, Err}
use Rattle.std.proofs.Math.Option.{Option, none, some}
use Rattle.model.specs.Answers.{StepReply, CallReply}
use Rattle.model.specs.declared.Root.{Root}
use Rattle.model.specs.declared.Operation.{Operation}
use Rattle.model.specs.declared.StepAnswer.{StepAnswer}
use Rattle.model.specs.Addresses.{span}
use Rattle.model.specs.Runs.{Call, begin_for, step_for, withdraw_for, Reply, to_begin, to_step, to_withdraw, Event, events}
use Rattle.model.specs.Book.{changed_at}
use Rattle.theory.specs.Demands.{Start, start, sizes_of}

-- ---- The figures

-- What an operation takes at most, by the sizes V of a root record: "a find at most 31 + V, an insert or a delete at
-- most 45".
unfoldable pub most_calls : Root → Operation → ℕ
most_calls r Operation.Find = 31 + r.overflow
most_calls r (Operation.Insert x) = 45
most_calls r Operation.Delete = 45

-- The first of i, i + 1, .. i + f, the last at the latest, at which n chains have doubled to p or more.
unfoldable pub doubled_from : ℕ → ℕ → ℕ → ℕ → ℕ
doubled_from zero i n p = i
doubled_from (suc f) i n p = cond (leb p (span n i)) i (doubled_from f (i + 1) n p)

-- R, the least number with N × 2^R ≥ P: how often an operation can be led on to another chain. There are at most 256
-- chains, so it is at most 8.
unfoldable pub most_rehashes : Root → ℕ
most_rehashes r = doubled_from 8 0 r.originals r.primaries

-- The figures with R in the place of 8.
unfoldable pub most_with : ℕ → Root → Operation → ℕ
most_with n r Operation.Find = 7 + 3 * n + r.overflow
most_with n r (Operation.Insert x) = 21 + 3 * n
most_with n r Operation.Delete = 19 + 3 * n

unfoldable pub most_by_sizes : Root → Operation → ℕ
most_by_sizes r o = most_with (most_rehashes r) r o

-- ---- One party

-- An operation under way: what it takes at most, set by its begin, and what it has taken.
pub record Counted : Type 0 where
  pub limit : ℕ
  pub taken : ℕ

abbrev pub counted : ℕ → ℕ → Counted
counted l n = record { limit = l; taken = n }

-- A begin accepted while an operation is under way is wrong.
unfoldable pub begin_bounded : Option Counted → CallReply → Bool
begin_bounded none a = true
begin_bounded (some x) (Ok _) = false
begin_bounded (some x) (Err c) = true

-- Moved leaves a call to take; done may be the last. Neither is right where nothing is under way.
unfoldable pub step_bounded : Option Counted → StepReply → Bool
step_bounded none (Ok StepAnswer.Waiting) = true
step_bounded none (Ok StepAnswer.Moved) = false
step_bounded none (Ok (StepAnswer.Done a s)) = false
step_bounded none (Err c) = true
step_bounded (some x) (Ok StepAnswer.Waiting) = true
step_bounded (some x) (Ok StepAnswer.Moved) = ltb (x.taken + 1) x.limit
step_bounded (some x) (Ok (StepAnswer.Done a s)) = leb (x.taken + 1) x.limit
step_bounded (some x) (Err c) = true

-- What is counted after a begin of an operation that takes at most l calls, after a step and after a withdraw.
unfoldable pub counted_begin : ℕ → Option Counted → CallReply → Option Counted
counted_begin l x (Ok _) = some (counted l 0)
counted_begin l x (Err c) = x

unfoldable pub counted_step : Option Counted → StepReply → Option Counted
counted_step none a = none
counted_step (some x) (Ok StepAnswer.Waiting) = some x
counted_step (some x) (Ok StepAnswer.Moved) = some (counted x.limit (x.taken + 1))
counted_step (some x) (Ok (StepAnswer.Done a s)) = none
counted_step (some x) (Err c) = some x

unfoldable pub counted_withdraw : Option Counted → CallReply → Option Counted
counted_withdraw x (Ok _) = none
counted_withdraw x (Err c) = x

-- ---- A list of events

-- By party; nobody is under way at first.
unfoldable pub none_counted : ℕ → Option Counted
none_counted q = none

-- Whether a reply is right by what is counted. A reply to another kind of call is not.
unfoldable pub call_bounded : (ℕ → Option Counted) → Call → Reply → Bool
call_bounded w (begin_for q o k) (to_begin a) = begin_bounded (w q) a
call_bounded w (begin_for q o k) (to_step a) = false
call_bounded w (begin_for q o k) (to_withdraw a) = false
call_bounded w (step_for q) (to_begin a) = false
call_bounded w (step_for q) (to_step a) = step_bounded (w q) a
call_bounded w (step_for q) (to_withdraw a) = false
call_bounded w (withdraw_for q) (to_begin a) = false
call_bounded w (withdraw_for q) (to_step a) = false
call_bounded w (withdraw_for q) (to_withdraw a) = true

-- What is counted after an event, where an operation o takes at most most o calls.
unfoldable pub counted_after : (Operation → ℕ) → (ℕ → Option Counted) → Call → Reply → ℕ → Option Counted
counted_after most w (begin_for q o k) (to_begin a) = changed_at w q (counted_begin (most o) (w q) a)
counted_after most w (begin_for q o k) (to_step a) = w
counted_after most w (begin_for q o k) (to_withdraw a) = w
counted_after most w (step_for q) (to_begin a) = w
counted_after most w (step_for q) (to_step a) = changed_at w q (counted_step (w q) a)
counted_after most w (step_for q) (to_withdraw a) = w
counted_after most w (withdraw_for q) (to_begin a) = w
counted_after most w (withdraw_for q) (to_step a) = w
counted_after most w (withdraw_for q) (to_withdraw a) = changed_at w q (counted_withdraw (w q) a)

-- Whether every operation of a run keeps within its limit: it is not moved on by the call that makes the limit up.
unfoldable pub calls_bounded : (Operation → ℕ) → (ℕ → Option Counted) → List Event → Bool
calls_bounded most w [] = true
calls_bounded most w (e ∷ es) = call_bounded w e.call e.reply && calls_bounded most (counted_after most w e.call e.reply) es

-- ---- The statement

-- For one list of calls: the figures, and the sharper ones by the sizes. 31 + V is reached for V = 1: with none nothing
-- splits; a find led on eight times ends in a chain split off after its begin, and a chain that the calls have written
-- has at most (V + 1) / 2 overflow pages, since a rebuild takes all its pages while the old ones are still out. In a
-- file taken up a chain may have all V: where N is P a find takes 7 + V calls there, for every V.
pub record CallsRight (s : Start) (cs : List Call) : Type 0 where
  pub bounded : calls_bounded (most_calls (sizes_of s)) none_counted (events (start s) cs) ≡ true
  pub by_sizes_ok : calls_bounded (most_by_sizes (sizes_of s)) none_counted (events (start s) cs) ≡ true
