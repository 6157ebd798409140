-- Lists of begins, steps and withdraws, run from any memory, and the events that such a run makes (document 01, "The set book").
-- Main definitions: Call, Reply, Event (a call, the number of the step it performed, its reply); event_of, after_call; events and final_memory of a list.
use Rattle.std.specs.Prelude.{List, [], ◌∷◌, ℕ}
use Rattle.model.specs.Answers.{StepReply, CallReply}
use Rattle.model.specs.declared.Operation.{Operation}
use Rattle.model.specs.Memory.{Memory, party_at}
use Rattle.model.specs.Calls.{begin_call, step_call, withdraw_call}

-- A begin: party, operation (an insert's with its setting), key. A step and a withdraw: party.
pub data Call : Type 0 where
  begin_for : ℕ → Operation → ℕ → Call
  step_for : ℕ → Call
  withdraw_for : ℕ → Call

-- What a call returned.
pub data Reply : Type 0 where
  to_begin : CallReply → Reply
  to_step : StepReply → Reply
  to_withdraw : CallReply → Reply

-- The party that a call is for.
abbrev pub caller_of : Call → ℕ
caller_of (begin_for q o k) = q
caller_of (step_for q) = q
caller_of (withdraw_for q) = q

-- The reply to a call, and the memory after it.
unfoldable pub reply_to : Memory → Call → Reply
reply_to m (begin_for q o k) = to_begin (begin_call m q o k).answer
reply_to m (step_for q) = to_step (step_call m q).answer
reply_to m (withdraw_for q) = to_withdraw (withdraw_call m q).answer

unfoldable pub after_call : Memory → Call → Memory
after_call m (begin_for q o k) = (begin_call m q o k).memory
after_call m (step_for q) = (step_call m q).memory
after_call m (withdraw_for q) = (withdraw_call m q).memory

-- A call with what it met: the party's step number when it was made, and the reply.
pub record Event : Type 0 where
  pub call : Call
  pub number : ℕ
  pub reply : Reply

unfoldable pub event_of : Memory → Call → Event
event_of m c = record { call = c; number = (party_at m.parties (caller_of c)).step; reply = reply_to m c }

-- The events of a list of calls, and the memory after it.
unfoldable pub events : Memory → List Call → List Event
events m [] = []
events m (c ∷ cs) = event_of m c ∷ events (after_call m c) cs

unfoldable pub final_memory : Memory → List Call → Memory
final_memory m [] = m
final_memory m (c ∷ cs) = final_memory (after_call m c) cs
