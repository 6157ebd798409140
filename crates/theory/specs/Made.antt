-- Calls as their caller has them: what was answered and what memory was left, each the equation of that call's
-- contract; and lists of calls, made one after the other on memory that nothing else changes.
-- Main definitions: Formatted and Looked (a call of `format`, of `take_up`), Opened (the two ways into a run); Made
-- (one call), Ran (a list of calls, with looks by `take_up` among them); looks_made (how often it was looked),
-- looks_right (what every look answered). That every call is made, in one way only, and that every list is run, in one
-- way only: proofs/Made.antt.
use Rattle.std.specs.Prelude.{◌≡◌, Bool, true, cond, ◌&&◌, List, [], ◌∷◌, ℕ, suc, eqb, Ok}
use Rattle.model.specs.Answers.{StepReply, CallReply, refusal_number}
use Rattle.model.specs.declared.Operation.{Operation}
use Rattle.model.specs.declared.FileSizes.{FileSizes}
use Rattle.model.specs.Memory.{Memory, party_at}
use Rattle.model.specs.Calls.{called, format_call, begin_call, step_call, withdraw_call}
use Rattle.model.specs.Runs.{Call, begin_for, step_for, withdraw_for, Reply, to_begin, to_step, to_withdraw, caller_of, Event}
use Rattle.model.specs.Book.{Book}
use Rattle.model.specs.Progress.{under_way, some_below, book_after_call}
use Rattle.model.specs.TakeUp.{take_up_call}

-- ---- The ways into a run

-- `format` with the sizes z, on memory m₀, answered formatted and left m.
abbrev pub Formatted : Memory → FileSizes → Memory → Type 0
Formatted m₀ z m = called (Ok tt) m ≡ format_call m₀ z.originals z.capacity z.primaries z.overflow z.parties

-- `take_up` on memory m got this answer and left m'.
abbrev pub Looked : Memory → CallReply → Memory → Type 0
Looked m a m' = called a m' ≡ take_up_call m

-- The ways into a run that starts from m: a format answered formatted, or a take-up answered taken up.
pub data Opened : Memory → Type 0 where
  by_format : {m : Memory} (m₀ : Memory) (z : FileSizes) → Formatted m₀ z m → Opened m
  by-take_up : {m : Memory} (m₀ : Memory) → Looked m₀ (Ok tt) m → Opened m

-- ---- Calls

-- A call of `begin`, `step` or `withdraw` on memory m got this reply and left m'.
pub data Made : Memory → Call → Reply → Memory → Type 0 where
  begun : {m m' : Memory} (q : ℕ) (o : Operation) (k : ℕ) (a : CallReply) → called a m' ≡ begin_call m q o k → Made m (begin_for q o k) (to_begin a) m'
  stepped : {m m' : Memory} (q : ℕ) (a : StepReply) → called a m' ≡ step_call m q → Made m (step_for q) (to_step a) m'
  withdrew : {m m' : Memory} (q : ℕ) (a : CallReply) → called a m' ≡ withdraw_call m q → Made m (withdraw_for q) (to_withdraw a) m'

-- The event of a call made on memory m: the call, the step number of its party's record before it, and the reply.
abbrev pub happened : Memory → Call → Reply → Event
happened m c x = record { call = c; number = (party_at m.parties (caller_of c)).step; reply = x }

-- A list of calls, made one after the other from memory m on, made these events and left m'. Between any two of them
-- the caller may have looked: a call of `take_up` is none of the list, and makes no event.
pub data Ran : Memory → List Call → List Event → Memory → Type 0 where
  ended : {m : Memory} → Ran m [] [] m
  next : {m m' m'' : Memory} {c : Call} {x : Reply} {cs : List Call} {es : List Event} → Made m c x m' → Ran m' cs es m'' → Ran m (c ∷ cs) (happened m c x ∷ es) m''
  looked : {m m' m'' : Memory} {a : CallReply} {cs : List Call} {es : List Event} → Looked m a m' → Ran m' cs es m'' → Ran m cs es m''

-- ---- Looks

-- How often a run was looked at.
unfoldable pub looks_made : {m m' : Memory} {cs : List Call} {es : List Event} → Ran m cs es m' → ℕ
looks_made ended = 0
looks_made (next {m} {m'} {m''} {c} {x} {cs} {es} made ran) = looks_made ran
looks_made (looked {m} {m'} {m''} {a} {cs} {es} look ran) = suc (looks_made ran)

-- Whether every look of a run was answered taken up where none of n parties was under way, by the book b at its start,
-- and refused 8 where one was.
unfoldable pub looks_right : {m m' : Memory} {cs : List Call} {es : List Event} → ℕ → Book → Ran m cs es m' → Bool
looks_right n b ended = true
looks_right n b (next {m} {m'} {m''} {c} {x} {cs} {es} made ran) = looks_right n (book_after_call b m c) ran
looks_right n b (looked {m} {m'} {m''} {a} {cs} {es} look ran) = eqb (refusal_number a) (cond (some_below n (under_way b)) 8 0) && looks_right n b ran
