-- THE INDEX as a C caller has it: bead_format, bead_take_up, bead_begin, bead_step and bead_withdraw of src/lib.rt,
-- called one after the other on memory that nothing else changes, with the numbers that they were given and returned.
-- What is said of one call is that function's contract. What is said of a run is that it is one of the index
-- (crates/theory/specs/Made.antt), whose replies are the numbers seen; so it has the demands of document 01
-- (crates/index/specs/TheIndex.antt).
-- Main definitions: BeadFormatted, BeadLooked, BeadBegun, BeadStepped, BeadWithdrew (the contracts); BeadOpened (the
-- two ways into a run: 0 was returned), Seen and BeadRan (a run, and what was seen of it); calls_in, answers_in,
-- looks_in (its calls and their numbers), answers_of, looks_of (the numbers of a run of the index); BeadRight. The
-- theorem is proofs/TheCalls.antt.
use Rattle.std.specs.Prelude.{◌≡◌, cond, List, [], ◌∷◌, ℕ}
use Rattle.model.specs.Answers.{refusal_number}
use Rattle.model.specs.Memory.{Memory}
use Rattle.model.specs.Calls.{called, format_call, step_call, withdraw_call}
use Rattle.model.specs.TakeUp.{take_up_call}
use Rattle.model.specs.Runs.{Call, begin_for, step_for, withdraw_for, Reply, to_begin, to_step, to_withdraw, Event}
use Rattle.theory.specs.Made.{Ran}
use Rattle.theory.specs.Made as Made
use Rattle.index.specs.TheIndex.{IndexRight}
use Rattle.bead.specs.declared.BeadReply.{BeadReply}
use Rattle.bead.specs.Numbers.{is_operation, operation_of, reply_of, numbered, begin_numbered}

-- ---- The contracts: what was lent, what the call was given, the number that it returned, what it left

abbrev pub BeadFormatted : Memory → ℕ → ℕ → ℕ → ℕ → ℕ → ℕ → Memory → Type 0
BeadFormatted m n b p v q y m' = called y m' ≡ numbered refusal_number (format_call m n b p v q)

abbrev pub BeadLooked : Memory → ℕ → Memory → Type 0
BeadLooked m y m' = called y m' ≡ numbered refusal_number (take_up_call m)

-- Party, operation by its number, key, setting.
abbrev pub BeadBegun : Memory → ℕ → ℕ → ℕ → ℕ → ℕ → Memory → Type 0
BeadBegun m q o k x y m' = called y m' ≡ begin_numbered m q o k x

abbrev pub BeadStepped : Memory → ℕ → BeadReply → Memory → Type 0
BeadStepped m q y m' = called y m' ≡ numbered reply_of (step_call m q)

abbrev pub BeadWithdrew : Memory → ℕ → ℕ → Memory → Type 0
BeadWithdrew m q y m' = called y m' ≡ numbered refusal_number (withdraw_call m q)

-- ---- A run

-- The ways into a run that starts from m: bead_format returned 0, or bead_take_up did.
pub data BeadOpened : Memory → Type 0 where
  by_format : {m : Memory} (m₀ : Memory) (n b p v q : ℕ) → BeadFormatted m₀ n b p v q 0 m → BeadOpened m
  by-take_up : {m : Memory} (m₀ : Memory) → BeadLooked m₀ 0 m → BeadOpened m

-- A call with what it was given and what it returned.
pub data Seen : Type 0 where
  begin_saw : (q o k x y : ℕ) → Seen
  step_saw : (q : ℕ) (y : BeadReply) → Seen
  withdraw_saw : (q y : ℕ) → Seen
  look_saw : (y : ℕ) → Seen

-- Calls made one after the other from memory m on were seen to return this, and left m'.
pub data BeadRan : Memory → List Seen → Memory → Type 0 where
  ended : {m : Memory} → BeadRan m [] m
  begun : {m m' m'' : Memory} {ss : List Seen} (q o k x y : ℕ) → BeadBegun m q o k x y m' → BeadRan m' ss m'' → BeadRan m (begin_saw q o k x y ∷ ss) m''
  stepped : {m m' m'' : Memory} {ss : List Seen} (q : ℕ) (y : BeadReply) → BeadStepped m q y m' → BeadRan m' ss m'' → BeadRan m (step_saw q y ∷ ss) m''
  withdrew : {m m' m'' : Memory} {ss : List Seen} (q y : ℕ) → BeadWithdrew m q y m' → BeadRan m' ss m'' → BeadRan m (withdraw_saw q y ∷ ss) m''
  looked : {m m' m'' : Memory} {ss : List Seen} (y : ℕ) → BeadLooked m y m' → BeadRan m' ss m'' → BeadRan m (look_saw y ∷ ss) m''

-- ---- What was seen, as calls and numbers

-- What a call returned: a number, or a step's reply.
pub data BeadAnswer : Type 0 where
  number : ℕ → BeadAnswer
  reply : BeadReply → BeadAnswer

-- The calls of the index among them: a begin whose number is no operation's is none.
unfoldable pub calls_in : List Seen → List Call
calls_in [] = []
calls_in (begin_saw q o k x y ∷ ss) = cond (is_operation o) (begin_for q (operation_of o x) k ∷ calls_in ss) (calls_in ss)
calls_in (step_saw q y ∷ ss) = step_for q ∷ calls_in ss
calls_in (withdraw_saw q y ∷ ss) = withdraw_for q ∷ calls_in ss
calls_in (look_saw y ∷ ss) = calls_in ss

-- What those returned.
unfoldable pub answers_in : List Seen → List BeadAnswer
answers_in [] = []
answers_in (begin_saw q o k x y ∷ ss) = cond (is_operation o) (number y ∷ answers_in ss) (answers_in ss)
answers_in (step_saw q y ∷ ss) = reply y ∷ answers_in ss
answers_in (withdraw_saw q y ∷ ss) = number y ∷ answers_in ss
answers_in (look_saw y ∷ ss) = answers_in ss

-- What looks returned.
unfoldable pub looks_in : List Seen → List ℕ
looks_in [] = []
looks_in (begin_saw q o k x y ∷ ss) = looks_in ss
looks_in (step_saw q y ∷ ss) = looks_in ss
looks_in (withdraw_saw q y ∷ ss) = looks_in ss
looks_in (look_saw y ∷ ss) = y ∷ looks_in ss

-- ---- The numbers of a run of the index

unfoldable pub answer_for : Reply → BeadAnswer
answer_for (to_begin a) = number (refusal_number a)
answer_for (to_step a) = reply (reply_of a)
answer_for (to_withdraw a) = number (refusal_number a)

unfoldable pub answers_of : List Event → List BeadAnswer
answers_of [] = []
answers_of (e ∷ es) = answer_for e.reply ∷ answers_of es

unfoldable pub looks_of : {m m' : Memory} {cs : List Call} {es : List Event} → Ran m cs es m' → List ℕ
looks_of Made.ended = []
looks_of (Made.next {m} {m'} {m''} {c} {x} {cs} {es} made ran) = looks_of ran
looks_of (Made.looked {m} {m'} {m''} {a} {cs} {es} look ran) = refusal_number a ∷ looks_of ran

-- ---- What holds

-- Once calls, made from memory m₀ on, were seen to return this and left m: they are a run of the index, its replies
-- and looks are the numbers seen, and it is right.
pub record BeadRight (m₀ : Memory) (ss : List Seen) (m : Memory) : Type 0 where
  pub events : List Event
  pub ran : Ran m₀ (calls_in ss) events m
  pub answers : answers_in ss ≡ answers_of events
  pub looks : looks_in ss ≡ looks_of ran
  pub right : IndexRight m₀ (calls_in ss) events m ran
