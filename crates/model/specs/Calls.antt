-- The four calls as total functions on memory of any contents and any lengths (document 01, "What it covers" and "Refused calls"; document 02, change 2).
-- Main definitions: format_call, begin_call, step_call, withdraw_call; each gives the answer and all lent memory afterwards.
use Rattle.std.specs.Prelude.{ℕ, set, Ok, Err, Result}
use Rattle.model.specs.declared.Refusal.{Refusal}
use Rattle.model.specs.declared.Operation.{Operation}
use Rattle.model.specs.Records.{root_of_sizes, begun}
use Rattle.model.specs.Answers.{operation_number, setting_given, StepReply, CallReply}
use Rattle.model.specs.Memory.{Memory, party_at, view_of, after_step, with_waiting, formatted}
use Rattle.model.specs.Outcome.{Outcome}
use Rattle.model.specs.Refusals.{first_cause, format_rows, begin_rows, step_rows, withdraw_rows}
use Rattle.model.specs.Steps.Dispatch.{step_of}
use Rattle.model.specs.Withdraw.{withdrawn}
use Rattle.model.specs.WaitingRow.{row_after, row_left}

-- What a call answers, and the memory it leaves.
pub record Called (A : Type 0) : Type 0 where
  pub answer : A
  pub memory : Memory

abbrev pub called : {A : Type 0} → A → Memory → Called A
called a m = record { answer = a; memory = m }

-- A call by its first cause: refused for it, and all lent memory left; else as the last argument says.
abbrev pub unless_refused : {A : Type 0} → Memory → CallReply → Called (Result A Refusal) → Called (Result A Refusal)
unless_refused m (Ok _) o = o
unless_refused m (Err c) o = called (Err c) m

-- Format with the sizes N b P V Q; it never reads the root record that stood there.
unfoldable pub format_call : Memory → ℕ → ℕ → ℕ → ℕ → ℕ → Called CallReply
format_call m n b p v q =
    let r = root_of_sizes n b p v q in
    unless_refused m (first_cause (format_rows r m)) (called (Ok tt) (formatted r))

-- The memory with an operation begun for party q.
unfoldable pub with_begun : Memory → ℕ → Operation → ℕ → Memory
with_begun m q o k = record { root = m.root; parties = set m.parties q (begun (operation_number o) k (setting_given o)); locks = m.locks; pages = m.pages; waiting = m.waiting }

-- Begin an operation with key k for party q.
unfoldable pub begin_call : Memory → ℕ → Operation → ℕ → Called CallReply
begin_call m q o k = unless_refused m (first_cause (begin_rows m q)) (called (Ok tt) (with_begun m q o k))

-- What a call of step is whose step has the outcome o: the waiting row goes by the answer.
abbrev pub called_by : Memory → ℕ → Outcome → Called StepReply
called_by m q o = called o.answer (with_waiting (row_after q m.waiting o.answer) (after_step m o.after))

-- The party's next step performed.
unfoldable pub stepped : Memory → ℕ → Called StepReply
stepped m q = called_by m q (step_of (party_at m.parties q).step (view_of m q))

-- One step for party q.
unfoldable pub step_call : Memory → ℕ → Called StepReply
step_call m q = unless_refused m (first_cause (step_rows m q)) (stepped m q)

-- The party's operation taken back.
unfoldable pub withdrawn_from : Memory → ℕ → Called CallReply
withdrawn_from m q =
    let o = withdrawn (view_of m q) in
    called o.answer (with_waiting (row_left q m.waiting o.answer) (after_step m o.after))

-- Withdraw, for party q.
unfoldable pub withdraw_call : Memory → ℕ → Called CallReply
withdraw_call m q = unless_refused m (first_cause (withdraw_rows m q)) (withdrawn_from m q)
