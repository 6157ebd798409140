-- The replies that turns prints (document 01, "The turns program"; document 02, changes 2 and 6): each has a pattern
-- and the numbers in it.
-- Main definitions: Outcome and StepOutcome (an answer, or a refusal's number); reply_pattern and reply_numbers, a row for
-- each reply; a step that is done has a row for its answer and one for the restructuring; ReplyLine, reply_text.
use Rattle.std.specs.Prelude.{Result, Ok, Err, ⊤, List, [], ◌∷◌, ◌++◌, ℕ}
use Rattle.model.specs.declared.OperationAnswer.{OperationAnswer}
use Rattle.model.specs.declared.Restructuring.{Restructuring}
use Rattle.model.specs.declared.StepAnswer.{StepAnswer}
use Rattle.patterns.specs.Texts.{bytes}
use Rattle.patterns.specs.Patterns.{filled}
use Rattle.patterns.specs.Grammar.{Derives}
use Rattle.forms.specs.declared.Reply.{Reply}

-- ---- Patterns

abbrev pub unread_reply : List ℕ
unread_reply = bytes "(unread)"

abbrev pub format_ok : List ℕ
format_ok = bytes "(format ok)"

abbrev pub format_refused : List ℕ
format_refused = bytes "(format (refused #))"

abbrev pub begin_ok : List ℕ
begin_ok = bytes "(begin # ok)"

abbrev pub begin_refused : List ℕ
begin_refused = bytes "(begin # (refused #))"

abbrev pub withdraw_ok : List ℕ
withdraw_ok = bytes "(withdraw # ok)"

abbrev pub withdraw_refused : List ℕ
withdraw_refused = bytes "(withdraw # (refused #))"

abbrev pub take_up_ok : List ℕ
take_up_ok = bytes "(take-up ok)"

abbrev pub take_up_refused : List ℕ
take_up_refused = bytes "(take-up (refused #))"

abbrev pub step_moved : List ℕ
step_moved = bytes "(step # moved)"

abbrev pub step_waiting : List ℕ
step_waiting = bytes "(step # waiting)"

abbrev pub step_refused : List ℕ
step_refused = bytes "(step # (refused #))"

-- "(step q (done A R))": the part before A, the answers and what stands behind them.
abbrev pub step_done : List ℕ
step_done = bytes "(step # (done "

abbrev pub found_answer : List ℕ
found_answer = bytes "(found #) "

abbrev pub answer_pattern : OperationAnswer → List ℕ
answer_pattern (OperationAnswer.Found x) = found_answer
answer_pattern OperationAnswer.Absent = bytes "absent "
answer_pattern OperationAnswer.Inserted = bytes "inserted "
answer_pattern OperationAnswer.Present = bytes "present "
answer_pattern OperationAnswer.Deleted = bytes "deleted "
answer_pattern OperationAnswer.NoPage = bytes "no-page "

abbrev pub restructuring_text : Restructuring → List ℕ
restructuring_text Restructuring.None = bytes "none))"
restructuring_text Restructuring.Split = bytes "split))"
restructuring_text Restructuring.SplitSkipped = bytes "split-skipped))"
restructuring_text Restructuring.Merged = bytes "merged))"
restructuring_text Restructuring.MergeSkipped = bytes "merge-skipped))"

-- ---- The rows

-- Of a call that is answered ok or refused, and of a step; a refusal stands by its number.
abbrev pub Outcome : Type 0
Outcome = Result ⊤ ℕ

abbrev pub StepOutcome : Type 0
StepOutcome = Result StepAnswer ℕ

unfoldable pub format_pattern : Outcome → List ℕ
format_pattern (Ok a) = format_ok
format_pattern (Err n) = format_refused

unfoldable pub begin_pattern : Outcome → List ℕ
begin_pattern (Ok a) = begin_ok
begin_pattern (Err n) = begin_refused

unfoldable pub withdraw_pattern : Outcome → List ℕ
withdraw_pattern (Ok a) = withdraw_ok
withdraw_pattern (Err n) = withdraw_refused

unfoldable pub take_up_pattern : Outcome → List ℕ
take_up_pattern (Ok a) = take_up_ok
take_up_pattern (Err n) = take_up_refused

unfoldable pub step_pattern : StepOutcome → List ℕ
step_pattern (Ok StepAnswer.Waiting) = step_waiting
step_pattern (Ok StepAnswer.Moved) = step_moved
step_pattern (Ok (StepAnswer.Done a r)) = step_done ++ (answer_pattern a ++ restructuring_text r)
step_pattern (Err n) = step_refused

unfoldable pub reply_pattern : Reply → List ℕ
reply_pattern Reply.Unread = unread_reply
reply_pattern (Reply.Format a) = format_pattern a
reply_pattern (Reply.Begin q a) = begin_pattern a
reply_pattern (Reply.Step q a) = step_pattern a
reply_pattern (Reply.Withdraw q a) = withdraw_pattern a
reply_pattern (Reply.TakeUp a) = take_up_pattern a

-- The number of a refusal.
unfoldable pub outcome_numbers : Outcome → List ℕ
outcome_numbers (Ok a) = []
outcome_numbers (Err n) = n ∷ []

-- Found has its setting.
unfoldable pub answer_numbers : OperationAnswer → List ℕ
answer_numbers (OperationAnswer.Found x) = x ∷ []
answer_numbers OperationAnswer.Absent = []
answer_numbers OperationAnswer.Inserted = []
answer_numbers OperationAnswer.Present = []
answer_numbers OperationAnswer.Deleted = []
answer_numbers OperationAnswer.NoPage = []

unfoldable pub step_numbers : StepOutcome → List ℕ
step_numbers (Ok StepAnswer.Waiting) = []
step_numbers (Ok StepAnswer.Moved) = []
step_numbers (Ok (StepAnswer.Done a r)) = answer_numbers a
step_numbers (Err n) = n ∷ []

unfoldable pub reply_numbers : Reply → List ℕ
reply_numbers Reply.Unread = []
reply_numbers (Reply.Format a) = outcome_numbers a
reply_numbers (Reply.Begin q a) = q ∷ outcome_numbers a
reply_numbers (Reply.Step q a) = q ∷ step_numbers a
reply_numbers (Reply.Withdraw q a) = q ∷ outcome_numbers a
reply_numbers (Reply.TakeUp a) = outcome_numbers a

-- What stands behind a call's name and party.
unfoldable pub outcome_text : Outcome → List ℕ
outcome_text (Ok a) = bytes "ok)"
outcome_text (Err n) = filled (bytes "(refused #))") (n ∷ [])

-- An answer as it is printed, with the space behind it.
unfoldable pub answer_text : OperationAnswer → List ℕ
answer_text a = filled (answer_pattern a) (answer_numbers a)

-- The lines that are this reply.
unfoldable pub ReplyLine : Reply → List ℕ → Type 0
ReplyLine r line = Derives (reply_pattern r) (reply_numbers r) line

-- A reply as it is printed, its numbers without leading zeros.
unfoldable pub reply_text : Reply → List ℕ
reply_text r = filled (reply_pattern r) (reply_numbers r)
