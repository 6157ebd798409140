-- How a line is read: the patterns are tried one after the other.
-- Main definitions: read_form, read_reply.
use Rattle.std.specs.Prelude.{Option, None, Some, Ok, Err, List, [], ℕ, ◌-◌, length, get_or}
use Rattle.model.specs.declared.Operation.{Operation}
use Rattle.model.specs.declared.OperationAnswer.{OperationAnswer}
use Rattle.model.specs.declared.Restructuring.{Restructuring}
use Rattle.model.specs.declared.StepAnswer.TheVariants as StepAnswer
use Rattle.patterns.specs.Patterns.{Matching, no, yes, match_from, to_end, padded}
use Rattle.forms.specs.declared.Form.{Form}
use Rattle.forms.specs.declared.Reply.{Reply}
use Rattle.forms.specs.Forms.{step_form, withdraw_form, take_up_form, format_form, find_form, insert_form, delete_form}
use Rattle.forms.specs.Replies.{unread_reply, format_ok, format_refused, begin_ok, begin_refused, withdraw_ok, withdraw_refused, take_up_ok, take_up_refused, step_moved, step_waiting, step_refused, step_done, found_answer, answer_pattern, restructuring_text}

-- A pattern as the whole line.
unfoldable pub wholly : List ℕ → List ℕ → Matching
wholly p line = to_end (match_from p [] line)

-- The numbers of a match, as the code holds them.
unfoldable pub numbers_of : Matching → Option (List ℕ)
numbers_of no = None
numbers_of (yes ns rest) = Some (padded ns)

abbrev pub numbers_in : List ℕ → List ℕ → Option (List ℕ)
numbers_in p line = numbers_of (wholly p line)

-- What the numbers make, where there are some, or else another thing.
unfoldable pub or_else : {A : Type 0} → Option (List ℕ) → (List ℕ → A) → A → A
or_else None f other = other
or_else (Some ns) f other = f ns

-- ---- Forms

abbrev pub as_step : List ℕ → Option Form
as_step ns = Some (Form.Step (get_or ns 0 0))

abbrev pub as_begin : Operation → List ℕ → Option Form
as_begin o ns = Some (Form.Begin (get_or ns 0 0) o (get_or ns 1 0))

abbrev pub as_insert : List ℕ → Option Form
as_insert ns = Some (Form.Begin (get_or ns 0 0) (Operation.Insert (get_or ns 2 0)) (get_or ns 1 0))

abbrev pub as_withdraw : List ℕ → Option Form
as_withdraw ns = Some (Form.Withdraw (get_or ns 0 0))

abbrev pub as_format : List ℕ → Option Form
as_format ns =
    Some (Form.Format (record {
      originals = get_or ns 0 0;
      capacity = get_or ns 1 0;
      primaries = get_or ns 2 0;
      overflow = get_or ns 3 0;
      parties = get_or ns 4 0;
    }))

abbrev pub as_take_up : List ℕ → Option Form
as_take_up ns = Some Form.TakeUp

unfoldable pub read_take_up : List ℕ → Option Form
read_take_up line = or_else (numbers_in take_up_form line) as_take_up None

unfoldable pub read_format : List ℕ → Option Form
read_format line = or_else (numbers_in format_form line) as_format (read_take_up line)

unfoldable pub read_withdraw : List ℕ → Option Form
read_withdraw line = or_else (numbers_in withdraw_form line) as_withdraw (read_format line)

unfoldable pub read_begin : List ℕ → Option Form
read_begin line =
    or_else (numbers_in find_form line) (as_begin Operation.Find)
    (or_else (numbers_in insert_form line) as_insert
    (or_else (numbers_in delete_form line) (as_begin Operation.Delete) (read_withdraw line)))

unfoldable pub read_form : List ℕ → Option Form
read_form line = or_else (numbers_in step_form line) as_step (read_begin line)

-- ---- Replies

-- An answer and the rest of the line.
pub data AnswerAt : Type 0 where
  none : AnswerAt
  at : OperationAnswer → List ℕ → AnswerAt

unfoldable pub or_next : Matching → (List ℕ → OperationAnswer) → AnswerAt → AnswerAt
or_next no f other = other
or_next (yes ns rest) f other = at (f (padded ns)) rest

-- An answer without a number.
unfoldable pub answer_in : OperationAnswer → List ℕ → AnswerAt → AnswerAt
answer_in a line other = or_next (match_from (answer_pattern a) [] line) (λ ns. a) other

unfoldable pub found_in : List ℕ → AnswerAt → AnswerAt
found_in line other = or_next (match_from found_answer [] line) (λ ns. OperationAnswer.Found (get_or ns 0 0)) other

unfoldable pub read_answer : List ℕ → AnswerAt
read_answer line =
    found_in line
    (answer_in OperationAnswer.Absent line
    (answer_in OperationAnswer.Inserted line
    (answer_in OperationAnswer.Present line
    (answer_in OperationAnswer.Deleted line
    (answer_in OperationAnswer.NoPage line none)))))

-- As the code answers, in a line of n bytes.
unfoldable pub answer_read : ℕ → AnswerAt → Option (OperationAnswer × ℕ)
answer_read n none = None
answer_read n (at a rest) = Some (a, n - length rest)

unfoldable pub restructuring_in : Restructuring → List ℕ → Option Restructuring → Option Restructuring
restructuring_in r line other = or_else (numbers_in (restructuring_text r) line) (λ ns. Some r) other

unfoldable pub read_restructuring : List ℕ → Option Restructuring
read_restructuring line =
    restructuring_in Restructuring.None line
    (restructuring_in Restructuring.Split line
    (restructuring_in Restructuring.SplitSkipped line
    (restructuring_in Restructuring.Merged line
    (restructuring_in Restructuring.MergeSkipped line None))))

unfoldable pub done_as : ℕ → OperationAnswer → Option Restructuring → Option Reply
done_as q a None = None
done_as q a (Some r) = Some (Reply.Step q (Ok (StepAnswer.Done a r)))

unfoldable pub done_from : ℕ → AnswerAt → Option Reply
done_from q none = None
done_from q (at a rest) = done_as q a (read_restructuring rest)

unfoldable pub done_after : Matching → Option Reply
done_after no = None
done_after (yes ns rest) = done_from (get_or (padded ns) 0 0) (read_answer rest)

unfoldable pub read_done : List ℕ → Option Reply
read_done line = done_after (match_from step_done [] line)

unfoldable pub read_step_reply : List ℕ → Option Reply
read_step_reply line =
    or_else (numbers_in step_moved line) (λ ns. Some (Reply.Step (get_or ns 0 0) (Ok StepAnswer.Moved)))
    (or_else (numbers_in step_waiting line) (λ ns. Some (Reply.Step (get_or ns 0 0) (Ok StepAnswer.Waiting)))
    (or_else (numbers_in step_refused line) (λ ns. Some (Reply.Step (get_or ns 0 0) (Err (get_or ns 1 0)))) (read_done line)))

unfoldable pub read_take_up_reply : List ℕ → Option Reply
read_take_up_reply line =
    or_else (numbers_in take_up_ok line) (λ ns. Some (Reply.TakeUp (Ok tt)))
    (or_else (numbers_in take_up_refused line) (λ ns. Some (Reply.TakeUp (Err (get_or ns 0 0)))) (read_step_reply line))

unfoldable pub read_withdraw_reply : List ℕ → Option Reply
read_withdraw_reply line =
    or_else (numbers_in withdraw_ok line) (λ ns. Some (Reply.Withdraw (get_or ns 0 0) (Ok tt)))
    (or_else (numbers_in withdraw_refused line) (λ ns. Some (Reply.Withdraw (get_or ns 0 0) (Err (get_or ns 1 0)))) (read_take_up_reply line))

unfoldable pub read_begin_reply : List ℕ → Option Reply
read_begin_reply line =
    or_else (numbers_in begin_ok line) (λ ns. Some (Reply.Begin (get_or ns 0 0) (Ok tt)))
    (or_else (numbers_in begin_refused line) (λ ns. Some (Reply.Begin (get_or ns 0 0) (Err (get_or ns 1 0)))) (read_withdraw_reply line))

unfoldable pub read_reply : List ℕ → Option Reply
read_reply line =
    or_else (numbers_in unread_reply line) (λ ns. Some Reply.Unread)
    (or_else (numbers_in format_ok line) (λ ns. Some (Reply.Format (Ok tt)))
    (or_else (numbers_in format_refused line) (λ ns. Some (Reply.Format (Err (get_or ns 0 0)))) (read_begin_reply line)))
