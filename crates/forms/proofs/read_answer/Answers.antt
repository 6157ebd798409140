-- `forms::read_answer` meets its contract: its rows are those of read_answer.
use Rattle.forms.specs.Reading.{read_answer, found_in, answer_in, or_next, answer_read}
use Rattle.forms.proofs.Rows.{no_match, answer_taken}
use Rattle.forms.proofs.read_answer.Goals as goal

pub returns-in-Some : goal.returns-in-Some
unfolding read_answer found_in answer_in
returns-in-Some c = answer_taken _ _ _ _ c.in-Some.ensures

pub returns-in-Some-match_at : goal.returns-in-Some-match_at
unfolding read_answer found_in answer_in or_next
returns-in-Some-match_at c = rw (no_match _ _ c.in_default.ensures) (answer_taken _ _ _ _ c.in-Some-match_at.ensures)

pub returns-in-Some-match_at-2 : goal.returns-in-Some-match_at-2
unfolding read_answer found_in answer_in or_next
returns-in-Some-match_at-2 c = rw (no_match _ _ c.in_default.ensures, no_match _ _ c.in_default-match_at.ensures) (answer_taken _ _ _ _ c.in-Some-match_at-2.ensures)

pub returns-in-Some-match_at-3 : goal.returns-in-Some-match_at-3
unfolding read_answer found_in answer_in or_next
returns-in-Some-match_at-3 c = rw (no_match _ _ c.in_default.ensures, no_match _ _ c.in_default-match_at.ensures, no_match _ _ c.in_default-match_at-2.ensures) (answer_taken _ _ _ _ c.in-Some-match_at-3.ensures)

pub returns-in-Some-match_at-4 : goal.returns-in-Some-match_at-4
unfolding read_answer found_in answer_in or_next
returns-in-Some-match_at-4 c = rw (no_match _ _ c.in_default.ensures, no_match _ _ c.in_default-match_at.ensures, no_match _ _ c.in_default-match_at-2.ensures, no_match _ _ c.in_default-match_at-3.ensures) (answer_taken _ _ _ _ c.in-Some-match_at-4.ensures)

pub returns-in-Some-match_at-5 : goal.returns-in-Some-match_at-5
unfolding read_answer found_in answer_in or_next
returns-in-Some-match_at-5 c = rw (no_match _ _ c.in_default.ensures, no_match _ _ c.in_default-match_at.ensures, no_match _ _ c.in_default-match_at-2.ensures, no_match _ _ c.in_default-match_at-3.ensures, no_match _ _ c.in_default-match_at-4.ensures) (answer_taken _ _ _ _ c.in-Some-match_at-5.ensures)

pub returns : goal.returns
unfolding read_answer found_in answer_in or_next answer_read
returns c = rw (no_match _ _ c.in_default.ensures, no_match _ _ c.in_default-match_at.ensures, no_match _ _ c.in_default-match_at-2.ensures, no_match _ _ c.in_default-match_at-3.ensures, no_match _ _ c.in_default-match_at-4.ensures, no_match _ _ c.in_default-match_at-5.ensures)
