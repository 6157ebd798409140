-- `forms::read_step_reply` meets its contract: its rows are those of read_step_reply.
use mathlib.Core.Path.{sym}
use Rattle.forms.specs.Reading.{read_step_reply, or_else}
use Rattle.forms.proofs.read_step_reply.Goals as goal

pub returns-in-Some : goal.returns-in-Some
unfolding read_step_reply or_else
returns-in-Some c = rw (sym c.in-Some.ensures)

pub returns-in-Some-numbers : goal.returns-in-Some-numbers
unfolding read_step_reply or_else
returns-in-Some-numbers c = rw (sym c.in_default.ensures, sym c.in-Some-numbers.ensures)

pub returns-in-Some-numbers-2 : goal.returns-in-Some-numbers-2
unfolding read_step_reply or_else
returns-in-Some-numbers-2 c = rw (sym c.in_default.ensures, sym c.in_default-numbers.ensures, sym c.in-Some-numbers-2.ensures)

pub returns : goal.returns
unfolding read_step_reply or_else
returns c = rw (sym c.in_default.ensures, sym c.in_default-numbers.ensures, sym c.in_default-numbers-2.ensures) c.read_done.ensures
