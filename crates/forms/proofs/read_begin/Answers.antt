-- `forms::read_begin` meets its contract: its rows are those of read_begin.
use mathlib.Core.Path.{sym}
use Rattle.forms.specs.Reading.{read_begin, read_withdraw, read_format, read_take_up, or_else}
use Rattle.forms.proofs.read_begin.Goals as goal

pub returns-in-Some : goal.returns-in-Some
unfolding read_begin read_withdraw read_format read_take_up or_else
returns-in-Some c = rw (sym c.in-Some.ensures)

pub returns-in-Some-numbers : goal.returns-in-Some-numbers
unfolding read_begin read_withdraw read_format read_take_up or_else
returns-in-Some-numbers c = rw (sym c.in_default.ensures, sym c.in-Some-numbers.ensures)

pub returns-in-Some-numbers-2 : goal.returns-in-Some-numbers-2
unfolding read_begin read_withdraw read_format read_take_up or_else
returns-in-Some-numbers-2 c = rw (sym c.in_default.ensures, sym c.in_default-numbers.ensures, sym c.in-Some-numbers-2.ensures)

pub returns-in-Some-numbers-3 : goal.returns-in-Some-numbers-3
unfolding read_begin read_withdraw read_format read_take_up or_else
returns-in-Some-numbers-3 c = rw (sym c.in_default.ensures, sym c.in_default-numbers.ensures, sym c.in_default-numbers-2.ensures, sym c.in-Some-numbers-3.ensures)

pub returns-in-Some-numbers-4 : goal.returns-in-Some-numbers-4
unfolding read_begin read_withdraw read_format read_take_up or_else
returns-in-Some-numbers-4 c = rw (sym c.in_default.ensures, sym c.in_default-numbers.ensures, sym c.in_default-numbers-2.ensures, sym c.in_default-numbers-3.ensures, sym c.in-Some-numbers-4.ensures)

pub returns-in_err-numbers : goal.returns-in_err-numbers
unfolding read_begin read_withdraw read_format read_take_up or_else
returns-in_err-numbers c = rw (c.from_residual.ensures, sym c.in_default.ensures, sym c.in_default-numbers.ensures, sym c.in_default-numbers-2.ensures, sym c.in_default-numbers-3.ensures, sym c.in_default-numbers-4.ensures, sym c.in_err-numbers.ensures)

pub returns : goal.returns
unfolding read_begin read_withdraw read_format read_take_up or_else
returns c = rw (sym c.in_default.ensures, sym c.in_default-numbers.ensures, sym c.in_default-numbers-2.ensures, sym c.in_default-numbers-3.ensures, sym c.in_default-numbers-4.ensures, sym c.in_ok-numbers.ensures)
