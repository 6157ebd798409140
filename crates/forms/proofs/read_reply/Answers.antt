-- `forms::read_reply` meets its contract: its rows are those of read_reply.
use mathlib.Core.Path.{sym}
use Rattle.forms.specs.Reading.{read_reply, read_begin_reply, read_withdraw_reply, read_take_up_reply, or_else}
use Rattle.forms.proofs.Rows.{no_row, row_taken}
use Rattle.forms.proofs.read_reply.Goals as goal

pub returns-then-is_some : goal.returns-then-is_some
unfolding read_reply read_begin_reply read_withdraw_reply read_take_up_reply
returns-then-is_some c = row_taken _ _ c.numbers.ensures c.if-is_some.ensures

pub returns-then-is_some-2 : goal.returns-then-is_some-2
unfolding read_reply read_begin_reply read_withdraw_reply read_take_up_reply or_else
returns-then-is_some-2 c = rw (no_row c.numbers.ensures c.if-is_some.ensures) (row_taken _ _ c.numbers-2.ensures c.if-is_some-2.ensures)

pub returns-in-Some : goal.returns-in-Some
unfolding read_reply read_begin_reply read_withdraw_reply read_take_up_reply or_else
returns-in-Some c = rw (no_row c.numbers.ensures c.if-is_some.ensures, no_row c.numbers-2.ensures c.if-is_some-2.ensures, sym c.in-Some.ensures)

pub returns-in-Some-numbers : goal.returns-in-Some-numbers
unfolding read_reply read_begin_reply read_withdraw_reply read_take_up_reply or_else
returns-in-Some-numbers c = rw (no_row c.numbers.ensures c.if-is_some.ensures, no_row c.numbers-2.ensures c.if-is_some-2.ensures, sym c.in_default.ensures, sym c.in-Some-numbers.ensures)

pub returns-in-Some-numbers-2 : goal.returns-in-Some-numbers-2
unfolding read_reply read_begin_reply read_withdraw_reply read_take_up_reply or_else
returns-in-Some-numbers-2 c = rw (no_row c.numbers.ensures c.if-is_some.ensures, no_row c.numbers-2.ensures c.if-is_some-2.ensures, sym c.in_default.ensures, sym c.in_default-numbers.ensures, sym c.in-Some-numbers-2.ensures)

pub returns-in-Some-numbers-3 : goal.returns-in-Some-numbers-3
unfolding read_reply read_begin_reply read_withdraw_reply read_take_up_reply or_else
returns-in-Some-numbers-3 c = rw (no_row c.numbers.ensures c.if-is_some.ensures, no_row c.numbers-2.ensures c.if-is_some-2.ensures, sym c.in_default.ensures, sym c.in_default-numbers.ensures, sym c.in_default-numbers-2.ensures, sym c.in-Some-numbers-3.ensures)

pub returns-in-Some-numbers-4 : goal.returns-in-Some-numbers-4
unfolding read_reply read_begin_reply read_withdraw_reply read_take_up_reply or_else
returns-in-Some-numbers-4 c = rw (no_row c.numbers.ensures c.if-is_some.ensures, no_row c.numbers-2.ensures c.if-is_some-2.ensures, sym c.in_default.ensures, sym c.in_default-numbers.ensures, sym c.in_default-numbers-2.ensures, sym c.in_default-numbers-3.ensures, sym c.in-Some-numbers-4.ensures)

pub returns-then-is_some-3 : goal.returns-then-is_some-3
unfolding read_reply read_begin_reply read_withdraw_reply read_take_up_reply or_else
returns-then-is_some-3 c = rw (no_row c.numbers.ensures c.if-is_some.ensures, no_row c.numbers-2.ensures c.if-is_some-2.ensures, sym c.in_default.ensures, sym c.in_default-numbers.ensures, sym c.in_default-numbers-2.ensures, sym c.in_default-numbers-3.ensures, sym c.in_default-numbers-4.ensures) (row_taken _ _ c.numbers-8.ensures c.if-is_some-3.ensures)

pub returns-in-Some-numbers-5 : goal.returns-in-Some-numbers-5
unfolding read_reply read_begin_reply read_withdraw_reply read_take_up_reply or_else
returns-in-Some-numbers-5 c = rw (no_row c.numbers.ensures c.if-is_some.ensures, no_row c.numbers-2.ensures c.if-is_some-2.ensures, sym c.in_default.ensures, sym c.in_default-numbers.ensures, sym c.in_default-numbers-2.ensures, sym c.in_default-numbers-3.ensures, sym c.in_default-numbers-4.ensures, no_row c.numbers-8.ensures c.if-is_some-3.ensures, sym c.in-Some-numbers-5.ensures)

pub returns : goal.returns
unfolding read_reply read_begin_reply read_withdraw_reply read_take_up_reply or_else
returns c = rw (no_row c.numbers.ensures c.if-is_some.ensures, no_row c.numbers-2.ensures c.if-is_some-2.ensures, sym c.in_default.ensures, sym c.in_default-numbers.ensures, sym c.in_default-numbers-2.ensures, sym c.in_default-numbers-3.ensures, sym c.in_default-numbers-4.ensures, no_row c.numbers-8.ensures c.if-is_some-3.ensures, sym c.in_default-numbers-5.ensures) c.read_step_reply.ensures
