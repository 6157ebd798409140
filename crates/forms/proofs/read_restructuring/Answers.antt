-- `forms::read_restructuring` meets its contract: its rows are those of read_restructuring.
use Rattle.forms.specs.Reading.{read_restructuring, restructuring_in, or_else}
use Rattle.forms.proofs.Rows.{no_row, row_taken}
use Rattle.forms.proofs.read_restructuring.Goals as goal

pub returns-then-is_some : goal.returns-then-is_some
unfolding read_restructuring restructuring_in
returns-then-is_some c = row_taken _ _ c.numbers.ensures c.if-is_some.ensures

pub returns-then-is_some-2 : goal.returns-then-is_some-2
unfolding read_restructuring restructuring_in or_else
returns-then-is_some-2 c = rw (no_row c.numbers.ensures c.if-is_some.ensures) (row_taken _ _ c.numbers-2.ensures c.if-is_some-2.ensures)

pub returns-then-is_some-3 : goal.returns-then-is_some-3
unfolding read_restructuring restructuring_in or_else
returns-then-is_some-3 c = rw (no_row c.numbers.ensures c.if-is_some.ensures, no_row c.numbers-2.ensures c.if-is_some-2.ensures) (row_taken _ _ c.numbers-3.ensures c.if-is_some-3.ensures)

pub returns-then-is_some-4 : goal.returns-then-is_some-4
unfolding read_restructuring restructuring_in or_else
returns-then-is_some-4 c = rw (no_row c.numbers.ensures c.if-is_some.ensures, no_row c.numbers-2.ensures c.if-is_some-2.ensures, no_row c.numbers-3.ensures c.if-is_some-3.ensures) (row_taken _ _ c.numbers-4.ensures c.if-is_some-4.ensures)

pub returns-then-is_some-5 : goal.returns-then-is_some-5
unfolding read_restructuring restructuring_in or_else
returns-then-is_some-5 c = rw (no_row c.numbers.ensures c.if-is_some.ensures, no_row c.numbers-2.ensures c.if-is_some-2.ensures, no_row c.numbers-3.ensures c.if-is_some-3.ensures, no_row c.numbers-4.ensures c.if-is_some-4.ensures) (row_taken _ _ c.numbers-5.ensures c.if-is_some-5.ensures)

pub returns : goal.returns
unfolding read_restructuring restructuring_in or_else
returns c = rw (no_row c.numbers.ensures c.if-is_some.ensures, no_row c.numbers-2.ensures c.if-is_some-2.ensures, no_row c.numbers-3.ensures c.if-is_some-3.ensures, no_row c.numbers-4.ensures c.if-is_some-4.ensures, no_row c.numbers-5.ensures c.if-is_some-5.ensures)
