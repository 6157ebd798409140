-- `forms::read_done` meets its contract: the part before the answer, the answer and the restructuring are those of read_done.
use mathlib.Core.Path.{sym, ◌∙◌}
use Prim.Native.Nat.{◌≤◌}
use borrow.Author.Rules.{rules}
use lib.ListN.{length}
use Rattle.std.proofs.lemmas.List.{take_rest}
use Rattle.forms.specs.Reading.{done_as, done_from}
use Rattle.forms.proofs.Rows.{done_taken, done_left, answer_told, no_answer_told}
use Rattle.forms.proofs.read_done.Goals as goal

pub returns-in_err-head : goal.returns-in_err-head
returns-in_err-head c = c.from_residual.ensures ∙ sym (done_left c.args.line.now c.in_err-head.ensures)

pub read_answer-requires : goal.read_answer-requires
read_answer-requires c = (done_taken c.args.line.now c.in_ok-head.ensures).1

pub returns-in_err-answer : goal.returns-in_err-answer
unfolding done_from
returns-in_err-answer c =
    let taken = done_taken c.args.line.now c.in_ok-head.ensures in
    rw (c.from_residual-in_err-answer.ensures, taken.0, no_answer_told _ _ c.in_err-answer.ensures)

pub slice_bounds-read_restructuring-count : goal.slice_bounds-read_restructuring-count
slice_bounds-read_restructuring-count c =
    let line = c.args.line.now in
    (answer_told line _ _ _ (done_taken line c.in_ok-head.ensures).1 c.in_ok-answer.ensures).1

pub returns-in_err-made : goal.returns-in_err-made
unfolding done_from done_as
returns-in_err-made c =
    let line = c.args.line.now in
    let taken = done_taken line c.in_ok-head.ensures in
    let told = answer_told line _ _ _ taken.1 c.in_ok-answer.ensures in
    rw (c.from_residual-in_err-made.ensures, taken.0, told.0, sym (take_rest line c.in_ok-answer.next), sym c.in_err-made.ensures)

pub returns : goal.returns
unfolding done_from done_as
returns c =
    let line = c.args.line.now in
    let taken = done_taken line c.in_ok-head.ensures in
    let told = answer_told line _ _ _ taken.1 c.in_ok-answer.ensures in
    rw (taken.0, told.0, sym (take_rest line c.in_ok-answer.next), sym c.in_ok-made.ensures)

pub slice_bounds-read_restructuring-start : goal.slice_bounds-read_restructuring-start
slice_bounds-read_restructuring-start c =
    let line = c.args.line.now in
    let within : c.in_ok-answer.next ≤ length line = (answer_told line _ _ _ (done_taken line c.in_ok-head.ensures).1 c.in_ok-answer.ensures).1 in
    search rules
