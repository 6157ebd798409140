-- `turns::turn`: with a read, by what is kept and what is read.
use Rattle.std.proofs.Common.{arith}
use Rattle.lines.specs.Held.{held_in}
use Rattle.turns.proofs.Turning.{read_answered}
use Rattle.turns.proofs.turn.Goals as goal

pub returns-clause-answered_to : goal.returns-clause-answered_to
returns-clause-answered_to g c =
    let s = c.args.s in
    let made = c.answer_rest-b in
    let read = c.read_on-i in
    let keep = c.keep-kept in
    let none = c.requires.to_value c.if-s.false in
    read_answered c.args.input.now keep.new.input read.new.input s.from s.to keep.result read.result.end (c.requires.from_le_to.0, c.requires.from_le_to.1) keep.ensures.value.0 keep.ensures.value.1
    keep.ensures.input_after read.ensures.input_unchanged read.ensures.kept_le_end.0 (held_in c.args.file.now) (held_in made.new.file) _ _ (omega (arith, none)) made.ensures.answered_to

pub returns-clause-replies_to : goal.returns-clause-replies_to
returns-clause-replies_to g c = record { before = held_in c.args.file.now; answered = c.answer_rest-b.ensures.answered_to }
