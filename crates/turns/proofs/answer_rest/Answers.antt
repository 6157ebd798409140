-- `turns::answer_rest`: what `lines::answer_lines` says of the part.
use Rattle.lines.specs.Held.{held_in}
use Rattle.turns.proofs.Turning.{rest_answered}
use Rattle.turns.proofs.answer_rest.Goals as goal

pub returns-clause-answered_to : goal.returns-clause-answered_to
returns-clause-answered_to c =
    let a = c.args in
    let made = c.answer_lines-answered in
    rest_answered a.input.now a.from a.to made.result.from (held_in a.file.now) (held_in made.new.file) _ made.ensures.by_index
