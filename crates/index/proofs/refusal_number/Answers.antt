-- `index::refusal_number` meets its contract: 0 where nothing is refused.
use Rattle.model.specs.Answers.{refusal_number}
use Rattle.index.proofs.refusal_number.Goals as goal

pub returns-in-Ok : goal.returns-in-Ok
unfolding refusal_number
returns-in-Ok c = rw c.in-Ok.is
