-- `split_write::step_20` meets its contract: next is written.
use Rattle.model.specs.Steps.SplitWrite.{step20}
use Rattle.split_write.proofs.step_20.Goals as goal

pub returns : goal.returns
unfolding step20
returns c = rw c.split_next-work.ensures
