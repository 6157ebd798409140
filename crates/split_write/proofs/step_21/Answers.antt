-- `split_write::step_21` meets its contract: level is written.
use Rattle.model.specs.Steps.SplitWrite.{step21}
use Rattle.split_write.proofs.step_21.Goals as goal

pub returns : goal.returns
unfolding step21
returns c = rw c.split_level-work.ensures
