-- `split_locks::step_15` meets its contract: what request ensures of the root's lock.
use Rattle.model.specs.Steps.SplitLocks.{step15}
use Rattle.split_locks.proofs.step_15.Goals as goal

pub returns : goal.returns
unfolding step15
returns c = λ ps. rw c.root.ensures at (c.request.ensures ps)
