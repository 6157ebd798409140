-- `merge_locks::step_23` meets its contract: what request ensures of the root's lock.
use Rattle.model.specs.Steps.MergeLocks.{step23}
use Rattle.merge_locks.proofs.step_23.Goals as goal

pub returns : goal.returns
unfolding step23
returns c = λ ps. rw c.root.ensures at (c.request.ensures ps)
