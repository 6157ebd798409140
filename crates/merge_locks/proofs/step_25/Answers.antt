-- `merge_locks::step_25` meets its contract: what request ensures of the partner's lock.
use Rattle.model.specs.Steps.MergeLocks.{step25}
use Rattle.merge_locks.proofs.step_25.Goals as goal

pub returns : goal.returns
unfolding step25
returns c = λ ps. rw c.chain-lock.ensures at (c.request.ensures ps)
