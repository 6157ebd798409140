-- `split_locks::step_19` meets its contract: what release ensures of the chain's lock.
use Rattle.model.specs.Steps.SplitLocks.{step19}
use Rattle.split_locks.proofs.step_19.Goals as goal

pub returns : goal.returns
unfolding step19
returns c = λ ps. rw c.chain-lock.ensures at (c.release.ensures ps)
