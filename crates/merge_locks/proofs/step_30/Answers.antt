-- `merge_locks::step_30` meets its contract: what ended_with ensures of the locks of a merge.
use Rattle.model.specs.Steps.MergeLocks.{step30}
use Rattle.merge_locks.proofs.step_30.Goals as goal

pub returns : goal.returns
unfolding step30
returns c = rw c.merge_locks-claimed.ensures.claims at c.ended_with.ensures
