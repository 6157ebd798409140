-- `locate::step_01` meets its contract: what request ensures of the root's lock.
use Rattle.model.specs.Steps.Locate.{step01}
use Rattle.locate.proofs.step_01.Goals as goal

pub returns : goal.returns
unfolding step01
returns c = λ ps. rw c.root.ensures at (c.request.ensures ps)
