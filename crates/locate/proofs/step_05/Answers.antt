-- `locate::step_05` meets its contract: what release ensures of the root's lock.
use Rattle.model.specs.Steps.Locate.{step05}
use Rattle.locate.proofs.step_05.Goals as goal

pub returns : goal.returns
unfolding step05
returns c = λ ps. rw c.root.ensures at (c.release.ensures ps)
