-- `chase::step_08` meets its contract: what release ensures of the other chain's lock.
use Rattle.model.specs.Steps.Chase.{step08}
use Rattle.chase.proofs.step_08.Goals as goal

pub returns : goal.returns
unfolding step08
returns c = λ ps. simp (c.chain-lock.ensures, c.mode_of-mode.ensures) at (c.release.ensures ps)
