-- `chase::step_07` meets its contract: what request_chain ensures.
use Rattle.model.specs.Steps.Chase.{step07}
use Rattle.chase.proofs.step_07.Goals as goal

pub returns : goal.returns
unfolding step07
returns c = c.request_chain.ensures
