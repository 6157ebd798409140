-- `locate::step_02` meets its contract: two words of the record are written.
use mathlib.Core.Path.{refl}
use Rattle.model.specs.Steps.Locate.{step02}
use Rattle.locate.proofs.step_02.Goals as goal

pub returns : goal.returns
unfolding step02
returns c = refl
