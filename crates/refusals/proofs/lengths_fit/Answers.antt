-- `refusals::lengths_fit` meets its contract: three words fit 64 bits with room for their sum times sixteen.
use mathlib.Core.Path.{refl}
use Rattle.refusals.specs.Causes.{lengths_are}
use Rattle.refusals.proofs.lengths_fit.Goals as goal

pub returns : goal.returns
unfolding lengths_are
returns c = refl
