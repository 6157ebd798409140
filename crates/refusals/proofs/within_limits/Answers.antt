-- `refusals::within_limits` meets its contract.
use mathlib.Core.Path.{refl}
use Rattle.model.specs.Sizes.{within_limits}
use Rattle.refusals.proofs.within_limits.Goals as goal

pub returns : goal.returns
unfolding within_limits
returns c = rw (c.within.ensures, c.within-2.ensures, c.within-3.ensures, c.within-4.ensures) refl
