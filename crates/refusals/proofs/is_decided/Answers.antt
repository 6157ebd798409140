-- `refusals::is_decided` meets its contract.
use mathlib.Core.Path.{refl}
use Rattle.model.specs.Withdraw.{is_decided}
use Rattle.refusals.proofs.is_decided.Goals as goal

pub returns : goal.returns
unfolding is_decided
returns c = refl
