-- `mixing::table` meets its contract: the constant of the code is the list of the contract, word for word.
use mathlib.Core.Path.{refl}
use Rattle.mixing.specs.Constant.{constant}
use Rattle.mixing.proofs.table.Goals as goal

pub returns : goal.returns
unfolding constant
returns c = refl
