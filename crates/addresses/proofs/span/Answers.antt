-- `addresses::span` meets its contract: the shift loses no bit.
use native.Mathlib.Omega.{arith}
use lib.Pow.{shl_exact}
use Rattle.model.specs.Addresses.{span}
use Rattle.addresses.proofs.span.Goals as goal

pub returns : goal.returns
unfolding span
returns c = shl_exact 9 c.args.i 32 (omega arith) (omega arith)
