-- `refusals::span` meets its contract: a 32-bit word shifted by at most 8 loses no bit.
use Prim.Native.Nat.{◌+◌}
use native.Mathlib.Omega.{arith}
use native.Mathlib.Nat.{lt_of_lt_of_le}
use lib.Pow.{shl_exact, shl_lt, pow_mono}
use Rattle.model.specs.Addresses.{span}
use borrow.Author.Rules.{rules}
use Rattle.refusals.proofs.span.Goals as goal

pub returns : goal.returns
unfolding span
returns c =
    let level = c.args.level in
    let exact = shl_exact {a = c.args.n} 32 level 64 (search rules) (omega arith) in
    rw c.from.ensures (exact, rw exact (lt_of_lt_of_le (shl_lt 32 level (search rules)) (pow_mono {i = 32 + level} {j = 40} (omega arith))))
