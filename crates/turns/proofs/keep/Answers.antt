-- `turns::keep`: as many bytes are kept as the definition says.
use Rattle.std.proofs.Common.{arith}
use Rattle.turns.proofs.keep.Goals as goal

pub returns-clause-value : goal.returns-clause-value
returns-clause-value c = let kept = c.min-kept.ensures in (kept, omega (arith, kept), omega (arith, kept))
