-- The measure of `chain_writer::write_chain`: the records still to be written, and one for the rest.
use Prim.Native.Nat.{ℕ, suc, ◌+◌}
use Rattle.std.specs.Prelude.{Option, None, Some}
use Rattle.chain_writer.specs.declared.Planned.{Planned}
use Rattle.chain_writer.proofs.+write_chain.Given as goal

-- The records of the rest, and one.
abbrev pub rest_size : Option Planned → ℕ
rest_size None = 0
rest_size (Some d) = suc d.left

abbrev pub decreases-write_chain : goal.decreases-write_chain
decreases-write_chain l = l.c.now.left + rest_size l.rest.now
