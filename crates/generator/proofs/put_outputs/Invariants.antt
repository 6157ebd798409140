-- What the loop of `generator::put_outputs` keeps: the lines that are put, and those that are left.
use Rattle.std.proofs.Common.{◌-◌}
use Rattle.generator.proofs.Lines.{PutLines}
use Rattle.generator.proofs.put_outputs.Given as goal

abbrev pub invariant-loop-line : goal.invariant-loop-line
invariant-loop-line l = PutLines l.count l.x l.initial.out l.out l.word l.at (l.count - l._line)
