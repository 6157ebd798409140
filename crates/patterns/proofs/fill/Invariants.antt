-- What the loop of `patterns::fill` keeps: the text still to be put, put into the bytes as they are, gives what is promised.
use Rattle.std.specs.Slice.Iter.{iter_rest}
use Rattle.patterns.proofs.Filling.{Put}
use Rattle.patterns.proofs.fill.Given as goal

abbrev pub invariant-loop-b : goal.invariant-loop-b
invariant-loop-b l = Put l.pattern l.numbers l.initial.out l.at l.out (iter_rest l.left) l.next l.b-index
