-- What the loop of `patterns::match_at` keeps: the whole match is that of the rest of the pattern with the rest of the line.
use Rattle.patterns.proofs.Matching.{Run}
use Rattle.patterns.proofs.match_at.Given as goal

abbrev pub invariant-loop-b : goal.invariant-loop-b
invariant-loop-b l = Run l.pattern l.line l.at l.numbers l.found l.next l.b-index
