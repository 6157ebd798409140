-- What the loop of `turns::run` keeps: what `turn` requires.
use Rattle.std.proofs.Common.{◌≡◌, false, ◌≤◌, length}
use Rattle.lines.specs.Texts.{line_length}
use Rattle.turns.specs.Turned.{part}
use Rattle.turns.proofs.run.Given as goal

abbrev pub invariant-loop : goal.invariant-loop
invariant-loop g l = record {
  from_le_to : l.s.from ≤ l.s.to;
  to_in_bounds : l.s.to ≤ length l.input;
  to_value : l.s.whole ≡ false → line_length (part l.input l.s.from l.s.to) ≡ length (part l.input l.s.from l.s.to);
}
