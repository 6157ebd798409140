-- What the loop of `lines::answer_lines` keeps, and why it ends.
use Rattle.std.proofs.Common.{◌≡◌, ◌-◌, length}
use Rattle.lines.specs.Held.{held_in, SameParts}
use Rattle.lines.proofs.Going.{Going}
use Rattle.lines.proofs.answer_lines.Given as goal

abbrev pub invariant-loop-length : goal.invariant-loop-length
invariant-loop-length l = record {
  parts : SameParts l.initial.file l.file;
  long : length l.out ≡ length l.initial.out;
  going : Going l.text (held_in l.initial.file) (length l.initial.out) (held_in l.file) l.out l.from l.end;
}

abbrev pub decreases-loop-length : goal.decreases-loop-length
decreases-loop-length l = length l.text - l.from
