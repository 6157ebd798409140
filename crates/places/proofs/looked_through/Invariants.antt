-- What the loop of `places::looked_through` keeps: so many entries of the row have been looked at.
use Rattle.std.proofs.Common.{◌≡◌}
use Rattle.model.specs.WaitingRow.{all_zero}
use Rattle.std.specs.Prelude.{drop}
use Rattle.waiting_row.specs.Entry.{seen_at}
use Rattle.places.proofs.looked_through.Given as goal

abbrev pub invariant-loop-word : goal.invariant-loop-word
invariant-loop-word l = l.seen ≡ seen_at l.former l.parties l.q (all_zero (drop l.n l.row)) l.row l.word-index
