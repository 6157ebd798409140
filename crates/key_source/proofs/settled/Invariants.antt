-- What the loop of `key_source::settled` keeps, and why it ends.
use Rattle.std.proofs.Common.{◌≡◌}
use Rattle.key_source.specs.Sources.{records_at, Sits}
use Rattle.key_source.proofs.settled.Given as goal

abbrev pub invariant-loop-q : goal.invariant-loop-q
invariant-loop-q l = record {
  sits : Sits l.pages l.q;
  same : records_at l.pages l.q ≡ records_at l.pages l.initial.q;
}

abbrev pub decreases-loop-q : goal.decreases-loop-q
decreases-loop-q l = l.q.pages
