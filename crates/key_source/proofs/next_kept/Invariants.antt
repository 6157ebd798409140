-- What the loop of `key_source::next_kept` keeps, and why it ends.
use Rattle.std.proofs.Common.{◌≡◌, length}
use Rattle.key_source.specs.Sources.{records_at, Sits, chosen}
use Rattle.key_source.proofs.next_kept.Given as goal

abbrev pub invariant-loop-c : goal.invariant-loop-c
invariant-loop-c l = record {
  sits : Sits l.pages l.q;
  same : chosen l.c (records_at l.pages l.initial.q) ≡ chosen l.c (records_at l.pages l.q);
}

abbrev pub decreases-loop-c : goal.decreases-loop-c
decreases-loop-c l = length (records_at l.pages l.q)
