-- What the loop of `key_source::count` keeps, and why it ends.
use Rattle.std.proofs.Common.{◌≡◌, ◌+◌, length, []}
use Rattle.key_source.specs.Sources.{records_at, Sits, chosen}
use Rattle.key_source.proofs.count.Given as goal

abbrev pub invariant-loop-p : goal.invariant-loop-p
invariant-loop-p l = record {
  sits : Sits l.pages l.p;
  settled : l.p.left ≡ 0 → records_at l.pages l.p ≡ [];
  counted : l.sum + length (chosen l.s.choice (records_at l.pages l.p)) ≡ l.initial.sum + length (chosen l.s.choice (records_at l.pages l.initial.p));
}

abbrev pub decreases-loop-p : goal.decreases-loop-p
decreases-loop-p l = length (records_at l.pages l.p)
