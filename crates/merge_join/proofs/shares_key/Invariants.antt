-- What the loop of `merge_join::shares_key` keeps, and why it ends.
use Prim.Native.Nat.{◌+◌}
use lib.ListN.{length}
use Rattle.key_source.specs.Sources.{records_at}
use Rattle.merge_join.proofs.Seeking.{Seeking}
use Rattle.merge_join.proofs.shares_key.Given as goal

abbrev pub invariant-loop-p : goal.invariant-loop-p
invariant-loop-p l = Seeking l.pages (records_at l.pages l.initial.p) (records_at l.pages l.initial.q) l.p l.q

abbrev pub decreases-loop-p : goal.decreases-loop-p
decreases-loop-p l = length (records_at l.pages l.p) + length (records_at l.pages l.q)
