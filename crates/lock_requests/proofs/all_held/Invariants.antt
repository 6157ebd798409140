-- What the loop of `lock_requests::all_held` keeps: the locks that are left decide, and their words are there.
use Rattle.std.proofs.Common.{◌≡◌, List, ℕ, length, drop}
use Rattle.model.specs.LockRequests.{held_all}
use Rattle.records.specs.Work.{seen}
use Rattle.lock_requests.specs.Locks.{claims_of, AllThere}
use Rattle.lock_requests.proofs.all_held.Given as goal

abbrev pub invariant-loop-lock : goal.invariant-loop-lock
invariant-loop-lock l = record {
  there : AllThere (drop l.lock-index l.claimed) (length l.locks);
  left : (ps : List ℕ) → held_all (seen l.work l.locks ps) (claims_of l.claimed) ≡ held_all (seen l.work l.locks ps) (claims_of (drop l.lock-index l.claimed));
}
