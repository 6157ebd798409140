-- What the loop of `lock_requests::give_up` keeps: the locks that are left are still to be given up, and their words are there.
use Rattle.std.proofs.Common.{◌≡◌, List, ℕ, length, drop}
use Rattle.model.specs.LockRequests.{given_up}
use Rattle.records.specs.Work.{seen}
use Rattle.lock_requests.specs.Locks.{claims_of, AllThere}
use Rattle.lock_requests.proofs.give_up.Given as goal

abbrev pub invariant-loop-lock : goal.invariant-loop-lock
invariant-loop-lock l = record {
  there : AllThere (drop l.lock-index l.claimed) (length l.locks);
  left : (ps : List ℕ) → given_up (claims_of l.claimed) (seen l.work l.initial.locks ps) ≡ given_up (claims_of (drop l.lock-index l.claimed)) (seen l.work l.locks ps);
}
