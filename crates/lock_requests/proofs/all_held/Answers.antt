-- `lock_requests::all_held` meets its contract: the first lock that is left decides, or the others do.
use mathlib.Core.Path.{ap, ◌∙◌, sym}
use Rattle.std.proofs.lemmas.List.{drop_all}
use Rattle.model.specs.LockRequests.{is_held, held_all}
use Rattle.records.specs.Work.{seen}
use Rattle.lock_requests.specs.Locks.{claims_of}
use Rattle.lock_requests.proofs.Claimed.{one_there, one_held, none_held}
use Rattle.lock_requests.proofs.all_held.Goals as goal

pub bounds-locks-lock : goal.bounds-locks-lock
bounds-locks-lock c = (one_there c.args.claimed.now c.loop-lock.lock-index c.loop-lock-test.true c.loop-lock.invariant.there).0

pub returns-then-not-holds : goal.returns-then-not-holds
unfolding is_held
returns-then-not-holds c = λ ps.
    let v = seen c.args.work.now c.args.locks.now ps in
    rw (c.loop-lock.invariant.left ps, one_held c.args.claimed.now c.loop-lock.lock-index c.loop-lock-test.true v, ← c.holds.ensures, c.if-not-holds.true)

pub loop-lock-preserved : goal.loop-lock-preserved
unfolding is_held
loop-lock-preserved c = record {
  there = (one_there c.args.claimed.now c.loop-lock.lock-index c.loop-lock-test.true c.loop-lock.invariant.there).1;
  left = λ ps.
      let v = seen c.args.work.now c.args.locks.now ps in
      c.loop-lock.invariant.left ps ∙ rw (one_held c.args.claimed.now c.loop-lock.lock-index c.loop-lock-test.true v, ← c.holds.ensures, c.if-not-holds.false);
}

pub returns : goal.returns
returns c = λ ps.
    let v = seen c.args.work.now c.args.locks.now ps in
    sym (c.loop-lock.invariant.left ps ∙ ap (λ ls. held_all v (claims_of ls)) (drop_all c.loop-lock.lock-index c.args.claimed.now c.loop-lock-test.false) ∙ none_held v)
