-- `lock_requests::give_up` meets its contract: all are held, and are given up one after the other.
use mathlib.Core.Path.{ap, ◌∙◌, sym}
use lib.ListN.{length-set}
use Rattle.std.proofs.lemmas.List.{drop_all}
use Rattle.model.specs.LockRequests.{given_up, without_hold}
use Rattle.records.specs.Work.{seen}
use Rattle.lock_requests.specs.Locks.{claims_of}
use Rattle.lock_requests.proofs.Claimed.{one_there, one_given_up, none_given_up}
use Rattle.lock_requests.proofs.give_up.Goals as goal

pub release-requires : goal.release-requires
release-requires c = ((one_there c.args.claimed.now c.loop-lock.lock-index c.loop-lock-test.true c.loop-lock.invariant.there).0, c.requires.1)

pub loop-lock-preserved : goal.loop-lock-preserved
unfolding without_hold
loop-lock-preserved c = record {
  there = rw (c.release.ensures, length-set) (one_there c.args.claimed.now c.loop-lock.lock-index c.loop-lock-test.true c.loop-lock.invariant.there).1;
  left = λ ps.
      let v = seen c.args.work.now c.loop-lock.locks ps in
      c.loop-lock.invariant.left ps ∙ rw (one_given_up c.args.claimed.now c.loop-lock.lock-index c.loop-lock-test.true v, c.release.ensures);
}

pub returns-clause-words : goal.returns-clause-words
returns-clause-words c = λ ps.
    let v = seen c.args.work.now c.loop-lock.locks ps in
    let all = c.loop-lock.invariant.left ps ∙ ap (λ ls. given_up (claims_of ls) v) (drop_all c.loop-lock.lock-index c.args.claimed.now c.loop-lock-test.false) ∙ none_given_up v in
    rw (← c.all_held.ensures ps, c.if-not-all_held.false) (sym all)
