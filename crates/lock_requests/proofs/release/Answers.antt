-- `lock_requests::release` meets its contract: the lock is not held, or the party goes on to step k.
use mathlib.Core.List.{[], ◌∷◌}
use Rattle.model.specs.Records.{at_step}
use Rattle.model.specs.Outcome.{moved, with_party}
use Rattle.model.specs.LockRequests.{release}
use Rattle.records.specs.Work.{seen}
use Rattle.records.proofs.Told.{told}
use Rattle.lock_requests.specs.Locks.{claim_of}
use Rattle.lock_requests.proofs.Releases.{unheld_refused, held_goes_on}
use Rattle.lock_requests.proofs.release.Goals as goal

pub give_up-requires : goal.give_up-requires
give_up-requires c = ((c.requires.0, tt), c.requires.1)

pub returns-in_err-give_up : goal.returns-in_err-give_up
unfolding release
returns-in_err-give_up c = λ ps.
    unheld_refused (seen c.args.work.now c.args.locks.now ps) (claim_of c.args.lock ∷ []) (c.give_up.ensures.held ps) (c.give_up.ensures.words ps) _
    c.in_err-give_up.was (told c.from_residual.result c.from_residual.ensures)

pub returns : goal.returns
unfolding release
returns c = λ ps.
    let w = c.args.work.now in
    held_goes_on (seen w c.args.locks.now ps) (claim_of c.args.lock ∷ []) (c.give_up.ensures.held ps) (c.give_up.ensures.words ps)
    (λ v. moved (with_party (at_step c.args.k w.party) v)) c.in_ok-give_up.was
