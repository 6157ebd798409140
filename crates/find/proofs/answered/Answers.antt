-- `find::answered` meets its contract: the chain is held, and done follows.
use mathlib.Core.Path.{◌∙◌}
use mathlib.Core.List.{[], ◌∷◌}
use Rattle.model.specs.declared.Restructuring.TheVariants as Restructuring
use Rattle.model.specs.Endings.{done}
use Rattle.model.specs.LockRequests.{chain_lock}
use Rattle.model.specs.Steps.Find.{answered}
use Rattle.records.specs.Work.{seen}
use Rattle.lock_requests.proofs.Releases.{held_goes_on}
use Rattle.find.proofs.answered.Goals as goal

pub returns : goal.returns
unfolding answered
returns c =
    let a = c.args in
    let w = a.work.now in
    let held = rw (c.chain-lock.ensures, c.mode_of-mode.ensures) at (c.give_up.ensures.held a.pages.now) in
    let left = rw (c.chain-lock.ensures, c.mode_of-mode.ensures) at (c.give_up.ensures.words a.pages.now) in
    c.done.ensures w.party c.give_up.new.locks
    ∙ held_goes_on (seen w a.locks.now a.pages.now) (chain_lock w.party ∷ []) held left (done a.answer Restructuring.None) c.in_ok-give_up.was
