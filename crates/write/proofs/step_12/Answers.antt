-- `write::step_12` meets its contract: the chain is held, and left.
use mathlib.Core.Path.{◌∙◌}
use mathlib.Core.Bool.{cond}
use mathlib.Core.List.{[], ◌∷◌}
use Rattle.model.specs.LockRequests.{chain_selective}
use Rattle.model.specs.Endings.{old_pages_first, onward, finished}
use Rattle.model.specs.Steps.Write.{is_change, step12}
use Rattle.records.specs.Work.{seen}
use Rattle.lock_requests.proofs.Releases.{held_goes_on}
use Rattle.write.proofs.step_12.Goals as goal

pub returns : goal.returns
unfolding step12
returns c =
    let a = c.args in
    let held = rw c.chain-lock.ensures at (c.give_up.ensures.held a.pages.now) in
    let left = rw c.chain-lock.ensures at (c.give_up.ensures.words a.pages.now) in
    c.chain_left.ensures c.give_up.new.locks ∙ held_goes_on (seen a.work.now a.locks.now a.pages.now) (chain_selective a.work.now.party ∷ []) held left (λ u. cond (is_change a.work.now.party.answer) (old_pages_first u (onward u)) (finished u)) c.in_ok-give_up.was
