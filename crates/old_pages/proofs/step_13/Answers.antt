-- `old_pages::step_13` meets its contract: an old link that names an overflow page, and the chain requested.
use mathlib.Core.Path.{◌≡◌, sym, ◌∙◌}
use mathlib.Core.Bool.{true, false}
use Rattle.model.specs.Pages.{names_overflow}
use Rattle.model.specs.Steps.OldPages.{step13}
use Rattle.old_pages.proofs.step_13.Goals as goal

pub returns-then-not-names_overflow : goal.returns-then-not-names_overflow
unfolding step13
returns-then-not-names_overflow c =
    let w = c.args.work.now in
    let unnamed : names_overflow w.root w.party.old ≡ false = sym c.names_overflow.ensures ∙ c.if-not-names_overflow.true in
    rw unnamed

pub returns : goal.returns
unfolding step13
returns c =
    let w = c.args.work.now in
    let named : names_overflow w.root w.party.old ≡ true = sym c.names_overflow.ensures ∙ c.if-not-names_overflow.false in
    rw named (rw c.chain-lock.ensures at (c.request.ensures c.args.pages.now))
