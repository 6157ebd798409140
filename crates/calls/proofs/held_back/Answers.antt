-- `calls::held_back` meets its contract: at 13 the old link names no overflow page.
use mathlib.Core.Path.{sym, ◌∙◌}
use borrow.Author.Tests.{eq-eqb}
use Rattle.waiting_row.specs.HeldBack.{held_answer}
use Rattle.calls.proofs.held_back.Goals as goal

pub returns-then-not-names_overflow : goal.returns-then-not-names_overflow
unfolding held_answer
returns-then-not-names_overflow c =
    rw (eq-eqb c.args.party.step 13 c.if-party-eq-OLD_PAGES.true, sym c.names_overflow.ensures ∙ c.if-not-names_overflow.true)
