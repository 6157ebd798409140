-- `chase::after_chase` meets its contract: a chase that left its chain goes on to another.
use borrow.Author.Tests.{ne_eqb}
use Rattle.model.specs.Steps.Chase.{chasing}
use Rattle.chase.proofs.after_chase.Goals as goal

pub returns-then-t-party : goal.returns-then-t-party
unfolding chasing
returns-then-t-party c = rw (ne_eqb c.args.t.chain.0 c.args.party.chain c.if-t-party.true)
