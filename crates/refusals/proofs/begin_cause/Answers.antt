-- `refusals::begin_cause` meets its contract: past the rows that begin shares, its own row.
use mathlib.Core.Path.{refl}
use borrow.Author.Tests.{eq-eqb, ne_eqb}
use Rattle.model.specs.Refusals.{first_cause}
use Rattle.refusals.proofs.Causes.{begin_is}
use Rattle.refusals.proofs.begin_cause.Goals as goal

pub returns-then-party-ne-IDLE : goal.returns-then-party-ne-IDLE
unfolding first_cause
returns-then-party-ne-IDLE c =
    rw (begin_is c.args.root c.args.party c.args.lengths c.args.q, ← c.in_ok-place_cause.ensures, ne_eqb c.args.party.operation 0 c.if-party-ne-IDLE.true) refl

pub returns : goal.returns
unfolding first_cause
returns c =
    rw (begin_is c.args.root c.args.party c.args.lengths c.args.q, ← c.in_ok-place_cause.ensures, eq-eqb c.args.party.operation 0 c.if-party-ne-IDLE.false) refl
