-- `refusals::root_sound` meets its contract.
use mathlib.Core.Path.{refl}
use borrow.Author.Tests.{le-leb, lt-leb}
use Rattle.model.specs.Addresses.{chain_count}
use Rattle.model.specs.Refusals.{root_sound}
use Rattle.refusals.proofs.root_sound.Goals as goal

pub returns-then-root-gt8 : goal.returns-then-root-gt8
unfolding root_sound
returns-then-root-gt8 c = rw (lt-leb c.args.root.level 8 c.if-root-gt8.true) refl

pub returns : goal.returns
unfolding root_sound chain_count
returns c =
    rw (c.from.ensures, c.from-next.ensures, c.span-size.ensures.0, le-leb c.args.root.level 8 c.if-root-gt8.false) refl
