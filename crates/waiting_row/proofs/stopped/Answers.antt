-- `waiting_row::stopped` meets its contract: at 16, whether n is P.
use mathlib.Core.Path.{refl}
use borrow.Author.Tests.{le-ltb}
use Rattle.model.specs.Addresses.{split_barred}
use Rattle.waiting_row.specs.Requested.{by_root, barred, stops}
use Rattle.waiting_row.proofs.stopped.Goals as goal

pub returns-else-root-gt8 : goal.returns-else-root-gt8
unfolding by_root stops barred split_barred
returns-else-root-gt8 c = rw (c.in-16.is, c.count.ensures, c.from.ensures, le-ltb 8 c.args.root.level c.if-root-gt8.false) refl
