-- `find::looked_on` meets its contract: the linked page is in the page memory.
use native.Mathlib.Omega.{arith}
use Rattle.model.proofs.Laws.Tests.{named-within}
use Rattle.find.proofs.looked_on.Goals as goal

pub overflow_sub-link : goal.overflow_sub-link
overflow_sub-link c =
    let named = named-within c.args.work.now.root c.args.link c.requires.named in
    omega arith

pub load-w-requires : goal.load-w-requires
load-w-requires c =
    let named = named-within c.args.work.now.root c.args.link c.requires.named in
    omega (arith, c.requires.overflow_fits)
