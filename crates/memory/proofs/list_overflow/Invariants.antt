-- What the loop of `memory::list_overflow` keeps: the overflow pages from page x on are linked.
use Rattle.memory.proofs.Listing.{Listed}
use Rattle.memory.proofs.list_overflow.Given as goal

abbrev pub invariant-loop-x : goal.invariant-loop-x
invariant-loop-x l = Listed l.fn.root l.pages l.link l.x
