-- What the loop of `free_list::draw` keeps.
use Rattle.free_list.proofs.Taking.{Drawing}
use Rattle.free_list.proofs.draw.Given as goal

abbrev pub invariant-loop : goal.invariant-loop
invariant-loop l = Drawing l.root l.pages l.k l.marks l.l l.counter
