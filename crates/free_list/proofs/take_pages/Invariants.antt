-- What the loop of `free_list::take_pages` keeps.
use Rattle.std.proofs.Common.{take}
use Rattle.free_list.proofs.Taking.{Taking}
use Rattle.free_list.proofs.take_pages.Given as goal

abbrev pub invariant-loop-page : goal.invariant-loop-page
invariant-loop-page l = Taking l.root l.pages l.k l.marks (take l.page-index l.page-items) l.l l.page-index
