-- What the loop of `filling::fill_pages` keeps: the pages and the records that are left decide.
use mathlib.Core.Path.{◌≡◌}
use lib.ListN.{drop}
use Rattle.model.specs.Pages.{records_in}
use Rattle.model.specs.Filling.{filled}
use Rattle.filling.proofs.fill_pages.Given as goal

abbrev pub invariant-loop-i : goal.invariant-loop-i
invariant-loop-i l =
    filled l.b l.initial.pages l.taken (records_in l.records) ≡ filled l.b l.pages (drop l.i l.taken) (records_in l.rest)
