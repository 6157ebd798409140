-- What the loop of `take_up::all_free` keeps: the pages that are left decide.
use mathlib.Core.Path.{◌≡◌}
use Rattle.model.specs.TakeUp.{all_free}
use Rattle.chains.specs.Links.{linked_pages, LeadsOn}
use Rattle.take_up.specs.Seen.{Within}
use Rattle.take_up.proofs.all_free.Given as goal

abbrev pub invariant-loop-left : goal.invariant-loop-left
invariant-loop-left l =
    LeadsOn (Within l.pages) l.pages l._left l.l
    × (all_free l.pages (linked_pages l.pages l.n l.first) ≡ all_free l.pages (linked_pages l.pages l._left l.l))
