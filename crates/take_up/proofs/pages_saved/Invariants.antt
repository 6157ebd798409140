-- What the loop of `take_up::pages_saved` keeps: the pages that are left decide.
use mathlib.Core.Path.{◌≡◌}
use Rattle.chains.specs.Links.{linked_pages}
use Rattle.chain_keys.specs.Gathering.{Followed}
use Rattle.take_up.specs.Seen.{listed_good}
use Rattle.take_up.proofs.pages_saved.Given as goal

abbrev pub invariant-loop-left : goal.invariant-loop-left
invariant-loop-left l =
    Followed l.pages l.left l.l
    × (listed_good l.home l.root.capacity l.initial.least l.pages (linked_pages l.pages l.n l.initial.l)
    ≡ listed_good l.home l.root.capacity l.least l.pages (linked_pages l.pages l.left l.l))
