-- What the loop of `take_up::after_records` keeps: the records that are left decide.
use mathlib.Core.Path.{◌≡◌}
use lib.ListN.{drop}
use Rattle.model.specs.Pages.{count_of, entries_of}
use Rattle.take_up.specs.Seen.{after_records}
use Rattle.take_up.proofs.after_records.Given as goal

abbrev pub invariant-loop-i : goal.invariant-loop-i
invariant-loop-i l =
    (l.n ≡ count_of l.w)
    × (after_records l.home l.initial.next (entries_of l.w) ≡ after_records l.home l.next (drop l.i (entries_of l.w)))
