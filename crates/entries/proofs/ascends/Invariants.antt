-- What the loop of `entries::ascends` keeps.
use mathlib.Core.Path.{◌≡◌}
use mathlib.Core.Bool.{not, ◌&&◌}
use Prim.Native.Nat.{◌-◌, ◌/◌, ◌≤◌}
use lib.ListN.{length, drop}
use Rattle.model.specs.Sizes.{record_words}
use Rattle.model.specs.Entries.{ascending}
use Rattle.model.specs.Pages.{records_in}
use Rattle.entries.proofs.ascends.Given as goal

abbrev pub invariant-loop-i : goal.invariant-loop-i
invariant-loop-i l = (1 ≤ l.i) × (l.n ≡ length l.words / record_words) × (ascending (records_in l.words) ≡ (not l.falls && ascending (drop (l.i - 1) (records_in l.words))))
