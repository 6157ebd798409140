-- What the loop of `entries::below` keeps.
use mathlib.Core.Path.{◌≡◌}
use Prim.Native.Nat.{◌+◌, ◌/◌, ◌≤◌}
use lib.ListN.{length, drop}
use Rattle.model.specs.Sizes.{record_words}
use Rattle.model.specs.Pages.{records_in}
use Rattle.entries.specs.Places.{place_of}
use Rattle.entries.proofs.below.Given as goal

abbrev pub invariant-loop-i : goal.invariant-loop-i
invariant-loop-i l = (l.count ≡ length l.words / record_words) × (l.i ≤ l.count) × (l.n ≤ l.i) × (place_of l.k (records_in l.words) ≡ l.n + place_of l.k (drop l.i (records_in l.words)))
