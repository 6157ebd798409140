-- What the loop of `split_few::part` keeps.
use mathlib.Core.Path.{◌≡◌}
use Prim.Native.Nat.{◌≤◌}
use lib.ListN.{length}
use Rattle.model.specs.Pages.{records_in}
use Rattle.split_few.specs.Splitting.{CanPart}
use Rattle.split_few.proofs.Parting.{Parting}
use Rattle.split_few.proofs.part.Given as goal

abbrev pub invariant-loop-i : goal.invariant-loop-i
invariant-loop-i l =
    CanPart l.h l.count l.words l.gone × (l.i ≤ l.count) × (length l.words ≡ length l.initial.words) × (length l.gone ≡ length l.initial.gone) × Parting l.h (records_in l.initial.words) l.i l.staying (records_in l.words) (records_in l.gone)
