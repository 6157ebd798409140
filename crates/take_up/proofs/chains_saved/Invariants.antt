-- What the loop of `take_up::chains_saved` keeps: the chains that are left decide.
use mathlib.Core.Path.{◌≡◌}
use Prim.Native.Nat.{◌+◌, ◌-◌, ◌*◌, ◌≤◌}
use Rattle.model.specs.TakeUp.{chains_fit}
use Rattle.take_up.specs.Seen.{pages_counted}
use Rattle.take_up.proofs.chains_saved.Given as goal

abbrev pub invariant-loop-c : goal.invariant-loop-c
invariant-loop-c l =
    (l.total ≤ l.c * 752)
    × (chains_fit l.root l.pages l.count 0 ≡ chains_fit l.root l.pages (l.count - l.c) l.c)
    × (pages_counted l.root l.pages l.count 0 ≡ l.total + pages_counted l.root l.pages (l.count - l.c) l.c)
