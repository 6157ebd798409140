-- What the loop of `chase::chase` keeps: the chase from lev ends where the chase from the level below does.
use mathlib.Core.Path.{◌≡◌}
use Prim.Native.Nat.{◌-◌}
use Rattle.model.specs.Mixing.{mixed}
use Rattle.model.specs.Steps.Chase.{chase}
use Rattle.chase.proofs.chase.Given as goal

abbrev pub invariant-loop-below : goal.invariant-loop-below
invariant-loop-below l = chase l.n (mixed l.key) l.chain.0 (l.local - l.lev) l.lev ≡ chase l.n l.m l.chain.0 (l.local - l.below) l.below
