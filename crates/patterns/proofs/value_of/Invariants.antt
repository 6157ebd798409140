-- What the loop of `patterns::value_of` keeps: the digits to come make of the value so far what is promised.
use mathlib.Core.Path.{◌≡◌}
use mathlib.Core.Bool.{true}
use Prim.Native.Nat.{◌^◌, ◌<◌}
use lib.ListN.{drop}
use Rattle.patterns.specs.Numbers.{all_digits, value_from, value_of}
use Rattle.patterns.proofs.value_of.Given as goal

abbrev pub invariant-loop-c : goal.invariant-loop-c
invariant-loop-c l = (l.value < 10 ^ l.c-index) × (all_digits (drop l.c-index l.digits) ≡ true) × (value_from l.value (drop l.c-index l.digits) ≡ value_of l.digits)
