-- `patterns::value_of` meets its contract.
use mathlib.Core.Path.{refl, sym, ◌∙◌}
use native.Mathlib.Omega.{arith}
use lib.ListN.{get_or, drop_of_length-le}
use Rattle.patterns.specs.Numbers.{value_from, value_of}
use Rattle.patterns.proofs.Scanning.{Digit, digit_turn, value_next}
use Rattle.patterns.proofs.value_of.Goals as goal

pub loop-c-init : goal.loop-c-init
unfolding value_of
loop-c-init c = (omega arith, c.requires.digits, refl)

pub overflow_sub-c : goal.overflow_sub-c
overflow_sub-c c =
    let l = c.loop-c in
    (digit_turn c.args.digits.now l.c-index l.value (omega arith) l.invariant.1).least

pub loop-c-preserved : goal.loop-c-preserved
loop-c-preserved c =
    let l = c.loop-c in
    let turn : Digit c.args.digits.now l.c-index l.value = digit_turn c.args.digits.now l.c-index l.value (omega arith) l.invariant.1 in (
      rw c.from.ensures (value_next l.c-index l.value (get_or c.args.digits.now l.c-index 0) l.invariant.0 turn.most),
      turn.rest,
      rw c.from.ensures (sym turn.value ∙ l.invariant.2),
    )

pub returns : goal.returns
unfolding value_from
returns c =
    let l = c.loop-c in
    rw (drop_of_length-le c.args.digits.now c.loop-c-test.false) at l.invariant.2
