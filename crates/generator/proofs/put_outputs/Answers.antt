-- `generator::put_outputs` meets its contract. The loop's invariant is PutLines.
use mathlib.Core.Path.{ap}
use native.Mathlib.Nat.{sub-zero}
use native.Mathlib.Omega.{arith}
use lib.ListN.{length}
use lib.Seq.{length-sets}
use Rattle.patterns.specs.Numbers.{decimal}
use Rattle.patterns.proofs.Numerals.{decimal_short}
use Rattle.generator.proofs.Lines.{none_put, line_put, all_put}
use Rattle.generator.proofs.put_outputs.Goals as goal

pub loop-line-init : goal.loop-line-init
loop-line-init c =
    rw sub-zero (none_put c.args.count c.args.x c.args.out.now c.requires)

pub put_number-at-requires : goal.put_number-at-requires
put_number-at-requires c =
    let l = c.loop-line in
    omega (arith, l.invariant.room, decimal_short c.next_word-word.result)

pub bounds-out-at : goal.bounds-out-at
bounds-out-at c =
    let l = c.loop-line in
    let w = c.next_word-word.result in
    let put = c.put_number-at.ensures in
    omega (arith, l.invariant.room, decimal_short w, put.value, ap length put.out_after, length-sets l.out l.at (decimal w))

pub overflow_add-at : goal.overflow_add-at
overflow_add-at c =
    let l = c.loop-line in
    let w = c.next_word-word.result in
    record { fits = omega (arith, c.well_formed, l.invariant.room, l.invariant.long, decimal_short w, c.put_number-at.ensures.value) }

pub loop-line-preserved : goal.loop-line-preserved
loop-line-preserved c =
    let l = c.loop-line in
    let put = c.put_number-at.ensures in
    line_put l.invariant (omega arith) c.next_word-word.ensures put.out_after put.value

pub returns : goal.returns
returns c =
    let l = c.loop-line in
    let put = all_put l.invariant (omega arith) in
    record { value = (put.0, omega (arith, l.invariant.room)); out_after = put.1 }
