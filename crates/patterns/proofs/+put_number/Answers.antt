-- `patterns::put_number` meets its contract: the last digit goes behind the others.
use mathlib.Core.Path.{ap}
use native.Mathlib.Omega.{arith}
use lib.ListN.{length, length-append}
use Rattle.patterns.proofs.Spelling.{decimal_more, Front, front_none, front_put}
use Rattle.patterns.proofs.+put_number.Goals as goal
use Rattle.patterns.proofs.+put_number.Goals.{then-n-gt9, else-n-gt9}

pub put_number-last-requires : goal.put_number-last-requires
put_number-last-requires t c =
    let a = c.args in
    let more = decimal_more a.n c.if-n-gt9.true (omega arith) in
    (omega arith, omega (arith, c.requires, simp length-append at (ap length more)))

pub bounds-out-last : goal.bounds-out-last
bounds-out-last t c =
    let a = c.args in
    let front : Front a.n a.at c.if-n-gt9.last a.out.now c.if-n-gt9.out =
    elim c.if-n-gt9.branch [
      | then-n-gt9 w ↦ rw (w.last-is, w.out-is) (front_put a.n a.at a.out.now w.if-n-gt9.true (omega arith) w.put_number-last.ensures.value w.put_number-last.ensures.out_after)
      | else-n-gt9 w ↦ rw (w.last-is, w.out-is) (front_none a.n a.at a.out.now w.if-n-gt9.false)
    ] in
    omega (arith, c.requires, front.place, front.long)

pub overflow_add-result : goal.overflow_add-result
overflow_add-result t c =
    let a = c.args in
    let front : Front a.n a.at c.if-n-gt9.last a.out.now c.if-n-gt9.out =
    elim c.if-n-gt9.branch [
      | then-n-gt9 w ↦ rw (w.last-is, w.out-is) (front_put a.n a.at a.out.now w.if-n-gt9.true (omega arith) w.put_number-last.ensures.value w.put_number-last.ensures.out_after)
      | else-n-gt9 w ↦ rw (w.last-is, w.out-is) (front_none a.n a.at a.out.now w.if-n-gt9.false)
    ] in
    omega (arith, c.requires, front.place, front.long)

pub returns : goal.returns
returns t c =
    let a = c.args in
    let front : Front a.n a.at c.if-n-gt9.last a.out.now c.if-n-gt9.out =
    elim c.if-n-gt9.branch [
      | then-n-gt9 w ↦ rw (w.last-is, w.out-is) (front_put a.n a.at a.out.now w.if-n-gt9.true (omega arith) w.put_number-last.ensures.value w.put_number-last.ensures.out_after)
      | else-n-gt9 w ↦ rw (w.last-is, w.out-is) (front_none a.n a.at a.out.now w.if-n-gt9.false)
    ] in
    record { value = front.place; out_after = front.text }
