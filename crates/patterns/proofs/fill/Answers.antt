-- `patterns::fill` meets its contract.
use mathlib.Core.Path.{◌≡◌, sym}
use borrow.Author.Rules.{rules}
use lib.ListN.{get_or, drop}
use Rattle.std.specs.Slice.Iter.{iter_rest}
use Rattle.patterns.proofs.Filling.{next_number, hole_put, hole_room, byte_put, byte_room, all_put}
use Rattle.patterns.proofs.fill.Goals as goal
use Rattle.patterns.proofs.fill.Goals.{then-b-eq-HOLE, else-b-eq-HOLE}

pub put_number-next-requires : goal.put_number-next-requires
put_number-next-requires c =
    let l = c.loop-b in
    let number : c.unwrap_or.result ≡ get_or (iter_rest l.left) 0 0 = cc (next_number l.left c.next.new.self c.next.result c.next.ensures.steps) in
    hole_room l.invariant c.loop-b-test.true c.if-b-eq-HOLE.true c.requires number

pub bounds-out-next : goal.bounds-out-next
bounds-out-next c = byte_room c.loop-b.invariant c.loop-b-test.true c.if-b-eq-HOLE.false c.requires

pub loop-b-preserved : goal.loop-b-preserved
loop-b-preserved c =
    let l = c.loop-b in
    let more = c.loop-b-test.true in
    elim c.if-b-eq-HOLE.branch [
      | then-b-eq-HOLE w ↦
          let number : w.unwrap_or.result ≡ get_or (iter_rest l.left) 0 0 = cc (next_number l.left w.next.new.self w.next.result w.next.ensures.steps) in
          let others : iter_rest w.next.new.self ≡ drop 1 (iter_rest l.left) = search rules in
          rw (w.out-is, w.left-is, w.next-is) (hole_put l.invariant more w.if-b-eq-HOLE.true number others w.put_number-next.ensures.out_after w.put_number-next.ensures.value)
      | else-b-eq-HOLE w ↦ rw (w.out-is, w.left-is, w.next-is) (byte_put l.invariant more w.if-b-eq-HOLE.false)
    ]

pub returns : goal.returns
returns c =
    let put = all_put c.loop-b.invariant c.loop-b-test.false in
    record { value = sym put.0; out_after = sym put.1 }
