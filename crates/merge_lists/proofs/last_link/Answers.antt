-- `merge_lists::last_link` meets its contract. The loop's invariant: the pages still ahead, given back to a list with the last link found as its head, leave the head that all leave.
use Rattle.std.proofs.Common.{◌-◌}
use native.Mathlib.Nat.{sub-zero}
use native.Mathlib.Omega.{arith}
use Rattle.model.specs.Pages.{link_of}
use Rattle.merge_lists.proofs.Recorded.{next_page}
use Rattle.merge_lists.proofs.Turns.{all_ahead, one_passed, none_ahead}
use Rattle.merge_lists.proofs.last_link.Goals as goal

pub loop-init : goal.loop-init
loop-init c r can = rw sub-zero (all_ahead r _ _ _ _ can)

pub overflow_sub-l : goal.overflow_sub-l
overflow_sub-l c =
    let next = next_page c.args.root c.args.pages.now (omega arith) (c.loop.invariant _ c.requires).walk in
    omega (arith, next.above)

pub word-l-requires : goal.word-l-requires
word-l-requires c =
    let next = next_page c.args.root c.args.pages.now (omega arith) (c.loop.invariant _ c.requires).walk in
    (omega (arith, c.requires.fits, next.above, next.below), omega arith)

pub loop-preserved : goal.loop-preserved
unfolding link_of
loop-preserved c r can =
    let l = c.loop in
    one_passed r _ _ l.last l.l (c.args.n - l.counter) (omega arith) (l.invariant r can) c.word-l.ensures (omega arith)

pub returns : goal.returns
returns c =
    let l = c.loop in
    none_ahead c.args.root c.args.pages.now _ l.last l.l (c.args.n - l.counter) (omega arith) (l.invariant _ c.requires)
