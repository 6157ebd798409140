-- `free_list::draw` meets its contract. The loop's invariant is that of take_pages, with the pages taken left out.
use Rattle.std.proofs.Common.{◌∙◌, ap, sym, arith}
use Rattle.chains.proofs.Answered.{damage_is}
use Rattle.free_list.specs.Taking.{drawn}
use Rattle.free_list.proofs.Taking.{none_taken, none_new_ends, one_taken, all_taken}
use Rattle.free_list.proofs.draw.Goals as goal

pub loop-init : goal.loop-init
loop-init c = record { front = _; taking = none_taken c.args.root c.args.pages.now c.args.k c.requires.1 }

pub returns-in_err-l : goal.returns-in_err-l
returns-in_err-l c =
    let d = c.loop.invariant in
    damage_is _ c.from_residual.ensures.0 ∙ ap drawn (sym (none_new_ends _ _ c.args.k _ d.front _ c.loop.counter d.taking c.loop-test.true c.in_err-l.ensures.link))

pub loop-preserved : goal.loop-preserved
loop-preserved c =
    let d = c.loop.invariant in
    record { front = _; taking = one_taken _ _ c.args.k _ d.front _ c.loop.counter d.taking c.loop-test.true c.in_ok-l.ensures.link c.next_link.ensures.marks (omega arith) }

pub returns : goal.returns
returns c = ap drawn (all_taken _ _ c.args.k _ c.loop.invariant.front _ c.loop.counter c.loop.invariant.taking (omega arith))
