-- `key_source::settled` meets its contract. The loop's invariant: the records from the place on are the same.
use Rattle.std.proofs.Common.{◌∙◌, sym, arith}
use Rattle.key_source.proofs.Places.{linked, next_start, page_over, none_left}
use Rattle.key_source.proofs.settled.Goals as goal

pub overflow_sub-q : goal.overflow_sub-q
overflow_sub-q c = linked c.args.pages.now c.loop-q.q c.loop-q.invariant.sits (omega arith)

pub first_place-q-requires : goal.first_place-q-requires
first_place-q-requires c = next_start c.args.pages.now c.loop-q.q c.loop-q.invariant.sits (omega arith)

pub loop-q-preserved : goal.loop-q-preserved
loop-q-preserved c =
    let over = page_over c.args.pages.now c.loop-q.q c.loop-q.invariant.sits (omega arith) (omega arith) in
    record { sits = c.first_place-q.ensures.0; same = c.first_place-q.ensures.2 ∙ sym over ∙ c.loop-q.invariant.same }

pub returns-else-q-gt0 : goal.returns-else-q-gt0
returns-else-q-gt0 c =
    let l = c.loop-q in
    (l.invariant.sits, l.invariant.same, λ e. none_left c.args.pages.now l.q l.invariant.sits e (omega arith))
