-- `waiting_row::target_word` meets its contract.
use Rattle.std.proofs.Common.{◌∙◌}
use Rattle.waiting_row.proofs.Requests.{has_level, target_before, target_after}
use Rattle.waiting_row.proofs.target_word.Goals as goal

pub overflow_sub-root : goal.overflow_sub-root
overflow_sub-root c =
    let r = c.args.root in
    has_level r.originals r.level r.next c.requires.goes c.if-root-eq0.true

pub returns-then-root-eq0 : goal.returns-then-root-eq0
returns-then-root-eq0 c =
    let r = c.args.root in
    c.span.ensures.0 ∙ target_after r.originals r.level r.next c.requires.goes c.if-root-eq0.true

pub returns-else-root-eq0 : goal.returns-else-root-eq0
returns-else-root-eq0 c =
    let r = c.args.root in
    c.from.ensures ∙ target_before r.originals r.level r.next c.if-root-eq0.false
