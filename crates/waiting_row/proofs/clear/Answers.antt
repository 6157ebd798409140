-- `waiting_row::clear` meets its contract.
use Rattle.std.proofs.Common.{◌∙◌}
use Rattle.waiting_row.proofs.Words.{none-waits, first-waits, others_wait}
use Rattle.waiting_row.proofs.clear.Goals as goal

pub returns-in-empty : goal.returns-in-empty
returns-in-empty c = none-waits c.args.row.now c.in-empty.len_below

pub returns-then-first-eq0 : goal.returns-then-first-eq0
returns-then-first-eq0 c = c.zeros.ensures ∙ others_wait c.args.row.now c.in-len1-up.len_at_least c.if-first-eq0.true

pub returns-else-first-eq0 : goal.returns-else-first-eq0
returns-else-first-eq0 c = first-waits c.args.row.now c.in-len1-up.len_at_least c.if-first-eq0.false
