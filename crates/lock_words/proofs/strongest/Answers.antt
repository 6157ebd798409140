-- Each mask asks for one field (Fields.field-some, Fields.field-none), the strongest lock's first.
use Rattle.model.specs.GrantTable.{held_in, strongest}
use Rattle.lock_words.specs.HeldLock.{as_option}
use Rattle.lock_words.proofs.Fields.{field-some, field-none}
use Rattle.lock_words.proofs.strongest.Goals as goal

pub returns-then-w-ne0 : goal.returns-then-w-ne0
unfolding as_option strongest held_in
returns-then-w-ne0 c = rw (field-some 21 5 c.args.w c.if-w-ne0.true)

pub returns-then-w-ne0-2 : goal.returns-then-w-ne0-2
unfolding as_option strongest held_in
returns-then-w-ne0-2 c =
    let w = c.args.w in
    rw (field-none 21 5 w c.if-w-ne0.false, field-some 16 5 w c.if-w-ne0-2.true)

pub returns-then-w-ne0-3 : goal.returns-then-w-ne0-3
unfolding as_option strongest held_in
returns-then-w-ne0-3 c =
    let w = c.args.w in
    rw (field-none 21 5 w c.if-w-ne0.false, field-none 16 5 w c.if-w-ne0-2.false, field-some 0 16 w c.if-w-ne0-3.true)

pub returns-else-w-ne0-3 : goal.returns-else-w-ne0-3
unfolding as_option strongest held_in
returns-else-w-ne0-3 c =
    let w = c.args.w in
    rw (field-none 21 5 w c.if-w-ne0.false, field-none 16 5 w c.if-w-ne0-2.false, field-none 0 16 w c.if-w-ne0-3.false)
