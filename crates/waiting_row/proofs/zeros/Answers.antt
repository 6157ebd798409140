-- `waiting_row::zeros` meets its contract.
use Rattle.std.proofs.Common.{◌∙◌, sym}
use Rattle.waiting_row.proofs.Words.{ends_blank, ends_set}
use Rattle.waiting_row.proofs.zeros.Goals as goal

pub returns-then-blank : goal.returns-then-blank
returns-then-blank c =
    c.blank-then-blank.ensures
    ∙ ends_blank c.args.words.now c.if-n-le16.true c.if-n-ge8.true (sym c.blank.ensures ∙ c.if-blank.true)

pub returns-else-blank : goal.returns-else-blank
returns-else-blank c =
    c.if-blank.false
    ∙ ends_set c.args.words.now c.if-n-le16.true c.if-n-ge8.true (sym c.blank.ensures ∙ c.if-blank.false)
