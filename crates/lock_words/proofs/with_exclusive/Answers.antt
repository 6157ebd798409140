-- Clearing bits 21 to 25 and putting the shifted number there: Fields.field_put.
use mathlib.Core.Path.{refl}
use borrow.Author.Rules.{rules}
use Rattle.lock_words.proofs.Fields.{field_put}
use Rattle.lock_words.proofs.with_exclusive.Goals as goal

pub returns : goal.returns
returns c = field_put 6 5 21 c.args.w c.args.h refl (search rules) (search rules)
