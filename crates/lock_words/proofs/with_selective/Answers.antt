-- Clearing bits 16 to 20 and putting the shifted number there: Fields.field_put.
use mathlib.Core.Path.{refl}
use borrow.Author.Rules.{rules}
use Rattle.lock_words.proofs.Fields.{field_put}
use Rattle.lock_words.proofs.with_selective.Goals as goal

pub returns : goal.returns
returns c = field_put 11 5 16 c.args.w c.args.h refl (search rules) (search rules)
