-- And with the complement of one shifted clears the reader bit: Fields.bit_cleared.
use native.Mathlib.Omega.{arith}
use Rattle.lock_words.proofs.Fields.{bit_cleared}
use borrow.Author.Rules.{rules}
use Rattle.lock_words.proofs.without_reader.Goals as goal

pub returns : goal.returns
returns c = bit_cleared c.args.q c.args.w (omega arith) (search rules)
