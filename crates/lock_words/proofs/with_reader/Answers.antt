-- Or with one shifted sets the reader bit: Fields.bit_set.
use native.Mathlib.Omega.{arith}
use Rattle.lock_words.proofs.Fields.{bit_set}
use Rattle.lock_words.proofs.with_reader.Goals as goal

pub returns : goal.returns
returns c = bit_set c.args.q c.args.w (omega arith)
