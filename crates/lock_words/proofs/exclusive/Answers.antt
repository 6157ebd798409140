-- A shift and a mask read bits 21 to 25: Fields.shifted-and-mask.
use Rattle.lock_words.proofs.Fields.{shifted-and-mask}
use Rattle.lock_words.proofs.exclusive.Goals as goal

pub returns : goal.returns
returns c = shifted-and-mask 21 5 c.args.w
