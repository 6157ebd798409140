-- A shift and a mask read bits 16 to 20: Fields.shifted-and-mask.
use Rattle.lock_words.proofs.Fields.{shifted-and-mask}
use Rattle.lock_words.proofs.selective.Goals as goal

pub returns : goal.returns
returns c = shifted-and-mask 16 5 c.args.w
