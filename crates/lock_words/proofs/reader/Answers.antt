-- A shift and a mask of one bit read the reader bit: Fields.shifted-and-mask at width 1.
use Rattle.lock_words.proofs.Fields.{shifted-and-mask}
use Rattle.lock_words.proofs.reader.Goals as goal

pub returns : goal.returns
returns c = shifted-and-mask c.args.q 1 c.args.w
