-- `generator::next_word` meets its contract.
use mathlib.Core.Path.{refl}
use Rattle.model.specs.Mixing.{stirred_left, stirred_right, next_word}
use Rattle.generator.proofs.next_word.Goals as goal

pub returns : goal.returns
unfolding stirred_left stirred_right next_word
returns c = refl
