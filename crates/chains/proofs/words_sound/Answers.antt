-- `chains::words_sound` meets its contract: of a page whose count and level pass, the link decides.
use Rattle.std.proofs.Common.{◌≤◌, arith}
use Rattle.std.proofs.lemmas.Bool.Decides.{nat_tests}
use Rattle.chains.specs.Walks.{words_sound}
use Rattle.chains.proofs.words_sound.Goals as goal

pub returns-then-level-le9 : goal.returns-then-level-le9
unfolding words_sound
returns-then-level-le9 c = let few : c.args.count ≤ c.args.root.capacity = omega arith in grind (arith, nat_tests)
