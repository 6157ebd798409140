-- `take_up::is_free` meets its contract.
use Rattle.std.proofs.Common.{◌≡◌, length, arith, rules}
use Rattle.std.proofs.lemmas.Grind.{common_steps}
use Rattle.model.specs.Sizes.{page_words}
use Rattle.take_up.proofs.Words.{free_words}
use Rattle.take_up.proofs.is_free.Goals as goal

pub returns-then-w-eq0-2 : goal.returns-then-w-eq0-2
returns-then-w-eq0-2 c =
    let sixteen : length c.args.w ≡ page_words = search rules in
    let same = free_words c.args.w sixteen in
    grind (arith, common_steps, same)

pub returns-else-w-eq0-2 : goal.returns-else-w-eq0-2
returns-else-w-eq0-2 c =
    let sixteen : length c.args.w ≡ page_words = search rules in
    let same = free_words c.args.w sixteen in
    grind (arith, common_steps, same)
