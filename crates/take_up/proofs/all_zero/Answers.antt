-- `take_up::all_zero` meets its contract.
use Rattle.std.proofs.Common.{◌∙◌, eqb, rules, tests, true, ◌&&◌}
use Rattle.std.proofs.lemmas.Iterator.{YieldsList-from_slice}
use Rattle.std.proofs.lemmas.Iterator.Consumers.{fold_from_yields_List}
use Rattle.take_up.proofs.Words.{all_looked_at}
use Rattle.take_up.proofs.all_zero.Goals as goal

pub returns : goal.returns
returns c =
    let words = c.args.words.now in
    fold_from_yields_List _ (λ clear w. clear && eqb w 0) _ _ c.fold.ensures.ran (YieldsList-from_slice words cc) (λ a x b q k. search (rules, tests))
    ∙ all_looked_at true words
