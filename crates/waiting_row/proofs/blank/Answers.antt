-- `waiting_row::blank` meets its contract.
use Rattle.std.proofs.Common.{◌∙◌, ap, rules}
use Rattle.std.specs.Prelude.{eqb, bit_or}
use Rattle.std.proofs.lemmas.Iterator.{YieldsList-from_slice}
use Rattle.std.proofs.lemmas.Iterator.Consumers.{fold_from_yields_List}
use borrow.Author.Tests.{tests}
use Rattle.waiting_row.proofs.Words.{folded-zero}
use Rattle.waiting_row.proofs.blank.Goals as goal

pub returns : goal.returns
returns c =
    ap (λ n. eqb n 0) (fold_from_yields_List _ (λ all w. bit_or all w) 0 c.fold.result c.fold.ensures.ran (YieldsList-from_slice c.args.words.now cc) (λ a x b q k. search (rules, tests)))
    ∙ folded-zero c.args.words.now
