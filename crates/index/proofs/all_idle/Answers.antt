-- `index::all_idle` meets its contract.
use Rattle.std.proofs.Common.{◌∙◌, rules, tests}
use Rattle.std.proofs.lemmas.Iterator.{YieldsList-from_slice}
use Rattle.std.proofs.lemmas.Iterator.Search.{all_from_yields_List}
use Rattle.model.specs.TakeUp.{is_zero_record}
use Rattle.calls.proofs.TakingUp.{all_are_idle}
use Rattle.index.proofs.all_idle.Goals as goal

pub returns : goal.returns
returns c =
    all_from_yields_List is_zero_record _ _ _ c.all.ensures.ran (YieldsList-from_slice c.args.parties.now cc)
    (λ x b q k. search (rules, tests))
    ∙ all_are_idle c.args.parties.now
