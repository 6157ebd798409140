-- `endings::done` meets its contract.
use mathlib.Core.Path.{ap}
use Rattle.std.specs.Prelude.{Ok}
use Rattle.model.specs.declared.StepAnswer.{StepAnswer}
use Rattle.model.specs.Outcome.{View, outcome}
use Rattle.endings.proofs.done.Goals as goal

pub returns : goal.returns
returns c = λ _ ls. ap (λ (v : View). outcome (Ok (StepAnswer.Done c.args.answer c.args.made)) v) (c.clear.ensures ls)
