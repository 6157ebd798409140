-- `File::perform`: a step is the form performed, and the reply names its party.
use Rattle.std.proofs.Common.{ℕ, sym, ap, ◌∙◌}
use Rattle.std.specs.Prelude.{Result}
use Rattle.model.specs.declared.StepAnswer.{StepAnswer}
use Rattle.model.specs.Calls.{called}
use Rattle.forms.specs.declared.Form.{Form}
use Rattle.forms.specs.declared.Reply.TheVariants as Reply
use Rattle.lines.specs.Held.{held_in}
use Rattle.lines.specs.Lines.{performed}
use Rattle.lines.proofs.File.perform.Goals as goal

pub returns-in-Step-clause-reply : goal.returns-in-Step-clause-reply
returns-in-Step-clause-reply c =
    ap (λ (r : Result StepAnswer ℕ). called (Reply.Step c.in-Step.q r) (held_in c.step.new.self)) c.by_number-in-Step.ensures ∙ c.step.ensures.reply
    ∙ ap (λ (f : Form). performed f (held_in c.args.self.now)) (sym c.in-Step.is)
