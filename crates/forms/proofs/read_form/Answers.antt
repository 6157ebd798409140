-- `forms::read_form` meets its contract.
use mathlib.Core.Path.{◌≡◌}
use borrow.Author.Rules.{rules}
use Rattle.std.specs.Prelude.{Some, MatchOption}
use Rattle.forms.specs.declared.Form.{Form}
use Rattle.forms.specs.Reading.{read_form, read_begin}
use Rattle.forms.proofs.StepLine.{step_or}
use Rattle.forms.proofs.read_form.Goals as goal

pub returns : goal.returns
unfolding read_form
returns c =
    let others : MatchOption c.read_step.result (c.or_else.result ≡ read_begin c.args.line.now) (λ (x : Form). c.or_else.result ≡ Some x) = search rules in
    step_or _ _ _ _ c.read_step.ensures others
