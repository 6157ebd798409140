-- `lines::perform_line` meets its contract: a line that is no form, and one that is.
use mathlib.Core.Path.{sym, ◌∙◌, ap}
use Rattle.std.specs.Prelude.{Option}
use Rattle.forms.specs.declared.Form.{Form}
use Rattle.lines.specs.Held.{held_in}
use Rattle.lines.specs.Lines.{answered_as, line_answered}
use Rattle.lines.proofs.perform_line.Goals as goal

pub returns-in-None-clause-reply : goal.returns-in-None-clause-reply
unfolding line_answered answered_as
returns-in-None-clause-reply c = rw (sym c.read_form.ensures, c.in-None.is)

pub returns-in-Some-clause-reply : goal.returns-in-Some-clause-reply
unfolding line_answered answered_as
returns-in-Some-clause-reply c = c.perform.ensures.reply ∙ ap (λ (f : Option Form). answered_as f (held_in c.args.file.now)) (sym c.in-Some.is ∙ c.read_form.ensures)
