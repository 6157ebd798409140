-- `forms::read_step` meets its contract: the pieces of the line are those of the pattern.
use mathlib.Core.Path.{sym, ◌∙◌}
use Rattle.patterns.proofs.Literals.{text_long}
use Rattle.patterns.proofs.Matching.{read_told, unread_told}
use Rattle.forms.proofs.StepLine.{step_text, text_unfit, number_unread, bracket_missing, line_ends}
use Rattle.forms.proofs.read_step.Goals as goal

pub returns-then-not-text_at : goal.returns-then-not-text_at
returns-then-not-text_at c = text_unfit c.args.line.now (sym c.text_at.ensures ∙ c.if-not-text_at.true)

pub read_number-requires : goal.read_number-requires
read_number-requires c = text_long step_text c.args.line.now (sym c.text_at.ensures ∙ c.if-not-text_at.false)

pub returns-in_err-number : goal.returns-in_err-number
returns-in_err-number c =
    c.from_residual.ensures ∙ number_unread c.args.line.now (sym c.text_at.ensures ∙ c.if-not-text_at.false) (unread_told _ _ (sym c.in_err-number.ensures))

pub match_rest-requires : goal.match_rest-requires
match_rest-requires c =
    let line = c.args.line.now in
    let text = sym c.text_at.ensures ∙ c.if-not-text_at.false in
    (read_told line 6 c.in_ok-number.number (text_long step_text line text) (sym c.in_ok-number.ensures)).1

pub returns-in_err-match_rest : goal.returns-in_err-match_rest
returns-in_err-match_rest c =
    let line = c.args.line.now in
    let text = sym c.text_at.ensures ∙ c.if-not-text_at.false in
    let number = read_told line 6 c.in_ok-number.number (text_long step_text line text) (sym c.in_ok-number.ensures) in
    c.from_residual-in_err-match_rest.ensures ∙ bracket_missing line text _ _ number.0 _ c.in_err-match_rest.ensures

pub returns : goal.returns
returns c =
    let line = c.args.line.now in
    let text = sym c.text_at.ensures ∙ c.if-not-text_at.false in
    let number = read_told line 6 c.in_ok-number.number (text_long step_text line text) (sym c.in_ok-number.ensures) in
    line_ends line text _ _ number.0 _ _ c.in_ok-match_rest.ensures
