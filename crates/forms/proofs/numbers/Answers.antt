-- `forms::numbers` meets its contract.
use mathlib.Core.Path.{◌∙◌}
use Rattle.forms.specs.Reading.{wholly}
use Rattle.forms.proofs.Table.{numbers_matched, numbers_unmatched}
use Rattle.forms.proofs.numbers.Goals as goal

pub returns-in_err-match_rest : goal.returns-in_err-match_rest
unfolding wholly
returns-in_err-match_rest c = c.from_residual.ensures ∙ numbers_unmatched _ _ c.in_err-match_rest.ensures

pub returns : goal.returns
unfolding wholly
returns c = numbers_matched _ _ c.in_ok-match_rest.ensures
