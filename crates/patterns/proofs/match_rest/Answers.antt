-- `patterns::match_rest` meets its contract.
use mathlib.Core.Path.{◌∙◌}
use Rattle.patterns.proofs.Matching.{rest_matched, rest_other}
use Rattle.patterns.proofs.match_rest.Goals as goal

pub returns-in_err-found : goal.returns-in_err-found
returns-in_err-found c =
    let a = c.args in
    c.from_residual.ensures ∙ rest_other a.pattern.now a.line.now a.at c.in_err-found.ensures

pub returns : goal.returns
returns c =
    let a = c.args in
    rw c.then_some.ensures (rest_matched a.pattern.now a.line.now a.at c.in_ok-found.ensures)
