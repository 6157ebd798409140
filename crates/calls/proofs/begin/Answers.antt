-- `calls::begin` meets its contract.
use mathlib.Core.Path.{sym, ap, ◌∙◌}
use Rattle.calls.specs.Lent.{left_by_begin}
use Rattle.calls.proofs.Calling.{handed_on, begin_refused_ok, begin_begun}
use Rattle.calls.proofs.begin.Goals as goal

pub returns-in_err-begin_cause : goal.returns-in_err-begin_cause
returns-in_err-begin_cause c = λ row ls ps ws fit here.
    let a = c.args in
    ap (λ x. left_by_begin x a.root row a.q ls ps ws) (handed_on c.from_residual.result c.from_residual.ensures)
    ∙ begin_refused_ok a.root row ls ps ws a.lengths (sym fit) a.q a.party here a.operation a.key (sym c.begin_cause.ensures ∙ c.in_err-begin_cause.was)

pub returns : goal.returns
returns c =
    let a = c.args in
    λ row ls ps ws fit here. begin_begun a.root row ls ps ws a.lengths (sym fit) a.q a.party here a.operation a.key (sym c.begin_cause.ensures ∙ c.in_ok-begin_cause.was) c.begun-next.ensures
