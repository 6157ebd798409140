-- `patterns::read_number` meets its contract.
use mathlib.Core.Path.{◌∙◌}
use native.Mathlib.Omega.{arith}
use Rattle.std.proofs.lemmas.List.{take_rest}
use Rattle.patterns.proofs.Scanning.{too_large, small_enough, all_found, none_found, large_found, number_found}
use Rattle.patterns.proofs.read_number.Goals as goal

pub value_of-requires-clause-digits : goal.value_of-requires-clause-digits
value_of-requires-clause-digits c =
    let line = c.args.line.now in
    all_found line _ c.args.at _ c.requires (take_rest line c.args.at) c.count_digits-count.ensures (omega arith)

pub returns-then-count-eq0 : goal.returns-then-count-eq0
returns-then-count-eq0 c =
    let line = c.args.line.now in
    none_found line _ c.args.at _ c.requires (take_rest line c.args.at) c.count_digits-count.ensures c.then-count-eq0.either

pub returns-in_err-value : goal.returns-in_err-value
returns-in_err-value c =
    let line = c.args.line.now in
    let large = too_large _ _ c.value_of.result c.try_from.ensures c.in_err-value.ensures.value in
    c.from_residual.ensures ∙ large_found line _ c.args.at _ c.requires (take_rest line c.args.at) c.count_digits-count.ensures (λ e. omega arith) (omega arith) (λ h. omega (arith, large))

pub returns : goal.returns
returns c =
    let line = c.args.line.now in
    let fits = small_enough _ _ c.value_of.result _ c.try_from.ensures c.in_ok-value.ensures.value in
    rw (fits.0, c.value_of.ensures) (number_found line _ c.args.at _ c.requires (take_rest line c.args.at) c.count_digits-count.ensures (λ e. omega arith) (omega arith) (omega (arith, fits.1)))
