-- `calls::format` meets its contract.
use mathlib.Core.Path.{sym, ap, ◌∙◌}
use Rattle.model.specs.Records.{root_sized}
use Rattle.memory.proofs.Accepted.{can_format, row_fits, waiting_fits}
use Rattle.calls.specs.Lent.{left_by_format}
use Rattle.calls.proofs.Calling.{handed_on, fits, format_refused_ok, format_formatted}
use Rattle.calls.proofs.format.Goals as goal

pub returns-in_err-format_cause : goal.returns-in_err-format_cause
returns-in_err-format_cause c = λ root row ws e.
    let a = c.args in
    let z = a.sizes in
    let cause = rw c.lengths.ensures at c.format_cause.ensures in
    ap (λ x. left_by_format x root row a.locks.now a.pages.now ws) (handed_on c.from_residual.result c.from_residual.ensures)
    ∙ format_refused_ok root row a.locks.now a.pages.now ws _ (fits root row a.locks.now a.pages.now ws e) z.originals z.capacity z.primaries z.overflow z.parties (sym cause ∙ c.in_err-format_cause.was)

pub format_words-made-requires : goal.format_words-made-requires
format_words-made-requires c =
    let cause = rw c.lengths.ensures at c.format_cause.ensures in
    can_format (root_sized c.args.sizes) _ (sym cause ∙ c.in_ok-format_cause.was)

pub returns : goal.returns
returns c = λ root row ws e.
    let a = c.args in
    let z = a.sizes in
    let cause = rw c.lengths.ensures at c.format_cause.ensures in
    let none = sym cause ∙ c.in_ok-format_cause.was in
    let parties = row_fits (root_sized z) _ none in
    let waiting = waiting_fits (root_sized z) _ none in
    let made = c.format_words-made.ensures in
    format_formatted root row a.locks.now a.pages.now ws _ (fits root row a.locks.now a.pages.now ws e) z.originals z.capacity z.primaries z.overflow z.parties none parties waiting made.0 made.1 made.2
