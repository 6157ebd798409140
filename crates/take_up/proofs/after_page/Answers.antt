-- `take_up::after_page` meets its contract.
use mathlib.Core.Path.{refl, sym, ◌∙◌}
use Rattle.take_up.specs.Seen.{after_page, after_records}
use Rattle.take_up.proofs.after_page.Goals as goal

pub returns-then-page_filled : goal.returns-then-page_filled
unfolding after_page after_records
returns-then-page_filled c =
    let filled = sym c.page_filled.ensures ∙ c.if-page_filled.true in
    c.after_records.ensures ∙ rw filled refl
