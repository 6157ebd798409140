-- `old_pages::step_14` meets its contract: a link that names an overflow page is sound.
use mathlib.Core.Path.{sym, ◌∙◌}
use native.Mathlib.Omega.{arith}
use Rattle.model.proofs.Laws.Tests.{named_sound}
use Rattle.old_pages.proofs.step_14.Goals as goal

pub count_pages-requires : goal.count_pages-requires
count_pages-requires c =
    let w = c.args.work.now in
    (named_sound w.root w.party.old (sym c.names_overflow.ensures ∙ c.if-not-names_overflow.false), omega (arith, c.requires.pages_fit))
