-- `pages::load` meets its contract: the part that starts at word 16 p and has sixteen words is page p.
use Rattle.std.proofs.Common.{◌≡◌, ◌+◌, ◌-◌, ◌∙◌, arith}
use Rattle.model.specs.Sizes.{page_words}
use Rattle.model.specs.Pages.{page_of}
use Rattle.pages.proofs.load.Goals as goal

pub returns : goal.returns
unfolding page_of
returns c =
    let start = c.first_word-start in
    let sixteen : start.result + page_words - start.result ≡ page_words = omega arith in
    let whole = rw c.unwrap.ensures at c.try_into.ensures.1 in
    rw (← start.ensures) (whole.same ∙ rw sixteen)
