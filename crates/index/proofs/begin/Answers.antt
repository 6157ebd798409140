-- `index::begin` meets its contract: what `calls` begins is stored.
use borrow.Author.Rules.{rules}
use Rattle.index.proofs.begin.Goals as goal

pub returns : goal.returns
returns c =
    let a = c.args in
    c.in_ok-begun.ensures a.parties.now a.locks.now a.pages.now a.waiting.now (search rules) (λ h. search rules)
