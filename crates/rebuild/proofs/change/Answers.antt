-- `rebuild::change` meets its contract: the walk decides which way.
use Rattle.records.specs.Work.{seen}
use Rattle.chain_keys.proofs.WholeChain.{unwalked_damaged}
use Rattle.chain_change.proofs.Changes.{chain_refused}
use Rattle.rebuild.proofs.change.Goals as goal

pub returns-in_err-n : goal.returns-in_err-n
returns-in_err-n c = λ ls.
    let a = c.args in
    chain_refused (seen a.work.now ls a.pages.now) _ c.from_residual.ensures.0 (unwalked_damaged a.work.now.root a.pages.now a.work.now.party.chain c.in_err-n.ensures)
