-- `waiting_row::count` meets its contract.
use Rattle.model.specs.Addresses.{chain_count}
use Rattle.waiting_row.proofs.count.Goals as goal

pub returns : goal.returns
unfolding chain_count
returns c = rw (c.span.ensures.0, c.from.ensures)
