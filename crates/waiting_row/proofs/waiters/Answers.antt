-- `waiting_row::waiters` meets its contract.
use Rattle.waiting_row.proofs.Words.{waiters_are}
use Rattle.waiting_row.proofs.waiters.Goals as goal

pub returns : goal.returns
returns c = rw (c.unwrap_or.ensures, c.first.ensures) (waiters_are c.args.row.now)
