-- `waiting_row::hinders` meets its contract.
use mathlib.Core.Path.{refl}
use Rattle.waiting_row.specs.Requested.{hindered_by}
use Rattle.waiting_row.proofs.hinders.Goals as goal

pub returns-in-Some : goal.returns-in-Some
unfolding hindered_by
returns-in-Some c = rw (c.in-Some.is, c.entry.ensures) refl

pub returns-in-None : goal.returns-in-None
unfolding hindered_by
returns-in-None c = rw c.in-None.is refl
