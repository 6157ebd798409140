-- `rebuild::step_10` meets its contract: what it writes of the records is what after_change says.
use Rattle.model.specs.Pages.{link_of}
use Rattle.records.proofs.Told.{told}
use Rattle.chain_change.specs.Changing.{after_change}
use Rattle.rebuild.proofs.step_10.Goals as goal

pub returns-in_err-answer : goal.returns-in_err-answer
unfolding after_change
returns-in_err-answer c = rw (told _ c.from_residual.ensures) (c.in_err-answer.ensures c.args.locks.now)

pub returns-in-Kept : goal.returns-in-Kept
unfolding after_change
returns-in-Kept c =
    let e = rw c.in-Kept.is at (c.in_ok-answer.ensures c.args.locks.now) in
    rw c.keep.ensures e

pub returns-in-Written : goal.returns-in-Written
unfolding after_change link_of
returns-in-Written c =
    let e = rw c.in-Written.is at (c.in_ok-answer.ensures c.args.locks.now) in
    rw (c.take_off.ensures, c.note.ensures, c.word-link.ensures) e
