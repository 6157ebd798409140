-- `waiting_row::join` meets its contract.
use Rattle.std.proofs.Common.{◌+◌, ◌∙◌, sym}
use Rattle.waiting_row.proofs.Words.{found, not_found, appended_at, appended-none}
use Rattle.waiting_row.proofs.join.Goals as goal

pub returns-in-Some : goal.returns-in-Some
returns-in-Some c =
    let row = c.args.row.now in
    let at = found 0 row c.in-Some.free (sym c.first.ensures ∙ c.in-Some.is) in
    rw at.0 (appended_at (c.args.q + 1) row at.1)

pub returns-in_default : goal.returns-in_default
returns-in_default c =
    let row = c.args.row.now in
    appended-none (c.args.q + 1) row (not_found 0 row (sym c.first.ensures ∙ c.in_default.is))
