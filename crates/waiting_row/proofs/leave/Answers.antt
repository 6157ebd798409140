-- `waiting_row::leave` meets its contract.
use Rattle.std.proofs.Common.{◌+◌, ◌∙◌, sym}
use Rattle.waiting_row.proofs.Words.{found, not_found, part_turned, without_at, without_none}
use Rattle.waiting_row.proofs.leave.Goals as goal

pub returns-in-Some : goal.returns-in-Some
returns-in-Some c =
    let row = c.args.row.now in
    let at = found (c.args.q + 1) row c.in-Some.at (sym (rw c.from.ensures at c.first.ensures) ∙ c.in-Some.is) in
    let h = rw (← at.0) at at.1 in
    part_turned row _ c.in-Some.at h c.rotate_left.ensures.after ∙ rw at.0 (without_at c.args.q row at.1)

pub returns-in_default : goal.returns-in_default
returns-in_default c =
    let row = c.args.row.now in
    without_none c.args.q row (not_found (c.args.q + 1) row (sym (rw c.from.ensures at c.first.ensures) ∙ c.in_default.is))
