-- `calls::past` meets its contract.
use mathlib.Core.Path.{sym, ◌∙◌}
use Rattle.refusals.proofs.Accepted.{past_row_refused}
use Rattle.calls.proofs.Calling.{begin_past, step_past, withdraw_past}
use Rattle.calls.proofs.past.Goals as goal

pub returns-in-Err-clause-begins : goal.returns-in-Err-clause-begins
returns-in-Err-clause-begins c = λ row ls ps ws o k fit over.
    begin_past c.args.root row ls ps ws c.args.lengths (sym fit) c.args.q (sym c.place_cause.ensures ∙ c.in-Err.is) o k

pub returns-in-Err-clause-steps : goal.returns-in-Err-clause-steps
returns-in-Err-clause-steps c = λ row ls ps ws fit over.
    step_past c.args.root row ls ps ws c.args.lengths (sym fit) c.args.q (sym c.place_cause.ensures ∙ c.in-Err.is)

pub returns-in-Err-clause-withdraws : goal.returns-in-Err-clause-withdraws
returns-in-Err-clause-withdraws c = λ row ls ps ws fit over.
    withdraw_past c.args.root row ls ps ws c.args.lengths (sym fit) c.args.q (sym c.place_cause.ensures ∙ c.in-Err.is)

pub returns-in-Ok-clause-begins : goal.returns-in-Ok-clause-begins
returns-in-Ok-clause-begins c = λ row ls ps ws o k fit over. absurd (past_row_refused c.args.root c.args.lengths c.args.q over (sym c.place_cause.ensures ∙ c.in-Ok.is))

pub returns-in-Ok-clause-steps : goal.returns-in-Ok-clause-steps
returns-in-Ok-clause-steps c = λ row ls ps ws fit over. absurd (past_row_refused c.args.root c.args.lengths c.args.q over (sym c.place_cause.ensures ∙ c.in-Ok.is))

pub returns-in-Ok-clause-withdraws : goal.returns-in-Ok-clause-withdraws
returns-in-Ok-clause-withdraws c = λ row ls ps ws fit over. absurd (past_row_refused c.args.root c.args.lengths c.args.q over (sym c.place_cause.ensures ∙ c.in-Ok.is))
