-- `bead::bead_begin` meets its contract: a begin by its number, or no operation's number.
use mathlib.Core.Path.{sym, ◌∙◌}
use Rattle.bead.proofs.Begun.{begun_by_number, no_operation}
use Rattle.bead.proofs.bead_begin.Goals as goal

pub returns-in_default : goal.returns-in_default
returns-in_default c = no_operation _ _ _ _ _ (sym c.operation_of.ensures ∙ c.in_default.is)

pub returns : goal.returns
returns c = begun_by_number _ _ _ _ _ (sym c.operation_of.ensures ∙ c.in-Some.is) c.refusal_number.ensures c.begin.ensures
