-- `merge_write::step_27` meets its contract: root is held, and level and next are moved back.
use mathlib.Core.Path.{sym, ◌∙◌}
use Rattle.model.specs.LockRequests.{is_held}
use Rattle.model.specs.Steps.MergeWrite.{root_moved_back, step27}
use Rattle.merge_write.proofs.step_27.Goals as goal

pub returns : goal.returns
unfolding step27 root_moved_back is_held
returns c = rw (sym c.merge_barred.ensures ∙ c.if-merge_barred.false, sym c.holds.ensures ∙ c.if-not-holds.false, c.turned_selective.ensures, c.merge_level-work.ensures)
