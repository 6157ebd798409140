-- `write::onward` meets its contract: where nothing is owed the operation is done.
use mathlib.Core.Path.{◌≡◌, ◌∙◌}
use native.Mathlib.Omega.{arith}
use borrow.Author.Tests.{ne_eqb}
use Rattle.model.specs.Outcome.{View}
use Rattle.model.specs.Endings.{onward, finished}
use Rattle.records.specs.Work.{seen}
use Rattle.write.proofs.onward.Goals as goal

nothing_owed_ends : (v : View) → (v.party.owed ≡ 1 → ⊥) → (v.party.owed ≡ 2 → ⊥) → finished v ≡ onward v
unfolding onward
nothing_owed_ends v split merge = rw (ne_eqb v.party.owed 1 split, ne_eqb v.party.owed 2 merge)

pub returns-in_default : goal.returns-in_default
returns-in_default c = λ ls. c.finished.ensures ls ∙ nothing_owed_ends (seen c.args.work.now ls c.args.pages.now) (λ e. omega arith) (λ e. omega arith)
