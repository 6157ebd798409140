-- `split_locks::root_left` meets its contract: 13 where there are old pages.
use borrow.Author.Tests.{ne_eqb}
use Rattle.model.specs.Endings.{old_pages_first}
use Rattle.split_locks.proofs.root_left.Goals as goal

pub returns : goal.returns
unfolding old_pages_first
returns c = λ ls. rw (ne_eqb c.args.work.now.party.old 0 c.if-work-eq0.false)
