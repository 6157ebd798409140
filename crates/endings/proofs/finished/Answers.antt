-- `endings::finished` meets its contract.
use Rattle.model.specs.Endings.{finished}
use Rattle.endings.proofs.finished.Goals as goal

pub returns : goal.returns
unfolding finished
returns c = λ ls. rw (c.answer_of-answer.ensures, c.restructuring_of-made.ensures) at (c.done.ensures c.args.work.now.party ls)
