-- `split_write::step_18` meets its contract: the scratch page of memory at hand is there.
use Rattle.endings.proofs.Scratching.{ready_has_scratch}
use Rattle.model.specs.Steps.SplitWrite.{step18}
use Rattle.split_write.proofs.step_18.Goals as goal

pub primary_written-requires : goal.primary_written-requires
primary_written-requires c = (ready_has_scratch _ c.requires, c.requires.chain_fits)

pub returns : goal.returns
unfolding step18
returns c = c.primary_written.ensures c.args.locks.now
