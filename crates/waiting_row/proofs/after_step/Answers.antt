-- `waiting_row::after_step` meets its contract: who joins has a party's number.
use mathlib.Core.Bool.{not}
use lib.Dec.{ltb}
use Rattle.model.proofs.Laws.Lists.{ltb-true, and_both}
use Rattle.waiting_row.proofs.after_step.Goals as goal

pub join-requires : goal.join-requires
join-requires c = ltb-true c.args.q 16 (and_both (not c.args.waits) (ltb c.args.q 16) c.if-waits-q.true).1
