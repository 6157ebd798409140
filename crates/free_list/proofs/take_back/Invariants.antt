-- What the loop of `free_list::take_back` keeps.
use Rattle.std.proofs.Common.{◌-◌}
use Rattle.model.specs.Chains.{list_from}
use Rattle.free_list.specs.Giving.{listed}
use Rattle.free_list.proofs.TakingBack.{laid, ToLay}
use Rattle.free_list.proofs.take_back.Given as goal

abbrev pub invariant-loop : goal.invariant-loop
invariant-loop l =
    ToLay l.root (laid l.initial.pages l.root.head (listed (list_from l.root l.initial.pages l.first))) l.pages l.root.head l.l (l.n - l.counter)
