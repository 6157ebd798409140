-- What the loop of `free_list::give_back` keeps.
use Rattle.std.proofs.Common.{◌-◌}
use Rattle.model.specs.Chains.{list_from}
use Rattle.model.specs.FreeList.{given_back}
use Rattle.free_list.specs.Giving.{listed}
use Rattle.free_list.proofs.Giving.{ToGive}
use Rattle.free_list.proofs.give_back.Given as goal

abbrev pub invariant-loop : goal.invariant-loop
invariant-loop l =
    ToGive l.root (given_back l.initial.pages l.root.head (listed (list_from l.root l.initial.pages l.first))) l.pages l.head l.l (l.n - l.counter)
