-- What the loop of `merge_lists::last_link` keeps.
use Rattle.std.proofs.Common.{◌-◌}
use Rattle.model.specs.declared.Root.{Root}
use Rattle.model.specs.Chains.{list_from}
use Rattle.model.specs.FreeList.{given_back}
use Rattle.free_list.specs.Giving.{CanGive, listed}
use Rattle.merge_lists.proofs.Turns.{Ahead}
use Rattle.merge_lists.proofs.last_link.Given as goal

abbrev pub invariant-loop : goal.invariant-loop
invariant-loop l = (r : Root) → CanGive r l.pages l.first l.n → Ahead r l.pages (given_back l.pages l.initial.last (listed (list_from r l.pages l.first))).head l.last l.l (l.n - l.counter)
