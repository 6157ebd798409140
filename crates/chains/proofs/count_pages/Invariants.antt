-- What the loop of `chains::count_pages` keeps.
use Rattle.std.proofs.Common.{◌≡◌, true, ◌-◌}
use Rattle.model.specs.Pages.{link_sound}
use Rattle.model.specs.Chains.{overflow_from, list_from}
use Rattle.chains.specs.Walks.{counted}
use Rattle.chains.proofs.Walking.{counted_after}
use Rattle.chains.proofs.count_pages.Given as goal

abbrev pub invariant-loop-n : goal.invariant-loop-n
invariant-loop-n l = record {
  sound : link_sound l.root l.l ≡ true;
  passed : counted (list_from l.root l.pages l.first) ≡ counted_after l.n (overflow_from l.root l.pages (l.root.overflow - l.n) l.l);
}
