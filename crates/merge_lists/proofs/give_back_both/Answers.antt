-- `merge_lists::give_back_both` meets its contract: the second list is given back to the head that the first leaves.
use mathlib.Core.Path.{◌≡◌, ap₂, ◌∙◌}
use mathlib.Core.List.{◌++◌}
use Prim.Native.Nat.{◌+◌}
use lib.ListN.{length, length-append}
use Rattle.model.specs.Chains.{list_from}
use Rattle.free_list.specs.Giving.{listed}
use Rattle.free_list.proofs.Giving.{listed-length, returned_all}
use Rattle.merge_lists.proofs.Turns.{both-given}
use Rattle.merge_lists.proofs.give_back_both.Goals as goal

pub returns : goal.returns
returns c =
    let a = c.args in
    let pre = c.requires in
    let xs = list_from a.root a.pages.now a.first in
    let ys = list_from a.root a.pages.now a.second in
    let count : length (listed xs ++ listed ys) ≡ a.n + a.m =
    length-append (listed xs) (listed ys) ∙ ap₂ ◌+◌ (listed-length xs a.n pre.one.walked) (listed-length ys a.m pre.walked) in
    let both = both-given a.pages.now a.root.head _ _ (listed xs) (listed ys) _ c.last_link-prev.ensures c.give_after-head.ensures in
    returned_all a.root c.with_free_list.result a.pages.now _ (listed xs ++ listed ys) _ (a.n + a.m) both count c.with_free_list.ensures
