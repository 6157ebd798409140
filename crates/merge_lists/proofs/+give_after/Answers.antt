-- `merge_lists::give_after` meets its contract, by recursion over the pages of the second list.
use mathlib.Core.Path.{ap, ◌∙◌}
use native.Mathlib.Omega.{arith}
use Rattle.model.specs.Pages.{link_of}
use Rattle.free_list.specs.Giving.{Returned}
use Rattle.merge_lists.specs.TwoLists.{leaving}
use Rattle.merge_lists.proofs.Turns.{no_more_given, second_next, rest_can_be_given, one_more_given}
use Rattle.merge_lists.proofs.+give_after.Goals as goal

pub returns-then-m-eq0 : goal.returns-then-m-eq0
returns-then-m-eq0 t c =
    let a = c.args in
    ap (λ (x : Returned). leaving x.pages a.prev) c.give_back.ensures
    ∙ no_more_given a.root a.pages.now a.first a.n a.l a.m c.requires _ a.prev c.if-m-eq0.true

pub word-next-requires : goal.word-next-requires
word-next-requires t c =
    let a = c.args in
    let page = second_next a.root a.pages.now a.first a.n a.l a.m c.requires c.if-m-eq0.false in
    (omega (arith, page.above, page.below, c.requires.one.fits), omega arith)

pub give_after-last-requires : goal.give_after-last-requires
unfolding link_of
give_after-last-requires t c =
    let a = c.args in
    (omega arith, rest_can_be_given a.root a.pages.now a.first a.n a.l a.m c.requires c.if-m-eq0.false c.word-next.ensures)

pub overflow_sub-l-2 : goal.overflow_sub-l-2
overflow_sub-l-2 t c =
    let a = c.args in
    omega (arith, (second_next a.root a.pages.now a.first a.n a.l a.m c.requires c.if-m-eq0.false).above)

pub overflow_sub-l : goal.overflow_sub-l
overflow_sub-l t c =
    let a = c.args in
    omega (arith, (second_next a.root a.pages.now a.first a.n a.l a.m c.requires c.if-m-eq0.false).above)

pub store-requires : goal.store-requires
store-requires t c =
    let a = c.args in
    let page = second_next a.root a.pages.now a.first a.n a.l a.m c.requires c.if-m-eq0.false in
    omega (arith, page.above, page.below, c.requires.one.fits, c.give_after-last.auto.pages)

pub returns : goal.returns
unfolding link_of
returns t c =
    let a = c.args in
    one_more_given a.root a.pages.now a.first a.n a.l a.m c.requires c.if-m-eq0.false a.prev _ _ _
    c.word-next.ensures
    c.free_page.ensures
    c.give_after-last.ensures
    c.store.ensures
