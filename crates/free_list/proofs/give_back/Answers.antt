-- `free_list::give_back` meets its contract. The loop's invariant: what is still to be given back leaves what the whole list
-- leaves.
use Rattle.std.proofs.Common.{◌∙◌, ◌-◌, refl, ap, List, ℕ, arith}
use native.Mathlib.Nat.{sub-zero}
use Rattle.model.specs.Pages.{with_page, link_of}
use Rattle.model.specs.Chains.{list_from}
use Rattle.free_list.specs.Giving.{listed}
use Rattle.free_list.proofs.Giving.{all_to_give, next_given, one_given, all_given, listed-length, returned_all}
use Rattle.free_list.proofs.give_back.Goals as goal

pub loop-init : goal.loop-init
loop-init c = let a = c.args in rw sub-zero (all_to_give a.root a.pages.now a.root.head a.first a.n c.requires.links c.requires.walked)

pub overflow_sub-p : goal.overflow_sub-p
overflow_sub-p c = let w = next_given c.loop.invariant (omega arith) in omega arith

pub word-next-requires : goal.word-next-requires
word-next-requires c = let w = next_given c.loop.invariant (omega arith) in (omega arith, omega arith)

pub store-requires : goal.store-requires
store-requires c = let w = next_given c.loop.invariant (omega arith) in omega arith

pub loop-preserved : goal.loop-preserved
unfolding link_of
loop-preserved c =
    let l = c.loop in
    let freed = c.store.ensures ∙ ap (λ (w : List ℕ). with_page l.pages (l.l - 1) w) c.free_page.ensures in
    one_given c.args.root _ l.pages l.head l.l (c.args.n - l.counter) (omega arith) (omega arith) l.invariant freed refl c.word-next.ensures (omega arith)

pub returns : goal.returns
returns c =
    let a = c.args in
    let l = c.loop in
    let xs = list_from a.root a.pages.now a.first in
    let done = all_given a.root _ l.pages l.head l.l (a.n - l.counter) (omega arith) l.invariant in
    returned_all a.root _ a.pages.now l.pages (listed xs) l.head a.n done (listed-length xs a.n c.requires.walked) c.with_free_list.ensures
