-- `free_list::take_back` meets its contract. The loop's invariant: laying what is left before the free list leaves what laying
-- the whole list leaves.
use Rattle.std.proofs.Common.{◌∙◌, ◌-◌, ap, List, ℕ, reverse, arith}
use native.Mathlib.Nat.{sub-zero}
use lib.ListN.{length-reverse}
use Rattle.model.specs.Pages.{with_page, link_of, free_page}
use Rattle.model.specs.Chains.{list_from}
use Rattle.free_list.specs.Giving.{listed, link_or}
use Rattle.free_list.proofs.Giving.{listed-length, returned_all}
use Rattle.free_list.proofs.TakingBack.{all_to_lay, next_laid, one_laid, all_laid}
use Rattle.free_list.proofs.take_back.Goals as goal

pub loop-init : goal.loop-init
loop-init c = let a = c.args in rw sub-zero (all_to_lay a.root a.pages.now a.root.head a.first a.n c.requires.links c.requires.walked)

pub overflow_sub-p : goal.overflow_sub-p
overflow_sub-p c = let w = next_laid c.loop.invariant (omega arith) in omega arith

pub word-l-requires : goal.word-l-requires
word-l-requires c = let w = next_laid c.loop.invariant (omega arith) in (omega arith, omega arith)

pub store-requires : goal.store-requires
store-requires c = let w = next_laid c.loop.invariant (omega arith) in omega arith

pub loop-preserved : goal.loop-preserved
unfolding link_of
loop-preserved c =
    let l = c.loop in
    let freed = c.store.ensures ∙ ap (λ (w : List ℕ). with_page l.pages (l.l - 1) w) (c.free_page.ensures ∙ ap free_page c.link_or.ensures) in
    one_laid c.args.root _ l.pages c.args.root.head l.l (c.args.n - l.counter) (omega arith) (omega arith) l.invariant c.word-l.ensures freed (omega arith)

pub returns : goal.returns
returns c =
    let a = c.args in
    let l = c.loop in
    let xs = listed (list_from a.root a.pages.now a.first) in
    let done = all_laid a.root a.pages.now l.pages a.root.head a.first a.n c.requires.links c.requires.walked c.requires.fits {left = a.n - l.counter} (omega arith) l.invariant in
    let count = length-reverse xs ∙ listed-length (list_from a.root a.pages.now a.first) a.n c.requires.walked in
    returned_all a.root _ a.pages.now l.pages (reverse xs) (link_or a.first a.root.head) a.n done count (rw c.link_or-2.ensures at c.with_free_list.ensures)
