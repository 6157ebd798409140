-- `take_up::all_free` meets its contract.
use mathlib.Core.Path.{◌≡◌, refl, sym, ap, ◌∙◌}
use mathlib.Core.Bool.{Bool, true, false, ◌&&◌}
use mathlib.Core.List.{List}
use Prim.Native.Nat.{ℕ, ◌-◌}
use native.Mathlib.Omega.{arith}
use Rattle.model.specs.Pages.{page_of, link_of, free_page}
use Rattle.model.specs.TakeUp.{same_words, all_free}
use Rattle.chains.specs.Links.{linked_pages}
use Rattle.chains.proofs.Links.{next_page}
use Rattle.take_up.proofs.Words.{free_next, free_ends}
use Rattle.take_up.proofs.all_free.Goals as goal

pub loop-left-init : goal.loop-left-init
loop-left-init c = (c.requires, refl)

pub overflow_sub-l : goal.overflow_sub-l
overflow_sub-l c = let l = c.loop-left in omega (arith, (next_page c.args.pages.now c.loop-left-test.true l.invariant.0).linked)

pub load-w-requires : goal.load-w-requires
load-w-requires c = let l = c.loop-left in (next_page c.args.pages.now c.loop-left-test.true l.invariant.0).page.fits

pub returns-then-not-is_free : goal.returns-then-not-is_free
returns-then-not-is_free c =
    let l = c.loop-left in
    let ps = c.args.pages.now in
    let w = page_of ps (l.l - 1) in
    let free : same_words w (free_page (link_of w)) ≡ false
    = ap (λ (w : List ℕ). same_words w (free_page (link_of w))) (sym c.load-w.ensures) ∙ sym c.is_free.ensures ∙ c.if-not-is_free.true in
    sym (l.invariant.1 ∙ free_next ps l._left l.l c.loop-left-test.true
    ∙ ap (λ (t : Bool). t && all_free ps (linked_pages ps (l._left - 1) (link_of w))) free)

pub loop-left-preserved : goal.loop-left-preserved
loop-left-preserved c =
    let l = c.loop-left in
    let ps = c.args.pages.now in
    let w = page_of ps (l.l - 1) in
    let more = c.loop-left-test.true in
    let link : c.link_of-l.result ≡ link_of w = c.link_of-l.ensures ∙ ap link_of c.load-w.ensures in
    let free : same_words w (free_page (link_of w)) ≡ true
    = ap (λ (w : List ℕ). same_words w (free_page (link_of w))) (sym c.load-w.ensures) ∙ sym c.is_free.ensures ∙ c.if-not-is_free.false in (
      rw link (next_page ps more l.invariant.0).rest,
      l.invariant.1 ∙ free_next ps l._left l.l more ∙ (λ i. free i && all_free ps (linked_pages ps (l._left - 1) (sym link i))),
    )

pub returns : goal.returns
returns c =
    let l = c.loop-left in
    sym (l.invariant.1 ∙ free_ends c.args.pages.now l._left l.l c.loop-left-test.false)
