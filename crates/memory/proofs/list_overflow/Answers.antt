-- `memory::list_overflow` meets its contract.
use Rattle.std.proofs.Common.{◌≡◌, ◌-◌, ◌∙◌, List, ℕ, refl, ap, length, arith}
use Rattle.std.proofs.lemmas.List.{length-replicate}
use Rattle.model.specs.Sizes.{all_page_words}
use Rattle.model.specs.Pages.{with_page}
use Rattle.memory.proofs.Listing.{none-listed, one_listed, all_listed}
use Rattle.memory.proofs.list_overflow.Goals as goal

pub loop-x-init : goal.loop-x-init
loop-x-init c = none-listed c.args.root c.args.pages.now c.requires.1

pub store-requires : goal.store-requires
store-requires c =
    let l = c.loop-x in
    let long : length l.pages ≡ all_page_words c.args.root = l.auto.pages ∙ ap length c.requires.1 ∙ length-replicate (all_page_words c.args.root) 0 in
    omega (arith, l.invariant.high)

pub loop-x-preserved : goal.loop-x-preserved
loop-x-preserved c =
    let l = c.loop-x in
    let written = c.store.ensures ∙ ap (λ (w : List ℕ). with_page l.pages (l.x - 1) w) c.free_page.ensures in
    one_listed c.args.root l.pages l.link l.x l.invariant c.loop-x-test.true written refl

pub returns : goal.returns
returns c =
    let l = c.loop-x in
    all_listed c.args.root l.pages l.link l.x l.invariant c.loop-x-test.false
