-- `take_up::pages_saved` meets its contract.
use mathlib.Core.Path.{◌≡◌, sym, ap, ◌∙◌}
use Prim.Native.Nat.{◌-◌}
use Rattle.model.specs.Pages.{page_of, link_of}
use Rattle.chains.proofs.Links.{next_page}
use Rattle.take_up.proofs.Records.{page_listed, page_unlisted, none-listed, primary_seen, primary_unseen}
use Rattle.take_up.proofs.pages_saved.Goals as goal

pub returns-in_default : goal.returns-in_default
returns-in_default c =
    let a = c.args in
    sym (primary_unseen a.root a.home a.n a.pages.now c.load-first.result _ c.load-first.ensures c.fewest_on-fewest.ensures (sym c.in_default.ensures))

pub loop-left-preserved : goal.loop-left-preserved
loop-left-preserved c =
    let l = c.loop-left in
    let a = c.args in
    let ps = a.pages.now in
    let more = c.loop-left-test.true in
    let link : c.link_of-l-in-loop-left.result ≡ link_of (page_of ps (l.l - 1)) = c.link_of-l-in-loop-left.ensures ∙ ap link_of c.load-w.ensures in
    let listed = page_listed a.home a.root.capacity l.least ps l.left l.l more c.load-w.result _ c.load-w.ensures c.fewest_on.ensures in (
      rw link (next_page ps more l.invariant.0).rest,
      l.invariant.1 ∙ listed c.link_of-l-in-loop-left.ensures (sym c.in-Some-after_page.ensures),
    )

pub returns-in_default-after_page : goal.returns-in_default-after_page
returns-in_default-after_page c =
    let l = c.loop-left in
    let a = c.args in
    let ps = a.pages.now in
    let first = primary_seen a.root a.home a.n ps c.load-first.result _ c.load-first.ensures c.fewest_on-fewest.ensures c.link_of-l.ensures (sym c.in-Some.ensures) in
    let stops = page_unlisted a.home a.root.capacity l.least ps l.left l.l c.loop-left-test.true c.load-w.result _ c.load-w.ensures c.fewest_on.ensures (sym c.in_default-after_page.ensures) in
    sym (first ∙ l.invariant.1 ∙ stops)

pub returns : goal.returns
returns c =
    let l = c.loop-left in
    let a = c.args in
    let ps = a.pages.now in
    let first = primary_seen a.root a.home a.n ps c.load-first.result _ c.load-first.ensures c.fewest_on-fewest.ensures c.link_of-l.ensures (sym c.in-Some.ensures) in
    sym (first ∙ l.invariant.1 ∙ none-listed a.home a.root.capacity l.least ps l.left l.l c.loop-left-test.false)
