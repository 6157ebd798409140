-- `filling::fill_pages` meets its contract.
use mathlib.Core.Path.{◌≡◌, sym, ap, ◌∙◌}
use Prim.Native.Nat.{ℕ, ◌+◌}
use lib.ListN.{get_or, take, drop}
use Rattle.model.specs.Pages.{records_in, with_page, filled_page, link_to_first}
use Rattle.model.specs.Filling.{filled}
use Rattle.filling.proofs.Fills.{share_front, share_rest, page_filled_ok, all_filled}
use Rattle.filling.proofs.fill_pages.Goals as goal

pub loop-i-preserved : goal.loop-i-preserved
loop-i-preserved c =
    let l = c.loop-i in
    let a = c.args in
    let xs = a.taken.now in
    let ws = l.rest.now in
    let es = records_in ws in
    let split = c.split_at.ensures in
    let own : records_in c.split_at.result.0.now ≡ take a.b es
    = ap records_in (split.front ∙ ap (λ (k : ℕ). take k ws) c.share.ensures) ∙ share_front a.b ws in
    let others : records_in c.split_at.result.1.now ≡ drop a.b es
    = ap records_in (split.back ∙ ap (λ (k : ℕ). drop k ws) c.share.ensures) ∙ share_rest a.b ws in
    let rest = drop (l.i + 1) xs in
    let page : c.page_words-w.result ≡ filled_page 0 (take a.b es) (link_to_first rest)
    = c.page_words-w.ensures ∙ (λ i. filled_page 0 (own i) (c.link_to.ensures i)) in
    let now : c.store.new.pages ≡ with_page l.pages (get_or xs l.i 0) (filled_page 0 (take a.b es) (link_to_first rest))
    = c.store.ensures ∙ ap (with_page l.pages (get_or xs l.i 0)) page in
    l.invariant ∙ page_filled_ok a.b l.pages xs l.i es c.loop-i-test.true ∙ (λ i. filled a.b (sym now i) rest (sym others i))

pub returns : goal.returns
returns c =
    let l = c.loop-i in
    let a = c.args in
    sym (l.invariant ∙ all_filled a.b l.pages a.taken.now l.i (records_in l.rest.now) c.loop-i-test.false)
