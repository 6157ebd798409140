-- `filling::write_chain` meets its contract.
use mathlib.Core.Path.{◌≡◌, ap, ◌∙◌}
use Prim.Native.Nat.{ℕ, ◌*◌}
use lib.ListN.{take, drop}
use Rattle.model.specs.Sizes.{record_words}
use Rattle.model.specs.Pages.{records_in, with_page, filled_page}
use Rattle.model.specs.Filling.{filled, primary_of, overflow_written}
use Rattle.model.proofs.Laws.RecordWords.{records_take}
use Rattle.filling.proofs.Fills.{share_front, share_rest}
use Rattle.filling.proofs.write_chain.Goals as goal

pub returns : goal.returns
unfolding primary_of overflow_written
returns c =
    let a = c.args in
    let es = take a.m (records_in a.words.now) in
    let ws = take (a.m * record_words) a.words.now in
    let read : records_in ws ≡ es = records_take a.m a.words.now in
    let split = c.split_at.ensures in
    let own : records_in c.split_at.result.0.now ≡ take a.b es
    = ap records_in (split.front ∙ ap (λ (k : ℕ). take k ws) c.share.ensures) ∙ share_front a.b ws ∙ ap (take a.b) read in
    let others : records_in c.split_at.result.1.now ≡ drop a.b es
    = ap records_in (split.back ∙ ap (λ (k : ℕ). drop k ws) c.share.ensures) ∙ share_rest a.b ws ∙ ap (drop a.b) read in
    let page : c.page_words-w.result ≡ primary_of a.b a.level es a.taken.now
    = c.page_words-w.ensures ∙ (λ i. filled_page a.level (own i) (c.link_to.ensures i)) in
    let pages : c.fill_pages.new.pages ≡ overflow_written a.b a.pages.now a.taken.now es
    = c.fill_pages.ensures ∙ ap (filled a.b a.pages.now a.taken.now) others in
    c.store.ensures ∙ (λ i. with_page (pages i) a.page.0 (page i))
