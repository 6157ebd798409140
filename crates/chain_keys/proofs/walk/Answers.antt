-- `chain_keys::walk` meets its contract.
use mathlib.Core.Path.{refl, sym, ap, ◌∙◌}
use native.Mathlib.Omega.{arith}
use Rattle.chains.specs.Walks.{counted}
use Rattle.model.proofs.Laws.Tests.{sound_page_links}
use Rattle.chain_keys.proofs.Following.{unsound_damaged, sound_listed}
use Rattle.chain_keys.proofs.walk.Goals as goal

pub returns-then-not-page_sound : goal.returns-then-not-page_sound
returns-then-not-page_sound c =
    let bad = rw c.load-w.ensures at (sym c.page_sound.ensures ∙ c.if-not-page_sound.true) in
    ap counted (sym (unsound_damaged c.args.root c.args.pages.now c.args.chain.0 bad))

pub count_pages-requires : goal.count_pages-requires
count_pages-requires c =
    let good = sym c.page_sound.ensures ∙ c.if-not-page_sound.false in
    (rw c.link_of.ensures (sound_page_links c.args.root c.load-w.result good), omega arith)

pub returns : goal.returns
returns c =
    let good = rw c.load-w.ensures at (sym c.page_sound.ensures ∙ c.if-not-page_sound.false) in
    c.count_pages.ensures ∙ rw (c.link_of.ensures, c.load-w.ensures, sound_listed c.args.root c.args.pages.now c.args.chain.0 good) refl
