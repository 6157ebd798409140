-- `merge_write::step_29` meets its contract: the old link and the partner's page are sound, or it is refused.
use mathlib.Core.Path.{◌≡◌, sym, ◌∙◌}
use mathlib.Core.Bool.{true}
use native.Mathlib.Omega.{arith}
use Rattle.model.specs.Pages.{link_sound, page_sound}
use Rattle.model.proofs.Laws.Tests.{sound_page_links}
use Rattle.merge_write.specs.Clearing.{CanClear}
use Rattle.merge_write.proofs.step_29.Goals as goal

pub lists_walked-requires : goal.lists_walked-requires
lists_walked-requires c =
    let w = c.args.work.now in
    let ready = c.requires in
    let old : link_sound w.root w.party.old ≡ true = sym c.link_sound.ensures ∙ c.if-not-link_sound.false in
    let page : page_sound w.root c.load-partner.result ≡ true = sym c.page_sound.ensures ∙ c.if-not-page_sound.false in
    let can : CanClear w.root w.party c.args.pages.now = record {
      chains_fit_ok = ready.chains_fit_ok;
      overflow_fits = ready.overflow_fits;
      free_fits = ready.free_fits;
      pages_fit = omega (arith, ready.pages_fit);
      partner_fits = ready.other_fits;
      links = old;
    } in
    (can, rw c.link_of.ensures (sound_page_links w.root c.load-partner.result page))
