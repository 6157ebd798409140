-- `find::step_09` meets its contract: the key is on the scratch page, or the link leads on.
use mathlib.Core.Path.{◌≡◌, sym, ap, ◌∙◌}
use mathlib.Core.Bool.{true, false}
use borrow.Author.Tests.{eq-eqb}
use mathlib.Core.List.{List}
use mathlib.Core.Option.{some}
use Prim.Native.Nat.{ℕ, ◌+◌, ◌*◌}
use native.Mathlib.Omega.{arith}
use lib.ListN.{get_or}
use Rattle.model.specs.declared.OperationAnswer.TheVariants as OperationAnswer
use Rattle.model.specs.Sizes.{record_words}
use Rattle.model.specs.Answers.{found_or_absent}
use Rattle.model.specs.Entries.{has_key, setting_in}
use Rattle.model.specs.Pages.{page_of, link_of, entries_of, scratch_page, page_sound}
use Rattle.model.specs.Outcome.{View}
use Rattle.model.specs.Steps.Find.{answered, step09}
use Rattle.records.specs.Work.{seen}
use Rattle.model.proofs.Laws.Tests.{sound_named, sound_page_links, sound_page_counts}
use Rattle.endings.proofs.Scratching.{ready_has_scratch}
use Rattle.find.proofs.step_09.Goals as goal

key_found : (v : View) {s : List ℕ} {x : ℕ} → s ≡ page_of v.pages (scratch_page v.root v.number) → page_sound v.root s ≡ true → has_key v.party.key (entries_of s) ≡ true
    → setting_in v.party.key (entries_of s) ≡ some x → answered v (OperationAnswer.Found x) ≡ step09 v
unfolding step09 found_or_absent
key_found v page sound there setting = rw (← page, sound, there, setting)

no_link_absent : (v : View) {s : List ℕ} → s ≡ page_of v.pages (scratch_page v.root v.number) → page_sound v.root s ≡ true → has_key v.party.key (entries_of s) ≡ false → link_of s ≡ 0
    → answered v OperationAnswer.Absent ≡ step09 v
unfolding step09
no_link_absent v {s} page sound missing last = rw (← page, sound, missing, eq-eqb (link_of s) 0 last)

pub place_of-requires : goal.place_of-requires
place_of-requires c =
    let counted = sound_page_counts c.args.work.now.root c.load-s.result (sym c.page_sound.ensures ∙ c.if-not-page_sound.false) in
    omega (arith, c.requires.keys_fit)

pub returns-in-Some : goal.returns-in-Some
returns-in-Some c =
    let a = c.args in
    let page = c.load-s.ensures ∙ ap (page_of a.pages.now) c.scratch_page-scratch.ensures in
    let stands = c.in-Some.ensures in
    let setting = stands.setting ∙ ap some (ap (λ (w : List ℕ). get_or w (3 + c.in-Some.place * record_words + 1) 0) c.load-s.ensures ∙ sym c.setting_at-setting.ensures) in
    c.answered.ensures ∙ key_found (seen a.work.now a.locks.now a.pages.now) page (sym c.page_sound.ensures ∙ c.if-not-page_sound.false) stands.has_key_ok setting

pub returns-then-link-eq0 : goal.returns-then-link-eq0
returns-then-link-eq0 c =
    let a = c.args in
    let page = c.load-s.ensures ∙ ap (page_of a.pages.now) c.scratch_page-scratch.ensures in
    let last = sym c.link_of-link.ensures ∙ c.if-link-eq0.true in
    c.answered-then-link-eq0.ensures ∙ no_link_absent (seen a.work.now a.locks.now a.pages.now) page (sym c.page_sound.ensures ∙ c.if-not-page_sound.false) c.in_default.ensures last

pub looked_on-requires : goal.looked_on-requires
looked_on-requires c =
    let a = c.args in
    let r = a.work.now.root in
    let s = c.load-s.result in
    let page = c.load-s.ensures ∙ ap (page_of a.pages.now) c.scratch_page-scratch.ensures in
    let sound : page_sound r s ≡ true = sym c.page_sound.ensures ∙ c.if-not-page_sound.false in
    let more : link_of s ≡ 0 → ⊥ = λ e. c.if-link-eq0.false (c.link_of-link.ensures ∙ e) in
    record {
      scratch = ready_has_scratch _ c.requires;
      overflow_fits = omega (arith, c.requires.pages_fit);
      link_is = c.link_of-link.ensures ∙ ap link_of page;
      named = rw c.link_of-link.ensures (sound_named r (link_of s) more (sound_page_links r s sound));
    }
