-- `chains::count_pages` meets its contract. The loop's invariant: the link is sound, and the pages passed with the rest of
-- the list make the list.
use Rattle.std.proofs.Common.{◌≡◌, refl, sym, ◌∙◌, true, ◌+◌, ◌-◌, arith}
use native.Mathlib.Nat.{sub-zero}
use Rattle.model.specs.Pages.{page_of, link_of, page_sound}
use Rattle.model.specs.Chains.{list_from}
use Rattle.model.proofs.Laws.Tests.{sound_link_fits, sound_page_links}
use Rattle.chains.proofs.Walking.{words-sound-page, none_passed, walk_ends, walk_too_long, walk_unsound, walk_goes_on}
use Rattle.chains.proofs.count_pages.Goals as goal

pub loop-n-init : goal.loop-n-init
unfolding list_from
loop-n-init c = record {
  sound = c.requires.0;
  passed = rw sub-zero (none_passed _);
}

pub returns-then-l-eq0 : goal.returns-then-l-eq0
returns-then-l-eq0 c = let l = c.loop-n in sym (l.invariant.passed ∙ walk_ends _ _ l.n l.l _ c.if-l-eq0.true)

pub word-level-requires : goal.word-level-requires
word-level-requires c = (sound_link_fits _ _ _ c.if-l-eq0.false c.loop-n.invariant.sound c.requires.1, omega arith)

pub word-count-requires : goal.word-count-requires
word-count-requires c = (sound_link_fits _ _ _ c.if-l-eq0.false c.loop-n.invariant.sound c.requires.1, omega arith)

pub word-link-requires : goal.word-link-requires
word-link-requires c = (sound_link_fits _ _ _ c.if-l-eq0.false c.loop-n.invariant.sound c.requires.1, omega arith)

pub returns-then-not-words_sound : goal.returns-then-not-words_sound
returns-then-not-words_sound c =
    let l = c.loop-n in
    let bad = sym (words-sound-page _ _) ∙ rw (c.word-level.ensures, c.word-count.ensures, c.word-link.ensures) at (sym c.words_sound.ensures) ∙ c.if-not-words_sound.true in
    sym (l.invariant.passed ∙ walk_unsound _ _ l.n l.l _ c.if-l-eq0.false bad)

pub loop-n-preserved : goal.loop-n-preserved
unfolding link_of
loop-n-preserved c =
    let l = c.loop-n in
    let a = c.args in
    let w = page_of a.pages.now (l.l - 1) in
    let good : page_sound a.root w ≡ true = sym (words-sound-page _ _) ∙ rw (c.word-level.ensures, c.word-count.ensures, c.word-link.ensures) at (sym c.words_sound.ensures) ∙ c.if-not-words_sound.false in
    let fewer : a.root.overflow - l.n - 1 ≡ a.root.overflow - (l.n + 1) = omega arith in
    rw c.word-link.ensures record {
      sound = sound_page_links a.root w good;
      passed = l.invariant.passed ∙ walk_goes_on _ _ l.n l.l _ (omega arith) c.if-l-eq0.false good ∙ rw fewer refl;
    }

pub returns-else-not-words_sound : goal.returns-else-not-words_sound
returns-else-not-words_sound c =
    let l = c.loop-n in
    sym (l.invariant.passed ∙ walk_too_long _ _ l.n l.l _ (omega arith) c.if-l-eq0.false)
