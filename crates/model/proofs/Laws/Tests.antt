-- The tests of links and pages: what each means once it holds, and what makes it fail.
-- Main statements: named-within (where a link that names an overflow page points), sound_link_fits (its page stands in the memory);
-- sound_page_links, sound_page_counts, sound_page_levels (of a sound page).
use mathlib.Core.Path.{◌≡◌, refl, sym, ◌∙◌}
use mathlib.Core.Bool.{true, false, ◌&&◌}
use mathlib.Core.List.{List}
use Prim.Native.Nat.{ℕ, ◌+◌, ◌-◌, ◌*◌, ◌≤◌, ◌<◌}
use native.Mathlib.Omega.{arith}
use lib.Dec.{ltb, leb, eqb}
use Rattle.model.specs.declared.Root.{Root}
use Rattle.model.specs.Sizes.{page_words}
use Rattle.model.specs.Pages.{level_of, count_of, link_of, names_overflow, link_sound, page_sound, most_level}
use Rattle.model.proofs.Laws.Lists.{and_both, right_or, ltb-true, leb-true, lt-ltb, le-ltb, le-leb, lt-leb, eqb_same, eqb-diff}

-- ---- Links

module _ (r : Root) (l : ℕ) where
  pub low_unnamed : l ≤ r.primaries → names_overflow r l ≡ false
  unfolding names_overflow
  low_unnamed h = rw (le-ltb r.primaries l h) refl

  pub high_unnamed : r.primaries + r.overflow < l → names_overflow r l ≡ false
  unfolding names_overflow
  high_unnamed h = rw (lt-ltb r.primaries l (omega arith), lt-leb l (r.primaries + r.overflow) h) refl

  pub between_named : r.primaries < l → l ≤ r.primaries + r.overflow → names_overflow r l ≡ true
  unfolding names_overflow
  between_named h k = rw (lt-ltb r.primaries l h, le-leb l (r.primaries + r.overflow) k) refl

  pub named-within : names_overflow r l ≡ true → (r.primaries < l) × (l ≤ r.primaries + r.overflow)
  unfolding names_overflow
  named-within e =
      let h = and_both (ltb r.primaries l) (leb l (r.primaries + r.overflow)) e in
      (ltb-true _ _ h.0, leb-true _ _ h.1)

  pub zero_sound : l ≡ 0 → link_sound r l ≡ true
  unfolding link_sound
  zero_sound e = rw (eqb_same l 0 e) refl

  -- Of a link other than 0, whether it names an overflow page decides.
  pub naming_decides : (l ≡ 0 → ⊥) → link_sound r l ≡ names_overflow r l
  unfolding link_sound
  naming_decides h = rw (eqb-diff l 0 h) refl

  pub named_sound : names_overflow r l ≡ true → link_sound r l ≡ true
  unfolding link_sound
  named_sound e = right_or (eqb l 0) e

  pub sound_named : (l ≡ 0 → ⊥) → link_sound r l ≡ true → names_overflow r l ≡ true
  sound_named h e = sym (naming_decides h) ∙ e

  -- The page that a sound link names stands in a memory that has all overflow pages.
  pub sound_link_fits : (n : ℕ) → (l ≡ 0 → ⊥) → link_sound r l ≡ true → page_words * (r.primaries + r.overflow) ≤ n → (l - 1) * page_words + page_words ≤ n
  sound_link_fits n h e fits = let named = named-within (sound_named h e) in omega arith

-- ---- Pages

module _ (r : Root) (w : List ℕ) where
  pub sound_page_links : page_sound r w ≡ true → link_sound r (link_of w) ≡ true
  unfolding page_sound
  sound_page_links e = (and_both (leb (count_of w) r.capacity && leb (level_of w) most_level) (link_sound r (link_of w)) e).1

  sound_page_tests : page_sound r w ≡ true → (leb (count_of w) r.capacity ≡ true) × (leb (level_of w) most_level ≡ true)
  unfolding page_sound
  sound_page_tests e =
      let both = leb (count_of w) r.capacity && leb (level_of w) most_level in
      and_both (leb (count_of w) r.capacity) (leb (level_of w) most_level) (and_both both (link_sound r (link_of w)) e).0

  pub sound_page_counts : page_sound r w ≡ true → count_of w ≤ r.capacity
  sound_page_counts e = leb-true _ _ (sound_page_tests e).0

  pub sound_page_levels : page_sound r w ≡ true → level_of w ≤ most_level
  sound_page_levels e = leb-true _ _ (sound_page_tests e).1
