-- A list walked page by page, over the model's overflow_from.
-- Main statements: words-sound-page (the test of a page's three words is the test of the page); walk_ends, walk_too_long,
-- walk_unsound, walk_goes_on (what the count is at each turn).
use mathlib.Core.Path.{◌≡◌, refl, ap, ◌∙◌}
use mathlib.Core.Bool.{true, false}
use mathlib.Core.List.{List, ◌∷◌}
use Prim.Native.Nat.{ℕ, zero, suc, ◌+◌, ◌-◌, ◌<◌}
use native.Mathlib.Omega.{arith}
use lib.ListN.{length, get_or}
use borrow.Author.Tests.{eq-eqb, ne_eqb}
use Rattle.std.specs.Prelude.{Result, Ok, Err}
use Rattle.model.specs.declared.Damaged.{Damaged}
use Rattle.model.specs.declared.Root.{Root}
use Rattle.model.specs.Pages.{page_of, level_of, count_of, link_of, page_sound}
use Rattle.model.specs.Chains.{Checked, damaged, sound, and_then, overflow_from}
use Rattle.chains.specs.Walks.{words_sound, answered, counted}

pub words-sound-page : (r : Root) (w : List ℕ) → words_sound r (get_or w 0 0) (get_or w 1 0) (get_or w 2 0) ≡ page_sound r w
unfolding words_sound page_sound level_of count_of link_of
words-sound-page r w = refl

-- The count once n pages were passed and the rest of the list is still to be walked.
abbrev pub counted_after : ℕ → Checked (List ℕ) → Result ℕ Damaged
counted_after n = answered (λ xs. n + length xs)

pub none_passed : (x : Checked (List ℕ)) → counted x ≡ counted_after 0 x
none_passed damaged = refl
none_passed (sound xs) = ap Ok (omega arith)

-- ---- One turn

module _ (r : Root) (ps : List ℕ) (n l : ℕ) where
  pub walk_ends : (k : ℕ) → l ≡ 0 → counted_after n (overflow_from r ps k l) ≡ Ok n
  unfolding overflow_from
  walk_ends zero e = rw (eq-eqb l 0 e) (ap Ok (omega arith))
  walk_ends (suc k) e = rw (eq-eqb l 0 e) (ap Ok (omega arith))

  pub walk_too_long : (k : ℕ) → k ≡ 0 → (l ≡ 0 → ⊥) → counted_after n (overflow_from r ps k l) ≡ Err (record {})
  unfolding overflow_from
  walk_too_long k z h = rw (z, overflow_from, ne_eqb l 0 h) refl

  pub walk_unsound : (k : ℕ) → (l ≡ 0 → ⊥) → page_sound r (page_of ps (l - 1)) ≡ false → counted_after n (overflow_from r ps k l) ≡ Err (record {})
  unfolding overflow_from
  walk_unsound zero h e = rw (ne_eqb l 0 h) refl
  walk_unsound (suc k) h e = rw (ne_eqb l 0 h, e) refl

  -- One page more is passed.
  pub walk_goes_on : (k : ℕ) → 0 < k → (l ≡ 0 → ⊥) → page_sound r (page_of ps (l - 1)) ≡ true
      → counted_after n (overflow_from r ps k l) ≡ counted_after (n + 1) (overflow_from r ps (k - 1) (link_of (page_of ps (l - 1))))
  unfolding overflow_from
  walk_goes_on k z h e =
      let q : k ≡ suc (k - 1) = omega arith in
      ap (λ (m : ℕ). counted_after n (overflow_from r ps m l)) q ∙ rw (ne_eqb l 0 h, e) (one_more (overflow_from r ps (k - 1) (link_of (page_of ps (l - 1)))))
    where
      one_more : (rest : Checked (List ℕ)) → counted_after n (and_then rest (λ xs. sound ((l - 1) ∷ xs))) ≡ counted_after (n + 1) rest
      one_more damaged = refl
      one_more (sound xs) = ap Ok (omega arith)
