-- An ascending list of records is determined by its keys and their settings.
-- Main statements: beyond_first; same_ascending.
use mathlib.Core.Path.{◌≡◌, refl, sym, ap, ◌∙◌}
use mathlib.Core.Logic.{◌≢◌, ◌⊎◌, inl, inr}
use mathlib.Core.Bool.{true, false}
use mathlib.Core.List.{List, [], ◌∷◌}
use mathlib.Core.Option.{some}
use Prim.Native.Nat.{ℕ, ◌<◌}
use native.Mathlib.Omega.{arith}
use lib.Dec.{eqb}
use Rattle.model.specs.declared.Entry.{Entry}
use Rattle.model.specs.Entries.{key_of, setting_of, entry_of, has_key, setting_in, below_first, ascending}
use Rattle.model.proofs.Laws.Entries.{has_same, setting_absent}
use Rattle.model.proofs.Laws.Lists.{Cmp, same, diff, cmp, and_both, left_or, or_either, eqb-true, eqb_same, eqb-diff, ltb-true, true≢false, false≢true}
use Rattle.model.proofs.Laws.Joins.{below_absent, ascending_rest}

-- ---- One list

-- Every key of an ascending list is above a number that is below its first.
pub beyond_first : (j k : ℕ) (es : List Entry) → below_first j es ≡ true → ascending es ≡ true → has_key k es ≡ true → j < k
unfolding below_first ascending has_key
beyond_first j k [] b a h = absurd (false≢true h)
beyond_first j k (e ∷ es) b a h = go (or_either (eqb (key_of e) k) (has_key k es) h) (beyond_first (key_of e) k es)
  where
    below : j < key_of e
    below = ltb-true j (key_of e) b

    go : (eqb (key_of e) k ≡ true) ⊎ (has_key k es ≡ true) → (below_first (key_of e) es ≡ true → ascending es ≡ true → has_key k es ≡ true → key_of e < k) → j < k
    go (inl s) ih = omega (arith, below, eqb-true (key_of e) k s)
    go (inr t) ih = let f = and_both (below_first (key_of e) es) (ascending es) a in omega (arith, below, ih f.0 f.1 t)

has_first : (e : Entry) (es : List Entry) → has_key (key_of e) (e ∷ es) ≡ true
unfolding has_key
has_first e es = left_or (has_key (key_of e) es) (eqb_same (key_of e) (key_of e) refl)

-- The first key stands once.
first_once : (e : Entry) (es : List Entry) → ascending (e ∷ es) ≡ true → has_key (key_of e) es ≡ false
unfolding ascending
first_once e es a = let f = and_both (below_first (key_of e) es) (ascending es) a in below_absent (key_of e) es f.1 f.0

-- A key of an ascending list is the first or above it.
first_least : (e : Entry) (es : List Entry) → ascending (e ∷ es) ≡ true → (k : ℕ) → has_key k (e ∷ es) ≡ true → k ≢ key_of e → key_of e < k
unfolding ascending has_key
first_least e es a k h n =
    let f = and_both (below_first (key_of e) es) (ascending es) a in
    let rest : has_key k es ≡ true = rw (eqb-diff (key_of e) k (λ s. n (sym s))) at h in
    beyond_first (key_of e) k es f.0 f.1 rest

has_none : (k : ℕ) → has_key k [] ≡ false
unfolding has_key
has_none k = refl

-- The settings of the first and of another key.
setting_first : (e : Entry) (es : List Entry) → setting_in (key_of e) (e ∷ es) ≡ some (setting_of e)
unfolding setting_in
setting_first e es = rw (eqb_same (key_of e) (key_of e) refl) refl

setting_rest : (e : Entry) (es : List Entry) (k : ℕ) → key_of e ≢ k → setting_in k (e ∷ es) ≡ setting_in k es
unfolding setting_in
setting_rest e es k n = rw (eqb-diff (key_of e) k n) refl

-- ---- Two lists with the same keys and settings

-- Records with the same key and the same setting.
same_record : (x y : Entry) → key_of x ≡ key_of y → some (setting_of x) ≡ some (setting_of y) → x ≡ y
same_record x y s t = ap (λ (k : ℕ). entry_of k (setting_of x)) s ∙ ap (entry_of (key_of y)) cc

-- The same settings are the same keys.
same_keys : (xs ys : List Entry) → ((k : ℕ) → setting_in k xs ≡ setting_in k ys) → (k : ℕ) → has_key k xs ≡ has_key k ys
same_keys xs ys f k = has_same k k xs ys (f k)

pub same_ascending : (xs ys : List Entry) → ascending xs ≡ true → ascending ys ≡ true → ((k : ℕ) → setting_in k xs ≡ setting_in k ys) → xs ≡ ys
same_ascending [] [] a b f = refl
same_ascending [] (y ∷ ys) a b f = absurd (false≢true (sym (has_none (key_of y)) ∙ same_keys [] (y ∷ ys) f (key_of y) ∙ has_first y ys))
same_ascending (x ∷ xs) [] a b f = absurd (true≢false (sym (has_first x xs) ∙ same_keys (x ∷ xs) [] f (key_of x) ∙ has_none (key_of x)))
same_ascending (x ∷ xs) (y ∷ ys) a b f = go (cmp (key_of x) (key_of y)) (same_ascending xs ys (ascending_rest x xs a) (ascending_rest y ys b))
  where
    g : (k : ℕ) → has_key k (x ∷ xs) ≡ has_key k (y ∷ ys)
    g = same_keys (x ∷ xs) (y ∷ ys) f

    rests : key_of x ≡ key_of y → (k : ℕ) → Cmp (key_of x) k → setting_in k xs ≡ setting_in k ys
    rests s k (same e) =
        setting_absent k xs (ap (λ (j : ℕ). has_key j xs) (sym e) ∙ first_once x xs a)
        ∙ sym (setting_absent k ys (ap (λ (j : ℕ). has_key j ys) (sym e ∙ s) ∙ first_once y ys b))
    rests s k (diff n) = sym (setting_rest x xs k n) ∙ f k ∙ setting_rest y ys k (λ e. n (s ∙ e))

    firsts : key_of x ≡ key_of y → x ≡ y
    firsts s = same_record x y s (sym (setting_first x xs) ∙ f (key_of x) ∙ ap (λ (j : ℕ). setting_in j (y ∷ ys)) s ∙ setting_first y ys)

    go : Cmp (key_of x) (key_of y) → (((k : ℕ) → setting_in k xs ≡ setting_in k ys) → xs ≡ ys) → x ∷ xs ≡ y ∷ ys
    go (same s) ih = cc (firsts s, ih (λ k. rests s k (cmp (key_of x) k)))
    go (diff n) ih =
        absurd
        (omega (
          arith,
          first_least x xs a (key_of y) (g (key_of y) ∙ has_first y ys) (λ s. n (sym s)),
          first_least y ys b (key_of x) (sym (g (key_of x)) ∙ has_first x xs) n,
        ))
