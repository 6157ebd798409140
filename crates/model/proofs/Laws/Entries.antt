-- Laws of lists of records.
-- Main statements: has_append, setting_append (two lists together); has_setting (a key has a setting exactly where it
-- is in), has_same, setting_absent.
use mathlib.Core.Path.{◌≡◌, refl, sym, ap, ◌∙◌}
use mathlib.Core.Bool.{Bool, true, false, cond, ◌||◌, or_assoc, true≢false}
use mathlib.Core.List.{List, [], ◌∷◌, ◌++◌}
use mathlib.Core.Option.{Option, none, some}
use Prim.Native.Nat.{ℕ}
use lib.Dec.{eqb}
use Rattle.model.specs.declared.Entry.{Entry}
use Rattle.model.specs.Entries.{key_of, setting_of, has_key, setting_in}

-- A key is in two lists together where it is in one of them.
pub has_append : (k : ℕ) (xs ys : List Entry) → has_key k (xs ++ ys) ≡ (has_key k xs || has_key k ys)
unfolding has_key
has_append k [] ys = refl
has_append k (x ∷ xs) ys = rw (has_append k xs ys) (sym (or_assoc (eqb (key_of x) k) (has_key k xs) (has_key k ys)))

-- Whether there is a setting.
abbrev pub is_in : Option ℕ → Bool
is_in none = false
is_in (some x) = true

-- A key has a setting exactly where it is in.
pub has_setting : (k : ℕ) (es : List Entry) → is_in (setting_in k es) ≡ has_key k es
unfolding has_key setting_in
has_setting k [] = refl
has_setting k (e ∷ es) = go (eqb (key_of e) k) (has_setting k es)
  where
    go : (t : Bool) → is_in (setting_in k es) ≡ has_key k es → is_in (cond t (some (setting_of e)) (setting_in k es)) ≡ (t || has_key k es)
    go true ih = refl
    go false ih = ih

-- Keys with the same setting, or with none, are in alike.
pub has_same : (k j : ℕ) (xs ys : List Entry) → setting_in k xs ≡ setting_in j ys → has_key k xs ≡ has_key j ys
has_same k j xs ys e = sym (has_setting k xs) ∙ ap is_in e ∙ has_setting j ys

-- A key that is not in has none.
pub setting_absent : (k : ℕ) (es : List Entry) → has_key k es ≡ false → setting_in k es ≡ none
setting_absent k es h = go (setting_in k es) (has_setting k es ∙ h)
  where
    go : (x : Option ℕ) → is_in x ≡ false → x ≡ none
    go none s = refl
    go (some y) s = absurd (true≢false s)

-- In two lists together a key has the setting of the first that has it.
pub setting_append : (k : ℕ) (xs ys : List Entry) → setting_in k (xs ++ ys) ≡ cond (has_key k xs) (setting_in k xs) (setting_in k ys)
unfolding has_key setting_in
setting_append k [] ys = refl
setting_append k (x ∷ xs) ys = go (eqb (key_of x) k) (setting_append k xs ys)
  where
    go : (t : Bool) → setting_in k (xs ++ ys) ≡ cond (has_key k xs) (setting_in k xs) (setting_in k ys)
        → cond t (some (setting_of x)) (setting_in k (xs ++ ys)) ≡ cond (t || has_key k xs) (cond t (some (setting_of x)) (setting_in k xs)) (setting_in k ys)
    go true ih = refl
    go false ih = ih
