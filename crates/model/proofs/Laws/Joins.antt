-- Ascending lists of records, and two of them joined: which keys the joined list has, how many, that it ascends, and that it is made by taking the smaller first key each time.
-- Main statements: below_absent; below_rest, below_cons, ascending-first, ascending_rest (an ascending list by its first key); has_joined, setting_joined, length-joined; ascends_joined;
-- first-joined, second_joined (the record that comes first); first_unshared, second_unshared, both_shared (whether a key is in both).
use mathlib.Core.Path.{◌≡◌, refl, sym, ap, ◌∙◌}
use mathlib.Core.Bool.{Bool, true, false, cond, ◌||◌, or_assoc}
use mathlib.Core.List.{List, [], ◌∷◌}
use mathlib.Core.Option.{some}
use Prim.Native.Nat.{ℕ, suc, ◌+◌, ◌≤◌, ◌<◌}
use native.Mathlib.Nat.{suc-add, zero-add}
use native.Mathlib.Omega.{arith}
use lib.ListN.{length}
use lib.Dec.{ltb, eqb}
use Rattle.model.specs.declared.Entry.{Entry}
use Rattle.model.specs.Entries.{key_of, setting_of, has_key, setting_in, below_first, ascending, inserted_into, joined, shares_key}
use Rattle.model.proofs.Laws.Lists.{and_both, left_or, right_or, neither_or, eqb_same, eqb-diff, ltb-true, lt-ltb, le-ltb}
use Rattle.model.proofs.Laws.Changes.{has_inserted, length_inserted, setting_inserted, ascends_inserted}

-- A number below the first key of an ascending list is none of its keys.
pub below_absent : (k : ℕ) (es : List Entry) → ascending es ≡ true → below_first k es ≡ true → has_key k es ≡ false
unfolding has_key ascending below_first
below_absent k [] a b = refl
below_absent k (e ∷ es) a b =
    let f = and_both (below_first (key_of e) es) (ascending es) a in
    let l = ltb-true k (key_of e) b in
    neither_or (eqb-diff (key_of e) k (omega arith)) (below_absent k es f.1 (lower es f.0))
  where
    lower : (xs : List Entry) → below_first (key_of e) xs ≡ true → below_first k xs ≡ true
    lower [] c = refl
    lower (x ∷ xs) c = let h = ltb-true k (key_of e) b in let l = ltb-true (key_of e) (key_of x) c in lt-ltb k (key_of x) (omega arith)

-- A key is in the joined list where it is in one of the two.
pub has_joined : (k : ℕ) (xs ys : List Entry) → has_key k (joined xs ys) ≡ (has_key k xs || has_key k ys)
unfolding has_key joined
has_joined k [] ys = refl
has_joined k (x ∷ xs) ys =
    has_inserted x k (joined xs ys) ∙ ap (λ (t : Bool). eqb (key_of x) k || t) (has_joined k xs ys)
    ∙ sym (or_assoc (eqb (key_of x) k) (has_key k xs) (has_key k ys))

-- The joined list has the records of both.
pub length-joined : (xs ys : List Entry) → length (joined xs ys) ≡ length xs + length ys
unfolding joined
length-joined [] ys = sym (zero-add (length ys))
length-joined (x ∷ xs) ys = length_inserted x (joined xs ys) ∙ ap suc (length-joined xs ys) ∙ sym (suc-add (length xs) (length ys))

-- The first key of an ascending list is in neither the rest nor a list that has no key in common with it.
joined_anew :
    (x : Entry) (xs ys : List Entry) → ascending (x ∷ xs) ≡ true → ((k : ℕ) → has_key k (x ∷ xs) ≡ true → has_key k ys ≡ false) → has_key (key_of x) (joined xs ys) ≡ false
unfolding has_key ascending
joined_anew x xs ys a none =
    let f = and_both (below_first (key_of x) xs) (ascending xs) a in
    has_joined (key_of x) xs ys
    ∙ neither_or (below_absent (key_of x) xs f.1 f.0) (none (key_of x) (left_or (has_key (key_of x) xs) (eqb_same (key_of x) (key_of x) refl)))

-- A key has in the joined list the setting that it has in one of two lists that have no key in common.
pub setting_joined :
    (k : ℕ) (xs ys : List Entry) → ascending xs ≡ true → ((k : ℕ) → has_key k xs ≡ true → has_key k ys ≡ false)
    → setting_in k (joined xs ys) ≡ cond (has_key k xs) (setting_in k xs) (setting_in k ys)
unfolding has_key setting_in ascending joined
setting_joined k [] ys a none = refl
setting_joined k (x ∷ xs) ys a none =
    let f = and_both (below_first (key_of x) xs) (ascending xs) a in
    setting_inserted x k (joined xs ys) (joined_anew x xs ys a none)
    ∙ go (eqb (key_of x) k) (setting_joined k xs ys f.1 (λ j h. none j (right_or (eqb (key_of x) j) h)))
  where
    go : (t : Bool) → setting_in k (joined xs ys) ≡ cond (has_key k xs) (setting_in k xs) (setting_in k ys)
        → cond t (some (setting_of x)) (setting_in k (joined xs ys)) ≡ cond (t || has_key k xs) (cond t (some (setting_of x)) (setting_in k xs)) (setting_in k ys)
    go true ih = refl
    go false ih = ih

-- Lists that have no key in common join into one that ascends.
pub ascends_joined : (xs ys : List Entry) → ascending xs ≡ true → ascending ys ≡ true → ((k : ℕ) → has_key k xs ≡ true → has_key k ys ≡ false) → ascending (joined xs ys) ≡ true
unfolding has_key ascending joined
ascends_joined [] ys a b none = b
ascends_joined (x ∷ xs) ys a b none =
    let f = and_both (below_first (key_of x) xs) (ascending xs) a in
    ascends_inserted x (joined xs ys) (ascends_joined xs ys f.1 b (λ k h. none k (right_or (eqb (key_of x) k) h))) (joined_anew x xs ys a none)

-- ---- An ascending list by its first key

-- A number that is not above the first key is below the second.
pub below_rest : (y : ℕ) (x : Entry) (xs : List Entry) → y ≤ key_of x → ascending (x ∷ xs) ≡ true → below_first y xs ≡ true
unfolding below_first ascending
below_rest y x [] h a = refl
below_rest y x (z ∷ zs) h a = let d = and_both (ltb (key_of x) (key_of z)) (ascending (z ∷ zs)) a in let k = ltb-true (key_of x) (key_of z) d.0 in lt-ltb y (key_of z) (omega arith)

pub below_cons : (y : ℕ) (x : Entry) (xs : List Entry) → below_first y (x ∷ xs) ≡ true → y < key_of x
unfolding below_first
below_cons y x xs b = ltb-true y (key_of x) b

pub ascending_rest : (x : Entry) (xs : List Entry) → ascending (x ∷ xs) ≡ true → ascending xs ≡ true
unfolding ascending
ascending_rest x xs a = (and_both (below_first (key_of x) xs) (ascending xs) a).1

pub ascending-first : (x : Entry) (xs : List Entry) → ascending (x ∷ xs) ≡ true → below_first (key_of x) xs ≡ true
unfolding ascending
ascending-first x xs a = (and_both (below_first (key_of x) xs) (ascending xs) a).0

-- ---- The smaller first key comes first

inserted_first : (x : Entry) (zs : List Entry) → below_first (key_of x) zs ≡ true → inserted_into x zs ≡ x ∷ zs
unfolding inserted_into below_first
inserted_first x [] b = refl
inserted_first x (z ∷ zs) b = rw b refl

below_inserted : (y : ℕ) (x : Entry) (zs : List Entry) → y < key_of x → below_first y zs ≡ true → below_first y (inserted_into x zs) ≡ true
unfolding inserted_into below_first
below_inserted y x [] h b = lt-ltb y (key_of x) h
below_inserted y x (z ∷ zs) h b = go (ltb (key_of x) (key_of z))
  where
    go : (t : Bool) → below_first y (cond t (x ∷ (z ∷ zs)) (z ∷ inserted_into x zs)) ≡ true
    go true = lt-ltb y (key_of x) h
    go false = b

below_joined : (y : ℕ) (xs ys : List Entry) → ascending xs ≡ true → below_first y xs ≡ true → below_first y ys ≡ true → below_first y (joined xs ys) ≡ true
unfolding joined
below_joined y [] ys a b d = d
below_joined y (x ∷ xs) ys a b d =
    let h = below_cons y x xs b in
    below_inserted y x (joined xs ys) h (below_joined y xs ys (ascending_rest x xs a) (below_rest y x xs (omega arith) a) d)

module _ (x : Entry) (xs ys : List Entry) (a : ascending (x ∷ xs) ≡ true) (b : below_first (key_of x) ys ≡ true) where
  pub first-joined : joined (x ∷ xs) ys ≡ x ∷ joined xs ys
  unfolding joined
  first-joined = inserted_first x (joined xs ys) (below_joined (key_of x) xs ys (ascending_rest x xs a) (ascending-first x xs a) b)

  pub first_unshared : ascending ys ≡ true → shares_key (x ∷ xs) ys ≡ shares_key xs ys
  unfolding shares_key
  first_unshared d = rw (below_absent (key_of x) ys d b) refl

inserted_later : (y x : Entry) (zs : List Entry) → key_of y ≤ key_of x → inserted_into x (y ∷ zs) ≡ y ∷ inserted_into x zs
unfolding inserted_into
inserted_later y x zs h = rw (le-ltb (key_of x) (key_of y) h) refl

-- k is not above the first key of the list.
abbrev pub NotAbove : ℕ → List Entry → Type 0
NotAbove k [] = Unit {0}
NotAbove k (x ∷ xs) = k ≤ key_of x

below_not_above : (k : ℕ) (xs : List Entry) → below_first k xs ≡ true → NotAbove k xs
below_not_above k [] b = tt
below_not_above k (x ∷ xs) b = let h = below_cons k x xs b in omega arith

pub second_joined : (y : Entry) (xs ys : List Entry) → ascending xs ≡ true → NotAbove (key_of y) xs → joined xs (y ∷ ys) ≡ y ∷ joined xs ys
unfolding joined
second_joined y [] ys a b = refl
second_joined y (x ∷ xs) ys a b =
    ap (inserted_into x) (second_joined y xs ys (ascending_rest x xs a) (below_not_above (key_of y) xs (below_rest (key_of y) x xs b a))) ∙ inserted_later y x (joined xs ys) b

-- ---- Whether a key is in both

pub second_unshared : (y : Entry) (xs ys : List Entry) → ascending xs ≡ true → below_first (key_of y) xs ≡ true → shares_key xs (y ∷ ys) ≡ shares_key xs ys
unfolding shares_key has_key
second_unshared y [] ys a b = refl
second_unshared y (x ∷ xs) ys a b =
    let h = below_cons (key_of y) x xs b in
    rw (eqb-diff (key_of y) (key_of x) (λ e. omega (arith, e)), second_unshared y xs ys (ascending_rest x xs a) (below_rest (key_of y) x xs (omega arith) a)) refl

pub both_shared : (x : Entry) (xs : List Entry) (y : Entry) (ys : List Entry) → key_of x ≡ key_of y → shares_key (x ∷ xs) (y ∷ ys) ≡ true
unfolding shares_key has_key
both_shared x xs y ys e = rw (eqb_same (key_of y) (key_of x) (sym e)) refl

pub none_shared : (xs : List Entry) → shares_key xs [] ≡ false
unfolding shares_key has_key
none_shared [] = refl
none_shared (x ∷ xs) = none_shared xs
