-- The place of a key in an ascending list, and what stands there.
-- Main statements: place_next (one record more is counted), place_end; place_within (the place is in the list or just past it); past_all, stands_at (whether the key is in the list),
-- place_inside (the place of a key that is); inserted_at, removed_at (the list with the key put in at its place, or left out there).
use mathlib.Core.Path.{◌≡◌, refl, sym, ap, ◌∙◌}
use mathlib.Core.Bool.{Bool, true, false, cond, ◌||◌, or-false}
use mathlib.Core.List.{List, [], ◌∷◌, ◌++◌}
use Prim.Native.Nat.{ℕ, suc, ◌+◌, ◌≤◌, ◌<◌}
use native.Mathlib.Numerals.{one-add, add-one}
use native.Mathlib.Omega.{arith}
use mir.Val.{bool_byte}
use lib.ListN.{length, take, drop, drop_of_length-le, length-take}
use lib.Dec.{ltb, eqb}
use Rattle.model.specs.declared.Entry.{Entry}
use Rattle.model.specs.Entries.{key_of, has_key, below_first, ascending, inserted_into, removed_from}
use Rattle.model.specs.Filling.{record_at}
use Rattle.model.proofs.Laws.Lists.{Ord, lt, ge, ord, Cmp, same, diff, cmp, or_neither, eqb_same, eqb-diff, eqb-false, le-ltb, lt-ltb, false≢true}
use Rattle.model.proofs.Laws.Joins.{below_absent, below_rest, below_cons, ascending-first, ascending_rest}
use Rattle.model.proofs.Laws.Ascending.{beyond_first}
use Rattle.entries.specs.Places.{place_of}
use Rattle.entries.proofs.Scanning.{next_of}
use Rattle.entries.proofs.Moving.{all_but}

-- ---- The records counted one by one

module _ (k : ℕ) (es : List Entry) (i : ℕ) where
  pub place_next : i < length es → place_of k (drop i es) ≡ bool_byte (ltb (key_of (record_at es i)) k) + place_of k (drop (i + 1) es)
  unfolding place_of
  place_next h = ap (place_of k) (next_of es i h) ∙ go (ltb (key_of (record_at es i)) k)
    where
      go : (t : Bool) → cond t 1 0 + place_of k (drop (i + 1) es) ≡ bool_byte t + place_of k (drop (i + 1) es)
      go true = refl
      go false = refl

  pub place_end : length es ≤ i → place_of k (drop i es) ≡ 0
  unfolding place_of
  place_end h = ap (place_of k) (drop_of_length-le es h)

pub one_at_most : (t : Bool) → bool_byte t ≤ 1
one_at_most true = omega arith
one_at_most false = omega arith

-- ---- The place by the first key

place_later : (k : ℕ) (e : Entry) (es : List Entry) → key_of e < k → place_of k (e ∷ es) ≡ suc (place_of k es)
unfolding place_of
place_later k e es h = rw (lt-ltb (key_of e) k h, one-add) refl

place_below : (k : ℕ) (es : List Entry) → ascending es ≡ true → below_first k es ≡ true → place_of k es ≡ 0
unfolding place_of below_first
place_below k [] a b = refl
place_below k (e ∷ es) a b =
    let h = below_cons k e es b in
    rw (le-ltb (key_of e) k (omega arith), place_below k es (ascending_rest e es a) (below_rest k e es (omega arith) a)) refl

place_first : (k : ℕ) (e : Entry) (es : List Entry) → k ≤ key_of e → ascending (e ∷ es) ≡ true → place_of k (e ∷ es) ≡ 0
unfolding place_of
place_first k e es h a = rw (le-ltb (key_of e) k h, place_below k es (ascending_rest e es a) (below_rest k e es h a)) refl

pub place_within : (k : ℕ) (es : List Entry) → place_of k es ≤ length es
unfolding place_of
place_within k [] = omega arith
place_within k (e ∷ es) = go (ltb (key_of e) k) (place_within k es)
  where
    go : (t : Bool) → place_of k es ≤ length es → cond t 1 0 + place_of k es ≤ suc (length es)
    go true h = omega arith
    go false h = omega arith

-- Among the n at the front, or just behind them.
pub place_among : (k n : ℕ) (es : List Entry) → place_of k (take n es) ≤ n
place_among k n es = omega (arith, place_within k (take n es), length-take n es)

-- ---- Whether the key is in the list

pub past_all : (k : ℕ) (es : List Entry) → length es ≤ place_of k es → has_key k es ≡ false
unfolding has_key place_of
past_all k [] h = refl
past_all k (e ∷ es) h = go (ord (key_of e) k) (past_all k es)
  where
    go : Ord (key_of e) k → (length es ≤ place_of k es → has_key k es ≡ false) → (eqb (key_of e) k || has_key k es) ≡ false
    go (lt l t) ih = rw (eqb-diff (key_of e) k (λ s. omega (arith, s)), ih (omega (arith, rw t at h))) refl
    go (ge l t) ih = absurd (omega (arith, rw t at h, place_within k es))

pub place_inside : (k : ℕ) (es : List Entry) → has_key k es ≡ true → place_of k es < length es
place_inside k es h = go (ord (place_of k es) (length es))
  where
    go : Ord (place_of k es) (length es) → place_of k es < length es
    go (lt l t) = l
    go (ge l t) = absurd (false≢true (sym (past_all k es l) ∙ h))

pub stands_at : (k : ℕ) (es : List Entry) → ascending es ≡ true → place_of k es < length es → has_key k es ≡ eqb (key_of (record_at es (place_of k es))) k
unfolding has_key
stands_at k [] a h = absurd (omega arith)
stands_at k (e ∷ es) a h = go (ord (key_of e) k) (stands_at k es (ascending_rest e es a))
  where
    go : Ord (key_of e) k → (place_of k es < length es → has_key k es ≡ eqb (key_of (record_at es (place_of k es))) k) → (eqb (key_of e) k || has_key k es) ≡ eqb (key_of (record_at (e ∷ es) (place_of k (e ∷ es)))) k
    go (lt l t) ih =
        let later = place_later k e es l in
        let more : place_of k es < length es = omega (arith, rw later at h) in
        rw (eqb-diff (key_of e) k (λ s. omega (arith, s)), later) (ih more)
    go (ge l t) ih = rw (below_absent k es (ascending_rest e es a) (below_rest k e es l a), place_first k e es l a) (or-false (eqb (key_of e) k))

-- ---- The key put in or left out there

pub inserted_at : (x : Entry) (es : List Entry) → ascending es ≡ true → has_key (key_of x) es ≡ false
    → inserted_into x es ≡ take (place_of (key_of x) es) es ++ (x ∷ drop (place_of (key_of x) es) es)
unfolding inserted_into has_key place_of
inserted_at x [] a n = refl
inserted_at x (e ∷ es) a n = go (ord k (key_of e)) (inserted_at x es (ascending_rest e es a) o.1)
  where
    k : ℕ
    k = key_of x

    o : (eqb (key_of e) k ≡ false) × (has_key k es ≡ false)
    o = or_neither (eqb (key_of e) k) (has_key k es) n

    go : Ord k (key_of e) → inserted_into x es ≡ take (place_of k es) es ++ (x ∷ drop (place_of k es) es)
        → inserted_into x (e ∷ es) ≡ take (place_of k (e ∷ es)) (e ∷ es) ++ (x ∷ drop (place_of k (e ∷ es)) (e ∷ es))
    go (lt l t) ih = rw (place_first k e es (omega arith) a, t) refl
    go (ge l t) ih = let d = eqb-false (key_of e) k o.0 in rw (t, place_later k e es (omega arith)) (ap (λ (xs : List Entry). e ∷ xs) ih)

removed_absent : (k : ℕ) (es : List Entry) → has_key k es ≡ false → removed_from k es ≡ es
unfolding removed_from has_key
removed_absent k [] h = refl
removed_absent k (e ∷ es) h = let o = or_neither (eqb (key_of e) k) (has_key k es) h in rw o.0 (ap (λ (xs : List Entry). e ∷ xs) (removed_absent k es o.1))

pub removed_at : (k : ℕ) (es : List Entry) → ascending es ≡ true → has_key k es ≡ true → removed_from k es ≡ all_but (place_of k es) es
unfolding removed_from has_key
removed_at k [] a h = absurd (false≢true h)
removed_at k (e ∷ es) a h = go (cmp (key_of e) k) (removed_at k es (ascending_rest e es a))
  where
    go : Cmp (key_of e) k → (has_key k es ≡ true → removed_from k es ≡ all_but (place_of k es) es) → removed_from k (e ∷ es) ≡ all_but (place_of k (e ∷ es)) (e ∷ es)
    go (same s) ih =
        let absent = below_absent k es (ascending_rest e es a) (below_rest k e es (omega arith) a) in
        rw (eqb_same (key_of e) k s, place_first k e es (omega arith) a, removed_absent k es absent) refl
    go (diff n) ih =
        let other = eqb-diff (key_of e) k n in
        let rest : has_key k es ≡ true = rw other at h in
        let later = beyond_first (key_of e) k es (ascending-first e es a) (ascending_rest e es a) rest in
        rw (other, place_later k e es later, add-one) (ap (λ (xs : List Entry). e ∷ xs) (rw add-one at (ih rest)))
