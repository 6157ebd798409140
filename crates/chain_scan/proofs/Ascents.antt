-- The ascent of records, list after list.
-- Main statements: ascent_append (two lists together); nothing_passed, list_falls, list_passed, all_passed (what is said
-- of a chain once some of its records were passed).
use mathlib.Core.Path.{◌≡◌, refl, ap}
use mathlib.Core.Bool.{Bool, true, false, cond, ◌&&◌, ◌||◌, or-false, or_assoc}
use mathlib.Core.List.{List, [], ◌∷◌, ◌++◌}
use Prim.Native.Nat.{ℕ, zero-le, ◌+◌}
use native.Mathlib.Omega.{arith}
use lib.ListN.{length, length-append}
use lib.Dec.{leb}
use Rattle.std.specs.Prelude.{Result, Ok, Err}
use Rattle.model.specs.declared.Damaged.{Damaged}
use Rattle.model.specs.declared.Entry.{Entry}
use Rattle.model.specs.Entries.{key_of, has_key, below_first, ascending}
use Rattle.model.proofs.Laws.Lists.{Ord, lt, ge, ord, le-leb, lt-leb}
use Rattle.model.proofs.Laws.Entries.{has_append}
use Rattle.chain_scan.specs.Scans.{ascent_from, looked, examined}
use Rattle.chain_scan.specs.declared.Looked.{Looked}

-- ---- Two lists together

-- The records ys after others that ascend like this.
abbrev then_from : Result ℕ Damaged → List Entry → Result ℕ Damaged
then_from (Err e) ys = Err e
then_from (Ok floor) ys = ascent_from floor ys

pub ascent_append : (floor : ℕ) (xs ys : List Entry) → ascent_from floor (xs ++ ys) ≡ then_from (ascent_from floor xs) ys
unfolding ascent_from
ascent_append floor [] ys = refl
ascent_append floor (x ∷ xs) ys = go (leb floor (key_of x)) (ascent_append (key_of x + 1) xs ys)
  where
    go : (b : Bool) → ascent_from (key_of x + 1) (xs ++ ys) ≡ then_from (ascent_from (key_of x + 1) xs) ys
        → cond b (ascent_from (key_of x + 1) (xs ++ ys)) (Err (record {})) ≡ then_from (cond b (ascent_from (key_of x + 1) xs) (Err (record {}))) ys
    go true ih = ih
    go false ih = refl

-- ---- The ascent from 0 on is the model's ascending

abbrev rises : Result ℕ Damaged → Bool
rises (Err e) = false
rises (Ok floor) = true

above_ascends : (k : ℕ) (es : List Entry) → (below_first k es && ascending es) ≡ rises (ascent_from (k + 1) es)
unfolding ascent_from below_first ascending
above_ascends k [] = refl
above_ascends k (e ∷ es) = go (ord k (key_of e)) (above_ascends (key_of e) es)
  where
    go : Ord k (key_of e) → (below_first (key_of e) es && ascending es) ≡ rises (ascent_from (key_of e + 1) es)
        → (below_first k (e ∷ es) && (below_first (key_of e) es && ascending es)) ≡ rises (cond (leb (k + 1) (key_of e)) (ascent_from (key_of e + 1) es) (Err (record {})))
    go (lt h t) ih = rw (t, le-leb (k + 1) (key_of e) (omega arith)) ih
    go (ge h t) ih = rw (t, lt-leb (k + 1) (key_of e) (omega arith)) refl

all_ascends : (es : List Entry) → ascending es ≡ rises (ascent_from 0 es)
unfolding ascent_from ascending
all_ascends [] = refl
all_ascends (e ∷ es) = rw (le-leb 0 (key_of e) zero-le) (above_ascends (key_of e) es)

-- ---- A chain of n overflow pages of which some records were passed: `count` of them, among them the key or not, and the next is to be at least `floor`

-- What is said of it, by the ascent of the other records.
abbrev said_of : ℕ → ℕ → ℕ → Bool → List Entry → Result ℕ Damaged → Result Looked Damaged
said_of key n count found es (Err e) = Err e
said_of key n count found es (Ok floor) = Ok (record { pages = n; count = count + length es; found = found || has_key key es })

unfoldable pub resumed : ℕ → ℕ → ℕ → ℕ → Bool → List Entry → Result Looked Damaged
resumed key n floor count found es = said_of key n count found es (ascent_from floor es)

module _ (key n : ℕ) where
  pub nothing_passed : (es : List Entry) → examined key n es ≡ resumed key n 0 0 false es
  unfolding examined resumed
  nothing_passed es = rw (all_ascends es) (go (ascent_from 0 es))
    where
      go : (a : Result ℕ Damaged) → cond (rises a) (Ok (looked key n es)) (Err (record {})) ≡ said_of key n 0 false es a
      go (Err e) = refl
      go (Ok floor) = ap (λ (m : ℕ). Ok (record { pages = n; count = m; found = has_key key es })) (omega arith)

  module _ (floor count : ℕ) (found : Bool) where
    pub all_passed : resumed key n floor count found [] ≡ Ok (record { pages = n; count = count; found = found })
    unfolding resumed ascent_from has_key
    all_passed = let q : count + 0 ≡ count = omega arith in rw (q, or-false found) refl

    module _ (xs ys : List Entry) where
      pub list_falls : ascent_from floor xs ≡ (Err (record {})) → resumed key n floor count found (xs ++ ys) ≡ (Err (record {}))
      unfolding resumed
      list_falls e = rw (ascent_append floor xs ys, e) refl

      pub list_passed : (next : ℕ) → ascent_from floor xs ≡ Ok next
          → resumed key n floor count found (xs ++ ys) ≡ resumed key n next (count + length xs) (found || has_key key xs) ys
      unfolding resumed
      list_passed next e = rw (ascent_append floor xs ys, e) (go (ascent_from next ys))
        where
          go : (a : Result ℕ Damaged) → said_of key n count found (xs ++ ys) a ≡ said_of key n (count + length xs) (found || has_key key xs) ys a
          go (Err e) = refl
          go (Ok last) =
              let many : count + length (xs ++ ys) ≡ count + length xs + length ys = rw length-append (omega arith) in
              rw (many, has_append key xs ys, or_assoc found (has_key key xs) (has_key key ys)) refl
