-- Lists of records passed from the front, record by record.
-- Main statements: next_of (the record passed next); ascending_passed, last_ascends.
use mathlib.Core.Path.{◌≡◌, refl, sym, ap, ◌∙◌}
use mathlib.Core.Bool.{Bool, true, false, not, ◌&&◌, ◌||◌}
use mathlib.Core.List.{List, [], ◌∷◌}
use Prim.Native.Nat.{ℕ, ◌+◌, ◌-◌, ◌≤◌, ◌<◌}
use native.Mathlib.Numerals.{add-one}
use native.Mathlib.Omega.{arith}
use lib.ListN.{length, drop, length-drop}
use lib.Seq.{drop-cons}
use lib.Dec.{ltb, leb}
use borrow.Author.Tests.{le-leb, lt-leb}
use Rattle.model.specs.declared.Entry.{Entry}
use Rattle.model.specs.Entries.{key_of, entry_of, ascending, below_first}
use Rattle.model.specs.Filling.{record_at}
use Rattle.model.proofs.Laws.Lists.{Ord, lt, ge, ord}

pub next_of : (es : List Entry) (i : ℕ) → i < length es → drop i es ≡ record_at es i ∷ drop (i + 1) es
next_of es i h = rw add-one (drop-cons es i (entry_of 0 0) h)

-- ---- Whether the keys ascend

short_ascends : (xs : List Entry) → length xs ≤ 1 → ascending xs ≡ true
unfolding ascending below_first
short_ascends [] h = refl
short_ascends (x ∷ []) h = refl
short_ascends (x ∷ (y ∷ ys)) h = absurd (omega arith)

module _ (es : List Entry) (i : ℕ) (some : 1 ≤ i) where
  before_next : i < length es → drop (i - 1) es ≡ record_at es (i - 1) ∷ (record_at es i ∷ drop (i + 1) es)
  before_next h =
      let q : i - 1 + 1 ≡ i = omega arith in
      next_of es (i - 1) (omega arith) ∙ ap (λ (l : List Entry). record_at es (i - 1) ∷ l) (ap (λ (j : ℕ). drop j es) q ∙ next_of es i h)

  -- One pair of neighbours more, and whether a pair before it falls.
  pub ascending_passed : i < length es → (falls : Bool)
      → (not falls && ascending (drop (i - 1) es)) ≡ (not (falls || leb (key_of (record_at es i)) (key_of (record_at es (i - 1)))) && ascending (drop i es))
  unfolding ascending below_first
  ascending_passed h true = refl
  ascending_passed h false = ap ascending (before_next h) ∙ go (ord (key_of x) (key_of y)) ∙ ap (λ (l : List Entry). not (leb (key_of y) (key_of x)) && ascending l) (sym (next_of es i h))
    where
      x : Entry
      x = record_at es (i - 1)

      y : Entry
      y = record_at es i

      go : Ord (key_of x) (key_of y) → (ltb (key_of x) (key_of y) && ascending (y ∷ drop (i + 1) es)) ≡ (not (leb (key_of y) (key_of x)) && ascending (y ∷ drop (i + 1) es))
      go (lt k t) = rw (t, lt-leb (key_of y) (key_of x) k) refl
      go (ge k t) = rw (t, le-leb (key_of y) (key_of x) k) refl

  -- The last record alone, or none.
  pub last_ascends : length es ≤ i → ascending (drop (i - 1) es) ≡ true
  last_ascends h = short_ascends (drop (i - 1) es) (rw length-drop (omega arith))
