-- Choices record by record.
-- Main statements: no_extra (a choice other than With adds no record); chosen_none, chosen-kept, chosen_dropped (the records chosen of a list); with_none, with_before, with_after (one record more);
-- length-chosen-none, length-chosen, with_length, halves_length, most_chosen (how many records are chosen).
use mathlib.Core.Path.{◌≡◌, refl, ap, ◌∙◌}
use mathlib.Core.Bool.{Bool, true, false, cond, not}
use mathlib.Core.List.{List, [], ◌∷◌}
use Prim.Native.Nat.{suc, ◌+◌, ◌≤◌, ◌<◌}
use native.Mathlib.Omega.{arith}
use lib.ListN.{length}
use lib.Dec.{eqb}
use borrow.Author.Tests.{lt-ltb, le-ltb}
use Rattle.model.specs.Addresses.{hash}
use Rattle.model.specs.declared.Entry.{Entry}
use Rattle.model.specs.Entries.{key_of, inserted_into, removed_from, staying, going}
use Rattle.model.proofs.Laws.Changes.{length_inserted}
use Rattle.key_source.specs.declared.Halving.{Halving}
use Rattle.key_source.specs.declared.Choice.{Choice}
use Rattle.key_source.specs.declared.Choice.TheVariants.{All, With, Without, Staying, Going}
use Rattle.key_source.specs.Sources.{chosen, kept, extra_records}

-- ---- No record in addition

-- A choice that is not With, as a match tells it.
pub no_extra : (c : Choice) → ((x : Entry) → c ≡ With x → ⊥) → extra_records c ≡ 0
unfolding extra_records
no_extra All other = refl
no_extra (With x) other = absurd (other x refl)
no_extra (Without k) other = refl
no_extra (Staying h) other = refl
no_extra (Going h) other = refl

pub chosen_none : (c : Choice) → extra_records c ≡ 0 → chosen c [] ≡ []
unfolding chosen extra_records removed_from staying going
chosen_none All e = refl
chosen_none (With k) e = absurd (omega (arith, e))
chosen_none (Without k) e = refl
chosen_none (Staying h) e = refl
chosen_none (Going h) e = refl

cond-not : {A : Type 0} (b : Bool) (x y : A) → cond b x y ≡ cond (not b) y x
cond-not true x y = refl
cond-not false x y = refl

-- Of the first record and the others.
chosen-first : (c : Choice) (e : Entry) (es : List Entry) → extra_records c ≡ 0 → chosen c (e ∷ es) ≡ cond (kept c (key_of e)) (e ∷ chosen c es) (chosen c es)
unfolding chosen kept extra_records removed_from staying going
chosen-first All e es z = refl
chosen-first (With k) e es z = absurd (omega (arith, z))
chosen-first (Without k) e es z = cond-not (eqb (key_of e) k) (removed_from k es) (e ∷ removed_from k es)
chosen-first (Staying h) e es z = refl
chosen-first (Going h) e es z =
    let rest = going h.originals h.level h.chain.0 es in
    cond-not (eqb (hash h.originals h.level (key_of e)) h.chain.0) rest (e ∷ rest)

pub chosen-kept : (c : Choice) (e : Entry) (es : List Entry) → extra_records c ≡ 0 → kept c (key_of e) ≡ true → chosen c (e ∷ es) ≡ e ∷ chosen c es
chosen-kept c e es z k = chosen-first c e es z ∙ rw k refl

pub chosen_dropped : (c : Choice) (e : Entry) (es : List Entry) → extra_records c ≡ 0 → kept c (key_of e) ≡ false → chosen c (e ∷ es) ≡ chosen c es
chosen_dropped c e es z k = chosen-first c e es z ∙ rw k refl

-- ---- One record more

module _ (x : Entry) where
  pub with_none : (es : List Entry) → es ≡ [] → chosen (With x) es ≡ x ∷ chosen All es
  unfolding chosen inserted_into
  with_none es e = rw e refl

  pub with_before : (e : Entry) (es : List Entry) → key_of x < key_of e → chosen (With x) (e ∷ es) ≡ x ∷ chosen All (e ∷ es)
  unfolding chosen inserted_into
  with_before e es h = rw (lt-ltb (key_of x) (key_of e) h) refl

  pub with_after : (e : Entry) (es : List Entry) → key_of e ≤ key_of x → chosen (With x) (e ∷ es) ≡ e ∷ chosen (With x) es
  unfolding chosen inserted_into
  with_after e es h = rw (le-ltb (key_of x) (key_of e) h) refl

-- ---- How many records are chosen

pub few_extra : (c : Choice) → extra_records c ≤ 1
unfolding extra_records
few_extra All = omega arith
few_extra (With k) = omega arith
few_extra (Without k) = omega arith
few_extra (Staying h) = omega arith
few_extra (Going h) = omega arith

pub length-chosen-none : (c : Choice) → length (chosen c []) ≡ extra_records c
unfolding chosen extra_records inserted_into removed_from staying going
length-chosen-none All = refl
length-chosen-none (With k) = refl
length-chosen-none (Without k) = refl
length-chosen-none (Staying h) = refl
length-chosen-none (Going h) = refl

length-first : (c : Choice) (e : Entry) (es : List Entry) → extra_records c ≡ 0 → length (chosen c (e ∷ es)) ≡ cond (kept c (key_of e)) 1 0 + length (chosen c es)
length-first c e es z = ap length (chosen-first c e es z) ∙ go (kept c (key_of e))
  where
    go : (b : Bool) → length (cond b (e ∷ chosen c es) (chosen c es)) ≡ cond b 1 0 + length (chosen c es)
    go true = omega arith
    go false = omega arith

length_with : (k e : Entry) (es : List Entry) → length (chosen (With k) (e ∷ es)) ≡ cond (kept (With k) (key_of e)) 1 0 + length (chosen (With k) es)
unfolding chosen kept
length_with k e es = omega (arith, length_inserted k (e ∷ es), length_inserted k es)

pub length-chosen : (c : Choice) (e : Entry) (es : List Entry) → length (chosen c (e ∷ es)) ≡ cond (kept c (key_of e)) 1 0 + length (chosen c es)
unfolding extra_records
length-chosen All e es = length-first All e es refl
length-chosen (With k) e es = length_with k e es
length-chosen (Without k) e es = length-first (Without k) e es refl
length-chosen (Staying h) e es = length-first (Staying h) e es refl
length-chosen (Going h) e es = length-first (Going h) e es refl

-- One record more; both halves of a split.
pub with_length : (k : Entry) (es : List Entry) → length (chosen (With k) es) ≡ 1 + length es
unfolding chosen
with_length k es = omega (arith, length_inserted k es)

pub halves_length : (h : Halving) (es : List Entry) → length (chosen (Staying h) es) + length (chosen (Going h) es) ≡ length es
unfolding kept extra_records
halves_length h [] = omega (arith, length-chosen-none (Staying h), length-chosen-none (Going h), none_extra)
  where
    none_extra : extra_records (Staying h) + extra_records (Going h) ≡ 0
    none_extra = refl
halves_length h (e ∷ es) =
    go (eqb (hash h.originals h.level (key_of e)) h.chain.0) (length-chosen (Staying h) e es) (length-chosen (Going h) e es) (halves_length h es)
  where
    go : (b : Bool) → length (chosen (Staying h) (e ∷ es)) ≡ cond b 1 0 + length (chosen (Staying h) es) → length (chosen (Going h) (e ∷ es)) ≡ cond (not b) 1 0 + length (chosen (Going h) es)
        → length (chosen (Staying h) es) + length (chosen (Going h) es) ≡ length es → length (chosen (Staying h) (e ∷ es)) + length (chosen (Going h) (e ∷ es)) ≡ suc (length es)
    go true f g ih = omega (arith, f, g, ih)
    go false f g ih = omega (arith, f, g, ih)

-- At most one more than there are.
pub most_chosen : (c : Choice) (es : List Entry) → length (chosen c es) ≤ length es + 1
most_chosen c [] = omega (arith, length-chosen-none c, few_extra c)
most_chosen c (e ∷ es) = go (kept c (key_of e)) (length-chosen c e es) (most_chosen c es)
  where
    go : (b : Bool) → length (chosen c (e ∷ es)) ≡ cond b 1 0 + length (chosen c es) → length (chosen c es) ≤ length es + 1 → length (chosen c (e ∷ es)) ≤ suc (length es) + 1
    go true f h = omega (arith, f, h)
    go false f h = omega (arith, f, h)
