-- One record taken off a source. q is the place p past the pages that have no record left, and r is one record after q.
-- Main statements: one_fewer (a record fewer is left); with_given-none, with_given_before, with_given_after (one record more is chosen); some_left, kept-given, kept_passed (no record more is chosen);
-- tested-counted, counted_on (records counted).
use mathlib.Core.Path.{◌≡◌, refl, sym, ap, ◌∙◌}
use mathlib.Core.Bool.{Bool, true, false, cond}
use mathlib.Core.List.{List, [], ◌∷◌}
use Prim.Native.Nat.{ℕ, zero, suc, ◌+◌, ◌≤◌, ◌<◌}
use native.Mathlib.Omega.{arith}
use lib.ListN.{length, get_or}
use mir.Val.{bool_byte}
use Rattle.model.specs.declared.Entry.{Entry}
use Rattle.model.specs.Entries.{key_of}
use Rattle.key_source.specs.declared.Place.{Place}
use Rattle.key_source.specs.declared.Choice.{Choice}
use Rattle.key_source.specs.declared.Choice.TheVariants.{All, With}
use Rattle.key_source.specs.Sources.{records_at, Sits, onward, chosen, CanChoose, kept, extra_records, chosen_of, then_all, Gives}
use Rattle.key_source.proofs.Places.{entry_at, first_entry, onward_sits}
use Rattle.key_source.proofs.Choices.{chosen_none, chosen-kept, chosen_dropped, with_none, with_before, with_after, length-chosen}

-- A test counted.
pub tested-counted : (b : Bool) → bool_byte b ≡ cond b 1 0
tested-counted true = refl
tested-counted false = refl

module _ (ps : List ℕ) (p q : Place) (sits : Sits ps q) (same : records_at ps q ≡ records_at ps p) where
  -- The records from p on, the first of them q's.
  records_from : 1 ≤ q.left → records_at ps p ≡ entry_at ps q.at ∷ records_at ps (onward q)
  records_from h = sym same ∙ first_entry ps q sits h

  pub one_fewer : (r : Place) → 1 ≤ q.left → r ≡ onward q → length (records_at ps r) < length (records_at ps p)
  one_fewer r h e = rw e (omega (arith, ap length (records_from h)))

  -- ---- One record more, x

  pub with_given-none : (x : Entry) → records_at ps q ≡ [] → Gives ps (chosen (With x) (records_at ps p)) (then_all x q)
  unfolding chosen_of
  with_given-none x none = record {
    sits = sits;
    can_choose = tt;
    records = ap (chosen (With x)) (sym same) ∙ with_none x (records_at ps q) none;
  }

  pub with_given_before : (x : Entry) → 1 ≤ q.left → key_of x < get_or ps q.at 0 → Gives ps (chosen (With x) (records_at ps p)) (then_all x q)
  unfolding chosen_of
  with_given_before x h l =
      let k = entry_at ps q.at in
      let first = first_entry ps q sits h in
      record {
        sits = sits;
        can_choose = tt;
        records = ap (chosen (With x)) (sym same ∙ first) ∙ with_before x k (records_at ps (onward q)) l ∙ ap (λ (es : List Entry). x ∷ chosen All es) (sym first);
      }

  pub with_given_after :
      (x : Entry) (r : Place) → 1 ≤ q.left → get_or ps q.at 0 ≤ key_of x → r ≡ onward q
      → Gives ps (chosen (With x) (records_at ps p)) record { entry = entry_at ps q.at; source = record { choice = With x; place = r } }
  unfolding chosen_of
  with_given_after x r h l e = record {
    sits = rw e (onward_sits ps q sits h);
    can_choose = tt;
    records = rw e (ap (chosen (With x)) (records_from h) ∙ with_after x (entry_at ps q.at) (records_at ps (onward q)) l);
  }

  -- ---- No record more

  module _ (c : Choice) (none : extra_records c ≡ 0) where
    pub some_left : (q.left ≡ 0 → records_at ps q ≡ []) → 1 ≤ length (chosen c (records_at ps p)) → 1 ≤ q.left
    some_left empty some = go q.left refl
      where
        go : (n : ℕ) → n ≡ q.left → 1 ≤ q.left
        go zero e =
            let nothing : chosen c (records_at ps p) ≡ [] = ap (chosen c) (sym same ∙ empty (sym e)) ∙ chosen_none c none in
            absurd (omega (arith, some, ap length nothing))
        go (suc n) e = omega (arith, e)

    pub kept-given :
        (r : Place) → 1 ≤ q.left → kept c (get_or ps q.at 0) ≡ true → r ≡ onward q → CanChoose c
        → Gives ps (chosen c (records_at ps p)) record { entry = entry_at ps q.at; source = record { choice = c; place = r } }
    unfolding chosen_of
    kept-given r h k e can = record {
      sits = rw e (onward_sits ps q sits h);
      can_choose = can;
      records = rw e (ap (chosen c) (records_from h) ∙ chosen-kept c (entry_at ps q.at) (records_at ps (onward q)) none k);
    }

    pub kept_passed : (r : Place) → 1 ≤ q.left → kept c (get_or ps q.at 0) ≡ false → r ≡ onward q → chosen c (records_at ps p) ≡ chosen c (records_at ps r)
    kept_passed r h k e = rw e (ap (chosen c) (records_from h) ∙ chosen_dropped c (entry_at ps q.at) (records_at ps (onward q)) none k)

  -- ---- Records counted

  -- n records were counted before; m are counted once the first record of q is passed.
  pub counted_on :
      (c : Choice) (n m : ℕ) (r t : Place) → 1 ≤ q.left → m ≡ n + cond (kept c (get_or ps q.at 0)) 1 0 → r ≡ onward q → records_at ps t ≡ records_at ps r
      → m + length (chosen c (records_at ps t)) ≡ n + length (chosen c (records_at ps p))
  counted_on c n m r t h e f g =
      let one = ap (λ (es : List Entry). length (chosen c es)) (records_from h) ∙ length-chosen c (entry_at ps q.at) (records_at ps (onward q)) in
      let rest : length (chosen c (records_at ps t)) ≡ length (chosen c (records_at ps (onward q))) = ap (λ (es : List Entry). length (chosen c es)) (g ∙ ap (records_at ps) f) in
      omega (arith, one, rest, e)
