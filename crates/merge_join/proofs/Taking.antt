-- The next record of two chains joined. p and q are the two places past all pages without a record left.
-- Main statements: first_some, second_some (whose record is next has one); takes_first, takes_second.
use mathlib.Core.Path.{◌≡◌, refl, sym, ap, ap₂, ◌∙◌}
use mathlib.Core.Bool.{true, false, false≢true, true≢false}
use mathlib.Core.List.{List, [], ◌∷◌}
use Prim.Native.Nat.{ℕ, zero, suc, ◌+◌, ◌≤◌}
use native.Mathlib.Omega.{arith}
use lib.ListN.{length, get_or}
use lib.Dec.{ltb}
use Rattle.model.specs.declared.Entry.{Entry}
use Rattle.model.specs.Entries.{ascending, below_first, joined}
use Rattle.model.proofs.Laws.Lists.{eqb_same, eqb-diff, ltb-false}
use Rattle.model.proofs.Laws.Joins.{ascending_rest, NotAbove, first-joined, second_joined}
use Rattle.key_source.specs.declared.Place.{Place}
use Rattle.key_source.specs.Sources.{records_at, Sits, onward}
use Rattle.key_source.specs.Sources.{entry_at}
use Rattle.key_source.proofs.Places.{first_entry, onward_sits}
use Rattle.merge_join.specs.Joining.{CanJoin, goes_first, Takes}

-- A place that is past all pages without a record left.
pub record Settled (ps : List ℕ) (p q : Place) : Type 0 where
  pub sits : Sits ps q
  pub same : records_at ps q ≡ records_at ps p
  pub ended : q.left ≡ 0 → records_at ps q ≡ []

module _ (ps : List ℕ) (first second p q : Place) (can : CanJoin ps first second) (f : Settled ps first p) (s : Settled ps second q) where
  p_ascends : ascending (records_at ps p) ≡ true
  p_ascends = ap ascending f.same ∙ can.first_ascends

  q_ascends : ascending (records_at ps q) ≡ true
  q_ascends = ap ascending s.same ∙ can.second_ascends

  same_joined : joined (records_at ps first) (records_at ps second) ≡ joined (records_at ps p) (records_at ps q)
  same_joined = ap₂ joined (sym f.same) (sym s.same)

  -- ---- The first has the next record

  pub first_some : goes_first ps p q ≡ true → 1 ≤ length (records_at ps first) + length (records_at ps second) → 1 ≤ p.left
  unfolding goes_first
  first_some e some = go p.left q.left refl refl
    where
      go : (n k : ℕ) → n ≡ p.left → k ≡ q.left → 1 ≤ p.left
      go zero zero a b = absurd (omega (arith, some, ap length (sym f.same ∙ f.ended (sym a)), ap length (sym s.same ∙ s.ended (sym b))))
      go zero (suc k) a b = absurd (false≢true (rw (eqb-diff q.left 0 (λ z. omega (arith, b, z)), eqb_same p.left 0 (sym a)) at e))
      go (suc n) k a b = omega (arith, a)

  module _ (some : 1 ≤ p.left) where
    abbrev x : Entry
    x = entry_at ps p.at

    firsts : records_at ps p ≡ x ∷ records_at ps (onward p)
    firsts = first_entry ps p f.sits some

    below : goes_first ps p q ≡ true → below_first (get_or ps p.at 0) (records_at ps q) ≡ true
    unfolding goes_first below_first
    below e = go q.left refl
      where
        go : (k : ℕ) → k ≡ q.left → below_first (get_or ps p.at 0) (records_at ps q) ≡ true
        go zero b = rw (s.ended (sym b)) refl
        go (suc k) b =
            let keys : ltb (get_or ps p.at 0) (get_or ps q.at 0) ≡ true = rw (eqb-diff q.left 0 (λ z. omega (arith, b, z)), eqb-diff p.left 0 (λ z. omega (arith, some, z))) at e in
            rw (first_entry ps q s.sits (omega (arith, b))) keys

    pub takes_first : goes_first ps p q ≡ true → (r : Place) → r ≡ onward p → Takes ps first second (record { entry = entry_at ps p.at; first = r; second = q })
    takes_first e r onto =
        let ascends : ascending (x ∷ records_at ps (onward p)) ≡ true = rw firsts at p_ascends in
        rw onto
        (record {
          can_join = record { first_sits = onward_sits ps p f.sits some; second_sits = s.sits; first_ascends = ascending_rest x (records_at ps (onward p)) ascends; second_ascends = q_ascends };
          records = same_joined ∙ ap (λ (l : List Entry). joined l (records_at ps q)) firsts ∙ first-joined x (records_at ps (onward p)) (records_at ps q) ascends (below e);
        })

  -- ---- The second has it

  pub second_some : goes_first ps p q ≡ false → 1 ≤ q.left
  unfolding goes_first
  second_some e = go q.left refl
    where
      go : (k : ℕ) → k ≡ q.left → 1 ≤ q.left
      go zero b = absurd (true≢false (rw (eqb_same q.left 0 (sym b)) at e))
      go (suc k) b = omega (arith, b)

  module _ (some : 1 ≤ q.left) where
    abbrev y : Entry
    y = entry_at ps q.at

    seconds : records_at ps q ≡ y ∷ records_at ps (onward q)
    seconds = first_entry ps q s.sits some

    not_above : goes_first ps p q ≡ false → NotAbove (get_or ps q.at 0) (records_at ps p)
    unfolding goes_first
    not_above e = go p.left refl
      where
        go : (n : ℕ) → n ≡ p.left → NotAbove (get_or ps q.at 0) (records_at ps p)
        go zero a = rw (f.ended (sym a)) tt
        go (suc n) a =
            let keys : ltb (get_or ps p.at 0) (get_or ps q.at 0) ≡ false = rw (eqb-diff q.left 0 (λ z. omega (arith, some, z)), eqb-diff p.left 0 (λ z. omega (arith, a, z))) at e in
            rw (first_entry ps p f.sits (omega (arith, a))) (ltb-false (get_or ps p.at 0) (get_or ps q.at 0) keys)

    pub takes_second : goes_first ps p q ≡ false → (r : Place) → r ≡ onward q → Takes ps first second (record { entry = entry_at ps q.at; first = p; second = r })
    takes_second e r onto =
        let ascends : ascending (y ∷ records_at ps (onward q)) ≡ true = rw seconds at q_ascends in
        rw onto
        (record {
          can_join = record { first_sits = f.sits; second_sits = onward_sits ps q s.sits some; first_ascends = p_ascends; second_ascends = ascending_rest y (records_at ps (onward q)) ascends };
          records = same_joined ∙ ap (joined (records_at ps p)) seconds ∙ second_joined y (records_at ps p) (records_at ps (onward q)) p_ascends (not_above e);
        })
