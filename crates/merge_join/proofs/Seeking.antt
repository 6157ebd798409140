-- A key sought that two chains share: the smaller of their next keys is passed each time. xs and ys are the records of both.
-- Main statements: Seeking (what a turn keeps), seeking_starts; none_in_second, equal_keys, none_in_first (the ends); first_passed, second_passed (a turn).
use mathlib.Core.Path.{◌≡◌, refl, sym, ap, ◌∙◌}
use mathlib.Core.Bool.{true, false}
use mathlib.Core.List.{List, [], ◌∷◌}
use Prim.Native.Nat.{ℕ, ◌≤◌, ◌<◌}
use native.Mathlib.Omega.{arith}
use lib.ListN.{length, get_or}
use Rattle.model.specs.declared.Entry.{Entry}
use Rattle.model.specs.Entries.{ascending, below_first, shares_key}
use Rattle.model.proofs.Laws.Lists.{lt-ltb}
use Rattle.model.proofs.Laws.Joins.{ascending_rest, first_unshared, second_unshared, both_shared, none_shared}
use Rattle.key_source.specs.declared.Place.{Place}
use Rattle.key_source.specs.Sources.{records_at, Sits, onward}
use Rattle.key_source.specs.Sources.{entry_at}
use Rattle.key_source.proofs.Places.{first_entry}
use Rattle.merge_join.specs.Joining.{CanJoin}

-- p and q are past all pages without a record left, and a key is in both chains exactly where it is in both of the rest.
pub record Seeking (ps : List ℕ) (xs ys : List Entry) (p q : Place) : Type 0 where
  pub can_join : CanJoin ps p q
  pub first_ended : p.left ≡ 0 → records_at ps p ≡ []
  pub second_ended : q.left ≡ 0 → records_at ps q ≡ []
  pub same : shares_key xs ys ≡ shares_key (records_at ps p) (records_at ps q)

-- At the start all is left.
pub seeking_starts : (ps : List ℕ) (first second p q : Place) → CanJoin ps first second → Sits ps p → records_at ps p ≡ records_at ps first → (p.left ≡ 0 → records_at ps p ≡ [])
    → Sits ps q → records_at ps q ≡ records_at ps second → (q.left ≡ 0 → records_at ps q ≡ []) → Seeking ps (records_at ps p) (records_at ps q) p q
seeking_starts ps first second p q can p_sits p_same p_ended q_sits q_same q_ended = record {
  can_join = record { first_sits = p_sits; second_sits = q_sits; first_ascends = ap ascending p_same ∙ can.first_ascends; second_ascends = ap ascending q_same ∙ can.second_ascends };
  first_ended = p_ended;
  second_ended = q_ended;
  same = refl;
}

-- A number below the key of a record is below the first key of a list that begins with it.
below_entry : (ps : List ℕ) (j : ℕ) (q : Place) → Sits ps q → 1 ≤ q.left → j < get_or ps q.at 0 → below_first j (records_at ps q) ≡ true
unfolding below_first
below_entry ps j q sits some h = rw (first_entry ps q sits some) (lt-ltb j (get_or ps q.at 0) h)

module _ (ps : List ℕ) (xs ys : List Entry) (p q : Place) (s : Seeking ps xs ys p q) where
  abbrev can : CanJoin ps p q
  can = s.can_join

  -- ---- The ends

  pub none_in_first : p.left ≡ 0 → false ≡ shares_key xs ys
  unfolding shares_key
  none_in_first e = sym (s.same ∙ ap (λ (l : List Entry). shares_key l (records_at ps q)) (s.first_ended e))

  pub none_in_second : q.left ≡ 0 → false ≡ shares_key xs ys
  none_in_second e = sym (s.same ∙ ap (shares_key (records_at ps p)) (s.second_ended e) ∙ none_shared (records_at ps p))

  module _ (some : 1 ≤ p.left) (more : 1 ≤ q.left) where
    abbrev x : Entry
    x = entry_at ps p.at

    abbrev y : Entry
    y = entry_at ps q.at

    firsts : records_at ps p ≡ x ∷ records_at ps (onward p)
    firsts = first_entry ps p can.first_sits some

    seconds : records_at ps q ≡ y ∷ records_at ps (onward q)
    seconds = first_entry ps q can.second_sits more

    pub equal_keys : get_or ps p.at 0 ≡ get_or ps q.at 0 → true ≡ shares_key xs ys
    equal_keys e = sym (s.same ∙ rw (firsts, seconds) (both_shared x (records_at ps (onward p)) y (records_at ps (onward q)) e))

    -- ---- A turn: the place after the smaller key, past all pages without a record left

    first_ascends : ascending (x ∷ records_at ps (onward p)) ≡ true
    first_ascends = rw firsts at can.first_ascends

    second_ascends : ascending (y ∷ records_at ps (onward q)) ≡ true
    second_ascends = rw seconds at can.second_ascends

    module _ (t : Place) (sits : Sits ps t) (ended : t.left ≡ 0 → records_at ps t ≡ []) where
      pub first_passed : get_or ps p.at 0 < get_or ps q.at 0 → records_at ps t ≡ records_at ps (onward p) → Seeking ps xs ys t q × (length (records_at ps t) < length (records_at ps p))
      first_passed h e =
          let below = below_entry ps (get_or ps p.at 0) q can.second_sits more h in (
            record {
              can_join = record {
                first_sits = sits;
                second_sits = can.second_sits;
                first_ascends = ap ascending e ∙ ascending_rest x (records_at ps (onward p)) first_ascends;
                second_ascends = can.second_ascends;
              };
              first_ended = ended;
              second_ended = s.second_ended;
              same = s.same ∙ ap (λ (l : List Entry). shares_key l (records_at ps q)) firsts ∙ first_unshared x (records_at ps (onward p)) (records_at ps q) first_ascends below can.second_ascends
                  ∙ ap (λ (l : List Entry). shares_key l (records_at ps q)) (sym e);
            },
            omega (arith, ap length e, ap length firsts),
          )

      pub second_passed : get_or ps q.at 0 < get_or ps p.at 0 → records_at ps t ≡ records_at ps (onward q) → Seeking ps xs ys p t × (length (records_at ps t) < length (records_at ps q))
      second_passed h e =
          let below = below_entry ps (get_or ps q.at 0) p can.first_sits some h in (
            record {
              can_join = record {
                first_sits = can.first_sits;
                second_sits = sits;
                first_ascends = can.first_ascends;
                second_ascends = ap ascending e ∙ ascending_rest y (records_at ps (onward q)) second_ascends;
              };
              first_ended = s.first_ended;
              second_ended = ended;
              same = s.same ∙ ap (shares_key (records_at ps p)) seconds ∙ second_unshared y (records_at ps p) (records_at ps (onward q)) can.first_ascends below ∙ ap (shares_key (records_at ps p)) (sym e);
            },
            omega (arith, ap length e, ap length seconds),
          )
