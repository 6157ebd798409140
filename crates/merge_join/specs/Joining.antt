-- Two chains of a merge, read where they stand.
-- Main definitions: CanJoin (both can be read, and ascend); goes_first and Takes (the next record of both).
use Rattle.std.specs.Prelude.{◌≡◌, Bool, true, false, cond, List, ◌∷◌, ℕ, get_or, ltb, eqb}
use Rattle.model.specs.Entries.{ascending, joined}
use Rattle.key_source.specs.declared.Place.{Place}
use Rattle.key_source.specs.Sources.{records_at, Sits}
use Rattle.merge_join.specs.declared.Taken.{Taken}

-- The records from both places on can be read, and ascend.
pub record CanJoin (ps : List ℕ) (p q : Place) : Type 0 where
  pub first_sits : Sits ps p
  pub second_sits : Sits ps q
  pub first_ascends : ascending (records_at ps p) ≡ true
  pub second_ascends : ascending (records_at ps q) ≡ true

-- Of two places past all pages without a record left, whether the next record is that of p: q has none, or a larger key.
unfoldable pub goes_first : List ℕ → Place → Place → Bool
goes_first ps p q = cond (eqb q.left 0) true (cond (eqb p.left 0) false (ltb (get_or ps p.at 0) (get_or ps q.at 0)))

-- The first record of both joined is taken off, and the others are those from the two places on.
pub record Takes (ps : List ℕ) (p q : Place) (t : Taken) : Type 0 where
  pub can_join : CanJoin ps t.first t.second
  pub records : joined (records_at ps p) (records_at ps q) ≡ t.entry ∷ joined (records_at ps t.first) (records_at ps t.second)
