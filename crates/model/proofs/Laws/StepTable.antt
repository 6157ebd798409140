-- The table of the steps (specs/Steps/Table.antt) beside what is said of steps elsewhere: each row stands at its own
-- number, and the operations that it names are those that have the step.
-- Main statements: row_numbers, who_has.
use mathlib.Core.Path.{◌≡◌, refl, sym, subst}
use mathlib.Core.Bool.{Bool, true, false, not, cond, ◌&&◌, ◌||◌, and-false}
use Prim.Native.Nat.{ℕ, ◌≤◌}
use native.Mathlib.Omega.{arith}
use lib.ListN.{get_or-eq_default}
use lib.Dec.{eqb}
use Rattle.model.specs.Sizes.{within}
use Rattle.model.specs.Steps.Table.{Who, StepRow, row_table, no_row, row_at}
use Rattle.model.specs.Steps.Dispatch.{has_step}
use Rattle.model.proofs.Laws.Lists.{Ord, lt, ge, ord, le-leb, lt-leb, and_both, all_pass, passed_below}

-- Each row has its place as its number.
pub row_numbers : all_pass (λ k (x : StepRow). eqb x.number k) 0 row_table ≡ true
row_numbers = refl

-- ---- Who has a step

abbrev either : (Bool → Bool) → Bool
either t = t true && t false

either_way : (t : Bool → Bool) → either t ≡ true → (b : Bool) → t b ≡ true
either_way t h true = (and_both (t true) (t false) h).0
either_way t h false = (and_both (t true) (t false) h).1

same : (a b : Bool) → cond a b (not b) ≡ true → a ≡ b
same true true e = refl
same true false e = sym e
same false true e = e
same false false e = refl

-- Whether two name the same operations.
abbrev agree : Who → Who → Who
agree x y f i d = cond (x f i d) (y f i d) (not (y f i d))

abbrev alike : Who → Who → Bool
alike x y = either (λ f. either (λ i. either (agree x y f i)))

alike_is : (x y : Who) → alike x y ≡ true → (f i d : Bool) → x f i d ≡ y f i d
alike_is x y h f i d =
    let two : either (λ b. either (agree x y f b)) ≡ true = either_way (λ a. either (λ b. either (agree x y a b))) h f in
    let one : either (agree x y f i) ≡ true = either_way (λ b. either (agree x y f b)) two i in
    same (x f i d) (y f i d) (either_way (agree x y f i) one d)

-- has_step, by which of the three operations it is.
abbrev has : ℕ → Who
has k f i d = (f && within 1 9 k) || (i && (within 1 8 k || within 10 22 k)) || (d && (within 1 8 k || within 10 14 k || within 23 30 k))

none_past : (k : ℕ) → 31 ≤ k → (f i d : Bool) → has k f i d ≡ false
none_past k h f i d = rw (
  lt-leb k 8 (omega arith),
  lt-leb k 9 (omega arith),
  lt-leb k 14 (omega arith),
  lt-leb k 22 (omega arith),
  lt-leb k 30 (omega arith),
  le-leb 1 k (omega arith),
  le-leb 10 k (omega arith),
  le-leb 23 k (omega arith),
  and-false f,
  and-false i,
  and-false d,
) refl

who_is : (k : ℕ) (f i d : Bool) → (row_at k).who f i d ≡ has k f i d
who_is k f i d = go (ord k 31)
  where
    go : Ord k 31 → (row_at k).who f i d ≡ has k f i d
    go (lt h _) = alike_is (row_at k).who (has k) (passed_below (λ k (x : StepRow). alike x.who (has k)) no_row row_table refl k h) f i d
    go (ge h _) = subst (λ (x : StepRow). x.who f i d ≡ has k f i d) (sym (get_or-eq_default row_table no_row h)) (sym (none_past k h f i d))

-- The operations that a row names are those that have the step.
pub who_has : (operation k : ℕ) → (row_at k).who (eqb operation 1) (eqb operation 2) (eqb operation 3) ≡ has_step operation k
unfolding has_step
who_has operation k = who_is k (eqb operation 1) (eqb operation 2) (eqb operation 3)
