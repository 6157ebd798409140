-- The row's words: those or-ed, the first that is sought, one put in place of the first 0, one taken out.
-- Main statements: folded-zero (words or-ed), ends_meet (a look from each end); found, not_found (the search);
-- appended_at, appended-none; without_at, without_none; part_turned (those behind a word move up); after_right (the row
-- after a step).
use mathlib.Core.Path.{◌≡◌, refl, sym, ap, ◌∙◌}
use mathlib.Core.Logic.{◌≢◌}
use mathlib.Core.Bool.{Bool, true, false, cond, not, ◌&&◌, and_assoc, and-true}
use mathlib.Core.List.{List, [], ◌∷◌, ◌++◌, append-nil}
use Prim.Native.Nat.{ℕ, zero, suc, ◌+◌, ◌-◌, ◌≤◌, ◌<◌}
use native.Mathlib.Numerals.{one-add, add-one}
use native.Mathlib.Omega.{arith}
use lib.ListN.{length, get_or, set, take, drop, drop_of_length-le, length-drop}
use lib.Seq.{drop-drop, take_all}
use Rattle.std.specs.Prelude.{fold, position, Some, None, Ok, Err}
use Rattle.std.specs.List.{position_or_len}
use Rattle.std.specs.Option.{unwrap_or}
use Rattle.std.proofs.lemmas.List.{drop-set, take-set, length-set}
use lib.Dec.{eqb, ltb}
use lib.Bits.{bit_or, or_add_and, and_le_r}
use borrow.Rule.Slice.PartMut.{mid_of, put_mid, Post-is}
use Rattle.model.specs.WaitingRow.{waiters_in, all_zero, appended, row_with, row_without, row_after}
use Rattle.model.specs.declared.StepAnswer.{StepAnswer}
use Rattle.model.specs.Answers.{StepReply}
use Rattle.model.specs.FreeList.{is_among}
use Rattle.model.proofs.Laws.Booleans.{eq_of_iff}
use Rattle.model.proofs.Laws.Lists.{Ord, lt, ge, ord, Cmp, same, diff, cmp, eqb_same, eqb-diff, lt-ltb, and_both, both-and, or_neither}
use Rattle.waiting_row.specs.Entry.{row_by}

-- ---- Words or-ed

or_some : (a b : ℕ) → a ≢ 0 → eqb (bit_or a b) 0 ≡ false
or_some a b n = eqb-diff (bit_or a b) 0 (λ e. n (omega (arith, e, or_add_and a b, and_le_r a b)))

or_test : (a b : ℕ) → eqb (bit_or a b) 0 ≡ (eqb a 0 && eqb b 0)
or_test a b = go (cmp a 0)
  where
    go : Cmp a 0 → eqb (bit_or a b) 0 ≡ (eqb a 0 && eqb b 0)
    go (same e) = rw e refl
    go (diff n) = rw (eqb-diff a 0 n) (or_some a b n)

-- Words or-ed one after the other.
folded : (a : ℕ) (ws : List ℕ) → eqb (fold (λ all w. bit_or all w) a ws) 0 ≡ (eqb a 0 && all_zero ws)
unfolding all_zero
folded a [] = sym (and-true (eqb a 0))
folded a (w ∷ ws) = folded (bit_or a w) ws ∙ rw (or_test a w) (and_assoc (eqb a 0) (eqb w 0) (all_zero ws))

pub folded-zero : (ws : List ℕ) → eqb (fold (λ all w. bit_or all w) 0 ws) 0 ≡ all_zero ws
folded-zero ws = folded 0 ws

-- All are 0 where those before a place and those from it on are.
zero-split : (k : ℕ) (row : List ℕ) → all_zero row ≡ (all_zero (take k row) && all_zero (drop k row))
unfolding all_zero
zero-split zero row = refl
zero-split (suc k) [] = refl
zero-split (suc k) (w ∷ ws) = rw (zero-split k ws) (sym (and_assoc (eqb w 0) (all_zero (take k ws)) (all_zero (drop k ws))))

zero_after : (k : ℕ) (row : List ℕ) → all_zero row ≡ true → all_zero (drop k row) ≡ true
zero_after k row e = (and_both (all_zero (take k row)) (all_zero (drop k row)) (sym (zero-split k row) ∙ e)).1

-- A look at eight words from each end of 8 to 16.
module _ (row : List ℕ) (l : length row ≤ 16) (h : 8 ≤ length row) where
  rest_zero : all_zero (drop (length row - 8) row) ≡ true → all_zero (drop 8 row) ≡ true
  rest_zero e =
      let at : (length row - 8) + (8 - (length row - 8)) ≡ 8 = omega (arith, l, h) in
      ap all_zero (sym (drop-drop (8 - (length row - 8)) (length row - 8) row ∙ ap (λ (k : ℕ). drop k row) at))
      ∙ zero_after (8 - (length row - 8)) (drop (length row - 8) row) e

  ends_meet : (all_zero (take 8 row) && all_zero (drop (length row - 8) row)) ≡ all_zero row
  ends_meet = eq_of_iff both one
    where
      both : (all_zero (take 8 row) && all_zero (drop (length row - 8) row)) ≡ true → all_zero row ≡ true
      both e =
          let b = and_both (all_zero (take 8 row)) (all_zero (drop (length row - 8) row)) e in
          zero-split 8 row ∙ both-and b.0 (rest_zero b.1)

      one : all_zero row ≡ true → (all_zero (take 8 row) && all_zero (drop (length row - 8) row)) ≡ true
      one e =
          both-and (and_both (all_zero (take 8 row)) (all_zero (drop 8 row)) (sym (zero-split 8 row) ∙ e)).0
          (zero_after (length row - 8) row e)

  pub ends_blank : all_zero (take 8 row) ≡ true
      → all_zero (take (length row - (length row - 8)) (drop (length row - 8) row)) ≡ all_zero row
  ends_blank e =
      ap all_zero (take_all (length row - (length row - 8)) (drop (length row - 8) row) (rw (length-drop (length row - 8) row) (omega arith)))
      ∙ ap (λ (t : Bool). t && all_zero (drop (length row - 8) row)) (sym e) ∙ ends_meet

  pub ends_set : all_zero (take 8 row) ≡ false → false ≡ all_zero row
  ends_set e = ap (λ (t : Bool). t && all_zero (drop (length row - 8) row)) (sym e) ∙ ends_meet

-- No word.
pub none-waits : (row : List ℕ) → length row < 1 → true ≡ all_zero row
unfolding all_zero
none-waits [] h = refl
none-waits (w ∷ ws) h = absurd (omega arith)

-- A first word that is not 0.
pub first-waits : (row : List ℕ) → 0 < length row → get_or row 0 0 ≢ 0 → eqb (get_or row 0 0) 0 ≡ all_zero row
unfolding all_zero
first-waits [] h n = absurd (omega arith)
first-waits (w ∷ ws) h n = rw (eqb-diff w 0 n) refl

-- A first word that is 0.
pub others_wait : (row : List ℕ) → 0 < length row → get_or row 0 0 ≡ 0
    → all_zero (take (length row - 1) (drop 1 row)) ≡ all_zero row
unfolding all_zero
others_wait [] h e = absurd (omega arith)
others_wait (w ∷ ws) h e = rw (e, take_all (length (w ∷ ws) - 1) ws (omega arith)) refl

-- Two looks or-ed.
pub both_zero : (a b : ℕ) (x y : Bool) → eqb a 0 ≡ x → eqb b 0 ≡ y → eqb (bit_or a b) 0 ≡ (x && y)
both_zero a b x y e f = rw (or_test a b, e, f) refl

-- ---- The first word that is sought

-- Its index; the row's length, where none is.
abbrev pub first_of : ℕ → List ℕ → ℕ
first_of w row = position_or_len (λ x. eqb x w) row

module _ (w : ℕ) (row : List ℕ) where
  pub found : (i : ℕ) → position (λ x. eqb x w) row ≡ Some i → (i ≡ first_of w row) × (first_of w row < length row)
  found i = go (ord (first_of w row) (length row))
    where
      go : Ord (first_of w row) (length row) → cond (ltb (first_of w row) (length row)) (Some (first_of w row)) None ≡ Some i
          → (i ≡ first_of w row) × (first_of w row < length row)
      go (lt h t) e = let f : Some (first_of w row) ≡ Some i = rw t at e in (cc, h)
      go (ge h t) e = let f : None ≡ Some i = rw t at e in absurd cc

  pub not_found : position (λ x. eqb x w) row ≡ None → length row ≤ first_of w row
  not_found = go (ord (first_of w row) (length row))
    where
      go : Ord (first_of w row) (length row) → cond (ltb (first_of w row) (length row)) (Some (first_of w row)) None ≡ None
          → length row ≤ first_of w row
      go (lt h t) e = let f : Some (first_of w row) ≡ None = rw t at e in absurd cc
      go (ge h t) e = h

-- The words before the first 0 are those who wait.
first_waiters : (row : List ℕ) → first_of 0 row ≡ length (waiters_in row)
unfolding waiters_in
first_waiters [] = refl
first_waiters (x ∷ xs) = go (cmp x 0) (first_waiters xs)
  where
    go : Cmp x 0 → first_of 0 xs ≡ length (waiters_in xs) → first_of 0 (x ∷ xs) ≡ length (waiters_in (x ∷ xs))
    go (same e) ih = rw (eqb_same x 0 e) refl
    go (diff n) ih = rw (eqb-diff x 0 n, one-add) (ap suc ih)

first_within : (w : ℕ) (row : List ℕ) → first_of w row ≤ length row
first_within w [] = omega arith
first_within w (x ∷ xs) = go (cmp x w) (first_within w xs)
  where
    go : Cmp x w → first_of w xs ≤ length xs → first_of w (x ∷ xs) ≤ length (x ∷ xs)
    go (same e) ih = rw (eqb_same x w e) (omega arith)
    go (diff n) ih = rw (eqb-diff x w n) (omega (arith, ih))

pub waiters_are : (row : List ℕ) → unwrap_or (position (λ x. eqb x 0) row) (length row) ≡ length (waiters_in row)
waiters_are row = go (ord (first_of 0 row) (length row)) ∙ first_waiters row
  where
    go : Ord (first_of 0 row) (length row) → unwrap_or (cond (ltb (first_of 0 row) (length row)) (Some (first_of 0 row)) None) (length row) ≡ first_of 0 row
    go (lt h t) = rw t refl
    go (ge h t) = rw t (let k = first_within 0 row in omega arith)

pub waiters_fit : (row : List ℕ) → length (waiters_in row) ≤ length row
unfolding waiters_in
waiters_fit [] = omega arith
waiters_fit (x ∷ xs) = go (cmp x 0) (waiters_fit xs)
  where
    go : Cmp x 0 → length (waiters_in xs) ≤ length xs → length (waiters_in (x ∷ xs)) ≤ length (x ∷ xs)
    go (same e) ih = rw (eqb_same x 0 e) (omega arith)
    go (diff n) ih = rw (eqb-diff x 0 n) (omega (arith, ih))

-- ---- A word joins

pub appended_at : (w : ℕ) (row : List ℕ) → first_of 0 row < length row → set row (first_of 0 row) w ≡ appended w row
unfolding appended
appended_at w [] h = absurd (omega arith)
appended_at w (x ∷ xs) h = go (cmp x 0) (λ k. appended_at w xs k)
  where
    go : Cmp x 0 → (first_of 0 xs < length xs → set xs (first_of 0 xs) w ≡ appended w xs) → set (x ∷ xs) (first_of 0 (x ∷ xs)) w ≡ appended w (x ∷ xs)
    go (same e) ih = rw (eqb_same x 0 e) refl
    go (diff n) ih =
        let at : first_of 0 (x ∷ xs) ≡ 1 + first_of 0 xs = rw (eqb-diff x 0 n) refl in
        rw (eqb-diff x 0 n, one-add) (ap (λ (l : List ℕ). x ∷ l) (ih (omega (arith, at, h))))

pub appended-none : (w : ℕ) (row : List ℕ) → length row ≤ first_of 0 row → row ≡ appended w row
unfolding appended
appended-none w [] h = refl
appended-none w (x ∷ xs) h = go (cmp x 0) (λ k. appended-none w xs k)
  where
    go : Cmp x 0 → (length xs ≤ first_of 0 xs → xs ≡ appended w xs) → x ∷ xs ≡ appended w (x ∷ xs)
    go (same e) ih = let at : first_of 0 (x ∷ xs) ≡ 0 = rw (eqb_same x 0 e) refl in absurd (omega (arith, at, h))
    go (diff n) ih =
        let at : first_of 0 (x ∷ xs) ≡ 1 + first_of 0 xs = rw (eqb-diff x 0 n) refl in
        rw (eqb-diff x 0 n) (ap (λ (l : List ℕ). x ∷ l) (ih (omega (arith, at, h))))

-- ---- A word leaves

pub without_at : (q : ℕ) (row : List ℕ) → first_of (q + 1) row < length row
    → take (first_of (q + 1) row) row ++ (drop (suc (first_of (q + 1) row)) row ++ (0 ∷ [])) ≡ row_without q row
unfolding row_without
without_at q [] h = absurd (omega arith)
without_at q (x ∷ xs) h = go (cmp x (q + 1)) (λ k. without_at q xs k)
  where
    go : Cmp x (q + 1) → (first_of (q + 1) xs < length xs → take (first_of (q + 1) xs) xs ++ (drop (suc (first_of (q + 1) xs)) xs ++ (0 ∷ [])) ≡ row_without q xs) → take (first_of (q + 1) (x ∷ xs)) (x ∷ xs) ++ (drop (suc (first_of (q + 1) (x ∷ xs))) (x ∷ xs) ++ (0 ∷ [])) ≡ row_without q (x ∷ xs)
    go (same e) ih = rw (eqb_same x (q + 1) e) refl
    go (diff n) ih =
        let at : first_of (q + 1) (x ∷ xs) ≡ 1 + first_of (q + 1) xs = rw (eqb-diff x (q + 1) n) refl in
        rw (eqb-diff x (q + 1) n, one-add) (ap (λ (l : List ℕ). x ∷ l) (ih (omega (arith, at, h))))

pub without_none : (q : ℕ) (row : List ℕ) → length row ≤ first_of (q + 1) row → row ≡ row_without q row
unfolding row_without
without_none q [] h = refl
without_none q (x ∷ xs) h = go (cmp x (q + 1)) (λ k. without_none q xs k)
  where
    go : Cmp x (q + 1) → (length xs ≤ first_of (q + 1) xs → xs ≡ row_without q xs) → x ∷ xs ≡ row_without q (x ∷ xs)
    go (same e) ih = let at : first_of (q + 1) (x ∷ xs) ≡ 0 = rw (eqb_same x (q + 1) e) refl in absurd (omega (arith, at, h))
    go (diff n) ih =
        let at : first_of (q + 1) (x ∷ xs) ≡ 1 + first_of (q + 1) xs = rw (eqb-diff x (q + 1) n) refl in
        rw (eqb-diff x (q + 1) n) (ap (λ (l : List ℕ). x ∷ l) (ih (omega (arith, at, h))))

-- ---- Words move up

-- The part from i on, whose first word is 0 now, turned by one and put back.
pub part_turned : (row ys : List ℕ) (i : ℕ) → i < length row
    → ys ≡ drop 1 (mid_of i (length (set row i 0) - i) (set row i 0)) ++ take 1 (mid_of i (length (set row i 0) - i) (set row i 0))
    → put_mid i (length (set row i 0) - i) (set row i 0) ys ≡ take i row ++ (drop (suc i) row ++ (0 ∷ []))
part_turned row ys i h e =
    let long : length (set row i 0) ≡ length row = length-set row i 0 in
    let part : drop i (set row i 0) ≡ 0 ∷ drop (i + 1) row = drop-set row i 0 h in
    let rest : take (length (set row i 0) - i) (drop i (set row i 0)) ≡ 0 ∷ drop (i + 1) row = take_all (length (set row i 0) - i) (drop i (set row i 0)) (rw (length-drop i (set row i 0)) (omega arith)) ∙ part in
    let up : ys ≡ drop (suc i) row ++ (0 ∷ []) = e ∙ ap (λ (l : List ℕ). drop 1 l ++ take 1 l) rest ∙ ap (λ (k : ℕ). drop k row ++ (0 ∷ [])) (add-one i) in
    ap (λ (l : List ℕ). take i (set row i 0) ++ (ys ++ l)) (Post-is i (length (set row i 0)) (set row i 0) (omega (arith, long, h)) ∙ drop_of_length-le (set row i 0) {i = length (set row i 0)} (omega arith))
    ∙ ap (λ (l : List ℕ). l ++ (ys ++ [])) (take-set row i 0)
    ∙ ap (λ (l : List ℕ). take i row ++ l) (append-nil ys ∙ up)

-- ---- After a call

-- Who is not in the row leaves it as it is.
left_absent : (q : ℕ) (row : List ℕ) → is_among (q + 1) row ≡ false → row_without q row ≡ row
unfolding row_without is_among
left_absent q [] n = refl
left_absent q (x ∷ xs) n =
    let k = or_neither (eqb x (q + 1)) (is_among (q + 1) xs) n in
    rw (k.0, left_absent q xs k.1) refl

-- After a step of party q, of whom it is known whether its word is in the row.
pub after_right : (waits : Bool) (q : ℕ) (row : List ℕ) (a : StepReply) → q < 16 → waits ≡ is_among (q + 1) row
    → row_by waits q row a ≡ row_after q row a
unfolding row_by row_after row_with
after_right waits q row (Ok StepAnswer.Waiting) h known = rw (lt-ltb q 16 h, sym known) (go waits)
  where
    go : (w : Bool) → cond (not w && true) (appended (q + 1) row) row ≡ cond w row (appended (q + 1) row)
    go true = refl
    go false = refl
after_right waits q row (Ok StepAnswer.Moved) h known = go waits known
  where
    go : (w : Bool) → w ≡ is_among (q + 1) row → cond w (row_without q row) row ≡ row_without q row
    go true e = refl
    go false e = sym (left_absent q row (sym e))
after_right waits q row (Ok (StepAnswer.Done o s)) h known = refl
after_right waits q row (Err n) h known = refl
