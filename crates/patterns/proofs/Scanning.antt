-- Digits in a line: how many there are, their value, and the number that they are.
-- Main statements: digit_turn (a digit passed), value_next; scan_few, scan_many (the digits at the head of a line); run_short, run_long (of its first bytes); none_found, large_found, number_found (the answer
-- at a place of a line); small_enough, too_large (a value made a number of 32 bits).
use mathlib.Core.Path.{◌≡◌, refl, ap, ◌∙◌}
use mathlib.Core.Bool.{true}
use mathlib.Core.List.{List, [], ◌∷◌}
use Prim.Native.Nat.{ℕ, zero, suc, ◌+◌, ◌-◌, ◌*◌, ◌^◌, ◌≤◌, ◌<◌}
use native.Mathlib.Nat.{add-zero, zero-add, pow-suc}
use native.Mathlib.Numerals.{add-one, one-add}
use native.Mathlib.Omega.{arith}
use lib.ListN.{length, get_or, take, drop, length-drop}
use lib.Dec.{eqb, leb}
use borrow.Author.Tests.{leb-true, ne_eqb, eqb-false, lt-ltb, le-leb, lt-leb}
use Rattle.std.specs.Prelude.{None, Some, Result, Ok, Err}
use Rattle.std.specs.Result.{OkIff, result_ok}
use Rattle.std.specs.List.{prefix_len}
use Rattle.std.proofs.lemmas.List.Sums.{prefix_len-le-length}
use mathlib.Core.Logic.{◌⊎◌, inl, inr}
use Rattle.patterns.specs.Numbers.{is_digit, all_digits, value_from, value_of, most_digits, largest, unread, ended, scan, scanned}
use Rattle.patterns.proofs.Tests.{Told, holds, fails, tell, both_true, next_of}

-- ---- The digits of a list one by one

-- What is known of the digits from place i on, after those that have the value v.
pub record Digit (ds : List ℕ) (i v : ℕ) : Type 0 where
  pub least : 48 ≤ get_or ds i 0
  pub most : get_or ds i 0 ≤ 57
  pub rest : all_digits (drop (i + 1) ds) ≡ true
  pub value : value_from v (drop i ds) ≡ value_from (v * 10 + (get_or ds i 0 - 48)) (drop (i + 1) ds)

pub digit_turn : (ds : List ℕ) (i v : ℕ) → i < length ds → all_digits (drop i ds) ≡ true → Digit ds i v
unfolding all_digits is_digit value_from
digit_turn ds i v h d =
    let next = next_of ds i h in
    let all = both_true (is_digit (get_or ds i 0)) (all_digits (drop (i + 1) ds)) (rw next at d) in
    let range = both_true (leb 48 (get_or ds i 0)) (leb (get_or ds i 0) 57) all.0 in
    record { least = leb-true 48 (get_or ds i 0) range.0; most = leb-true (get_or ds i 0) 57 range.1; rest = all.1; value = ap (value_from v) next }

pub value_next : (k v c : ℕ) → v < 10 ^ k → c ≤ 57 → v * 10 + (c - 48) < 10 ^ (k + 1)
value_next k v c s h = rw (add-one, pow-suc) (omega arith)

-- ---- The digits at the head of a line

abbrev pub run : List ℕ → ℕ
run l = prefix_len is_digit l

pub all_run : (l : List ℕ) → all_digits (take (run l) l) ≡ true
unfolding all_digits
all_run [] = refl
all_run (c ∷ l) = go (tell (is_digit c)) (all_run l)
  where
    go : Told (is_digit c) → all_digits (take (run l) l) ≡ true → all_digits (take (run (c ∷ l)) (c ∷ l)) ≡ true
    go (holds t) ih = rw (t, one-add, t) ih
    go (fails t) ih = rw t

-- After k digits of value v.
pub scan_few : (l : List ℕ) (k v : ℕ) → k + run l ≤ most_digits → scan k v l ≡ ended (k + run l) (value_from v (take (run l) l)) (drop (run l) l)
unfolding scan value_from
scan_few [] k v h = rw add-zero
scan_few (c ∷ l) k v h = go (tell (is_digit c)) h (scan_few l (suc k) (v * 10 + (c - 48)))
  where
    go : Told (is_digit c) → k + run (c ∷ l) ≤ most_digits
        → (suc k + run l ≤ most_digits → scan (suc k) (v * 10 + (c - 48)) l ≡ ended (suc k + run l) (value_from (v * 10 + (c - 48)) (take (run l) l)) (drop (run l) l))
        → scan k v (c ∷ l) ≡ ended (k + run (c ∷ l)) (value_from v (take (run (c ∷ l)) (c ∷ l))) (drop (run (c ∷ l)) (c ∷ l))
    go (holds t) few ih =
        let less : suc k + run l ≤ most_digits = omega (arith, rw t at few) in
        let room : k ≡ most_digits → ⊥ = λ e. omega arith in
        let next : suc k + run l ≡ k + suc (run l) = omega arith in
        rw (t, ne_eqb k most_digits room, one-add) (ih less ∙ ap (λ (n : ℕ). ended n (value_from (v * 10 + (c - 48)) (take (run l) l)) (drop (run l) l)) next)
    go (fails t) few ih = rw (t, add-zero)

pub scan_many : (l : List ℕ) (k v : ℕ) → k ≤ most_digits → most_digits < k + run l → scan k v l ≡ unread
unfolding scan
scan_many [] k v few many = absurd (omega arith)
scan_many (c ∷ l) k v few many = go (tell (is_digit c)) (tell (eqb k most_digits)) many (scan_many l (suc k) (v * 10 + (c - 48)))
  where
    go : Told (is_digit c) → Told (eqb k most_digits) → most_digits < k + run (c ∷ l)
        → (suc k ≤ most_digits → most_digits < suc k + run l → scan (suc k) (v * 10 + (c - 48)) l ≡ unread) → scan k v (c ∷ l) ≡ unread
    go (holds t) (holds q) more ih = rw (t, q)
    go (holds t) (fails q) more ih = rw (t, q) (ih (omega (arith, eqb-false k most_digits q)) (omega (arith, rw t at more)))
    go (fails t) q more ih = absurd (omega (arith, rw t at more))

-- Of the first m bytes: all of the digits where there are fewer than m, else m at least.
run_short : (m : ℕ) (l : List ℕ) → run (take m l) < m → run (take m l) ≡ run l
run_short zero l h = absurd (omega arith)
run_short (suc m) [] h = refl
run_short (suc m) (c ∷ l) h = go (tell (is_digit c)) h (run_short m l)
  where
    go : Told (is_digit c) → run (c ∷ take m l) < suc m → (run (take m l) < m → run (take m l) ≡ run l) → run (c ∷ take m l) ≡ run (c ∷ l)
    go (holds t) short ih = rw (t, ih (omega (arith, rw t at short))) refl
    go (fails t) short ih = rw t

run_long : (m : ℕ) (l : List ℕ) → m ≤ run (take m l) → m ≤ run l
run_long zero l h = omega arith
run_long (suc m) [] h = absurd (omega arith)
run_long (suc m) (c ∷ l) h = go (tell (is_digit c)) h (run_long m l)
  where
    go : Told (is_digit c) → suc m ≤ run (c ∷ take m l) → (m ≤ run (take m l) → m ≤ run l) → suc m ≤ run (c ∷ l)
    go (holds t) long ih = rw t (omega (arith, ih (omega (arith, rw t at long))))
    go (fails t) long ih = absurd (omega (arith, rw t at long))

-- ---- The number at place i of the line l, which goes on there with r, and this with n digits, an eleventh being the last

module _ (l r : List ℕ) (i n : ℕ) (within : i ≤ length l) (whole : r ≡ drop i l) (looked : n ≡ run (take (suc most_digits) r)) where
  counted : n ≤ most_digits → n ≡ run r
  counted few = looked ∙ run_short (suc most_digits) r (omega (arith, looked, few))

  pub all_found : n ≤ most_digits → all_digits (take n r) ≡ true
  all_found few = rw (counted few) (all_run r)

  found : n ≤ most_digits → scan 0 0 (drop i l) ≡ ended n (value_of (take n r)) (drop n r)
  unfolding value_of
  found few = rw (← whole, counted few) (rw zero-add at (scan_few r 0 0 (omega (arith, counted few))))

  pub none_found : (n ≡ 0) ⊎ ((n ≡ 0 → ⊥) × (most_digits < n)) → None ≡ scanned (length l) (scan 0 0 (drop i l))
  unfolding scanned ended
  none_found (inl none) = rw (found (omega arith), none) refl
  none_found (inr many) =
      let more = run_long (suc most_digits) r (omega (arith, looked, many.1)) in
      rw (← whole, scan_many r 0 0 (omega arith) (omega (arith, more))) refl

  pub large_found : (n ≡ 0 → ⊥) → n ≤ most_digits → (value_of (take n r) ≤ largest → ⊥) → None ≡ scanned (length l) (scan 0 0 (drop i l))
  unfolding scanned ended
  large_found some few large = rw (found few, lt-ltb 0 n (omega arith), lt-leb (value_of (take n r)) largest (omega arith)) refl

  pub number_found : (n ≡ 0 → ⊥) → n ≤ most_digits → value_of (take n r) ≤ largest
      → Some (record { value = value_of (take n r); next = i + n }) ≡ scanned (length l) (scan 0 0 (drop i l))
  unfolding scanned ended
  number_found some few small =
      let left : length l - length (drop n r) ≡ i + n = omega (arith, length-drop n r, ap length whole, length-drop i l, prefix_len-le-length is_digit r, counted few) in
      rw (found few, lt-ltb 0 n (omega arith), le-leb (value_of (take n r)) largest small, left) refl

-- ---- A value made a number of 32 bits

pub small_enough : {E : Type 0} (r : Result ℕ E) (P : Type 0) (v n : ℕ) → OkIff r P v → Some n ≡ result_ok r → (n ≡ v) × P
small_enough (Ok x) P v n h e =
    let same : n ≡ x = cc in
    (same ∙ h.1, h.0)
small_enough (Err x) P v n h e = cc

pub too_large : {E : Type 0} (r : Result ℕ E) (P : Type 0) (v : ℕ) → OkIff r P v → None ≡ result_ok r → P → ⊥
too_large (Ok x) P v h e = cc
too_large (Err x) P v h e = h
