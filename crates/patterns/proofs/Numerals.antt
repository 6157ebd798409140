-- What is read as a number is a numeral of the grammar, and every numeral is read; a number in decimal is a numeral of its value.
-- Main statements: scan_complete, scan_sound (for a numeral before a byte that is no digit); decimal_numeral, decimal_short, no_leading_zero.
use mathlib.Core.Path.{◌≡◌, refl, sym, ap, ◌∙◌}
use mathlib.Core.Bool.{Bool, true, false, cond, not, ◌&&◌, true≢false}
use mathlib.Core.List.{List, [], ◌∷◌, ◌++◌}
use Prim.Native.Nat.{ℕ, zero, suc, ◌+◌, ◌-◌, ◌*◌, ◌/◌, ◌%◌, ◌^◌, ◌≤◌, ◌<◌}
use native.Mathlib.Nat.{add-zero, pow-zero, pow-suc}
use native.Mathlib.Omega.{arith}
use lib.ListN.{length, get_or, get_or-append}
use lib.Dec.{eqb, leb, ltb}
use borrow.Author.Tests.{lt-ltb, le-leb, ne_eqb, ltb-true, leb-true, eqb-false, ltb-false}
use Rattle.patterns.specs.Numbers.{is_digit, all_digits, value_from, value_of, most_digits, largest, unread, read, ended, scan, digits, width, width_of, decimal}
use Rattle.patterns.specs.Grammar.{Numeral}
use Rattle.patterns.proofs.Tests.{Told, holds, fails, tell, both_true}
use Rattle.patterns.proofs.Spelling.{width_more, width-done, length_digits, length-decimal}

-- No digit stands at the head of a line.
abbrev pub stops : List ℕ → Bool
stops l = not (is_digit (get_or l 0 0))

-- ---- Every numeral is read

scan_stopped : (k v : ℕ) (rest : List ℕ) → stops rest ≡ true → scan k v rest ≡ ended k v rest
unfolding scan
scan_stopped k v [] h = refl
scan_stopped k v (c ∷ l) h = go (is_digit c) h
  where
    go : (t : Bool) → not t ≡ true → cond t (cond (eqb k most_digits) unread (scan (suc k) (v * 10 + (c - 48)) l)) (ended k v (c ∷ l)) ≡ ended k v (c ∷ l)
    go true e = absurd (true≢false (sym e))
    go false e = refl

scan-digits : (ds rest : List ℕ) (k v : ℕ) → all_digits ds ≡ true → k + length ds ≤ most_digits → stops rest ≡ true
    → scan k v (ds ++ rest) ≡ ended (k + length ds) (value_from v ds) rest
unfolding scan all_digits value_from
scan-digits [] rest k v d few h = rw add-zero (scan_stopped k v rest h)
scan-digits (c ∷ ds) rest k v d few h =
    let all = both_true (is_digit c) (all_digits ds) d in
    let room : k ≡ most_digits → ⊥ = λ e. omega arith in
    let next : suc k + length ds ≡ k + suc (length ds) = omega arith in
    rw (all.0, ne_eqb k most_digits room) (scan-digits ds rest (suc k) (v * 10 + (c - 48)) all.1 (omega arith) h ∙ ap (λ (n : ℕ). ended n (value_from (v * 10 + (c - 48)) ds) rest) next)

pub scan_complete : (ds rest : List ℕ) (v : ℕ) → Numeral ds v → stops rest ≡ true → scan 0 0 (ds ++ rest) ≡ read v rest
unfolding ended value_of
scan_complete ds rest v n h =
    let few : 0 + length ds ≤ most_digits = omega (arith, n.few) in
    scan-digits ds rest 0 0 n.digits few h ∙ rw (lt-ltb 0 (0 + length ds) (omega (arith, n.some)), n.value, le-leb v largest n.small)

-- ---- What is read is a numeral

-- The digits that go on after k digits of value v.
record Passed (k v : ℕ) (l : List ℕ) (w : ℕ) (rest : List ℕ) : Type 0 where
  passed : List ℕ
  whole : l ≡ passed ++ rest
  digits : all_digits passed ≡ true
  some : 1 ≤ k + length passed
  few : k + length passed ≤ most_digits
  value : value_from v passed ≡ w
  small : w ≤ largest

ended_sound : (k v : ℕ) (l : List ℕ) (w : ℕ) (rest : List ℕ) → k ≤ most_digits → ended k v l ≡ read w rest → Passed k v l w rest
unfolding ended all_digits value_from
ended_sound k v l w rest few = go (tell (ltb 0 k && leb v largest))
  where
    go : Told (ltb 0 k && leb v largest) → ended k v l ≡ read w rest → Passed k v l w rest
    go (holds t) e =
        let tests = both_true (ltb 0 k) (leb v largest) t in
        let read_it : read v l ≡ read w rest = rw t at e in
        let same : v ≡ w = cc in
        record {
          passed = [];
          whole = cc;
          digits = refl;
          some = omega (arith, ltb-true 0 k tests.0);
          few = omega arith;
          value = same;
          small = omega (arith, same, leb-true v largest tests.1);
        }
    go (fails t) e =
        let unread_it : unread ≡ read w rest = rw t at e in
        absurd (let z : ◌≡◌ {A = ℕ} 0 1 = cc in omega arith)

digit_passed : (k v c : ℕ) (l : List ℕ) (w : ℕ) (rest : List ℕ) → is_digit c ≡ true → Passed (suc k) (v * 10 + (c - 48)) l w rest → Passed k v (c ∷ l) w rest
unfolding all_digits value_from
digit_passed k v c l w rest d p = record {
  passed = c ∷ p.passed;
  whole = ap (λ (m : List ℕ). c ∷ m) p.whole;
  digits = rw d p.digits;
  some = omega (arith, p.some);
  few = omega (arith, p.few);
  value = p.value;
  small = p.small;
}

scan_passed : (l : List ℕ) (k v w : ℕ) (rest : List ℕ) → k ≤ most_digits → scan k v l ≡ read w rest → Passed k v l w rest
unfolding scan
scan_passed [] k v w rest few e = ended_sound k v [] w rest few e
scan_passed (c ∷ l) k v w rest few e = go (tell (is_digit c)) (tell (eqb k most_digits)) (scan_passed l (suc k) (v * 10 + (c - 48)) w rest)
  where
    go : Told (is_digit c) → Told (eqb k most_digits) → (suc k ≤ most_digits → scan (suc k) (v * 10 + (c - 48)) l ≡ read w rest → Passed (suc k) (v * 10 + (c - 48)) l w rest)
        → Passed k v (c ∷ l) w rest
    go (holds d) (holds q) ih =
        let none : unread ≡ read w rest = rw (d, q) at e in
        absurd (let z : ◌≡◌ {A = ℕ} 0 1 = cc in omega arith)
    go (holds d) (fails q) ih =
        let less : suc k ≤ most_digits = omega (arith, eqb-false k most_digits q) in
        digit_passed k v c l w rest d (ih less (rw (d, q) at e))
    go (fails d) t ih = ended_sound k v (c ∷ l) w rest few (rw d at e)

pub record Read (l : List ℕ) (w : ℕ) (rest : List ℕ) : Type 0 where
  pub numeral : List ℕ
  pub whole : l ≡ numeral ++ rest
  pub right : Numeral numeral w

pub scan_sound : (l : List ℕ) (w : ℕ) (rest : List ℕ) → scan 0 0 l ≡ read w rest → Read l w rest
unfolding value_of
scan_sound l w rest e =
    let p = scan_passed l 0 0 w rest (omega arith) e in
    record {
      numeral = p.passed;
      whole = p.whole;
      right = record { some = omega (arith, p.some); few = omega (arith, p.few); digits = p.digits; value = p.value; small = p.small };
    }

-- ---- A number in decimal

value_last : (ds : List ℕ) (v c : ℕ) → value_from v (ds ++ (c ∷ [])) ≡ value_from v ds * 10 + (c - 48)
unfolding value_from
value_last [] v c = refl
value_last (d ∷ ds) v c = value_last ds (v * 10 + (d - 48)) c

value_digits : (k n : ℕ) → n < 10 ^ k → value_from 0 (digits k n) ≡ n
unfolding digits value_from
value_digits zero n h = omega (arith, rw pow-zero at h)
value_digits (suc k) n h =
    let ten : n < 10 ^ k * 10 = rw pow-suc at h in
    let front = value_digits k (n / 10) (omega arith) in
    value_last (digits k (n / 10)) 0 (48 + n % 10) ∙ rw front (omega arith)

all_append : (ds : List ℕ) (c : ℕ) → all_digits ds ≡ true → is_digit c ≡ true → all_digits (ds ++ (c ∷ [])) ≡ true
unfolding all_digits
all_append [] c h d = rw d refl
all_append (b ∷ ds) c h d =
    let all = both_true (is_digit b) (all_digits ds) h in
    rw all.0 (all_append ds c all.1 d)

a_digit : (c : ℕ) → 48 ≤ c → c ≤ 57 → is_digit c ≡ true
unfolding is_digit
a_digit c h k = rw (le-leb 48 c h, le-leb c 57 k)

all_digits_lem : (k n : ℕ) → all_digits (digits k n) ≡ true
unfolding digits all_digits
all_digits_lem zero n = refl
all_digits_lem (suc k) n = all_append (digits k (n / 10)) (48 + n % 10) (all_digits_lem k (n / 10)) (a_digit (48 + n % 10) (omega arith) (omega arith))

-- As many digits as the number has hold it.
width-holds : (f n : ℕ) → n < 10 ^ f → n < 10 ^ width f n
unfolding width
width-holds zero n h = h
width-holds (suc f) n h = go (tell (ltb 0 n)) (width-holds f (n / 10))
  where
    go : Told (ltb 0 n) → (n / 10 < 10 ^ f → n / 10 < 10 ^ width f (n / 10)) → n < 10 ^ cond (ltb 0 n) (suc (width f (n / 10))) 0
    go (holds t) ih =
        let ten : n < 10 ^ f * 10 = rw pow-suc at h in
        let less = ih (omega arith) in
        rw (t, pow-suc) (omega arith)
    go (fails t) ih = rw t (omega (arith, ltb-false 0 n t))

width_few : (f n : ℕ) → width f n ≤ f
unfolding width
width_few zero n = omega arith
width_few (suc f) n = go (ltb 0 n) (width_few f (n / 10))
  where
    go : (t : Bool) → width f (n / 10) ≤ f → cond t (suc (width f (n / 10))) 0 ≤ suc f
    go true h = omega arith
    go false h = omega arith

pub decimal_numeral : (n : ℕ) → n ≤ largest → Numeral (decimal n) n
unfolding decimal value_of width_of
decimal_numeral n h =
    let few = width_few 9 (n / 10) in
    let front : n / 10 < 10 ^ width 9 (n / 10) = width-holds 9 (n / 10) (omega arith) in
    let ten : 10 ^ suc (width 9 (n / 10)) ≡ 10 ^ width 9 (n / 10) * 10 = pow-suc 10 (width 9 (n / 10)) in
    let wide : 1 + width 9 (n / 10) ≡ suc (width 9 (n / 10)) = omega arith in
    let holds_it : n < 10 ^ (1 + width 9 (n / 10)) = rw (wide, ten) (omega arith) in
    let long = length_digits (1 + width 9 (n / 10)) n in
    record {
      some = omega (arith, long);
      few = omega (arith, long, few);
      digits = all_digits_lem (1 + width 9 (n / 10)) n;
      value = value_digits (1 + width 9 (n / 10)) n holds_it;
      small = h;
    }

pub decimal_short : (n : ℕ) → length (decimal n) ≤ most_digits
unfolding width_of
decimal_short n = omega (arith, length-decimal n, width_few 9 (n / 10))

-- ---- No leading zero

-- The first of k + 1 digits is not 0 where the number has that many.
first_digit : (k n : ℕ) → 10 ^ k ≤ n → n < 10 ^ suc k → get_or (digits (suc k) n) 0 0 ≡ 48 → ⊥
unfolding digits
first_digit zero n low high e = omega (arith, rw pow-zero at low, rw pow-suc at high, pow-zero 10)
first_digit (suc k) n low high e =
    let least : 10 ^ k * 10 ≤ n = rw pow-suc at low in
    let most : n < 10 ^ suc k * 10 = rw pow-suc at high in
    let front = digits (suc k) (n / 10) in
    let long : 0 < length front = omega (arith, length_digits (suc k) (n / 10)) in
    first_digit k (n / 10) (omega arith) (omega arith) (sym (get_or-append front ((48 + n % 10) ∷ []) 0 0 long) ∙ e)

one_digit : (n : ℕ) → get_or (digits (suc 0) n) 0 0 ≡ 48 → n / 10 ≤ 0 → n ≡ 0
unfolding digits
one_digit n e h = omega arith

width_least : (f n : ℕ) → 0 < n → n < 10 ^ f → (k : ℕ) × (width f n ≡ suc k) × (10 ^ k ≤ n)
width_least zero n some high = absurd (omega (arith, rw pow-zero at high))
width_least (suc f) n some high = go (tell (ltb 0 (n / 10))) (width_least f (n / 10))
  where
    go : Told (ltb 0 (n / 10)) → (0 < n / 10 → n / 10 < 10 ^ f → (k : ℕ) × (width f (n / 10) ≡ suc k) × (10 ^ k ≤ n / 10)) → (k : ℕ) × (width (suc f) n ≡ suc k) × (10 ^ k ≤ n)
    go (holds t) ih =
        let ten : n < 10 ^ f * 10 = rw pow-suc at high in
        let less = ih (ltb-true 0 (n / 10) t) (omega arith) in
        (suc less.0, width_more f n some ∙ ap suc less.1, rw pow-suc (omega (arith, less.2)))
    go (fails t) ih = (0, width_more f n some ∙ ap suc (width-done f (n / 10) (ltb-false 0 (n / 10) t)), rw pow-zero some)

-- A number is printed without a leading zero: the first byte is "0" for 0 alone.
pub no_leading_zero : (n : ℕ) → n ≤ largest → get_or (decimal n) 0 0 ≡ 48 → n ≡ 0
unfolding decimal width_of
no_leading_zero n h e = go (tell (ltb 0 (n / 10)))
  where
    go : Told (ltb 0 (n / 10)) → n ≡ 0
    go (holds t) =
        let less = width_least 9 (n / 10) (ltb-true 0 (n / 10) t) (omega arith) in
        let front = width-holds 9 (n / 10) (omega arith) in
        let k = less.0 in
        let wide : 1 + width 9 (n / 10) ≡ suc (suc k) = omega (arith, less.1) in
        let high : n / 10 < 10 ^ k * 10 = rw (less.1, pow-suc) at front in
        absurd (first_digit (suc k) n (rw pow-suc (omega (arith, less.2))) (rw (pow-suc, pow-suc) (omega arith)) (ap (λ (w : ℕ). get_or (digits w n) 0 0) (sym wide) ∙ e))
    go (fails t) =
        let none = width-done 9 (n / 10) (ltb-false 0 (n / 10) t) in
        let wide : 1 + width 9 (n / 10) ≡ suc 0 = omega (arith, none) in
        let last : get_or (digits (suc 0) n) 0 0 ≡ 48 = ap (λ (w : ℕ). get_or (digits w n) 0 0) (sym wide) ∙ e in
        one_digit n last (ltb-false 0 (n / 10) t)
