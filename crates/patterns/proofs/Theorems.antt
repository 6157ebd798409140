-- Patterns and the grammar: a line is matched exactly where the grammar derives it, with the numbers derived; a line is derived by one pattern, with one list of
-- numbers; what is filled is derived, so it is matched again.
-- Main statements: match_complete, match_sound; stops_derived; line_matched, matched_line (for whole lines); same_pattern, same_numbers; filled_derived, filled-matched;
-- derives_append, derives_split, filled_append (patterns joined); filled_literal, literal_derived, literal_line (patterns without holes).
use mathlib.Core.Path.{◌≡◌, refl, sym, ap, ◌∙◌, subst₂}
use mathlib.Core.Bool.{Bool, true, false, cond, not, true≢false}
use mathlib.Core.List.{List, [], ◌∷◌, ◌++◌, append_assoc, append-nil}
use Prim.Native.Nat.{ℕ, ◌+◌, ◌≤◌}
use native.Mathlib.Omega.{arith}
use lib.ListN.{length, get_or, drop, length-append}
use lib.Dec.{eqb, ltb}
use borrow.Author.Tests.{lt-ltb, eq-eqb, ne_eqb, eqb-true, eqb-false, not-true}
use Rattle.patterns.specs.Numbers.{is_digit, all_digits, largest, most_digits, Scan, unread, read, scan, decimal}
use Rattle.patterns.specs.Patterns.{hole, most_numbers, no, yes, and_then, after_number, number_in, byte_in, symbol_in, match_from, symbol_text, numbers_after, filled}
use Rattle.patterns.specs.Grammar.{Numeral, Derives, end, byte, number, plain, holes, Plain}
use Rattle.patterns.proofs.Tests.{Told, holds, fails, tell, both_true}
use Rattle.patterns.proofs.Numerals.{stops, scan_complete, scan_sound, Read, decimal_numeral, decimal_short}

-- ---- What is derived is matched

-- Behind a hole no digit follows.
pub stops_derived : {p ns l : List ℕ} → plain true p ≡ true → Derives p ns l → (rest : List ℕ) → stops rest ≡ true → stops (l ++ rest) ≡ true
unfolding plain
stops_derived h end rest s = s
stops_derived h (byte {b} {p} {ns} {l} e d) rest s = (both_true (not (is_digit b)) (plain false p) (rw (ne_eqb b hole e) at h)).0
stops_derived h (number {b} {v} {p} {ns} {ds} {l} e n d) rest s = absurd (true≢false (sym (rw (eq-eqb b hole e) at h)))

plain_rest : (after : Bool) (b : ℕ) (p : List ℕ) → plain after (b ∷ p) ≡ true → plain (eqb b hole) p ≡ true
unfolding plain
plain_rest after b p h = (both_true (cond (eqb b hole) (not after) (not (is_digit b))) (plain (eqb b hole) p) h).1

pub match_complete : {p ns l : List ℕ} (after : Bool) → plain after p ≡ true → Derives p ns l → (ms rest : List ℕ) → stops rest ≡ true → length ms + length ns ≤ most_numbers
    → match_from p ms (l ++ rest) ≡ yes (ms ++ ns) rest
unfolding match_from symbol_in byte_in number_in and_then after_number
match_complete after h end ms rest s few = ap (λ (xs : List ℕ). yes xs rest) (sym (append-nil ms))
match_complete after h (byte {b} {p} {ns} {l} e d) ms rest s few =
    let plain_p : plain false p ≡ true = rw (ne_eqb b hole e) at (plain_rest after b p h) in
    rw (ne_eqb b hole e, eq-eqb b b refl) (match_complete false plain_p d ms rest s few)
match_complete after h (number {b} {v} {p} {ns} {ds} {l} e n d) ms rest s few =
    let plain_p : plain true p ≡ true = rw (eq-eqb b hole e) at (plain_rest after b p h) in
    let taken : scan 0 0 ((ds ++ l) ++ rest) ≡ read v (l ++ rest) = rw append_assoc (scan_complete ds (l ++ rest) v n (stops_derived plain_p d rest s)) in
    let more : length (ms ++ (v ∷ [])) + length ns ≤ most_numbers = rw length-append (omega arith) in
    rw (eq-eqb b hole e, lt-ltb (length ms) most_numbers (omega arith), taken)
    (match_complete true plain_p d (ms ++ (v ∷ [])) rest s more ∙ ap (λ (xs : List ℕ). yes xs rest) (append_assoc ms (v ∷ []) ns))

-- ---- What is matched is derived

pub record Derived (p ms l ns rest : List ℕ) : Type 0 where
  pub text : List ℕ
  pub found : List ℕ
  pub whole : l ≡ text ++ rest
  pub all : ns ≡ ms ++ found
  pub derived : Derives p found text

number_sound : (b : ℕ) (p ms l ns rest : List ℕ) → b ≡ hole → (s : Scan) → scan 0 0 l ≡ s → (t : Bool)
    → ((xs m : List ℕ) → match_from p xs m ≡ yes ns rest → Derived p xs m ns rest)
    → and_then (cond t (after_number ms s) no) (λ xs m. match_from p xs m) ≡ yes ns rest → Derived (b ∷ p) ms l ns rest
unfolding and_then after_number
number_sound b p ms l ns rest e unread q true ih h = absurd (let z : ◌≡◌ {A = ℕ} 0 1 = cc in omega arith)
number_sound b p ms l ns rest e unread q false ih h = absurd (let z : ◌≡◌ {A = ℕ} 0 1 = cc in omega arith)
number_sound b p ms l ns rest e (read v m) q false ih h = absurd (let z : ◌≡◌ {A = ℕ} 0 1 = cc in omega arith)
number_sound b p ms l ns rest e (read v m) q true ih h =
    let r : Read l v m = scan_sound l v m q in
    let d = ih (ms ++ (v ∷ [])) m h in
    record {
      text = r.numeral ++ d.text;
      found = v ∷ d.found;
      whole = r.whole ∙ ap (λ (x : List ℕ). r.numeral ++ x) d.whole ∙ sym (append_assoc r.numeral d.text rest);
      all = d.all ∙ append_assoc ms (v ∷ []) d.found;
      derived = number e r.right d.derived;
    }

byte_sound : (b : ℕ) (p ms l ns rest : List ℕ) → (b ≡ hole → ⊥)
    → ((xs m : List ℕ) → match_from p xs m ≡ yes ns rest → Derived p xs m ns rest)
    → and_then (byte_in b ms l) (λ xs m. match_from p xs m) ≡ yes ns rest → Derived (b ∷ p) ms l ns rest
unfolding and_then byte_in
byte_sound b p ms [] ns rest e ih h = absurd (let z : ◌≡◌ {A = ℕ} 0 1 = cc in omega arith)
byte_sound b p ms (c ∷ l) ns rest e ih h = go (tell (eqb c b))
  where
    go : Told (eqb c b) → Derived (b ∷ p) ms (c ∷ l) ns rest
    go (holds t) =
        let d = ih ms l (rw t at h) in
        record {
          text = b ∷ d.text;
          found = d.found;
          whole = rw (eqb-true c b t) (ap (λ (x : List ℕ). b ∷ x) d.whole);
          all = d.all;
          derived = byte e d.derived;
        }
    go (fails t) =
        let none : no ≡ yes ns rest = rw t at h in
        absurd (let z : ◌≡◌ {A = ℕ} 0 1 = cc in omega arith)

pub match_sound : (p ms l ns rest : List ℕ) → match_from p ms l ≡ yes ns rest → Derived p ms l ns rest
unfolding match_from symbol_in number_in
match_sound [] ms l ns rest h = record { text = []; found = []; whole = cc; all = sym (append-nil ms ∙ cc); derived = end }
match_sound (b ∷ p) ms l ns rest h = go (tell (eqb b hole)) (λ xs m. match_sound p xs m ns rest)
  where
    go : Told (eqb b hole) → ((xs m : List ℕ) → match_from p xs m ≡ yes ns rest → Derived p xs m ns rest) → Derived (b ∷ p) ms l ns rest
    go (holds t) ih = number_sound b p ms l ns rest (eqb-true b hole t) (scan 0 0 l) refl (ltb (length ms) most_numbers) ih (rw t at h)
    go (fails t) ih = byte_sound b p ms l ns rest (eqb-false b hole t) ih (rw t at h)

-- ---- Whole lines

pub derives_holes : {p ns l : List ℕ} → Derives p ns l → length ns ≡ holes p
unfolding holes
derives_holes end = refl
derives_holes (byte {b} {p} {ns} {l} e d) = rw (ne_eqb b hole e) (omega (arith, derives_holes d))
derives_holes (number {b} {v} {p} {ns} {ds} {l} e n d) = rw (eq-eqb b hole e) (omega (arith, derives_holes d))

-- A line that a pattern derives is matched, with the numbers derived.
pub line_matched : {p ns l : List ℕ} → Plain p → Derives p ns l → match_from p [] l ≡ yes ns []
unfolding is_digit
line_matched {p} {ns} {l} h d =
    let few : 0 + length ns ≤ most_numbers = omega (arith, derives_holes d, h.held) in
    ap (match_from p []) (sym (append-nil l)) ∙ match_complete false h.parted d [] [] refl few

-- A line that is matched is derived.
pub matched_line : (p l ns : List ℕ) → match_from p [] l ≡ yes ns [] → Derives p ns l
matched_line p l ns h =
    let d = match_sound p [] l ns [] h in
    subst₂ (λ (x y : List ℕ). Derives p x y) (sym d.all) (sym (d.whole ∙ append-nil d.text)) d.derived

-- ---- One pattern and one list of numbers

-- A line's outline: each run of digits as one hole; `within` says that a digit stands before it.
outline : Bool → List ℕ → List ℕ
outline within [] = []
outline within (c ∷ l) = cond (is_digit c) (cond within [] (hole ∷ [])) (c ∷ []) ++ outline (is_digit c) l

outline_digits : (ds l : List ℕ) → all_digits ds ≡ true → outline true (ds ++ l) ≡ outline true l
unfolding outline all_digits
outline_digits [] l h = refl
outline_digits (c ∷ ds) l h =
    let all = both_true (is_digit c) (all_digits ds) h in
    rw all.0 (outline_digits ds l all.1)

outline_numeral : (ds l : List ℕ) (v : ℕ) → Numeral ds v → outline false (ds ++ l) ≡ hole ∷ outline true l
unfolding outline all_digits
outline_numeral [] l v n = absurd (omega (arith, n.some))
outline_numeral (c ∷ ds) l v n =
    let all = both_true (is_digit c) (all_digits ds) n.digits in
    rw all.0 (ap (λ (x : List ℕ). hole ∷ x) (outline_digits ds l all.1))

outline_derived : {p ns l : List ℕ} (after : Bool) → plain after p ≡ true → Derives p ns l → outline after l ≡ p
unfolding outline plain
outline_derived after h end = refl
outline_derived after h (byte {b} {p} {ns} {l} e d) =
    let parts = both_true (not (is_digit b)) (plain false p) (rw (ne_eqb b hole e) at h) in
    let other = not-true (is_digit b) parts.0 in
    rw other (ap (λ (x : List ℕ). b ∷ x) (outline_derived false parts.1 d))
outline_derived after h (number {b} {v} {p} {ns} {ds} {l} e n d) =
    let parts = both_true (not after) (plain true p) (rw (eq-eqb b hole e) at h) in
    ap (λ (t : Bool). outline t (ds ++ l)) (not-true after parts.0) ∙ outline_numeral ds l v n ∙ rw (e, outline_derived true parts.1 d) refl

pub same_pattern : {p q ns ms l : List ℕ} → Plain p → Plain q → Derives p ns l → Derives q ms l → p ≡ q
same_pattern hp hq d e = sym (outline_derived false hp.parted d) ∙ outline_derived false hq.parted e

pub same_numbers : {p ns ms l : List ℕ} → Plain p → Derives p ns l → Derives p ms l → ns ≡ ms
same_numbers h d e =
    let one = line_matched h d in
    let other = line_matched h e in
    cc

-- ---- Text that is filled

-- Numbers that fit 32 bits.
pub data Small : List ℕ → Type 0 where
  none : Small []
  more : {n : ℕ} {ns : List ℕ} → n ≤ largest → Small ns → Small (n ∷ ns)

pub filled_derived : (p ns : List ℕ) → length ns ≡ holes p → Small ns → Derives p ns (filled p ns)
unfolding filled symbol_text numbers_after holes
filled_derived [] [] long small = end
filled_derived [] (n ∷ ns) long small = absurd (omega arith)
filled_derived (b ∷ p) ns long small = go (tell (eqb b hole)) ns long small (filled_derived p)
  where
    go : Told (eqb b hole) → (ms : List ℕ) → length ms ≡ cond (eqb b hole) 1 0 + holes p → Small ms → ((xs : List ℕ) → length xs ≡ holes p → Small xs → Derives p xs (filled p xs))
        → Derives (b ∷ p) ms (cond (eqb b hole) (decimal (get_or ms 0 0)) (b ∷ []) ++ filled p (cond (eqb b hole) (drop 1 ms) ms))
    go (holds t) [] e s ih = absurd (omega (arith, rw t at e))
    go (holds t) (n ∷ ms) e (more h s) ih = rw t (number (eqb-true b hole t) (decimal_numeral n h) (ih ms (omega (arith, rw t at e)) s))
    go (fails t) ms e s ih = rw t (byte (eqb-false b hole t) (ih ms (omega (arith, rw t at e)) s))

-- Reading what was printed gives the numbers again.
pub filled-matched : (p ns : List ℕ) → Plain p → length ns ≡ holes p → Small ns → match_from p [] (filled p ns) ≡ yes ns []
filled-matched p ns h long small = line_matched h (filled_derived p ns long small)

-- How long a pattern's text can be.
unfoldable pub longest : List ℕ → ℕ
longest [] = 0
longest (b ∷ p) = cond (eqb b hole) most_digits 1 + longest p

pub filled_short : (p ns : List ℕ) → length (filled p ns) ≤ longest p
unfolding filled symbol_text numbers_after longest
filled_short [] ns = omega arith
filled_short (b ∷ p) ns = go (eqb b hole) (λ ms. filled_short p ms)
  where
    go : (t : Bool) → ((ms : List ℕ) → length (filled p ms) ≤ longest p) → length (cond t (decimal (get_or ns 0 0)) (b ∷ []) ++ filled p (cond t (drop 1 ns) ns)) ≤ cond t most_digits 1 + longest p
    go true ih = rw length-append (omega (arith, decimal_short (get_or ns 0 0), ih (drop 1 ns)))
    go false ih = omega (arith, ih ns)

-- ---- Patterns joined

pub derives_append : {p ns l q ms m : List ℕ} → Derives p ns l → Derives q ms m → Derives (p ++ q) (ns ++ ms) (l ++ m)
derives_append end f = f
derives_append (byte e d) f = byte e (derives_append d f)
derives_append {q = q} {ms = ms} {m = m} (number {b} {v} {p} {ns} {ds} {l} e n d) f = rw (append_assoc ds l m) (number e n (derives_append d f))

pub filled_append : (p q ns ms : List ℕ) → length ns ≡ holes p → filled (p ++ q) (ns ++ ms) ≡ filled p ns ++ filled q ms
unfolding filled symbol_text numbers_after holes
filled_append [] q [] ms long = refl
filled_append [] q (n ∷ ns) ms long = absurd (omega arith)
filled_append (b ∷ p) q ns ms long = go (tell (eqb b hole)) ns long (filled_append p q)
  where
    go : Told (eqb b hole) → (xs : List ℕ) → length xs ≡ cond (eqb b hole) 1 0 + holes p
        → ((ys zs : List ℕ) → length ys ≡ holes p → filled (p ++ q) (ys ++ zs) ≡ filled p ys ++ filled q zs)
        → filled (b ∷ (p ++ q)) (xs ++ ms) ≡ filled (b ∷ p) xs ++ filled q ms
    go (holds t) [] e ih = absurd (omega (arith, rw t at e))
    go (holds t) (n ∷ xs) e ih = rw t (ap (λ (x : List ℕ). decimal n ++ x) (ih xs ms (omega (arith, rw t at e))) ∙ sym (append_assoc (decimal n) (filled p xs) (filled q ms)))
    go (fails t) xs e ih = rw t (ap (λ (x : List ℕ). b ∷ x) (ih xs ms (omega (arith, rw t at e))))

pub record Split (p q ns l : List ℕ) : Type 0 where
  pub numbers : List ℕ
  pub others : List ℕ
  pub front : List ℕ
  pub rest : List ℕ
  pub all : ns ≡ numbers ++ others
  pub whole : l ≡ front ++ rest
  pub one : Derives p numbers front
  pub other : Derives q others rest

pub derives_split : (p q ns l : List ℕ) → Derives (p ++ q) ns l → Split p q ns l
derives_split [] q ns l d = record { numbers = []; others = ns; front = []; rest = l; all = refl; whole = refl; one = end; other = d }
derives_split (b ∷ p) q ns l d = go d (λ ms m. derives_split p q ms m)
  where
    go : {ms m : List ℕ} → Derives (b ∷ (p ++ q)) ms m → ((xs x : List ℕ) → Derives (p ++ q) xs x → Split p q xs x) → Split (b ∷ p) q ms m
    go (byte {ns = ms} {l = m} e f) ih =
        let s = ih ms m f in
        record { numbers = s.numbers; others = s.others; front = b ∷ s.front; rest = s.rest; all = s.all; whole = ap (λ (x : List ℕ). b ∷ x) s.whole; one = byte e s.one; other = s.other }
    go (number {v = v} {ns = ms} {ds = ds} {l = m} e n f) ih =
        let s = ih ms m f in
        record {
          numbers = v ∷ s.numbers;
          others = s.others;
          front = ds ++ s.front;
          rest = s.rest;
          all = ap (λ (x : List ℕ). v ∷ x) s.all;
          whole = ap (λ (x : List ℕ). ds ++ x) s.whole ∙ sym (append_assoc ds s.front s.rest);
          one = number e n s.one;
          other = s.other;
        }

-- ---- Patterns without holes

pub filled_literal : (p ns : List ℕ) → holes p ≡ 0 → filled p ns ≡ p
unfolding filled symbol_text numbers_after holes
filled_literal [] ns h = refl
filled_literal (b ∷ p) ns h = go (tell (eqb b hole)) (filled_literal p ns)
  where
    go : Told (eqb b hole) → (holes p ≡ 0 → filled p ns ≡ p) → cond (eqb b hole) (decimal (get_or ns 0 0)) (b ∷ []) ++ filled p (cond (eqb b hole) (drop 1 ns) ns) ≡ b ∷ p
    go (holds t) ih = absurd (omega (arith, rw t at h))
    go (fails t) ih = rw t (ap (λ (x : List ℕ). b ∷ x) (ih (omega (arith, rw t at h))))

pub literal_derived : (p : List ℕ) → holes p ≡ 0 → Derives p [] p
unfolding holes
literal_derived [] h = end
literal_derived (b ∷ p) h = go (tell (eqb b hole)) (literal_derived p)
  where
    go : Told (eqb b hole) → (holes p ≡ 0 → Derives p [] p) → Derives (b ∷ p) [] (b ∷ p)
    go (holds t) ih = absurd (omega (arith, rw t at h))
    go (fails t) ih = byte (eqb-false b hole t) (ih (omega (arith, rw t at h)))

pub literal_line : {p ns l : List ℕ} → Derives p ns l → holes p ≡ 0 → (l ≡ p) × (ns ≡ [])
unfolding holes
literal_line end h = (refl, refl)
literal_line (byte {b} {p} {ns} {l} e d) h =
    let same = literal_line d (omega (arith, rw (ne_eqb b hole e) at h)) in
    (ap (λ (x : List ℕ). b ∷ x) same.0, same.1)
literal_line (number {b} {v} {p} {ns} {ds} {l} e n d) h = absurd (omega (arith, rw (eq-eqb b hole e) at h))
