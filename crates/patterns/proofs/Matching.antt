-- A pattern matched with a line byte by byte.
-- Main statements: for the pattern at i and the line at j, hole_full, hole_unread, hole_read, byte_other, byte_same, pattern_end; read_told (a number
-- read is the number at that place); Run (a match under way), hole_run, byte_run, no_match, all_matched; match_rest_lem (what a match leaves is the end of the line);
-- rest_matched, rest_other (a match up to the end).
use mathlib.Core.Path.{◌≡◌, refl, sym, ap, ◌∙◌}
use mathlib.Core.Bool.{Bool, true, false, cond, ◌&&◌}
use mathlib.Core.Logic.{◌⊎◌, inl, inr}
use mathlib.Core.List.{List, [], ◌∷◌, ◌++◌}
use Prim.Native.Nat.{ℕ, suc, ◌+◌, ◌-◌, ◌*◌, ◌≤◌, ◌<◌}
use native.Mathlib.Omega.{arith}
use lib.ListN.{length, get_or, set, take, drop, replicate, length-append, length-drop, length-set, drop_of_length-le}
use lib.Seq.{drop-drop, set-append_seam, append_snoc, take-suc-set, length-take-le}
use lib.Dec.{eqb, leb, ltb}
use native.Mathlib.Numerals.{add-one}
use borrow.Author.Tests.{lt-ltb, le-ltb, eq-eqb, ne_eqb}
use Rattle.std.specs.Prelude.{None, Some}
use Rattle.std.specs.Bool.{then_some}
use Rattle.patterns.specs.declared.Number.{Number}
use Rattle.patterns.specs.declared.Match.{Match}
use Rattle.patterns.specs.Numbers.{is_digit, largest, most_digits, Scan, unread, read, ended, scan, scanned}
use Rattle.patterns.specs.Patterns.{hole, Matching, no, yes, and_then, after_number, number_in, byte_in, symbol_in, match_from, to_end, padded, matched}
use Rattle.patterns.proofs.Tests.{next_of, left-from}

-- ---- The pattern p at place i and the line l at place j, the numbers ns found

module _ (p l ns : List ℕ) (i j : ℕ) where
  pub hole_full : i < length p → get_or p i 0 ≡ hole → 5 ≤ length ns → match_from (drop i p) ns (drop j l) ≡ no
  unfolding match_from symbol_in number_in and_then
  hole_full h e full = ap (λ (q : List ℕ). match_from q ns (drop j l)) (next_of p i h) ∙ rw (eq-eqb (get_or p i 0) hole e, le-ltb (length ns) 5 full)

  pub hole_unread : i < length p → get_or p i 0 ≡ hole → length ns < 5 → scan 0 0 (drop j l) ≡ unread → match_from (drop i p) ns (drop j l) ≡ no
  unfolding match_from symbol_in number_in and_then after_number
  hole_unread h e room s = ap (λ (q : List ℕ). match_from q ns (drop j l)) (next_of p i h) ∙ rw (eq-eqb (get_or p i 0) hole e, lt-ltb (length ns) 5 room, s)

  pub hole_read : (v : ℕ) (rest : List ℕ) → i < length p → get_or p i 0 ≡ hole → length ns < 5 → scan 0 0 (drop j l) ≡ read v rest
      → match_from (drop i p) ns (drop j l) ≡ match_from (drop (i + 1) p) (ns ++ (v ∷ [])) rest
  unfolding match_from symbol_in number_in and_then after_number
  hole_read v rest h e room s = ap (λ (q : List ℕ). match_from q ns (drop j l)) (next_of p i h) ∙ rw (eq-eqb (get_or p i 0) hole e, lt-ltb (length ns) 5 room, s)

  pub byte_other : i < length p → (get_or p i 0 ≡ hole → ⊥) → (length l ≤ j) ⊎ ((j < length l) × (get_or l j 0 ≡ get_or p i 0 → ⊥)) → match_from (drop i p) ns (drop j l) ≡ no
  unfolding match_from symbol_in byte_in and_then
  byte_other h e (inl short) = ap (λ (q : List ℕ). match_from q ns (drop j l)) (next_of p i h) ∙ rw (ne_eqb (get_or p i 0) hole e, drop_of_length-le l short)
  byte_other h e (inr other) = ap (λ (q : List ℕ). match_from q ns (drop j l)) (next_of p i h) ∙ rw (ne_eqb (get_or p i 0) hole e, next_of l j other.0, ne_eqb (get_or l j 0) (get_or p i 0) other.1)

  pub byte_same : i < length p → (get_or p i 0 ≡ hole → ⊥) → j < length l → get_or l j 0 ≡ get_or p i 0
      → match_from (drop i p) ns (drop j l) ≡ match_from (drop (i + 1) p) ns (drop (j + 1) l)
  unfolding match_from symbol_in byte_in and_then
  byte_same h e k same = ap (λ (q : List ℕ). match_from q ns (drop j l)) (next_of p i h) ∙ rw (ne_eqb (get_or p i 0) hole e, next_of l j k, eq-eqb (get_or l j 0) (get_or p i 0) same)

  pub pattern_end : length p ≤ i → match_from (drop i p) ns (drop j l) ≡ yes ns (drop j l)
  unfolding match_from
  pattern_end h = rw (drop_of_length-le p h)

-- ---- What a number leaves is the end of the line

pub record EndOf (l rest : List ℕ) : Type 0 where
  pub from : ℕ
  pub within : from ≤ length l
  pub same : rest ≡ drop from l

ended_rest : (k v : ℕ) (l : List ℕ) (w : ℕ) (rest : List ℕ) → ended k v l ≡ read w rest → rest ≡ l
unfolding ended
ended_rest k v l w rest = go (ltb 0 k && leb v largest)
  where
    go : (t : Bool) → cond t (read v l) unread ≡ read w rest → rest ≡ l
    go true e = cc
    go false e = cc

pub scan_rest : (k v : ℕ) (l : List ℕ) (w : ℕ) (rest : List ℕ) → scan k v l ≡ read w rest → EndOf l rest
unfolding scan
scan_rest k v [] w rest e = record { from = 0; within = omega arith; same = ended_rest k v [] w rest e }
scan_rest k v (c ∷ l) w rest e = go (is_digit c) (eqb k most_digits) (scan_rest (suc k) (v * 10 + (c - 48)) l w rest) e
  where
    go : (d full : Bool) → (scan (suc k) (v * 10 + (c - 48)) l ≡ read w rest → EndOf l rest)
        → cond d (cond full unread (scan (suc k) (v * 10 + (c - 48)) l)) (ended k v (c ∷ l)) ≡ read w rest → EndOf (c ∷ l) rest
    go true true ih q = absurd (let z : ◌≡◌ {A = ℕ} 0 1 = cc in omega arith)
    go true false ih q =
        let less = ih q in
        record { from = suc less.from; within = omega (arith, less.within); same = less.same }
    go false t ih q = record { from = 0; within = omega arith; same = ended_rest k v (c ∷ l) w rest q }

-- What is left at the end of a line says where it begins.
pub end_from : (l rest : List ℕ) → EndOf l rest → (drop (length l - length rest) l ≡ rest) × (length rest ≤ length l)
end_from l rest e =
    let long : length rest ≡ length l - e.from = ap length e.same ∙ length-drop e.from l in
    let begins : length l - length rest ≡ e.from = omega (arith, e.within) in
    (rw begins (sym e.same), omega arith)

pub end_later : (l rest : List ℕ) (j : ℕ) → j ≤ length l → EndOf (drop j l) rest → EndOf l rest
end_later l rest j h e =
    let short : e.from ≤ length l - j = rw length-drop at e.within in
    record { from = j + e.from; within = omega arith; same = e.same ∙ drop-drop e.from j l }

told_read : (n : ℕ) (s : Scan) (number : Number) → scanned n s ≡ Some number → (rest : List ℕ) × (s ≡ read number.value rest) × (number.next ≡ n - length rest)
unfolding scanned
told_read n unread number e = cc
told_read n (read w rest) number e = (rest, cc, cc)

-- The code's answer tells the number at place j and the place behind it.
pub read_told : (l : List ℕ) (j : ℕ) (number : Number) → j ≤ length l → scanned (length l) (scan 0 0 (drop j l)) ≡ Some number
    → (scan 0 0 (drop j l) ≡ read number.value (drop number.next l)) × (number.next ≤ length l)
read_told l j number h e =
    let told = told_read (length l) (scan 0 0 (drop j l)) number e in
    let left = end_from l told.0 (end_later l told.0 j h (scan_rest 0 0 (drop j l) number.value told.0 told.1)) in
    let same : drop number.next l ≡ told.0 = ap (λ (m : ℕ). drop m l) told.2 ∙ left.0 in
    (rw same told.1, omega (arith, told.2))

pub unread_told : (n : ℕ) (s : Scan) → scanned n s ≡ None → s ≡ unread
unfolding scanned
unread_told n unread e = refl
unread_told n (read w rest) e = cc

-- ---- The numbers as the code holds them

padded-set : (ns : List ℕ) (v : ℕ) → length ns < 5 → set (padded ns) (length ns) v ≡ padded (ns ++ (v ∷ []))
unfolding padded
padded-set ns v h =
    let more : 5 - length ns ≡ suc (4 - length ns) = omega arith in
    let less : 5 - length (ns ++ (v ∷ [])) ≡ 4 - length ns = rw length-append (omega arith) in
    rw (more, less) (set-append_seam ns 0 (replicate (4 - length ns) 0) v ∙ sym (append_snoc ns v (replicate (4 - length ns) 0)))

pub padded_more : (numbers : List ℕ) (k v : ℕ) → k < 5 → length numbers ≡ 5 → padded (take k numbers) ≡ numbers
    → padded (take (k + 1) (set numbers k v)) ≡ set numbers k v
padded_more numbers k v h five e =
    let long : length (take k numbers) ≡ k = length-take-le k numbers (omega arith) in
    let stored : set (padded (take k numbers)) k v ≡ padded (take k numbers ++ (v ∷ [])) = rw long at (padded-set (take k numbers) v (omega arith)) in
    let front : take (k + 1) (set numbers k v) ≡ take k numbers ++ (v ∷ []) = rw add-one (take-suc-set numbers k v (omega arith)) in
    ap padded front ∙ sym stored ∙ ap (λ (m : List ℕ). set m k v) e

-- ---- A match under way

-- Of pattern p and line l from place `at` on: i bytes of the pattern and the line up to j are passed, and the first k of numbers were found.
pub record Run (p l : List ℕ) (at : ℕ) (numbers : List ℕ) (k j i : ℕ) : Type 0 where
  pub within : i ≤ length p
  pub few : k ≤ 5
  pub reach : j ≤ length l
  pub five : length numbers ≡ 5
  pub held : padded (take k numbers) ≡ numbers
  pub same : match_from p [] (drop at l) ≡ match_from (drop i p) (take k numbers) (drop j l)

pub none_run : (p l : List ℕ) (at : ℕ) → at ≤ length l → Run p l at (replicate 5 0) 0 at 0
unfolding padded
none_run p l at h = record { within = omega arith; few = omega arith; reach = h; five = refl; held = refl; same = refl }

module _ {p l : List ℕ} {at : ℕ} {numbers : List ℕ} {k j i : ℕ} (run : Run p l at numbers k j i) where
  pub found : length (take k numbers) ≡ k
  found = length-take-le k numbers (omega (arith, run.few, run.five))

  pub hole_run : i < length p → get_or p i 0 ≡ hole → k < 5 → {number : Number} → scanned (length l) (scan 0 0 (drop j l)) ≡ Some number
      → Run p l at (set numbers k number.value) (k + 1) number.next (i + 1)
  hole_run more e room {number} told =
      let v = number.value in
      let next = number.next in
      let there = read_told l j number run.reach told in
      let ns = take k numbers in
      let front : take (k + 1) (set numbers k v) ≡ ns ++ (v ∷ []) = rw add-one (take-suc-set numbers k v (omega (arith, run.five))) in
      record {
        within = omega arith;
        few = omega arith;
        reach = there.1;
        five = length-set numbers k v ∙ run.five;
        held = padded_more numbers k v room run.five run.held;
        same = run.same ∙ hole_read p l ns i j v (drop next l) more e (omega (arith, found)) there.0 ∙ ap (λ (ms : List ℕ). match_from (drop (i + 1) p) ms (drop next l)) (sym front);
      }

  pub byte_run : i < length p → (get_or p i 0 ≡ hole → ⊥) → j < length l → get_or l j 0 ≡ get_or p i 0 → Run p l at numbers k (j + 1) (i + 1)
  byte_run more e there same = record {
    within = omega arith;
    few = run.few;
    reach = omega arith;
    five = run.five;
    held = run.held;
    same = run.same ∙ byte_same p l (take k numbers) i j more e there same;
  }

  -- Where the rest of the pattern does not match the rest of the line, there is no match.
  pub no_match : match_from (drop i p) (take k numbers) (drop j l) ≡ no → None ≡ matched (length l) (match_from p [] (drop at l))
  unfolding matched
  no_match none = sym (ap (matched (length l)) (run.same ∙ none))

  pub all_matched : length p ≤ i → Some (record { next = j; numbers = numbers }) ≡ matched (length l) (match_from p [] (drop at l))
  unfolding matched
  all_matched done = rw (run.same, pattern_end p l (take k numbers) i j done, left-from l j run.reach, run.held) refl

-- ---- What a match leaves is the end of the line

number_rest : (ns l ms rest : List ℕ) → number_in ns l ≡ yes ms rest → EndOf l rest
unfolding number_in after_number
number_rest ns l ms rest = over (ltb (length ns) 5) (scan 0 0 l) refl
  where
    over : (t : Bool) (s : Scan) → scan 0 0 l ≡ s → cond t (after_number ns s) no ≡ yes ms rest → EndOf l rest
    over false s q e = absurd (let z : ◌≡◌ {A = ℕ} 0 1 = cc in omega arith)
    over true unread q e = absurd (let z : ◌≡◌ {A = ℕ} 0 1 = cc in omega arith)
    over true (read v r) q e = scan_rest 0 0 l v rest (q ∙ cc)

byte_rest : (b : ℕ) (ns l ms rest : List ℕ) → byte_in b ns l ≡ yes ms rest → EndOf l rest
unfolding byte_in
byte_rest b ns [] ms rest e = absurd (let z : ◌≡◌ {A = ℕ} 0 1 = cc in omega arith)
byte_rest b ns (c ∷ l) ms rest e = over (eqb c b) e
  where
    over : (t : Bool) → cond t (yes ns l) no ≡ yes ms rest → EndOf (c ∷ l) rest
    over true e = record { from = 1; within = omega arith; same = cc }
    over false e = absurd (let z : ◌≡◌ {A = ℕ} 0 1 = cc in omega arith)

symbol_rest : (b : ℕ) (ns l ms rest : List ℕ) → symbol_in b ns l ≡ yes ms rest → EndOf l rest
unfolding symbol_in
symbol_rest b ns l ms rest = go (eqb b hole)
  where
    go : (t : Bool) → cond t (number_in ns l) (byte_in b ns l) ≡ yes ms rest → EndOf l rest
    go true = number_rest ns l ms rest
    go false = byte_rest b ns l ms rest

end_of_end : (l m rest : List ℕ) → EndOf l m → EndOf m rest → EndOf l rest
end_of_end l m rest e f =
    let short : length m ≡ length l - e.from = ap length e.same ∙ length-drop e.from l in
    record {
      from = e.from + f.from;
      within = omega (arith, e.within, f.within, short);
      same = f.same ∙ ap (drop f.from) e.same ∙ drop-drop f.from e.from l;
    }

pub match_rest_lem : (p ns l ms rest : List ℕ) → match_from p ns l ≡ yes ms rest → EndOf l rest
unfolding match_from and_then
match_rest_lem [] ns l ms rest e = record { from = 0; within = omega arith; same = cc }
match_rest_lem (b ∷ p) ns l ms rest e = go (symbol_in b ns l) refl (λ xs m. match_rest_lem p xs m ms rest) e
  where
    go : (t : Matching) → symbol_in b ns l ≡ t → ((xs m : List ℕ) → match_from p xs m ≡ yes ms rest → EndOf m rest)
        → and_then t (λ xs m. match_from p xs m) ≡ yes ms rest → EndOf l rest
    go no q ih f = absurd (let z : ◌≡◌ {A = ℕ} 0 1 = cc in omega arith)
    go (yes xs m) q ih f = end_of_end l m rest (symbol_rest b ns l xs m q) (ih xs m f)

-- ---- A match up to the end of the line

shorter : (p l : List ℕ) (at : ℕ) (ns rest : List ℕ) → match_from p [] (drop at l) ≡ yes ns rest → length rest ≤ length l
shorter p l at ns rest e = omega (arith, (end_from (drop at l) rest (match_rest_lem p [] (drop at l) ns rest e)).1, length-drop at l)

-- A match is kept where the place behind it is the end.
kept : (n : ℕ) (m : Matching) → ((ns rest : List ℕ) → m ≡ yes ns rest → length rest ≤ n) → (f : Match)
    → Some f ≡ matched n m → then_some (eqb f.next n) f ≡ matched n (to_end m)
unfolding matched to_end
kept n no short f e = cc
kept n (yes ns []) short f e =
    let place : f.next ≡ n - 0 = cc in
    rw (eq-eqb f.next n (omega arith)) e
kept n (yes ns (c ∷ rest)) short f e =
    let some : suc (length rest) ≤ n = short ns (c ∷ rest) refl in
    let place : f.next ≡ n - suc (length rest) = cc in
    let before : f.next ≡ n → ⊥ = λ q. omega arith in
    rw (ne_eqb f.next n before)

none_kept : (n : ℕ) (m : Matching) → None ≡ matched n m → None ≡ matched n (to_end m)
unfolding matched to_end
none_kept n no e = refl
none_kept n (yes ns rest) e = cc

module _ (p l : List ℕ) (at : ℕ) where
  pub rest_matched : {f : Match} → Some f ≡ matched (length l) (match_from p [] (drop at l))
      → then_some (eqb f.next (length l)) f ≡ matched (length l) (to_end (match_from p [] (drop at l)))
  rest_matched {f} e = kept (length l) (match_from p [] (drop at l)) (shorter p l at) f e

  pub rest_other : None ≡ matched (length l) (match_from p [] (drop at l)) → None ≡ matched (length l) (to_end (match_from p [] (drop at l)))
  rest_other e = none_kept (length l) (match_from p [] (drop at l)) e
