-- Rows of a table tried one after the other, against the grammar.
-- Main statements: numbers_matched, numbers_unmatched (what the code answers of a pattern); take_row, skip_row (the row that derives a line is taken, any other is skipped); row_sound_lem (what a row answers is derived by its pattern);
-- no_number to five_numbers (the numbers of a match, from the places where the code holds them).
use mathlib.Core.Path.{◌≡◌, refl, sym, ap, ◌∙◌, subst}
use mathlib.Core.Bool.{Bool, true, false, ◌&&◌, true≢false}
use mathlib.Core.List.{List, [], ◌∷◌}
use Prim.Native.Nat.{ℕ}
use native.Mathlib.Omega.{arith}
use lib.ListN.{length, get_or}
use lib.Dec.{eqb}
use borrow.Author.Tests.{eq-eqb}
use Rattle.patterns.specs.Patterns.{Matching, no, yes, match_from, to_end, padded, matched}
use Rattle.patterns.specs.Grammar.{Derives, holes, Plain}
use Rattle.patterns.proofs.Theorems.{line_matched, matched_line, same_pattern, derives_holes}
use Rattle.std.specs.Prelude.{None, Some}
use Rattle.patterns.specs.declared.Match.{Match}
use Rattle.forms.specs.Reading.{or_else, wholly, numbers_of, numbers_in}

-- Whether two patterns are the same.
unfoldable pub alike : List ℕ → List ℕ → Bool
alike [] [] = true
alike [] (c ∷ q) = false
alike (b ∷ p) [] = false
alike (b ∷ p) (c ∷ q) = eqb b c && alike p q

alike_self : (p : List ℕ) → alike p p ≡ true
unfolding alike
alike_self [] = refl
alike_self (b ∷ p) = rw (eq-eqb b b refl, alike_self p) refl

to_end_lem : (m : Matching) (ns rest : List ℕ) → to_end m ≡ yes ns rest → m ≡ yes ns []
unfolding to_end
to_end_lem no ns rest e = cc
to_end_lem (yes ms []) ns rest e = cc
to_end_lem (yes ms (c ∷ l)) ns rest e = cc

pub wholly_derived : (p line ns rest : List ℕ) → wholly p line ≡ yes ns rest → Derives p ns line
unfolding wholly
wholly_derived p line ns rest e = matched_line p line ns (to_end_lem (match_from p [] line) ns rest e)

pub derived_wholly : {p ns line : List ℕ} → Plain p → Derives p ns line → wholly p line ≡ yes ns []
unfolding wholly to_end
derived_wholly h d = ap to_end (line_matched h d)

-- A line that one pattern derives is not matched by another.
pub other_pattern : {p ns line : List ℕ} (q : List ℕ) → Plain p → Plain q → alike p q ≡ false → Derives p ns line → wholly q line ≡ no
other_pattern {p} {ns} {line} q hp hq differ d = go (wholly q line) refl
  where
    go : (m : Matching) → wholly q line ≡ m → m ≡ no
    go no e = refl
    go (yes ms rest) e =
        let same : p ≡ q = same_pattern hp hq d (wholly_derived q line ms rest e) in
        absurd (true≢false (sym (subst (λ (x : List ℕ). alike p x ≡ true) same (alike_self p)) ∙ differ))

-- The numbers of a match that the code found, and none where it found none.
pub numbers_matched : (n : ℕ) (m : Matching) {found : Match} → Some found ≡ matched n m → Some found.numbers ≡ numbers_of m
unfolding matched numbers_of
numbers_matched n no e = cc
numbers_matched n (yes ns rest) e = cc

pub numbers_unmatched : (n : ℕ) (m : Matching) → None ≡ matched n m → None ≡ numbers_of m
unfolding matched numbers_of
numbers_unmatched n no e = refl
numbers_unmatched n (yes ns rest) e = cc

-- The row of the pattern that derives a line is taken, and the rows before it are skipped.
pub take_row : {A : Type 0} {p ns line : List ℕ} (f : List ℕ → A) (other : A) → Plain p → Derives p ns line → or_else (numbers_in p line) f other ≡ f (padded ns)
unfolding or_else numbers_of
take_row f other h d = rw (derived_wholly h d)

pub skip_row : {A : Type 0} {p ns line : List ℕ} (q : List ℕ) (f : List ℕ → A) (other : A) → Plain p → Plain q → alike p q ≡ false → Derives p ns line
    → or_else (numbers_in q line) f other ≡ other
unfolding or_else numbers_of
skip_row q f other hp hq differ d = rw (other_pattern q hp hq differ d)

-- What a row answers: either its pattern derives the line with as many numbers as it has holes, or the rows after it answer.
pub row_sound_lem : {A B : Type 0} {x : A} (p line : List ℕ) (f : List ℕ → A) (other : A)
    → ((ns : List ℕ) → length ns ≡ holes p → Derives p ns line → f (padded ns) ≡ x → B) → (other ≡ x → B) → or_else (numbers_in p line) f other ≡ x → B
unfolding or_else numbers_of
row_sound_lem {B = B} {x = x} p line f other here there = go (wholly p line) refl
  where
    go : (m : Matching) → wholly p line ≡ m → or_else (numbers_of m) f other ≡ x → B
    go no q e = there e
    go (yes ns rest) q e =
        let d = wholly_derived p line ns rest q in
        here ns (derives_holes d) d e

-- ---- Numbers as many as a pattern has holes

pub no_number : (ns : List ℕ) → length ns ≡ 0 → [] ≡ ns
no_number [] h = refl
no_number (a ∷ ns) h = absurd (omega arith)

pub one_number : (ns : List ℕ) → length ns ≡ 1 → get_or (padded ns) 0 0 ∷ [] ≡ ns
unfolding padded
one_number [] h = absurd (omega arith)
one_number (a ∷ []) h = refl
one_number (a ∷ (b ∷ ns)) h = absurd (omega arith)

pub two_numbers : (ns : List ℕ) → length ns ≡ 2 → get_or (padded ns) 0 0 ∷ (get_or (padded ns) 1 0 ∷ []) ≡ ns
unfolding padded
two_numbers [] h = absurd (omega arith)
two_numbers (a ∷ []) h = absurd (omega arith)
two_numbers (a ∷ (b ∷ [])) h = refl
two_numbers (a ∷ (b ∷ (c ∷ ns))) h = absurd (omega arith)

pub three_numbers : (ns : List ℕ) → length ns ≡ 3 → get_or (padded ns) 0 0 ∷ (get_or (padded ns) 1 0 ∷ (get_or (padded ns) 2 0 ∷ [])) ≡ ns
unfolding padded
three_numbers [] h = absurd (omega arith)
three_numbers (a ∷ []) h = absurd (omega arith)
three_numbers (a ∷ (b ∷ [])) h = absurd (omega arith)
three_numbers (a ∷ (b ∷ (c ∷ []))) h = refl
three_numbers (a ∷ (b ∷ (c ∷ (d ∷ ns)))) h = absurd (omega arith)

pub five_numbers : (ns : List ℕ) → length ns ≡ 5
    → get_or (padded ns) 0 0 ∷ (get_or (padded ns) 1 0 ∷ (get_or (padded ns) 2 0 ∷ (get_or (padded ns) 3 0 ∷ (get_or (padded ns) 4 0 ∷ [])))) ≡ ns
unfolding padded
five_numbers [] h = absurd (omega arith)
five_numbers (a ∷ []) h = absurd (omega arith)
five_numbers (a ∷ (b ∷ [])) h = absurd (omega arith)
five_numbers (a ∷ (b ∷ (c ∷ []))) h = absurd (omega arith)
five_numbers (a ∷ (b ∷ (c ∷ (d ∷ [])))) h = absurd (omega arith)
five_numbers (a ∷ (b ∷ (c ∷ (d ∷ (e ∷ []))))) h = refl
five_numbers (a ∷ (b ∷ (c ∷ (d ∷ (e ∷ (g ∷ ns)))))) h = absurd (omega arith)
