-- A text by its first line.
-- Main statements: first_newline, no_newline (where the first newline stands); line_first (a text that has a newline: its first line is answered, then the rest), no_line (a text that has none).
use mathlib.Core.Path.{◌≡◌, refl, sym, ◌∙◌, ap}
use mathlib.Core.Bool.{Bool, true, false, cond}
use mathlib.Core.List.{List, [], ◌∷◌, ◌++◌}
use Prim.Native.Nat.{ℕ, suc, ◌+◌, ◌-◌, ◌<◌, ◌≤◌, suc-le-suc}
use native.Mathlib.Omega.{arith}
use native.Mathlib.Nat.{le_of_suc-le-suc, lt_irrefl, not-suc-le-zero}
use lib.ListN.{length, take, drop, length-drop}
use lib.Seq.{append_snoc, take_all}
use mathlib.Core.List.{append-nil}
use lib.Dec.{eqb, ltb}
use Rattle.std.specs.Prelude.{None, Some, not, position}
use Rattle.std.specs.List.{position_or_len}
use Rattle.model.specs.Memory.{Memory}
use Rattle.model.specs.Calls.{Called, called}
use Rattle.model.proofs.Laws.Lists.{Ord, lt, ge, ord}
use Rattle.lines.specs.Lines.{line_answered}
use Rattle.lines.specs.Texts.{newline, line_length, printed_before, reply_line, text_answered}

-- The first line answered, then a text.
abbrev pub then_text : List ℕ → List ℕ → Memory → Called (List ℕ)
then_text line t m = printed_before (reply_line (line_answered line m).answer) (text_answered [] t (line_answered line m).memory)

pub length_most : (u : List ℕ) → line_length u ≤ length u
unfolding line_length
length_most [] = omega arith
length_most (b ∷ u) = go (eqb b newline) (length_most u)
  where
    go : (x : Bool) → line_length u ≤ length u → cond x 0 (suc (line_length u)) ≤ suc (length u)
    go true h = omega arith
    go false h = suc-le-suc h

-- The first line of a text has k bytes, and a newline ends it.
pub record FirstLine (text : List ℕ) (k : ℕ) : Type 0 where
  pub long : line_length text ≡ k
  pub ended : k < length text

-- Where the first newline is looked for: the place, or the length where there is none.
first_place : (xs : List ℕ) → position_or_len (λ b. eqb b newline) xs ≡ line_length xs
unfolding line_length
first_place [] = refl
first_place (b ∷ xs) = go (eqb b newline) (first_place xs)
  where
    go : (x : Bool) → position_or_len (λ b. eqb b newline) xs ≡ line_length xs → cond (not x) (1 + position_or_len (λ b. eqb b newline) xs) 0 ≡ cond x 0 (suc (line_length xs))
    go true e = refl
    go false e = omega (arith, e)

-- In what is left of a text.
left_from : (text : List ℕ) (from : ℕ) → take (length text - from) (drop from text) ≡ drop from text
left_from text from = let left = length-drop from text in take_all (length text - from) (drop from text) (omega (arith, left))

looked_for : (text : List ℕ) (from : ℕ) → position (λ b. eqb b newline) (take (length text - from) (drop from text))
    ≡ cond (ltb (line_length (drop from text)) (length (drop from text))) (Some (line_length (drop from text))) None
looked_for text from =
    ap (λ (u : List ℕ). position (λ b. eqb b newline) u) (left_from text from)
    ∙ ap (λ (n : ℕ). cond (ltb n (length (drop from text))) (Some n) None) (first_place (drop from text))

pub first_newline : (text : List ℕ) (from k : ℕ) → Some k ≡ position (λ b. eqb b newline) (take (length text - from) (drop from text)) → FirstLine (drop from text) k
first_newline text from k e = go (ord (line_length u) (length u)) (e ∙ looked_for text from)
  where
    u : List ℕ
    u = drop from text

    go : Ord (line_length u) (length u) → Some k ≡ cond (ltb (line_length u) (length u)) (Some (line_length u)) None → FirstLine u k
    go (lt h t) e =
        let same : Some k ≡ Some (line_length u) = rw t at e in
        let is : k ≡ line_length u = cc in
        record { long = sym is; ended = omega (arith, is, h) }
    go (ge h t) e = let none : Some k ≡ None = rw t at e in cc

pub no_newline : (text : List ℕ) (from : ℕ) → None ≡ position (λ b. eqb b newline) (take (length text - from) (drop from text))
    → line_length (drop from text) ≡ length (drop from text)
no_newline text from e = go (ord (line_length u) (length u)) (e ∙ looked_for text from)
  where
    u : List ℕ
    u = drop from text

    go : Ord (line_length u) (length u) → None ≡ cond (ltb (line_length u) (length u)) (Some (line_length u)) None → line_length u ≡ length u
    go (lt h t) e = let none : None ≡ Some (line_length u) = rw t at e in cc
    go (ge h t) e = let most = length_most u in omega (arith, most, h)

pub line_first : (line u t : List ℕ) (m : Memory) → line_length u < length u → text_answered line (u ++ t) m ≡ then_text (line ++ take (line_length u) u) (drop (suc (line_length u)) u ++ t) m
unfolding line_length text_answered
line_first line [] t m h = absurd (lt_irrefl 0 h)
line_first line (b ∷ u) t m h = go (eqb b newline) refl (λ below. line_first (line ++ (b ∷ [])) u t m below)
  where
    go : (x : Bool) → eqb b newline ≡ x → (line_length u < length u → text_answered (line ++ (b ∷ [])) (u ++ t) m ≡ then_text ((line ++ (b ∷ [])) ++ take (line_length u) u) (drop (suc (line_length u)) u ++ t) m)
        → text_answered line (b ∷ (u ++ t)) m ≡ then_text (line ++ take (line_length (b ∷ u)) (b ∷ u)) (drop (suc (line_length (b ∷ u))) (b ∷ u) ++ t) m
    go true e later = rw e (ap (λ (l : List ℕ). then_text l (u ++ t) m) (sym (append-nil line)))
    go false e later =
        let below : suc (line_length u) < suc (length u) = rw e at h in
        rw e (later (le_of_suc-le-suc below) ∙ ap (λ (l : List ℕ). then_text l (drop (suc (line_length u)) u ++ t) m) (append_snoc line b (take (line_length u) u)))

pub no_line : (line u : List ℕ) (m : Memory) → length u ≤ line_length u → text_answered line u m ≡ called [] m
unfolding line_length text_answered
no_line line [] m h = refl
no_line line (b ∷ u) m h = go (eqb b newline) refl (λ below. no_line (line ++ (b ∷ [])) u m below)
  where
    go : (x : Bool) → eqb b newline ≡ x → (length u ≤ line_length u → text_answered (line ++ (b ∷ [])) u m ≡ called [] m) → text_answered line (b ∷ u) m ≡ called [] m
    go true e later = let none : suc (length u) ≤ 0 = rw e at h in absurd (not-suc-le-zero none)
    go false e later =
        let below : suc (length u) ≤ suc (line_length u) = rw e at h in
        rw e (later (le_of_suc-le-suc below))
