-- What is shown of the generator, the table and mixed keys (document 02, change 3).
-- Main statements: known_words_lem (first and last word, a mixed key, two keys that meet); table_long, rows_together; next_linear; one_byte.
use mathlib.Core.Path.{◌≡◌, refl, sym, ap, ◌∙◌}
use mathlib.Core.Logic.{◌≢◌}
use mathlib.Core.List.{List, [], ◌∷◌, ◌++◌, map}
use Prim.Native.Nat.{ℕ, zero, suc, ◌*◌, ◌/◌, ◌%◌, ◌^◌, ◌<◌}
use native.Mathlib.Omega.{arith}
use lib.ListN.{length, get_or}
use lib.Bits.{bit_xor, xor_mod, xor_shr}
use Rattle.model.specs.Mixing.{stirred_left, stirred_right, next_word, outputs, seed, table_words, table, row_of, byte_of, table_word, word_for, mixed}
use Rattle.model.proofs.Laws.ExclusiveOr.{xor-swap, same_left_out, same_right_out, xor-shl}

-- The first word is the output after the seed and not the seed; the last one; the mixed key of 42; 57336 and 333223 have the same mixed key.
abbrev known_words : List (ℕ × ℕ)
known_words = (get_or table 0 0, 723471715) ∷ (get_or table 1023 0, 4167850765) ∷ (mixed 42, 1666675757) ∷ (mixed 57336, 4282809656) ∷ (mixed 333223, 4282809656) ∷ []

pub known_words_lem : map (λ (w : ℕ × ℕ). w.0) known_words ≡ map (λ (w : ℕ × ℕ). w.1) known_words
unfolding stirred_left stirred_right next_word outputs table row_of byte_of table_word mixed
known_words_lem = refl

-- There are as many outputs as were asked for, so the table has 4 × 256 words.
outputs_long : (n x : ℕ) → length (outputs n x) ≡ n
unfolding outputs
outputs_long zero x = refl
outputs_long (suc n) x = ap suc (outputs_long n (next_word x))

pub table_long : length table ≡ table_words
unfolding table
table_long = outputs_long table_words seed

-- The four rows, one after the other, are the table.
pub rows_together : row_of 0 ++ (row_of 1 ++ (row_of 2 ++ row_of 3)) ≡ table
unfolding stirred_left stirred_right next_word outputs table row_of
rows_together = refl

-- ---- The generator's step is linear over exclusive or

left_linear : (k x y : ℕ) → stirred_left k (bit_xor x y) ≡ bit_xor (stirred_left k x) (stirred_left k y)
unfolding stirred_left
left_linear k x y =
    ap (λ (z : ℕ). bit_xor (bit_xor x y) (z % 2 ^ 32)) (xor-shl x y k) ∙ ap (bit_xor (bit_xor x y)) (xor_mod (x * 2 ^ k) (y * 2 ^ k) 32)
    ∙ xor-swap x y (x * 2 ^ k % 2 ^ 32) (y * 2 ^ k % 2 ^ 32)

right_linear : (k x y : ℕ) → stirred_right k (bit_xor x y) ≡ bit_xor (stirred_right k x) (stirred_right k y)
unfolding stirred_right
right_linear k x y = ap (bit_xor (bit_xor x y)) (xor_shr x y k) ∙ xor-swap x y (x / 2 ^ k) (y / 2 ^ k)

pub next_linear : (x y : ℕ) → next_word (bit_xor x y) ≡ bit_xor (next_word x) (next_word y)
unfolding next_word
next_linear x y =
    ap (λ (z : ℕ). stirred_left 5 (stirred_right 17 z)) (left_linear 13 x y)
    ∙ ap (stirred_left 5) (right_linear 17 (stirred_left 13 x) (stirred_left 13 y))
    ∙ left_linear 5 (stirred_right 17 (stirred_left 13 x)) (stirred_right 17 (stirred_left 13 y))

-- ---- Keys that agree in all bytes but one

-- Four words mixed: of two mixtures that share three words, the other two are left.
abbrev four : ℕ → ℕ → ℕ → ℕ → ℕ
four a b c d = bit_xor (bit_xor (bit_xor a b) c) d

first-left : (a x b c d : ℕ) → bit_xor (four a b c d) (four x b c d) ≡ bit_xor a x
first-left a x b c d = same_right_out d (bit_xor (bit_xor a b) c) (bit_xor (bit_xor x b) c) ∙ same_right_out c (bit_xor a b) (bit_xor x b) ∙ same_right_out b a x

second_left : (a b x c d : ℕ) → bit_xor (four a b c d) (four a x c d) ≡ bit_xor b x
second_left a b x c d = same_right_out d (bit_xor (bit_xor a b) c) (bit_xor (bit_xor a x) c) ∙ same_right_out c (bit_xor a b) (bit_xor a x) ∙ same_left_out a b x

third_left : (a b c x d : ℕ) → bit_xor (four a b c d) (four a b x d) ≡ bit_xor c x
third_left a b c x d = same_right_out d (bit_xor (bit_xor a b) c) (bit_xor (bit_xor a b) x) ∙ same_left_out (bit_xor a b) c x

module _ (k l : ℕ) where
  -- All bytes but number i are the same.
  abbrev pub AgreeBut : ℕ → Type 0
  AgreeBut i = (j : ℕ) → j < 4 → j ≢ i → byte_of j k ≡ byte_of j l

  same_word : (i j : ℕ) → AgreeBut i → j < 4 → j ≢ i → word_for j l ≡ word_for j k
  same_word i j agree h d = sym (ap (table_word j) (agree j h d))

  -- Their mixed keys differ by the exclusive or of that row's two words.
  pub one_byte : (i : ℕ) → i < 4 → AgreeBut i → bit_xor (mixed k) (mixed l) ≡ bit_xor (word_for i k) (word_for i l)
  unfolding mixed
  one_byte zero h agree =
      rw (same_word 0 1 agree (omega arith) (λ e. omega arith), same_word 0 2 agree (omega arith) (λ e. omega arith), same_word 0 3 agree (omega arith) (λ e. omega arith))
      (first-left (word_for 0 k) (word_for 0 l) (word_for 1 k) (word_for 2 k) (word_for 3 k))
  one_byte (suc zero) h agree =
      rw (same_word 1 0 agree (omega arith) (λ e. omega arith), same_word 1 2 agree (omega arith) (λ e. omega arith), same_word 1 3 agree (omega arith) (λ e. omega arith))
      (second_left (word_for 0 k) (word_for 1 k) (word_for 1 l) (word_for 2 k) (word_for 3 k))
  one_byte (suc (suc zero)) h agree =
      rw (same_word 2 0 agree (omega arith) (λ e. omega arith), same_word 2 1 agree (omega arith) (λ e. omega arith), same_word 2 3 agree (omega arith) (λ e. omega arith))
      (third_left (word_for 0 k) (word_for 1 k) (word_for 2 k) (word_for 2 l) (word_for 3 k))
  one_byte (suc (suc (suc zero))) h agree =
      rw (same_word 3 0 agree (omega arith) (λ e. omega arith), same_word 3 1 agree (omega arith) (λ e. omega arith), same_word 3 2 agree (omega arith) (λ e. omega arith))
      (same_left_out (bit_xor (bit_xor (word_for 0 k) (word_for 1 k)) (word_for 2 k)) (word_for 3 k) (word_for 3 l))
  one_byte (suc (suc (suc (suc i)))) h agree = absurd (omega arith)
