-- The mixed key, of which addresses are taken (document 02, change 3): "the exclusive or of four table words, one for each byte of the key".
-- Main definitions: next_word (the generator's step), outputs, table; row_of, byte_of, mixed.
use Rattle.std.specs.Prelude.{List, [], ◌∷◌, ℕ, zero, suc, ◌*◌, ◌/◌, ◌%◌, ◌^◌, get_or, take, drop}
use Rattle.std.specs.Int.Bits.{bit_xor}

-- A word with itself shifted over it: left, where bits beyond the thirty-second are lost, and right.
unfoldable pub stirred_left : ℕ → ℕ → ℕ
stirred_left k x = bit_xor x (x * 2 ^ k % 2 ^ 32)

unfoldable pub stirred_right : ℕ → ℕ → ℕ
stirred_right k x = bit_xor x (x / 2 ^ k)

-- The generator's step, "Marsaglia's xorshift32 with shifts 13 left, 17 right, 5 left": the output after x.
unfoldable pub next_word : ℕ → ℕ
next_word x = stirred_left 5 (stirred_right 17 (stirred_left 13 x))

-- The first n "successive outputs" after x.
unfoldable pub outputs : ℕ → ℕ → List ℕ
outputs zero x = []
outputs (suc n) x = (let y = next_word x in y ∷ outputs n y)

abbrev pub seed : ℕ
seed = 2463534242

-- A row of the table has a word for each byte, and there is a row for each byte of a key.
abbrev pub row_words : ℕ
row_words = 256

abbrev pub table_words : ℕ
table_words = 4 * row_words

-- "The table has 4 × 256 words, lowest byte's row first. Its words are the successive outputs" of the generator, the first of them the one after the seed.
unfoldable pub table : List ℕ
table = outputs table_words seed

-- Byte number i of a key, the lowest being 0.
unfoldable pub byte_of : ℕ → ℕ → ℕ
byte_of i k = k / 256 ^ i % 256

-- Row i of the table, and the word for a byte in it.
unfoldable pub row_of : ℕ → List ℕ
row_of i = take row_words (drop (i * row_words) table)

unfoldable pub table_word : ℕ → ℕ → ℕ
table_word i byte = get_or (row_of i) byte 0

-- The word of row i for a key.
abbrev pub word_for : ℕ → ℕ → ℕ
word_for i k = table_word i (byte_of i k)

-- The mixed key. Different keys may have the same.
unfoldable pub mixed : ℕ → ℕ
mixed k = bit_xor (bit_xor (bit_xor (word_for 0 k) (word_for 1 k)) (word_for 2 k)) (word_for 3 k)
