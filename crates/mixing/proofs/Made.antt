-- The constant is what the generator makes: the xorshift rule, once over all of its 1,024 words, by computing.
-- Main statements: constant_made; row_made and word_made, from it.
use Rattle.std.proofs.Common.{◌≡◌, refl, sym, ap, ℕ, zero, suc, ◌*◌, [], get_or, length, arith}
use Rattle.std.proofs.lemmas.List.{drop_all}
use Rattle.std.specs.List.{concat}
use Rattle.model.specs.Mixing.{stirred_left, stirred_right, next_word, outputs, row_words, table, row_of, table_word}
use Rattle.mixing.specs.Constant.{constant}

-- The four rows, one after the other, are the table.
pub constant_made : concat constant ≡ table
unfolding constant stirred_left stirred_right next_word outputs table
constant_made = refl

-- So each row is the table's, and beyond them neither has a word.
pub row_made : (r : ℕ) → row_of r ≡ get_or constant r []
unfolding constant row_of
row_made zero = rw (sym constant_made) refl
row_made (suc zero) = rw (sym constant_made) refl
row_made (suc (suc zero)) = rw (sym constant_made) refl
row_made (suc (suc (suc zero))) = rw (sym constant_made) refl
row_made (suc (suc (suc (suc r)))) =
    let long : length table ≡ 1024 = ap length (sym constant_made) in
    rw (drop_all (suc (suc (suc (suc r))) * row_words) table (omega arith)) refl

-- The word for a byte in a row of the constant is the table's.
pub word_made : (r byte : ℕ) → get_or (get_or constant r []) byte 0 ≡ table_word r byte
unfolding table_word
word_made r byte = ap (λ row. get_or row byte 0) (sym (row_made r))
