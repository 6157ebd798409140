-- `mixing::mixed` meets its contract: each word is the table's, by the byte of its place.
use Rattle.std.proofs.Common.{◌≡◌, refl, sym, ap, ◌∙◌, ℕ, ◌%◌, List, [], get_or}
use native.Mathlib.Nat.{div-one}
use Rattle.model.specs.Mixing.{byte_of, table_word, mixed}
use Rattle.mixing.specs.Constant.{constant}
use Rattle.mixing.proofs.Made.{word_made}
use Rattle.mixing.proofs.mixed.Goals as goal

-- The word at a byte of the rows that `mixing::table` lends.
word_lent : {rows : List (List ℕ)} {bytes given : List ℕ} → rows ≡ constant → bytes ≡ given → (r word : ℕ)
    → word ≡ get_or (get_or rows r []) (get_or bytes r 0) 0 → word ≡ table_word r (get_or given r 0)
word_lent {given} same read r word e = e ∙ rw (same, read) (word_made r (get_or given r 0))

-- Dividing by 256^0 changes nothing.
pub returns : goal.returns
unfolding byte_of mixed
returns c =
    let word = word_lent c.table-rows.ensures c.to_le_bytes-bytes.ensures in
    let lowest = ap (λ (x : ℕ). table_word 0 (x % 256)) (div-one c.args.k) in
    rw (word 0 _ c.word.ensures ∙ sym lowest, word 1 _ c.word-2.ensures, word 2 _ c.word-3.ensures, word 3 _ c.word-4.ensures) refl
