-- A page's words written one after the other: one turn, over the model's filled_page.
-- Main statements: word_written, record_written (a turn), page_whole (the end); page_copied where the records
-- are copied.
use mathlib.Core.Path.{◌≡◌, refl, sym, ap, ◌∙◌}
use mathlib.Core.List.{List, ◌∷◌, ◌++◌}
use Prim.Native.Nat.{ℕ, zero, suc, ◌+◌, ◌-◌, ◌*◌, ◌/◌, ◌≤◌, ◌<◌}
use native.Mathlib.Numerals.{add-one}
use native.Mathlib.Omega.{arith}
use lib.ListN.{length, get_or, set, take, drop, replicate}
use lib.Seq.{drop-cons, take-suc, take_all, append_snoc, length-take-le, set_at}
use Rattle.model.specs.declared.Entry.{Entry}
use Rattle.model.specs.Sizes.{most_records, record_words}
use Rattle.model.specs.Pages.{records_in, words_of, filled_page}
use Rattle.model.proofs.Laws.Pages.{length_words_of}
use Rattle.model.proofs.Laws.RecordWords.{length_records, words_back}

-- A page's record words, and word 15.
abbrev pub room : ℕ
room = most_records * record_words + 1

-- The words once i words of the records are written, n records in all.
abbrev pub words_after : ℕ → ℕ → List ℕ → ℕ → ℕ → List ℕ
words_after level n ws link i = level ∷ (n ∷ (link ∷ (take i ws ++ drop i (replicate room 0))))

pub word_written : (level n : ℕ) (ws : List ℕ) (link i : ℕ) → i < length ws → length ws ≤ most_records * record_words
    → set (words_after level n ws link i) (3 + i) (get_or ws i 0) ≡ words_after level n ws link (i + 1)
word_written level n ws link i h k =
    let zeros = replicate {A = ℕ} room 0 in
    let three : 3 + i ≡ suc (suc (suc i)) = omega arith in
    let some : i < length zeros = omega arith in
    let x = get_or ws i 0 in
    let here : set (take i ws ++ drop i zeros) i x ≡ take i ws ++ (x ∷ drop (suc i) zeros) =
    ap (λ (l : List ℕ). set (take i ws ++ l) i x) (drop-cons zeros i 0 some) ∙ set_at (take i ws) (get_or zeros i 0) (drop (suc i) zeros) x i (length-take-le i ws (omega arith)) in
    let next : take i ws ++ (x ∷ drop (suc i) zeros) ≡ take (suc i) ws ++ drop (suc i) zeros =
    sym (append_snoc (take i ws) x (drop (suc i) zeros)) ∙ ap (λ (l : List ℕ). l ++ drop (suc i) zeros) (sym (take-suc ws i 0 h)) in
    rw (three, add-one) (ap (λ (l : List ℕ). level ∷ (n ∷ (link ∷ l))) (here ∙ next))

-- A record more: both of its words.
pub record_written : (level n : ℕ) (ws : List ℕ) (link i : ℕ) → i < length ws / record_words → length ws ≤ most_records * record_words
    → set (set (words_after level n ws link (i * record_words)) (3 + i * record_words) (get_or ws (i * record_words) 0)) (3 + i * record_words + 1) (get_or ws (i * record_words + 1) 0)
    ≡ words_after level n ws link ((i + 1) * record_words)
record_written level n ws link i h k =
    let key = i * record_words in
    let setting : 3 + key + 1 ≡ 3 + (key + 1) = omega arith in
    let next : (i + 1) * record_words ≡ key + 1 + 1 = omega arith in
    ap (λ (w : List ℕ). set w (3 + key + 1) (get_or ws (key + 1) 0)) (word_written level n ws link key (omega arith) k)
    ∙ rw (setting, next) (word_written level n ws link (key + 1) (omega arith) k)

zeros_left : (n m z : ℕ) → n ≤ m → drop n (replicate m z) ≡ replicate (m - n) z
zeros_left zero m z h = let q : m ≡ m - 0 = omega arith in ap (λ (k : ℕ). replicate k z) q
zeros_left (suc n) zero z h = absurd (omega arith)
zeros_left (suc n) (suc m) z h = let q : m - n ≡ suc m - suc n = omega arith in zeros_left n m z (omega arith) ∙ ap (λ (k : ℕ). replicate k z) q

pub page_whole : (level : ℕ) (es : List Entry) (link i : ℕ) → i ≡ length es * record_words → length es ≤ most_records → words_after level (length es) (words_of es) link i ≡ filled_page level es link
unfolding filled_page
page_whole level es link i q k =
    let all = length es * record_words in
    ap (λ (l : List ℕ). level ∷ (length es ∷ (link ∷ l)))
    (ap (λ (j : ℕ). take j (words_of es) ++ drop j (replicate room 0)) q
    ∙ ap (λ (l : List ℕ). l ++ drop all (replicate room 0)) (take_all all (words_of es) (omega (arith, length_words_of es)))
    ∙ ap (λ (l : List ℕ). words_of es ++ l) (zeros_left all room 0 (omega arith)))

-- ---- A page of words that were copied

pub page_copied : (level link : ℕ) (ws : List ℕ) → length ws ≤ most_records * record_words
    → level ∷ (length ws / record_words ∷ (link ∷ (take (length ws / record_words * record_words) ws
    ++ drop (length ws / record_words * record_words) (replicate room 0))))
    ≡ filled_page level (records_in ws) link
unfolding filled_page
page_copied level link ws few =
    rw (length_records, words_back, zeros_left (length ws / record_words * record_words) room 0 (omega arith)) refl
