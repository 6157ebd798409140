-- Words read as records, two a record, key first: how many there are, parts of the words, the record passed next, a record written over another.
-- Main statements: length_records; records_take, records_drop, records_front, records_slice (parts of the words); records_append; record_at_lem, key_at and next_record; record_stored; words_key, words_setting, words_back (records as words again).
use mathlib.Core.Path.{◌≡◌, refl, ap, ◌∙◌}
use mathlib.Core.List.{List, [], ◌∷◌, ◌++◌}
use Prim.Native.Nat.{ℕ, zero, suc, ◌+◌, ◌-◌, ◌*◌, ◌/◌, ◌<◌}
use native.Mathlib.Numerals.{add-one}
use native.Mathlib.Omega.{arith}
use lib.ListN.{length, get_or, set, take, drop}
use lib.Seq.{drop-cons}
use Rattle.model.specs.declared.Entry.{Entry}
use Rattle.model.specs.Sizes.{record_words}
use Rattle.model.specs.Entries.{key_of, setting_of, entry_of}
use Rattle.model.specs.Pages.{records_in, words_of}
use Rattle.model.specs.Filling.{record_at}
use Rattle.model.proofs.Laws.Lists.{front_part}

pub length_records : (ws : List ℕ) → length (records_in ws) ≡ length ws / record_words
unfolding records_in
length_records [] = omega arith
length_records (k ∷ []) = omega arith
length_records (k ∷ (x ∷ ws)) = let h = length_records ws in omega (arith, h)

-- One record further is two words further.
further : (n : ℕ) → suc n * record_words ≡ suc (suc (n * record_words))
further n = omega arith

-- ---- Parts

pub records_take : (n : ℕ) (ws : List ℕ) → records_in (take (n * record_words) ws) ≡ take n (records_in ws)
unfolding records_in
records_take zero [] = refl
records_take zero (k ∷ []) = refl
records_take zero (k ∷ (x ∷ ws)) = refl
records_take (suc n) [] = rw (further n) refl
records_take (suc n) (k ∷ []) = rw (further n) refl
records_take (suc n) (k ∷ (x ∷ ws)) = rw (further n) (ap (λ (l : List Entry). entry_of k x ∷ l) (records_take n ws))

pub records_drop : (n : ℕ) (ws : List ℕ) → records_in (drop (n * record_words) ws) ≡ drop n (records_in ws)
unfolding records_in
records_drop zero ws = refl
records_drop (suc n) [] = rw (further n) refl
records_drop (suc n) (k ∷ []) = rw (further n) refl
records_drop (suc n) (k ∷ (x ∷ ws)) = rw (further n) (records_drop n ws)

-- The front of a buffer, as it is lent.
pub records_front : (n : ℕ) (ws : List ℕ) → records_in (take (n * record_words - 0) ws) ≡ take n (records_in ws)
records_front n ws = ap records_in (front_part (n * record_words) ws) ∙ records_take n ws

-- Words of n records, and others behind them.
pub records_append : (n : ℕ) (xs ys : List ℕ) → length xs ≡ n * record_words → records_in (xs ++ ys) ≡ records_in xs ++ records_in ys
unfolding records_in
records_append zero [] ys e = refl
records_append zero (k ∷ xs) ys e = absurd (omega (arith, e))
records_append (suc n) [] ys e = absurd (omega (arith, e))
records_append (suc n) (k ∷ []) ys e = absurd (omega (arith, e))
records_append (suc n) (k ∷ (x ∷ xs)) ys e = ap (λ (l : List Entry). entry_of k x ∷ l) (records_append n xs ys (omega (arith, e)))

-- The records from a on, n of them.
records_part : (a n : ℕ) (ws : List ℕ) → records_in (take (n * record_words) (drop (a * record_words) ws)) ≡ take n (drop a (records_in ws))
records_part a n ws = records_take n (drop (a * record_words) ws) ∙ ap (take n) (records_drop a ws)

-- The records from a up to e, as they are lent.
pub records_slice : (a e : ℕ) (ws : List ℕ) → records_in (take (e * record_words - a * record_words) (drop (a * record_words) ws)) ≡ take (e - a) (drop a (records_in ws))
records_slice a e ws =
    let q : e * record_words - a * record_words ≡ (e - a) * record_words = omega arith in
    ap (λ (n : ℕ). records_in (take n (drop (a * record_words) ws))) q ∙ records_part a (e - a) ws

-- ---- The record passed next

pub record_at_lem : (ws : List ℕ) (i : ℕ) → i < length (records_in ws) → record_at (records_in ws) i ≡ entry_of (get_or ws (i * record_words) 0) (get_or ws (i * record_words + 1) 0)
unfolding records_in
record_at_lem [] i h = absurd (omega arith)
record_at_lem (k ∷ []) i h = absurd (omega arith)
record_at_lem (k ∷ (x ∷ ws)) zero h = refl
record_at_lem (k ∷ (x ∷ ws)) (suc i) h = rw (further i, add-one) (record_at_lem ws i (omega arith) ∙ rw add-one refl)

pub key_at : (ws : List ℕ) (i : ℕ) → i < length (records_in ws) → key_of (record_at (records_in ws) i) ≡ get_or ws (i * record_words) 0
key_at ws i h = ap key_of (record_at_lem ws i h)

pub next_record : (ws : List ℕ) (i : ℕ) → i < length (records_in ws)
    → drop i (records_in ws) ≡ entry_of (get_or ws (i * record_words) 0) (get_or ws (i * record_words + 1) 0) ∷ drop (i + 1) (records_in ws)
next_record ws i h =
    let on : drop i (records_in ws) ≡ record_at (records_in ws) i ∷ drop (i + 1) (records_in ws) = rw add-one (drop-cons (records_in ws) i (entry_of 0 0) h) in
    on ∙ ap (λ (e : Entry). e ∷ drop (i + 1) (records_in ws)) (record_at_lem ws i h)

-- ---- A record written

pub record_stored : (ws : List ℕ) (i k x : ℕ) → i < length (records_in ws) → records_in (set (set ws (i * record_words) k) (i * record_words + 1) x) ≡ set (records_in ws) i (entry_of k x)
unfolding records_in
record_stored [] i k x h = absurd (omega arith)
record_stored (l ∷ []) i k x h = absurd (omega arith)
record_stored (l ∷ (y ∷ ws)) zero k x h = refl
record_stored (l ∷ (y ∷ ws)) (suc i) k x h =
    rw (further i, add-one) (ap (λ (es : List Entry). entry_of l y ∷ es) (rw add-one at (record_stored ws i k x (omega arith))))

-- ---- Records as words again

pub words_key : (es : List Entry) (i : ℕ) → i < length es → get_or (words_of es) (i * record_words) 0 ≡ key_of (record_at es i)
unfolding words_of
words_key [] i h = absurd (omega arith)
words_key (e ∷ es) zero h = refl
words_key (e ∷ es) (suc i) h = rw (further i) (words_key es i (omega arith))

pub words_setting : (es : List Entry) (i : ℕ) → i < length es → get_or (words_of es) (i * record_words + 1) 0 ≡ setting_of (record_at es i)
unfolding words_of
words_setting [] i h = absurd (omega arith)
words_setting (e ∷ es) zero h = refl
words_setting (e ∷ es) (suc i) h = rw (further i, add-one) (rw add-one at (words_setting es i (omega arith)))

pub words_back : (ws : List ℕ) → words_of (records_in ws) ≡ take (length ws / record_words * record_words) ws
unfolding records_in words_of
words_back [] = refl
words_back (k ∷ []) = refl
words_back (k ∷ (x ∷ ws)) =
    let e : length (k ∷ (x ∷ ws)) / record_words ≡ suc (length ws / record_words) = omega arith in
    rw (e, further (length ws / record_words)) (ap (λ (l : List ℕ). k ∷ (x ∷ l)) (words_back ws))
