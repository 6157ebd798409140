-- Records moved by one place in a buffer: the words that `copy_within` moves, as records.
-- Main statements: all_but (a list without one place); records_moved; put_in_place, left_out (what the front is at the end).
use Rattle.std.proofs.Common.{◌≡◌, refl, sym, ap, ◌∙◌, ℕ, ◌+◌, ◌-◌, ◌*◌, ◌≤◌, ◌<◌, List, [], ◌∷◌, ◌++◌, length, get_or, set, take, drop, length-append, length-drop, append_assoc, add-one, arith}
use Rattle.std.specs.List.{copy_within}
use Rattle.std.proofs.lemmas.List.{drop-take}
use Rattle.std.proofs.lemmas.List.Edits.{take-paste}
use lib.Seq.{length-take-le, take-take, take-suc, take_at, set-append_seam}
use Rattle.model.specs.declared.Entry.{Entry}
use Rattle.model.specs.Entries.{entry_of}
use Rattle.model.specs.Sizes.{record_words}
use Rattle.model.specs.Pages.{records_in}
use Rattle.model.proofs.Laws.RecordWords.{length_records, records_take, records_drop, records_append}

-- The list without what stands at place i.
abbrev pub all_but : ℕ → List Entry → List Entry
all_but i l = take i l ++ drop (i + 1) l

-- Whole records moved as words are the records moved.
pub records_moved : (ws : List ℕ) (a e at : ℕ) → a ≤ e → e ≤ length (records_in ws) → at + (e - a) ≤ length (records_in ws)
    → records_in (copy_within ws (a * record_words) (e * record_words) (at * record_words))
    ≡ copy_within (records_in ws) a e at
records_moved ws a e at order within room =
    let n = e - a in
    let words : e * record_words - a * record_words ≡ n * record_words = omega arith in
    let behind : at * record_words + n * record_words ≡ (at + n) * record_words = omega arith in
    let front = take (at * record_words) ws in
    let moved = take (n * record_words) (drop (a * record_words) ws) in
    let long = length_records ws in
    let front_long : length front ≡ at * record_words = length-take-le (at * record_words) ws (omega arith) in
    let moved_long : length moved ≡ n * record_words
    = length-take-le (n * record_words) (drop (a * record_words) ws) (rw length-drop (omega arith)) in
    let both_long : length (front ++ moved) ≡ (at + n) * record_words = rw (length-append, front_long, moved_long) (omega arith) in
    rw (words, behind)
    (records_append (at + n) (front ++ moved) (drop ((at + n) * record_words) ws) both_long
    ∙ rw (records_append at front moved front_long, records_take, records_take, records_drop, records_drop) refl)

-- A part of the front.
part : (old : List Entry) (n i : ℕ) → i ≤ n → drop i (take n old) ≡ take (n - i) (drop i old)
part old n i h =
    let q : n ≡ i + (n - i) = omega arith in
    ap (λ (m : ℕ). drop i (take m old)) q ∙ drop-take i (n - i) old

-- The records from i on moved up by one, and k put in at i: the front of n + 1.
pub put_in_place : (old : List Entry) (n i : ℕ) (k : Entry) → i ≤ n → n < length old
    → take (n + 1) (set (copy_within old i n (i + 1)) i k) ≡ take i (take n old) ++ (k ∷ drop i (take n old))
put_in_place old n i k h w =
    let front = take i old in
    let moved = take (n - i) (drop i old) in
    let back = drop (i + 1 + (n - i)) old in
    let here = get_or old i (entry_of 0 0) in
    let front_long : length front ≡ i = length-take-le i old (omega arith) in
    let moved_long : length moved ≡ n - i = length-take-le (n - i) (drop i old) (rw length-drop (omega arith)) in
    let one_more : take (i + 1) old ≡ front ++ (here ∷ []) = rw add-one (take-suc old i (entry_of 0 0) (omega arith)) in
    let copied : copy_within old i n (i + 1) ≡ front ++ (here ∷ (moved ++ back)) =
    rw (one_more, append_assoc, append_assoc) refl in
    let put : set (copy_within old i n (i + 1)) i k ≡ (front ++ (k ∷ moved)) ++ back =
    ap (λ (l : List Entry). set l i k) copied
    ∙ ap (λ (j : ℕ). set (front ++ (here ∷ (moved ++ back))) j k) (sym front_long)
    ∙ set-append_seam front here (moved ++ back) k
    ∙ sym (append_assoc front (k ∷ moved) back) in
    let long : length (front ++ (k ∷ moved)) ≡ n + 1 = rw (length-append, front_long) (omega (arith, moved_long)) in
    ap (take (n + 1)) put ∙ take_at (front ++ (k ∷ moved)) back (n + 1) long ∙ rw (take-take i n old h, part old n i h) refl

-- The records after i moved down by one: the front of n - 1.
pub left_out : (old : List Entry) (n i : ℕ) → i < n → n ≤ length old
    → take (n - 1) (copy_within old (i + 1) n i) ≡ all_but i (take n old)
left_out old n i h w =
    let q : n - 1 ≡ i + (n - (i + 1)) = omega arith in
    ap (λ (m : ℕ). take m (copy_within old (i + 1) n i)) q
    ∙ take-paste old i (drop (i + 1) old) (n - (i + 1)) (omega arith) (rw length-drop (omega arith))
    ∙ rw (take-take i n old (omega arith), part old n (i + 1) (omega arith)) refl
