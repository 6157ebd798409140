-- A page's record words copied into the buffer.
-- Main statement: records_copied.
use mathlib.Core.Path.{◌≡◌, sym, ap, ◌∙◌}
use mathlib.Core.List.{List, ◌++◌}
use Prim.Native.Nat.{ℕ, ◌+◌, ◌*◌, ◌≤◌}
use native.Mathlib.Omega.{arith}
use lib.ListN.{length, take, drop}
use lib.Seq.{length-take-le, take-append-add, take-take}
use Rattle.model.specs.declared.Entry.{Entry}
use Rattle.model.specs.Sizes.{record_words}
use Rattle.model.specs.Pages.{count_of, records_in, entries_of}
use Rattle.model.proofs.Laws.RecordWords.{records_take, records_append}

module _ (words₀ words w : List ℕ) (at i : ℕ) (copied : take (at + i) words ≡ take at words₀ ++ take i (drop 3 w)) where
  -- The first n of the words copied.
  front_copied : (n : ℕ) → at ≤ length words₀ → n ≤ i → take (at + n) words ≡ take at words₀ ++ take n (drop 3 w)
  front_copied n h k =
      let long : length (take at words₀) ≡ at = length-take-le at words₀ h in
      let front : take (at + n) (take at words₀ ++ take i (drop 3 w)) ≡ take at words₀ ++ take n (take i (drop 3 w))
      = rw long at (take-append-add (take at words₀) (take i (drop 3 w)) n) in
      sym (take-take (at + n) (at + i) words (omega arith)) ∙ ap (take (at + n)) copied ∙ front ∙ ap (λ (l : List ℕ). take at words₀ ++ l) (take-take n i (drop 3 w) k)

-- The words past the page's records are left out: from record a on, the page's records stand in the buffer.
pub records_copied : (words₀ words w : List ℕ) (a i : ℕ) → take (a * record_words + i) words ≡ take (a * record_words) words₀ ++ take i (drop 3 w)
    → a * record_words ≤ length words₀ → count_of w * record_words ≤ i → take (a + count_of w) (records_in words) ≡ take a (records_in words₀) ++ entries_of w
unfolding entries_of
records_copied words₀ words w a i copied h k =
    let n = count_of w in
    let at = a * record_words in
    let q : (a + n) * record_words ≡ at + n * record_words = omega arith in
    sym (records_take (a + n) words)
    ∙ ap (λ (m : ℕ). records_in (take m words)) q
    ∙ ap records_in (front_copied words₀ words w at i copied (n * record_words) h k)
    ∙ records_append a (take at words₀) (take (n * record_words) (drop 3 w)) (length-take-le at words₀ h)
    ∙ ap (λ (l : List Entry). l ++ records_in (take (n * record_words) (drop 3 w))) (records_take a words₀)
    ∙ ap (λ (l : List Entry). take a (records_in words₀) ++ l) (records_take n (drop 3 w))
