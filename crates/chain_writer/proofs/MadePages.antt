-- A page made of the next records, record by record. All the records of the source are `all`.
-- Main statements: none_put (the start), record_put and record_passed (a turn), page_made (the end).
use mathlib.Core.Path.{◌≡◌, refl, sym, ap, ◌∙◌}
use mathlib.Core.List.{List, ◌∷◌}
use Prim.Native.Nat.{ℕ, ◌+◌, ◌*◌, ◌≤◌, ◌<◌}
use native.Mathlib.Numerals.{add-one}
use native.Mathlib.Omega.{arith}
use lib.ListN.{length, get_or, set, take, drop, replicate}
use lib.Seq.{length-take-le, get_or-take, drop-cons}
use Rattle.model.specs.declared.Entry.{Entry}
use Rattle.model.specs.Sizes.{most_records, record_words}
use Rattle.model.specs.Entries.{key_of, setting_of, entry_of}
use Rattle.model.specs.Pages.{words_of, filled_page}
use Rattle.model.specs.Filling.{record_at}
use Rattle.model.proofs.Laws.Pages.{length_words_of}
use Rattle.model.proofs.Laws.RecordWords.{words_key, words_setting}
use Rattle.filling.proofs.PageWords.{room, words_after, word_written, page_whole}

module _ (level n link : ℕ) (all : List Entry) (few : n ≤ most_records) (enough : n ≤ length all) where
  long : length (take n all) ≡ n
  long = length-take-le n all enough

  -- The words of the page once i records are put.
  abbrev pub put_words : ℕ → List ℕ
  put_words i = words_after level n (words_of (take n all)) link (i * record_words)

  pub none_put : level ∷ (n ∷ (link ∷ replicate room 0)) ≡ put_words 0
  none_put = refl

  module _ (i : ℕ) (e : Entry) (rest : List Entry) (more : i < n) (here : drop i all ≡ e ∷ rest) where
    both : record_at all i ∷ drop (i + 1) all ≡ e ∷ rest
    both = rw add-one (sym (drop-cons all i (entry_of 0 0) (omega arith)) ∙ here)

    record_is : record_at (take n all) i ≡ e
    record_is = let first : record_at all i ≡ e = cc both in get_or-take n all i (entry_of 0 0) more ∙ first

    pub record_put : (w : List ℕ) → w ≡ put_words i → set (set w (3 + i * record_words) (key_of e)) (3 + i * record_words + 1) (setting_of e) ≡ put_words (i + 1)
    record_put w q =
        let ws = words_of (take n all) in
        let at = i * record_words in
        let size = length_words_of (take n all) in
        let key : get_or ws at 0 ≡ key_of e = words_key (take n all) i (omega (arith, long)) ∙ ap key_of record_is in
        let setting : get_or ws (at + 1) 0 ≡ setting_of e = words_setting (take n all) i (omega (arith, long)) ∙ ap setting_of record_is in
        let next : 3 + at + 1 ≡ 3 + (at + 1) = omega arith in
        let end : at + 1 + 1 ≡ (i + 1) * record_words = omega arith in
        let one = word_written level n ws link at (omega (arith, long, size)) (omega (arith, long, size)) in
        let two = word_written level n ws link (at + 1) (omega (arith, long, size)) (omega (arith, long, size)) in
        rw (next, q, ← key, ← setting) (ap (λ (v : List ℕ). set v (3 + (at + 1)) (get_or ws (at + 1) 0)) one ∙ two ∙ ap (words_after level n ws link) end)

    pub record_passed : rest ≡ drop (i + 1) all
    record_passed = let others : drop (i + 1) all ≡ rest = cc both in sym others

  pub page_made : (i : ℕ) → i ≡ n → put_words i ≡ filled_page level (take n all) link
  page_made i h =
      let es = take n all in
      ap (λ (m : ℕ). words_after level m (words_of es) link (i * record_words)) (sym long) ∙ page_whole level es link (i * record_words) (omega (arith, long, h)) (omega (arith, long))
