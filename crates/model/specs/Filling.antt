-- Pages filled with a chain's records (document 01: "the first b in its primary page, the next b in its first overflow page, and so on").
-- Main definitions: overflow_needed, fits_primary; primary_of (a chain's primary page); overflow_written (its overflow pages); PairIs (where a record stands on a page).
use Rattle.std.specs.Prelude.{◌≡◌, Bool, List, [], ◌∷◌, ℕ, ◌+◌, ◌-◌, ◌*◌, ◌/◌, length, get_or, take, drop, leb}
use Rattle.model.specs.declared.Entry.{Entry}
use Rattle.model.specs.Sizes.{record_words}
use Rattle.model.specs.Entries.{key_of, setting_of, entry_of}
use Rattle.model.specs.Pages.{filled_page, with_page, link_to_first}

-- "m keys need ceil(m/b) − 1 overflow pages, none for m = 0": b records a page, m records.
unfoldable pub overflow_needed : ℕ → ℕ → ℕ
overflow_needed b m = (m + (b - 1)) / b - 1

-- The overflow pages that a list of records needs.
unfoldable pub pages_for : ℕ → List Entry → ℕ
pages_for b es = overflow_needed b (length es)

-- Whether the records "fit the primary page": at most b of them.
unfoldable pub fits_primary : ℕ → List Entry → Bool
fits_primary b es = leb (length es) b

-- The primary page of a chain with these records and the overflow pages xs.
unfoldable pub primary_of : ℕ → ℕ → List Entry → List ℕ → List ℕ
primary_of b level es xs = filled_page level (take b es) (link_to_first xs)

-- The page memory with the pages xs filled with the records es, b a page, each linked to the next.
unfoldable pub filled : ℕ → List ℕ → List ℕ → List Entry → List ℕ
filled b ps [] es = ps
filled b ps (x ∷ xs) es = filled b (with_page ps x (filled_page 0 (take b es) (link_to_first xs))) xs (drop b es)

-- The page memory with the overflow pages of a chain written: the records after the first b.
unfoldable pub overflow_written : ℕ → List ℕ → List ℕ → List Entry → List ℕ
overflow_written b ps xs es = filled b ps xs (drop b es)

-- Record i of a list; past its end, a pair of zeros.
abbrev pub record_at : List Entry → ℕ → Entry
record_at es i = get_or es i (entry_of 0 0)

-- Pair i of the page w is the record e: "key first".
pub record PairIs (w : List ℕ) (i : ℕ) (e : Entry) : Type 0 where
  pub key_word : get_or w (3 + i * record_words) 0 ≡ key_of e
  pub setting_word : get_or w (4 + i * record_words) 0 ≡ setting_of e
