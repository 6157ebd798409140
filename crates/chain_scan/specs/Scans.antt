-- A chain looked through whole, as what is said of it: its pages and records counted, and whether a key is among them.
-- Main definitions: StandsAt (a key's place on a page), ascent_from (records that ascend from a floor on), examined (a list
-- of records), scanned (a chain).
use Rattle.std.specs.Prelude.{◌≡◌, true, cond, List, [], ◌∷◌, ℕ, ◌+◌, ◌*◌, ◌<◌, length, get_or, leb, Result, Ok, Err}
use Rattle.std.proofs.Math.Option.{some}
use Rattle.model.specs.declared.Damaged.{Damaged}
use Rattle.model.specs.declared.Entry.{Entry}
use Rattle.model.specs.Sizes.{most_records, record_words}
use Rattle.model.specs.Entries.{key_of, has_key, setting_in, ascending}
use Rattle.model.specs.Chains.{Checked, Chain}
use Rattle.chains.specs.Walks.{answered}
use Rattle.chain_scan.specs.declared.Looked.{Looked}

-- Of the records es of page w, that at place i has key k and the setting that is found.
pub record StandsAt (w : List ℕ) (es : List Entry) (k i : ℕ) : Type 0 where
  pub inside : i < most_records
  pub has_key_ok : has_key k es ≡ true
  pub setting : setting_in k es ≡ some (get_or w (3 + i * record_words + 1) 0)

-- Where the first key is at least the floor and each other is above the one before it: one more than the last key.
unfoldable pub ascent_from : ℕ → List Entry → Result ℕ Damaged
ascent_from floor [] = Ok floor
ascent_from floor (e ∷ es) =
    let rest = ascent_from (key_of e + 1) es in
    cond (leb floor (key_of e)) rest (Err (record {}))

-- A chain of n overflow pages with the records es.
abbrev pub looked : ℕ → ℕ → List Entry → Looked
looked key n es = record { pages = n; count = length es; found = has_key key es }

-- The same, where the records ascend.
unfoldable pub examined : ℕ → ℕ → List Entry → Result Looked Damaged
examined key n es = cond (ascending es) (Ok (looked key n es)) (Err (record {}))

abbrev pub scanned : ℕ → Checked Chain → Result Looked Damaged
scanned key x = answered (λ c. looked key (length c.pages) c.entries) x
