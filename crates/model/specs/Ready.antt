-- What a step's code may take for granted, and the view that it is lent.
-- Main definitions: viewing (root, record, number and words as a view); Ready (what holds once no row of the refusal table is met).
use Rattle.std.specs.Prelude.{◌≡◌, true, false, List, ℕ, ◌≤◌, ◌<◌, length}
use Rattle.model.specs.declared.Root.{Root}
use Rattle.model.specs.declared.Party.{Party}
use Rattle.model.specs.Sizes.{most_records, lock_words, all_page_words, most_primaries, most_overflow, most_parties}
use Rattle.model.specs.Addresses.{span, chain_count}
use Rattle.model.specs.Steps.Dispatch.{has_step}
use Rattle.model.specs.Outcome.{View}

-- The view that a step function is lent: root and party by value, the party's number, lock words and page words.
abbrev pub viewing : Root → Party → ℕ → List ℕ → List ℕ → View
viewing r p q ls ps = record { root = r; party = p; number = q; locks = ls; pages = ps; behind = false }

-- What holds of a view once the sizes, the lengths, the party's number and the records have passed their tests.
pub record Ready (v : View) : Type 0 where
  pub some_original : 1 ≤ v.root.originals
  pub originals_fit : v.root.originals ≤ v.root.primaries
  pub chains_fit_ok : v.root.primaries ≤ most_primaries
  pub overflow_fits : v.root.overflow ≤ most_overflow
  pub some_key : 1 ≤ v.root.capacity
  pub keys_fit : v.root.capacity ≤ most_records
  pub parties_fit_lem : v.root.parties ≤ most_parties
  pub locks_fit : length v.locks ≡ lock_words v.root
  pub pages_fit : length v.pages ≡ all_page_words v.root
  pub number_fits : v.number < v.root.parties
  pub level_fits : v.root.level ≤ 8
  pub next_fits : v.root.next < span v.root.originals v.root.level
  pub count_fits : chain_count v.root.originals v.root.level v.root.next ≤ v.root.primaries
  pub free_fits : v.root.free ≤ v.root.overflow
  pub step_fits : has_step v.party.operation v.party.step ≡ true
  pub lev_fits : v.party.lev ≤ 9
  pub owed_fits_ok : v.party.owed ≤ 3
  pub answer_fits : v.party.answer ≤ 5
  pub chain_fits : v.party.chain < v.root.primaries
  pub other_fits : v.party.other < v.root.primaries
