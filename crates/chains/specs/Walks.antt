-- What a list's walk tests of each page and answers, as the model's page_sound and list_from give them.
-- Main definitions: words_sound (page_sound, over the three words that it reads); answered (a reading, or damage, as the
-- code answers it); counted (how many pages a list has, or damage).
use Rattle.std.specs.Prelude.{Bool, ◌&&◌, List, ℕ, length, leb, Result, Ok, Err}
use Rattle.model.specs.declared.Damaged.{Damaged}
use Rattle.model.specs.declared.Root.{Root}
use Rattle.model.specs.Pages.{link_sound, most_level}
use Rattle.model.specs.Chains.{Checked, damaged, sound}

-- A page's test over its local level, key count and link.
unfoldable pub words_sound : Root → ℕ → ℕ → ℕ → Bool
words_sound r level count link = leb count r.capacity && leb level most_level && link_sound r link

-- What the code answers where a was read, or that a number was damaged.
abbrev pub answered : {A B : Type 0} → (A → B) → Checked A → Result B Damaged
answered f damaged = Err (record {})
answered f (sound a) = Ok (f a)

-- How many pages the list walked has.
abbrev pub counted : Checked (List ℕ) → Result ℕ Damaged
counted x = answered length x
