-- Marks for numbers: a bit for each, 32 to a word, the lowest bit first. An overflow page is marked by its number among the overflow pages.
-- Main definitions: is_marked, with_mark; names_new and marks_with (a link that names an overflow page not marked yet, and the marks with that page),
-- followed (the link after it).
use Rattle.std.specs.Prelude.{Bool, cond, not, ◌&&◌, List, ℕ, ◌-◌, ◌/◌, ◌%◌, get_or, set, eqb, Result, Ok, Err}
use Rattle.model.specs.declared.Damaged.{Damaged}
use Rattle.model.specs.declared.Root.{Root}
use Rattle.model.specs.LockWords.{field_of, with_field}
use Rattle.model.specs.Pages.{page_of, link_of, names_overflow, linked_page}

-- Whether the bit of v is set.
unfoldable pub is_marked : List ℕ → ℕ → Bool
is_marked marks v = eqb (field_of (v % 32) 1 (get_or marks (v / 32) 0)) 1

-- The marks with the bit of v set.
unfoldable pub with_mark : List ℕ → ℕ → List ℕ
with_mark marks v = set marks (v / 32) (with_field (v % 32) 1 (get_or marks (v / 32) 0) 1)

-- Whether link l names an overflow page that is not marked.
unfoldable pub names_new : Root → List ℕ → ℕ → Bool
names_new r marks l = names_overflow r l && not (is_marked marks (linked_page l - r.primaries))

-- The marks once link l was followed: with its page, where that is new.
unfoldable pub marks_with : Root → List ℕ → ℕ → List ℕ
marks_with r marks l = cond (names_new r marks l) (with_mark marks (linked_page l - r.primaries)) marks

-- The link after it, or damage where it names no page that is new.
unfoldable pub followed : Root → List ℕ → List ℕ → ℕ → Result ℕ Damaged
followed r marks ps l = cond (names_new r marks l) (Ok (link_of (page_of ps (linked_page l)))) (Err (record {}))
