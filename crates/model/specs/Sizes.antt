-- Sizes and their limits (document 01, "What it covers").
-- Main definitions: the limits by name, within_limits, and the three lengths that the lent memory must have.
use Rattle.std.specs.Prelude.{Bool, ◌&&◌, ℕ, ◌+◌, ◌*◌, leb}
use Rattle.model.specs.declared.Root.{Root}

-- Words of a page.
abbrev pub page_words : ℕ
page_words = 16

-- The limits: "P chains at most, 1 to 256. V overflow pages, 0 to 752. Q parties, 1 to 16." (document 01), "b is 1 to 6" (document 02, change 1).
abbrev pub most_primaries : ℕ
most_primaries = 256

abbrev pub most_overflow : ℕ
most_overflow = 752

abbrev pub most_parties : ℕ
most_parties = 16

abbrev pub most_records : ℕ
most_records = 6

-- Words that a record takes on a page: its key, then its setting.
abbrev pub record_words : ℕ
record_words = 2

-- x is from a to e.
abbrev pub within : ℕ → ℕ → ℕ → Bool
within a e x = leb a x && leb x e

-- "N original chains, 1 to P. P chains at most, 1 to 256. V overflow pages, 0 to 752. Q parties, 1 to 16." "b is 1 to 6".
unfoldable pub within_limits : Root → Bool
within_limits r =
    within 1 r.primaries r.originals && within 1 most_primaries r.primaries && leb r.overflow most_overflow && within 1 most_parties r.parties && within 1 most_records r.capacity

-- "Lock words ... are P+1."
abbrev pub lock_words : Root → ℕ
lock_words r = r.primaries + 1

-- "There are P+V+Q [pages]", sixteen words each.
abbrev pub all_page_words : Root → ℕ
all_page_words r = page_words * (r.primaries + r.overflow + r.parties)
