-- Pages of sixteen words in the page memory, and link words (document 01, "The lent memory").
-- Main definitions: page_of, with_page; the fields of a page; records_in and words_of (records as words); filled_page, free_page, zero_page; where the pages stand; link_sound, page_sound (the tests of a page followed).
use Rattle.std.specs.Prelude.{Bool, ◌&&◌, ◌||◌, List, [], ◌∷◌, ◌++◌, ℕ, ◌+◌, ◌-◌, ◌*◌, length, get_or, take, drop, replicate, ltb, leb, eqb}
use Rattle.model.specs.declared.Root.{Root}
use Rattle.model.specs.Sizes.{page_words, most_records, record_words}
use Rattle.model.specs.declared.Entry.{Entry}
use Rattle.model.specs.Entries.{key_of, setting_of, entry_of}

-- The sixteen words of page p.
unfoldable pub page_of : List ℕ → ℕ → List ℕ
page_of ps p = take page_words (drop (p * page_words) ps)

-- The page memory with page p replaced by the words w.
unfoldable pub with_page : List ℕ → ℕ → List ℕ → List ℕ
with_page ps p w = take (p * page_words) ps ++ (w ++ drop (p * page_words + page_words) ps)

-- "Word 0 is the local level (0 on an overflow page), word 1 the key count, word 2 the link (page number plus one, 0 for none)".
unfoldable pub level_of : List ℕ → ℕ
level_of w = get_or w 0 0

unfoldable pub count_of : List ℕ → ℕ
count_of w = get_or w 1 0

unfoldable pub link_of : List ℕ → ℕ
link_of w = get_or w 2 0

-- Words read as records, two a record, "key first"; a last word without a second is none.
unfoldable pub records_in : List ℕ → List Entry
records_in [] = []
records_in (k ∷ []) = []
records_in (k ∷ (x ∷ ws)) = entry_of k x ∷ records_in ws

-- "words 3 to 14 of a page hold six such pairs": as many as the count says.
unfoldable pub entries_of : List ℕ → List Entry
entries_of w = take (count_of w) (records_in (drop 3 w))

-- The words of records, one record after the other.
unfoldable pub words_of : List Entry → List ℕ
words_of [] = []
words_of (e ∷ es) = key_of e ∷ (setting_of e ∷ words_of es)

-- A page made of a local level, a run of records and a link; "word 15 zero. Unused key words are zero."
unfoldable pub filled_page : ℕ → List Entry → ℕ → List ℕ
filled_page level es link = level ∷ (length es ∷ (link ∷ (words_of es ++ replicate (most_records * record_words + 1 - length es * record_words) 0)))

-- "A free page is zero except word 2, its link in the free list."
unfoldable pub free_page : ℕ → List ℕ
free_page link = filled_page 0 [] link

unfoldable pub zero_page : List ℕ
zero_page = filled_page 0 [] 0

-- The page with another local level.
unfoldable pub with_local_level : ℕ → List ℕ → List ℕ
with_local_level level w = level ∷ drop 1 w

-- "the primary page of chain c is page c, overflow pages follow, then one scratch page a party".
abbrev pub primary_page : ℕ → ℕ
primary_page c = c

abbrev pub scratch_page : Root → ℕ → ℕ
scratch_page r q = r.primaries + r.overflow + q

-- The page that a link word other than 0 names, and the link word that names a page.
abbrev pub linked_page : ℕ → ℕ
linked_page l = l - 1

abbrev pub link_to : ℕ → ℕ
link_to p = p + 1

-- The link word that names the first page of a list, 0 for none.
unfoldable pub link_to_first : List ℕ → ℕ
link_to_first [] = 0
link_to_first (x ∷ xs) = link_to x

-- Whether a link word names an overflow page.
unfoldable pub names_overflow : Root → ℕ → Bool
names_overflow r l = ltb r.primaries l && leb l (r.primaries + r.overflow)

-- Whether a link word names no page or an overflow page.
unfoldable pub link_sound : Root → ℕ → Bool
link_sound r l = eqb l 0 || names_overflow r l

-- The largest local level that is no damage.
abbrev pub most_level : ℕ
most_level = 9

-- "on a page the step follows, count above b, local level above 9 ... or a link to no overflow page" is damage.
unfoldable pub page_sound : Root → List ℕ → Bool
page_sound r w = leb (count_of w) r.capacity && leb (level_of w) most_level && link_sound r (link_of w)
