-- A party's scratch page (document 01: "then one scratch page a party"): read, written, filled with a chain built beside the file, and written over a primary page.
-- Main definitions: scratch_of, with_scratch; built_beside (step 10); primary_written (steps 11 and 18).
use Rattle.std.specs.Prelude.{List, ℕ}
use Rattle.model.specs.declared.Root.{Root}
use Rattle.model.specs.Records.{at_step}
use Rattle.model.specs.declared.Entry.{Entry}
use Rattle.model.specs.Pages.{page_of, with_page, scratch_page, page_sound, primary_page}
use Rattle.model.specs.Filling.{pages_for, primary_of, overflow_written}
use Rattle.model.specs.Outcome.{View, with_root, with_party, with_pages, Outcome, moved, guarded}
use Rattle.model.specs.FreeList.{Taken, root_after_taking}

-- The page that the party's number names, read and written.
abbrev pub scratch_of : View → List ℕ
scratch_of v = page_of v.pages (scratch_page v.root v.number)

abbrev pub with_scratch : List ℕ → View → View
with_scratch w v = with_pages (with_page v.pages (scratch_page v.root v.number) w) v

-- The page words with a chain of these records and this local level built beside the file in the pages xs: its overflow pages written, its primary page held in party q's scratch page.
abbrev pub pages_with_built : Root → ℕ → List ℕ → ℕ → List Entry → List ℕ → List ℕ
pages_with_built r q ps level es xs = with_page (overflow_written r.capacity ps xs es) (scratch_page r q) (primary_of r.capacity level es xs)

-- The memory with such a chain built in the pages taken.
abbrev pub built_beside : View → ℕ → List Entry → Taken → View
built_beside v level es t =
    let ps = pages_with_built v.root v.number v.pages level es t.pages in
    with_root (root_after_taking t (pages_for v.root.capacity es) v.root) (with_pages ps v)

-- The party writes its scratch page over its chain's primary page, which must be sound, and goes on.
unfoldable pub primary_written : View → ℕ → Outcome
primary_written v next =
    guarded v (page_sound v.root (scratch_of v))
    (moved (with_party (at_step next v.party) (with_pages (with_page v.pages (primary_page v.party.chain) (scratch_of v)) v)))
