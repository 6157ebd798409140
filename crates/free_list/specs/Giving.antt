-- What giving back a list leaves of the root record and the page words.
-- Main definitions: listed (the pages of a list that was walked), CanGive (what must hold of it), link_or, Returned and after_giving.
use Rattle.std.specs.Prelude.{◌≡◌, true, cond, List, [], ℕ, ◌+◌, ◌*◌, ◌≤◌, length, eqb, Ok}
use Rattle.model.specs.declared.Root.{Root}
use Rattle.model.specs.Records.{with_free_list}
use Rattle.model.specs.Sizes.{page_words}
use Rattle.model.specs.Pages.{link_sound}
use Rattle.model.specs.Chains.{Checked, damaged, sound, list_from}
use Rattle.model.specs.FreeList.{given_back}
use Rattle.chains.specs.Walks.{counted}

-- The pages of the list, in order; none where a number was damaged.
abbrev pub listed : Checked (List ℕ) → List ℕ
listed damaged = []
listed (sound xs) = xs

-- The link leads to n pages, they were walked without damage, the free count has room for them, and the page memory has all primary and overflow pages.
pub record CanGive (r : Root) (ps : List ℕ) (first n : ℕ) : Type 0 where
  pub links : link_sound r first ≡ true
  pub walked : counted (list_from r ps first) ≡ Ok n
  pub room : r.free + n ≤ r.overflow
  pub fits : page_words * (r.primaries + r.overflow) ≤ length ps

-- The link l, where it names a page; else the link head.
abbrev pub link_or : ℕ → ℕ → ℕ
link_or l head = cond (eqb l 0) head l

-- A root record and page words.
pub record Returned : Type 0 where
  pub root : Root
  pub pages : List ℕ

abbrev pub returned : Root → List ℕ → Returned
returned r ps = record { root = r; pages = ps }

-- The root record and the page words once the pages xs are given back: the free list has another head, and as many pages more.
abbrev pub after_giving : Root → List ℕ → List ℕ → Returned
after_giving r ps xs = returned (with_free_list (given_back ps r.head xs).head (r.free + length xs) r) (given_back ps r.head xs).pages
