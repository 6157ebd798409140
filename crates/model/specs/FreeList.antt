-- The free list (document 01: "Pages are taken from the head; a page given back becomes the head").
-- Main definitions: too_few, Taken and taken_from (pages taken, with the tests of damage), root_after_taking; GivenBack and given_back (pages given back, in order), pages_given_back.
use Rattle.std.specs.Prelude.{Bool, false, cond, ◌&&◌, not, ◌||◌, List, [], ◌∷◌, ℕ, ◌+◌, ◌-◌, zero, suc, eqb, ltb, leb, length}
use Rattle.model.specs.declared.Root.{Root}
use Rattle.model.specs.Records.{with_free_list}
use Rattle.model.specs.Pages.{page_of, with_page, link_of, free_page, names_overflow, linked_page, link_to}
use Rattle.model.specs.Chains.{Checked, damaged, sound, and_then}
use Rattle.model.specs.Outcome.{View, with_root, with_pages}

-- Whether fewer pages are free than wanted: the free count alone decides.
unfoldable pub too_few : Root → ℕ → Bool
too_few r k = ltb r.free k

-- Whether x is in the list.
unfoldable pub is_among : ℕ → List ℕ → Bool
is_among x [] = false
is_among x (y ∷ ys) = eqb y x || is_among x ys

-- Pages taken, in order, and the link word that is then the head.
pub record Taken : Type 0 where
  pub pages : List ℕ
  pub head : ℕ

unfoldable pub also_taken : ℕ → Taken → Taken
also_taken x t = record { pages = x ∷ t.pages; head = t.head }

-- k pages from link l on, none of them among those taken before: "a free list that ends, or names a page twice or no overflow page, before the pages taken" is damage.
unfoldable pub taken_from : Root → List ℕ → ℕ → ℕ → List ℕ → Checked Taken
taken_from r ps zero l before = sound (record { pages = []; head = l })
taken_from r ps (suc k) l before =
    let x = linked_page l in
    let rest = and_then (taken_from r ps k (link_of (page_of ps x)) (x ∷ before)) (λ t. sound (also_taken x t)) in
    cond (names_overflow r l && not (is_among x before)) rest damaged

-- k pages from the head of the free list.
unfoldable pub pages_taken : Root → List ℕ → ℕ → Checked Taken
pages_taken r ps k = taken_from r ps k r.head []

-- The root with k pages less in the free list.
unfoldable pub root_after_taking : Taken → ℕ → Root → Root
root_after_taking t k r = with_free_list t.head (r.free - k) r

-- The page memory and the head after a give-back.
pub record GivenBack : Type 0 where
  pub pages : List ℕ
  pub head : ℕ

-- The pages xs given back in order to the list that starts at head: each is zeroed but for its link, and becomes the head.
unfoldable pub given_back : List ℕ → ℕ → List ℕ → GivenBack
given_back ps head [] = record { pages = ps; head = head }
given_back ps head (x ∷ xs) = given_back (with_page ps x (free_page head)) (link_to x) xs

-- Whether giving back n pages keeps the free count within V.
unfoldable pub room_to_give_back : Root → ℕ → Bool
room_to_give_back r n = leb (r.free + n) r.overflow

-- The memory with the pages xs given back.
unfoldable pub pages_given_back : List ℕ → View → View
pages_given_back xs v =
    let g = given_back v.pages v.root.head xs in
    with_root (with_free_list g.head (v.root.free + length xs) v.root) (with_pages g.pages v)
