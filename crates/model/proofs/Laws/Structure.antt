-- How lists of pages stand in the page memory: linked lists, the free list, and a bucket chain's pages word for word.
-- Main statements: Linked (pages that links lead through), FreePages (the free list), Overflow and ChainIs (a chain that holds exactly these records); SameOn (two memories that agree on
-- some pages) with the frames of each.
use mathlib.Core.Path.{◌≡◌, ◌∙◌}
use mathlib.Core.Bool.{true}
use mathlib.Core.List.{List, [], ◌∷◌, ◌++◌}
use Prim.Native.Nat.{ℕ, ◌<◌}
use lib.ListN.{length, take, drop}
use Rattle.model.specs.declared.Root.{Root}
use Rattle.model.specs.declared.Entry.{Entry}
use Rattle.model.specs.Pages.{page_of, filled_page, free_page, link_of, link_to_first, page_sound, primary_page}
use Rattle.model.specs.Filling.{primary_of}

-- Each page sound and linked to the next, the last to none.
abbrev pub Linked : Root → List ℕ → List ℕ → Type 0
Linked r ps [] = Unit {0}
Linked r ps (x ∷ xs) = (page_sound r (page_of ps x) ≡ true) × (link_of (page_of ps x) ≡ link_to_first xs) × Linked r ps xs

-- Each page free and linked to the next.
abbrev pub FreePages : List ℕ → List ℕ → Type 0
FreePages ps [] = Unit {0}
FreePages ps (x ∷ xs) = (page_of ps x ≡ free_page (link_to_first xs)) × FreePages ps xs

-- The pages hold exactly these records, b a page, none empty, each linked to the next.
abbrev pub Overflow : ℕ → List ℕ → List ℕ → List Entry → Type 0
Overflow b ps [] es = es ≡ []
Overflow b ps (x ∷ xs) es = (0 < length es) × (page_of ps x ≡ filled_page 0 (take b es) (link_to_first xs)) × Overflow b ps xs (drop b es)

-- Chain c has this local level, these records, and the overflow pages xs.
pub record ChainIs (b : ℕ) (ps : List ℕ) (c level : ℕ) (es : List Entry) (xs : List ℕ) : Type 0 where
  pub primary : page_of ps (primary_page c) ≡ primary_of b level es xs
  pub overflow : Overflow b ps xs (drop b es)

-- The two memories agree on these pages.
abbrev pub SameOn : List ℕ → List ℕ → List ℕ → Type 0
SameOn ps qs [] = Unit {0}
SameOn ps qs (x ∷ xs) = (page_of qs x ≡ page_of ps x) × SameOn ps qs xs

-- ---- A list of pages goes by its own pages

pub linked_frame : (r : Root) (ps qs xs : List ℕ) → SameOn ps qs xs → Linked r ps xs → Linked r qs xs
linked_frame r ps qs [] s h = tt
linked_frame r ps qs (x ∷ xs) s h = (rw s.0 h.0, rw s.0 h.1, linked_frame r ps qs xs s.1 h.2)

pub free_frame : (ps qs xs : List ℕ) → SameOn ps qs xs → FreePages ps xs → FreePages qs xs
free_frame ps qs [] s h = tt
free_frame ps qs (x ∷ xs) s h = (s.0 ∙ h.0, free_frame ps qs xs s.1 h.1)

pub overflow_frame : (b : ℕ) (ps qs xs : List ℕ) (es : List Entry) → SameOn ps qs xs → Overflow b ps xs es → Overflow b qs xs es
overflow_frame b ps qs [] es s h = h
overflow_frame b ps qs (x ∷ xs) es s h = (h.0, s.0 ∙ h.1, overflow_frame b ps qs xs (drop b es) s.1 h.2)

pub chain_frame : (b : ℕ) (ps qs : List ℕ) (c level : ℕ) (es : List Entry) (xs : List ℕ) → page_of qs (primary_page c) ≡ page_of ps (primary_page c)
    → SameOn ps qs xs → ChainIs b ps c level es xs → ChainIs b qs c level es xs
chain_frame b ps qs c level es xs e s h = record { primary = e ∙ h.primary; overflow = overflow_frame b ps qs xs (drop b es) s h.overflow }

-- Pages that agree one by one agree together.
pub same_on : (ps qs xs : List ℕ) → ((x : ℕ) → page_of qs x ≡ page_of ps x) → SameOn ps qs xs
same_on ps qs [] f = tt
same_on ps qs (x ∷ xs) f = (f x, same_on ps qs xs f)

pub same_append : (ps qs xs ys : List ℕ) → SameOn ps qs xs → SameOn ps qs ys → SameOn ps qs (xs ++ ys)
same_append ps qs [] ys a c = c
same_append ps qs (x ∷ xs) ys a c = (a.0, same_append ps qs xs ys a.1 c)
