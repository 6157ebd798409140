-- Pages that links lead to, one after the other.
-- Main definitions: linked_pages and link_after (the pages that k links lead to, and the link after them); LeadsOn (something holds of each of them), LeadsApart (and none comes twice).
use Rattle.std.specs.Prelude.{List, [], ◌∷◌, ℕ, zero, suc, ◌≤◌}
use Rattle.model.specs.Pages.{page_of, link_of, linked_page}
use Rattle.model.proofs.Laws.Distinct.{Distinct}

-- The link word of the page that link l names.
abbrev pub next_link : List ℕ → ℕ → ℕ
next_link ps l = link_of (page_of ps (linked_page l))

-- The k pages that link l leads to, in order.
unfoldable pub linked_pages : List ℕ → ℕ → ℕ → List ℕ
linked_pages ps zero l = []
linked_pages ps (suc k) l = linked_page l ∷ linked_pages ps k (next_link ps l)

-- The link word after them.
unfoldable pub link_after : List ℕ → ℕ → ℕ → ℕ
link_after ps zero l = l
link_after ps (suc k) l = link_after ps k (next_link ps l)

-- Each of the k links from l on names a page, and P holds of it.
pub data LeadsOn (P : ℕ → Type 0) (ps : List ℕ) : ℕ → ℕ → Type 0 where
  none : {l : ℕ} → LeadsOn P ps 0 l
  also : {k l : ℕ} → 1 ≤ l → P (linked_page l) → LeadsOn P ps k (next_link ps l) → LeadsOn P ps (suc k) l

-- The same, and no page comes twice.
pub record LeadsApart (P : ℕ → Type 0) (ps : List ℕ) (k l : ℕ) : Type 0 where
  pub leads : LeadsOn P ps k l
  pub distinct : Distinct (linked_pages ps k l)
