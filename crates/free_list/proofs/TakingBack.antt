-- A list given back in reverse order by one walk from its first page on: each page keeps its link, the last is linked
-- to the head that stood there.
-- Main statements: reversed_laid (that this is given_back of the list reversed); all_to_lay (the start), next_laid
-- and one_laid (a turn), all_laid (the end).
use mathlib.Core.Path.{◌≡◌, refl, ap, ◌∙◌}
use mathlib.Core.Bool.{true}
use mathlib.Core.List.{List, [], ◌∷◌, reverse, reverse_aux}
use Prim.Native.Nat.{ℕ, ◌+◌, ◌-◌, ◌*◌, ◌≤◌, ◌<◌}
use native.Mathlib.Omega.{arith}
use lib.ListN.{length}
use Rattle.model.specs.declared.Root.{Root}
use Rattle.model.specs.Sizes.{page_words}
use Rattle.model.specs.Pages.{page_of, with_page, link_of, free_page, link_sound, link_to_first}
use Rattle.model.specs.Chains.{list_from}
use Rattle.model.specs.FreeList.{given_back}
use Rattle.model.proofs.Laws.Lists.{All, all_map, eqb-diff}
use Rattle.model.proofs.Laws.Distinct.{Outside, Distinct}
use Rattle.model.proofs.Laws.Pages.{Has, has_with_page, length-free_page, with_page_comm}
use Rattle.model.proofs.Laws.Walks.{linked_distinct}
use Rattle.chains.specs.Walks.{counted}
use Rattle.std.specs.Prelude.{Ok}
use Rattle.free_list.specs.Giving.{listed, link_or}
use Rattle.free_list.proofs.Giving.{ListAt, first-within, walked_list, rest_list, listed-length}

-- The link to the first of the pages xs, to head where there is none.
abbrev first_or : List ℕ → ℕ → ℕ
first_or xs head = link_or (link_to_first xs) head

-- The page words with the pages xs free, each linked to the next, the last to head.
unfoldable pub laid : List ℕ → ℕ → List ℕ → List ℕ
laid ps head [] = ps
laid ps head (x ∷ xs) = laid (with_page ps x (free_page (first_or xs head))) head xs

-- A page beside them may be written before or after.
laid_beside : (ps : List ℕ) (head x l : ℕ) (xs : List ℕ) → Has ps x → All (Has ps) xs → Outside x xs
    → laid (with_page ps x (free_page l)) head xs ≡ with_page (laid ps head xs) x (free_page l)
unfolding laid
laid_beside ps head x l [] h a o = refl
laid_beside ps head x l (y ∷ xs) h a o =
    let k = first_or xs head in
    let apart = with_page_comm ps (free_page l) (free_page k) x y o.0 h a.0 (length-free_page l) (length-free_page k) in
    let still : (z : ℕ) → Has ps z → Has (with_page ps y (free_page k)) z = λ z g. has_with_page ps y (free_page k) a.0 (length-free_page k) g in
    ap (λ (qs : List ℕ). laid qs head xs) apart ∙ laid_beside (with_page ps y (free_page k)) head x l xs (still x h) (all_map xs still a.1) o.1

-- The pages xs given back in reverse order, then the pages ys.
laid_then : (ps : List ℕ) (head : ℕ) (xs ys : List ℕ) → All (Has ps) xs → Distinct xs → given_back ps head (reverse_aux xs ys) ≡ given_back (laid ps head xs) (first_or xs head) ys
unfolding laid given_back link_to_first
laid_then ps head [] ys a d = refl
laid_then ps head (x ∷ xs) ys a d =
    let named : link_or (x + 1) head ≡ x + 1 = rw (eqb-diff (x + 1) 0 (λ e. omega (arith, e))) refl in
    laid_then ps head xs (x ∷ ys) a.1 d.1 ∙ rw (named, laid_beside ps head x (first_or xs head) xs a.0 a.1 d.0) refl

pub reversed_laid : (ps : List ℕ) (head : ℕ) (xs : List ℕ) → All (Has ps) xs → Distinct xs → given_back ps head (reverse xs) ≡ record { pages = laid ps head xs; head = first_or xs head }
unfolding given_back
reversed_laid ps head xs a d = laid_then ps head xs [] a d

-- In memory ps the list at l has `left` pages, and laying them before the free list at head leaves `whole`.
pub record ToLay (r : Root) (whole ps : List ℕ) (head l left : ℕ) : Type 0 where
  pub rest : List ℕ
  pub list : ListAt r ps l rest
  pub count : length rest ≡ left
  pub same : whole ≡ laid ps head rest

-- The next page stands in the memory.
pub next_laid : {r : Root} {whole ps : List ℕ} {head l left : ℕ} → ToLay r whole ps head l left → 0 < left → (r.primaries < l) × (l ≤ r.primaries + r.overflow)
next_laid {r} {ps = ps} {l = l} g more = first-within r ps l g.rest g.list (omega (arith, g.count))

-- No page is written yet.
pub all_to_lay : (r : Root) (ps : List ℕ) (head first n : ℕ) → link_sound r first ≡ true → counted (list_from r ps first) ≡ Ok n
    → ToLay r (laid ps head (listed (list_from r ps first))) ps head first n
all_to_lay r ps head first n s e = record { rest = listed (list_from r ps first); list = walked_list r ps first n s e; count = listed-length (list_from r ps first) n e; same = refl }

-- The next page keeps its link, or has the head where it is the last.
pub one_laid : (r : Root) (whole ps : List ℕ) (head l left : ℕ) → 0 < left → page_words * (r.primaries + r.overflow) ≤ length ps → ToLay r whole ps head l left
    → {ps' : List ℕ} {l' left' : ℕ} → l' ≡ link_of (page_of ps (l - 1)) → ps' ≡ with_page ps (l - 1) (free_page (link_or l' head)) → left' ≡ left - 1 → ToLay r whole ps' head l' left'
unfolding laid link_to_first
one_laid r whole ps head l left more fits g e₁ e₂ e₃ = rw (e₂, e₁, e₃) (go g.rest g.list g.count g.same)
  where
    go : (xs : List ℕ) → ListAt r ps l xs → length xs ≡ left → whole ≡ laid ps head xs
        → ToLay r whole (with_page ps (l - 1) (free_page (link_or (link_of (page_of ps (l - 1))) head))) head (link_of (page_of ps (l - 1))) (left - 1)
    go [] h count same = absurd (omega arith)
    go (x ∷ xs) h count same =
        let here : l - 1 ≡ x = omega (arith, h.chained.first) in
        let next = h.chained.linked.1 in
        rw (here, next) record {
          rest = xs;
          list = rw next at (rest_list r ps l x xs (free_page (first_or xs head)) fits (length-free_page (first_or xs head)) h);
          count = omega arith;
          same = same;
        }

-- None is left, and the first is the head.
pub all_laid : (r : Root) (ps ps' : List ℕ) (head first n : ℕ) → link_sound r first ≡ true → counted (list_from r ps first) ≡ Ok n
    → page_words * (r.primaries + r.overflow) ≤ length ps → {l left : ℕ} → left ≤ 0 → ToLay r (laid ps head (listed (list_from r ps first))) ps' head l left
    → given_back ps head (reverse (listed (list_from r ps first))) ≡ record { pages = ps'; head = link_or first head }
unfolding laid
all_laid r ps ps' head first n s e fits {left = left} none g =
    let xs = listed (list_from r ps first) in
    let list = walked_list r ps first n s e in
    let has : All (Has ps) xs = all_map xs (λ x o. record { fits = omega (arith, o.below) }) list.overflow in
    reversed_laid ps head xs has (linked_distinct r ps xs list.chained.linked) ∙ rw (go g.rest g.count g.same, ← list.chained.first) refl
  where
    go : (xs : List ℕ) → length xs ≡ left → laid ps head (listed (list_from r ps first)) ≡ laid ps' head xs → laid ps head (listed (list_from r ps first)) ≡ ps'
    go [] count same = same
    go (x ∷ xs) count same = absurd (omega arith)
