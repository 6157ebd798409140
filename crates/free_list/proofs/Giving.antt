-- A list given back page by page while its links are read: one turn, over the model's given_back.
-- Main statements: walked_at_most (a list walked has at most V pages), walked_list, first-within, rest_list (its
-- pages, one by one); all_to_give (the start), next_given and one_given (a turn), all_given (the end); same_sizes, free_list_kept
-- (giving back leaves the rest of the root record).
use mathlib.Core.Path.{◌≡◌, refl, sym, ap, ◌∙◌}
use mathlib.Core.Bool.{true}
use mathlib.Core.List.{List, [], ◌∷◌}
use Prim.Native.Nat.{ℕ, ◌+◌, ◌-◌, ◌*◌, ◌≤◌, ◌<◌}
use native.Mathlib.Omega.{arith}
use lib.ListN.{length}
use Rattle.model.specs.declared.Root.{Root}
use Rattle.model.specs.Sizes.{page_words}
use Rattle.model.specs.Pages.{page_of, with_page, link_of, free_page, link_sound, link_to_first}
use Rattle.model.specs.Chains.{Checked, list_from}
use Rattle.model.specs.FreeList.{GivenBack, given_back}
use Rattle.model.proofs.Laws.Lists.{All}
use Rattle.model.proofs.Laws.Pages.{Has, length-free_page}
use Rattle.model.proofs.Laws.Structure.{linked_frame}
use Rattle.model.proofs.Laws.Filling.{Chained, IsOverflow}
use Rattle.model.proofs.Laws.Walks.{walked_chained, linked_overflow, linked_distinct, same_beside}
use Rattle.chains.specs.Walks.{counted}
use Rattle.chains.proofs.Answered.{answered_sound}
use Rattle.std.specs.Prelude.{Ok}
use Rattle.model.specs.Records.{with_free_list}
use Rattle.free_list.specs.Giving.{listed, Returned, returned, after_giving}

-- A list that was walked without damage has at most V pages.
pub walked_at_most : (r : Root) (ps : List ℕ) (l n : ℕ) → counted (list_from r ps l) ≡ Ok n → n ≤ r.overflow
unfolding list_from
walked_at_most r ps l n e =
    let read = answered_sound length (list_from r ps l) (sym e) in
    omega (arith, read.answer, (walked_chained r ps r.overflow l read.value read.is_sound).1)

-- The list's length is what the walk counted.
pub listed-length : (x : Checked (List ℕ)) (n : ℕ) → counted x ≡ Ok n → length (listed x) ≡ n
listed-length x n e = let read = answered_sound length x (sym e) in rw read.is_sound read.answer

-- Link l leads to the pages xs, which are overflow pages.
pub record ListAt (r : Root) (ps : List ℕ) (l : ℕ) (xs : List ℕ) : Type 0 where
  pub chained : Chained r ps l xs
  pub overflow : All (IsOverflow r) xs

-- The pages of the list that was walked.
pub walked_list : (r : Root) (ps : List ℕ) (first n : ℕ) → link_sound r first ≡ true → counted (list_from r ps first) ≡ Ok n → ListAt r ps first (listed (list_from r ps first))
unfolding list_from
walked_list r ps first n s e =
    let read = answered_sound length (list_from r ps first) (sym e) in
    let found = (walked_chained r ps r.overflow first read.value read.is_sound).0 in
    rw read.is_sound record { chained = found; overflow = linked_overflow r ps read.value (rw found.first at s) found.linked }

-- The first page is an overflow page.
pub first-within : (r : Root) (ps : List ℕ) (l : ℕ) (xs : List ℕ) → ListAt r ps l xs → 0 < length xs → (r.primaries < l) × (l ≤ r.primaries + r.overflow)
unfolding link_to_first
first-within r ps l [] g more = absurd (omega arith)
first-within r ps l (x ∷ xs) g more = (omega (arith, g.chained.first, g.overflow.0.above), omega (arith, g.chained.first, g.overflow.0.below))

-- Once it is written, its link as it was leads to the rest.
pub rest_list : (r : Root) (ps : List ℕ) (l x : ℕ) (xs w : List ℕ) → page_words * (r.primaries + r.overflow) ≤ length ps → length w ≡ page_words → ListAt r ps l (x ∷ xs)
    → ListAt r (with_page ps x w) (link_of (page_of ps x)) xs
rest_list r ps l x xs w fits long g =
    let has : Has ps x = record { fits = omega (arith, g.overflow.0.below) } in
    let kept = same_beside ps x w xs has long (linked_distinct r ps (x ∷ xs) g.chained.linked).0 in
    record {
      chained = record { first = g.chained.linked.1; linked = linked_frame r ps (with_page ps x w) xs kept g.chained.linked.2 };
      overflow = g.overflow.1;
    }

-- In memory ps the list at l has `left` pages, and giving them back to the free list at head leaves `whole`.
pub record ToGive (r : Root) (whole : GivenBack) (ps : List ℕ) (head l left : ℕ) : Type 0 where
  pub rest : List ℕ
  pub list : ListAt r ps l rest
  pub count : length rest ≡ left
  pub same : whole ≡ given_back ps head rest

-- The next page stands in the memory.
pub next_given : {r : Root} {whole : GivenBack} {ps : List ℕ} {head l left : ℕ} → ToGive r whole ps head l left → 0 < left → (r.primaries < l) × (l ≤ r.primaries + r.overflow)
next_given {r} {ps = ps} {l = l} g more = first-within r ps l g.rest g.list (omega (arith, g.count))

-- Nothing is given back yet.
pub all_to_give : (r : Root) (ps : List ℕ) (head first n : ℕ) → link_sound r first ≡ true → counted (list_from r ps first) ≡ Ok n
    → ToGive r (given_back ps head (listed (list_from r ps first))) ps head first n
all_to_give r ps head first n s e = record { rest = listed (list_from r ps first); list = walked_list r ps first n s e; count = listed-length (list_from r ps first) n e; same = refl }

-- The next page becomes the head; its link was read before.
pub one_given : (r : Root) (whole : GivenBack) (ps : List ℕ) (head l left : ℕ) → 0 < left → page_words * (r.primaries + r.overflow) ≤ length ps → ToGive r whole ps head l left
    → {ps' : List ℕ} {head' l' left' : ℕ} → ps' ≡ with_page ps (l - 1) (free_page head) → head' ≡ l → l' ≡ link_of (page_of ps (l - 1)) → left' ≡ left - 1 → ToGive r whole ps' head' l' left'
unfolding given_back link_to_first
one_given r whole ps head l left more fits g e₁ e₂ e₃ e₄ = rw (e₁, e₂, e₃, e₄) (go g.rest g.list g.count g.same)
  where
    go : (xs : List ℕ) → ListAt r ps l xs → length xs ≡ left → whole ≡ given_back ps head xs
        → ToGive r whole (with_page ps (l - 1) (free_page head)) l (link_of (page_of ps (l - 1))) (left - 1)
    go [] h count same = absurd (omega arith)
    go (x ∷ xs) h count same =
        let here : l - 1 ≡ x = omega (arith, h.chained.first) in
        rw here record {
          rest = xs;
          list = rest_list r ps l x xs (free_page head) fits (length-free_page head) h;
          count = omega arith;
          same = same ∙ ap (λ (k : ℕ). given_back (with_page ps x (free_page head)) k xs) (sym h.chained.first);
        }

-- Nothing is left.
pub all_given : (r : Root) (whole : GivenBack) (ps : List ℕ) (head l left : ℕ) → left ≤ 0 → ToGive r whole ps head l left → whole ≡ record { pages = ps; head = head }
unfolding given_back
all_given r whole ps head l left none g = go g.rest g.count g.same
  where
    go : (xs : List ℕ) → length xs ≡ left → whole ≡ given_back ps head xs → whole ≡ record { pages = ps; head = head }
    go [] count same = same
    go (x ∷ xs) count same = absurd (omega arith)

-- The root record that the code makes, and the page words, are what giving back leaves.
pub returned_all : (r r' : Root) (ps ps' xs : List ℕ) (head n : ℕ) → given_back ps r.head xs ≡ record { pages = ps'; head = head } → length xs ≡ n
    → r' ≡ with_free_list head (r.free + n) r → returned r' ps' ≡ after_giving r ps xs
returned_all r r' ps ps' xs head n g count e = rw (e, g, count) refl

-- Giving back leaves the sizes.
pub same_sizes : (r r' : Root) (ps ps' xs : List ℕ) → returned r' ps' ≡ after_giving r ps xs → (r'.primaries ≡ r.primaries) × (r'.overflow ≡ r.overflow)
same_sizes r r' ps ps' xs g = (ap (λ (x : Returned). x.root.primaries) g, ap (λ (x : Returned). x.root.overflow) g)

-- The root record differs in its free list alone.
pub free_list_kept : (r r' : Root) (ps ps' xs : List ℕ) → returned r' ps' ≡ after_giving r ps xs → with_free_list r'.head r'.free r ≡ r'
free_list_kept r r' ps ps' xs g = rw (ap (λ (x : Returned). x.root) g) refl
