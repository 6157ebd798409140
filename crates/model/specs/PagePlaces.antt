-- Where the overflow pages are, read off the memory alone: the free list, the chains, and what each party has in hand by its step.
-- Main definitions: places_of (all those lists, one after the other); PagesPlaced (each overflow page is in them once).
use Rattle.std.specs.Prelude.{◌≡◌, ◌≢◌, Bool, cond, ◌||◌, List, [], ◌∷◌, ◌++◌, ℕ, zero, suc, ◌+◌, ◌≤◌, ◌<◌, eqb}
use Rattle.model.specs.declared.Party.{Party}
use Rattle.model.specs.Pages.{page_of, link_of, primary_page}
use Rattle.model.specs.Chains.{Checked, damaged, sound, chain_of, list_from, pages_in, pages_listed}
use Rattle.model.specs.FreeList.{Taken, pages_taken}
use Rattle.model.specs.Steps.Table.{row_at}
use Rattle.model.specs.Memory.{Memory, party_at}
use Rattle.model.specs.Effects.{scratch_link}

-- How often x is in the list.
unfoldable pub count : ℕ → List ℕ → ℕ
count x [] = 0
count x (y ∷ ys) = cond (eqb y x) 1 0 + count x ys

-- The free list: the pages that would be taken if all that are free were wanted.
unfoldable pub pages_drawn : Checked Taken → List ℕ
pages_drawn damaged = []
pages_drawn (sound t) = t.pages

unfoldable pub free_list : Memory → List ℕ
free_list m = pages_drawn (pages_taken m.root m.pages m.root.free)

-- The overflow pages of the n chains from chain c on.
unfoldable pub chained_from : Memory → ℕ → ℕ → List ℕ
chained_from m zero c = []
chained_from m (suc n) c = pages_in (chain_of m.root m.pages c) ++ chained_from m n (c + 1)

-- The pages that a link leads to, where a party's step says that they are in its hand.
unfoldable pub hand_if : Bool → Memory → ℕ → List ℕ
hand_if t m l = cond t (pages_listed (list_from m.root m.pages l)) []

-- The link of the primary page of a party's other chain.
abbrev pub other_link_of : Memory → ℕ → ℕ
other_link_of m q = link_of (page_of m.pages (primary_page (party_at m.parties q).other))

-- Old pages are yet to be given back from 12 to 14, 19 to 22 and at 29; a changed chain, or a half, is built and not in the file yet at 11 and 18.
-- A joined chain is one page, in scratch at 27 and 28, and has no overflow page.
unfoldable pub owes_old : Party → Bool
owes_old p = (row_at p.step).old p

unfoldable pub has_built : Party → Bool
has_built p = (row_at p.step).built

-- What party q has in hand: old pages; built pages; the split's new half at 18, or the pages of the partner merged away at 29.
unfoldable pub in_hand : Memory → ℕ → List ℕ
in_hand m q =
    let p = party_at m.parties q in
    hand_if (owes_old p) m p.old ++ (hand_if (has_built p) m (scratch_link m q) ++ hand_if (eqb p.step 18 || eqb p.step 29) m (other_link_of m q))

-- In hand of the n parties from party q on.
unfoldable pub in_hands : Memory → ℕ → ℕ → List ℕ
in_hands m zero q = []
in_hands m (suc n) q = in_hand m q ++ in_hands m n (q + 1)

-- Every place, the file having n chains.
unfoldable pub places_of : Memory → ℕ → List ℕ
places_of m n = free_list m ++ (chained_from m n 0 ++ in_hands m m.root.parties 0)

-- No overflow page is lost: each is free, chained, built or about to be given back, in exactly one place. No other page is in any.
pub record PagesPlaced (m : Memory) (n : ℕ) : Type 0 where
  pub once : (x : ℕ) → m.root.primaries ≤ x → x < m.root.primaries + m.root.overflow → count x (places_of m n) ≡ 1
  pub inside : (x : ℕ) → count x (places_of m n) ≢ 0 → (m.root.primaries ≤ x) × (x < m.root.primaries + m.root.overflow)
