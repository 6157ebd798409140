-- Step 29 in two parts: both lists walked, and both given back where the free count has room (document 01, "The thirty steps").
-- Main definitions: CanClear, roomy_cleared, both_cleared.
use Rattle.std.specs.Prelude.{◌≡◌, true, List, ◌++◌, ℕ, ◌+◌, ◌*◌, ◌≤◌, ◌<◌, length}
use Rattle.model.specs.declared.Root.{Root}
use Rattle.model.specs.declared.Party.{Party}
use Rattle.model.specs.Sizes.{page_words}
use Rattle.model.specs.Pages.{link_sound}
use Rattle.model.specs.Chains.{and_then, sound_if, list_from}
use Rattle.model.specs.Outcome.{View, Outcome, checked}
use Rattle.model.specs.FreeList.{room_to_give_back}
use Rattle.model.specs.Steps.MergeWrite.{partner_cleared}

-- The sizes are within their limits, the page memory has all primary and overflow pages, and the partner is one of the chains; the old link is sound.
pub record CanClear (r : Root) (p : Party) (ps : List ℕ) : Type 0 where
  pub chains_fit_ok : r.primaries ≤ 256
  pub overflow_fits : r.overflow ≤ 752
  pub free_fits : r.free ≤ r.overflow
  pub pages_fit : page_words * (r.primaries + r.overflow) ≤ length ps
  pub partner_fits : p.other < r.primaries
  pub links : link_sound r p.old ≡ true

-- Both lists, one after the other, are given back where the free count has room for them.
abbrev pub roomy_cleared : View → List ℕ → Outcome
roomy_cleared v zs = checked v (sound_if (room_to_give_back v.root (length zs)) zs) (λ xs. partner_cleared v xs)

-- The pages that the old link leads to, then those that link l leads to, are given back.
abbrev pub both_cleared : View → ℕ → Outcome
both_cleared v l =
    let r = v.root in
    let ps = v.pages in
    checked v (and_then (list_from r ps v.party.old) (λ xs. and_then (list_from r ps l) (λ ys. sound_if (room_to_give_back r (length (xs ++ ys))) (xs ++ ys)))) (λ zs. partner_cleared v zs)
