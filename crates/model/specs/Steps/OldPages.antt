-- Old pages: steps 13 and 14 (document 01, "The thirty steps"), for insert and delete. What the chain had before goes back to the free list.
-- Main definitions: step13, old_given_back, step14.
use Rattle.std.specs.Prelude.{◌&&◌, List, [], ◌∷◌, ℕ, length}
use Rattle.model.specs.Records.{at_step, with_old}
use Rattle.model.specs.Pages.{names_overflow}
use Rattle.model.specs.Chains.{list_from}
use Rattle.model.specs.Outcome.{View, with_party, Outcome, guarded, checked}
use Rattle.model.specs.FreeList.{room_to_give_back, pages_given_back}
use Rattle.model.specs.LockRequests.{chain_exclusive, request, held_all, given_up}
use Rattle.model.specs.Endings.{onward}

-- 13: request exclusive on the chain.
unfoldable pub step13 : View → Outcome
step13 v = guarded v (names_overflow v.root v.party.old) (request v (chain_exclusive v.party) (at_step 14 v.party))

-- The old pages xs given back, the old link zeroed, the chain given up.
unfoldable pub old_given_back : View → List ℕ → Outcome
old_given_back v xs =
    let cs = chain_exclusive v.party ∷ [] in
    let v₁ = given_up cs (pages_given_back xs v) in
    guarded v (room_to_give_back v.root (length xs) && held_all v cs) (onward (with_party (with_old 0 v.party) v₁))

-- 14: give them back in chain order, zero the old link and give up the lock.
unfoldable pub step14 : View → Outcome
step14 v =
    let give = checked v (list_from v.root v.pages v.party.old) (λ xs. old_given_back v xs) in
    guarded v (names_overflow v.root v.party.old) give
