-- What a withdraw leaves once the pages built are known.
-- Main definition: withdrawn_with.
use Rattle.std.specs.Prelude.{◌&&◌, List, ℕ, length}
use Rattle.model.specs.Chains.{sound_if}
use Rattle.model.specs.Outcome.{View}
use Rattle.model.specs.FreeList.{room_to_give_back}
use Rattle.model.specs.LockRequests.{held_all}
use Rattle.model.specs.Claims.{claims}
use Rattle.model.specs.Withdraw.{Withdrawal, withdrawn_to, taken_back}

-- The pages built are xs, in chain order: every lock given up must be held, and the free count must have room.
abbrev pub withdrawn_with : View → List ℕ → Withdrawal
withdrawn_with v xs =
    withdrawn_to v (sound_if (held_all v (claims v.root v.party) && room_to_give_back v.root (length xs)) (taken_back v xs))
