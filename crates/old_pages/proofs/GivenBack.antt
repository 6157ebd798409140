-- Old pages given back, by whether there is room for them and the lock is held.
-- Main statements: no_room_refused, not_held_refused, all_given_back.
use mathlib.Core.Path.{◌≡◌, refl, ◌∙◌}
use mathlib.Core.List.{List, [], ◌∷◌}
use Prim.Native.Nat.{ℕ, ◌+◌, ◌≤◌, ◌<◌}
use lib.ListN.{length}
use borrow.Author.Tests.{le-leb, lt-leb}
use Rattle.std.specs.Prelude.{Result, Ok, Err, ⊤}
use Rattle.model.specs.declared.Damaged.{Damaged}
use Rattle.model.specs.declared.Refusal.{Refusal}
use Rattle.model.specs.Records.{with_old}
use Rattle.model.specs.Answers.{StepReply}
use Rattle.model.specs.Outcome.{View, outcome, refuse, with_party}
use Rattle.model.specs.LockRequests.{held_all, given_up, without_hold, chain_exclusive}
use Rattle.model.specs.Endings.{onward}
use Rattle.model.specs.FreeList.{room_to_give_back, pages_given_back}
use Rattle.model.specs.Steps.OldPages.{old_given_back}
use Rattle.lock_requests.specs.Locks.{held_or_damaged, after_giving_up}
use Rattle.lock_requests.proofs.Releases.{unheld_refused, held_goes_on}

module _ (v : View) (xs : List ℕ) where
  pub no_room_refused : v.root.overflow < v.root.free + length xs → refuse Refusal.Damage v ≡ old_given_back v xs
  unfolding old_given_back room_to_give_back
  no_room_refused h = rw (lt-leb (v.root.free + length xs) v.root.overflow h) refl

  -- r is what giving up the lock answered, w the view that it left.
  module _ (room : v.root.free + length xs ≤ v.root.overflow) {r : Result ⊤ Damaged} {w : View} (told : r ≡ held_or_damaged (held_all v (chain_exclusive v.party ∷ [])))
      (left : w ≡ after_giving_up (chain_exclusive v.party ∷ []) v) where
    pub not_held_refused : {a : StepReply} {d : Damaged} → r ≡ Err d → a ≡ Err Refusal.Damage → outcome a w ≡ old_given_back v xs
    unfolding old_given_back room_to_give_back
    not_held_refused e ea = rw (le-leb (v.root.free + length xs) v.root.overflow room) (unheld_refused v (chain_exclusive v.party ∷ []) told left _ e ea)

    pub all_given_back : {u : ⊤} → r ≡ Ok u → onward (with_party (with_old 0 v.party) (pages_given_back xs w)) ≡ old_given_back v xs
    unfolding old_given_back room_to_give_back pages_given_back given_up without_hold
    all_given_back e =
        held_goes_on v (chain_exclusive v.party ∷ []) told left (λ u. onward (with_party (with_old 0 v.party) (pages_given_back xs u))) e
        ∙ rw (le-leb (v.root.free + length xs) v.root.overflow room) refl
