-- Both lists of step 29 given back, where there is room for them.
-- Main statements: no_room_refused, all_cleared.
use mathlib.Core.Path.{◌≡◌, refl}
use mathlib.Core.List.{List}
use Prim.Native.Nat.{ℕ, ◌+◌, ◌≤◌, ◌<◌}
use lib.ListN.{length}
use borrow.Author.Tests.{le-leb, lt-leb}
use Rattle.model.specs.declared.Refusal.{Refusal}
use Rattle.model.specs.Records.{at_step}
use Rattle.model.specs.Pages.{with_page, zero_page}
use Rattle.model.specs.Outcome.{View, refuse, moved}
use Rattle.model.specs.FreeList.{room_to_give_back, pages_given_back}
use Rattle.model.specs.Steps.MergeWrite.{partner_cleared}
use Rattle.free_list.specs.Giving.{after_giving}
use Rattle.merge_write.specs.Clearing.{roomy_cleared}

module _ (v : View) (zs : List ℕ) where
  pub no_room_refused : v.root.overflow < v.root.free + length zs → refuse Refusal.Damage v ≡ roomy_cleared v zs
  unfolding room_to_give_back
  no_room_refused h = rw (lt-leb (v.root.free + length zs) v.root.overflow h) refl

  pub all_cleared : v.root.free + length zs ≤ v.root.overflow
      → (let g = after_giving v.root v.pages zs in
      moved (record { root = g.root; party = at_step 30 v.party; number = v.number; locks = v.locks; pages = with_page g.pages v.party.other zero_page; behind = v.behind }))
      ≡ roomy_cleared v zs
  unfolding room_to_give_back partner_cleared pages_given_back
  all_cleared room = rw (le-leb (v.root.free + length zs) v.root.overflow room) refl
