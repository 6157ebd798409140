-- P1 to P8 of document 01 hold of the definitions.
-- Main statement: cases_hold.
use mathlib.Core.Path.{◌≡◌, refl}
use mathlib.Core.List.{map}
use Prim.Native.Nat.{ℕ}
use Rattle.model.specs.LockWords.{field_of, with_field, permits, holds, granted_word, released_word, turned_selective}
use Rattle.model.specs.Addresses.{span, hash_of, level_for, address_for, chain_count, split_next, split_level, merge_partner, merge_target, merge_level, merge_barred}
use Rattle.model.specs.Filling.{overflow_needed}
use Rattle.model.specs.LockRequests.{is_granted, with_hold, request, is_held}
use Rattle.model.specs.Steps.SplitWrite.{step20, step21}
use Rattle.model.specs.Steps.MergeLocks.{step23, merging, step24}
use Rattle.model.specs.Steps.MergeWrite.{root_moved_back, step27}
use Rattle.model.specs.Cases.{worked_cases}

-- Every definition gives the number that document 01 gives.
pub cases_hold : map (λ (c : ℕ × ℕ). c.0) worked_cases ≡ map (λ (c : ℕ × ℕ). c.1) worked_cases
unfolding span hash_of level_for address_for chain_count split_next split_level merge_partner merge_target merge_level merge_barred
    field_of with_field permits holds granted_word released_word turned_selective is_granted with_hold request is_held
    overflow_needed step20 step21 step23 merging step24 root_moved_back step27
cases_hold = refl
