-- The cases of document 01 that are checked by hand and proved, P1 to P8, as one table ("Checked by hand").
-- Main definition: worked_cases (a definition at a case's numbers, beside the number that document 01 gives). proofs/Theorems/Cases.antt: both columns are the same.
use Rattle.std.specs.Prelude.{false, List, [], ◌∷◌, ℕ, replicate}
use Rattle.model.specs.Records.{root_of_sizes, with_level, with_next, idle}
use Rattle.model.specs.Addresses.{address_for}
use Rattle.model.specs.Filling.{overflow_needed}
use Rattle.model.specs.Outcome.{View}
use Rattle.model.specs.Steps.SplitWrite.{step20, step21}
use Rattle.model.specs.Steps.MergeLocks.{step23, step24}
use Rattle.model.specs.Steps.MergeWrite.{step27}

-- A file with N, level and next, eight chains at most, as its one party sees it: no lock held. No page is read here.
abbrev pub file_at : ℕ → ℕ → ℕ → View
file_at n level next = record { root = with_level level (with_next next (root_of_sizes n 1 8 0 1)); party = idle; number = 0; locks = replicate 9 0; pages = []; behind = false }

-- The file once a split has moved the root: steps 20 and 21.
abbrev pub after_split : View → View
after_split v = (step21 (step20 v).after).after

-- The file once a merge has the root and its target, 23 and 24, and once it has moved the root, 27.
abbrev pub at_merge : View → View
at_merge v = (step24 (step23 v).after).after

abbrev pub after_merge : View → View
after_merge v = (step27 (at_merge v)).after

-- P1 to P8. "The address cases of document 01 are read with the mixed key given" (document 02, change 3): P1 to P5.
abbrev pub worked_cases : List (ℕ × ℕ)
worked_cases =
    -- P1: N=2, level 1, next 0: 42 goes to 2.
    (address_for 2 1 0 42, 2)
    -- P2: next 1: 20 goes to 4.
    ∷ (address_for 2 1 1 20, 4)
    -- P3: next 1: 42 goes to 2.
    ∷ (address_for 2 1 1 42, 2)
    -- P4: N=3, level 1, next 2: 7 goes to 7.
    ∷ (address_for 3 1 2 7, 7)
    -- P5: N=1, level 8, next 0: 4294967295 goes to 255.
    ∷ (address_for 1 8 0 4294967295, 255)
    -- P6: N=2, level 1, next 3: a split leaves next 0, level 2.
    ∷ ((after_split (file_at 2 1 3)).root.next, 0)
    ∷ ((after_split (file_at 2 1 3)).root.level, 2)
    -- P7: N=2, level 1, next 0: a merge joins 1 and 3 and leaves level 0, next 1.
    ∷ ((at_merge (file_at 2 1 0)).party.chain, 1)
    ∷ ((at_merge (file_at 2 1 0)).party.other, 3)
    ∷ ((after_merge (file_at 2 1 0)).root.level, 0)
    ∷ ((after_merge (file_at 2 1 0)).root.next, 1)
    -- P8: b=2: 0, 2, 3, 5 keys need 0, 0, 1, 2 overflow pages.
    ∷ (overflow_needed 2 0, 0)
    ∷ (overflow_needed 2 2, 0)
    ∷ (overflow_needed 2 3, 1)
    ∷ (overflow_needed 2 5, 2)
    ∷ []
