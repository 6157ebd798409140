-- The yardstick on small files: where it splits and merges, and where it does not. All numbers are different, and n is
-- neither N nor P where it goes ahead.
-- Main statements: starts_told, needed_told; splits_below_P, splits_each, split_at_P, halves_part, split_too_few, split_enough;
-- grown_splits, not_grown, grown_skips, no_page_added, present_kept, added_behind; emptied_merges, not_emptied,
-- merge_too_many, merge_at_N, merge_level_lem, absent_left, no_page_removed, page_removed; found_told.
use mathlib.Core.Path.{◌≡◌, refl, ap}
use mathlib.Core.List.{List, [], ◌∷◌, map}
use Prim.Native.Nat.{ℕ, ◌+◌}
use lib.ListN.{get_or, replicate}
use Rattle.model.specs.declared.Root.{Root}
use Rattle.model.specs.declared.Entry.{Entry}
use Rattle.model.specs.declared.Operation.TheVariants as Operation
use Rattle.model.specs.declared.OperationAnswer.{OperationAnswer}
use Rattle.model.specs.declared.Restructuring.{Restructuring}
use Rattle.model.specs.Mixing.{mixed}
use Rattle.model.specs.Answers.{found_or_absent}
use Rattle.model.specs.Entries.{entry_of, has_key, setting_in, inserted_into, removed_from, joined}
use Rattle.theory.specs.Sequential.{File, Finished, finishes, pages_needed, chains_at, hashed, chains_in, home_in, records_at, with_records, passing, pages_in_use, free_in, short_of, parted, split_file, last_in, target_in, rejoined, merge_file, find_in, added, insert_in, removed, delete_in, performed_on, start_file}
use Rattle.model.proofs.Refutations.Memories.{root_of}
use Rattle.theory.proofs.Refutations.Opened.{opened}

-- N = 2, b = 2, P = 8, V overflow pages, one party.
abbrev sizes : ℕ → Root
sizes v = root_of 2 2 8 v 1 0 0 0 0

abbrev file : ℕ → ℕ → List (List Entry) → File
file level next chains = record { level = level; next = next; chains = chains }

-- So many chains without a record.
abbrev none : ℕ → List (List Entry)
none n = replicate n []

abbrev restructured : Finished → Restructuring
restructured y = y.restructuring

-- A file starts with N chains, not with P.
pub starts_told : start_file (sizes 3) ≡ file 0 0 (none 2)
unfolding opened
starts_told = refl

-- ---- Mixed keys, worked out once, together: the table is the same for all

abbrev keys : List ℕ
keys = 3 ∷ 5 ∷ 7 ∷ 8 ∷ 12 ∷ 19 ∷ 22 ∷ 26 ∷ 28 ∷ []

abbrev mixtures : List ℕ
mixtures = 1686307696 ∷ 92263140 ∷ 973163827 ∷ 1068989641 ∷ 3206195624 ∷ 3233053609 ∷ 1445888913 ∷ 2165953133 ∷ 455661317 ∷ []

mixed_keys : map mixed keys ≡ mixtures
unfolding opened
mixed_keys = refl

mixed_at : (i : ℕ) → get_or (map mixed keys) i 0 ≡ get_or mixtures i 0
mixed_at i = ap (λ (l : List ℕ). get_or l i 0) mixed_keys

mixed_3 : mixed 3 ≡ 1686307696
mixed_3 = mixed_at 0

mixed_5 : mixed 5 ≡ 92263140
mixed_5 = mixed_at 1

mixed_7 : mixed 7 ≡ 973163827
mixed_7 = mixed_at 2

mixed_8 : mixed 8 ≡ 1068989641
mixed_8 = mixed_at 3

mixed_12 : mixed 12 ≡ 3206195624
mixed_12 = mixed_at 4

mixed_19 : mixed 19 ≡ 3233053609
mixed_19 = mixed_at 5

mixed_22 : mixed 22 ≡ 1445888913
mixed_22 = mixed_at 6

mixed_26 : mixed 26 ≡ 2165953133
mixed_26 = mixed_at 7

mixed_28 : mixed 28 ≡ 455661317
mixed_28 = mixed_at 8

-- Every definition of the yardstick, and not that of mixed keys.
stick : ℕ
unfolding pages_needed chains_at hashed chains_in home_in records_at with_records passing pages_in_use free_in short_of parted split_file last_in target_in rejoined merge_file find_in added insert_in removed delete_in performed_on has_key setting_in inserted_into removed_from joined found_or_absent
stick = 0

-- ---- Pages needed

needed_told : map (λ n. pages_needed 3 (replicate n (entry_of 1 1))) (0 ∷ 1 ∷ 3 ∷ 4 ∷ 6 ∷ 7 ∷ []) ≡ 0 ∷ 0 ∷ 0 ∷ 1 ∷ 1 ∷ 2 ∷ []
unfolding stick
needed_told = refl

-- ---- Split

-- Seven chains of eight: the last split of a level.
splits_below_P : split_file (sizes 5) (file 1 3 (none 7)) OperationAnswer.Inserted ≡ finishes OperationAnswer.Inserted Restructuring.Split (file 2 0 (none 8))
unfolding stick
splits_below_P = refl

-- Every number of chains from N to P − 1 splits.
splits_each :
    map (λ f. restructured (split_file (sizes 5) f OperationAnswer.Inserted)) (file 0 0 (none 2) ∷ file 0 1 (none 3) ∷ file 1 0 (none 4) ∷ file 1 1 (none 5) ∷ file 1 2 (none 6) ∷ file 1 3 (none 7) ∷ [])
    ≡ replicate 6 Restructuring.Split
unfolding stick
splits_each = refl

split_at_P : split_file (sizes 5) (file 2 0 (none 8)) OperationAnswer.Inserted ≡ finishes OperationAnswer.Inserted Restructuring.SplitSkipped (file 2 0 (none 8))
unfolding stick
split_at_P = refl

-- The mixed keys of 8, 19 and 22 are 1 mod 8, those of 26 and 28 are 5, that of 5 is 4, those of 3 and 12 are 0, that
-- of 7 is 3.
abbrev of : ℕ → Entry
of k = entry_of k (k + 100)

-- Five chains of eight, level 1 and next 1: chains 0, 1 and 4 have these records, 2 and 3 none.
abbrev five_of : List Entry → List Entry → List Entry → File
five_of xs ys zs = file 1 1 (xs ∷ ys ∷ [] ∷ [] ∷ zs ∷ [])

abbrev mixed_up : List Entry
mixed_up = of 8 ∷ of 19 ∷ of 22 ∷ of 26 ∷ of 28 ∷ []

-- Chain 1 is parted by h_2: 8, 19 and 22 stay, 26 and 28 go.
halves_part :
    split_file (sizes 5) (five_of (of 3 ∷ []) mixed_up []) OperationAnswer.Inserted
    ≡ finishes OperationAnswer.Inserted Restructuring.Split (file 1 2 ((of 3 ∷ []) ∷ (of 8 ∷ of 19 ∷ of 22 ∷ []) ∷ [] ∷ [] ∷ [] ∷ (of 26 ∷ of 28 ∷ []) ∷ []))
unfolding stick
halves_part = rw (mixed_8, mixed_19, mixed_22, mixed_26, mixed_28) refl

-- Its five records take two overflow pages, and the half that stays needs one more.
split_too_few : restructured (split_file (sizes 2) (five_of (of 3 ∷ []) mixed_up []) OperationAnswer.Inserted) ≡ Restructuring.SplitSkipped
unfolding stick
split_too_few = rw (mixed_8, mixed_19, mixed_22, mixed_26, mixed_28) refl

split_enough : restructured (split_file (sizes 3) (five_of (of 3 ∷ []) mixed_up []) OperationAnswer.Inserted) ≡ Restructuring.Split
unfolding stick
split_enough = rw (mixed_8, mixed_19, mixed_22, mixed_26, mixed_28) refl

-- ---- Insert

-- The third record of chain 1 takes an overflow page: a split is owed, and needs another.
grown_splits :
    performed_on (sizes 2) (five_of [] (of 8 ∷ of 19 ∷ []) []) (Operation.Insert 122) 22
    ≡ finishes OperationAnswer.Inserted Restructuring.Split (file 1 2 ([] ∷ (of 8 ∷ of 19 ∷ of 22 ∷ []) ∷ [] ∷ [] ∷ [] ∷ [] ∷ []))
unfolding stick
grown_splits = rw (mixed_22, mixed_8, mixed_19, mixed_22) refl

grown_skips :
    performed_on (sizes 1) (five_of [] (of 8 ∷ of 19 ∷ []) []) (Operation.Insert 122) 22
    ≡ finishes OperationAnswer.Inserted Restructuring.SplitSkipped (five_of [] (of 8 ∷ of 19 ∷ of 22 ∷ []) [])
unfolding stick
grown_skips = rw (mixed_22, mixed_8, mixed_19, mixed_22) refl

no_page_added :
    performed_on (sizes 0) (five_of [] (of 8 ∷ of 19 ∷ []) []) (Operation.Insert 122) 22
    ≡ finishes OperationAnswer.NoPage Restructuring.None (five_of [] (of 8 ∷ of 19 ∷ []) [])
unfolding stick
no_page_added = rw mixed_22 refl

not_grown : performed_on (sizes 2) (five_of [] (of 19 ∷ []) []) (Operation.Insert 122) 22 ≡ finishes OperationAnswer.Inserted Restructuring.None (five_of [] (of 19 ∷ of 22 ∷ []) [])
unfolding stick
not_grown = rw mixed_22 refl

present_kept : performed_on (sizes 2) (five_of [] (of 8 ∷ of 19 ∷ []) []) (Operation.Insert 122) 19 ≡ finishes OperationAnswer.Present Restructuring.None (five_of [] (of 8 ∷ of 19 ∷ []) [])
unfolding stick
present_kept = rw mixed_19 refl

-- h_1 takes 5 below next, so h_2 takes it to chain 4.
added_behind : performed_on (sizes 2) (five_of (of 3 ∷ []) [] []) (Operation.Insert 105) 5 ≡ finishes OperationAnswer.Inserted Restructuring.None (five_of (of 3 ∷ []) [] (of 5 ∷ []))
unfolding stick
added_behind = rw mixed_5 refl

-- ---- Delete

-- The last record of chain 1: chain 4 is joined to chain 0, where the records are two at most.
emptied_merges :
    performed_on (sizes 2) (five_of (of 3 ∷ []) (of 8 ∷ []) (of 5 ∷ [])) Operation.Delete 8
    ≡ finishes OperationAnswer.Deleted Restructuring.Merged (file 1 0 ((of 3 ∷ of 5 ∷ []) ∷ [] ∷ [] ∷ [] ∷ []))
unfolding stick
emptied_merges = rw mixed_8 refl

merge_too_many :
    performed_on (sizes 2) (five_of (of 3 ∷ of 12 ∷ []) (of 8 ∷ []) (of 5 ∷ [])) Operation.Delete 8
    ≡ finishes OperationAnswer.Deleted Restructuring.MergeSkipped (five_of (of 3 ∷ of 12 ∷ []) [] (of 5 ∷ []))
unfolding stick
merge_too_many = rw mixed_8 refl

not_emptied :
    performed_on (sizes 2) (five_of (of 3 ∷ []) (of 8 ∷ of 19 ∷ []) (of 5 ∷ [])) Operation.Delete 8
    ≡ finishes OperationAnswer.Deleted Restructuring.None (five_of (of 3 ∷ []) (of 19 ∷ []) (of 5 ∷ []))
unfolding stick
not_emptied = rw mixed_8 refl

absent_left : performed_on (sizes 2) (five_of [] (of 8 ∷ []) []) Operation.Delete 19 ≡ finishes OperationAnswer.Absent Restructuring.None (five_of [] (of 8 ∷ []) [])
unfolding stick
absent_left = rw mixed_19 refl

-- Two chains are N; 8 and 7 are in chain 1 of them.
merge_at_N :
    performed_on (sizes 2) (file 0 0 ([] ∷ (of 8 ∷ []) ∷ [])) Operation.Delete 8 ≡ finishes OperationAnswer.Deleted Restructuring.MergeSkipped (file 0 0 (none 2))
unfolding stick
merge_at_N = rw mixed_8 refl

-- Four chains, next 0: chain 3 is joined to chain 1, and the level falls.
merge_level_lem :
    performed_on (sizes 2) (file 1 0 ((of 3 ∷ []) ∷ (of 8 ∷ []) ∷ [] ∷ (of 7 ∷ []) ∷ [])) Operation.Delete 3
    ≡ finishes OperationAnswer.Deleted Restructuring.Merged (file 0 1 ([] ∷ (of 7 ∷ of 8 ∷ []) ∷ [] ∷ []))
unfolding stick
merge_level_lem = rw mixed_3 refl

-- Four records less one need an overflow page beside the one that they take.
no_page_removed :
    performed_on (sizes 1) (five_of [] (of 8 ∷ of 19 ∷ of 22 ∷ of 26 ∷ []) []) Operation.Delete 19
    ≡ finishes OperationAnswer.NoPage Restructuring.None (five_of [] (of 8 ∷ of 19 ∷ of 22 ∷ of 26 ∷ []) [])
unfolding stick
no_page_removed = rw mixed_19 refl

page_removed :
    performed_on (sizes 2) (five_of [] (of 8 ∷ of 19 ∷ of 22 ∷ of 26 ∷ []) []) Operation.Delete 19
    ≡ finishes OperationAnswer.Deleted Restructuring.None (five_of [] (of 8 ∷ of 22 ∷ of 26 ∷ []) [])
unfolding stick
page_removed = rw mixed_19 refl

-- ---- Find

found_told :
    map (λ k. (performed_on (sizes 2) (five_of (of 3 ∷ []) (of 8 ∷ of 19 ∷ []) (of 5 ∷ [])) Operation.Find k).answer) (3 ∷ 5 ∷ 8 ∷ 19 ∷ 12 ∷ 7 ∷ [])
    ≡ OperationAnswer.Found 103 ∷ OperationAnswer.Found 105 ∷ OperationAnswer.Found 108 ∷ OperationAnswer.Found 119 ∷ OperationAnswer.Absent ∷ OperationAnswer.Absent ∷ []
unfolding stick
found_told = rw (mixed_3, mixed_5, mixed_8, mixed_19, mixed_12, mixed_7) refl
