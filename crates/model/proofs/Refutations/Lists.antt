-- Lists of records, which steps, book, plain map and yardstick share: what each definition makes of small lists, with
-- numbers that are all different.
-- Main statements: keys_told, settings_told, ascending_told, inserted_told, removed_told, joined_told, shared_told,
-- empty_told.
use mathlib.Core.Path.{◌≡◌, refl}
use mathlib.Core.Bool.{true, false}
use mathlib.Core.List.{List, [], ◌∷◌, ◌++◌, map}
use mathlib.Core.Option.{none, some}
use Rattle.model.specs.declared.Entry.{Entry}
use Rattle.model.specs.Entries.{entry_of, has_key, setting_in, ascending, inserted_into, removed_from, joined, joined_all, shares_key, is_empty}
use Rattle.model.proofs.Refutations.Opened.{opened}

-- Keys 3, 5 and 8, and 4 and 9.
abbrev three : List Entry
three = entry_of 3 30 ∷ entry_of 5 51 ∷ entry_of 8 82 ∷ []

abbrev two : List Entry
two = entry_of 4 43 ∷ entry_of 9 94 ∷ []

keys_told : map (λ k. has_key k three) (3 ∷ 4 ∷ 5 ∷ 8 ∷ 9 ∷ 30 ∷ []) ≡ true ∷ false ∷ true ∷ true ∷ false ∷ false ∷ []
unfolding opened
keys_told = refl

settings_told : map (λ k. setting_in k three) (3 ∷ 4 ∷ 5 ∷ 8 ∷ 82 ∷ []) ≡ some 30 ∷ none ∷ some 51 ∷ some 82 ∷ none ∷ []
unfolding opened
settings_told = refl

-- Two records of one key do not ascend, nor a smaller key behind a larger, wherever they stand.
ascending_told :
    map ascending ([] ∷ three ∷ (three ++ two) ∷ (three ++ (entry_of 8 99 ∷ [])) ∷ (entry_of 3 1 ∷ three) ∷ (entry_of 1 99 ∷ three) ∷ [])
    ≡ true ∷ true ∷ false ∷ false ∷ false ∷ true ∷ []
unfolding opened
ascending_told = refl

inserted_told :
    map (λ e. inserted_into e three) (entry_of 1 15 ∷ entry_of 4 46 ∷ entry_of 9 97 ∷ [])
    ≡ (entry_of 1 15 ∷ entry_of 3 30 ∷ entry_of 5 51 ∷ entry_of 8 82 ∷ [])
    ∷ (entry_of 3 30 ∷ entry_of 4 46 ∷ entry_of 5 51 ∷ entry_of 8 82 ∷ [])
    ∷ (entry_of 3 30 ∷ entry_of 5 51 ∷ entry_of 8 82 ∷ entry_of 9 97 ∷ []) ∷ []
unfolding opened
inserted_told = refl

removed_told :
    map (λ k. removed_from k three) (3 ∷ 5 ∷ 8 ∷ 4 ∷ [])
    ≡ (entry_of 5 51 ∷ entry_of 8 82 ∷ []) ∷ (entry_of 3 30 ∷ entry_of 8 82 ∷ []) ∷ (entry_of 3 30 ∷ entry_of 5 51 ∷ []) ∷ three ∷ []
unfolding opened
removed_told = refl

-- All records of both, or of all, in the order of their keys.
abbrev five : List Entry
five = entry_of 3 30 ∷ entry_of 4 43 ∷ entry_of 5 51 ∷ entry_of 8 82 ∷ entry_of 9 94 ∷ []

joined_told : joined three two ∷ joined two three ∷ joined [] two ∷ joined three [] ∷ joined_all (two ∷ [] ∷ three ∷ []) ∷ [] ≡ five ∷ five ∷ two ∷ three ∷ five ∷ []
unfolding opened
joined_told = refl

shared_told : shares_key three two ∷ shares_key three (entry_of 8 99 ∷ two) ∷ shares_key (entry_of 9 1 ∷ []) two ∷ shares_key [] two ∷ [] ≡ false ∷ true ∷ true ∷ false ∷ []
unfolding opened
shared_told = refl

empty_told : is_empty [] ∷ is_empty two ∷ [] ≡ true ∷ false ∷ []
unfolding opened
empty_told = refl
