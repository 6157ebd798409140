-- The records of the file and ascending lists of them (document 01, "A chain's keys ascend").
-- A record (document 02, change 1: "a key and a 32-bit setting") is told apart by its key alone: order, doubles and "in both halves" never look at the setting.
-- Main definitions: key_of, setting_of, entry_of; has_key, setting_in, ascending, inserted_into, removed_from, joined,
-- joined_all, shares_key; staying and going (the halves of a split).
use Rattle.std.specs.Prelude.{Bool, true, false, cond, ◌&&◌, ◌||◌, List, [], ◌∷◌, ℕ, ltb, eqb}
use Rattle.std.proofs.Math.Option.{Option, none, some}
use Rattle.model.specs.declared.Entry.{Entry}
use Rattle.model.specs.Addresses.{hash}

-- The record's key, and its setting.
abbrev pub key_of : Entry → ℕ
key_of e = e.key

abbrev pub setting_of : Entry → ℕ
setting_of e = e.setting

-- The record that an insert with this key and this setting puts in.
abbrev pub entry_of : ℕ → ℕ → Entry
entry_of k x = record { key = k; setting = x }

-- Whether some record of the list has key k.
unfoldable pub has_key : ℕ → List Entry → Bool
has_key k [] = false
has_key k (e ∷ es) = eqb (key_of e) k || has_key k es

-- The setting of the first record that has key k, if there is one.
unfoldable pub setting_in : ℕ → List Entry → Option ℕ
setting_in k [] = none
setting_in k (e ∷ es) = cond (eqb (key_of e) k) (some (setting_of e)) (setting_in k es)

-- Whether k is below the first key of the list.
unfoldable pub below_first : ℕ → List Entry → Bool
below_first k [] = true
below_first k (e ∷ es) = ltb k (key_of e)

-- Whether the keys strictly ascend.
unfoldable pub ascending : List Entry → Bool
ascending [] = true
ascending (e ∷ es) = below_first (key_of e) es && ascending es

-- The list with a record put before the first larger key.
unfoldable pub inserted_into : Entry → List Entry → List Entry
inserted_into x [] = x ∷ []
inserted_into x (e ∷ es) = cond (ltb (key_of x) (key_of e)) (x ∷ (e ∷ es)) (e ∷ inserted_into x es)

-- The list without the records of key k.
unfoldable pub removed_from : ℕ → List Entry → List Entry
removed_from k [] = []
removed_from k (e ∷ es) = cond (eqb (key_of e) k) (removed_from k es) (e ∷ removed_from k es)

-- Two ascending lists joined into one (step 26).
unfoldable pub joined : List Entry → List Entry → List Entry
joined [] es = es
joined (x ∷ xs) es = inserted_into x (joined xs es)

-- Any number of ascending lists joined into one, in the order of their keys.
unfoldable pub joined_all : List (List Entry) → List Entry
joined_all [] = []
joined_all (es ∷ rest) = joined es (joined_all rest)

-- Whether a key is in both lists.
unfoldable pub shares_key : List Entry → List Entry → Bool
shares_key [] es = false
shares_key (x ∷ xs) es = has_key (key_of x) es || shares_key xs es

-- "keys whose h_(level+1) is the chain stay, the rest go" (step 17): n original chains, hash function i, chain c.
unfoldable pub staying : ℕ → ℕ → ℕ → List Entry → List Entry
staying n i c [] = []
staying n i c (e ∷ es) = cond (eqb (hash n i (key_of e)) c) (e ∷ staying n i c es) (staying n i c es)

unfoldable pub going : ℕ → ℕ → ℕ → List Entry → List Entry
going n i c [] = []
going n i c (e ∷ es) = cond (eqb (hash n i (key_of e)) c) (going n i c es) (e ∷ going n i c es)

-- Whether the list has no record.
unfoldable pub is_empty : List Entry → Bool
is_empty [] = true
is_empty (e ∷ es) = false
