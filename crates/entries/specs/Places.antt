-- Where a key stands in an ascending list.
-- Main definition: place_of.
use Rattle.std.specs.Prelude.{cond, List, [], ◌∷◌, ℕ, ◌+◌, ltb}
use Rattle.model.specs.declared.Entry.{Entry}
use Rattle.model.specs.Entries.{key_of}

-- How many records have a key below k: in an ascending list, the place where k stands or would stand.
unfoldable pub place_of : ℕ → List Entry → ℕ
place_of k [] = 0
place_of k (e ∷ es) = cond (ltb (key_of e) k) 1 0 + place_of k es
