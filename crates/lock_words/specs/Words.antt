-- The lent lock words after a request (document 01, "Addresses and locks").
-- Main definition: requested.
use Rattle.std.specs.Prelude.{cond, List, ℕ, get_or, set}
use Rattle.model.specs.declared.Mode.{Mode}
use Rattle.model.specs.LockWords.{permits, granted_word}

-- The lock words after party q's request on word i: a request that waits changes no word.
abbrev pub requested : List ℕ → ℕ → ℕ → Mode → List ℕ
requested ls i q m = cond (permits (get_or ls i 0) m) (set ls i (granted_word (get_or ls i 0) q m)) ls
