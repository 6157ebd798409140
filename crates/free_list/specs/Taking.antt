-- What taking pages from the free list leaves, with the pages in a lent buffer or without them.
-- Main definitions: drawn_as (the code's answer and the pages in the buffer, as the model has them), drawn (the model's answer, as the code has it).
use Rattle.std.specs.Prelude.{List, ℕ, Result, Ok, Err}
use Rattle.model.specs.declared.Damaged.{Damaged}
use Rattle.model.specs.Chains.{Checked, damaged, sound}
use Rattle.model.specs.FreeList.{Taken}
use Rattle.chains.specs.Walks.{answered}

-- The pages taken and the head that the code found, or damage.
abbrev pub drawn_as : Result ℕ Damaged → List ℕ → Checked Taken
drawn_as (Err e) xs = damaged
drawn_as (Ok h) xs = sound (record { pages = xs; head = h })

-- The head that is left, or damage.
abbrev pub drawn : Checked Taken → Result ℕ Damaged
drawn x = answered (λ t. t.head) x
