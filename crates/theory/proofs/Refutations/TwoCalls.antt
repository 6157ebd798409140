-- Of two calls the second is made on the memory that the first left.
-- Main statement: second_refused.
use mathlib.Core.Path.{refl}
use mathlib.Core.List.{[], ◌∷◌}
use Rattle.std.specs.Prelude.{Ok, Err}
use Rattle.model.specs.declared.Refusal.{Refusal}
use Rattle.model.specs.declared.Operation.TheVariants as Operation
use Rattle.model.specs.Records.{root_of_sizes}
use Rattle.model.specs.Memory.{Memory, formatted}
use Rattle.model.specs.Calls.{begin_call}
use Rattle.model.specs.Runs.{Call, begin_for, to_begin}
use Rattle.theory.specs.Made.{Made, begun, happened, Ran, ended, next}
use Rattle.theory.proofs.Refutations.Opened.{opened}

-- A file of the smallest sizes, and the same with a find under way.
abbrev smallest : Memory
smallest = formatted (root_of_sizes 1 1 1 0 1)

abbrev begin_find : Call
begin_find = begin_for 0 Operation.Find 0

abbrev entered : Memory
entered = (begin_call smallest 0 Operation.Find 0).memory

-- Each call is made on the memory that the one before it left: a second begin of the party is refused Refusal.Busy.
pub second_refused : Ran smallest (begin_find ∷ begin_find ∷ [])
    (happened smallest begin_find (to_begin (Ok tt)) ∷ happened entered begin_find (to_begin (Err Refusal.Busy)) ∷ []) entered
unfolding opened
second_refused =
    let first : Made smallest begin_find (to_begin (Ok tt)) entered = begun 0 Operation.Find 0 (Ok tt) refl in
    let second : Made entered begin_find (to_begin (Err Refusal.Busy)) entered = begun 0 Operation.Find 0 (Err Refusal.Busy) refl in
    next first (next second ended)
