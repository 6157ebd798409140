-- A run of 28 calls with its linearization, worked out by the checker: one chain, one record a page, two parties.
-- Party 0 inserts 5 with setting 9. A find of party 1 looks at the chain before the insert writes it, and answers absent after that; the
-- next find answers found with 9, while the insert is still under way. Then party 1 begins a delete and withdraws it.
-- In the order the first find stands before the insert, though it begins later, and is answered after the insert took effect; the delete
-- stands nowhere.
-- Main statements: its_events, its_operations, its_effects, its_order, its_map, its_times (each by computing); other_setting,
-- order_of_begins (another setting found and the order of the begins are refused).
use mathlib.Core.Path.{◌≡◌, refl}
use mathlib.Core.Bool.{Bool, true, false, ◌&&◌}
use mathlib.Core.List.{List, [], ◌∷◌}
use mathlib.Core.Option.{none, some}
use Prim.Native.Nat.{ℕ}
use Rattle.std.specs.Prelude.{Ok}
use Rattle.model.specs.declared.Operation.TheVariants as Operation
use Rattle.model.specs.declared.OperationAnswer.{OperationAnswer}
use Rattle.model.specs.declared.Restructuring.TheVariants as Restructuring
use Rattle.model.specs.declared.StepAnswer.TheVariants as StepAnswer
use Rattle.model.specs.Answers.{answer_number, found_or_absent, same_answer, setting_found}
use Rattle.model.specs.Entries.{entry_of, has_key, inserted_into, setting_in}
use Rattle.model.specs.Memory.{formatted}
use Rattle.model.specs.Runs.{events, final_memory, Call, begin_for, step_for, withdraw_for, Reply, to_begin, to_step, to_withdraw, Event}
use Rattle.model.specs.Sizes.{within_limits}
use Rattle.model.specs.Records.{root_of_sizes}
use Rattle.theory.specs.PlainMap.{empty_map, plain_answer, plain_after, may_lack_pages, is_no_page, answers_as_map, map_left_by}
use Rattle.theory.specs.Demands.{Sizes, sizes_given}
use Rattle.theory.specs.Linearization.{Operated, Ended, end_in, end_to, or_later, first_end, entering, operations_from, operations_of, has_taken_effect, Linearized, ascending_from, times_in, answers_in_order, map_after}
use Rattle.theory.proofs.Refutations.Opened.{opened}

-- ---- The run

fits : within_limits (root_of_sizes 1 1 1 0 2) ≡ true
unfolding within_limits
fits = refl

abbrev sizes : Sizes
sizes = record { originals = 1; capacity = 1; primaries = 1; overflow = 0; parties = 2; fit = fits }

abbrev happened : Call → ℕ → Reply → Event
happened c n x = record { call = c; number = n; reply = x }

-- The calls, with the step number at each and the reply.
abbrev transcript : List Event
transcript =
    happened (begin_for 0 (Operation.Insert 9) 5) 0 (to_begin (Ok tt))
    ∷ happened (begin_for 1 Operation.Find 5) 0 (to_begin (Ok tt))
    ∷ happened (step_for 1) 1 (to_step (Ok StepAnswer.Moved))
    ∷ happened (step_for 1) 2 (to_step (Ok StepAnswer.Moved))
    ∷ happened (step_for 1) 3 (to_step (Ok StepAnswer.Moved))
    ∷ happened (step_for 1) 4 (to_step (Ok StepAnswer.Moved))
    ∷ happened (step_for 1) 5 (to_step (Ok StepAnswer.Moved))
    ∷ happened (step_for 1) 6 (to_step (Ok StepAnswer.Moved))
    ∷ happened (step_for 0) 1 (to_step (Ok StepAnswer.Moved))
    ∷ happened (step_for 0) 2 (to_step (Ok StepAnswer.Moved))
    ∷ happened (step_for 0) 3 (to_step (Ok StepAnswer.Moved))
    ∷ happened (step_for 0) 4 (to_step (Ok StepAnswer.Moved))
    ∷ happened (step_for 0) 5 (to_step (Ok StepAnswer.Moved))
    ∷ happened (step_for 0) 6 (to_step (Ok StepAnswer.Moved))
    ∷ happened (step_for 0) 10 (to_step (Ok StepAnswer.Moved))
    ∷ happened (step_for 0) 11 (to_step (Ok StepAnswer.Moved))
    ∷ happened (step_for 1) 9 (to_step (Ok (StepAnswer.Done OperationAnswer.Absent Restructuring.None)))
    ∷ happened (begin_for 1 Operation.Find 5) 0 (to_begin (Ok tt))
    ∷ happened (step_for 1) 1 (to_step (Ok StepAnswer.Moved))
    ∷ happened (step_for 1) 2 (to_step (Ok StepAnswer.Moved))
    ∷ happened (step_for 1) 3 (to_step (Ok StepAnswer.Moved))
    ∷ happened (step_for 1) 4 (to_step (Ok StepAnswer.Moved))
    ∷ happened (step_for 1) 5 (to_step (Ok StepAnswer.Moved))
    ∷ happened (step_for 1) 6 (to_step (Ok StepAnswer.Moved))
    ∷ happened (step_for 1) 9 (to_step (Ok (StepAnswer.Done (OperationAnswer.Found 9) Restructuring.None)))
    ∷ happened (begin_for 1 Operation.Delete 5) 0 (to_begin (Ok tt))
    ∷ happened (step_for 1) 1 (to_step (Ok StepAnswer.Moved))
    ∷ happened (withdraw_for 1) 2 (to_withdraw (Ok tt))
    ∷ []

abbrev calls_of : List Event → List Call
calls_of [] = []
calls_of (e ∷ es) = e.call ∷ calls_of es

abbrev calls : List Call
calls = calls_of transcript

its_events : events ((formatted (sizes_given sizes))) calls ≡ transcript
unfolding opened
its_events = refl

-- ---- Its operations

abbrev answered_at : ℕ → OperationAnswer → Ended
answered_at n a = record { call = n; answer = some a }

abbrev insert_of_zero : Operated
insert_of_zero = record { begun = 1; party = 0; operation = Operation.Insert 9; key = 5; ended = none }

abbrev first_find : Operated
first_find = record { begun = 2; party = 1; operation = Operation.Find; key = 5; ended = some (answered_at 17 OperationAnswer.Absent) }

abbrev second_find : Operated
second_find = record { begun = 18; party = 1; operation = Operation.Find; key = 5; ended = some (answered_at 25 (OperationAnswer.Found 9)) }

abbrev delete_of_one : Operated
delete_of_one = record { begun = 26; party = 1; operation = Operation.Delete; key = 5; ended = some (record { call = 28; answer = none }) }

its_operations : operations_of transcript ≡ insert_of_zero ∷ first_find ∷ second_find ∷ delete_of_one ∷ []
unfolding operations_from entering first_end or_later end_to end_in
its_operations = refl

-- All but the delete have taken effect.
abbrev effects_of : List Operated → List Bool
effects_of [] = []
effects_of (o ∷ os) = has_taken_effect (final_memory (formatted (sizes_given sizes)) calls) o ∷ effects_of os

its_effects : effects_of (insert_of_zero ∷ first_find ∷ second_find ∷ delete_of_one ∷ []) ≡ true ∷ true ∷ true ∷ false ∷ []
unfolding opened
its_effects = refl

-- ---- Its order

abbrev order : List Linearized
order =
    record { operated = first_find; point = 8; answer = OperationAnswer.Absent }
    ∷ record { operated = insert_of_zero; point = 16; answer = OperationAnswer.Inserted }
    ∷ record { operated = second_find; point = 24; answer = OperationAnswer.Found 9 }
    ∷ []

its_order : (ascending_from 1 order && answers_in_order empty_map order) ≡ true
unfolding ascending_from answers_in_order empty_map answers_as_map map_left_by plain_answer plain_after has_key setting_in inserted_into may_lack_pages is_no_page same_answer answer_number setting_found found_or_absent
its_order = refl

-- The map that it leaves has 5 with 9, and nothing else.
its_map : map_after empty_map order ≡ entry_of 5 9 ∷ []
unfolding map_after empty_map map_left_by plain_after has_key inserted_into is_no_page answer_number
its_map = refl

-- With another setting found, no plain map gives these answers.
other_setting : answers_in_order empty_map
    (record { operated = insert_of_zero; point = 16; answer = OperationAnswer.Inserted } ∷ record { operated = second_find; point = 24; answer = OperationAnswer.Found 8 } ∷ []) ≡ false
unfolding answers_in_order empty_map answers_as_map map_left_by plain_answer plain_after has_key setting_in inserted_into may_lack_pages is_no_page same_answer answer_number setting_found found_or_absent
other_setting = refl

abbrev times_of : List Operated → List ℕ
times_of [] = []
times_of (o ∷ os) = times_in o.begun order ∷ times_of os

its_times : times_of (insert_of_zero ∷ first_find ∷ second_find ∷ delete_of_one ∷ []) ≡ 1 ∷ 1 ∷ 1 ∷ 0 ∷ []
unfolding times_in
its_times = refl

-- In the order of the begins no plain map gives these answers.
order_of_begins : answers_in_order empty_map (record { operated = insert_of_zero; point = 1; answer = OperationAnswer.Inserted } ∷ record { operated = first_find; point = 2; answer = OperationAnswer.Absent } ∷ []) ≡ false
unfolding answers_in_order empty_map answers_as_map map_left_by plain_answer plain_after has_key setting_in inserted_into may_lack_pages is_no_page same_answer answer_number setting_found found_or_absent
order_of_begins = refl
