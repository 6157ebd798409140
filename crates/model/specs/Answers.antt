-- Document 01's numbers and words for the cases of the answer enums, of operations and of restructurings; what an answer to a step says.
-- Main definitions: operation_number and setting_given; answer_number and answer_of (a party's answer so far), found_or_absent, setting_found, same_answer; restructuring_of (from what is owed);
-- cause_number and refusal_number; StepReply and CallReply (what calls answer); is_moved, performs.
use Rattle.std.specs.Prelude.{Bool, true, false, cond, ◌&&◌, ℕ, eqb, Ok, Err, Result, ⊤}
use Rattle.std.proofs.Math.Option.{Option, none, some}
use Rattle.model.specs.declared.Operation.{Operation}
use Rattle.model.specs.declared.OperationAnswer.{OperationAnswer}
use Rattle.model.specs.declared.Refusal.{Refusal}
use Rattle.model.specs.declared.Restructuring.{Restructuring}
use Rattle.model.specs.declared.StepAnswer.{StepAnswer}
use Rattle.model.specs.Records.{find_operation, insert_operation, delete_operation, split_made}

-- "operation (0 idle, 1 find, 2 insert, 3 delete)".
unfoldable pub operation_number : Operation → ℕ
operation_number Operation.Find = find_operation
operation_number (Operation.Insert x) = insert_operation
operation_number Operation.Delete = delete_operation

-- The setting that an operation is given: an insert's, else 0.
unfoldable pub setting_given : Operation → ℕ
setting_given Operation.Find = 0
setting_given (Operation.Insert x) = x
setting_given Operation.Delete = 0

-- "answer so far (0 none, 1 inserted, 2 present, 3 deleted, 4 absent, 5 no page)". Found stands in no record; it is numbered after them.
unfoldable pub answer_number : OperationAnswer → ℕ
answer_number OperationAnswer.Inserted = 1
answer_number OperationAnswer.Present = 2
answer_number OperationAnswer.Deleted = 3
answer_number OperationAnswer.Absent = 4
answer_number OperationAnswer.NoPage = 5
answer_number (OperationAnswer.Found x) = 6

-- The answer that a record's number names, for 1 to 5.
unfoldable pub answer_of : ℕ → OperationAnswer
answer_of n =
    cond (eqb n 1) OperationAnswer.Inserted
    (cond (eqb n 2) OperationAnswer.Present
    (cond (eqb n 3) OperationAnswer.Deleted
    (cond (eqb n 4) OperationAnswer.Absent OperationAnswer.NoPage)))

-- What a find answers, from the setting of its key, if there is one: "Found answers the setting".
unfoldable pub found_or_absent : Option ℕ → OperationAnswer
found_or_absent none = OperationAnswer.Absent
found_or_absent (some x) = OperationAnswer.Found x

-- The setting that an answer carries: found's, else 0.
unfoldable pub setting_found : OperationAnswer → ℕ
setting_found OperationAnswer.Inserted = 0
setting_found OperationAnswer.Present = 0
setting_found OperationAnswer.Deleted = 0
setting_found OperationAnswer.Absent = 0
setting_found OperationAnswer.NoPage = 0
setting_found (OperationAnswer.Found x) = x

-- Whether two answers are the same, their settings too.
unfoldable pub same_answer : OperationAnswer → OperationAnswer → Bool
same_answer a b = eqb (answer_number a) (answer_number b) && eqb (setting_found a) (setting_found b)

-- The restructurings in the order in which document 01 lists them.
unfoldable pub restructuring_number : Restructuring → ℕ
restructuring_number Restructuring.None = 0
restructuring_number Restructuring.Split = 1
restructuring_number Restructuring.SplitSkipped = 2
restructuring_number Restructuring.Merged = 3
restructuring_number Restructuring.MergeSkipped = 4

-- "Done at 12, 14 or 22 reports split where owed is 3, else none."
unfoldable pub restructuring_of : ℕ → Restructuring
restructuring_of owed = cond (eqb owed split_made) Restructuring.Split Restructuring.None

-- "Refused calls": the number of each cause.
unfoldable pub cause_number : Refusal → ℕ
cause_number Refusal.Size = 2
cause_number Refusal.Length = 1
cause_number Refusal.Unsaved = 8
cause_number Refusal.Party = 3
cause_number Refusal.Busy = 4
cause_number Refusal.Idle = 5
cause_number Refusal.Decided = 7
cause_number Refusal.Damage = 6

-- Whether a cause is a damaged number.
unfoldable pub is_damage : Refusal → Bool
is_damage Refusal.Damage = true
is_damage c = false

-- What a call of step answers, and a call of format, begin, withdraw or take-up: its refusal where it is refused.
abbrev pub StepReply : Type 0
StepReply = Result StepAnswer Refusal

abbrev pub CallReply : Type 0
CallReply = Result ⊤ Refusal

-- The number that a call returns: its refusal's, and 0 where it is not refused.
unfoldable pub refusal_number : {A : Type 0} → Result A Refusal → ℕ
refusal_number (Ok a) = 0
refusal_number (Err c) = cause_number c

-- ---- What an answer to a step says

-- Whether an answer is moved.
unfoldable pub is_moved : StepReply → Bool
is_moved (Ok StepAnswer.Waiting) = false
is_moved (Ok StepAnswer.Moved) = true
is_moved (Ok (StepAnswer.Done a s)) = false
is_moved (Err c) = false

-- Whether a call performed a step: it moved or was done.
unfoldable pub performs : StepReply → Bool
performs (Ok StepAnswer.Waiting) = false
performs (Ok StepAnswer.Moved) = true
performs (Ok (StepAnswer.Done a s)) = true
performs (Err c) = false
