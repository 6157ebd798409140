-- What the calls are given and answer, by numbers: what crosses to Rust and C.
-- Main definitions: operation_of, is_operation and operation_named (an operation by its number); reply_of (a step's
-- answer); numbered (a call's answer by its number); begin_numbered.
use Rattle.std.specs.Prelude.{Bool, cond, ◌||◌, ℕ, eqb, Ok, Err, Option, Some, None}
use Rattle.model.specs.declared.FileSizes.{FileSizes}
use Rattle.model.specs.declared.Operation.{Operation}
use Rattle.model.specs.declared.StepAnswer.{StepAnswer}
use Rattle.model.specs.Records.{find_operation, insert_operation, delete_operation}
use Rattle.model.specs.Answers.{answer_number, setting_found, restructuring_number, cause_number, refusal_number, StepReply}
use Rattle.model.specs.Memory.{Memory}
use Rattle.model.specs.Calls.{Called, called, begin_call}
use Rattle.bead.specs.declared.BeadReply.{BeadReply}

-- The sizes N b P V Q as one struct.
abbrev pub sizes_of : ℕ → ℕ → ℕ → ℕ → ℕ → FileSizes
sizes_of n b p v q = record { originals = n; capacity = b; primaries = p; overflow = v; parties = q }

-- Whether a number is an operation's: 1 find, 2 insert, 3 delete.
unfoldable pub is_operation : ℕ → Bool
is_operation n = eqb n find_operation || eqb n insert_operation || eqb n delete_operation

-- The operation of such a number; an insert has the setting x, a find and a delete have none.
unfoldable pub operation_of : ℕ → ℕ → Operation
operation_of n x = cond (eqb n find_operation) Operation.Find (cond (eqb n insert_operation) (Operation.Insert x) Operation.Delete)

-- The operation of any number, or none.
abbrev pub operation_named : ℕ → ℕ → Option Operation
operation_named n x = cond (is_operation n) (Some (operation_of n x)) None

-- A step's answer: refusal 0 or its number; outcome 0 waiting, 1 moved, 2 done; the numbers of answer and
-- restructuring where it is done, and the setting of an answer found; 0 where it does not apply.
unfoldable pub reply_of : StepReply → BeadReply
reply_of (Ok StepAnswer.Waiting) = record { refusal = 0; outcome = 0; answer = 0; restructuring = 0; setting = 0 }
reply_of (Ok StepAnswer.Moved) = record { refusal = 0; outcome = 1; answer = 0; restructuring = 0; setting = 0 }
reply_of (Ok (StepAnswer.Done a s)) = record { refusal = 0; outcome = 2; answer = answer_number a; restructuring = restructuring_number s; setting = setting_found a }
reply_of (Err c) = record { refusal = cause_number c; outcome = 0; answer = 0; restructuring = 0; setting = 0 }

-- A call whose answer is given as another value; the memory that it leaves is the same.
abbrev pub numbered : {A B : Type 0} → (A → B) → Called A → Called B
numbered f c = called (f c.answer) c.memory

-- A begin with a number for the operation, a key and a setting. A number that is no operation's is tested first, and
-- answered 255 with nothing altered.
unfoldable pub begin_numbered : Memory → ℕ → ℕ → ℕ → ℕ → Called ℕ
begin_numbered m q n k x = cond (is_operation n) (numbered refusal_number (begin_call m q (operation_of n x) k)) (called 255 m)
