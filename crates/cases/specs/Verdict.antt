-- What the program says of a case: whether what came is what document 01 says, the bytes that tell it, and the count.
-- docs/SPECIFICATION.md, "Refused calls": "A refused call returns a number and leaves all lent memory."
-- Main definitions: alters, is_right, verdict, counted, tallied.
use Rattle.std.specs.Prelude.{ℕ, ◌+◌, ◌%◌, ◌^◌, Bool, true, false, not, ◌&&◌, List, Result, ⊤, ◌==◌}
use Rattle.std.specs.Bool.{beq}
use Rattle.model.specs.declared.Refusal.{Refusal}
use Rattle.model.specs.Answers.{refusal_number}
use Rattle.patterns.specs.Texts.{bytes}
use Rattle.cases.specs.declared.scene.Call.{Call}
use Rattle.cases.specs.declared.scene.Call.TheVariants.{Format, Begin, Step, Withdraw, TakeUp}
use Rattle.cases.specs.declared.made.Came.{Came}
use Rattle.cases.specs.declared.told.Tally.{Tally}

-- The refusal of a call that is not refused.
abbrev pub accepted : ℕ
accepted = 0

-- Whether an accepted call alters something: take-up tests the file, and alters nothing.
unfoldable pub alters : Call → Bool
alters Format = true
alters Begin = true
alters Step = true
alters Withdraw = true
alters TakeUp = false

-- The refusal is the one expected; a refused call altered nothing, and an accepted one something exactly where its
-- call does.
unfoldable pub is_right : Call → Came → Result ⊤ Refusal → Bool
is_right call came expected =
    let number = refusal_number expected in
    refusal_number came.answer == number && beq (not (came.altered == 0)) (number == accepted && alters call)

-- The end of the case's line.
unfoldable pub verdict : Bool → List ℕ
verdict true = bytes ", as it should be\n"
verdict false = bytes ", WRONG\n"

-- A count with one case more, and so many wrong more; both wrap as a u32 does.
unfoldable pub counted : Tally → ℕ → Tally
counted t wrong = record { cases = (t.cases + 1) % 2 ^ 32; wrong = (t.wrong + wrong) % 2 ^ 32 }

-- A case counts as wrong where it is not right.
unfoldable pub tallied : Tally → Bool → Tally
tallied t true = counted t 0
tallied t false = counted t 1
