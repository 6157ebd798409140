-- Events that the book calls wrong, beside those that it calls right.
-- Main statements: told_found, told_absent, other_setting (a find whose key is in); told_inserted, told_present (an
-- insert of a key that is in); then_found, then_absent, deleted_absent, deleted_found (a find after an 11);
-- never_begun, not_decided, answered_twice, withdrawn_then_done (when an answer may come).
use mathlib.Core.Path.{◌≡◌, refl}
use mathlib.Core.Bool.{true, false}
use mathlib.Core.List.{List, [], ◌∷◌, ◌++◌}
use mathlib.Core.Option.{none}
use Prim.Native.Nat.{ℕ}
use Rattle.std.specs.Prelude.{Ok}
use Rattle.model.specs.declared.Operation.{Operation}
use Rattle.model.specs.declared.OperationAnswer.{OperationAnswer}
use Rattle.model.specs.declared.Restructuring.TheVariants as Restructuring
use Rattle.model.specs.declared.StepAnswer.TheVariants as StepAnswer
use Rattle.model.specs.Entries.{entry_of}
use Rattle.model.specs.Runs.{Call, begin_for, step_for, withdraw_for, Reply, to_begin, to_step, to_withdraw, Event}
use Rattle.model.specs.Book.{Book, book_agrees}
use Rattle.model.proofs.Refutations.Opened.{opened}

-- Key 7 is in, with setting 9.
abbrev pub seven : Book
seven = record { contents = entry_of 7 9 ∷ []; entries = λ q. none }

abbrev pub happened : Call → ℕ → Reply → Event
happened c n x = record { call = c; number = n; reply = x }

-- Party 1 begins; performs step n; is done at step n with an answer; withdraws.
abbrev pub begins : Operation → ℕ → Event
begins o k = happened (begin_for 1 o k) 0 (to_begin (Ok tt))

abbrev pub moves : ℕ → Event
moves n = happened (step_for 1) n (to_step (Ok StepAnswer.Moved))

abbrev pub ends : ℕ → OperationAnswer → Event
ends n a = happened (step_for 1) n (to_step (Ok (StepAnswer.Done a Restructuring.None)))

abbrev pub withdraws : Event
withdraws = happened (withdraw_for 1) 9 (to_withdraw (Ok tt))

-- ---- A find of a key that is in, and of one that is not

abbrev found : ℕ → OperationAnswer → List Event
found k a = begins Operation.Find k ∷ moves 6 ∷ ends 9 a ∷ []

told_found : book_agrees seven (found 7 (OperationAnswer.Found 9)) ≡ true
unfolding opened
told_found = refl

other_setting : book_agrees seven (found 7 (OperationAnswer.Found 8)) ≡ false
unfolding opened
other_setting = refl

told_absent : book_agrees seven (found 7 OperationAnswer.Absent) ≡ false
unfolding opened
told_absent = refl

absent_there : book_agrees seven (found 5 OperationAnswer.Absent) ≡ true
unfolding opened
absent_there = refl

-- ---- An insert and a delete

abbrev changes : Operation → ℕ → ℕ → OperationAnswer → List Event
changes o k n a = begins o k ∷ moves n ∷ ends 14 a ∷ []

told_present : book_agrees seven (changes (Operation.Insert 4) 7 10 OperationAnswer.Present) ≡ true
unfolding opened
told_present = refl

told_inserted : book_agrees seven (changes (Operation.Insert 4) 7 10 OperationAnswer.Inserted) ≡ false
unfolding opened
told_inserted = refl

no_page_there : book_agrees seven (changes (Operation.Insert 4) 7 10 OperationAnswer.NoPage) ≡ false
unfolding opened
no_page_there = refl

no_page_out : book_agrees seven (changes (Operation.Insert 4) 5 10 OperationAnswer.NoPage) ≡ true
unfolding opened
no_page_out = refl

inserted_out : book_agrees seven (changes (Operation.Insert 4) 5 11 OperationAnswer.Inserted) ≡ true
unfolding opened
inserted_out = refl

-- The key is in after an 11, with the setting given, and out after a delete's.
then_found : book_agrees seven (changes (Operation.Insert 4) 5 11 OperationAnswer.Inserted ++ found 5 (OperationAnswer.Found 4)) ≡ true
unfolding opened
then_found = refl

then_absent : book_agrees seven (changes (Operation.Insert 4) 5 11 OperationAnswer.Inserted ++ found 5 OperationAnswer.Absent) ≡ false
unfolding opened
then_absent = refl

deleted_found : book_agrees seven (changes Operation.Delete 7 11 OperationAnswer.Deleted ++ found 7 (OperationAnswer.Found 9)) ≡ false
unfolding opened
deleted_found = refl

deleted_absent : book_agrees seven (changes Operation.Delete 7 11 OperationAnswer.Deleted ++ found 7 OperationAnswer.Absent) ≡ true
unfolding opened
deleted_absent = refl

-- ---- When an answer may come

never_begun : book_agrees seven (moves 6 ∷ ends 9 (OperationAnswer.Found 9) ∷ []) ≡ false
unfolding opened
never_begun = refl

not_decided : book_agrees seven (begins Operation.Find 7 ∷ moves 5 ∷ ends 9 (OperationAnswer.Found 9) ∷ []) ≡ false
unfolding opened
not_decided = refl

answered_twice : book_agrees seven (found 7 (OperationAnswer.Found 9) ++ (ends 9 (OperationAnswer.Found 9) ∷ [])) ≡ false
unfolding opened
answered_twice = refl

withdrawn_then_done : book_agrees seven (begins Operation.Find 7 ∷ moves 6 ∷ withdraws ∷ ends 9 (OperationAnswer.Found 9) ∷ []) ≡ false
unfolding opened
withdrawn_then_done = refl
