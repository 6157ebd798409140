-- The book (document 01, "The set book"; by document 02, change 1, it keeps a map): what every answer of a run must be.
-- It is fed the events of a run, and compares each answer with its note.
-- Main definitions: Book, empty_book; enter; note_at_six, note_at_ten and note_at_eleven; contents_at_eleven; book_after, agrees
-- (one event); book_agrees, book_at_end (over a whole list).
use Rattle.std.specs.Prelude.{Bool, true, false, cond, ◌&&◌, List, [], ◌∷◌, ℕ, eqb, Ok, Err}
use Rattle.std.proofs.Math.Option.{Option, none, some}
use Rattle.model.specs.declared.Operation.{Operation}
use Rattle.model.specs.declared.OperationAnswer.{OperationAnswer}
use Rattle.model.specs.declared.StepAnswer.{StepAnswer}
use Rattle.model.specs.declared.Entry.{Entry}
use Rattle.model.specs.Answers.{found_or_absent, same_answer, StepReply, CallReply}
use Rattle.model.specs.Entries.{entry_of, has_key, setting_in, inserted_into, removed_from}
use Rattle.model.specs.Runs.{Call, begin_for, step_for, withdraw_for, Reply, to_begin, to_step, to_withdraw, Event}

-- What the book keeps beside a key that is in: its setting.
abbrev pub Value : Type 0
Value = ℕ

-- An operation under way: operation, key and note; a blank note is none.
pub record Entered : Type 0 where
  pub operation : Operation
  pub key : ℕ
  pub note : Option OperationAnswer

-- "The book keeps a set of keys, at first empty, and for each operation under way its party, operation, key and note":
-- the keys with their settings, as a list of records, keys strictly ascending; an insert's setting stands in its
-- operation.
pub record Book : Type 0 where
  pub contents : List Entry
  pub entries : ℕ → Option Entered

unfoldable pub empty_book : Book
empty_book = record { contents = []; entries = λ q. none }

-- A function changed at one number.
unfoldable pub changed_at : {A : Type 0} → (ℕ → A) → ℕ → A → ℕ → A
changed_at f i a j = cond (eqb j i) a (f j)

abbrev pub with_entry : Book → ℕ → Option Entered → Book
with_entry b q e = record { contents = b.contents; entries = changed_at b.entries q e }

abbrev pub with_contents : Book → List Entry → Book
with_contents b es = record { contents = es; entries = b.entries }

abbrev pub noted : Entered → OperationAnswer → Entered
noted e a = record { operation = e.operation; key = e.key; note = some a }

-- "Begin answered ok: enter it, note blank."
unfoldable pub enter : Book → ℕ → Operation → ℕ → Book
enter b q o k = with_entry b q (some (record { operation = o; key = k; note = none }))

-- "6 of a find: note found if the key is in the set, else absent; a later 6 replaces it": found with the setting that the map has.
unfoldable pub note_at_six : Operation → Option Value → Option OperationAnswer
note_at_six Operation.Find x = some (found_or_absent x)
note_at_six (Operation.Insert y) x = none
note_at_six Operation.Delete x = none

-- "10: note present for an insert whose key is in, absent for a delete whose key is out, else no page."
unfoldable pub note_at_ten : Operation → Bool → OperationAnswer
note_at_ten Operation.Find there = OperationAnswer.NoPage
note_at_ten (Operation.Insert y) there = cond there OperationAnswer.Present OperationAnswer.NoPage
note_at_ten Operation.Delete there = cond there OperationAnswer.NoPage OperationAnswer.Absent

-- "11: an insert adds its key, note inserted, or present if it was in. A delete removes it, note deleted, or absent if it was out."
unfoldable pub note_at_eleven : Operation → Bool → OperationAnswer
note_at_eleven Operation.Find there = OperationAnswer.NoPage
note_at_eleven (Operation.Insert y) there = cond there OperationAnswer.Present OperationAnswer.Inserted
note_at_eleven Operation.Delete there = cond there OperationAnswer.Deleted OperationAnswer.Absent

-- The map after step 11, from what it was: an insert adds its record, or keeps the one that is there.
unfoldable pub contents_at_eleven : Operation → ℕ → List Entry → List Entry
contents_at_eleven Operation.Find k es = es
contents_at_eleven (Operation.Insert y) k es = cond (has_key k es) es (inserted_into (entry_of k y) es)
contents_at_eleven Operation.Delete k es = removed_from k es

-- The book after a step of this number, performed for party q with the entry e.
unfoldable pub noted_if_find : Book → ℕ → Entered → Option OperationAnswer → Book
noted_if_find b q e none = b
noted_if_find b q e (some a) = with_entry b q (some (noted e a))

unfoldable pub note_step : Book → ℕ → Entered → ℕ → Book
note_step b q e number =
    let there = has_key e.key b.contents in
    let six = noted_if_find b q e (note_at_six e.operation (setting_in e.key b.contents)) in
    let ten = with_entry b q (some (noted e (note_at_ten e.operation there))) in
    let eleven = with_contents (with_entry b q (some (noted e (note_at_eleven e.operation there)))) (contents_at_eleven e.operation e.key b.contents) in
    cond (eqb number 6) six (cond (eqb number 10) ten (cond (eqb number 11) eleven b))

unfoldable pub note_for : Book → ℕ → Option Entered → ℕ → Book
note_for b q none number = b
note_for b q (some e) number = note_step b q e number

-- "Else, or refused, or waiting: no change." "Done: ... the entry goes."
unfoldable pub after_reply : Book → ℕ → ℕ → StepReply → Book
after_reply b q number (Ok StepAnswer.Waiting) = b
after_reply b q number (Err c) = b
after_reply b q number (Ok StepAnswer.Moved) = note_for b q (b.entries q) number
after_reply b q number (Ok (StepAnswer.Done a s)) = with_entry (note_for b q (b.entries q) number) q none

unfoldable pub after_begin : Book → ℕ → Operation → ℕ → CallReply → Book
after_begin b q o k (Ok _) = enter b q o k
after_begin b q o k (Err c) = b

-- "its entry goes from the book with the withdraw" (document 02, change 2); the map stays.
unfoldable pub after_withdraw : Book → ℕ → CallReply → Book
after_withdraw b q (Ok _) = with_entry b q none
after_withdraw b q (Err c) = b

-- The book after an event.
unfoldable pub book_after : Book → Call → ℕ → Reply → Book
book_after b (begin_for q o k) number (to_begin a) = after_begin b q o k a
book_after b (begin_for q o k) number (to_step a) = b
book_after b (begin_for q o k) number (to_withdraw a) = b
book_after b (step_for q) number (to_begin a) = b
book_after b (step_for q) number (to_step a) = after_reply b q number a
book_after b (step_for q) number (to_withdraw a) = b
book_after b (withdraw_for q) number (to_begin a) = b
book_after b (withdraw_for q) number (to_step a) = b
book_after b (withdraw_for q) number (to_withdraw a) = after_withdraw b q a

-- Whether an answer is the note.
unfoldable pub is_note : OperationAnswer → Option OperationAnswer → Bool
is_note a none = false
is_note a (some n) = same_answer a n

unfoldable pub is_note_of : OperationAnswer → Option Entered → Bool
is_note_of a none = false
is_note_of a (some e) = is_note a e.note

-- "Done: the answer must be the note": the note after the step's own number was entered.
unfoldable pub agrees_with : Book → ℕ → ℕ → StepReply → Bool
agrees_with b q number (Ok StepAnswer.Waiting) = true
agrees_with b q number (Err c) = true
agrees_with b q number (Ok StepAnswer.Moved) = true
agrees_with b q number (Ok (StepAnswer.Done a s)) = is_note_of a ((note_for b q (b.entries q) number).entries q)

unfoldable pub agrees : Book → Call → ℕ → Reply → Bool
agrees b (begin_for q o k) number x = true
agrees b (step_for q) number (to_begin a) = true
agrees b (step_for q) number (to_step a) = agrees_with b q number a
agrees b (step_for q) number (to_withdraw a) = true
agrees b (withdraw_for q) number x = true

-- Whether the book agrees with every answer of a list of events.
unfoldable pub book_agrees : Book → List Event → Bool
book_agrees b [] = true
book_agrees b (e ∷ es) = agrees b e.call e.number e.reply && book_agrees (book_after b e.call e.number e.reply) es

-- The book after a list of events.
unfoldable pub book_at_end : Book → List Event → Book
book_at_end b [] = b
book_at_end b (e ∷ es) = book_at_end (book_after b e.call e.number e.reply) es
