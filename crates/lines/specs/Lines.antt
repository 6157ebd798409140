-- A line of turns and all memory, taken to the reply and all memory afterwards (document 01, "The turns program").
-- Main definitions: with_words (a call lent the first words alone), by_number, performed (a form), line_answered (a line).
use Rattle.std.specs.Prelude.{Option, None, Some, Result, Ok, Err, List, ◌++◌, ℕ, take, drop}
use Rattle.model.specs.declared.Root.{Root}
use Rattle.model.specs.declared.Refusal.{Refusal}
use Rattle.model.specs.Answers.{cause_number}
use Rattle.model.specs.Sizes.{lock_words, all_page_words}
use Rattle.model.specs.Records.{root_sized}
use Rattle.model.specs.Memory.{Memory}
use Rattle.model.specs.Calls.{Called, called}
use Rattle.calls.specs.Lent.{lent}
use Rattle.lines.specs.Held.{held_format, held_begin, held_step, held_withdraw, held_take_up}
use Rattle.forms.specs.declared.Form.{Form}
use Rattle.forms.specs.declared.Reply.{Reply}
use Rattle.forms.specs.Reading.{read_form}

-- The memory with the first lock words, page words and words of the waiting row that the sizes in a root record ask
-- for, or all where there are fewer.
abbrev pub words_for : Root → Memory → Memory
words_for r m = lent m.root m.parties (take (lock_words r) m.locks) (take (all_page_words r) m.pages) (take r.parties m.waiting)

-- What a call on it answers and leaves, with the words past them as they were; f makes the reply of the answer.
abbrev pub with_words : {A : Type 0} → Root → Memory → (A → Reply) → Called A → Called Reply
with_words r m f c =
    called (f c.answer)
    (lent c.memory.root c.memory.parties (c.memory.locks ++ drop (lock_words r) m.locks) (c.memory.pages ++ drop (all_page_words r) m.pages)
    (c.memory.waiting ++ drop r.parties m.waiting))

-- What a call answers, its refusal by its number.
unfoldable pub by_number : {A : Type 0} → Result A Refusal → Result A ℕ
by_number (Ok a) = Ok a
by_number (Err c) = Err (cause_number c)

-- The call that a form names: a format is lent words by the sizes given, any other call by those of the root record.
unfoldable pub performed : Form → Memory → Called Reply
performed (Form.Format z) m = with_words (root_sized z) m (λ a. Reply.Format (by_number a)) (held_format (words_for (root_sized z) m) z)
performed (Form.Begin q o k) m = with_words m.root m (λ a. Reply.Begin q (by_number a)) (held_begin (words_for m.root m) q o k)
performed (Form.Step q) m = with_words m.root m (λ a. Reply.Step q (by_number a)) (held_step (words_for m.root m) q)
performed (Form.Withdraw q) m = with_words m.root m (λ a. Reply.Withdraw q (by_number a)) (held_withdraw (words_for m.root m) q)
performed Form.TakeUp m = with_words m.root m (λ a. Reply.TakeUp (by_number a)) (held_take_up (words_for m.root m))

-- What a line says, performed; a line that is no form alters nothing.
unfoldable pub answered_as : Option Form → Memory → Called Reply
answered_as None m = called Reply.Unread m
answered_as (Some f) m = performed f m

unfoldable pub line_answered : List ℕ → Memory → Called Reply
line_answered line m = answered_as (read_form line) m
