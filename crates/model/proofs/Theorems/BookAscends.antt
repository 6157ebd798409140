-- The book's map strictly ascends, whatever events it is fed.
-- Main statements: event_ascends (one event), book_ascends (a list of events).
use mathlib.Core.Path.{◌≡◌}
use mathlib.Core.Bool.{true}
use mathlib.Core.List.{List, [], ◌∷◌}
use mathlib.Core.Option.{Option, none, some}
use Prim.Native.Nat.{ℕ}
use lib.Dec.{eqb}
use Rattle.std.specs.Prelude.{Ok, Err}
use Rattle.model.specs.Answers.{StepReply}
use Rattle.model.specs.declared.OperationAnswer.{OperationAnswer}
use Rattle.model.specs.declared.StepAnswer.{StepAnswer}
use Rattle.model.specs.Entries.{ascending}
use Rattle.model.specs.Runs.{Call, begin_for, step_for, withdraw_for, Reply, to_begin, to_step, to_withdraw, Event}
use Rattle.model.specs.Book.{Book, Entered, enter, noted_if_find, note_step, note_for, after_reply, after_begin, after_withdraw, book_after, book_at_end}
use Rattle.model.proofs.Laws.Lists.{cond_ind}
use Rattle.model.proofs.Laws.Changes.{ascends_eleven}

abbrev Ascends : Book → Type 0
Ascends b = ascending b.contents ≡ true

module _ (b : Book) (a : ascending b.contents ≡ true) where
  six_ascends : (q : ℕ) (e : Entered) (x : Option OperationAnswer) → Ascends (noted_if_find b q e x)
  unfolding noted_if_find
  six_ascends q e none = a
  six_ascends q e (some n) = a

  noted_ascends : (q : ℕ) (x : Option Entered) (n : ℕ) → Ascends (note_for b q x n)
  unfolding note_for note_step
  noted_ascends q none n = a
  noted_ascends q (some e) n =
      cond_ind Ascends (eqb n 6) _ _ (λ _. six_ascends q e _)
      (λ _. cond_ind Ascends (eqb n 10) _ _ (λ _. a) (λ _. cond_ind Ascends (eqb n 11) _ _ (λ _. ascends_eleven e.operation e.key b.contents a) (λ _. a)))

  reply_ascends : (q n : ℕ) (x : StepReply) → Ascends (after_reply b q n x)
  unfolding after_reply
  reply_ascends q n (Ok StepAnswer.Waiting) = a
  reply_ascends q n (Err k) = a
  reply_ascends q n (Ok StepAnswer.Moved) = noted_ascends q (b.entries q) n
  reply_ascends q n (Ok (StepAnswer.Done y s)) = noted_ascends q (b.entries q) n

  pub event_ascends : (c : Call) (n : ℕ) (r : Reply) → ascending (book_after b c n r).contents ≡ true
  unfolding book_after after_begin enter after_withdraw
  event_ascends (begin_for q o k) n (to_begin (Ok _)) = a
  event_ascends (begin_for q o k) n (to_begin (Err x)) = a
  event_ascends (begin_for q o k) n (to_step x) = a
  event_ascends (begin_for q o k) n (to_withdraw x) = a
  event_ascends (step_for q) n (to_begin x) = a
  event_ascends (step_for q) n (to_step x) = reply_ascends q n x
  event_ascends (step_for q) n (to_withdraw x) = a
  event_ascends (withdraw_for q) n (to_begin x) = a
  event_ascends (withdraw_for q) n (to_step x) = a
  event_ascends (withdraw_for q) n (to_withdraw (Ok _)) = a
  event_ascends (withdraw_for q) n (to_withdraw (Err x)) = a

pub book_ascends : (b : Book) (es : List Event) → ascending b.contents ≡ true → ascending (book_at_end b es).contents ≡ true
unfolding book_at_end
book_ascends b [] a = a
book_ascends b (e ∷ es) a = book_ascends (book_after b e.call e.number e.reply) es (event_ascends b a e.call e.number e.reply)
