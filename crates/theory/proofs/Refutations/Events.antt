-- Events that the definitions call wrong, beside those that they call right.
-- Main statements: no_page_early, no_page_late, no_page_again (no page after an 11); withdrawn_early, withdrawn_late,
-- withdrawn-again (a withdraw after an 11); writes_begin, writes-step, writes_withdraw (which calls alter the map);
-- taken_told, taken_always (take-up).
use mathlib.Core.Path.{◌≡◌, refl}
use mathlib.Core.Bool.{Bool, true, false, ◌&&◌}
use mathlib.Core.List.{List, [], ◌∷◌}
use Prim.Native.Nat.{ℕ}
use lib.Dec.{eqb}
use Rattle.std.specs.Prelude.{Ok, Err}
use Rattle.model.specs.declared.Refusal.{Refusal}
use Rattle.model.specs.declared.Operation.{Operation}
use Rattle.model.specs.declared.OperationAnswer.TheVariants as OperationAnswer
use Rattle.model.specs.declared.StepAnswer.{StepAnswer}
use Rattle.model.specs.Answers.{performs, StepReply, CallReply}
use Rattle.model.specs.Records.{idle}
use Rattle.model.specs.Memory.{Memory, party_at}
use Rattle.model.specs.Book.{empty_book}
use Rattle.model.specs.Calls.{step_call}
use Rattle.model.specs.Runs.{begin_for, step_for, withdraw_for, to_begin, to_step, to_withdraw, Event, event_of, reply_to}
use Rattle.theory.specs.NoPage.{none_wrote, no_page_kept, no_page_right, wrote_after, is_writing}
use Rattle.theory.specs.Withdrawals.{writes_map, writes_on, unwritten, withdrawn_unwritten}
use Rattle.theory.specs.TakenUp.{taken_rightly, always_taken}
use Rattle.model.proofs.Refutations.Memories.{busy, crossed}
use Rattle.model.proofs.Refutations.Books.{happened, begins, moves, ends, withdraws}
use Rattle.theory.proofs.Refutations.Opened.{opened}

-- An insert begun, and moved at 10.
abbrev inserts : List Event → List Event
inserts rest = begins (Operation.Insert 4) 5 ∷ moves 10 ∷ rest

-- ---- No page

no_page_early : no_page_kept none_wrote (inserts (ends 14 OperationAnswer.NoPage ∷ [])) ≡ true
unfolding opened
no_page_early = refl

no_page_late : no_page_kept none_wrote (inserts (moves 11 ∷ ends 14 OperationAnswer.NoPage ∷ [])) ≡ false
unfolding opened
no_page_late = refl

inserted_late : no_page_kept none_wrote (inserts (moves 11 ∷ ends 14 OperationAnswer.Inserted ∷ [])) ≡ true
unfolding opened
inserted_late = refl

-- An 11 of the operation before, or of another party, does not count; an 11 that only waits does not, nor is there one.
no_page_again : no_page_kept none_wrote (inserts (moves 11 ∷ ends 14 OperationAnswer.Inserted ∷ inserts (ends 14 OperationAnswer.NoPage ∷ []))) ≡ true
unfolding opened
no_page_again = refl

no_page_beside : no_page_kept none_wrote (inserts (happened (step_for 2) 11 (to_step (Ok StepAnswer.Moved)) ∷ ends 14 OperationAnswer.NoPage ∷ [])) ≡ true
unfolding opened
no_page_beside = refl

-- Nor is a begin that was refused the start of another operation.
no_page_refused : no_page_kept none_wrote (inserts (moves 11 ∷ happened (begin_for 1 Operation.Find 5) 12 (to_begin (Err Refusal.Busy)) ∷ ends 14 OperationAnswer.NoPage ∷ [])) ≡ false
unfolding opened
no_page_refused = refl

-- ---- Withdrawn after an 11

withdrawn_early : withdrawn_unwritten none_wrote (inserts (withdraws ∷ [])) ≡ true
unfolding opened
withdrawn_early = refl

withdrawn_late : withdrawn_unwritten none_wrote (inserts (moves 11 ∷ withdraws ∷ [])) ≡ false
unfolding opened
withdrawn_late = refl

withdrawn-again : withdrawn_unwritten none_wrote (inserts (moves 11 ∷ ends 14 OperationAnswer.Inserted ∷ inserts (withdraws ∷ []))) ≡ true
unfolding opened
withdrawn-again = refl

-- ---- Which calls alter the map: an 11 performed, and no other

module _ (m : Memory) (q : ℕ) where
  pub writes_begin : (o : Operation) (k : ℕ) → writes_on m (begin_for q o k) ≡ false
  unfolding writes_map event_of
  writes_begin o k = refl

  pub writes-step : writes_on m (step_for q) ≡ (performs (step_call m q).answer && eqb (party_at m.parties q).step 11)
  unfolding writes_map event_of reply_to is_writing
  writes-step = refl

  pub writes_withdraw : writes_on m (withdraw_for q) ≡ false
  unfolding writes_map event_of
  writes_withdraw = refl

-- ---- Take-up after every call

-- Two chains and two parties at rest, and the same with both parties at 4.
abbrev resting : Memory
resting = record { root = (crossed 0).root; parties = idle ∷ idle ∷ []; locks = 0 ∷ 0 ∷ 0 ∷ []; pages = (crossed 0).pages; waiting = (crossed 0).waiting }

taken_told :
    taken_rightly 2 empty_book resting ∷ taken_rightly 2 busy resting ∷ taken_rightly 2 busy (crossed 0) ∷ taken_rightly 2 empty_book (crossed 0) ∷ [] ≡ true ∷ false ∷ true ∷ false ∷ []
unfolding opened
taken_told = refl

-- Before the first call, and after each.
taken_always :
    always_taken 2 empty_book resting (begin_for 1 Operation.Find 7 ∷ withdraw_for 1 ∷ []) ∷ always_taken 2 busy resting (step_for 0 ∷ []) ∷ always_taken 2 empty_book (crossed 0) (withdraw_for 1 ∷ []) ∷ []
    ≡ true ∷ false ∷ false ∷ []
unfolding opened
taken_always = refl

-- ---- A reply to a call of another kind says nothing of an 11, nor of no page

module _ (w : ℕ → Bool) (q n : ℕ) (o : Operation) (k : ℕ) (b : CallReply) (s : StepReply) (d : CallReply) where
  pub others_write_none :
      wrote_after w (begin_for q o k) n (to_step s) ∷ wrote_after w (begin_for q o k) n (to_withdraw d) ∷ wrote_after w (step_for q) n (to_begin b) ∷ wrote_after w (step_for q) n (to_withdraw d) ∷ [] ≡ w ∷ w ∷ w ∷ w ∷ []
  unfolding wrote_after
  others_write_none = refl

  pub others_right :
      no_page_right w (step_for q) n (to_begin b) ∷ no_page_right w (step_for q) n (to_withdraw d) ∷ unwritten w (withdraw_for q) (to_begin b) ∷ unwritten w (withdraw_for q) (to_step s) ∷ [] ≡ true ∷ true ∷ true ∷ true ∷ []
  unfolding no_page_right unwritten
  others_right = refl

  pub others_alter_none : writes_map (step_for q) n (to_begin b) ∷ writes_map (step_for q) n (to_withdraw d) ∷ [] ≡ false ∷ false ∷ []
  unfolding writes_map
  others_alter_none = refl
