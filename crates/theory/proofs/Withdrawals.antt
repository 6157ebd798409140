-- Neither a withdrawn operation nor its withdraw alters the map (statements in specs/Withdrawals.antt): a call alters
-- it only where it performs step 11, and an operation that is withdrawn has performed none since its begin.
-- Main statements: contents_kept (the book's map), map-stays, none_written; withdrawals_right.
use mathlib.Core.Path.{◌≡◌, refl, sym, ap, ◌∙◌}
use mathlib.Core.Bool.{Bool, true, false, false≢true}
use mathlib.Core.List.{List, [], ◌∷◌, ◌++◌}
use Prim.Native.Nat.{ℕ}
use native.Mathlib.Omega.{arith}
use Rattle.std.specs.Prelude.{Ok, Err}
use Rattle.model.specs.declared.Refusal.{Refusal}
use Rattle.model.specs.declared.Party.{Party}
use Rattle.model.specs.declared.StepAnswer.{StepAnswer}
use Rattle.model.specs.Answers.{performs, StepReply, CallReply}
use Rattle.model.specs.Withdraw.{is_decided}
use Rattle.model.specs.Memory.{Memory, party_at}
use Rattle.model.specs.Calls.{Called, withdraw_call}
use Rattle.model.specs.Runs.{Call, begin_for, step_for, withdraw_for, Reply, to_begin, to_step, to_withdraw, reply_to, after_call, Event, event_of, events}
use Rattle.model.specs.Book.{Book, Entered, enter, after_reply, after_begin, after_withdraw, book_after, book_at_end}
use Rattle.model.specs.Progress.{book_after_call}
use Rattle.theory.specs.NoPage.{is_writing, none_wrote}
use Rattle.theory.specs.Demands.{Start, start, Reached, book_reached, book_start}
use Rattle.theory.specs.Withdrawals.{writes_map, writes_on, MapStays, unwritten, withdrawn_unwritten, WithdrawalsRight}
use Rattle.model.proofs.Laws.Lists.{Told, holds, fails, tell, both-and, eqb-false}
use Rattle.model.proofs.Invariant.Statement.{Busy, Inv, scene_of}
use Rattle.model.proofs.Steps.Withdraw.{undecided_early}
use Rattle.model.proofs.Theorems.Calls.{operation_some, call_kept}
use Rattle.model.proofs.Theorems.AllSteps.{steps_kept}
use Rattle.theory.proofs.Reached.{started_inv}
use Rattle.theory.proofs.BookFed.{book_fed_at}
use Rattle.theory.proofs.Consistency.{always_consistent, same_map}
use Rattle.theory.proofs.Linearization.Notes.{noted_contents}
use Rattle.theory.proofs.NoPage.{Past, over, late, WroteOk, call_clean}
use Rattle.theory.proofs.Withdraws.{WithdrawMet, stranger, unbegun, too_late, taken_back, withdraw_meets}

-- ---- The book's map

-- A step that is not an 11 performed leaves it.
reply_kept : (b : Book) (q number : ℕ) (a : StepReply) → is_writing number a ≡ false → (after_reply b q number a).contents ≡ b.contents
unfolding after_reply is_writing performs
reply_kept b q number (Ok StepAnswer.Waiting) h = refl
reply_kept b q number (Err n) h = refl
reply_kept b q number (Ok StepAnswer.Moved) h = noted_contents b q (b.entries q) number (eqb-false number 11 h)
reply_kept b q number (Ok (StepAnswer.Done a s)) h = noted_contents b q (b.entries q) number (eqb-false number 11 h)

-- So does every other call.
pub contents_kept : (b : Book) (c : Call) (number : ℕ) (r : Reply) → writes_map c number r ≡ false → (book_after b c number r).contents ≡ b.contents
unfolding book_after after_begin enter after_withdraw writes_map
contents_kept b (begin_for q o k) number (to_begin (Ok _)) h = refl
contents_kept b (begin_for q o k) number (to_begin (Err n)) h = refl
contents_kept b (begin_for q o k) number (to_step a) h = refl
contents_kept b (begin_for q o k) number (to_withdraw a) h = refl
contents_kept b (step_for q) number (to_begin a) h = refl
contents_kept b (step_for q) number (to_step a) h = reply_kept b q number a h
contents_kept b (step_for q) number (to_withdraw a) h = refl
contents_kept b (withdraw_for q) number (to_begin a) h = refl
contents_kept b (withdraw_for q) number (to_step a) h = refl
contents_kept b (withdraw_for q) number (to_withdraw (Ok _)) h = refl
contents_kept b (withdraw_for q) number (to_withdraw (Err n)) h = refl

-- The book after an event more.
book_last : (b : Book) (es : List Event) (e : Event) → book_at_end b (es ++ (e ∷ [])) ≡ book_after (book_at_end b es) e.call e.number e.reply
unfolding book_at_end
book_last b [] e = refl
book_last b (x ∷ es) e = book_last (book_after b x.call x.number x.reply) es e

-- ---- The map in the file

module _ (s : Start) (cs : List Call) (c : Call) (plain : writes_on (Reached s cs) c ≡ false) where
  book_then_ok : (book_reached s (cs ++ (c ∷ []))).contents ≡ (book_reached s cs).contents
  unfolding events
  book_then_ok =
      let e = event_of (Reached s cs) c in
      ap (λ (es : List Event). (book_at_end (book_start s) es).contents) (book_fed_at (start s) cs c [])
      ∙ ap (λ (b : Book). b.contents) (book_last (book_start s) (events (start s) cs) e) ∙ contents_kept (book_reached s cs) e.call e.number e.reply plain

  pub map-stays : MapStays s cs c
  map-stays = record {
    before = always_consistent s cs;
    after = always_consistent s (cs ++ (c ∷ []));
    same = (same_map s (cs ++ (c ∷ []))).records ∙ book_then_ok ∙ sym (same_map s cs).records;
  }

-- ---- Operations that are withdrawn

-- A party before its decisive step has performed no 11 since its begin.
module _ (m : Memory) (b : Book) (i : Inv m b) (w : ℕ → Bool) (ok : WroteOk m w) where
  not_written : (q : ℕ) (e : Entered) → Busy (scene_of m i.ghost b) q (party_at m.parties q) e → is_decided (party_at m.parties q) ≡ false → w q ≡ false
  not_written q e k d = go (tell (w q))
    where
      early : Past (party_at m.parties q) → ⊥
      early (over s) = operation_some e.operation (party_at m.parties q).operation k.same_operation (ap (λ (p : Party). p.operation) s)
      early (late l _) = omega (arith, l, (undecided_early (party_at m.parties q) k.step_fits d).0)

      go : Told (w q) → w q ≡ false
      go (holds h) = absurd (early (ok q h))
      go (fails h) = h

  withdrawn_clean : (q : ℕ) → unwritten w (withdraw_for q) (to_withdraw (withdraw_call m q).answer) ≡ true
  unfolding unwritten
  withdrawn_clean q = go (withdraw_meets m b i q)
    where
      refused : (n : Refusal) → (withdraw_call m q).answer ≡ Err n → unwritten w (withdraw_for q) (to_withdraw (withdraw_call m q).answer) ≡ true
      refused n e = rw e refl

      go : WithdrawMet m b i q → unwritten w (withdraw_for q) (to_withdraw (withdraw_call m q).answer) ≡ true
      go (stranger h n e) = refused Refusal.Party (ap (λ (c : Called CallReply). c.answer) e)
      go (unbegun h n e) = refused Refusal.Idle (ap (λ (c : Called CallReply). c.answer) e)
      go (too_late h e k d c) = refused Refusal.Decided (ap (λ (c : Called CallReply). c.answer) c)
      go (taken_back h e k t d a) = rw (a, not_written q e k d) refl

  call_unwritten : (c : Call) → unwritten w c (reply_to m c) ≡ true
  unfolding unwritten reply_to
  call_unwritten (begin_for q o k) = refl
  call_unwritten (step_for q) = refl
  call_unwritten (withdraw_for q) = withdrawn_clean q

run_unwritten : (m : Memory) (b : Book) → Inv m b → (w : ℕ → Bool) → WroteOk m w → (cs : List Call) → withdrawn_unwritten w (events m cs) ≡ true
unfolding withdrawn_unwritten events event_of
run_unwritten m b i w ok [] = refl
run_unwritten m b i w ok (c ∷ cs) =
    both-and (call_unwritten m b i w ok c)
    (run_unwritten (after_call m c) (book_after_call b m c) (call_kept steps_kept m b i c).inv _ (call_clean m b i w ok c).wrote cs)

pub none_written : (s : Start) (cs : List Call) → withdrawn_unwritten none_wrote (events (start s) cs) ≡ true
unfolding none_wrote
none_written s cs = run_unwritten (start s) (book_start s) (started_inv s) none_wrote (λ q h. absurd (false≢true h)) cs

pub withdrawals_right : (s : Start) (cs : List Call) → WithdrawalsRight s cs
withdrawals_right s cs = record { map-stays = map-stays s cs; none_written = none_written s cs }
