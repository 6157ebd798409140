-- What the book is fed is what the calls returned (statements in specs/Effects.antt).
-- Main statements: book_fed (the event of a call, and the memory that the next call meets), book_fed_at (of every call
-- of a list), book_compares, book_enters, book_leaves.
use mathlib.Core.Path.{◌≡◌, refl, ap, ◌∙◌}
use mathlib.Core.Logic.{◌≢◌}
use mathlib.Core.List.{List, [], ◌∷◌, ◌++◌}
use mathlib.Core.Option.{none, some}
use Prim.Native.Nat.{ℕ}
use Rattle.std.specs.Prelude.{Ok, Err}
use Rattle.model.specs.Answers.{CallReply}
use Rattle.model.specs.declared.Operation.{Operation}
use Rattle.model.specs.Memory.{Memory, party_at}
use Rattle.model.specs.Calls.{begin_call, withdraw_call}
use Rattle.model.specs.Runs.{Call, begin_for, reply_to, after_call, Event, event_of, events, final_memory}
use Rattle.model.specs.Book.{Book, Entered, enter, book_after, after_begin, after_withdraw, agrees, agrees_with}
use Rattle.model.specs.Effects.{BookFed, book_then, BookCompares, BookEnters, BookLeaves}
use Rattle.model.proofs.Invariant.Facts.{changed_here, changed_elsewhere}

pub book_fed : (m : Memory) → BookFed m
unfolding events event_of reply_to after_call
book_fed m = record { of_begin = λ q o k. refl; of_step = λ q. refl; of_withdraw = λ q. refl; begin_then = λ q o k cs. refl; step_then = λ q cs. refl; withdraw_then = λ q cs. refl }

-- Wherever a call stands in a list, its event is that of the memory which the calls before it left.
pub book_fed_at : (m : Memory) (before : List Call) (c : Call) (after : List Call)
    → events m (before ++ (c ∷ after)) ≡ events m before ++ (event_of (final_memory m before) c ∷ events (after_call (final_memory m before) c) after)
unfolding events final_memory
book_fed_at m [] c after = refl
book_fed_at m (d ∷ before) c after = ap (λ (es : List Event). event_of m d ∷ es) (book_fed_at (after_call m d) before c after)

pub book_compares : (m : Memory) (b : Book) (q : ℕ) → BookCompares m b q
unfolding event_of reply_to agrees agrees_with
book_compares m b q = record { compares = λ a s e. ap (agrees_with b q (party_at m.parties q).step) e }

module _ (m : Memory) (b : Book) (q : ℕ) (o : Operation) (k : ℕ) (begins : (begin_call m q o k).answer ≡ Ok tt) where
  abbrev entry : Entered
  entry = record { operation = o; key = k; note = none }

  -- The book after it.
  entered : book_then b (event_of m (begin_for q o k)) ≡ enter b q o k
  unfolding event_of reply_to book_after after_begin
  entered = ap (after_begin b q o k) begins

  pub book_enters : BookEnters m b q o k
  unfolding enter
  book_enters = record {
    own = ap (λ (c : Book). c.entries q) entered ∙ changed_here b.entries q (some entry) q refl;
    others = λ j n. ap (λ (c : Book). c.entries j) entered ∙ changed_elsewhere b.entries q (some entry) j n;
    contents = ap (λ (c : Book). c.contents) entered;
  }

-- The book after a withdraw.
pub book_leaves : (m : Memory) (b : Book) (q : ℕ) → BookLeaves m b q
unfolding event_of reply_to book_after after_withdraw
book_leaves m b q = record {
  own = λ e. ap (λ (a : CallReply). (after_withdraw b q a).entries q) e ∙ changed_here b.entries q none q refl;
  others = λ j n. other (withdraw_call m q).answer j n;
  contents = same (withdraw_call m q).answer;
  refused = λ n e. ap (after_withdraw b q) e;
}
  where
    other : (a : CallReply) (j : ℕ) → j ≢ q → (after_withdraw b q a).entries j ≡ b.entries j
    other (Ok _) j n = changed_elsewhere b.entries q none j n
    other (Err k) j n = refl

    same : (a : CallReply) → (after_withdraw b q a).contents ≡ b.contents
    same (Ok _) = refl
    same (Err k) = refl
