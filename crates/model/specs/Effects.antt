-- What each call alters, by its answer (document 01, "Agreement": "a step that alters nothing and says moved" does not meet demand 1), and what the book is fed of it.
-- Main definitions: AltersOwn, StepAlters (a step that moved or is done alters the party's own words, any other call of step alters nothing); WaitsForLock; Begins, BeginAlters;
-- Withdraws, WithdrawAlters; BookFed, BookCompares, BookEnters, BookLeaves. The theorems that they hold are in proofs/.
use Rattle.std.specs.Prelude.{◌≡◌, ◌≢◌, ◌⊎◌, Bool, true, false, List, ◌∷◌, ℕ, ◌+◌, length, get_or, Ok, Err}
use Rattle.std.proofs.Math.Option.{none, some}
use Rattle.model.specs.declared.Refusal.{Refusal}
use Rattle.model.specs.declared.Party.{Party}
use Rattle.model.specs.declared.Operation.{Operation}
use Rattle.model.specs.declared.OperationAnswer.{OperationAnswer}
use Rattle.model.specs.declared.Restructuring.{Restructuring}
use Rattle.model.specs.declared.StepAnswer.TheVariants as StepAnswer
use Rattle.model.specs.Records.{begun, idle, with_free_list}
use Rattle.model.specs.Answers.{operation_number, setting_given, performs}
use Rattle.model.specs.LockWords.{Claim, permits}
use Rattle.model.specs.Pages.{page_of, link_of, scratch_page, zero_page}
use Rattle.model.specs.Chains.{pages_listed}
use Rattle.model.specs.FreeList.{is_among}
use Rattle.model.specs.LockRequests.{given_up}
use Rattle.model.specs.Steps.Dispatch.{wants}
use Rattle.model.specs.Memory.{Memory, party_at, view_of, with_waiting}
use Rattle.model.specs.WaitingRow.{stands_behind, row_with, row_without}
use Rattle.model.specs.Claims.{claims}
use Rattle.model.specs.Withdraw.{built_pages}
use Rattle.model.specs.Calls.{with_begun, begin_call, step_call, withdraw_call}
use Rattle.model.specs.Runs.{Call, begin_for, step_for, withdraw_for, to_begin, to_step, to_withdraw, Event, event_of, events}
use Rattle.model.specs.Book.{Book, note_for, book_after, is_note_of, agrees}

-- ---- A call of step

-- Party q's record before its call of step and after it.
abbrev pub record_before : Memory → ℕ → Party
record_before m q = party_at m.parties q

abbrev pub record_after : Memory → ℕ → Party
record_after m q = party_at (step_call m q).memory.parties q

-- The link on its scratch page, before and after.
abbrev pub scratch_link : Memory → ℕ → ℕ
scratch_link m q = link_of (page_of m.pages (scratch_page m.root q))

abbrev pub scratch_link_after : Memory → ℕ → ℕ
scratch_link_after m q = scratch_link (step_call m q).memory q

-- The call alters the party's record: its step number is another.
pub record AltersRecord (m : Memory) (q : ℕ) : Type 0 where
  pub another_step : (record_after m q).step ≢ (record_before m q).step

-- A 9 that stays at 9 leaves the record, and alters the party's scratch page: its link is another.
pub record AltersScratch (m : Memory) (q : ℕ) : Type 0 where
  pub at_nine : (record_before m q).step ≡ 9
  pub moves : (step_call m q).answer ≡ Ok StepAnswer.Moved
  pub same_record : record_after m q ≡ record_before m q
  pub another_link : scratch_link_after m q ≢ scratch_link m q

-- The call alters the party's own words: its record, or at 9 its scratch page.
pub data AltersOwn (m : Memory) (q : ℕ) : Type 0 where
  own_record : AltersRecord m q → AltersOwn m q
  own_scratch : AltersScratch m q → AltersOwn m q

-- "Only the first waiting call alters memory, and only the row": on all memory. A refused call alters nothing.
pub record QuietAlters (m : Memory) (q : ℕ) : Type 0 where
  pub waits : (step_call m q).answer ≡ Ok StepAnswer.Waiting → (step_call m q).memory ≡ with_waiting (row_with q m.waiting) m
  pub waits-again : (step_call m q).answer ≡ Ok StepAnswer.Waiting → is_among (q + 1) m.waiting ≡ true → (step_call m q).memory ≡ m
  pub refused : (c : Refusal) → (step_call m q).answer ≡ Err c → (step_call m q).memory ≡ m

-- A call that answers moved or done alters the party's own words; any other call of step the waiting row at most.
pub record StepAlters (m : Memory) (q : ℕ) : Type 0 where
  pub performed : performs (step_call m q).answer ≡ true → AltersOwn m q
  pub otherwise : QuietAlters m q

-- The party's next step requests a lock, and Table I forbids it against the lock word, or an earlier waiting request
-- conflicts.
pub record WaitsForLock (m : Memory) (q : ℕ) : Type 0 where
  pub lock : Claim
  pub wanted : wants m.root (record_before m q) ≡ some lock
  pub forbidden : (permits (get_or m.locks lock.word 0) lock.mode ≡ false) ⊎ (stands_behind m.root m.parties m.waiting q ≡ true)

-- ---- A call of begin

-- "A begin sets operation, key and step 1 and zeroes the rest" of the party's record but an insert's setting, and leaves every other word.
pub record Begins (m : Memory) (q : ℕ) (o : Operation) (k : ℕ) : Type 0 where
  pub own : party_at (begin_call m q o k).memory.parties q ≡ begun (operation_number o) k (setting_given o)
  pub others : (j : ℕ) → j ≢ q → party_at (begin_call m q o k).memory.parties j ≡ party_at m.parties j
  pub as_many : length (begin_call m q o k).memory.parties ≡ length m.parties
  pub root : (begin_call m q o k).memory.root ≡ m.root
  pub locks : (begin_call m q o k).memory.locks ≡ m.locks
  pub pages : (begin_call m q o k).memory.pages ≡ m.pages
  pub waiting : (begin_call m q o k).memory.waiting ≡ m.waiting
  pub memory : (begin_call m q o k).memory ≡ with_begun m q o k

-- A begin accepted leaves what Begins says; one refused leaves all memory.
pub record BeginAlters (m : Memory) (q : ℕ) (o : Operation) (k : ℕ) : Type 0 where
  pub accepted : (begin_call m q o k).answer ≡ Ok tt → Begins m q o k
  pub refused : (c : Refusal) → (begin_call m q o k).answer ≡ Err c → (begin_call m q o k).memory ≡ m

-- ---- A call of withdraw

-- The memory after party q's call of withdraw.
abbrev pub withdraw_after : Memory → ℕ → Memory
withdraw_after m q = (withdraw_call m q).memory

-- It zeroes the party's record and scratch page and gives up the locks of its step number; of the root only the free list changes, and no page is written but scratch and the pages built.
pub record Withdraws (m : Memory) (q : ℕ) : Type 0 where
  pub own : party_at (withdraw_after m q).parties q ≡ idle
  pub others : (j : ℕ) → j ≢ q → party_at (withdraw_after m q).parties j ≡ party_at m.parties j
  pub as_many : length (withdraw_after m q).parties ≡ length m.parties
  pub root : (withdraw_after m q).root ≡ with_free_list (withdraw_after m q).root.head (withdraw_after m q).root.free m.root
  pub locks : (withdraw_after m q).locks ≡ (given_up (claims m.root (party_at m.parties q)) (view_of m q)).locks
  pub waiting : (withdraw_after m q).waiting ≡ row_without q m.waiting
  pub scratch : page_of (withdraw_after m q).pages (scratch_page m.root q) ≡ zero_page
  pub elsewhere : (x : ℕ) → x ≢ scratch_page m.root q → is_among x (pages_listed (built_pages (view_of m q))) ≡ false → page_of (withdraw_after m q).pages x ≡ page_of m.pages x

-- A withdraw accepted leaves what Withdraws says; one refused leaves all memory.
pub record WithdrawAlters (m : Memory) (q : ℕ) : Type 0 where
  pub accepted : (withdraw_call m q).answer ≡ Ok tt → Withdraws m q
  pub refused : (c : Refusal) → (withdraw_call m q).answer ≡ Err c → withdraw_after m q ≡ m

-- ---- What the book is fed

-- Of every call: the call itself, the party's own step number and the answer that this very call returned; the next call meets the memory that this one left.
pub record BookFed (m : Memory) : Type 0 where
  pub of_begin : (q : ℕ) (o : Operation) (k : ℕ)
      → event_of m (begin_for q o k) ≡ record { call = begin_for q o k; number = (party_at m.parties q).step; reply = to_begin (begin_call m q o k).answer }
  pub of_step : (q : ℕ) → event_of m (step_for q) ≡ record { call = step_for q; number = (party_at m.parties q).step; reply = to_step (step_call m q).answer }
  pub of_withdraw : (q : ℕ)
      → event_of m (withdraw_for q) ≡ record { call = withdraw_for q; number = (party_at m.parties q).step; reply = to_withdraw (withdraw_call m q).answer }
  pub begin_then : (q : ℕ) (o : Operation) (k : ℕ) (cs : List Call) → events m (begin_for q o k ∷ cs) ≡ event_of m (begin_for q o k) ∷ events (begin_call m q o k).memory cs
  pub step_then : (q : ℕ) (cs : List Call) → events m (step_for q ∷ cs) ≡ event_of m (step_for q) ∷ events (step_call m q).memory cs
  pub withdraw_then : (q : ℕ) (cs : List Call) → events m (withdraw_for q ∷ cs) ≡ event_of m (withdraw_for q) ∷ events (withdraw_call m q).memory cs

-- Whether the book agrees with the event of a call, and the book after it.
abbrev pub agrees_to : Book → Event → Bool
agrees_to b e = agrees b e.call e.number e.reply

abbrev pub book_then : Book → Event → Book
book_then b e = book_after b e.call e.number e.reply

-- The answer that is compared with party q's note is the one that its call returned.
pub record BookCompares (m : Memory) (b : Book) (q : ℕ) : Type 0 where
  pub compares : (a : OperationAnswer) (s : Restructuring) → (step_call m q).answer ≡ Ok (StepAnswer.Done a s)
      → agrees_to b (event_of m (step_for q)) ≡ is_note_of a ((note_for b q (b.entries q) (party_at m.parties q).step).entries q)

-- A begin enters its own operation and key for its party, with a blank note; every other entry and the map stay.
pub record BookEnters (m : Memory) (b : Book) (q : ℕ) (o : Operation) (k : ℕ) : Type 0 where
  pub own : (book_then b (event_of m (begin_for q o k))).entries q ≡ some (record { operation = o; key = k; note = none })
  pub others : (j : ℕ) → j ≢ q → (book_then b (event_of m (begin_for q o k))).entries j ≡ b.entries j
  pub contents : (book_then b (event_of m (begin_for q o k))).contents ≡ b.contents

-- A withdraw accepted takes its party's entry out; every other entry and the map stay. One refused leaves the book.
pub record BookLeaves (m : Memory) (b : Book) (q : ℕ) : Type 0 where
  pub own : (withdraw_call m q).answer ≡ Ok tt → (book_then b (event_of m (withdraw_for q))).entries q ≡ none
  pub others : (j : ℕ) → j ≢ q → (book_then b (event_of m (withdraw_for q))).entries j ≡ b.entries j
  pub contents : (book_then b (event_of m (withdraw_for q))).contents ≡ b.contents
  pub refused : (c : Refusal) → (withdraw_call m q).answer ≡ Err c → book_then b (event_of m (withdraw_for q)) ≡ b
