-- What follows from the statements of specs/Effects.antt and specs/Consistency.antt for a caller: each takes a field
-- that nothing else reads, so that none can be emptied unseen.
-- Main statements: moved-alters, done-alters, waiting_leaves, waiting_joins, waiting_again, refused_leaves (a step);
-- begin_refused_leaves, withdraw_refused_leaves; lock_refused, nothing_awaited (a wait); one_step_fed, one_begin_fed,
-- one_withdraw_fed, other_answer_refused, refused_withdraw_kept (the book); searched_home, searched_page,
-- searched_locked, walked_locked, stays_at_nine (a search); next_in_round, pair_words_at (the file);
-- joined-writes_scratch, both-given_back (a merge).
use mathlib.Core.Path.{◌≡◌, sym, ap, ◌∙◌}
use mathlib.Core.Logic.{◌≢◌, ◌⊎◌, inl, inr}
use mathlib.Core.Bool.{Bool, true, false, not, false≢true}
use mathlib.Core.Option.{none}
use mathlib.Core.List.{List, [], ◌∷◌}
use Prim.Native.Nat.{ℕ, ◌+◌, ◌*◌, ◌^◌, ◌<◌}
use lib.ListN.{length, get_or}
use Rattle.std.specs.Prelude.{Ok, Err}
use Rattle.model.specs.declared.Refusal.{Refusal}
use Rattle.model.specs.declared.Party.{Party}
use Rattle.model.specs.declared.Entry.{Entry}
use Rattle.model.specs.declared.Operation.{Operation}
use Rattle.model.specs.declared.OperationAnswer.{OperationAnswer}
use Rattle.model.specs.declared.Restructuring.{Restructuring}
use Rattle.model.specs.declared.StepAnswer.{StepAnswer}
use Rattle.model.specs.Answers.{performs}
use Rattle.model.specs.Pages.{page_of, primary_page, scratch_page}
use Rattle.model.specs.Addresses.{span, hash}
use Rattle.model.specs.LockRequests.{is_granted, mode_of}
use Rattle.model.specs.LockWords.{holds, chain_word, permits}
use Rattle.model.specs.Memory.{Memory, party_at, view_of}
use Rattle.model.specs.WaitingRow.{stands_behind, row_with}
use Rattle.model.specs.Calls.{begin_call, step_call, withdraw_call}
use Rattle.model.specs.Runs.{begin_for, step_for, withdraw_for, to_begin, to_step, to_withdraw, Event, event_of, events}
use Rattle.model.specs.Book.{Book, is_note_of, note_for}
use Rattle.model.specs.Effects.{record_before, record_after, AltersScratch, AltersOwn, own_record, own_scratch, StepAlters, WaitsForLock, BeginAlters, WithdrawAlters, withdraw_after, BookFed, BookCompares, BookLeaves, agrees_to, book_then, scratch_link}
use Rattle.model.specs.Filling.{PairIs}
use Rattle.model.specs.Outcome.{View, guarded}
use Rattle.model.specs.FreeList.{is_among, room_to_give_back}
use Rattle.model.specs.Steps.Dispatch.{wants}
use Rattle.model.specs.Steps.MergeBuild.{Pair, step26}
use Rattle.model.specs.Steps.MergeWrite.{partner_cleared, step29}
use Rattle.model.specs.Merges.{TakesNone, before29, pages_of_both, GivesBackBoth}
use Rattle.model.specs.Consistency.{Consistent, SearchEnds, LeftToWalk}
use Rattle.model.proofs.Laws.Lists.{and_both}

-- ---- A step

module _ (m : Memory) (q : ℕ) (s : StepAlters m q) where
  -- What alters the party's own words alters the memory.
  own_altered : AltersOwn m q → (step_call m q).memory ≢ m
  own_altered (own_record a) e = a.another_step (ap (λ (u : Memory). (party_at u.parties q).step) e)
  own_altered (own_scratch a) e = a.another_link (ap (λ (u : Memory). scratch_link u q) e)

  pub moved-alters : (step_call m q).answer ≡ Ok StepAnswer.Moved → (step_call m q).memory ≢ m
  unfolding performs
  moved-alters e = own_altered (s.performed (ap performs e))

  pub done-alters : (a : OperationAnswer) (r : Restructuring) → (step_call m q).answer ≡ Ok (StepAnswer.Done a r) → (step_call m q).memory ≢ m
  unfolding performs
  done-alters a r e = own_altered (s.performed (ap performs e))

  -- A waiting call leaves all but the row, and all where the party is in the row.
  pub waiting_leaves : (step_call m q).answer ≡ Ok StepAnswer.Waiting
      → ((step_call m q).memory.root ≡ m.root) × ((step_call m q).memory.parties ≡ m.parties) × ((step_call m q).memory.locks ≡ m.locks)
      × ((step_call m q).memory.pages ≡ m.pages)
  waiting_leaves e =
      let f = s.otherwise.waits e in
      (ap (λ (u : Memory). u.root) f, ap (λ (u : Memory). u.parties) f, ap (λ (u : Memory). u.locks) f, ap (λ (u : Memory). u.pages) f)

  pub waiting_joins : (step_call m q).answer ≡ Ok StepAnswer.Waiting → (step_call m q).memory.waiting ≡ row_with q m.waiting
  waiting_joins e = ap (λ (u : Memory). u.waiting) (s.otherwise.waits e)

  pub waiting_again : (step_call m q).answer ≡ Ok StepAnswer.Waiting → is_among (q + 1) m.waiting ≡ true → (step_call m q).memory ≡ m
  waiting_again e h = s.otherwise.waits-again e h

  pub refused_leaves : (n : Refusal) → (step_call m q).answer ≡ Err n → (step_call m q).memory ≡ m
  refused_leaves n e = s.otherwise.refused n e

-- A party that waits for a lock is not granted it.
pub lock_refused : (m : Memory) (q : ℕ) (w : WaitsForLock m q) → is_granted (view_of m q) w.lock ≢ true
unfolding is_granted
lock_refused m q w e = go w.forbidden
  where
    both : (permits (get_or m.locks w.lock.word 0) w.lock.mode ≡ true) × (not (stands_behind m.root m.parties m.waiting q) ≡ true)
    both = and_both (permits (get_or m.locks w.lock.word 0) w.lock.mode) (not (stands_behind m.root m.parties m.waiting q)) e

    go : (permits (get_or m.locks w.lock.word 0) w.lock.mode ≡ false) ⊎ (stands_behind m.root m.parties m.waiting q ≡ true) → ⊥
    go (inl f) = false≢true (sym f ∙ both.0)
    go (inr f) = false≢true (sym (ap not f) ∙ both.1)

-- A party whose next step requests nothing does not wait for a lock.
pub nothing_awaited : (m : Memory) (q : ℕ) → wants m.root (record_before m q) ≡ none → WaitsForLock m q → ⊥
nothing_awaited m q e w = let f = sym e ∙ w.wanted in let z : ◌≡◌ {A = Bool} true false = cc in false≢true (sym z)

-- ---- A begin and a withdraw

pub begin_refused_leaves : (m : Memory) (q : ℕ) (o : Operation) (k : ℕ) → BeginAlters m q o k → (begin_call m q o k).answer ≡ Err Refusal.Busy → (begin_call m q o k).memory ≡ m
begin_refused_leaves m q o k a e = a.refused Refusal.Busy e

pub withdraw_refused_leaves : (m : Memory) (q : ℕ) → WithdrawAlters m q → (withdraw_call m q).answer ≡ Err Refusal.Decided → withdraw_after m q ≡ m
withdraw_refused_leaves m q a e = a.refused Refusal.Decided e

-- ---- What the book is fed

module _ (m : Memory) (f : BookFed m) (q : ℕ) where
  pub one_begin_fed : (o : Operation) (k : ℕ)
      → events m (begin_for q o k ∷ []) ≡ record { call = begin_for q o k; number = (party_at m.parties q).step; reply = to_begin (begin_call m q o k).answer } ∷ []
  unfolding events
  one_begin_fed o k = f.begin_then q o k [] ∙ ap (λ (e : Event). e ∷ []) (f.of_begin q o k)

  pub one_step_fed : events m (step_for q ∷ []) ≡ record { call = step_for q; number = (party_at m.parties q).step; reply = to_step (step_call m q).answer } ∷ []
  unfolding events
  one_step_fed = f.step_then q [] ∙ ap (λ (e : Event). e ∷ []) (f.of_step q)

  pub one_withdraw_fed :
      events m (withdraw_for q ∷ []) ≡ record { call = withdraw_for q; number = (party_at m.parties q).step; reply = to_withdraw (withdraw_call m q).answer } ∷ []
  unfolding events
  one_withdraw_fed = f.withdraw_then q [] ∙ ap (λ (e : Event). e ∷ []) (f.of_withdraw q)

-- An answer that is not the note is refused.
pub other_answer_refused : (m : Memory) (b : Book) (q : ℕ) (a : OperationAnswer) (s : Restructuring) → BookCompares m b q → (step_call m q).answer ≡ Ok (StepAnswer.Done a s)
    → is_note_of a ((note_for b q (b.entries q) (party_at m.parties q).step).entries q) ≡ false → agrees_to b (event_of m (step_for q)) ≡ false
other_answer_refused m b q a s c e n = c.compares a s e ∙ n

pub refused_withdraw_kept : (m : Memory) (b : Book) (q : ℕ) → BookLeaves m b q → (withdraw_call m q).answer ≡ Err Refusal.Decided → book_then b (event_of m (withdraw_for q)) ≡ b
refused_withdraw_kept m b q l e = l.refused Refusal.Decided e

-- ---- A search

pub searched_home : (m : Memory) (q : ℕ) (s : SearchEnds m q)
    → hash m.root.originals s.at_home.chain.level (party_at m.parties q).key ≡ (party_at m.parties q).chain
searched_home m q s = s.at_home.home

pub searched_page : (m : Memory) (q : ℕ) (s : SearchEnds m q)
    → page_of (step_call m q).memory.pages (scratch_page m.root q) ≡ page_of m.pages (primary_page (party_at m.parties q).chain)
searched_page m q s = s.current

pub searched_locked : (m : Memory) (q : ℕ) → SearchEnds m q → holds (get_or m.locks (chain_word (party_at m.parties q).chain) 0) q (mode_of (party_at m.parties q)) ≡ true
searched_locked m q s = s.at_home.locked

pub walked_locked : (m : Memory) (b : Book) (q : ℕ) → LeftToWalk m b q → holds (get_or m.locks (chain_word (party_at m.parties q).chain) 0) q (mode_of (party_at m.parties q)) ≡ true
walked_locked m b q w = w.locked

-- A call that alters the scratch page alone is a 9 that stays at 9.
pub stays_at_nine : (m : Memory) (q : ℕ) → AltersScratch m q → (record_after m q).step ≡ 9
stays_at_nine m q a = ap (λ (p : Party). p.step) a.same_record ∙ a.at_nine

-- ---- The file

pub next_in_round : (m : Memory) → Consistent m → m.root.next < m.root.originals * 2 ^ m.root.level
unfolding span
next_in_round m f = f.next_inside

-- Record i of a page has its key in word 3 + 2 × i and its setting behind it.
pub pair_words_at : (w : List ℕ) (i : ℕ) (e : Entry) → PairIs w i e → (get_or w (3 + i * 2) 0 ≡ e.key) × (get_or w (4 + i * 2) 0 ≡ e.setting)
pair_words_at w i e p = (p.key_word, p.setting_word)

-- ---- A merge

pub joined-writes_scratch : (v : View) → TakesNone v → (x : ℕ) → page_of (step26 v).after.pages x ≢ page_of v.pages x → x ≢ scratch_page v.root v.number → ⊥
joined-writes_scratch v t x d n = d (t.pages= x n)

pub both-given_back : (v : View) (m : Pair) → GivesBackBoth v m
    → step29 (before29 v) ≡ guarded (before29 v) (room_to_give_back v.root (length (pages_of_both m))) (partner_cleared (before29 v) (pages_of_both m))
both-given_back v m g = g.gives_back
