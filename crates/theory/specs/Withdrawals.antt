-- Withdraws in whole lists (document 02, change 2): what a withdraw restores, and that "Neither the withdrawn operation
-- nor the withdraw alters the map".
-- That a withdraw never waits, and is refused only 3, 5 or 7, is specs/Holds.antt of crate model (withdraw_right); that
-- a withdrawn operation has no place in the order, specs/Linearization.antt.
-- Main definitions: Restored (all lent memory, word for word); writes_map and MapStays (which calls alter the map, and
-- what it is that stays), withdrawn_unwritten (a withdrawn operation has made no such call), WithdrawalsRight. The
-- theorems are in proofs/Restored.antt and proofs/Withdrawals.antt.
use Rattle.std.specs.Prelude.{◌≡◌, Bool, true, false, cond, not, ◌&&◌, List, [], ◌∷◌, ◌++◌, ℕ, Ok, Err}
use Rattle.model.specs.declared.Refusal.{Refusal}
use Rattle.model.specs.declared.Party.{Party}
use Rattle.model.specs.Withdraw.{is_decided}
use Rattle.model.specs.Memory.{Memory, party_at}
use Rattle.model.specs.Calls.{begin_call, withdraw_call}
use Rattle.model.specs.Runs.{Call, begin_for, step_for, withdraw_for, Reply, to_begin, to_step, to_withdraw, Event, event_of, events}
use Rattle.model.specs.Progress.{under_way}
use Rattle.model.specs.Consistency.{Consistent, records_in}
use Rattle.theory.specs.NoPage.{is_writing, none_wrote, wrote_after}
use Rattle.theory.specs.Singly.{Wanted, steps_of}
use Rattle.theory.specs.Demands.{Start, start, Reached, book_reached}

-- ---- All is what it was before begin

-- The calls of an operation begun, with n steps of its party and no other call; and the same, then withdrawn.
abbrev pub calls_begun : Wanted → ℕ → List Call
calls_begun x n = begin_for x.party x.operation x.key ∷ steps_of x.party n

abbrev pub calls_withdrawn : Wanted → ℕ → List Call
calls_withdrawn x n = calls_begun x n ++ (withdraw_for x.party ∷ [])

-- The memory when the withdraw is called, and the party's record there.
abbrev pub at_withdraw : Start → List Call → Wanted → ℕ → Memory
at_withdraw s cs x n = Reached s (cs ++ calls_begun x n)

abbrev pub record_there : Start → List Call → Wanted → ℕ → Party
record_there s cs x n = party_at (at_withdraw s cs x n).parties x.party

-- After a list of calls, an operation whose begin is accepted, and n steps of its party alone, those that wait among
-- them.
pub record Restored (s : Start) (cs : List Call) (x : Wanted) (n : ℕ) : Type 0 where
  -- "In memory the index alone has changed, with no other party's call in between, all is what it was before begin":
  -- each lent word.
  pub restored : (begin_call (Reached s cs) x.party x.operation x.key).answer ≡ Ok tt
      → (withdraw_call (at_withdraw s cs x n) x.party).answer ≡ Ok tt → Reached s (cs ++ calls_withdrawn x n) ≡ Reached s cs
  -- Before it is answered, the withdraw is accepted exactly while the decisive step is not taken.
  pub accepted : under_way (book_reached s (cs ++ calls_begun x n)) x.party ≡ true
      → (withdraw_call (at_withdraw s cs x n) x.party).answer ≡ cond (is_decided (record_there s cs x n)) (Err Refusal.Decided) (Ok tt)

-- ---- The map

-- Whether a call alters the map: a step 11 performed.
unfoldable pub writes_map : Call → ℕ → Reply → Bool
writes_map (begin_for q o k) number x = false
writes_map (step_for q) number (to_begin a) = false
writes_map (step_for q) number (to_step a) = is_writing number a
writes_map (step_for q) number (to_withdraw a) = false
writes_map (withdraw_for q) number x = false

-- The same of a call on memory m.
abbrev pub writes_on : Memory → Call → Bool
writes_on m c = let e = event_of m c in writes_map e.call e.number e.reply

-- After a list of calls, the call c leaves the map that the chains of the file hold.
pub record MapStays (s : Start) (cs : List Call) (c : Call) : Type 0 where
  pub before : Consistent (Reached s cs)
  pub after : Consistent (Reached s (cs ++ (c ∷ [])))
  pub same : records_in (Reached s (cs ++ (c ∷ []))) after ≡ records_in (Reached s cs) before

-- Whether an operation that a withdraw takes back has performed no step 11 since its begin; w says by party who has.
unfoldable pub unwritten : (ℕ → Bool) → Call → Reply → Bool
unwritten w (begin_for q o k) x = true
unwritten w (step_for q) x = true
unwritten w (withdraw_for q) (to_begin a) = true
unwritten w (withdraw_for q) (to_step a) = true
unwritten w (withdraw_for q) (to_withdraw (Ok _)) = not (w q)
unwritten w (withdraw_for q) (to_withdraw (Err c)) = true

-- Over the events of a run.
unfoldable pub withdrawn_unwritten : (ℕ → Bool) → List Event → Bool
withdrawn_unwritten w [] = true
withdrawn_unwritten w (e ∷ es) = unwritten w e.call e.reply && withdrawn_unwritten (wrote_after w e.call e.number e.reply) es

-- A call alters the map only where it performs step 11; so no withdraw does, and no call of an operation that is
-- withdrawn later.
pub record WithdrawalsRight (s : Start) (cs : List Call) : Type 0 where
  pub map-stays : (c : Call) → writes_on (Reached s cs) c ≡ false → MapStays s cs c
  pub none_written : withdrawn_unwritten none_wrote (events (start s) cs) ≡ true
