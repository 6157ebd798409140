-- Nobody overtaken at a lock (document 02, change 7), over every list of calls.
-- Main definitions: waits_then, waits_on (who waits, by the events alone), wait_stays (a wait that does not end);
-- WaitsFor; NobodyOvertaken, SameWant (what one waits for stays), passes_by, passes_all and PassedOnce, RowIsLedger,
-- WaitsAgain, RestsClear. The theorems are in proofs/Overtaking.antt.
use Rattle.std.specs.Prelude.{◌≡◌, Bool, true, false, cond, not, ◌&&◌, ◌||◌, List, [], ◌∷◌, ◌++◌, ℕ, ◌+◌, ◌-◌, ◌≤◌, length, replicate, eqb, Ok, Err}
use Rattle.std.proofs.Math.Option.{Option, none, some}
use Rattle.model.specs.declared.Root.{Root}
use Rattle.model.specs.declared.StepAnswer.{StepAnswer}
use Rattle.model.specs.Answers.{is_moved, performs}
use Rattle.model.specs.LockWords.{Claim, table_one}
use Rattle.model.specs.WaitingRow.{all_zero}
use Rattle.model.specs.Memory.{Memory}
use Rattle.model.specs.Calls.{step_call}
use Rattle.model.specs.Runs.{Call, begin_for, step_for, withdraw_for, Reply, to_begin, to_step, to_withdraw, caller_of, after_call, Event, events}
use Rattle.model.specs.Holds.{Hold, wanted_by, waits_after}
use Rattle.theory.specs.Demands.{Start, start, sizes_of, Reached, book_reached, AtRest}

-- ---- Who waits, by the events alone

-- A step answered waiting.
unfoldable pub answers_waiting : Reply → Bool
answers_waiting (to_begin a) = false
answers_waiting (to_step (Ok StepAnswer.Waiting)) = true
answers_waiting (to_step (Ok StepAnswer.Moved)) = false
answers_waiting (to_step (Ok (StepAnswer.Done a s))) = false
answers_waiting (to_step (Err c)) = false
answers_waiting (to_withdraw a) = false

-- A step answered moved or done, or a withdraw accepted; a refused begin or withdraw ends no wait.
unfoldable pub ends_wait : Reply → Bool
ends_wait (to_begin a) = false
ends_wait (to_step a) = performs a
ends_wait (to_withdraw (Ok _)) = true
ends_wait (to_withdraw (Err c)) = false

-- Whether party p waits after an event, where it did (w) or did not before.
unfoldable pub waits_then : ℕ → Bool → Event → Bool
waits_then p w e =
    let mine = cond (ends_wait e.reply) false (w || answers_waiting e.reply) in
    cond (eqb (caller_of e.call) p) mine w

-- Whether it waits after a list of events.
unfoldable pub waits_on : ℕ → Bool → List Event → Bool
waits_on p w [] = w
waits_on p w (e ∷ es) = waits_on p (waits_then p w e) es

-- Whether it waits after all of them, nobody waiting before the first.
abbrev pub waits_after_events : ℕ → List Event → Bool
waits_after_events p es = waits_on p false es

-- Whether no event ends party p's wait.
unfoldable pub wait_stays : ℕ → List Event → Bool
wait_stays p [] = true
wait_stays p (e ∷ es) = not (eqb (caller_of e.call) p && ends_wait e.reply) && wait_stays p es

-- After the list, party p waits, and lock c is what its next step wants.
pub record WaitsFor (s : Start) (cs : List Call) (p : ℕ) (c : Claim) : Type 0 where
  pub waits : waits_after_events p (events (start s) cs) ≡ true
  pub wanted : wanted_by (sizes_of s) (Reached s cs) p ≡ some c

-- ---- Nobody overtaken

-- After cs p waits for c, and q (so another party) does not wait; in ds p's wait does not end. Then a step of q that
-- wants the same word in a mode that Table I keeps apart from c's is answered waiting.
pub record NobodyOvertaken (s : Start) (cs ds : List Call) (p q : ℕ) (c d : Claim) : Type 0 where
  pub waits_too : WaitsFor s cs p c → waits_after_events q (events (start s) cs) ≡ false → wait_stays p (events (Reached s cs) ds) ≡ true
      → wanted_by (sizes_of s) (Reached s (cs ++ ds)) q ≡ some d → d.word ≡ c.word → table_one d.mode c.mode ≡ false
      → (step_call (Reached s (cs ++ ds)) q).answer ≡ Ok StepAnswer.Waiting

-- What one waits for stays.
pub record SameWant (s : Start) (cs ds : List Call) (p : ℕ) (c : Claim) : Type 0 where
  pub same : WaitsFor s cs p c → wait_stays p (events (Reached s cs) ds) ≡ true → wanted_by (sizes_of s) (Reached s (cs ++ ds)) p ≡ some c

-- ---- Passed at most once

-- Whether a request is for c's word, in a mode that Table I keeps apart from c's.
unfoldable pub clashes : Claim → Option Claim → Bool
clashes c none = false
clashes c (some d) = eqb d.word c.word && not (table_one d.mode c.mode)

-- Whether a call is a grant that passes one who waits for c: a step answered moved that wanted such a lock.
unfoldable pub is_pass : Root → Claim → Memory → Call → Bool
is_pass z c m (begin_for q o k) = false
is_pass z c m (step_for q) = is_moved (step_call m q).answer && clashes c (wanted_by z m q)
is_pass z c m (withdraw_for q) = false

-- How many a list makes to party q.
unfoldable pub passes_by : Root → Claim → ℕ → Memory → List Call → ℕ
passes_by z c q m [] = 0
passes_by z c q m (x ∷ xs) = cond (is_pass z c m x && eqb (caller_of x) q) 1 0 + passes_by z c q (after_call m x) xs

-- How many it makes to all parties.
unfoldable pub passes_all : Root → Claim → Memory → List Call → ℕ
passes_all z c m [] = 0
passes_all z c m (x ∷ xs) = cond (is_pass z c m x) 1 0 + passes_all z c (after_call m x) xs

-- While p waits for c each other party passes it at most once, and at most Q - 1 grants do in all.
pub record PassedOnce (s : Start) (cs ds : List Call) (p : ℕ) (c : Claim) : Type 0 where
  pub once : WaitsFor s cs p c → wait_stays p (events (Reached s cs) ds) ≡ true → (q : ℕ) → passes_by (sizes_of s) c q (Reached s cs) ds ≤ 1
  pub in_all : WaitsFor s cs p c → wait_stays p (events (Reached s cs) ds) ≡ true → passes_all (sizes_of s) c (Reached s cs) ds + 1 ≤ (sizes_of s).parties

-- ---- The row is the ledger

-- The ledger of waits after a list.
unfoldable pub waits_at_end : Root → List Hold → Memory → List Call → List Hold
waits_at_end z ws m [] = ws
waits_at_end z ws m (c ∷ cs) = waits_at_end z (waits_after z ws m c) (after_call m c) cs

-- Its parties, each plus one.
unfoldable pub words_of_ledger : List Hold → List ℕ
words_of_ledger [] = []
words_of_ledger (w ∷ ws) = (w.party + 1) ∷ words_of_ledger ws

-- The ledger after a list from the start.
abbrev pub ledger_reached : Start → List Call → List Hold
ledger_reached s cs = waits_at_end (sizes_of s) [] (start s) cs

-- The row is the parties of the ledger, each plus one, first come first, then zeros.
pub record RowIsLedger (s : Start) (cs : List Call) : Type 0 where
  pub row_is : (Reached s cs).waiting ≡ words_of_ledger (ledger_reached s cs) ++ replicate ((sizes_of s).parties - length (ledger_reached s cs)) 0

-- ---- What a waiting call alters, and rest

-- A waiting call of one that waits alters nothing.
pub record WaitsAgain (s : Start) (cs : List Call) (p : ℕ) : Type 0 where
  pub again : waits_after_events p (events (start s) cs) ≡ true → (step_call (Reached s cs) p).answer ≡ Ok StepAnswer.Waiting → (step_call (Reached s cs) p).memory ≡ Reached s cs

-- Where nobody is under way the row is zero.
pub record RestsClear (s : Start) (cs : List Call) : Type 0 where
  pub clear : AtRest (book_reached s cs) → all_zero (Reached s cs).waiting ≡ true
