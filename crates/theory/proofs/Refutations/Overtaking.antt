-- Who waits, and who passes: made-up events, and a short run from formatted memory in which Table I alone would grant a
-- lock while an earlier request waits.
-- Main statements: wait_begins to wait_of_another, moved_ends to other-ends (who waits, by the events); arrived,
-- nobody-waits (the run up to the first wait); second_waits, third_wants, table-permits, third_held_back, row_then,
-- second_moves (nobody overtaken); not_waiting, earlier_waiting, wait_ended, other_word, both_read (each premise left
-- out: granted); conflict_told, reader_told, other_told, idle_told (what clashes); passed_twice, passed_by_each,
-- moved_unpassed (how often one is passed); ledger_told, row_told.
use mathlib.Core.Path.{◌≡◌, refl}
use mathlib.Core.Bool.{Bool, true, false, ◌||◌}
use mathlib.Core.List.{List, [], ◌∷◌, ◌++◌}
use mathlib.Core.Option.{Option, none, some}
use Prim.Native.Nat.{ℕ}
use lib.ListN.{get_or, replicate}
use Rattle.std.specs.Prelude.{Ok, Err}
use Rattle.model.specs.declared.Refusal.{Refusal}
use Rattle.model.specs.Answers.{StepReply}
use Rattle.model.specs.declared.Root.{Root}
use Rattle.model.specs.declared.Mode.TheVariants.{Read, Selective, Exclusive}
use Rattle.model.specs.declared.Operation.TheVariants as Operation
use Rattle.model.specs.declared.OperationAnswer.TheVariants as OperationAnswer
use Rattle.model.specs.declared.Restructuring.TheVariants as Restructuring
use Rattle.model.specs.declared.StepAnswer.{StepAnswer}
use Rattle.model.specs.Records.{root_of_sizes, begun, at_step, insert_operation}
use Rattle.model.specs.LockWords.{Claim, claim, permits}
use Rattle.model.specs.Memory.{Memory, formatted}
use Rattle.model.specs.Calls.{step_call}
use Rattle.model.specs.Runs.{Call, begin_for, step_for, withdraw_for, Reply, to_begin, to_step, to_withdraw, Event, events, final_memory}
use Rattle.model.specs.Holds.{hold, wanted_by}
use Rattle.theory.specs.Overtaking.{answers_waiting, waits_on, wait_stays, clashes, passes_by, passes_all, waits_at_end, words_of_ledger}
use Rattle.theory.proofs.Refutations.Opened.{opened}

-- ---- Who waits, by the events

abbrev told : Call → Reply → Event
told c a = record { call = c; number = 4; reply = a }

abbrev stepped : ℕ → StepReply → Event
stepped q a = told (step_for q) (to_step a)

abbrev waiting : ℕ → Event
waiting q = stepped q (Ok StepAnswer.Waiting)

abbrev is_done : StepReply
is_done = Ok (StepAnswer.Done OperationAnswer.Absent Restructuring.None)

-- Whether party 1 waits after a waiting step of its own and one event more.
abbrev still_waits : Event → Bool
still_waits e = waits_on 1 false (waiting 1 ∷ e ∷ [])

wait_begins : waits_on 1 false (waiting 1 ∷ []) ≡ true
unfolding opened
wait_begins = refl

wait_of_another : waits_on 1 false (waiting 2 ∷ []) ≡ false
unfolding opened
wait_of_another = refl

moved_ends : still_waits (stepped 1 (Ok StepAnswer.Moved)) ≡ false
unfolding opened
moved_ends = refl

done_ends : still_waits (stepped 1 is_done) ≡ false
unfolding opened
done_ends = refl

withdrawn_ends : still_waits (told (withdraw_for 1) (to_withdraw (Ok tt))) ≡ false
unfolding opened
withdrawn_ends = refl

-- A refused call ends no wait, nor does another waiting call, nor what is another's.
refused_ends_not : still_waits (told (withdraw_for 1) (to_withdraw (Err Refusal.Decided))) ≡ true
unfolding opened
refused_ends_not = refl

begun_ends_not : still_waits (told (begin_for 1 Operation.Find 5) (to_begin (Err Refusal.Busy))) ≡ true
unfolding opened
begun_ends_not = refl

step_ends_not : still_waits (stepped 1 (Err Refusal.Damage)) ≡ true
unfolding opened
step_ends_not = refl

again_ends_not : still_waits (waiting 1) ≡ true
unfolding opened
again_ends_not = refl

other_ends_not : still_waits (stepped 2 (Ok StepAnswer.Moved)) ≡ true
unfolding opened
other_ends_not = refl

-- The same of a list in which a wait does not end.
stays_on : wait_stays 1 (waiting 1 ∷ stepped 2 (Ok StepAnswer.Moved) ∷ []) ≡ true
unfolding opened
stays_on = refl

stays-not : wait_stays 1 (waiting 1 ∷ stepped 1 (Ok StepAnswer.Moved) ∷ []) ≡ false
unfolding opened
stays-not = refl

-- ---- A run: party 0 takes the one chain, parties 1 and 2 come to it

abbrev pub sizes : Root
sizes = root_of_sizes 1 1 1 0 3

abbrev inserts : ℕ → ℕ → List Call
inserts q k = begin_for q (Operation.Insert 9) k ∷ step_for q ∷ step_for q ∷ step_for q ∷ []

abbrev pub early : List Call
early = inserts 0 5 ++ (step_for 0 ∷ inserts 1 6) ++ inserts 2 7

-- What it leaves: all three hold the root, party 0 the chain, selectively, which the others want.
abbrev there : Memory
there = record {
  root = sizes;
  parties = at_step 5 (begun insert_operation 5 9) ∷ at_step 4 (begun insert_operation 6 9) ∷ at_step 4 (begun insert_operation 7 9) ∷ [];
  locks = 7 ∷ 65536 ∷ [];
  pages = replicate 64 0;
  waiting = 0 ∷ 0 ∷ 0 ∷ [];
}

arrived : final_memory (formatted sizes) early ≡ there
unfolding opened
arrived = refl

abbrev some_waits : List Event → Bool
some_waits [] = false
some_waits (e ∷ es) = answers_waiting e.reply || some_waits es

nobody-waits : some_waits (events (formatted sizes) early) ≡ false
unfolding opened
nobody-waits = refl

-- ---- Nobody overtaken

-- The answer to party q's step after these calls.
abbrev answer_after : List Call → ℕ → StepReply
answer_after cs q = (step_call (final_memory there cs) q).answer

abbrev want_after : List Call → ℕ → Option Claim
want_after cs q = wanted_by sizes (final_memory there cs) q

abbrev pub chain : Claim
chain = claim 1 Selective

-- Party 1 waits, then party 0 gives its locks up.
abbrev pub waited : List Call
waited = step_for 1 ∷ []

abbrev freed : List Call
freed = step_for 1 ∷ withdraw_for 0 ∷ []

second_waits : waits_on 1 false (events there waited) ≡ true
unfolding opened
second_waits = refl

second_wants : want_after waited 1 ≡ some chain
unfolding opened
second_wants = refl

third_wants : want_after freed 2 ≡ some chain
unfolding opened
third_wants = refl

wait_stays_lem : wait_stays 1 (events (final_memory there waited) (withdraw_for 0 ∷ [])) ≡ true
unfolding opened
wait_stays_lem = refl

-- Table I permits party 2's request: nobody holds the chain. Yet it waits, and the row has both, first come first.
table-permits : permits (get_or (final_memory there freed).locks 1 0) Selective ≡ true
unfolding opened
table-permits = refl

third_held_back : answer_after freed 2 ≡ Ok StepAnswer.Waiting
unfolding opened
third_held_back = refl

row_then : (final_memory there (freed ++ (step_for 2 ∷ []))).waiting ≡ 2 ∷ 3 ∷ 0 ∷ []
unfolding opened
row_then = refl

second_moves : answer_after (freed ++ (step_for 2 ∷ [])) 1 ≡ Ok StepAnswer.Moved
unfolding opened
second_moves = refl

-- ---- Each premise left out: then it is granted

-- Party 1 wants the chain and does not wait.
not_waiting : answer_after (withdraw_for 0 ∷ []) 2 ≡ Ok StepAnswer.Moved
unfolding opened
not_waiting = refl

-- Party 1 waited before party 2 did.
earlier_waiting : answer_after (step_for 1 ∷ step_for 2 ∷ withdraw_for 0 ∷ []) 1 ≡ Ok StepAnswer.Moved
unfolding opened
earlier_waiting = refl

-- Party 1's wait ends.
wait_ended : answer_after (freed ++ (withdraw_for 1 ∷ [])) 2 ≡ Ok StepAnswer.Moved
unfolding opened
wait_ended = refl

-- Party 2 begins anew, and wants the root.
abbrev anew : List Call
anew = freed ++ (withdraw_for 2 ∷ begin_for 2 Operation.Find 7 ∷ [])

other_wanted : want_after anew 2 ≡ some (claim 0 Read)
unfolding opened
other_wanted = refl

other_word : answer_after anew 2 ≡ Ok StepAnswer.Moved
unfolding opened
other_word = refl

-- Then it comes to the chain, to read, which Table I grants beside a selective lock.
abbrev reading : List Call
reading = anew ++ (step_for 2 ∷ step_for 2 ∷ step_for 2 ∷ [])

reader_wants : want_after reading 2 ≡ some (claim 1 Read)
unfolding opened
reader_wants = refl

reader_passes : answer_after reading 2 ≡ Ok StepAnswer.Moved
unfolding opened
reader_passes = refl

-- ---- Passed at most once

conflict_told : clashes chain (some (claim 1 Exclusive)) ≡ true
unfolding opened
conflict_told = refl

reader_told : clashes chain (some (claim 1 Read)) ≡ false
unfolding opened
reader_told = refl

other_told : clashes chain (some (claim 2 Selective)) ≡ false
unfolding opened
other_told = refl

idle_told : clashes chain none ≡ false
unfolding opened
idle_told = refl

-- Party 0 comes back while party 1 waits; so both stand before party 2, and both pass it: as many as there can be.
abbrev returned : Memory
returned = final_memory there (freed ++ inserts 0 5 ++ (step_for 0 ∷ step_for 2 ∷ []))

abbrev passing : List Call
passing = step_for 1 ∷ step_for 1 ∷ withdraw_for 1 ∷ step_for 2 ∷ step_for 0 ∷ []

all_wait : returned.waiting ≡ 2 ∷ 1 ∷ 3 ∷ []
unfolding opened
all_wait = refl

passed_twice : passes_all sizes chain returned passing ≡ 2
unfolding opened
passed_twice = refl

passed_by_each : passes_by sizes chain 0 returned passing ∷ passes_by sizes chain 1 returned passing ∷ passes_by sizes chain 2 returned passing ∷ [] ≡ 1 ∷ 1 ∷ 0 ∷ []
unfolding opened
passed_by_each = refl

-- Of a lock of another word they pass nobody.
moved_unpassed : passes_all sizes (claim 2 Selective) returned passing ≡ 0
unfolding opened
moved_unpassed = refl

-- ---- The ledger of waits

ledger_told : waits_at_end sizes [] there (freed ++ (step_for 2 ∷ [])) ≡ hold 1 chain ∷ hold 2 chain ∷ []
unfolding opened
ledger_told = refl

row_told : words_of_ledger (hold 1 chain ∷ hold 2 chain ∷ []) ≡ 2 ∷ 3 ∷ []
unfolding opened
row_told = refl
