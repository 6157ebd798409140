-- What stands left of an arrow in the demands is met.
-- Main statements: begin_met (at rest, every party's begin is accepted); withdraw_met (and its withdraw then), so
-- restored_met (all is then what it was before begin); rest_met (nobody is under way before the first call; nor after
-- an operation run alone, by RunSingly); begin_leaves, withdraw_leaves, step-leaves (the map); waits_met, stays_met, so
-- overtaken_met, want_met, passed_met, ledger_met, again_met (a party that waits). Formatted memory is a start
-- (formatted-start of TakenUp); that a list of operations is for parties that there are, and that memories differ on
-- shut pages, is in Refutations.
use mathlib.Core.Path.{◌≡◌, refl, ap, ◌∙◌}
use mathlib.Core.Logic.{◌≢◌}
use mathlib.Core.Bool.{true, false, cond, and-false}
use mathlib.Core.List.{List, [], ◌∷◌, ◌++◌}
use mathlib.Core.Option.{some}
use Prim.Native.Nat.{ℕ, ◌+◌, ◌≤◌, ◌<◌}
use native.Mathlib.Omega.{arith}
use Rattle.std.specs.Prelude.{Ok, Err}
use Rattle.model.specs.declared.Refusal.{Refusal}
use Rattle.model.specs.declared.Operation.{Operation}
use Rattle.model.specs.declared.StepAnswer.TheVariants as StepAnswer
use Rattle.model.specs.Sizes.{within_limits}
use Rattle.model.specs.Records.{begun}
use Rattle.model.specs.Answers.{operation_number, setting_given, performs, CallReply}
use Rattle.model.specs.Memory.{Memory, party_at}
use Rattle.model.specs.Withdraw.{is_decided}
use Rattle.model.specs.WaitingRow.{all_zero}
use Rattle.model.specs.Holds.{wanted_by}
use Rattle.model.specs.Calls.{Called, called, begin_call, with_begun, step_call, withdraw_call}
use Rattle.model.specs.Runs.{Call, begin_for, step_for, withdraw_for, Event, event_of, reply_to, after_call, events, final_memory}
use Rattle.model.specs.Book.{Book, changed_at, enter, after_begin, book_after, book_at_end}
use Rattle.model.specs.Progress.{is_entered, under_way}
use Rattle.theory.specs.Singly.{Wanted, steps_of}
use Rattle.theory.specs.Demands.{Start, start, sizes_of, book_start, Reached, book_reached, AtRest}
use Rattle.theory.specs.Withdrawals.{calls_begun, calls_withdrawn, at_withdraw, record_there, MapStays, WithdrawalsRight}
use Rattle.theory.specs.Overtaking.{wait_stays, WaitsFor, NobodyOvertaken, SameWant, passes_by, passes_all, PassedOnce, RowIsLedger, WaitsAgain, RestsClear}
use Rattle.model.proofs.Laws.Lists.{eqb_same, eqb-diff}
use Rattle.model.proofs.Effects.Kept.{row_same}
use Rattle.model.proofs.Theorems.Meanings.{decided_find, decided_insert, decided_delete}
use Rattle.theory.proofs.Reached.{reached_inv, final_append}
use Rattle.theory.proofs.SizesStay.{reached_limits}
use Rattle.theory.proofs.Singly.Given.{start_rests}
use Rattle.theory.proofs.Singly.Run.{begins}
use Rattle.theory.proofs.Restored.{restored}
use Rattle.theory.proofs.TakenUp.{formatted-start}
use Rattle.theory.proofs.Refutations.Opened.{opened}
use Rattle.theory.proofs.Refutations.Events.{writes_begin, writes-step, writes_withdraw}
use Rattle.theory.proofs.Refutations.Overtaking.{sizes, early, chain, waited}

-- ---- The book after two lists of calls

events_append : (m : Memory) (cs ds : List Call) → events m (cs ++ ds) ≡ events m cs ++ events (final_memory m cs) ds
unfolding events final_memory
events_append m [] ds = refl
events_append m (c ∷ cs) ds = ap (λ (es : List Event). event_of m c ∷ es) (events_append (after_call m c) cs ds)

book_append : (b : Book) (es fs : List Event) → book_at_end b (es ++ fs) ≡ book_at_end (book_at_end b es) fs
unfolding book_at_end
book_append b [] fs = refl
book_append b (e ∷ es) fs = book_append (book_after b e.call e.number e.reply) es fs

-- ---- At rest

-- An operation just begun has not taken its decisive step.
begun_undecided : (o : Operation) (k x : ℕ) → is_decided (begun (operation_number o) k x) ≡ false
unfolding operation_number
begun_undecided Operation.Find k x = decided_find (begun 1 k x) refl
begun_undecided (Operation.Insert y) k x = decided_insert (begun 2 k x) refl
begun_undecided Operation.Delete k x = decided_delete (begun 3 k x) refl

pub rest_met : (s : Start) → AtRest (book_reached s [])
rest_met s = start_rests s

module _ (s : Start) (cs : List Call) (rest : AtRest (book_reached s cs)) (x : Wanted) (fits : x.party < (sizes_of s).parties) where
  abbrev m : Memory
  m = Reached s cs

  in_row : x.party < (Reached s cs).root.parties
  in_row = omega (arith, (reached_limits s cs).parties=)

  pub begin_met : begin_call (Reached s cs) x.party x.operation x.key ≡ called (Ok tt) (with_begun (Reached s cs) x.party x.operation x.key)
  begin_met = begins m (book_reached s cs) (reached_inv s cs) rest x.party in_row x.operation x.key

  begun_memory : at_withdraw s cs x 0 ≡ with_begun (Reached s cs) x.party x.operation x.key
  unfolding steps_of final_memory after_call
  begun_memory = final_append (start s) cs (calls_begun x 0) ∙ ap (λ (c : Called CallReply). c.memory) begin_met

  -- It is then under way, and may be withdrawn.
  under_way_then : under_way (book_reached s (cs ++ calls_begun x 0)) x.party ≡ true
  unfolding steps_of events book_at_end event_of reply_to book_after after_begin enter under_way changed_at is_entered
  under_way_then =
      ap (λ (es : List Event). under_way (book_at_end (book_start s) es) x.party) (events_append (start s) cs (calls_begun x 0))
      ∙ ap (λ (b : Book). under_way b x.party) (book_append (book_start s) (events (start s) cs) (events m (calls_begun x 0)))
      ∙ ap (λ (c : Called CallReply). under_way (after_begin (book_reached s cs) x.party x.operation x.key c.answer) x.party) begin_met
      ∙ rw (eqb_same x.party x.party refl) refl

  undecided : is_decided (record_there s cs x 0) ≡ false
  unfolding with_begun
  undecided =
      ap (λ (u : Memory). is_decided (party_at u.parties x.party)) begun_memory
      ∙ ap is_decided (row_same m.parties x.party (begun (operation_number x.operation) x.key (setting_given x.operation)) (omega (arith, (reached_inv s cs).parties_many, in_row)))
      ∙ begun_undecided x.operation x.key (setting_given x.operation)

  pub withdraw_met : (withdraw_call (at_withdraw s cs x 0) x.party).answer ≡ Ok tt
  withdraw_met = (restored s cs x 0).accepted under_way_then ∙ ap (λ b. cond b (Err Refusal.Decided) (Ok tt)) undecided

  pub restored_met : Reached s (cs ++ calls_withdrawn x 0) ≡ Reached s cs
  restored_met = (restored s cs x 0).restored (ap (λ (c : Called CallReply). c.answer) begin_met) withdraw_met

-- ---- Calls that leave the map

module _ (s : Start) (cs : List Call) (w : WithdrawalsRight s cs) (q : ℕ) where
  pub begin_leaves : (o : Operation) (k : ℕ) → MapStays s cs (begin_for q o k)
  begin_leaves o k = w.map-stays (begin_for q o k) (writes_begin (Reached s cs) q o k)

  pub withdraw_leaves : MapStays s cs (withdraw_for q)
  withdraw_leaves = w.map-stays (withdraw_for q) (writes_withdraw (Reached s cs) q)

  -- Every step but 11.
  pub step-leaves : (party_at (Reached s cs).parties q).step ≢ 11 → MapStays s cs (step_for q)
  step-leaves d =
      w.map-stays (step_for q)
      (writes-step (Reached s cs) q ∙ rw (eqb-diff (party_at (Reached s cs).parties q).step 11 d) (and-false (performs (step_call (Reached s cs) q).answer)))

-- ---- Somebody waits: the run of Refutations/Overtaking, from formatted memory

three_fit : within_limits sizes ≡ true
unfolding opened
three_fit = refl

abbrev three : Start
three = formatted-start (record { originals = 1; capacity = 1; primaries = 1; overflow = 0; parties = 3; fit = three_fit })

-- Party 1 waits for the chain; then party 0 gives it up.
abbrev up_to : List Call
up_to = early ++ waited

abbrev release : List Call
release = withdraw_for 0 ∷ []

waits_met : WaitsFor three up_to 1 chain
unfolding opened formatted-start
waits_met = record { waits = refl; wanted = refl }

stays_met : wait_stays 1 (events (Reached three up_to) release) ≡ true
unfolding opened formatted-start
stays_met = refl

overtaken_met : NobodyOvertaken three up_to release 1 2 chain chain → (step_call (Reached three (up_to ++ release)) 2).answer ≡ Ok StepAnswer.Waiting
unfolding opened formatted-start
overtaken_met n = n.waits_too waits_met refl stays_met refl refl refl

want_met : SameWant three up_to release 1 chain → wanted_by (sizes_of three) (Reached three (up_to ++ release)) 1 ≡ some chain
want_met w = w.same waits_met stays_met

passed_met : PassedOnce three up_to release 1 chain
    → (passes_by (sizes_of three) chain 2 (Reached three up_to) release ≤ 1) × (passes_all (sizes_of three) chain (Reached three up_to) release + 1 ≤ (sizes_of three).parties)
passed_met p = (p.once waits_met stays_met 2, p.in_all waits_met stays_met)

ledger_met : RowIsLedger three up_to → (Reached three up_to).waiting ≡ 2 ∷ 0 ∷ 0 ∷ []
unfolding opened formatted-start
ledger_met r = r.row_is

again_met : WaitsAgain three up_to 1 → (step_call (Reached three up_to) 1).memory ≡ Reached three up_to
unfolding opened formatted-start
again_met w = w.again waits_met.waits refl

pub clear_met : (s : Start) → RestsClear s [] → all_zero (start s).waiting ≡ true
unfolding final_memory
clear_met s r = r.clear (rest_met s)
