-- Every call, under the invariant, is a turn; so every list of calls has an order.
-- Main statements: step_turn (a call of step), begin_turn (a begin), withdraw_turn (a withdraw), call_turn; run_suffix (a list of calls).
use mathlib.Core.Path.{◌≡◌, refl, sym, ap, ◌∙◌, subst}
use mathlib.Core.Logic.{◌≢◌}
use mathlib.Core.Bool.{Bool, true, false, cond, false≢true}
use mathlib.Core.List.{List, [], ◌∷◌}
use mathlib.Core.Option.{Option, none, some}
use Prim.Native.Nat.{ℕ, ◌+◌, ◌<◌}
use native.Mathlib.Omega.{arith}
use lib.ListN.{length-set}
use lib.Dec.{eqb}
use Rattle.std.specs.Prelude.{Ok, Err}
use Rattle.model.proofs.Laws.Answers.{not_refused}
use Rattle.model.specs.declared.Refusal.{Refusal}
use Rattle.model.specs.declared.Party.{Party}
use Rattle.model.specs.declared.Operation.{Operation}
use Rattle.model.specs.declared.OperationAnswer.{OperationAnswer}
use Rattle.model.specs.declared.StepAnswer.{StepAnswer}
use Rattle.model.specs.Records.{idle, begun, at_step}
use Rattle.model.specs.Answers.{operation_number, answer_number, answer_of, performs, setting_given, StepReply, CallReply}
use Rattle.model.specs.declared.Entry.{Entry}
use Rattle.model.specs.Entries.{has_key}
use Rattle.model.specs.Pages.{with_page, page_sound, primary_page}
use Rattle.model.specs.Outcome.{View, Outcome, with_party, with_pages, moved, guarded}
use Rattle.model.specs.ScratchPages.{scratch_of, primary_written}
use Rattle.model.specs.Steps.Rebuild.{kept, changed, change_of}
use Rattle.model.specs.Steps.Write.{is_change, step11}
use Rattle.model.specs.Steps.Dispatch.{has_step, step_table, step_of}
use Rattle.model.specs.Memory.{Memory, party_at, view_of}
use Rattle.model.specs.Calls.{Called, called, stepped, step_call, with_begun, begin_call, withdraw_call, called_by}
use Rattle.model.specs.Runs.{Call, begin_for, step_for, withdraw_for, caller_of, to_begin, to_withdraw, reply_to, after_call, event_of, events, final_memory}
use Rattle.model.specs.Book.{Book, Entered, noted, note_at_eleven, with_entry, enter, note_for, after_reply, after_begin, after_withdraw, book_after, book_at_end, agrees_with}
use Rattle.theory.specs.Linearization.{entering, end_in, end_to, step_marks, marks}
use Rattle.model.specs.Withdraw.{is_decided}
use Rattle.model.proofs.Laws.Lists.{Ord, lt, ge, ord}
use Rattle.model.proofs.Invariant.Statement.{Written, unchanged, made_change, Busy, PartyOk, resting, working, Inv, scene_of}
use Rattle.model.proofs.Invariant.Facts.{At, facts_at_lem, changed_here, changed_elsewhere}
use Rattle.model.proofs.Theorems.RefusalOrder.{begin_order, step_order}
use Rattle.model.proofs.Theorems.Calls.{within_limits_lem, operation_some, record_sound_lem, lengths_fit_ok, root_sound_ok, party_sound_ok, call_kept, step_row}
use Rattle.model.proofs.Theorems.AllSteps.{steps_kept}
use Rattle.model.proofs.Steps.Withdraw.{left_by}
use Rattle.theory.proofs.Alters.{nothing_altered}
use Rattle.theory.proofs.Withdraws.{WithdrawTested, turned_away, let_through, withdraw_tested, WithdrawMet, stranger, unbegun, too_late, taken_back, withdraw_meets}
use Rattle.theory.proofs.Linearization.Ordering.{away, looking, unwithdrawn, Begun, Suffix, nothing_left}
use Rattle.theory.proofs.Linearization.Leads.{is_behind, is_past, past_decided, Passage, searches, at_six, at_ten, at_eleven, goes_on, Leads, stays, moves, ends, step_leads}
use Rattle.theory.proofs.Linearization.Turns.{Turn, still, begins, withdraws, turn_on}
use Rattle.theory.proofs.Linearization.Notes.{map_of, after_eleven}
use Rattle.theory.proofs.Linearization.StepTurns.{note_or, status_by, status_of, own_record, states_then, StepTurn, waits_turn, searches_turn, goes_on_turn, done_turn, six_turn, ten_turn, eleven_turn}

-- ---- Which operation, and whether 11 makes a change

-- A find has neither 10 nor 11.
not_find : (o : Operation) (n : ℕ) → has_step (operation_number Operation.Find) n ≡ false → has_step (operation_number o) n ≡ true → o ≢ Operation.Find
not_find o n h has i = false≢true (sym h ∙ ap (λ (x : Operation). has_step (operation_number x) n) (sym i) ∙ has)

find_only : (o : Operation) → operation_number o ≡ 1 → o ≡ Operation.Find
unfolding operation_number
find_only Operation.Find h = refl
find_only (Operation.Insert x) h = absurd (omega arith)
find_only Operation.Delete h = absurd (omega arith)

find_lacks_ten : has_step (operation_number Operation.Find) 10 ≡ false
unfolding has_step operation_number
find_lacks_ten = refl

find_lacks_eleven : has_step (operation_number Operation.Find) 11 ≡ false
unfolding has_step operation_number
find_lacks_eleven = refl

-- The answer of a chain changed is inserted or deleted.
changes_chain : (t u : Bool) (x y : List Entry) (a : ℕ) (es : List Entry)
    → cond t (cond u (kept (answer_number OperationAnswer.Present)) (changed (answer_number OperationAnswer.Inserted) x))
    (cond u (changed (answer_number OperationAnswer.Deleted) y) (kept (answer_number OperationAnswer.Absent)))
    ≡ changed a es → is_change a ≡ true
unfolding is_change answer_number
changes_chain true true x y a es h = absurd (let z : ◌≡◌ {A = ℕ} 0 1 = cc in omega arith)
changes_chain true false x y a es h = let z : 1 ≡ a = cc in rw (← z) refl
changes_chain false true x y a es h = let z : 3 ≡ a = cc in rw (← z) refl
changes_chain false false x y a es h = absurd (let z : ◌≡◌ {A = ℕ} 0 1 = cc in omega arith)

changed_is_change : (operation k x : ℕ) (es : List Entry) (a : ℕ) (xs : List Entry) → change_of operation k x es ≡ changed a xs → is_change a ≡ true
unfolding change_of
changed_is_change operation k x es a xs h = changes_chain (eqb operation 2) (has_key k es) _ _ a xs h

made_is_change : (t : Bool) → is_change (answer_number (answer_of (cond t 1 3))) ≡ true
unfolding is_change answer_number answer_of
made_is_change true = refl
made_is_change false = refl

-- 11 leaves the answer in the record.
eleven_keeps : (v : View) → (step_of 11 v).after.party.answer ≡ v.party.answer
unfolding step_of step_table step11 primary_written
eleven_keeps v = go (page_sound v.root (scratch_of v))
  where
    go : (t : Bool)
        → (guarded v t (moved (with_party (at_step 12 v.party) (with_pages (with_page v.pages (primary_page v.party.chain) (scratch_of v)) v)))).after.party.answer ≡ v.party.answer
    go true = refl
    go false = refl

abbrev note_in : Option Entered → Option OperationAnswer
note_in none = none
note_in (some e) = e.note

-- ---- A call of step

module _ (m : Memory) (b : Book) (i : Inv m b) (q : ℕ) (in_row : q < m.root.parties) (e : Entered) (busy : Busy (scene_of m i.ghost b) q (party_at m.parties q) e) where
  abbrev number : ℕ
  number = (party_at m.parties q).step

  abbrev out : Outcome
  out = step_of number (view_of m q)

  abbrev then : Memory
  then = (called_by m q out).memory

  abbrev book_then : Book
  book_then = after_reply b q number out.answer

  inv_then : Inv then book_then
  inv_then = (steps_kept m b i q in_row busy.step_fits).inv _ (step_row steps_kept m b i q in_row busy.step_fits _ refl)

  -- A find has neither 10 nor 11.
  no_find : (n : ℕ) → number ≡ n → has_step (operation_number Operation.Find) n ≡ false → e.operation ≢ Operation.Find
  no_find n h lacks = not_find e.operation n lacks (subst (λ (k : ℕ). has_step k n ≡ true) (sym busy.same_operation) (subst (λ (k : ℕ). has_step (party_at m.parties q).operation k ≡ true) h busy.step_fits))

  -- An 11 makes a change: the note is inserted or deleted.
  eleven_made : number ≡ 11 → out.answer ≡ Ok StepAnswer.Moved → out.after.number ≡ q → out.after.party.step ≡ 12
      → is_change (answer_number (note_at_eleven e.operation (has_key e.key b.contents))) ≡ true
  unfolding after_reply
  eleven_made k goes number= step= = written at_twelve.facts
    where
      a : OperationAnswer
      a = note_at_eleven e.operation (has_key e.key b.contents)

      was : At 11 (scene_of m i.ghost b) q (party_at m.parties q)
      was = facts_at_lem 10 (scene_of m i.ghost b) q (party_at m.parties q) k (i.parties_ok q in_row)

      changes : is_change (party_at m.parties q).answer ≡ true
      changes = changed_is_change _ _ _ _ _ was.facts.after was.facts.change

      own : party_at then.parties q ≡ out.after.party
      own = own_record m b i q in_row out.after number=

      same_answer_lem : (party_at then.parties q).answer ≡ (party_at m.parties q).answer
      same_answer_lem = ap (λ (p : Party). p.answer) own ∙ ap (λ (n : ℕ). (step_of n (view_of m q)).after.party.answer) k ∙ eleven_keeps (view_of m q)

      in_row_then : q < then.root.parties
      in_row_then = omega (arith, inv_then.parties_many, length-set m.parties out.after.number out.after.party, i.parties_many)

      at_twelve : At 12 (scene_of then inv_then.ghost book_then) q (party_at then.parties q)
      at_twelve = facts_at_lem 11 _ q (party_at then.parties q) (ap (λ (p : Party). p.step) own ∙ step=) (inv_then.parties_ok q in_row_then)

      entry_then : book_then.entries q ≡ some (noted e a)
      entry_then =
          ap (λ (x : StepReply). (after_reply b q number x).entries q) goes ∙ ap (λ (n : ℕ). (note_for b q (b.entries q) n).entries q) k
          ∙ ap (λ (c : Book). c.entries q) (after_eleven b q e busy.entry) ∙ changed_here b.entries q (some (noted e a)) q refl

      note_then : at_twelve.entered.note ≡ some a
      note_then = ap note_in (sym at_twelve.busy.entry ∙ entry_then)

      written : Written (scene_of then inv_then.ghost book_then) q (party_at then.parties q) at_twelve.entered → is_change (answer_number a) ≡ true
      written (unchanged _ not_change _ _) = absurd (false≢true (sym not_change ∙ ap is_change same_answer_lem ∙ changes))
      written (made_change l fits) =
          ap (λ (x : OperationAnswer). is_change (answer_number x)) (ap note_or (sym note_then ∙ l.noted))
          ∙ ap (λ (n : ℕ). is_change (answer_number (answer_of n))) l.made ∙ made_is_change (eqb (party_at then.parties q).operation 2)

  moves_turn : out.answer ≡ Ok StepAnswer.Moved → out.after.number ≡ q → Passage (party_at m.parties q).operation number out.after.party.step
      → StepTurn m b q (called (Ok StepAnswer.Moved) then)
  unfolding status_of
  moves_turn a n (searches was not_eleven now) = searches_turn m b i q in_row out.after n e busy.entry was not_eleven now
  moves_turn a n (at_six k find now) = six_turn m b i q in_row out.after n e busy.entry k (find_only e.operation (busy.same_operation ∙ find)) now
  moves_turn a n (at_ten k now) = ten_turn m b i q in_row out.after n e busy.entry k (no_find 10 k find_lacks_ten) now
  moves_turn a n (at_eleven k now) = eleven_turn m b i q in_row out.after n e busy.entry k (no_find 11 k find_lacks_eleven) (eleven_made k a n now) now
  moves_turn a n (goes_on was now) = goes_on_turn m b i q in_row out.after n e busy.entry was now

  performs_turn : step_call m q ≡ called out.answer then → Leads (view_of m q) number out → StepTurn m b q (step_call m q)
  unfolding status_of
  performs_turn x (stays p s) =
      let h : performs (step_call m q).answer ≡ false = ap (λ (c : Called StepReply). performs c.answer) x ∙ p in
      subst (λ (n : Memory). StepTurn m b q (called (step_call m q).answer n)) (sym (nothing_altered m q h)) (waits_turn m b q (step_call m q).answer h)
  performs_turn x (moves a n p) = subst (StepTurn m b q) (sym (x ∙ ap (λ (z : StepReply). called z then) a)) (moves_turn a n p)
  performs_turn x (ends y r a n z was) =
      let right = subst (λ (w : StepReply). agrees_with b q number w ≡ true) a (steps_kept m b i q in_row busy.step_fits).right in
      subst (StepTurn m b q) (sym (x ∙ ap (λ (w : StepReply). called w then) a)) (done_turn m b i q in_row out.after n e busy.entry y r was z right)

module _ (m : Memory) (b : Book) (i : Inv m b) (q : ℕ) where
  refused_turn : (n : Refusal) → step_call m q ≡ called (Err n) m → StepTurn m b q (step_call m q)
  unfolding performs
  refused_turn n x = subst (StepTurn m b q) (sym x) (waits_turn m b q (Err n) refl)

  pub step_turn : StepTurn m b q (step_call m q)
  unfolding stepped
  step_turn = go (ord q m.root.parties)
    where
      inside : q < m.root.parties → PartyOk (scene_of m i.ghost b) q (party_at m.parties q) → StepTurn m b q (step_call m q)
      inside h (resting e _ _ _) = refused_turn Refusal.Idle ((step_order m q).idle (within_limits_lem m.root i.limits) (lengths_fit_ok m b i) h (rw e refl))
      inside h (working e k f) =
          performs_turn m b i q h e k
          ((step_order m q).none (within_limits_lem m.root i.limits) (lengths_fit_ok m b i) h (operation_some e.operation (party_at m.parties q).operation k.same_operation)
          (record_sound_lem m.root (party_at m.parties q) (root_sound_ok m b i) (party_sound_ok m b i q h (party_at m.parties q) e k)) i.row_ok.sound)
          (step_leads (view_of m q))

      go : Ord q m.root.parties → StepTurn m b q (step_call m q)
      go (ge h t) = refused_turn Refusal.Party ((step_order m q).party (within_limits_lem m.root i.limits) (lengths_fit_ok m b i) h)
      go (lt h t) = inside h (i.parties_ok q h)

-- ---- A begin

-- A begin with this answer and memory is a turn.
abbrev pub BeginTurn : Memory → Book → ℕ → Operation → ℕ → Called CallReply → Type 0
BeginTurn m b q o k x =
    Turn (status_of m b) (map_of b) (record { call = begin_for q o k; number = (party_at m.parties q).step; reply = to_begin x.answer })
    (status_of x.memory (after_begin b q o k x.answer)) (map_of (after_begin b q o k x.answer))

module _ (m : Memory) (b : Book) (i : Inv m b) (q : ℕ) (o : Operation) (k : ℕ) where
  begin_refused_turn : (n : Refusal) → begin_call m q o k ≡ called (Err n) m → BeginTurn m b q o k (begin_call m q o k)
  unfolding after_begin entering end_to marks step_marks
  begin_refused_turn n x = subst (BeginTurn m b q o k) (sym x) (still (λ j es rest. refl) (λ p. refl) (λ p u l a h. refl) refl refl)

  abbrev view_then : View
  view_then = record { root = m.root; party = begun (operation_number o) k (setting_given o); number = q; locks = m.locks; pages = m.pages; behind = false }

  begun_turn : q < m.root.parties → b.entries q ≡ none → begin_call m q o k ≡ called (Ok tt) (with_begun m q o k) → BeginTurn m b q o k (begin_call m q o k)
  unfolding after_begin with_begun enter status_of is_behind
  begun_turn in_row was x =
      subst (BeginTurn m b q o k) (sym x)
      (begins q o k (party_at m.parties q).step refl (rw was refl)
      (states_then m b i q in_row view_then refl (enter b q o k) (looking o k) (λ p d. changed_elsewhere b.entries q _ p d)
      (ap (λ (y : Option Entered). status_by y (is_past view_then.party)) (changed_here b.entries q _ q refl)))
      refl)

  pub begin_turn : BeginTurn m b q o k (begin_call m q o k)
  begin_turn = go (ord q m.root.parties)
    where
      inside : q < m.root.parties → PartyOk (scene_of m i.ghost b) q (party_at m.parties q) → BeginTurn m b q o k (begin_call m q o k)
      inside h (working e c f) =
          begin_refused_turn Refusal.Busy
          ((begin_order m q o k).busy (within_limits_lem m.root i.limits) (lengths_fit_ok m b i) h (operation_some e.operation (party_at m.parties q).operation c.same_operation))
      inside h (resting e unentered _ _) = begun_turn h unentered ((begin_order m q o k).none (within_limits_lem m.root i.limits) (lengths_fit_ok m b i) h (rw e refl))

      go : Ord q m.root.parties → BeginTurn m b q o k (begin_call m q o k)
      go (ge h t) = begin_refused_turn Refusal.Party ((begin_order m q o k).party (within_limits_lem m.root i.limits) (lengths_fit_ok m b i) h)
      go (lt h t) = inside h (i.parties_ok q h)

-- ---- A withdraw

-- A withdraw with this answer and memory is a turn.
abbrev pub WithdrawTurn : Memory → Book → ℕ → Called CallReply → Type 0
WithdrawTurn m b q x =
    Turn (status_of m b) (map_of b) (record { call = withdraw_for q; number = (party_at m.parties q).step; reply = to_withdraw x.answer })
    (status_of x.memory (after_withdraw b q x.answer)) (map_of (after_withdraw b q x.answer))

module _ (m : Memory) (b : Book) (i : Inv m b) (q : ℕ) where
  withdraw_refused_turn : (n : Refusal) → withdraw_call m q ≡ called (Err n) m → WithdrawTurn m b q (withdraw_call m q)
  unfolding after_withdraw entering end_in marks step_marks
  withdraw_refused_turn n x =
      subst (WithdrawTurn m b q) (sym x) (still (λ j es rest. refl) (λ p. unwithdrawn q p (to_withdraw (Err n)) refl) (λ p u l a h. refl) refl refl)

  withdrawn_turn : q < m.root.parties → (e : Entered) → Busy (scene_of m i.ghost b) q (party_at m.parties q) e → is_decided (party_at m.parties q) ≡ false
      → (withdraw_call m q).answer ≡ Ok tt → WithdrawTested m q → WithdrawTurn m b q (withdraw_call m q)
  unfolding after_withdraw status_of
  withdrawn_turn in_row e k d a (turned_away n x) = absurd (not_refused tt n (sym a ∙ ap (λ (c : Called CallReply). c.answer) x))
  withdrawn_turn in_row e k d a (let_through xs _ _ _ _ x) =
      let past = past_decided (party_at m.parties q) k.step_fits ∙ d in
      subst (WithdrawTurn m b q) (sym x)
      (withdraws q e.operation e.key (party_at m.parties q).step refl (rw (k.entry, past) refl)
      (states_then m b i q in_row (left_by (view_of m q) xs) refl (with_entry b q none) away (λ p n. changed_elsewhere b.entries q none p n)
      (ap (λ (y : Option Entered). status_by y (is_past idle)) (changed_here b.entries q none q refl)))
      refl)

  pub withdraw_turn : WithdrawTurn m b q (withdraw_call m q)
  withdraw_turn = go (withdraw_meets m b i q)
    where
      go : WithdrawMet m b i q → WithdrawTurn m b q (withdraw_call m q)
      go (stranger h n e) = withdraw_refused_turn Refusal.Party e
      go (unbegun h n e) = withdraw_refused_turn Refusal.Idle e
      go (too_late h e k d c) = withdraw_refused_turn Refusal.Decided c
      go (taken_back h e k t d a) = withdrawn_turn h e k d a (withdraw_tested m q)

-- ---- A list of calls

pub call_turn : (m : Memory) (b : Book) → Inv m b → (c : Call)
    → Turn (status_of m b) (map_of b) (event_of m c) (status_of (after_call m c) (book_after b c (party_at m.parties (caller_of c)).step (reply_to m c)))
    (map_of (book_after b c (party_at m.parties (caller_of c)).step (reply_to m c)))
unfolding event_of reply_to after_call book_after
call_turn m b i (begin_for q o k) = begin_turn m b i q o k
call_turn m b i (step_for q) = step_turn m b i q
call_turn m b i (withdraw_for q) = withdraw_turn m b i q

pub run_suffix : (m : Memory) (b : Book) → Inv m b → (cs : List Call) (n : ℕ) (begun : ℕ → ℕ) → Begun n begun (status_of m b)
    → Suffix n begun (status_of m b) (map_of b) (events m cs) (status_of (final_memory m cs) (book_at_end b (events m cs))) (map_of (book_at_end b (events m cs)))
unfolding events final_memory book_at_end event_of
run_suffix m b i [] n begun g = nothing_left n begun (status_of m b) (map_of b)
run_suffix m b i (c ∷ cs) n begun g =
    let then = after_call m c in
    let book = book_after b c (party_at m.parties (caller_of c)).step (reply_to m c) in
    turn_on n begun (status_of m b) (map_of b) (event_of m c) (status_of then book) (map_of book) (events then cs) _ _ g
    (λ begun' g'. run_suffix then book (call_kept steps_kept m b i c).inv cs (n + 1) begun' g') (call_turn m b i c)
