-- A withdraw restores all (specs/Withdrawals.antt): after a list of calls, a begin, and steps of its party alone, an
-- accepted withdraw leaves each lent word what it was before begin; it is accepted until the decisive step is taken.
-- One induction over the steps: what a withdraw leaves after a step is what it leaves before it, as long as the
-- decisive step is not taken (crate model, proofs/Withdrawing).
-- Main statements: Revocable (where a party stands after its begin), step_revocable, steps_revocable; restored.
use mathlib.Core.Path.{◌≡◌, refl, sym, ap, ◌∙◌, subst}
use mathlib.Core.Logic.{◌≢◌, ◌⊎◌, inl, inr}
use mathlib.Core.Bool.{Bool, true, false, cond, ◌||◌, and-false, false≢true}
use mathlib.Core.List.{List, [], ◌∷◌, ◌++◌}
use Prim.Native.Nat.{ℕ, zero, suc, ◌≤◌, ◌<◌}
use native.Mathlib.Omega.{arith}
use lib.ListN.{get_or-eq_default}
use lib.Dec.{eqb}
use Rattle.std.specs.Prelude.{Ok, Err}
use Rattle.model.proofs.Laws.Answers.{not_refused}
use Rattle.model.specs.declared.Refusal.{Refusal}
use Rattle.model.specs.WaitingRow.{row_without}
use Rattle.model.specs.declared.Party.{Party}
use Rattle.model.specs.declared.Operation.{Operation}
use Rattle.model.specs.Records.{idle}
use Rattle.model.specs.Entries.{has_key}
use Rattle.model.specs.Pages.{page_of, link_of, entries_of, linked_page, page_sound}
use Rattle.model.specs.Answers.{performs, StepReply, CallReply}
use Rattle.model.specs.Outcome.{View, Outcome, guarded}
use Rattle.model.specs.LockRequests.{held_all, chain_lock}
use Rattle.model.specs.ScratchPages.{scratch_of}
use Rattle.model.specs.Memory.{Memory, party_at, view_of, after_step, with_waiting}
use Rattle.model.specs.Withdraw.{is_decided}
use Rattle.model.specs.Calls.{Called, called, stepped, step_call, begin_call, withdraw_call}
use Rattle.model.specs.Runs.{Call, begin_for, step_for, withdraw_for, after_call, final_memory}
use Rattle.model.specs.Book.{Book, Entered, book_after}
use Rattle.model.specs.Refusals.{lengths_fit}
use Rattle.model.specs.Sizes.{within_limits}
use Rattle.model.specs.Progress.{under_way}
use Rattle.model.specs.Steps.Find.{answered, looked_on, step09}
use Rattle.model.specs.Steps.Dispatch.{has_step, step_table, step_of}
use Rattle.theory.specs.Singly.{Wanted, steps_of}
use Rattle.theory.specs.Demands.{Start, start, Reached, book_reached}
use Rattle.theory.specs.Withdrawals.{calls_begun, calls_withdrawn, at_withdraw, record_there, Restored}
use Rattle.model.proofs.Laws.Lists.{Ord, lt, ge, ord, Cmp, same, diff, cmp, cond_ind, not-both, eqb-diff, lt-leb}
use Rattle.model.proofs.Invariant.Statement.{Busy, facts_at, PartyOk, resting, working, Inv, scene_of}
use Rattle.model.proofs.Invariant.Turn.{Turn}
use Rattle.model.proofs.Effects.Kept.{row_same}
use Rattle.model.proofs.Theorems.RefusalOrder.{begin_order}
use Rattle.model.proofs.Theorems.Gate.{undecided, withdraw_ready}
use Rattle.model.proofs.Theorems.Calls.{within_limits_lem, lengths_fit_ok, operation_some, call_kept}
use Rattle.model.proofs.Theorems.AllSteps.{steps_kept}
use Rattle.model.proofs.Withdrawing.Undone.{undone_built, decided_late, decided_ninth}
use Rattle.model.proofs.Withdrawing.Memory.{undone_memory, begun_undone, StepUndone, decided, same_left, step_undone, row_undone, row-only_undone}
use Rattle.theory.proofs.Reached.{reached_inv, final_append}
use Rattle.theory.proofs.LockTrades.{step_trades}
use Rattle.theory.proofs.Alters.{nothing_altered}
use Rattle.theory.proofs.UnderWay.{unentered_under, Met, no_party, nothing-begun, under_way_lem, meets}
use Rattle.theory.proofs.Withdraws.{WithdrawTested, turned_away, let_through, withdraw_tested, WithdrawMet, stranger, unbegun, too_late, taken_back, withdraw_meets}
use Rattle.theory.proofs.Later.{Later, stays, goes, ends, later_at}

-- Where party q stands in memory m after its begin, which met the memory m₀: its operation is over, the decisive step
-- is taken, or a withdraw leaves m₀.
pub data Revocable (m₀ m : Memory) (q : ℕ) : Type 0 where
  over : party_at m.parties q ≡ idle → Revocable m₀ m q
  past : is_decided (party_at m.parties q) ≡ true → Revocable m₀ m q
  leads_back : undone_memory m q ≡ m₀ → Revocable m₀ m q

-- ---- By the step number

-- Before it the decisive step is not taken.
early_undecided : (p : Party) → p.step < 12 → p.step ≢ 9 → is_decided p ≡ false
unfolding is_decided
early_undecided p l n = rw (eqb-diff p.step 9 n, lt-leb 12 p.step l, and-false (eqb p.operation 1)) (and-false (eqb p.operation 2 || eqb p.operation 3))

-- A record is the zero record, or its operation has its step.
rests_or_steps : (m : Memory) (b : Book) → Inv m b → (q : ℕ) → (party_at m.parties q ≡ idle) ⊎ (has_step (party_at m.parties q).operation (party_at m.parties q).step ≡ true)
rests_or_steps m b i q = go (meets m b i q)
  where
    go : Met m b i q → (party_at m.parties q ≡ idle) ⊎ (has_step (party_at m.parties q).operation (party_at m.parties q).step ≡ true)
    go (no_party h _ _ _) = inl (get_or-eq_default m.parties idle (omega (arith, i.parties_many, h)))
    go (nothing-begun _ e _ _ _) = inl e
    go (under_way_lem _ _ k _ _) = inr k.step_fits

-- 9 keeps the record, or ends.
data Ninth (v : View) (o : Outcome) : Type 0 where
  keeps : o.after.party ≡ v.party → Ninth v o
  finishes : o.after.party ≡ idle → Ninth v o

ninth : (v : View) → Ninth v (step09 v)
unfolding step09 answered looked_on
ninth v =
    guarded_ninth (page_sound v.root (scratch_of v))
    (cond_ind (Ninth v) (has_key v.party.key (entries_of (scratch_of v))) _ _ (λ _. guarded_ninth (held_all v (chain_lock v.party ∷ [])) (finishes refl))
    (λ _. cond_ind (Ninth v) (eqb (link_of (scratch_of v)) 0) _ _ (λ _. guarded_ninth (held_all v (chain_lock v.party ∷ [])) (finishes refl))
    (λ _. guarded_ninth (page_sound v.root (page_of v.pages (linked_page (link_of (scratch_of v))))) (keeps refl))))
  where
    guarded_ninth : {o : Outcome} (t : Bool) → Ninth v o → Ninth v (guarded v t o)
    guarded_ninth true x = x
    guarded_ninth false x = keeps refl

-- ---- One step

module _ (m₀ m : Memory) (b : Book) (i : Inv m b) (q : ℕ) where
  -- A call that leaves all.
  stays_put : (step_call m q).memory ≡ m → Revocable m₀ m q → Revocable m₀ (step_call m q).memory q
  stays_put e x = subst (λ (t : Memory). Revocable m₀ t q) (sym e) x

  -- One that leaves all but the row, and the row but for the party.
  stays-row : (row : List ℕ) → row_without q row ≡ row_without q m.waiting → Revocable m₀ m q → Revocable m₀ (with_waiting row m) q
  stays-row row s (over e) = over e
  stays-row row s (past d) = past d
  stays-row row s (leads_back u) = leads_back (row-only_undone m q row s ∙ u)

  module _ (in_row : q < m.root.parties) (e : Entered) (k : Busy (scene_of m i.ghost b) q (party_at m.parties q) e)
      (f : facts_at (party_at m.parties q).step (scene_of m i.ghost b) q (party_at m.parties q) e) (call : step_call m q ≡ stepped m q) where
    abbrev number : ℕ
    number = (party_at m.parties q).step

    abbrev out : Outcome
    out = step_of (party_at m.parties q).step (view_of m q)

    turn : Turn m b q number
    turn = record { inv = i; in_row = in_row; is_at = refl; entered = e; busy = k; facts = f }

    -- The record then.
    record_then : party_at (step_call m q).memory.parties q ≡ out.after.party
    unfolding stepped
    record_then =
        ap (λ (c : Called StepReply). party_at c.memory.parties q) call
        ∙ rw (step_trades number (view_of m q) refl k.step_fits).number= (row_same m.parties q out.after.party (omega (arith, i.parties_many)))

    -- At or behind the decisive step then, whatever the operation.
    then_past : (12 ≤ out.after.party.step) ⊎ (out.after.party.step ≡ 9) → Revocable m₀ (step_call m q).memory q
    unfolding after_call book_after
    then_past h = go (rests_or_steps (step_call m q).memory _ (call_kept steps_kept m b i (step_for q)).inv q) h
      where
        go : (party_at (step_call m q).memory.parties q ≡ idle) ⊎ (has_step (party_at (step_call m q).memory.parties q).operation (party_at (step_call m q).memory.parties q).step ≡ true)
            → (12 ≤ out.after.party.step) ⊎ (out.after.party.step ≡ 9) → Revocable m₀ (step_call m q).memory q
        go (inl s) x = over s
        go (inr s) (inl l) = past (decided_late (party_at (step_call m q).memory.parties q) s (omega (arith, l, ap (λ (p : Party). p.step) record_then)))
        go (inr s) (inr n) = past (decided_ninth (party_at (step_call m q).memory.parties q) s (ap (λ (p : Party). p.step) record_then ∙ n))

    from_eleven : 11 ≤ number → Revocable m₀ m q → Revocable m₀ (step_call m q).memory q
    unfolding stepped
    from_eleven l x = go (later_at number l (view_of m q))
      where
        go : Later (view_of m q) out → Revocable m₀ (step_call m q).memory q
        go (stays n) =
            subst (λ (t : Memory). Revocable m₀ t q) (sym (nothing_altered m q (ap (λ (c : Called StepReply). performs c.answer) call ∙ n)))
            (stays-row _ (row_undone turn (step_call m q).answer (sym (ap (λ (c : Called StepReply). c.answer) call))) x)
        go (goes _ h _) = then_past (inl h)
        go (ends _ _ s) = over (record_then ∙ s)

    at_nine : number ≡ 9 → Revocable m₀ (step_call m q).memory q
    unfolding step_of step_table
    at_nine n = go (subst (λ (j : ℕ). Ninth (view_of m q) (step_of j (view_of m q))) (sym n) (ninth (view_of m q)))
      where
        go : Ninth (view_of m q) out → Revocable m₀ (step_call m q).memory q
        go (keeps s) = then_past (inr (ap (λ (p : Party). p.step) s ∙ n))
        go (finishes s) = over (record_then ∙ s)

    before_eleven : number < 11 → number ≢ 9 → Revocable m₀ m q → Revocable m₀ (step_call m q).memory q
    before_eleven l n (over s) = absurd (operation_some e.operation (party_at m.parties q).operation k.same_operation (ap (λ (p : Party). p.operation) s))
    before_eleven l n (past d) = absurd (not-both (is_decided (party_at m.parties q)) d (early_undecided (party_at m.parties q) (omega arith) n))
    before_eleven l n (leads_back u) = subst (λ (c : Called StepReply). Revocable m₀ c.memory q) (sym call) (go (step_undone turn l n))
      where
        go : StepUndone m (stepped m q).memory q → Revocable m₀ (stepped m q).memory q
        go (decided d) = past d
        go (same_left s) = leads_back (s ∙ u)

    steps_on : Revocable m₀ m q → Revocable m₀ (step_call m q).memory q
    steps_on x = go (ord number 11) (cmp number 9)
      where
        go : Ord number 11 → Cmp number 9 → Revocable m₀ (step_call m q).memory q
        go (ge h _) n = from_eleven h x
        go (lt h _) (same s) = at_nine s
        go (lt h _) (diff d) = before_eleven h d x

  pub step_revocable : Revocable m₀ m q → Revocable m₀ (step_call m q).memory q
  step_revocable x = go (meets m b i q)
    where
      go : Met m b i q → Revocable m₀ (step_call m q).memory q
      go (no_party _ _ _ c) = stays_put (ap (λ (y : Called StepReply). y.memory) c) x
      go (nothing-begun _ _ _ _ c) = stays_put (ap (λ (y : Called StepReply). y.memory) c) x
      go (under_way_lem h e k f c) = steps_on h e k f c x

-- ---- Steps one after the other

pub steps_revocable : (n : ℕ) (m₀ m : Memory) (b : Book) → Inv m b → (q : ℕ) → Revocable m₀ m q → Revocable m₀ (final_memory m (steps_of q n)) q
unfolding final_memory steps_of after_call book_after
steps_revocable zero m₀ m b i q x = x
steps_revocable (suc n) m₀ m b i q x = steps_revocable n m₀ (step_call m q).memory _ (call_kept steps_kept m b i (step_for q)).inv q (step_revocable m₀ m b i q x)

-- ---- The begin

-- The memory that an accepted begin leaves leads back to the one that it met.
begin_revocable : (m : Memory) (b : Book) → Inv m b → (q : ℕ) (o : Operation) (k : ℕ) → (begin_call m q o k).answer ≡ Ok tt → Revocable m (begin_call m q o k).memory q
begin_revocable m b i q o k h = go (ord q m.root.parties)
  where
    limits : within_limits m.root ≡ true
    limits = within_limits_lem m.root i.limits

    lengths : lengths_fit m.root m ≡ true
    lengths = lengths_fit_ok m b i

    refused : (n : Refusal) → begin_call m q o k ≡ called (Err n) m → Revocable m (begin_call m q o k).memory q
    refused n e = absurd (not_refused tt n (sym h ∙ ap (λ (c : Called CallReply). c.answer) e))

    there : q < m.root.parties → PartyOk (scene_of m i.ghost b) q (party_at m.parties q) → Revocable m (begin_call m q o k).memory q
    there l (resting e _ _ z) =
        leads_back
        (ap (λ (c : Called CallReply). undone_memory c.memory q) ((begin_order m q o k).none limits lengths l (ap (λ (p : Party). p.operation) e))
        ∙ begun_undone m b i q o k l e z)
    there l (working e c _) = refused Refusal.Busy ((begin_order m q o k).busy limits lengths l (operation_some e.operation (party_at m.parties q).operation c.same_operation))

    go : Ord q m.root.parties → Revocable m (begin_call m q o k).memory q
    go (ge l _) = refused Refusal.Party ((begin_order m q o k).party limits lengths l)
    go (lt l _) = there l (i.parties_ok q l)

-- ---- After every list of calls

module _ (s : Start) (cs : List Call) (x : Wanted) (n : ℕ) where
  abbrev q : ℕ
  q = x.party

  abbrev m₀ : Memory
  m₀ = Reached s cs

  abbrev there : Memory
  there = final_memory m₀ (calls_begun x n)

  there_is : at_withdraw s cs x n ≡ there
  there_is = final_append (start s) cs (calls_begun x n)

  -- Where its begin was accepted.
  revocable : (begin_call m₀ q x.operation x.key).answer ≡ Ok tt → Revocable m₀ there q
  unfolding final_memory after_call book_after
  revocable h =
      let i = reached_inv s cs in
      let b = book_reached s cs in
      steps_revocable n m₀ (begin_call m₀ q x.operation x.key).memory _ (call_kept steps_kept m₀ b i (begin_for q x.operation x.key)).inv q
      (begin_revocable m₀ b i q x.operation x.key h)

  -- An accepted withdraw finds the decisive step not taken, and leaves the memory before begin.
  back_then : Revocable m₀ there q → WithdrawTested there q → (withdraw_call there q).answer ≡ Ok tt → (withdraw_call there q).memory ≡ m₀
  unfolding has_step
  back_then x (turned_away n c) w = absurd (not_refused tt n (sym w ∙ ap (λ (y : Called CallReply). y.answer) c))
  back_then (over e) (let_through xs z _ _ _ _) w =
      absurd (false≢true (subst (λ (p : Party). has_step p.operation p.step ≡ true) e (withdraw_ready there q z).step_fits))
  back_then (past d) (let_through xs z _ _ _ _) w = absurd (not-both (is_decided (party_at there.parties q)) d (undecided there q z))
  back_then (leads_back u) (let_through xs z built _ _ c) w =
      ap (λ (y : Called CallReply). y.memory) c ∙ ap (λ (v : View). with_waiting (row_without q there.waiting) (after_step there v)) (sym (undone_built (view_of there q) xs built)) ∙ u

  withdrawn_memory : Reached s (cs ++ calls_withdrawn x n) ≡ (withdraw_call there q).memory
  unfolding final_memory after_call
  withdrawn_memory = final_append (start s) cs (calls_withdrawn x n) ∙ final_append m₀ (calls_begun x n) (withdraw_for q ∷ [])

  pub restored : Restored s cs x n
  restored = record {
    restored = λ h w.
        withdrawn_memory ∙ back_then (revocable h) (withdraw_tested there q) (subst (λ (m : Memory). (withdraw_call m q).answer ≡ Ok tt) there_is w);
    accepted = λ u. go u (withdraw_meets (at_withdraw s cs x n) (book_reached s (cs ++ calls_begun x n)) (reached_inv s (cs ++ calls_begun x n)) q);
  }
    where
      m : Memory
      m = at_withdraw s cs x n

      b : Book
      b = book_reached s (cs ++ calls_begun x n)

      go : under_way b q ≡ true → WithdrawMet m b (reached_inv s (cs ++ calls_begun x n)) q
          → (withdraw_call m q).answer ≡ cond (is_decided (record_there s cs x n)) (Err Refusal.Decided) (Ok tt)
      go u (stranger _ none _) = absurd (not-both (under_way b q) u (unentered_under b q none))
      go u (unbegun _ none _) = absurd (not-both (under_way b q) u (unentered_under b q none))
      go u (too_late _ _ _ d c) = ap (λ (y : Called CallReply). y.answer) c ∙ rw d refl
      go u (taken_back _ _ _ _ d a) = a ∙ rw d refl
