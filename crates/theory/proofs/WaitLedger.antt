-- Every call keeps the waiting row and the ledger of waits in step.
-- Main statement: call_waits.
use mathlib.Core.Path.{◌≡◌, refl, sym, ap, ◌∙◌, subst}
use mathlib.Core.Bool.{true, false≢true}
use mathlib.Core.List.{List}
use mathlib.Core.Option.{Option, none, some}
use Prim.Native.Nat.{ℕ, ◌<◌}
use lib.ListN.{set}
use lib.Seq.{set-get_or}
use Rattle.std.specs.Prelude.{Ok, Err}
use Rattle.model.proofs.Laws.Answers.{cause_some, not_refused}
use Rattle.model.specs.declared.Root.{Root}
use Rattle.model.specs.declared.Party.{Party}
use Rattle.model.specs.declared.Operation.{Operation}
use Rattle.model.specs.declared.StepAnswer.{StepAnswer}
use Rattle.model.specs.Sizes.{within_limits}
use Rattle.model.specs.Records.{idle, begun}
use Rattle.model.specs.Answers.{operation_number, setting_given, refusal_number, StepReply, CallReply}
use Rattle.model.specs.LockWords.{Claim}
use Rattle.model.specs.Outcome.{View, Outcome}
use Rattle.model.specs.Memory.{Memory, party_at, view_of, after_step, with_waiting}
use Rattle.model.specs.WaitingRow.{requests, is_some, row_with, row_without, row_after, row_left}
use Rattle.model.specs.Steps.Dispatch.{has_step, step_of, wants}
use Rattle.model.specs.Calls.{Called, called, begin_call, stepped, step_call, with_begun, withdrawn_from, withdraw_call}
use Rattle.model.specs.Runs.{Call, begin_for, step_for, withdraw_for, after_call}
use Rattle.model.specs.Book.{Book}
use Rattle.model.specs.Holds.{Hold, wanted_by, joins, waits_after_step, waits_after_withdraw, waits_after}
use Rattle.model.specs.Withdraw.{withdrawn}
use Rattle.model.proofs.Laws.WaitingRow.{idle-asks-none}
use Rattle.model.proofs.Laws.WaitLedger.{WaitsOk, waits-join, waits_leave, waits_absent, waits_stay, leaves_absent}
use Rattle.model.proofs.Invariant.Statement.{Inv}
use Rattle.model.proofs.Invariant.Frame.{SameLimits}
use Rattle.model.proofs.Effects.Kept.{row_other}
use Rattle.model.proofs.Steps.Withdraw.{withdraw_kept}
use Rattle.model.proofs.Theorems.RefusalOrder.{begin_order, withdraw_accepted}
use Rattle.model.proofs.Theorems.Answering.{asked_wanted, waiting_asks, done-asks-none}
use Rattle.model.proofs.Theorems.Calls.{StepsKept, within_limits_lem, lengths_fit_ok, operation_some}
use Rattle.theory.proofs.SizesStay.{sized_root_lem}
use Rattle.theory.proofs.UnderWay.{Met, no_party, nothing-begun, under_way_lem, meets}
use Rattle.theory.proofs.Withdraws.{WithdrawTested, turned_away, let_through, withdraw_tested, WithdrawMet, stranger, unbegun, too_late, taken_back, withdraw_meets}

-- ---- One call

module _ (kept : StepsKept) (z : Root) (m : Memory) (b : Book) (i : Inv m b) (l : SameLimits z m.root) (ws : List Hold) (ok : WaitsOk m.root m.parties m.waiting ws) where
  abbrev AfterOk : Memory → List Hold → Type 0
  AfterOk u vs = WaitsOk u.root u.parties u.waiting vs

  -- By the sizes given a party wants what it wants by the root record.
  want= : (q : ℕ) → wanted_by z m q ≡ wants m.root (party_at m.parties q)
  want= q = ap (λ (r : Root). wants r (party_at m.parties q)) (sized_root_lem z m.root l)

  is-some : (o : Option Claim) → is_some o ≡ true → (c : Claim) × (o ≡ some c)
  unfolding is_some
  is-some none e = absurd (false≢true e)
  is-some (some c) e = (c, refl)

  -- ---- Step

  module _ (q : ℕ) (in_row : q < m.root.parties) (has : has_step (party_at m.parties q).operation (party_at m.parties q).step ≡ true) where
    abbrev out : Outcome
    out = step_of (party_at m.parties q).step (view_of m q)

    step_waits : (a : StepReply) → out.answer ≡ a
        → WaitsOk out.after.root (set m.parties out.after.number out.after.party) (row_after q m.waiting a) (waits_after_step ws q (wanted_by z m q) a)
    unfolding row_after waits_after_step refusal_number
    step_waits (Ok StepAnswer.Waiting) e =
        let some_one = is-some (requests m.root (party_at m.parties q)) (waiting_asks (view_of m q) has e) in
        let wanted : wanted_by z m q ≡ some some_one.0 = want= q ∙ sym (asked_wanted (view_of m q) has) ∙ some_one.1 in
        subst (λ (v : View). WaitsOk v.root (set m.parties v.number v.party) (row_with q m.waiting) (joins ws q (wanted_by z m q))) (sym ((kept m b i q in_row has).stays e))
        (subst (λ (ps : List Party). WaitsOk m.root ps (row_with q m.waiting) (joins ws q (wanted_by z m q))) (sym (set-get_or m.parties q idle))
        (subst (λ (o : Option Claim). WaitsOk m.root m.parties (row_with q m.waiting) (joins ws q o)) (sym wanted)
        (waits-join m.root m.parties m.waiting i.row_ok ws ok q some_one.0 in_row some_one.1)))
    step_waits (Ok StepAnswer.Moved) e = waits_leave m.root m.parties m.waiting i.row_ok ws ok q _ _ (kept m b i q in_row has).asks
    step_waits (Ok (StepAnswer.Done a s)) e =
        let n = done-asks-none (view_of m q) has a s e in
        subst (WaitsOk _ _ m.waiting) (sym (leaves_absent ws q (waits_absent m.root m.parties m.waiting i.row_ok ws ok q n)))
        (waits_stay m.root m.parties m.waiting i.row_ok ws ok q _ _ (kept m b i q in_row has).asks n)
    step_waits (Err n) e = absurd (cause_some n (ap refusal_number (sym e) ∙ (kept m b i q in_row has).allowed))

  step_call_lem : (q : ℕ) → AfterOk (step_call m q).memory (waits_after_step ws q (wanted_by z m q) (step_call m q).answer)
  unfolding waits_after_step stepped
  step_call_lem q = go (meets m b i q)
    where
      abbrev_goal : Called StepReply → Type 0
      abbrev_goal c = AfterOk c.memory (waits_after_step ws q (wanted_by z m q) c.answer)

      go : Met m b i q → AfterOk (step_call m q).memory (waits_after_step ws q (wanted_by z m q) (step_call m q).answer)
      go (no_party _ _ _ e) = subst abbrev_goal (sym e) ok
      go (nothing-begun _ _ _ _ e) = subst abbrev_goal (sym e) ok
      go (under_way_lem h e k x c) = subst abbrev_goal (sym c) (step_waits q h k.step_fits _ refl)

  -- ---- Begin

  begin_call_ok : (q : ℕ) (o : Operation) (k : ℕ) → AfterOk (begin_call m q o k).memory ws
  unfolding with_begun
  begin_call_ok q o k = go (meets m b i q)
    where
      limits : within_limits m.root ≡ true
      limits = within_limits_lem m.root i.limits

      p_then : Party
      p_then = begun (operation_number o) k (setting_given o)

      goal : Called CallReply → Type 0
      goal c = AfterOk c.memory ws

      go : Met m b i q → AfterOk (begin_call m q o k).memory ws
      go (no_party h _ _ _) = subst goal (sym ((begin_order m q o k).party limits (lengths_fit_ok m b i) h)) ok
      go (nothing-begun h e _ _ _) =
          subst goal (sym ((begin_order m q o k).none limits (lengths_fit_ok m b i) h (ap (λ (p : Party). p.operation) e)))
          (waits_stay m.root m.parties m.waiting i.row_ok ws ok q m.root (set m.parties q p_then)
          (record { as_many = refl; same_ask = λ j n _. ap (requests m.root) (row_other m.parties q j p_then n) })
          (idle-asks-none m.root (party_at m.parties q) e))
      go (under_way_lem h e c _ _) =
          subst goal (sym ((begin_order m q o k).busy limits (lengths_fit_ok m b i) h (operation_some e.operation (party_at m.parties q).operation c.same_operation))) ok

  -- ---- Withdraw

  withdraw_call_ok : (q : ℕ) → AfterOk (withdraw_call m q).memory (waits_after_withdraw ws q (withdraw_call m q).answer)
  unfolding waits_after_withdraw withdrawn_from row_left
  withdraw_call_ok q = go (withdraw_meets m b i q) (withdraw_tested m q)
    where
      goal : Called CallReply → Type 0
      goal c = AfterOk c.memory (waits_after_withdraw ws q c.answer)

      go : WithdrawMet m b i q → WithdrawTested m q → AfterOk (withdraw_call m q).memory (waits_after_withdraw ws q (withdraw_call m q).answer)
      go (stranger _ _ e) y = subst goal (sym e) ok
      go (unbegun _ _ e) y = subst goal (sym e) ok
      go (too_late _ _ _ _ e) y = subst goal (sym e) ok
      go (taken_back h e k t d a) (turned_away n c) = absurd (not_refused tt n (sym a ∙ ap (λ (x : Called CallReply). x.answer) c))
      go (taken_back h e k t d a) (let_through xs clear _ _ _ _) =
          let w = withdraw_kept t d in
          let call : withdraw_call m q ≡ called (Ok tt) (with_waiting (row_without q m.waiting) (after_step m (withdrawn (view_of m q)).after))
          = withdraw_accepted m q clear ∙ ap (λ (x : CallReply). called x (with_waiting (row_left q m.waiting x) (after_step m (withdrawn (view_of m q)).after))) w.accepted in
          subst goal (sym call) (waits_leave m.root m.parties m.waiting i.row_ok ws ok q _ _ w.asks)

  pub call_waits : (c : Call) → WaitsOk (after_call m c).root (after_call m c).parties (after_call m c).waiting (waits_after z ws m c)
  unfolding after_call waits_after
  call_waits (begin_for q o k) = begin_call_ok q o k
  call_waits (step_for q) = step_call_lem q
  call_waits (withdraw_for q) = withdraw_call_ok q
