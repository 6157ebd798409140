-- Demand 2, grants and refusals: over every list of calls from formatted memory a requesting step is granted exactly where Table I permits it against the locks held, else it waits,
-- a step that requests nothing never waits, no step of an operation under way is refused, and every other call is refused or accepted as the table of refusals says; a withdraw, which never waits, is
-- refused only 3, 5 or 7.
-- Which locks are held and who is under way is derived from the calls (specs/Holds.antt).
-- Main statements: call_grants (one call, and the ledger after it); run_grants (a list from any memory with the invariant);
-- grants_right_lem (from formatted memory).
use mathlib.Core.Path.{◌≡◌, refl, sym, ap, ◌∙◌, subst}
use mathlib.Core.Bool.{Bool, true, false, cond, not, ◌&&◌}
use mathlib.Core.List.{List, [], ◌∷◌}
use mathlib.Core.Option.{Option, none, some}
use Prim.Native.Nat.{ℕ, ◌+◌, ◌-◌, ◌≤◌, ◌<◌}
use native.Mathlib.Omega.{arith}
use lib.ListN.{length, get_or, set}
use lib.Dec.{leb}
use Rattle.std.specs.Prelude.{Ok, Err}
use Rattle.model.proofs.Laws.Answers.{cause_some, not_refused}
use Rattle.model.specs.declared.Refusal.{Refusal}
use Rattle.model.specs.declared.Root.{Root}
use Rattle.model.specs.declared.Party.{Party}
use Rattle.model.specs.declared.Operation.{Operation}
use Rattle.model.specs.declared.StepAnswer.{StepAnswer}
use Rattle.model.specs.Sizes.{within_limits, lock_words}
use Rattle.model.specs.Records.{begun, idle}
use Rattle.model.specs.Answers.{operation_number, refusal_number, is_moved, setting_given, StepReply, CallReply, cause_number}
use Rattle.model.specs.LockWords.{Claim, permits}
use Rattle.model.specs.Outcome.{View, Outcome}
use Rattle.model.specs.LockRequests.{is_granted}
use Rattle.model.specs.Memory.{Memory, party_at, view_of}
use Rattle.model.specs.Calls.{Called, called, stepped, step_call, with_begun, begin_call, withdraw_call}
use Rattle.model.specs.Runs.{Call, begin_for, step_for, withdraw_for, event_of, after_call}
use Rattle.model.specs.Book.{Book, Entered}
use Rattle.model.specs.Progress.{under_way, book_after_call}
use Rattle.model.specs.Holds.{Hold, waits_before, waits_after, permitted, without_all, gives_up, requested, with_held, wanted_by, holds_after_step, gives_up_withdrawn, holds_after_withdraw, holds_after, never_waits, grant_right, answer_right, refused_with, idle_right, begin_right, withdraw_right, step_right, call_right, grants_right}
use Rattle.theory.specs.Demands.{Start, sizes_of, start, GrantsRight, book_start}
use Rattle.model.specs.Steps.Dispatch.{wants}
use Rattle.model.proofs.Laws.Lists.{both-and, le-leb, lt-leb}
use Rattle.model.specs.Claims.{claims}
use Rattle.model.specs.GivenSizes.{sized_root}
use Rattle.model.specs.Withdraw.{is_decided}
use Rattle.model.proofs.Steps.Withdraw.{left_by}
use Rattle.model.proofs.Invariant.Statement.{facts_at, Busy, Inv, scene_of}
use Rattle.model.proofs.Invariant.Frame.{SameLimits}
use Rattle.theory.proofs.Reached.{started_inv, started-idle}
use Rattle.model.proofs.Theorems.RefusalOrder.{begin_order}
use Rattle.model.proofs.Theorems.Calls.{StepsKept, within_limits_lem, operation_some, lengths_fit_ok, call_kept}
use Rattle.theory.proofs.SizesStay.{limits_on, call_limits, start_limits, sized_root_lem}
use Rattle.theory.proofs.UnderWay.{inv_fits, entered_under, unentered_under, Met, no_party, nothing-begun, under_way_lem, meets}
use Rattle.theory.proofs.Withdraws.{WithdrawTested, turned_away, let_through, withdraw_tested, WithdrawMet, stranger, unbegun, too_late, taken_back, withdraw_meets}
use Rattle.model.proofs.Theorems.Answering.{unasked, asked, fairly, step_fair, asked_wanted}
use Rattle.theory.proofs.LockOrder.{WantedHigher, wanted_higher}
use Rattle.model.proofs.Exits.Trades.{claim_count, listed}
use Rattle.theory.proofs.Ledger.{hold_count, count_for, count_none, count_own, count_other, count_without_all, count_with, LedgerOk, ledger_set, permitted-is}
use Rattle.theory.proofs.LockTrades.{gained, Trades, step_trades}
use Rattle.model.proofs.Laws.WaitLedger.{WaitsOk, behind_is}
use Rattle.model.proofs.Laws.WaitingRow.{idle-asks-none, row_at_rest, row_reads}
use Rattle.theory.proofs.WaitLedger.{call_waits}

-- ---- The ledger after a step

-- What specs/Holds.antt makes of the ledger, by the answer.
abbrev ledger_after : List Hold → ℕ → ℕ → Party → Option Claim → StepReply → List Hold
ledger_after hs q k p w a =
    let left = without_all hs q (gives_up k p a) in
    cond (is_moved a) (with_held left q (requested k w)) left

count_after : (hs : List Hold) (q k : ℕ) (p : Party) (w : Option Claim) (a : StepReply) (j : ℕ) (d : Claim)
    → hold_count (ledger_after hs q k p w a) j d ≡ hold_count hs j d - count_for q (gives_up k p a) j d + count_for q (gained k w a) j d
unfolding gained
count_after hs q k p w a j d = go (is_moved a)
  where
    left : List Hold
    left = without_all hs q (gives_up k p a)

    go : (t : Bool)
        → hold_count (cond t (with_held left q (requested k w)) left) j d ≡ hold_count hs j d - count_for q (gives_up k p a) j d + count_for q (cond t (listed (requested k w)) []) j d
    go true = omega (arith, count_with left q (requested k w) j d, count_without_all hs q (gives_up k p a) j d)
    go false = omega (arith, count_none q j d, count_without_all hs q (gives_up k p a) j d)

module _ (m : Memory) (hs : List Hold) (ok : LedgerOk m.root m.parties hs) (q : ℕ) (in_row : q < length m.parties) where
  abbrev me : Party
  me = party_at m.parties q

  -- A step's outcome keeps the ledger and the records in step.
  ledger_kept : (o : Outcome) → Trades (view_of m q) me.step o
      → LedgerOk o.after.root (set m.parties o.after.number o.after.party) (ledger_after hs q me.step me (wants m.root me) o.answer)
  unfolding wants claims
  ledger_kept o f =
      let up = gives_up me.step me o.answer in
      let got = gained me.step (wants m.root me) o.answer in
      rw f.number=
      (ledger_set m.root o.after.root m.parties q o.after.party hs _ in_row ok
      (λ d. count_after hs q me.step me (wants m.root me) o.answer q d ∙ omega (arith, count_own q up d, count_own q got d, ok.agrees q d, f.trade.counts d))
      (λ j d n. count_after hs q me.step me (wants m.root me) o.answer j d ∙ omega (arith, count_other q up j d n, count_other q got j d n)))

-- ---- One call

-- What is owed of a call: its answer is right by the ledger, and the ledger stays right.
pub record CallGrants (z : Root) (b : Book) (hs ws : List Hold) (m : Memory) (c : Call) : Type 0 where
  pub right : call_right z b hs ws m c ≡ true
  pub ledger : LedgerOk (after_call m c).root (after_call m c).parties (holds_after z hs m c)

-- An answer that goes with the request by the lock word, and is no refusal, goes with it by the ledger, where the two permit the same locks of the file.
module _ (hs ws : List Hold) (q : ℕ) (v : View) (held : List Claim) (want : Option Claim)
    (agree : (c : Claim) → want ≡ some c → c.word < lock_words v.root → (permitted hs c && not (waits_before ws q c)) ≡ is_granted v c) where
  answer_right_ok : (w : Option Claim) (a : StepReply) → want ≡ w → WantedHigher v.root held w → refusal_number a ≡ 0 → fairly v w a ≡ true → answer_right hs ws q w a ≡ true
  unfolding answer_right never_waits grant_right refusal_number fairly unasked asked
  answer_right_ok none (Ok StepAnswer.Waiting) e x r f = f
  answer_right_ok none (Ok StepAnswer.Moved) e x r f = refl
  answer_right_ok none (Ok (StepAnswer.Done a s)) e x r f = refl
  answer_right_ok none (Err n) e x r f = absurd (cause_some n r)
  answer_right_ok (some c) (Ok StepAnswer.Waiting) e x r f = ap not (agree c e x.inside) ∙ f
  answer_right_ok (some c) (Ok StepAnswer.Moved) e x r f = agree c e x.inside ∙ f
  answer_right_ok (some c) (Ok (StepAnswer.Done a s)) e x r f = f
  answer_right_ok (some c) (Err n) e x r f = absurd (cause_some n r)

-- A step refused with the number that stands for its party.
no_party_right : (n q : ℕ) → n ≤ q → idle_right n q (Err Refusal.Party) ≡ true
unfolding idle_right refused_with cause_number
no_party_right n q h = rw (le-leb n q h) refl

idle_party_right : (n q : ℕ) → q < n → idle_right n q (Err Refusal.Idle) ≡ true
unfolding idle_right refused_with cause_number
idle_party_right n q h = rw (lt-leb n q h) refl

module _ (kept : StepsKept) (z : Root) (m : Memory) (b : Book) (i : Inv m b) (l : SameLimits z m.root) (hs : List Hold) (ok : LedgerOk m.root m.parties hs)
    (ws : List Hold) (wok : WaitsOk m.root m.parties m.waiting ws) where
  -- By the sizes given a party wants what it wants by the root record.
  want= : (q : ℕ) → wanted_by z m q ≡ wants m.root (party_at m.parties q)
  want= q = ap (λ (r : Root). wants r (party_at m.parties q)) (sized_root_lem z m.root l)

  abbrev StepGrants : ℕ → Called StepReply → Type 0
  StepGrants q c = (cond (under_way b q) (answer_right hs ws q (wanted_by z m q) c.answer) (idle_right z.parties q c.answer) ≡ true)
      × LedgerOk c.memory.root c.memory.parties (ledger_after hs q (party_at m.parties q).step (party_at m.parties q) (wanted_by z m q) c.answer)

  performed_grants : (q : ℕ) → q < m.root.parties → (e : Entered) → Busy (scene_of m i.ghost b) q (party_at m.parties q) e
      → facts_at (party_at m.parties q).step (scene_of m i.ghost b) q (party_at m.parties q) e → StepGrants q (stepped m q)
  unfolding stepped is_granted
  performed_grants q in_row e k x =
      let v = view_of m q in
      let wanted = wanted_higher (scene_of m i.ghost b) q v.party e (inv_fits m b i) k x in (
        rw (entered_under b q e k.entry, want= q)
            (answer_right_ok hs ws q v _ (wants m.root v.party) agrees (wants m.root v.party) _ refl wanted (kept m b i q in_row k.step_fits).allowed (step_fair v).fair),
        rw (want= q) (ledger_kept m hs ok q (omega (arith, i.parties_many)) _ (step_trades v.party.step v refl k.step_fits)),
      )
    where
      agrees : (c : Claim) → wants m.root (party_at m.parties q) ≡ some c → c.word < lock_words m.root → (permitted hs c && not (waits_before ws q c)) ≡ is_granted (view_of m q) c
      agrees c w inside =
          let behind = behind_is m.root m.parties m.waiting ws wok q c (asked_wanted (view_of m q) k.step_fits ∙ w) in
          ap (λ (t : Bool). t && not (waits_before ws q c)) (permitted-is m.root m.parties hs ok i.locks_ok c inside)
          ∙ ap (λ (t : Bool). permits (get_or m.locks c.word 0) c.mode && not t) (sym behind)

  refused_grants : (q : ℕ) (n : Refusal) → b.entries q ≡ none → idle_right z.parties q (Err n) ≡ true → StepGrants q (called (Err n) m)
  unfolding is_moved gives_up without_all
  refused_grants q n u h = (rw (unentered_under b q u) h, ok)

  step_grants : (q : ℕ) → StepGrants q (step_call m q)
  step_grants q = go (meets m b i q)
    where
      go : Met m b i q → StepGrants q (step_call m q)
      go (no_party h u _ e) = subst (StepGrants q) (sym e) (refused_grants q Refusal.Party u (no_party_right z.parties q (omega (arith, l.parties=))))
      go (nothing-begun h _ u _ e) = subst (StepGrants q) (sym e) (refused_grants q Refusal.Idle u (idle_party_right z.parties q (omega (arith, l.parties=))))
      go (under_way_lem h e k x c) = subst (StepGrants q) (sym c) (performed_grants q h e k x)

  -- ---- Begin

  abbrev BeginGrants : ℕ → Called CallReply → Type 0
  BeginGrants q c = (begin_right z.parties q (under_way b q) c.answer ≡ true) × LedgerOk c.memory.root c.memory.parties hs

  begin_grants : (q : ℕ) (o : Operation) (k : ℕ) → BeginGrants q (begin_call m q o k)
  unfolding begin_right refused_with cause_number with_begun claims
  begin_grants q o k = go (meets m b i q)
    where
      fits : within_limits m.root ≡ true
      fits = within_limits_lem m.root i.limits

      go : Met m b i q → BeginGrants q (begin_call m q o k)
      go (no_party h u _ _) =
          subst (BeginGrants q) (sym ((begin_order m q o k).party fits (lengths_fit_ok m b i) h)) (rw (le-leb z.parties q (omega (arith, l.parties=))) refl, ok)
      go (nothing-begun h e u _ _) =
          subst (BeginGrants q) (sym ((begin_order m q o k).none fits (lengths_fit_ok m b i) h (ap (λ (p : Party). p.operation) e))) (
            rw (lt-leb z.parties q (omega (arith, l.parties=)), unentered_under b q u) refl,
            ledger_set m.root m.root m.parties q (begun (operation_number o) k (setting_given o)) hs hs (omega (arith, i.parties_many)) ok
                (λ d. ok.agrees q d ∙ ap (λ (p : Party). claim_count (claims m.root p) d) e) (λ j d n. refl),
          )
      go (under_way_lem h e c x _) =
          subst (BeginGrants q)
          (sym ((begin_order m q o k).busy fits (lengths_fit_ok m b i) h (operation_some e.operation (party_at m.parties q).operation c.same_operation)))
          (rw (lt-leb z.parties q (omega (arith, l.parties=)), entered_under b q e c.entry) refl, ok)

  -- ---- Withdraw

  abbrev WithdrawGrants : ℕ → Called CallReply → Type 0
  WithdrawGrants q c = (withdraw_right z.parties q (under_way b q) (is_decided (party_at m.parties q)) c.answer ≡ true)
      × LedgerOk c.memory.root c.memory.parties (without_all hs q (gives_up_withdrawn (sized_root z m.root) (party_at m.parties q) c.answer))

  -- What a withdraw gives up is all that its party holds.
  withdrawn_ledger : (q : ℕ) → q < m.root.parties → (r : Root) → LedgerOk r (set m.parties q idle) (without_all hs q (claims (sized_root z m.root) (party_at m.parties q)))
  unfolding claims claim_count
  withdrawn_ledger q h r =
      let cs = claims (sized_root z m.root) (party_at m.parties q) in
      ledger_set m.root r m.parties q idle hs _ (omega (arith, i.parties_many)) ok
      (λ d. omega (arith, count_without_all hs q cs q d, count_own q cs d, ok.agrees q d))
      (λ j d n. omega (arith, count_without_all hs q cs j d, count_other q cs j d n))

  withdraw_grants : (q : ℕ) → WithdrawGrants q (withdraw_call m q)
  unfolding withdraw_right refused_with cause_number gives_up_withdrawn without_all
  withdraw_grants q = go (withdraw_meets m b i q)
    where
      inside : q < m.root.parties → leb z.parties q ≡ false
      inside h = lt-leb z.parties q (omega (arith, l.parties=))

      accepted : q < m.root.parties → is_decided (party_at m.parties q) ≡ false → under_way b q ≡ true → (withdraw_call m q).answer ≡ Ok tt
          → WithdrawTested m q → WithdrawGrants q (withdraw_call m q)
      accepted h d u a (turned_away n e) = absurd (not_refused tt n (sym a ∙ ap (λ (c : Called CallReply). c.answer) e))
      accepted h d u a (let_through xs _ _ _ _ e) = subst (WithdrawGrants q) (sym e) (rw (inside h, u, d) refl, withdrawn_ledger q h (left_by (view_of m q) xs).root)

      go : WithdrawMet m b i q → WithdrawGrants q (withdraw_call m q)
      go (stranger h n e) = subst (WithdrawGrants q) (sym e) (rw (le-leb z.parties q (omega (arith, l.parties=))) refl, ok)
      go (unbegun h n e) = subst (WithdrawGrants q) (sym e) (rw (inside h, unentered_under b q n) refl, ok)
      go (too_late h e k d c) = subst (WithdrawGrants q) (sym c) (rw (inside h, entered_under b q e k.entry, d) refl, ok)
      go (taken_back h e k t d a) = accepted h d (entered_under b q e k.entry) a (withdraw_tested m q)

  pub call_grants : (c : Call) → CallGrants z b hs ws m c
  unfolding call_right step_right after_call holds_after holds_after_step holds_after_withdraw
  call_grants (begin_for q o k) = let g = begin_grants q o k in record { right = g.0; ledger = g.1 }
  call_grants (step_for q) = let g = step_grants q in record { right = g.0; ledger = g.1 }
  call_grants (withdraw_for q) = let g = withdraw_grants q in record { right = g.0; ledger = g.1 }

-- ---- A list of calls

pub run_grants : StepsKept → (z : Root) (m : Memory) (b : Book) → Inv m b → SameLimits z m.root → (hs : List Hold) → LedgerOk m.root m.parties hs
    → (ws : List Hold) → WaitsOk m.root m.parties m.waiting ws → (cs : List Call) → grants_right z b hs ws m cs ≡ true
unfolding grants_right event_of
run_grants kept z m b i l hs ok ws wok [] = refl
run_grants kept z m b i l hs ok ws wok (c ∷ cs) =
    let g = call_grants kept z m b i l hs ok ws wok c in
    both-and g.right
    (run_grants kept z (after_call m c) (book_after_call b m c) (call_kept kept m b i c).inv (limits_on z m.root (after_call m c).root l (call_limits m c)) (holds_after z hs m c) g.ledger
    (waits_after z ws m c) (call_waits kept z m b i l ws wok c) cs)

-- Nobody holds a lock at first.
start_ledger : (s : Start) → LedgerOk (start s).root (start s).parties []
unfolding hold_count claims claim_count
start_ledger s = record { agrees = λ q d. rw (started-idle s q) refl }

-- Nobody waits at first.
pub start-waits : (s : Start) → WaitsOk (start s).root (start s).parties (start s).waiting []
start-waits s =
    let row = (start s).waiting in
    let clear = row_at_rest (start s).root (start s).parties row (started_inv s).row_ok (λ q. idle-asks-none (start s).root (party_at (start s).parties q) (started-idle s q)) in
    record { parties= = row_reads row [] clear; entered = tt }

-- DEMAND 2, grants and refusals.
pub grants_right_lem : StepsKept → (s : Start) (cs : List Call) → GrantsRight s cs
grants_right_lem kept s cs = record {
  grants = run_grants kept (sizes_of s) (start s) (book_start s) (started_inv s) (start_limits s) []
      (start_ledger s) [] (start-waits s) cs;
}
