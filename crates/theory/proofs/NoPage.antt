-- "No page" changes nothing: an operation answered no page has performed no step 11 since its begin.
-- Main statements: Past (where an operation that has performed step 11 stands); call_clean (one call), run_clean (a list), no_page_kept_lem (from formatted memory).
use mathlib.Core.Path.{◌≡◌, refl, sym, ap, ◌∙◌, subst}
use mathlib.Core.Logic.{◌≢◌, ◌⊎◌, inl, inr}
use mathlib.Core.Bool.{Bool, true, false, cond, not, ◌&&◌, and-false}
use mathlib.Core.List.{List, [], ◌∷◌}
use Prim.Native.Nat.{ℕ, ◌≤◌, ◌<◌}
use native.Mathlib.Omega.{arith}
use lib.ListN.{set}
use lib.Dec.{eqb}
use Rattle.std.specs.Prelude.{Ok, Err}
use Rattle.model.specs.declared.Refusal.{Refusal}
use Rattle.model.specs.declared.Party.{Party}
use Rattle.model.specs.declared.Operation.{Operation}
use Rattle.model.specs.declared.StepAnswer.{StepAnswer}
use Rattle.model.specs.Sizes.{within_limits}
use Rattle.model.specs.Records.{idle, begun}
use Rattle.model.specs.Answers.{operation_number, answer_number, answer_of, performs, setting_given, StepReply, CallReply}
use Rattle.model.specs.Outcome.{Outcome}
use Rattle.model.specs.Memory.{Memory, party_at, view_of}
use Rattle.model.specs.Calls.{Called, called, stepped, step_call, with_begun, begin_call, withdraw_call}
use Rattle.model.specs.Runs.{Call, begin_for, step_for, withdraw_for, caller_of, reply_to, after_call, event_of, events}
use Rattle.model.specs.Book.{Book, Entered, changed_at}
use Rattle.theory.specs.PlainMap.{is_no_page}
use Rattle.model.specs.Effects.{Withdraws}
use Rattle.model.specs.Progress.{book_after_call}
use Rattle.theory.specs.NoPage.{is_writing, none_wrote, wrote_begin, wrote_step, wrote_after, ends_no_page, no_page_right, no_page_kept}
use Rattle.model.specs.Steps.Write.{is_change}
use Rattle.model.specs.Steps.Dispatch.{has_step, step_of}
use Rattle.theory.specs.Demands.{Start, start, book_start}
use Rattle.model.proofs.Laws.Lists.{Cmp, same, diff, cmp, Told, holds, fails, tell, not-both, both-and, and_both, or_either, eqb-true, eqb_same, eqb-diff}
use Rattle.model.proofs.Laws.Changes.{change_made}
use Rattle.model.proofs.Invariant.Statement.{facts_at, Busy, Inv, scene_of}
use Rattle.model.proofs.Effects.Kept.{row_same, row_other}
use Rattle.model.proofs.Theorems.RefusalOrder.{begin_order}
use Rattle.model.proofs.Theorems.Calls.{StepsKept, within_limits_lem, operation_some, lengths_fit_ok, call_kept}
use Rattle.theory.proofs.Reached.{started_inv}
use Rattle.theory.proofs.LockTrades.{step_trades}
use Rattle.theory.proofs.Alters.{nothing_altered}
use Rattle.theory.proofs.UnderWay.{Met, no_party, nothing-begun, under_way_lem, meets}
use Rattle.theory.proofs.Withdraws.{WithdrawTested, turned_away, let_through, withdraw_tested, withdraws}
use Rattle.theory.proofs.Later.{Later, stays, goes, ends, later_at}

-- Where a party that has performed step 11 since its begin stands: its operation is over, or it is at 12 or further with a change for its answer.
pub data Past (p : Party) : Type 0 where
  over : p ≡ idle → Past p
  late : 12 ≤ p.step → is_change p.answer ≡ true → Past p

-- ---- Answers

-- A change made is not answered no page.
change_no_page : (n : ℕ) → is_change n ≡ true → is_no_page (answer_of n) ≡ false
unfolding is_change is_no_page answer_of answer_number
change_no_page n e = go (or_either (eqb n 1) (eqb n 3) e)
  where
    go : (eqb n 1 ≡ true) ⊎ (eqb n 3 ≡ true) → is_no_page (answer_of n) ≡ false
    go (inl h) = rw (eqb-true n 1 h) refl
    go (inr h) = rw (eqb-true n 3 h) refl

-- Only done ends with no page.
idle_ends : (a : StepReply) → performs a ≡ false → ends_no_page a ≡ false
unfolding performs ends_no_page
idle_ends (Ok StepAnswer.Waiting) h = refl
idle_ends (Ok StepAnswer.Moved) h = refl
idle_ends (Ok (StepAnswer.Done a s)) h = absurd (not-both true refl h)
idle_ends (Err n) h = refl

-- ---- One call

-- Whoever has performed step 11 since its begin stands past it.
abbrev pub WroteOk : Memory → (ℕ → Bool) → Type 0
WroteOk m w = (q : ℕ) → w q ≡ true → Past (party_at m.parties q)

pub record CallClean (m : Memory) (w : ℕ → Bool) (c : Call) : Type 0 where
  pub right : no_page_right w c (party_at m.parties (caller_of c)).step (reply_to m c) ≡ true
  pub wrote : WroteOk (after_call m c) (wrote_after w c (party_at m.parties (caller_of c)).step (reply_to m c))

module _ (m : Memory) (b : Book) (i : Inv m b) (w : ℕ → Bool) (ok : WroteOk m w) where
  -- ---- Begin

  abbrev BeginClean : ℕ → Called CallReply → Type 0
  BeginClean q c = WroteOk c.memory (wrote_begin w q c.answer)

  begin_clean : (q : ℕ) (o : Operation) (k : ℕ) → BeginClean q (begin_call m q o k)
  unfolding wrote_begin with_begun changed_at
  begin_clean q o k = go (meets m b i q)
    where
      fits : within_limits m.root ≡ true
      fits = within_limits_lem m.root i.limits

      others : (j : ℕ) → Cmp j q → cond (eqb j q) false (w j) ≡ true → Past (party_at (set m.parties q (begun (operation_number o) k (setting_given o))) j)
      others j (same e) h = absurd (not-both true refl (sym (rw (eqb_same j q e) at h)))
      others j (diff d) h = rw (row_other m.parties q j (begun (operation_number o) k (setting_given o)) d) (ok j (rw (eqb-diff j q d) at h))

      go : Met m b i q → BeginClean q (begin_call m q o k)
      go (no_party h _ _ _) = subst (BeginClean q) (sym ((begin_order m q o k).party fits (lengths_fit_ok m b i) h)) ok
      go (nothing-begun h e _ _ _) =
          subst (BeginClean q) (sym ((begin_order m q o k).none fits (lengths_fit_ok m b i) h (ap (λ (p : Party). p.operation) e))) (λ j x. others j (cmp j q) x)
      go (under_way_lem h e c _ _) =
          subst (BeginClean q)
          (sym ((begin_order m q o k).busy fits (lengths_fit_ok m b i) h (operation_some e.operation (party_at m.parties q).operation c.same_operation))) ok

  -- ---- Step

  abbrev StepClean : ℕ → Called StepReply → Type 0
  StepClean q c = (not (ends_no_page c.answer && wrote_step w q (party_at m.parties q).step c.answer q) ≡ true)
      × WroteOk c.memory (wrote_step w q (party_at m.parties q).step c.answer)

  refused_clean : (q : ℕ) (n : Refusal) → StepClean q (called (Err n) m)
  unfolding ends_no_page wrote_step is_writing performs
  refused_clean q n = (refl, ok)

  -- What a call that performs nothing leaves.
  idle_clean : (q : ℕ) → performs (step_call m q).answer ≡ false → StepClean q (step_call m q)
  unfolding wrote_step is_writing
  idle_clean q h = (
    rw (idle_ends (step_call m q).answer h) refl,
    λ j x. subst (λ (t : Memory). Past (party_at t.parties j)) (sym (nothing_altered m q h)) (ok j (rw h at x)),
  )

  module _ (q : ℕ) (in_row : q < m.root.parties) (e : Entered) (k : Busy (scene_of m i.ghost b) q (party_at m.parties q) e)
      (x : facts_at (party_at m.parties q).step (scene_of m i.ghost b) q (party_at m.parties q) e) (call : step_call m q ≡ stepped m q) where
    abbrev p : Party
    p = party_at m.parties q

    abbrev number : ℕ
    number = (party_at m.parties q).step

    abbrev o : Outcome
    o = step_of (party_at m.parties q).step (view_of m q)

    busy : p.operation ≢ 0
    busy = operation_some e.operation p.operation k.same_operation

    -- At 11 the answer is that of a change.
    at_eleven : number ≡ 11 → is_change p.answer ≡ true
    unfolding is_change answer_number
    at_eleven s =
        let facts = subst (λ (n : ℕ). facts_at n (scene_of m i.ghost b) q p e) s x in
        let made = change_made p.key p.setting (i.ghost.records p.chain) p.answer facts.after e.operation p.operation k.same_operation k.same_setting
        (ap (has_step p.operation) (sym s) ∙ k.step_fits) facts.change in
        ap is_change made.made ∙ either (eqb (operation_number e.operation) 2)
      where
        either : (t : Bool) → is_change (cond t 1 3) ≡ true
        either true = refl
        either false = refl

    -- Whoever wrote before is at 12 or further, with a change for its answer.
    wrote_before : w q ≡ true → (12 ≤ number) × (is_change p.answer ≡ true)
    wrote_before h = go (ok q h)
      where
        go : Past p → (12 ≤ number) × (is_change p.answer ≡ true)
        go (over s) = absurd (busy (ap (λ (y : Party). y.operation) s))
        go (late l c) = (l, c)

    wrote_change : (a : StepReply) → wrote_step w q number a q ≡ true → (11 ≤ number) × (is_change p.answer ≡ true)
    unfolding wrote_step is_writing
    wrote_change a h = go (tell (performs a && eqb number 11))
      where
        go : Told (performs a && eqb number 11) → (11 ≤ number) × (is_change p.answer ≡ true)
        go (holds t) = let s = eqb-true number 11 (and_both (performs a) (eqb number 11) t).1 in (omega arith, at_eleven s)
        go (fails t) = let y = wrote_before (rw t at h) in (omega (arith, y.0), y.1)

    -- The other parties.
    elsewhere : (a : StepReply) (j : ℕ) → j ≢ q → wrote_step w q number a j ≡ true → w j ≡ true
    unfolding wrote_step is_writing changed_at
    elsewhere a j d h = go (tell (performs a && eqb number 11))
      where
        go : Told (performs a && eqb number 11) → w j ≡ true
        go (holds t) = rw (eqb-diff j q d) at (rw t at h)
        go (fails t) = rw t at h

    -- A call that performs its step: its own record then stands past 11 where it wrote, and the others are as they were.
    performed_clean : (not (ends_no_page o.answer && wrote_step w q number o.answer q) ≡ true) → (wrote_step w q number o.answer q ≡ true → Past o.after.party)
        → StepClean q (stepped m q)
    unfolding stepped
    performed_clean right own = (right, λ j h. each j (cmp j q) h)
      where
        number= : o.after.number ≡ q
        number= = (step_trades number (view_of m q) refl k.step_fits).number=

        each : (j : ℕ) → Cmp j q → wrote_step w q number o.answer j ≡ true → Past (party_at (set m.parties o.after.number o.after.party) j)
        each j (same s) h =
            rw (s, number=, row_same m.parties q o.after.party (omega (arith, i.parties_many))) (own (rw s at h))
        each j (diff d) h = rw (number=, row_other m.parties q j o.after.party d) (ok j (elsewhere o.answer j d h))

    nobody_wrote : wrote_step w q number o.answer q ≡ false → StepClean q (stepped m q)
    nobody_wrote h = performed_clean (rw (h, and-false (ends_no_page o.answer)) refl) (λ t. absurd (not-both _ t h))

    wrote_clean : is_change p.answer ≡ true → Later (view_of m q) o → StepClean q (step_call m q)
    unfolding stepped ends_no_page
    wrote_clean c (stays h) = idle_clean q (ap (λ (y : Called StepReply). performs y.answer) call ∙ h)
    wrote_clean c (goes a l s) = subst (StepClean q) (sym call) (performed_clean (rw a refl) (λ _. late l (ap is_change s ∙ c)))
    wrote_clean c (ends s a r) = subst (StepClean q) (sym call) (performed_clean (rw (a, change_no_page p.answer c) refl) (λ _. over r))

    under_way_clean : StepClean q (step_call m q)
    under_way_clean = go (tell (wrote_step w q number o.answer q))
      where
        go : Told (wrote_step w q number o.answer q) → StepClean q (step_call m q)
        go (fails h) = subst (StepClean q) (sym call) (nobody_wrote h)
        go (holds h) = let y = wrote_change o.answer h in wrote_clean y.1 (later_at number y.0 (view_of m q))

  step_clean : (q : ℕ) → StepClean q (step_call m q)
  step_clean q = go (meets m b i q)
    where
      go : Met m b i q → StepClean q (step_call m q)
      go (no_party _ _ _ e) = subst (StepClean q) (sym e) (refused_clean q Refusal.Party)
      go (nothing-begun _ _ _ _ e) = subst (StepClean q) (sym e) (refused_clean q Refusal.Idle)
      go (under_way_lem h e k x c) = under_way_clean q h e k x c

  -- ---- Withdraw

  -- Its operation is over.
  withdraw_clean : (q : ℕ) → WroteOk (withdraw_call m q).memory w
  withdraw_clean q = go (withdraw_tested m q)
    where
      each : Withdraws m q → (j : ℕ) → w j ≡ true → Cmp j q → Past (party_at (withdraw_call m q).memory.parties j)
      each x j h (same e) = over (ap (party_at (withdraw_call m q).memory.parties) e ∙ x.own)
      each x j h (diff d) = subst Past (sym (x.others j d)) (ok j h)

      go : WithdrawTested m q → WroteOk (withdraw_call m q).memory w
      go (turned_away n e) = subst (λ (c : Called CallReply). WroteOk c.memory w) (sym e) ok
      go (let_through xs z d _ _ e) = λ j h. each (withdraws m q xs z d e) j h (cmp j q)

  pub call_clean : (c : Call) → CallClean m w c
  unfolding no_page_right wrote_after reply_to after_call
  call_clean (begin_for q o k) = record { right = refl; wrote = begin_clean q o k }
  call_clean (step_for q) = let g = step_clean q in record { right = g.0; wrote = g.1 }
  call_clean (withdraw_for q) = record { right = refl; wrote = withdraw_clean q }

-- ---- A list of calls

pub run_clean : StepsKept → (m : Memory) (b : Book) → Inv m b → (w : ℕ → Bool) → WroteOk m w → (cs : List Call) → no_page_kept w (events m cs) ≡ true
unfolding no_page_kept events event_of
run_clean kept m b i w ok [] = refl
run_clean kept m b i w ok (c ∷ cs) =
    let g = call_clean m b i w ok c in
    both-and g.right (run_clean kept (after_call m c) (book_after_call b m c) (call_kept kept m b i c).inv _ g.wrote cs)

-- From formatted memory.
pub no_page_kept_lem : StepsKept → (s : Start) (cs : List Call) → no_page_kept none_wrote (events (start s) cs) ≡ true
unfolding none_wrote
no_page_kept_lem kept s cs = run_clean kept (start s) (book_start s) (started_inv s) none_wrote (λ q h. absurd (not-both true refl (sym h))) cs
