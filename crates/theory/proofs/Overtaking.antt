-- Nobody is overtaken at a lock: who waits stays in front of all who come later.
-- Main statements: InFront (an entry of the ledger, and who may stand before it), kept by every call that does not end
-- its wait; waits_run (who waits by the events is in the ledger); nobody_overtaken, same_want, passed_once,
-- row-is_ledger, waits-again, rests_clear.
use mathlib.Core.Path.{◌≡◌, refl, sym, ap, ◌∙◌, subst}
use mathlib.Core.Logic.{◌≢◌, ◌⊎◌, inl, inr}
use mathlib.Core.Bool.{Bool, true, false, cond, not, ◌&&◌, ◌||◌, false≢true}
use mathlib.Core.List.{List, [], ◌∷◌, ◌++◌}
use mathlib.Core.Option.{Option, none, some}
use Prim.Native.Nat.{ℕ, zero, suc, ◌+◌, ◌-◌, ◌≤◌, ◌<◌}
use native.Mathlib.Omega.{arith}
use lib.ListN.{length, get_or, get_or-eq_default, replicate, length-append, length-replicate}
use lib.Dec.{eqb}
use Rattle.std.specs.Prelude.{Ok, Err}
use Rattle.model.proofs.Laws.Answers.{cause_some}
use Rattle.model.specs.declared.Root.{Root}
use Rattle.model.specs.declared.Party.{Party}
use Rattle.model.specs.declared.StepAnswer.{StepAnswer}
use Rattle.model.specs.Records.{idle}
use Rattle.model.specs.Answers.{is_moved, performs, refusal_number, StepReply, CallReply}
use Rattle.model.specs.LockWords.{Claim, table_one, permits}
use Rattle.model.specs.LockRequests.{is_granted}
use Rattle.model.specs.FreeList.{is_among}
use Rattle.model.specs.Memory.{Memory, party_at, view_of}
use Rattle.model.specs.WaitingRow.{requests, is_some, all_zero, none_twice, stands_behind}
use Rattle.model.specs.Steps.Dispatch.{has_step, step_of, wants, want_table}
use Rattle.model.specs.Calls.{Called, stepped, step_call, withdraw_call}
use Rattle.model.specs.Runs.{Call, begin_for, step_for, withdraw_for, to_begin, to_step, to_withdraw, caller_of, reply_to, after_call, event_of, events, final_memory}
use Rattle.model.specs.Book.{Book}
use Rattle.model.specs.Holds.{Hold, hold, wanted_by, waits_in, joins, leaves, waits_after_step, waits_after_withdraw, waits_after, waits_before}
use Rattle.theory.specs.Demands.{Start, start, sizes_of, Reached, book_reached, book_start, AtRest}
use Rattle.theory.specs.Overtaking.{answers_waiting, ends_wait, waits_then, waits_on, waits_after_events, wait_stays, WaitsFor, NobodyOvertaken, SameWant, clashes, is_pass, passes_by, passes_all, PassedOnce, waits_at_end, words_of_ledger, ledger_reached, RowIsLedger, WaitsAgain, RestsClear}
use Rattle.model.proofs.Laws.Lists.{Told, holds, fails, tell, Cmp, same, diff, cmp, cond-true, cond-false, and_both, both-and, not-both, not-true, left_or, right_or, left_fails, right_fails, eqb-true, eqb_same, eqb-diff}
use Rattle.model.proofs.Laws.WaitingRow.{RowIs, RowFor, row_for, row_unique, row_among, left_gone, left_other, row_at_rest, idle-asks-none}
use Rattle.model.proofs.Invariant.Statement.{Inv}
use Rattle.model.proofs.Invariant.Frame.{SameLimits}
use Rattle.model.proofs.Theorems.Answering.{asked, fairly, step_fair, asked_wanted}
use Rattle.model.proofs.Theorems.Calls.{call_kept}
use Rattle.model.proofs.Theorems.AllSteps.{steps_kept}
use Rattle.theory.proofs.Reached.{started_inv, reached_inv, final_append}
use Rattle.theory.proofs.SizesStay.{sized_root_lem, call_limits, limits_on, start_limits}
use Rattle.theory.proofs.UnderWay.{Met, no_party, nothing-begun, under_way_lem, meets, entered_under}
use Rattle.model.proofs.Laws.WaitLedger.{parties_in, waits_among, Asked, WaitsOk, behind_is, parties_leave}
use Rattle.theory.proofs.WaitLedger.{call_waits}
use Rattle.theory.proofs.Grants.{start-waits}
use Rattle.theory.proofs.Alters.{waits_for_lock, quiet_alters}

-- One for a test that holds.
abbrev one : Bool → ℕ
one t = cond t 1 0

-- ---- An entry, and who may stand before it

abbrev InFront : (ℕ → Type 0) → ℕ → Claim → List Hold → Type 0
InFront may p c [] = ⊥
InFront may p c (w ∷ ws) = (w ≡ hold p c) ⊎ (may w.party × InFront may p c ws)

module _ (may : ℕ → Type 0) (p : ℕ) (c : Claim) where
  -- One who comes later comes behind it.
  front_append : (ws : List Hold) (v : Hold) → InFront may p c ws → InFront may p c (ws ++ (v ∷ []))
  front_append [] v h = absurd h
  front_append (w ∷ ws) v (inl e) = inl e
  front_append (w ∷ ws) v (inr h) = inr (h.0, front_append ws v h.1)

  front_join : (ws : List Hold) (q : ℕ) (o : Option Claim) → InFront may p c ws → InFront may p c (joins ws q o)
  unfolding joins
  front_join ws q none h = h
  front_join ws q (some d) h = go (waits_in ws q)
    where
      go : (t : Bool) → InFront may p c (cond t ws (ws ++ (hold q d ∷ [])))
      go true = h
      go false = front_append ws (hold q d) h

  -- Another who leaves does not matter.
  front_leave : (ws : List Hold) (q : ℕ) → p ≢ q → InFront may p c ws → InFront may p c (leaves ws q)
  unfolding leaves
  front_leave [] q n h = absurd h
  front_leave (w ∷ ws) q n h = go (tell (eqb w.party q)) h (λ k. front_leave ws q n k)
    where
      go : Told (eqb w.party q) → (w ≡ hold p c) ⊎ (may w.party × InFront may p c ws) → (InFront may p c ws → InFront may p c (leaves ws q))
          → InFront may p c (cond (eqb w.party q) ws (w ∷ leaves ws q))
      go (holds t) (inl e) ih = absurd (n (sym (ap (λ (v : Hold). v.party) e) ∙ eqb-true w.party q t))
      go (holds t) (inr k) ih = rw t k.1
      go (fails t) (inl e) ih = rw t (inl e)
      go (fails t) (inr k) ih = rw t (inr (k.0, ih k.1))

  -- Its party requests its lock.
  front_asks : (r : Root) (ps : List Party) (ws : List Hold) → Asked r ps ws → InFront may p c ws → requests r (party_at ps p) ≡ some c
  front_asks r ps [] a h = absurd h
  front_asks r ps (w ∷ ws) a (inl e) = subst (λ (v : Hold). requests r (party_at ps v.party) ≡ some v.claim) e a.0
  front_asks r ps (w ∷ ws) a (inr h) = front_asks r ps ws a.1 h.1

  -- Who is in the ledger has an entry.
  front_start : (r : Root) (ps : List Party) (ws : List Hold) → Asked r ps ws → requests r (party_at ps p) ≡ some c → waits_in ws p ≡ true → ((j : ℕ) → waits_in ws j ≡ true → may j) → InFront may p c ws
  unfolding waits_in
  front_start r ps [] a e h f = absurd (false≢true h)
  front_start r ps (w ∷ ws) a e h f = go (cmp w.party p) (λ k. front_start r ps ws a.1 e k (λ j t. f j (right_or (eqb w.party j) t)))
    where
      pick : Option Claim → Claim
      pick none = c
      pick (some x) = x

      go : Cmp w.party p → (waits_in ws p ≡ true → InFront may p c ws) → (w ≡ hold p c) ⊎ (may w.party × InFront may p c ws)
      go (same s) ih =
          let lock : w.claim ≡ c = ap pick (sym a.0 ∙ ap (λ (j : ℕ). requests r (party_at ps j)) s ∙ e) in
          inl (λ k. record { party = s k; claim = lock k })
      go (diff n) ih = inr (f w.party (left_or (waits_in ws w.party) (eqb_same w.party w.party refl)), ih (rw (eqb-diff w.party p n) at h))

-- Who stands behind it is not granted a lock that conflicts.
before_true : (p q : ℕ) (c d : Claim) (ws : List Hold) → p ≢ q → d.word ≡ c.word → table_one d.mode c.mode ≡ false → InFront (λ j. j ≢ q) p c ws → waits_before ws q d ≡ true
unfolding waits_before
before_true p q c d [] n e t h = absurd h
before_true p q c d (w ∷ ws) n e t (inl s) =
    subst (λ (v : Hold). waits_before (v ∷ ws) q d ≡ true) (sym s) (rw (eqb-diff p q n, eqb_same c.word d.word (sym e), t) refl)
before_true p q c d (w ∷ ws) n e t (inr h) =
    rw (eqb-diff w.party q h.0) (right_or (eqb w.claim.word d.word && not (table_one d.mode w.claim.mode)) (before_true p q c d ws n e t h.1))

-- ---- Who is in the ledger after one leaves or joins

leave_other : (ws : List Hold) (p q : ℕ) → p ≢ q → waits_in (leaves ws q) p ≡ waits_in ws p
leave_other ws p q n = waits_among (leaves ws q) p ∙ ap (is_among p) (parties_leave ws q) ∙ left_other q p (parties_in ws) n ∙ sym (waits_among ws p)

leave_own : (ws : List Hold) (q : ℕ) → none_twice (parties_in ws) ≡ true → waits_in (leaves ws q) q ≡ false
leave_own ws q h = waits_among (leaves ws q) q ∙ ap (is_among q) (parties_leave ws q) ∙ left_gone q (parties_in ws) h

append_own : (ws : List Hold) (q : ℕ) (c : Claim) → waits_in (ws ++ (hold q c ∷ [])) q ≡ true
unfolding waits_in
append_own [] q c = left_or false (eqb_same q q refl)
append_own (w ∷ ws) q c = right_or (eqb w.party q) (append_own ws q c)

append_other : (ws : List Hold) (p q : ℕ) (c : Claim) → p ≢ q → waits_in (ws ++ (hold q c ∷ [])) p ≡ waits_in ws p
unfolding waits_in
append_other [] p q c n = rw (eqb-diff q p (λ e. n (sym e))) refl
append_other (w ∷ ws) p q c n = ap (λ (t : Bool). eqb w.party p || t) (append_other ws p q c n)

join_own : (ws : List Hold) (q : ℕ) (c : Claim) → waits_in (joins ws q (some c)) q ≡ true
unfolding joins
join_own ws q c = go (tell (waits_in ws q))
  where
    go : Told (waits_in ws q) → waits_in (cond (waits_in ws q) ws (ws ++ (hold q c ∷ []))) q ≡ true
    go (holds t) = ap (λ (s : Bool). waits_in (cond s ws (ws ++ (hold q c ∷ []))) q) t ∙ t
    go (fails t) = ap (λ (s : Bool). waits_in (cond s ws (ws ++ (hold q c ∷ []))) q) t ∙ append_own ws q c

join_other : (ws : List Hold) (p q : ℕ) (o : Option Claim) → p ≢ q → waits_in (joins ws q o) p ≡ waits_in ws p
unfolding joins
join_other ws p q none n = refl
join_other ws p q (some c) n = go (waits_in ws q)
  where
    go : (t : Bool) → waits_in (cond t ws (ws ++ (hold q c ∷ []))) p ≡ waits_in ws p
    go true = refl
    go false = append_other ws p q c n

-- ---- A run

-- A memory that calls have led to, with its ledger.
pub record Along (z : Root) (m : Memory) (ws : List Hold) : Type 0 where
  pub book : Book
  pub inv : Inv m book
  pub limits : SameLimits z m.root
  pub waits : WaitsOk m.root m.parties m.waiting ws

pub along_call : (z : Root) (m : Memory) (ws : List Hold) → Along z m ws → (c : Call) → Along z (after_call m c) (waits_after z ws m c)
along_call z m ws a c = record {
  book = _;
  inv = (call_kept steps_kept m a.book a.inv c).inv;
  limits = limits_on z m.root (after_call m c).root a.limits (call_limits m c);
  waits = call_waits steps_kept z m a.book a.inv a.limits ws a.waits c;
}

pub along_run : (z : Root) (m : Memory) (ws : List Hold) → Along z m ws → (cs : List Call) → Along z (final_memory m cs) (waits_at_end z ws m cs)
unfolding final_memory waits_at_end
along_run z m ws a [] = a
along_run z m ws a (c ∷ cs) = along_run z (after_call m c) (waits_after z ws m c) (along_call z m ws a c) cs

pub along_start : (s : Start) → Along (sizes_of s) (start s) []
along_start s = record { book = book_start s; inv = started_inv s; limits = start_limits s; waits = start-waits s }

module _ (z : Root) (m : Memory) (ws : List Hold) (a : Along z m ws) where
  row_parts : RowFor m.root m.parties m.waiting (parties_in ws)
  row_parts = subst (RowFor m.root m.parties m.waiting) a.waits.parties= (row_for m.root m.parties m.waiting a.inv.row_ok)

  want= : (q : ℕ) → wanted_by z m q ≡ wants m.root (party_at m.parties q)
  want= q = ap (λ (r : Root). wants r (party_at m.parties q)) (sized_root_lem z m.root a.limits)

  -- ---- Who waits by the events is in the ledger

  step_ledger : (p q : ℕ) (x : StepReply) → (step_call m q).answer ≡ x
      → cond (eqb q p) (cond (ends_wait (to_step x)) false (waits_in ws p || answers_waiting (to_step x))) (waits_in ws p) ≡ waits_in (waits_after_step ws q (wanted_by z m q) x) p
  unfolding ends_wait answers_waiting performs waits_after_step
  step_ledger p q x e = go (cmp q p) x e
    where
      other : (x : StepReply) → p ≢ q → waits_in (waits_after_step ws q (wanted_by z m q) x) p ≡ waits_in ws p
      other (Ok StepAnswer.Waiting) n = join_other ws p q (wanted_by z m q) n
      other (Ok StepAnswer.Moved) n = leave_other ws p q n
      other (Ok (StepAnswer.Done y s)) n = leave_other ws p q n
      other (Err k) n = refl

      gone : q ≡ p → waits_in (leaves ws q) p ≡ false
      gone s = subst (λ (j : ℕ). waits_in (leaves ws q) j ≡ false) s (leave_own ws q row_parts.once)

      or-true : (t : Bool) → (t || true) ≡ true
      or-true true = refl
      or-true false = refl

      or_same : (t : Bool) → (t || false) ≡ t
      or_same true = refl
      or_same false = refl

      own : (x : StepReply) → (step_call m q).answer ≡ x → q ≡ p
          → cond (ends_wait (to_step x)) false (waits_in ws p || answers_waiting (to_step x)) ≡ waits_in (waits_after_step ws q (wanted_by z m q) x) p
      own (Ok StepAnswer.Waiting) e s =
          let lock = waits_for_lock m q e in
          or-true (waits_in ws p)
          ∙ sym (subst (λ (j : ℕ). waits_in (joins ws q (wanted_by z m q)) j ≡ true) s
          (subst (λ (o : Option Claim). waits_in (joins ws q o) q ≡ true) (sym (want= q ∙ lock.wanted)) (join_own ws q lock.lock)))
      own (Ok StepAnswer.Moved) e s = sym (gone s)
      own (Ok (StepAnswer.Done y t)) e s = sym (gone s)
      own (Err k) e s = or_same (waits_in ws p)

      go : Cmp q p → (x : StepReply) → (step_call m q).answer ≡ x
          → cond (eqb q p) (cond (ends_wait (to_step x)) false (waits_in ws p || answers_waiting (to_step x))) (waits_in ws p) ≡ waits_in (waits_after_step ws q (wanted_by z m q) x) p
      go (same s) x e = cond-true (eqb q p) _ _ (eqb_same q p s) ∙ own x e s
      go (diff n) x e = cond-false (eqb q p) _ _ (eqb-diff q p n) ∙ sym (other x (λ s. n (sym s)))

  withdraw_ledger : (p q : ℕ) (x : CallReply)
      → cond (eqb q p) (cond (ends_wait (to_withdraw x)) false (waits_in ws p || answers_waiting (to_withdraw x))) (waits_in ws p) ≡ waits_in (waits_after_withdraw ws q x) p
  unfolding ends_wait answers_waiting waits_after_withdraw
  withdraw_ledger p q x = go (cmp q p) x
    where
      or_same : (t : Bool) → (t || false) ≡ t
      or_same true = refl
      or_same false = refl

      go : Cmp q p → (x : CallReply)
          → cond (eqb q p) (cond (ends_wait (to_withdraw x)) false (waits_in ws p || answers_waiting (to_withdraw x))) (waits_in ws p) ≡ waits_in (waits_after_withdraw ws q x) p
      go (same s) (Ok _) = cond-true (eqb q p) _ _ (eqb_same q p s) ∙ sym (subst (λ (j : ℕ). waits_in (leaves ws q) j ≡ false) s (leave_own ws q row_parts.once))
      go (same s) (Err n) = cond-true (eqb q p) _ _ (eqb_same q p s) ∙ or_same (waits_in ws p)
      go (diff d) (Ok _) = cond-false (eqb q p) _ _ (eqb-diff q p d) ∙ sym (leave_other ws p q (λ s. d (sym s)))
      go (diff d) (Err n) = cond-false (eqb q p) _ _ (eqb-diff q p d)

  begin_ledger : (p q : ℕ) (x : CallReply) → cond (eqb q p) (cond (ends_wait (to_begin x)) false (waits_in ws p || answers_waiting (to_begin x))) (waits_in ws p) ≡ waits_in ws p
  unfolding ends_wait answers_waiting
  begin_ledger p q x = go (eqb q p) (waits_in ws p)
    where
      go : (t w : Bool) → cond t (w || false) w ≡ w
      go true true = refl
      go true false = refl
      go false w = refl

  waits_call : (p : ℕ) (c : Call) → waits_then p (waits_in ws p) (event_of m c) ≡ waits_in (waits_after z ws m c) p
  unfolding waits_then event_of reply_to waits_after
  waits_call p (begin_for q o k) = begin_ledger p q _
  waits_call p (step_for q) = step_ledger p q _ refl
  waits_call p (withdraw_for q) = withdraw_ledger p q _

  -- ---- An entry is kept

  front_call : (may : ℕ → Type 0) (p : ℕ) (c : Claim) → InFront may p c ws → (x : Call) → (eqb (caller_of x) p && ends_wait (reply_to m x)) ≡ false → InFront may p c (waits_after z ws m x)
  unfolding reply_to waits_after ends_wait performs waits_after_step waits_after_withdraw
  front_call may p c h (begin_for q o k) e = h
  front_call may p c h (step_for q) e = go (step_call m q).answer e
    where
      apart : (eqb q p && true) ≡ false → p ≢ q
      apart t s = not-both (eqb q p && true) (both-and (eqb_same q p (sym s)) refl) t

      go : (y : StepReply) → (eqb q p && performs y) ≡ false → InFront may p c (waits_after_step ws q (wanted_by z m q) y)
      go (Ok StepAnswer.Waiting) t = front_join may p c ws q (wanted_by z m q) h
      go (Ok StepAnswer.Moved) t = front_leave may p c ws q (apart t) h
      go (Ok (StepAnswer.Done y s)) t = front_leave may p c ws q (apart t) h
      go (Err n) t = h
  front_call may p c h (withdraw_for q) e = go (withdraw_call m q).answer e
    where
      apart : (eqb q p && true) ≡ false → p ≢ q
      apart t s = not-both (eqb q p && true) (both-and (eqb_same q p (sym s)) refl) t

      go : (y : CallReply) → (eqb q p && ends_wait (to_withdraw y)) ≡ false → InFront may p c (waits_after_withdraw ws q y)
      go (Ok _) t = front_leave may p c ws q (apart t) h
      go (Err n) t = h

  -- ---- One who stands behind it waits

  -- A party that wants a lock has an operation under way.
  wants_under_way : (q : ℕ) (d : Claim) → wanted_by z m q ≡ some d → Met m a.book a.inv q → has_step (party_at m.parties q).operation (party_at m.parties q).step ≡ true
  unfolding wants want_table is_some
  wants_under_way q d e (no_party h _ _ _) =
      absurd (false≢true (ap is_some (sym (ap (wants m.root) (get_or-eq_default m.parties idle (omega (arith, h, a.inv.parties_many)))) ∙ sym (want= q) ∙ e)))
  wants_under_way q d e (nothing-begun _ s _ _ _) = absurd (false≢true (ap is_some (sym (ap (wants m.root) s) ∙ sym (want= q) ∙ e)))
  wants_under_way q d e (under_way_lem _ _ k _ _) = k.step_fits

  behind_waits : (q : ℕ) (d : Claim) → wanted_by z m q ≡ some d → waits_before ws q d ≡ true → (step_call m q).answer ≡ Ok StepAnswer.Waiting
  unfolding stepped is_granted fairly asked refusal_number has_step
  behind_waits q d e h = go (meets m a.book a.inv q)
    where
      has : has_step (party_at m.parties q).operation (party_at m.parties q).step ≡ true
      has = wants_under_way q d e (meets m a.book a.inv q)

      wanted : wants m.root (party_at m.parties q) ≡ some d
      wanted = sym (want= q) ∙ e

      stands : stands_behind m.root m.parties m.waiting q ≡ true
      stands = behind_is m.root m.parties m.waiting ws a.waits q d (asked_wanted (view_of m q) has ∙ wanted) ∙ h

      barred : is_granted (view_of m q) d ≡ false
      barred = right_fails (permits (get_or m.locks d.word 0) d.mode) (ap not stands)

      by : (x : StepReply) → refusal_number x ≡ 0 → asked false x ≡ true → x ≡ Ok StepAnswer.Waiting
      by (Ok StepAnswer.Waiting) r f = refl
      by (Ok StepAnswer.Moved) r f = absurd (false≢true f)
      by (Ok (StepAnswer.Done y s)) r f = absurd (false≢true f)
      by (Err n) r f = absurd (cause_some n r)

      go : Met m a.book a.inv q → (step_call m q).answer ≡ Ok StepAnswer.Waiting
      go (no_party l _ _ _) =
          absurd (false≢true (ap (λ (u : Party). has_step u.operation u.step) (sym (get_or-eq_default m.parties idle (omega (arith, l, a.inv.parties_many)))) ∙ has))
      go (nothing-begun l s _ _ c) = absurd (false≢true (ap (λ (u : Party). has_step u.operation u.step) (sym s) ∙ has))
      go (under_way_lem l x k f c) =
          ap (λ (y : Called StepReply). y.answer) c
          ∙ by (step_of (party_at m.parties q).step (view_of m q)).answer (steps_kept m a.book a.inv q l has).allowed
          (subst (λ (t : Bool). asked t (step_of (party_at m.parties q).step (view_of m q)).answer ≡ true) barred
          (subst (λ (o : Option Claim). fairly (view_of m q) o (step_of (party_at m.parties q).step (view_of m q)).answer ≡ true) wanted (step_fair (view_of m q)).fair))

-- ---- Lists of calls

module _ (z : Root) where
  waits_run : (p : ℕ) (m : Memory) (ws : List Hold) → Along z m ws → (cs : List Call) → waits_on p (waits_in ws p) (events m cs) ≡ waits_in (waits_at_end z ws m cs) p
  unfolding waits_on events waits_at_end
  waits_run p m ws a [] = refl
  waits_run p m ws a (c ∷ cs) =
      ap (λ (w : Bool). waits_on p w (events (after_call m c) cs)) (waits_call z m ws a p c)
      ∙ waits_run p (after_call m c) (waits_after z ws m c) (along_call z m ws a c) cs

  -- An event that does not end p's wait, and the rest.
  stays-first : (p : ℕ) (m : Memory) (c : Call) (cs : List Call) → wait_stays p (events m (c ∷ cs)) ≡ true
      → ((eqb (caller_of c) p && ends_wait (reply_to m c)) ≡ false) × (wait_stays p (events (after_call m c) cs) ≡ true)
  unfolding wait_stays events event_of
  stays-first p m c cs h =
      let k = and_both (not (eqb (caller_of c) p && ends_wait (reply_to m c))) (wait_stays p (events (after_call m c) cs)) h in
      (not-true (eqb (caller_of c) p && ends_wait (reply_to m c)) k.0, k.1)

  front_run : (may : ℕ → Type 0) (p : ℕ) (c : Claim) (m : Memory) (ws : List Hold) → Along z m ws → InFront may p c ws → (ds : List Call) → wait_stays p (events m ds) ≡ true
      → InFront may p c (waits_at_end z ws m ds)
  unfolding waits_at_end
  front_run may p c m ws a h [] s = h
  front_run may p c m ws a h (x ∷ xs) s =
      let k = stays-first p m x xs s in
      front_run may p c (after_call m x) (waits_after z ws m x) (along_call z m ws a x) (front_call z m ws a may p c h x k.0) xs k.1

  -- ---- Passed at most once

  -- A pass to one who stands behind is none.
  no_pass : (p q : ℕ) (c : Claim) (m : Memory) (ws : List Hold) → Along z m ws → p ≢ q → InFront (λ j. j ≢ q) p c ws → (x : Call) → (is_pass z c m x && eqb (caller_of x) q) ≡ false
  unfolding is_pass is_moved clashes
  no_pass p q c m ws a n h (begin_for j o k) = refl
  no_pass p q c m ws a n h (withdraw_for j) = refl
  no_pass p q c m ws a n h (step_for j) = go (cmp j q)
    where
      waiting_moved : (x : StepReply) → x ≡ Ok StepAnswer.Waiting → is_moved x ≡ false
      waiting_moved x e = ap is_moved e

      by : (o : Option Claim) → wanted_by z m q ≡ o → (is_moved (step_call m q).answer && clashes c o) ≡ false
      by none e = right_fails (is_moved (step_call m q).answer) refl
      by (some d) e = from (tell (eqb d.word c.word && not (table_one d.mode c.mode)))
        where
          from : Told (eqb d.word c.word && not (table_one d.mode c.mode)) → (is_moved (step_call m q).answer && clashes c (some d)) ≡ false
          from (fails t) = right_fails (is_moved (step_call m q).answer) t
          from (holds t) =
              let k = and_both (eqb d.word c.word) (not (table_one d.mode c.mode)) t in
              left_fails (clashes c (some d)) (waiting_moved (step_call m q).answer
              (behind_waits z m ws a q d e (before_true p q c d ws n (eqb-true d.word c.word k.0) (not-true (table_one d.mode c.mode) k.1) h)))

      go : Cmp j q → (is_moved (step_call m j).answer && clashes c (wanted_by z m j) && eqb j q) ≡ false
      go (same s) = left_fails (eqb j q) (subst (λ (i : ℕ). (is_moved (step_call m i).answer && clashes c (wanted_by z m i)) ≡ false) (sym s) (by (wanted_by z m q) refl))
      go (diff d) = right_fails (is_moved (step_call m j).answer && clashes c (wanted_by z m j)) (eqb-diff j q d)

  -- So there are none.
  passes_none : (p q : ℕ) (c : Claim) (m : Memory) (ws : List Hold) → Along z m ws → p ≢ q → InFront (λ j. j ≢ q) p c ws → (ds : List Call) → wait_stays p (events m ds) ≡ true
      → passes_by z c q m ds ≡ 0
  unfolding passes_by
  passes_none p q c m ws a n h [] s = refl
  passes_none p q c m ws a n h (x ∷ xs) s =
      let k = stays-first p m x xs s in
      let first : one (is_pass z c m x && eqb (caller_of x) q) ≡ 0 = cond-false (is_pass z c m x && eqb (caller_of x) q) 1 0 (no_pass p q c m ws a n h x) in
      let rest = passes_none p q c (after_call m x) (waits_after z ws m x) (along_call z m ws a x) n (front_call z m ws a (λ j. j ≢ q) p c h x k.0) xs k.1 in
      omega (arith, first, rest)

  -- An entry's party is in the ledger.
  front_in : (may : ℕ → Type 0) (p : ℕ) (c : Claim) (ws : List Hold) → InFront may p c ws → waits_in ws p ≡ true
  unfolding waits_in
  front_in may p c [] h = absurd h
  front_in may p c (w ∷ ws) (inl e) = left_or (waits_in ws p) (eqb_same w.party p (ap (λ (v : Hold). v.party) e))
  front_in may p c (w ∷ ws) (inr h) = right_or (eqb w.party p) (front_in may p c ws h.1)

  -- Who passes leaves the ledger.
  pass_leaves : (q : ℕ) (c : Claim) (m : Memory) (ws : List Hold) → Along z m ws → (x : Call) → is_pass z c m x ≡ true → caller_of x ≡ q → waits_in (waits_after z ws m x) q ≡ false
  unfolding is_pass waits_after waits_after_step is_moved
  pass_leaves q c m ws a (begin_for j o k) h e = absurd (false≢true h)
  pass_leaves q c m ws a (withdraw_for j) h e = absurd (false≢true h)
  pass_leaves q c m ws a (step_for j) h e = go (step_call m j).answer (and_both (is_moved (step_call m j).answer) (clashes c (wanted_by z m j)) h).0
    where
      go : (y : StepReply) → is_moved y ≡ true → waits_in (waits_after_step ws j (wanted_by z m j) y) q ≡ false
      go (Ok StepAnswer.Waiting) t = absurd (false≢true t)
      go (Ok StepAnswer.Moved) t = subst (λ (i : ℕ). waits_in (leaves ws j) i ≡ false) e (leave_own ws j (row_parts z m ws a).once)
      go (Ok (StepAnswer.Done y u)) t = absurd (false≢true t)
      go (Err n) t = absurd (false≢true t)

  abbrev Any : ℕ → Type 0
  Any j = Unit {0}

  passes_once : (p q : ℕ) (c : Claim) (m : Memory) (ws : List Hold) → Along z m ws → p ≢ q → InFront Any p c ws → (ds : List Call) → wait_stays p (events m ds) ≡ true → passes_by z c q m ds ≤ 1
  unfolding passes_by
  passes_once p q c m ws a n h [] s = omega arith
  passes_once p q c m ws a n h (x ∷ xs) s = go (tell (is_pass z c m x && eqb (caller_of x) q)) (passes_once p q c (after_call m x) ws_then along_then n front_then xs k.1)
    where
      k : ((eqb (caller_of x) p && ends_wait (reply_to m x)) ≡ false) × (wait_stays p (events (after_call m x) xs) ≡ true)
      k = stays-first p m x xs s

      ws_then : List Hold
      ws_then = waits_after z ws m x

      along_then : Along z (after_call m x) ws_then
      along_then = along_call z m ws a x

      front_then : InFront Any p c ws_then
      front_then = front_call z m ws a Any p c h x k.0

      go : Told (is_pass z c m x && eqb (caller_of x) q) → passes_by z c q (after_call m x) xs ≤ 1 → cond (is_pass z c m x && eqb (caller_of x) q) 1 0 + passes_by z c q (after_call m x) xs ≤ 1
      go (fails t) ih = let first : one (is_pass z c m x && eqb (caller_of x) q) ≡ 0 = cond-false (is_pass z c m x && eqb (caller_of x) q) 1 0 t in omega (arith, first, ih)
      go (holds t) ih =
          let both = and_both (is_pass z c m x) (eqb (caller_of x) q) t in
          let gone = pass_leaves q c m ws a x both.0 (eqb-true (caller_of x) q both.1) in
          let front = front_start (λ j. j ≢ q) p c (after_call m x).root (after_call m x).parties ws_then along_then.waits.entered
          (front_asks Any p c (after_call m x).root (after_call m x).parties ws_then along_then.waits.entered front_then) (front_in Any p c ws_then front_then)
          (λ j w e. not-both (waits_in ws_then j) w (subst (λ (i : ℕ). waits_in ws_then i ≡ false) (sym e) gone)) in
          let first : one (is_pass z c m x && eqb (caller_of x) q) ≡ 1 = cond-true (is_pass z c m x && eqb (caller_of x) q) 1 0 t in
          let rest = passes_none p q c (after_call m x) ws_then along_then n front xs k.1 in
          omega (arith, first, rest)

  -- Who waits passes nobody.
  pass_ends : (p : ℕ) (c : Claim) (m : Memory) (x : Call) → (eqb (caller_of x) p && ends_wait (reply_to m x)) ≡ false → (is_pass z c m x && eqb (caller_of x) p) ≡ false
  unfolding is_pass reply_to ends_wait performs is_moved
  pass_ends p c m (begin_for j o k) e = refl
  pass_ends p c m (withdraw_for j) e = refl
  pass_ends p c m (step_for j) e = go (eqb j p) (step_call m j).answer e
    where
      go : (t : Bool) (y : StepReply) → (t && performs y) ≡ false → (is_moved y && clashes c (wanted_by z m j) && t) ≡ false
      go true (Ok StepAnswer.Waiting) h = refl
      go true (Ok StepAnswer.Moved) h = absurd (false≢true (sym h))
      go true (Ok (StepAnswer.Done y u)) h = absurd (false≢true (sym h))
      go true (Err n) h = refl
      go false y h = right_fails (is_moved y && clashes c (wanted_by z m j)) refl

  passes_self : (p : ℕ) (c : Claim) (m : Memory) (ds : List Call) → wait_stays p (events m ds) ≡ true → passes_by z c p m ds ≡ 0
  unfolding passes_by
  passes_self p c m [] s = refl
  passes_self p c m (x ∷ xs) s =
      let k = stays-first p m x xs s in
      let first : one (is_pass z c m x && eqb (caller_of x) p) ≡ 0 = cond-false (is_pass z c m x && eqb (caller_of x) p) 1 0 (pass_ends p c m x k.0) in
      let rest = passes_self p c (after_call m x) xs k.1 in
      omega (arith, first, rest)

  passes_most : (p q : ℕ) (c : Claim) (m : Memory) (ws : List Hold) → Along z m ws → InFront Any p c ws → (ds : List Call) → wait_stays p (events m ds) ≡ true → passes_by z c q m ds ≤ 1
  passes_most p q c m ws a h ds s = go (cmp p q)
    where
      go : Cmp p q → passes_by z c q m ds ≤ 1
      go (same e) = let n = subst (λ (j : ℕ). passes_by z c j m ds ≡ 0) e (passes_self p c m ds s) in omega (arith, n)
      go (diff n) = passes_once p q c m ws a n h ds s

-- ---- All parties together

sum_below : ℕ → (ℕ → ℕ) → ℕ
sum_below zero f = 0
sum_below (suc n) f = f n + sum_below n f

sum_zero : (n : ℕ) (f : ℕ → ℕ) → ((q : ℕ) → f q ≡ 0) → sum_below n f ≡ 0
unfolding sum_below
sum_zero zero f h = refl
sum_zero (suc n) f h = omega (arith, h n, sum_zero n f h)

sum_add : (n : ℕ) (f g : ℕ → ℕ) → sum_below n (λ q. f q + g q) ≡ sum_below n f + sum_below n g
unfolding sum_below
sum_add zero f g = omega arith
sum_add (suc n) f g = omega (arith, sum_add n f g)

sum_same : (n : ℕ) (f g : ℕ → ℕ) → ((q : ℕ) → f q ≡ g q) → sum_below n f ≡ sum_below n g
unfolding sum_below
sum_same zero f g h = refl
sum_same (suc n) f g h = omega (arith, h n, sum_same n f g h)

sum_past : (n i : ℕ) → n ≤ i → sum_below n (λ q. cond (eqb i q) 1 0) ≡ 0
unfolding sum_below
sum_past zero i l = refl
sum_past (suc n) i l =
    let first : one (eqb i n) ≡ 0 = cond-false (eqb i n) 1 0 (eqb-diff i n (λ e. omega (arith, e, l))) in
    omega (arith, first, sum_past n i (omega (arith, l)))

sum_one : (n i : ℕ) → i < n → sum_below n (λ q. cond (eqb i q) 1 0) ≡ 1
unfolding sum_below
sum_one zero i l = absurd (omega (arith, l))
sum_one (suc n) i l = go (cmp i n) (λ k. sum_one n i k)
  where
    go : Cmp i n → (i < n → sum_below n (λ q. cond (eqb i q) 1 0) ≡ 1) → one (eqb i n) + sum_below n (λ q. cond (eqb i q) 1 0) ≡ 1
    go (same e) ih =
        let first : one (eqb i n) ≡ 1 = cond-true (eqb i n) 1 0 (eqb_same i n e) in
        omega (arith, first, sum_past n i (omega (arith, e)))
    go (diff d) ih =
        let first : one (eqb i n) ≡ 0 = cond-false (eqb i n) 1 0 (eqb-diff i n d) in
        omega (arith, first, ih (omega (arith, l, d)))

sum_most : (n : ℕ) (f : ℕ → ℕ) → ((q : ℕ) → f q ≤ 1) → sum_below n f ≤ n
unfolding sum_below
sum_most zero f h = omega arith
sum_most (suc n) f h = omega (arith, h n, sum_most n f h)

sum_less : (n p : ℕ) (f : ℕ → ℕ) → p < n → f p ≡ 0 → ((q : ℕ) → f q ≤ 1) → sum_below n f + 1 ≤ n
unfolding sum_below
sum_less zero p f l z h = absurd (omega (arith, l))
sum_less (suc n) p f l z h = go (cmp p n) (λ k. sum_less n p f k z h)
  where
    go : Cmp p n → (p < n → sum_below n f + 1 ≤ n) → f n + sum_below n f + 1 ≤ suc n
    go (same e) ih = let first = subst (λ (j : ℕ). f j ≡ 0) e z in omega (arith, first, sum_most n f h)
    go (diff d) ih = omega (arith, h n, ih (omega (arith, l, d)))

module _ (z : Root) (c : Claim) where
  -- A pass is of a party of the row.
  pass_there : (m : Memory) (ws : List Hold) → Along z m ws → (x : Call) → is_pass z c m x ≡ true → caller_of x < z.parties
  unfolding is_pass is_moved
  pass_there m ws a (begin_for j o k) h = absurd (false≢true h)
  pass_there m ws a (withdraw_for j) h = absurd (false≢true h)
  pass_there m ws a (step_for j) h = go (meets m a.book a.inv j) (and_both (is_moved (step_call m j).answer) (clashes c (wanted_by z m j)) h).0
    where
      go : Met m a.book a.inv j → is_moved (step_call m j).answer ≡ true → j < z.parties
      go (no_party _ _ _ e) t = absurd (false≢true (sym (ap (λ (y : Called StepReply). is_moved y.answer) e) ∙ t))
      go (nothing-begun _ _ _ _ e) t = absurd (false≢true (sym (ap (λ (y : Called StepReply). is_moved y.answer) e) ∙ t))
      go (under_way_lem l _ _ _ _) t = omega (arith, l, a.limits.parties=)

  passes_sum : (m : Memory) (ws : List Hold) → Along z m ws → (ds : List Call) → passes_all z c m ds ≡ sum_below z.parties (λ q. passes_by z c q m ds)
  unfolding passes_all passes_by
  passes_sum m ws a [] = sym (sum_zero z.parties (λ q. 0) (λ q. refl))
  passes_sum m ws a (x ∷ xs) =
      let rest = passes_sum (after_call m x) (waits_after z ws m x) (along_call z m ws a x) xs in
      let parts = sum_add z.parties (λ q. cond (is_pass z c m x && eqb (caller_of x) q) 1 0) (λ q. passes_by z c q (after_call m x) xs) in
      omega (arith, rest, parts, first (tell (is_pass z c m x)))
    where
      first : Told (is_pass z c m x) → one (is_pass z c m x) ≡ sum_below z.parties (λ q. cond (is_pass z c m x && eqb (caller_of x) q) 1 0)
      first (holds t) =
          cond-true (is_pass z c m x) 1 0 t ∙ sym (sum_one z.parties (caller_of x) (pass_there m ws a x t))
          ∙ sum_same z.parties (λ q. cond (eqb (caller_of x) q) 1 0) (λ q. cond (is_pass z c m x && eqb (caller_of x) q) 1 0)
          (λ q. ap (λ (s : Bool). cond (s && eqb (caller_of x) q) 1 0) (sym t))
      first (fails t) =
          cond-false (is_pass z c m x) 1 0 t
          ∙ sym (sum_zero z.parties (λ q. cond (is_pass z c m x && eqb (caller_of x) q) 1 0) (λ q. cond-false (is_pass z c m x && eqb (caller_of x) q) 1 0 (left_fails (eqb (caller_of x) q) t)))

  passes_total : (p : ℕ) (m : Memory) (ws : List Hold) → Along z m ws → InFront (λ j. Unit {0}) p c ws → (ds : List Call) → wait_stays p (events m ds) ≡ true → passes_all z c m ds + 1 ≤ z.parties
  passes_total p m ws a h ds s =
      let there = ((row_parts z m ws a).asking p (sym (waits_among ws p) ∙ front_in z (λ j. Unit {0}) p c ws h)).there in
      let less = sum_less z.parties p (λ q. passes_by z c q m ds) (omega (arith, there, a.limits.parties=)) (passes_self z p c m ds s) (λ q. passes_most z p q c m ws a h ds s) in
      omega (arith, less, passes_sum m ws a ds)

-- ---- A ledger written as a row

words_are : (ws : List Hold) (n : ℕ) → RowIs (words_of_ledger ws ++ replicate n 0) (parties_in ws)
unfolding words_of_ledger all_zero
words_are [] zero = refl
words_are [] (suc n) = words_are [] n
words_are (w ∷ ws) n = (refl, words_are ws n)

length_words : (ws : List Hold) → length (words_of_ledger ws) ≡ length ws
unfolding words_of_ledger
length_words [] = refl
length_words (w ∷ ws) = ap suc (length_words ws)

length_parties : (ws : List Hold) → length (parties_in ws) ≡ length ws
length_parties [] = refl
length_parties (w ∷ ws) = ap suc (length_parties ws)

row_fits : (row qs : List ℕ) → RowIs row qs → length qs ≤ length row
row_fits row [] h = omega arith
row_fits [] (q ∷ qs) h = absurd h
row_fits (x ∷ xs) (q ∷ qs) h = let l = row_fits xs qs h.1 in omega (arith, l)

-- What one requests it wants.
requested_wanted : (r : Root) (p : Party) (c : Claim) → requests r p ≡ some c → wants r p ≡ some c
unfolding requests is_some
requested_wanted r p c e = go (has_step p.operation p.step) e
  where
    go : (t : Bool) → cond t (wants r p) none ≡ some c → wants r p ≡ some c
    go true h = h
    go false h = absurd (false≢true (ap is_some h))

-- ---- The theorems

-- What a party wants it requests.
asks_of : (z : Root) (m : Memory) (ws : List Hold) (a : Along z m ws) (q : ℕ) (d : Claim) → wanted_by z m q ≡ some d → requests m.root (party_at m.parties q) ≡ some d
asks_of z m ws a q d e = asked_wanted (view_of m q) (wants_under_way z m ws a q d e (meets m a.book a.inv q)) ∙ sym (want= z m ws a q) ∙ e

module _ (s : Start) (cs : List Call) where
  abbrev z : Root
  z = sizes_of s

  abbrev m : Memory
  m = Reached s cs

  abbrev ws : List Hold
  ws = ledger_reached s cs

  along : Along z m ws
  along = along_run z (start s) [] (along_start s) cs

  -- Who waits by the events is in the ledger.
  ledger_waits : (p : ℕ) → waits_after_events p (events (start s) cs) ≡ waits_in ws p
  unfolding waits_in
  ledger_waits p = waits_run z p (start s) [] (along_start s) cs

  entry_of : (may : ℕ → Type 0) (p : ℕ) (c : Claim) → WaitsFor s cs p c → ((j : ℕ) → waits_in ws j ≡ true → may j) → InFront may p c ws
  entry_of may p c w f = front_start may p c m.root m.parties ws along.waits.entered (asks_of z m ws along p c w.wanted) (sym (ledger_waits p) ∙ w.waits) f

  -- NOBODY IS OVERTAKEN.
  pub nobody_overtaken : (ds : List Call) (p q : ℕ) (c d : Claim) → NobodyOvertaken s cs ds p q c d
  nobody_overtaken ds p q c d = record {
    waits_too = λ w idle_q stays. subst (λ (u : Memory). wanted_by z u q ≡ some d → d.word ≡ c.word → table_one d.mode c.mode ≡ false → (step_call u q).answer ≡ Ok StepAnswer.Waiting)
        (sym (final_append (start s) cs ds)) (λ e k t. behind_waits z _ _ (along_run z m ws along ds) q d e (before_true p q c d _ (apart w idle_q) k t (kept w idle_q stays)));
  }
    where
      apart : WaitsFor s cs p c → waits_after_events q (events (start s) cs) ≡ false → p ≢ q
      apart w idle_q e = not-both (waits_after_events p (events (start s) cs)) w.waits (ap (λ (j : ℕ). waits_after_events j (events (start s) cs)) e ∙ idle_q)

      kept : WaitsFor s cs p c → waits_after_events q (events (start s) cs) ≡ false → wait_stays p (events m ds) ≡ true → InFront (λ j. j ≢ q) p c (waits_at_end z ws m ds)
      kept w idle_q stays =
          front_run z (λ j. j ≢ q) p c m ws along
          (entry_of (λ j. j ≢ q) p c w (λ j h e. not-both (waits_in ws j) h (subst (λ (i : ℕ). waits_in ws i ≡ false) (sym e) (sym (ledger_waits q) ∙ idle_q)))) ds stays

  -- WHAT ONE WAITS FOR STAYS.
  pub same_want : (ds : List Call) (p : ℕ) (c : Claim) → SameWant s cs ds p c
  same_want ds p c = record { same = λ w stays. subst (λ (u : Memory). wanted_by z u p ≡ some c) (sym (final_append (start s) cs ds)) (there w stays) }
    where
      there : WaitsFor s cs p c → wait_stays p (events m ds) ≡ true → wanted_by z (final_memory m ds) p ≡ some c
      there w stays =
          let a = along_run z m ws along ds in
          let h = front_run z (λ j. Unit {0}) p c m ws along (entry_of (λ j. Unit {0}) p c w (λ j h. tt)) ds stays in
          let e = front_asks (λ j. Unit {0}) p c (final_memory m ds).root (final_memory m ds).parties (waits_at_end z ws m ds) a.waits.entered h in
          want= z (final_memory m ds) (waits_at_end z ws m ds) a p ∙ requested_wanted (final_memory m ds).root (party_at (final_memory m ds).parties p) c e

  -- PASSED AT MOST ONCE.
  pub passed_once : (ds : List Call) (p : ℕ) (c : Claim) → PassedOnce s cs ds p c
  passed_once ds p c = record {
    once = λ w stays q. passes_most z p q c m ws along (entry_of (λ j. Unit {0}) p c w (λ j h. tt)) ds stays;
    in_all = λ w stays. passes_total z c p m ws along (entry_of (λ j. Unit {0}) p c w (λ j h. tt)) ds stays;
  }

  -- THE ROW IS THE LEDGER.
  pub row-is_ledger : RowIsLedger s cs
  row-is_ledger = record {
    row_is = row_unique m.waiting (words_of_ledger ws ++ replicate (z.parties - length ws) 0) (parties_in ws) f.is (words_are ws (z.parties - length ws)) many;
  }
    where
      f : RowFor m.root m.parties m.waiting (parties_in ws)
      f = row_parts z m ws along

      many : length m.waiting ≡ length (words_of_ledger ws ++ replicate (z.parties - length ws) 0)
      many =
          let short = row_fits m.waiting (parties_in ws) f.is in
          let all = length-append (words_of_ledger ws) (replicate (z.parties - length ws) 0) in
          omega (arith, f.long, along.limits.parties=, all, length_words ws, length_parties ws, short, length-replicate {A = ℕ} (z.parties - length ws) 0)

  -- A WAITING CALL OF ONE THAT WAITS ALTERS NOTHING.
  pub waits-again : (p : ℕ) → WaitsAgain s cs p
  waits-again p = record {
    again = λ w e. (quiet_alters m p).waits-again e
        (row_among p m.waiting (parties_in ws) (row_parts z m ws along).is ∙ sym (waits_among ws p) ∙ sym (ledger_waits p) ∙ w);
  }

  -- AT REST THE ROW IS ZERO.
  pub rests_clear : RestsClear s cs
  rests_clear = record {
    clear = λ rest. row_at_rest m.root m.parties m.waiting (reached_inv s cs).row_ok (λ q. none_asked rest q (meets m (book_reached s cs) (reached_inv s cs) q));
  }
    where
      none_asked : AtRest (book_reached s cs) → (q : ℕ) → Met m (book_reached s cs) (reached_inv s cs) q → is_some (requests m.root (party_at m.parties q)) ≡ false
      none_asked rest q (no_party h _ _ _) = idle-asks-none m.root (party_at m.parties q) (get_or-eq_default m.parties idle (omega (arith, h, (reached_inv s cs).parties_many)))
      none_asked rest q (nothing-begun _ e _ _ _) = idle-asks-none m.root (party_at m.parties q) e
      none_asked rest q (under_way_lem _ e k _ _) = absurd (false≢true (sym (rest q) ∙ entered_under (book_reached s cs) q e k.entry))
