-- Merges that fit, over every list of calls: 26 goes ahead exactly where the joined records fit and leaves the free list alone, 29 gives back what both chains had, and the joined chain has no
-- overflow page.
-- Main statements: one_page_read (a chain without overflow pages); call_fits (one call), run_fits (a list), merges_right (from formatted memory).
use mathlib.Core.Path.{◌≡◌, refl, ap, ◌∙◌, subst}
use mathlib.Core.Logic.{◌⊎◌, inl, inr}
use mathlib.Core.Bool.{Bool, true, false, cond, not, ◌&&◌, ◌||◌, false≢true, and-false}
use mathlib.Core.List.{List, [], ◌∷◌, ◌++◌}
use Prim.Native.Nat.{ℕ, suc, ◌+◌, ◌-◌, ◌<◌}
use native.Mathlib.Omega.{arith}
use lib.ListN.{length, set, length-set}
use lib.Dec.{eqb}
use Rattle.std.specs.Prelude.{Err}
use Rattle.model.specs.declared.Refusal.{Refusal}
use Rattle.model.specs.declared.Root.{Root}
use Rattle.model.specs.declared.Party.{Party}
use Rattle.model.specs.declared.Entry.{Entry}
use Rattle.model.specs.declared.Restructuring.TheVariants as Restructuring
use Rattle.model.specs.Records.{at_step}
use Rattle.model.specs.Answers.{is_moved, performs, answer_of, StepReply}
use Rattle.model.specs.Entries.{joined}
use Rattle.model.specs.Pages.{page_of, primary_page, link_to_first, scratch_page, with_page, zero_page, with_local_level, level_of, page_sound}
use Rattle.model.specs.Chains.{sound, chain_of, list_from, pages_in, pages_listed, records_read}
use Rattle.model.specs.Filling.{fits_primary}
use Rattle.model.specs.Outcome.{View, Outcome, guarded, moved, with_party, with_pages}
use Rattle.model.specs.FreeList.{given_back, pages_given_back}
use Rattle.model.specs.ScratchPages.{scratch_of}
use Rattle.model.specs.Endings.{ended_with, done}
use Rattle.model.specs.LockRequests.{root_exclusive, root_selective, given_up, without_hold, held_all}
use Rattle.model.specs.Steps.MergeLocks.{merge_locks, step30}
use Rattle.model.specs.Steps.MergeBuild.{combined, step26}
use Rattle.model.specs.Steps.MergeWrite.{partner_cleared, step28, step29}
use Rattle.model.specs.Steps.Dispatch.{step_of, step_table}
use Rattle.model.specs.Memory.{Memory, party_at, view_of}
use Rattle.model.specs.Calls.{Called, called, stepped, step_call, called_by}
use Rattle.model.specs.Runs.{Call, begin_for, step_for, withdraw_for, after_call, event_of}
use Rattle.model.specs.Book.{Book, changed_at}
use Rattle.model.specs.Progress.{book_after_call}
use Rattle.theory.specs.Links.{chain_pages, clock_start, trace_of, trace_of_step, trace_twenty_nine, Trace}
use Rattle.theory.specs.FittingMerges.{nothing_had, had_after, same_pages, is_one_page, joins_rightly, gives_rightly, leaves_one_page, merge_right, call_fits, merges_fit}
use Rattle.theory.specs.Demands.{Start, start, book_start}
use Rattle.model.proofs.Laws.Lists.{Cmp, same, diff, cmp, both-and, not-both, leb-true, eqb-true, eqb_same, eqb-diff, cond_ind, and_both, or_either}
use Rattle.model.proofs.Laws.Pages.{page_other, length-zero_page}
use Rattle.model.proofs.Laws.Structure.{ChainIs, chain_frame}
use Rattle.model.proofs.Laws.Reading.{chain_read, linked_list}
use Rattle.model.proofs.Invariant.Ghost.{in_chain, root_extent, size, local_level}
use Rattle.model.proofs.Invariant.Extents.{local_most, size_is}
use Rattle.model.proofs.Invariant.Statement.{Inv, live_for, MovedBack}
use Rattle.model.proofs.Invariant.Turn.{Turn, turn_at, me, before, live_now, restructures_at}
use Rattle.model.proofs.Laws.Filling.{one_page}
use Rattle.model.proofs.Laws.Joins.{length-joined}
use Rattle.model.proofs.Effects.BuiltChain.{chain_found}
use Rattle.model.proofs.Effects.Kept.{row_same}
use Rattle.model.proofs.Effects.ScratchPage.{has_scratch}
use Rattle.model.proofs.Steps.MergeBuild.{chain_live, other_live, step26-is}
use Rattle.model.proofs.Steps.MergeWrite.Partner.{step29-is}
use Rattle.model.proofs.Theorems.Merges.{step26_root, ended_no_move}
use Rattle.model.proofs.Theorems.Calls.{StepsKept, call_kept}
use Rattle.model.proofs.Theorems.AllSteps.{steps_kept}
use Rattle.theory.proofs.Reached.{started_inv}
use Rattle.theory.proofs.UnderWay.{Met, no_party, nothing-begun, under_way_lem, meets}

-- ---- The target of a merge that has been written

module _ {m : Memory} {b : Book} {q k : ℕ} (t : Turn m b q k) where
  -- A live chain without overflow pages reads as one page, whatever the other pages are.
  one_page_read : (c : ℕ) → c < size m.root.originals t.inv.ghost.live → t.inv.ghost.held (in_chain c) ≡ [] → (ps : List ℕ) → page_of ps (primary_page c) ≡ page_of m.pages (primary_page c)
      → is_one_page (chain_of m.root ps c) ≡ true
  unfolding is_one_page same_pages
  one_page_read c live none ps e =
      let level = local_level m.root.originals t.inv.ghost.live c in
      let es = t.inv.ghost.records c in
      let is = subst (λ (xs : List ℕ). ChainIs m.root.capacity m.pages c level es xs) none (t.inv.pages_ok.chain c live) in
      let there = chain_frame m.root.capacity m.pages ps c level es [] e tt is in
      rw (chain_read m.root ps c level es [] there (local_most t.inv c) tt (omega arith) (t.inv.pages_ok.ascends c live)) refl

  -- Once the root has moved back the target is the chain that next names.
  moved_back_read : restructures_at k ≡ true → live_for m.root (at_step k (me t)) ≡ root_extent m.root → MovedBack (before t) (me t) → t.inv.ghost.held (in_chain (me t).chain) ≡ []
      → (ps : List ℕ) → page_of ps (primary_page (me t).chain) ≡ page_of m.pages (primary_page (me t).chain) → is_one_page (chain_of m.root ps (me t).chain) ≡ true
  moved_back_read on same_live back none =
      let live : t.inv.ghost.live ≡ root_extent m.root = live_now t on ∙ same_live in
      one_page_read (me t).chain (rw live (omega (arith, back.target, t.inv.extents_ok.root_next, size_is m.root.originals (root_extent m.root)))) none

read_29 : {m : Memory} {b : Book} {q : ℕ} (t : Turn m b q 29) → is_one_page (chain_of m.root m.pages (party_at m.parties q).chain) ≡ true
unfolding live_for
read_29 {m} t = moved_back_read t refl refl t.facts.1 t.facts.0.one_page m.pages refl

read_30 : {m : Memory} {b : Book} {q : ℕ} (t : Turn m b q 30) (ps : List ℕ) → page_of ps (primary_page (party_at m.parties q).chain) ≡ page_of m.pages (primary_page (party_at m.parties q).chain)
    → is_one_page (chain_of m.root ps (party_at m.parties q).chain) ≡ true
unfolding live_for
read_30 t ps e = moved_back_read t refl refl t.facts.1 t.facts.2 ps e

-- ---- 26

-- It goes ahead exactly where a test holds.
goes_by : (t : Bool) (x y : Outcome) → is_moved x.answer ≡ true → is_moved y.answer ≡ false → cond (is_moved (cond t x y).answer) t (not t) ≡ true
goes_by true x y e f = rw e refl
goes_by false x y e f = rw f refl

-- Where it does the test holds.
went_by : (t : Bool) (x y : Outcome) → is_moved y.answer ≡ false → is_moved (cond t x y).answer ≡ true → t ≡ true
went_by true x y f h = refl
went_by false x y f h = absurd (not-both (is_moved y.answer) h f)

module _ {m : Memory} {b : Book} {q : ℕ} (t : Turn m b q 26) where
  abbrev v : View
  v = view_of m q

  abbrev target : List Entry
  target = t.inv.ghost.records (me t).chain

  abbrev partner : List Entry
  partner = t.inv.ghost.records (me t).other

  abbrev skips : Outcome
  skips = ended_with v (merge_locks root_exclusive (me t)) Restructuring.MergeSkipped

  records_are : joined (records_read (chain_of m.root m.pages (me t).chain)) (records_read (chain_of m.root m.pages (me t).other)) ≡ joined target partner
  unfolding records_read
  records_are = rw (chain_found m b t.inv (me t).chain (chain_live t), chain_found m b t.inv (me t).other (other_live t)) refl

  moves_rightly : cond (is_moved (step26 v).answer) (fits_primary m.root.capacity (joined target partner)) (not (fits_primary m.root.capacity (joined target partner))) ≡ true
  unfolding combined is_moved
  moves_rightly = rw (step26-is t) (goes_by (fits_primary m.root.capacity (joined target partner)) _ skips refl (ended_no_move v (merge_locks root_exclusive (me t)) Restructuring.MergeSkipped))

  -- Then neither chain has an overflow page.
  none_had : is_moved (step26 v).answer ≡ true → chain_pages v (me t).chain ++ chain_pages v (me t).other ≡ []
  unfolding fits_primary pages_in
  none_had h =
      let fits = went_by (fits_primary m.root.capacity (joined target partner)) _ skips (ended_no_move v (merge_locks root_exclusive (me t)) Restructuring.MergeSkipped) (rw (step26-is t) at h) in
      let few = leb-true (length (joined target partner)) m.root.capacity fits in
      let many = length-joined target partner in
      let here = one_page m.root.capacity m.pages (t.inv.ghost.held (in_chain (me t).chain)) target (omega arith) (t.inv.pages_ok.chain (me t).chain (chain_live t)).overflow in
      let there = one_page m.root.capacity m.pages (t.inv.ghost.held (in_chain (me t).other)) partner (omega arith) (t.inv.pages_ok.chain (me t).other (other_live t)).overflow in
      rw (chain_found m b t.inv (me t).chain (chain_live t), chain_found m b t.inv (me t).other (other_live t), here, there) refl

-- ---- 28, 29 and 30

-- A step that was performed passed its test.
passed : (v : View) (t : Bool) (o : Outcome) → performs (guarded v t o).answer ≡ true → guarded v t o ≡ o
unfolding performs
passed v true o h = refl
passed v false o h = absurd (false≢true h)

-- 30 leaves the root and the target's primary page.
record EndLeaves (m : Memory) (q : ℕ) (o : Outcome) : Type 0 where
  root= : o.after.root ≡ m.root
  page= : page_of o.after.pages (primary_page (party_at m.parties q).chain) ≡ page_of m.pages (primary_page (party_at m.parties q).chain)

end_leaves : {m : Memory} {b : Book} {q : ℕ} (t : Turn m b q 30) → EndLeaves m q (step30 (view_of m q))
unfolding step30 ended_with given_up without_hold
end_leaves {m} {b} {q} t = go (held_all (view_of m q) (merge_locks root_selective (me t)))
  where
    go : (held : Bool) → EndLeaves m q (guarded (view_of m q) held (done (answer_of (me t).answer) Restructuring.Merged (given_up (merge_locks root_selective (me t)) (view_of m q))))
    go true = record {
      root= = refl;
      page= = page_other m.pages (scratch_page m.root q) zero_page (has_scratch m b t.inv q t.in_row) length-zero_page (primary_page (me t).chain) (omega (arith, t.busy.chain_fits));
    }
    go false = record { root= = refl; page= = refl }

-- ---- One call of step, for a party under way

module _ (kept : StepsKept) (m : Memory) (b : Book) (i : Inv m b) (q : ℕ) (in_row : q < m.root.parties) (call : step_call m q ≡ stepped m q) where
  abbrev p : Party
  p = party_at m.parties q

  abbrev lent : View
  lent = view_of m q

  -- The call, where the step number is known.
  called-as : (k : ℕ) (f : View → Outcome) → p.step ≡ k → step_of k lent ≡ f lent → step_call m q ≡ called_by m q (f lent)
  unfolding stepped
  called-as k f e s =
      call ∙ ap (λ (n : ℕ). called_by m q (step_of n lent)) e ∙ ap (called_by m q) s

  joins_26 : p.step ≡ 26 → joins_rightly m q ≡ true
  unfolding joins_rightly step_of step_table
  joins_26 e =
      let t = turn_at m b i q in_row 25 e in
      let stays = step26_root lent in
      rw (called-as 26 step26 e refl, records_are t)
      (both-and (moves_rightly t) (both-and (eqb_same _ _ (ap (λ (r : Root). r.head) stays)) (eqb_same _ _ (ap (λ (r : Root). r.free) stays))))

  had_26 : p.step ≡ 26 → is_moved (step_call m q).answer ≡ true → chain_pages lent p.chain ++ chain_pages lent p.other ≡ []
  unfolding step_of step_table
  had_26 e h = none_had (turn_at m b i q in_row 25 e) (rw (called-as 26 step26 e refl) at h)

  -- The party's turn after a step that moved it on.
  turn_then : (n : ℕ) (o : Outcome) → step_call m q ≡ called_by m q o → o.after.number ≡ q → o.after.party ≡ at_step (suc n) p
      → Turn (called_by m q o).memory (book_after_call b m (step_for q)) q (suc n)
  unfolding after_call event_of
  turn_then n o c number= party= =
      let inv = subst (λ (x : Called StepReply). Inv x.memory (book_after_call b m (step_for q))) c (call_kept kept m b i (step_for q)).inv in
      let long : length (set m.parties o.after.number o.after.party) ≡ length m.parties = length-set m.parties o.after.number o.after.party in
      turn_at (called_by m q o).memory (book_after_call b m (step_for q)) inv q (omega (arith, long, inv.parties_many, i.parties_many)) n (ap (λ (x : Party). x.step) (record_then o number= party=))
    where
      record_then : (o : Outcome) → o.after.number ≡ q → o.after.party ≡ at_step (suc n) p → party_at (set m.parties o.after.number o.after.party) q ≡ at_step (suc n) p
      record_then o number= party= = rw (number=, party=) (row_same m.parties q (at_step (suc n) p) (omega (arith, i.parties_many)))

  -- The target, once the party is at 29 or 30.
  reads_then : (o : Outcome) → o.after.number ≡ q → o.after.party.chain ≡ p.chain → (r : Root) (ps : List ℕ)
      → is_one_page (chain_of r ps (party_at (set m.parties o.after.number o.after.party) q).chain) ≡ true → is_one_page (chain_of r ps p.chain) ≡ true
  reads_then o number= chain= r ps h =
      subst (λ (c : ℕ). is_one_page (chain_of r ps c) ≡ true)
      (ap (λ (x : ℕ). (party_at (set m.parties x o.after.party) q).chain) number= ∙ ap (λ (x : Party). x.chain) (row_same m.parties q o.after.party (omega (arith, i.parties_many))) ∙ chain=) h

  leaves_28 : p.step ≡ 28 → performs (step_call m q).answer ≡ true → leaves_one_page m q ≡ true
  unfolding leaves_one_page step_of step_table step28
  leaves_28 e h =
      let c = called-as 28 step28 e refl in
      let o = moved (with_party (at_step 29 p) (with_pages (with_page m.pages (primary_page p.chain) (with_local_level (level_of (scratch_of lent) - 1) (scratch_of lent))) lent)) in
      let is : step28 lent ≡ o = passed lent (page_sound m.root (scratch_of lent) && not (eqb (level_of (scratch_of lent)) 0)) o (rw c at h) in
      let done = c ∙ ap (called_by m q) is in
      rw done (reads_then o refl refl m.root o.after.pages (read_29 (turn_then 28 o done refl refl)))

  -- 29 gives back nothing.
  call_29 : p.step ≡ 29 → step_call m q ≡ called_by m q (partner_cleared lent [])
  unfolding step_of step_table partner_cleared
  call_29 e = called-as 29 step29 e refl ∙ ap (called_by m q) (step29-is (turn_at m b i q in_row 28 e))

  leaves_29 : p.step ≡ 29 → leaves_one_page m q ≡ true
  unfolding leaves_one_page partner_cleared pages_given_back given_back
  leaves_29 e =
      let o = partner_cleared lent [] in
      rw (call_29 e) (reads_then o refl refl o.after.root o.after.pages (read_30 (turn_then 29 o (call_29 e) refl refl) o.after.pages refl))

  none-listed : list_from m.root m.pages 0 ≡ sound []
  unfolding link_to_first
  none-listed = linked_list m.root m.pages [] tt (omega arith)

  gives_none : p.step ≡ 29 → (trace_of_step clock_start m q).gives ≡ []
  unfolding trace_of_step trace_of trace_twenty_nine pages_listed
  gives_none e =
      let x = (turn_at m b i q in_row 28 e).facts.0 in
      cond_ind (λ (t : Trace). t.gives ≡ []) (performs (step_call m q).answer) _ _ (λ _. rw (e, x.no_old_link, x.partner_link, none-listed) refl) (λ _. refl)

  gives_29 : p.step ≡ 29 → gives_rightly [] m q ≡ true
  unfolding gives_rightly partner_cleared pages_given_back same_pages
  gives_29 e = rw (gives_none e, call_29 e) (eqb_same (m.root.free + 0) (m.root.free + 0) refl)

  leaves_30 : p.step ≡ 30 → leaves_one_page m q ≡ true
  unfolding leaves_one_page step_of step_table
  leaves_30 e =
      let t = turn_at m b i q in_row 29 e in
      let l = end_leaves t in
      rw (called-as 30 step30 e refl, l.root=) (read_30 t (step30 lent).after.pages l.page=)

  -- By step number.
  step_right : (had : ℕ → List ℕ) → had q ≡ [] → performs (step_call m q).answer ≡ true → merge_right had m q ≡ true
  unfolding merge_right
  step_right had none h =
      cond_ind (λ (t : Bool). t ≡ true) (eqb p.step 26) _ _ (λ e. joins_26 (eqb-true p.step 26 e))
      (λ _. cond_ind (λ (t : Bool). t ≡ true) (eqb p.step 29) _ _
      (λ e. let is = eqb-true p.step 29 e in both-and (ap (λ (xs : List ℕ). gives_rightly xs m q) none ∙ gives_29 is) (leaves_29 is))
      (λ _. cond_ind (λ (t : Bool). t ≡ true) (eqb p.step 28 || eqb p.step 30) _ _ (λ e. written (or_either (eqb p.step 28) (eqb p.step 30) e)) (λ _. refl)))
    where
      written : (eqb p.step 28 ≡ true) ⊎ (eqb p.step 30 ≡ true) → leaves_one_page m q ≡ true
      written (inl e) = leaves_28 (eqb-true p.step 28 e) h
      written (inr e) = leaves_30 (eqb-true p.step 30 e)

-- ---- A list of calls

-- Nobody's two chains had an overflow page when 26 joined them.
abbrev HadNone : (ℕ → List ℕ) → Type 0
HadNone had = (q : ℕ) → had q ≡ []

pub record CallFits (had : ℕ → List ℕ) (m : Memory) (c : Call) : Type 0 where
  pub right : call_fits had m c ≡ true
  pub none : HadNone (had_after had m c)

module _ (kept : StepsKept) (m : Memory) (b : Book) (i : Inv m b) (had : ℕ → List ℕ) (none : HadNone had) where
  -- A call that was refused.
  refused_fits : (q : ℕ) (n : Refusal) → step_call m q ≡ called (Err n) m → CallFits had m (step_for q)
  unfolding call_fits had_after performs is_moved
  refused_fits q n e = record { right = rw e refl; none = λ j. rw (e, and-false (eqb (party_at m.parties q).step 26)) (none j) }

  -- What 26 notes, and any other call.
  notes : (q : ℕ) (xs : List ℕ) (t : Bool) → (t ≡ true → xs ≡ []) → (j : ℕ) → Cmp j q → cond t (changed_at had q xs) had j ≡ []
  unfolding changed_at
  notes q xs false f j c = none j
  notes q xs true f j (same e) = rw (eqb_same j q e) (f refl)
  notes q xs true f j (diff d) = rw (eqb-diff j q d) (none j)

  step_fits : (q : ℕ) → Met m b i q → CallFits had m (step_for q)
  unfolding call_fits had_after
  step_fits q (no_party _ _ _ e) = refused_fits q Refusal.Party e
  step_fits q (nothing-begun _ _ _ _ e) = refused_fits q Refusal.Idle e
  step_fits q (under_way_lem in_row _ _ _ call) = record {
    right = cond_ind (λ (t : Bool). t ≡ true) (performs (step_call m q).answer) _ _ (λ h. step_right kept m b i q in_row call had (none q) h) (λ _. refl);
    none = λ j. notes q _ (eqb (party_at m.parties q).step 26 && is_moved (step_call m q).answer)
        (λ h. let t = and_both (eqb (party_at m.parties q).step 26) (is_moved (step_call m q).answer) h in had_26 kept m b i q in_row call (eqb-true (party_at m.parties q).step 26 t.0) t.1)
        j (cmp j q);
  }

  pub call_fits_lem : (c : Call) → CallFits had m c
  unfolding call_fits had_after
  call_fits_lem (begin_for q o k) = record { right = refl; none = none }
  call_fits_lem (step_for q) = step_fits q (meets m b i q)
  call_fits_lem (withdraw_for q) = record { right = refl; none = none }

pub run_fits : StepsKept → (m : Memory) (b : Book) → Inv m b → (had : ℕ → List ℕ) → HadNone had → (cs : List Call) → merges_fit had m cs ≡ true
unfolding merges_fit event_of
run_fits kept m b i had none [] = refl
run_fits kept m b i had none (c ∷ cs) =
    let g = call_fits_lem kept m b i had none c in
    both-and g.right (run_fits kept (after_call m c) (book_after_call b m c) (call_kept kept m b i c).inv _ g.none cs)

-- MERGES FIT, over every list of calls from formatted memory.
pub merges_right : (s : Start) (cs : List Call) → merges_fit nothing_had (start s) cs ≡ true
unfolding nothing_had
merges_right s cs = run_fits steps_kept (start s) (book_start s) (started_inv s) nothing_had (λ q. refl) cs
