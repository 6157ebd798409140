-- Nothing is met by doing nothing (document 01, "Agreement"; statements in specs/Effects.antt): a step that says
-- moved or done has altered its party's own words, a call that waits or is refused alters nothing, a step waits only
-- for a lock that Table I forbids it, no call is refused for damage, and a begin enters its operation and nothing
-- else.
-- Main statements: Effect (what an outcome leaves of the view that it met), step_effect (every step number);
-- nothing_altered, performed-alters, waits_for_lock, begin_alters (all memory); step-alters (under the invariant,
-- which the scratch page of a 9 needs); run_alters, never_damaged (after every list of calls from formatted memory).
use mathlib.Core.Path.{◌≡◌, refl, sym, ap, ◌∙◌, subst}
use mathlib.Core.Logic.{◌≢◌, ◌⊎◌, inl, inr}
use mathlib.Core.Bool.{true, false, not, false≢true}
use mathlib.Core.List.{List, [], ◌∷◌}
use mathlib.Core.Option.{Option, none, some}
use Prim.Native.Nat.{ℕ, ◌+◌, ◌≤◌, ◌<◌}
use native.Mathlib.Omega.{arith}
use lib.ListN.{length, set, length-set, get_or}
use lib.Seq.{set-get_or}
use lib.Dec.{eqb}
use Rattle.std.specs.Prelude.{Ok, Err}
use Rattle.model.proofs.Laws.Answers.{not_refused, Caused, no_cause, caused_by, caused}
use Rattle.model.specs.declared.Refusal.{Refusal}
use Rattle.model.specs.declared.Party.{Party}
use Rattle.model.specs.declared.Operation.{Operation}
use Rattle.model.specs.declared.StepAnswer.{StepAnswer}
use Rattle.model.specs.Sizes.{page_words}
use Rattle.model.specs.Records.{idle, begun}
use Rattle.model.specs.Answers.{operation_number, performs, setting_given, StepReply, CallReply}
use Rattle.model.specs.LockWords.{Claim, permits}
use Rattle.model.specs.Pages.{page_of, with_page, link_of, link_to_first, scratch_page, linked_page}
use Rattle.model.specs.Outcome.{View, Outcome, moved}
use Rattle.model.specs.ScratchPages.{scratch_of}
use Rattle.model.specs.LockRequests.{is_granted}
use Rattle.model.specs.Steps.Dispatch.{step_of, wants, next_table}
use Rattle.model.specs.Memory.{Memory, party_at, view_of, after_step, with_waiting}
use Rattle.model.specs.Refusals.{first_cause, lengths_fit, begin_rows, step_rows}
use Rattle.model.specs.Calls.{Called, called, with_begun, begin_call, stepped, step_call, called_by}
use Rattle.model.specs.Runs.{Call, reply_to}
use Rattle.model.specs.Book.{Book}
use Rattle.model.specs.Effects.{scratch_link, AltersRecord, AltersScratch, AltersOwn, own_record, own_scratch, StepAlters, WaitsForLock, Begins, BeginAlters, QuietAlters}
use Rattle.theory.specs.Demands.{Start, Reached, book_reached}
use Rattle.model.proofs.Laws.Lists.{All, and_both, eqb-true, eqb_same, eqb-false, leb-false, not-true, not-false, among_first, and_fails, cond-true}
use Rattle.model.proofs.Laws.Booleans.{and_left, and_right}
use Rattle.model.proofs.Laws.Pages.{page_same, length_page_of}
use Rattle.model.proofs.Theorems.RefusalOrder.{begin_refused_ok, begin_accepted, step_refused_ok, step-accepted}
use Rattle.model.proofs.Theorems.Gate.{none_met, row_fits, ready}
use Rattle.model.proofs.Invariant.Ghost.{count}
use Rattle.model.proofs.Laws.Structure.{Linked}
use Rattle.model.proofs.Laws.Reading.{first_linked}
use Rattle.model.proofs.Invariant.Statement.{Walking, Inv, scene_of}
use Rattle.model.proofs.Effects.Kept.{row_same, row_other}
use Rattle.model.proofs.Effects.ScratchPage.{protected_bounds}
use Rattle.model.proofs.Invariant.Facts.{At, facts_at_lem}
use Rattle.model.proofs.Theorems.Calls.{undamaged, call_kept}
use Rattle.model.proofs.Theorems.Answering.{unasked, asked, fairly, step_fair}
use Rattle.model.proofs.Theorems.AllSteps.{steps_kept}
use Rattle.theory.proofs.Reached.{reached_inv}
use Rattle.model.proofs.Exits.Statement.{is_other, every_next, copied_on, Kept, Exit, refusing, waiting, taking, moving, looking, ending}
use Rattle.model.proofs.Exits.{step_exits}
use Rattle.model.specs.FreeList.{is_among}
use Rattle.model.specs.WaitingRow.{appended, row_after, row_with, stands_behind}

-- ---- What an outcome leaves of the view that it met

pub data Effect (v : View) (k : ℕ) (o : Outcome) : Type 0 where
  -- Waiting or refused: all is as it was.
  stays : performs o.answer ≡ false → o.after ≡ v → Effect v k o
  -- Moved or done: the party's step number is not k.
  goes : performs o.answer ≡ true → o.after.number ≡ v.number → o.after.party.step ≢ k → Effect v k o
  -- 9 on to the page that the scratch page's link names.
  looks : k ≡ 9 → link_of (scratch_of v) ≢ 0 → o ≡ moved (copied_on v) → Effect v k o

-- ---- Every step

module _ (v : View) (k : ℕ) where
  other_step : (n : ℕ) → is_other k n ≡ true → n ≢ k
  other_step n d = eqb-false n k (not-true (eqb n k) (and_both (not (eqb n 0)) (not (eqb n k)) d).1)

  by_exit : (o : Outcome) → Exit v k o → Effect v k o
  unfolding performs next_table
  by_exit o (refusing r) = stays refl refl
  by_exit o (waiting c w g r) = stays refl refl
  by_exit o (taking c u w g d m) = goes refl (ap (λ (x : Kept). x.number) m.kept) (other_step u.party.step d)
  by_exit o (moving u w d m) = goes refl (ap (λ (x : Kept). x.number) m.kept) (other_step u.party.step d)
  by_exit o (looking e w l m) = looks e l refl
  by_exit o (ending a s u w e) =
      let z = eqb-false k 0 (not-true (eqb k 0) (every_next (λ j i. not (eqb j 0)) refl refl v.party.operation k 0 e.next)) in
      goes refl (ap (λ (x : Kept). x.number) e.kept) (λ i. z (sym i))

-- Every step number.
pub step_effect : (k : ℕ) (v : View) → Effect v k (step_of k v)
step_effect k v = by_exit v k (step_of k v) (step_exits k v)

-- ---- A call of step

-- A call of step is refused and leaves all lent memory, or performs the party's next step.
pub data Tested (m : Memory) (q : ℕ) : Type 0 where
  turned_away : (n : Refusal) → step_call m q ≡ called (Err n) m → Tested m q
  let_through : first_cause (step_rows m q) ≡ Ok tt → step_call m q ≡ stepped m q → Tested m q

pub tested : (m : Memory) (q : ℕ) → Tested m q
tested m q = go (caused (first_cause (step_rows m q)))
  where
    go : Caused (first_cause (step_rows m q)) → Tested m q
    go (no_cause e) = let_through e (step-accepted m q e)
    go (caused_by c y) = turned_away c (step_refused_ok m c q y)

module _ (m : Memory) (q : ℕ) where
  abbrev view : View
  view = view_of m q

  abbrev number : ℕ
  number = (party_at m.parties q).step

  -- A call that leaves the view leaves the memory.
  same_memory : (v : View) → v ≡ view → after_step m v ≡ m
  same_memory v e = ap (after_step m) e ∙ ap (λ (ps : List Party). record { root = m.root; parties = ps; locks = m.locks; pages = m.pages; waiting = m.waiting }) (set-get_or m.parties q idle)

  -- A call that waits leaves all but the waiting row; a refused call leaves all lent memory.
  pub nothing_altered : performs (step_call m q).answer ≡ false → (step_call m q).memory ≡ with_waiting (row_after q m.waiting (step_call m q).answer) m
  unfolding stepped performs row_after
  nothing_altered n = go (tested m q)
    where
      by_effect : step_call m q ≡ stepped m q → Effect view number (step_of number view) → (step_call m q).memory ≡ with_waiting (row_after q m.waiting (step_call m q).answer) m
      by_effect e (stays p s) =
          ap (λ (c : Called StepReply). c.memory) e
          ∙ ap (with_waiting (row_after q m.waiting (step_of number view).answer)) (same_memory (step_of number view).after s)
          ∙ ap (λ (c : Called StepReply). with_waiting (row_after q m.waiting c.answer) m) (sym e)
      by_effect e (goes p _ _) = absurd (false≢true (sym n ∙ ap (λ (c : Called StepReply). performs c.answer) e ∙ p))
      by_effect e (looks _ _ o) =
          absurd (false≢true (sym n ∙ ap (λ (c : Called StepReply). performs c.answer) e ∙ ap (λ (x : Outcome). performs x.answer) o))

      go : Tested m q → (step_call m q).memory ≡ with_waiting (row_after q m.waiting (step_call m q).answer) m
      go (turned_away c e) = ap (λ (c : Called StepReply). c.memory) e ∙ ap (λ (c : Called StepReply). with_waiting (row_after q m.waiting c.answer) m) (sym e)
      go (let_through _ e) = by_effect e (step_effect number view)

  -- Moved or done: the record's step number is another, or the call is a 9 that copies the next page.
  pub data Performed : Type 0 where
    went : AltersRecord m q → Performed
    looked : q < m.root.parties → number ≡ 9 → link_of (scratch_of view) ≢ 0 → step_call m q ≡ called_by m q (moved (copied_on view)) → Performed

  pub performed-alters : performs (step_call m q).answer ≡ true → Performed
  unfolding stepped performs
  performed-alters y = go (tested m q)
    where
      record_then : first_cause (step_rows m q) ≡ Ok tt → (v : View) → v.number ≡ q → party_at (after_step m v).parties q ≡ v.party
      record_then z v e =
          ap (λ (j : ℕ). party_at (set m.parties j v.party) q) e ∙ row_same m.parties q v.party (omega (arith, row_fits m q z, (ready m q z).number_fits))

      by_effect : first_cause (step_rows m q) ≡ Ok tt → step_call m q ≡ stepped m q → Effect view number (step_of number view) → Performed
      by_effect z e (stays p _) = absurd (false≢true (sym p ∙ sym (ap (λ (c : Called StepReply). performs c.answer) e) ∙ y))
      by_effect z e (goes p k n) =
          went
          (record {
            another_step = λ s.
                n (sym (ap (λ (p : Party). p.step) (record_then z (step_of number view).after k)) ∙ ap (λ (c : Called StepReply). (party_at c.memory.parties q).step) (sym e) ∙ s);
          })
      by_effect z e (looks k l o) = looked (ready m q z).number_fits k l (e ∙ ap (called_by m q) o)

      go : Tested m q → Performed
      go (turned_away c e) = absurd (false≢true (sym (ap (λ (c : Called StepReply). performs c.answer) e) ∙ y))
      go (let_through z e) = by_effect z e (step_effect number view)

-- ---- A 9 that goes on, under the invariant: the next page has another link

-- The link of a page that leads on is not the link that led there, where no page is met twice.
first_differs : (x : ℕ) (xs : List ℕ) → count x (x ∷ xs) ≤ 1 → link_to_first xs ≢ link_to_first (x ∷ xs)
unfolding link_to_first count
first_differs x [] h e = omega arith
first_differs x (y ∷ ys) h e = let s : y ≡ x = omega arith in let t : 1 + (1 + count x ys) ≤ 1 = rw (eqb_same x x refl, eqb_same y x s) at h in omega arith

module _ (m : Memory) (b : Book) (i : Inv m b) (q : ℕ) (in_row : q < m.root.parties) (is_nine : (party_at m.parties q).step ≡ 9)
    (leads : link_of (scratch_of (view_of m q)) ≢ 0) where
  abbrev me : Party
  me = party_at m.parties q

  at_nine : At 9 (scene_of m i.ghost b) q me
  at_nine = facts_at_lem 8 (scene_of m i.ghost b) q me is_nine (i.parties_ok q in_row)

  abbrev walk : Walking (scene_of m i.ghost b) q me at_nine.entered
  walk = at_nine.facts

  -- The link on the scratch page after the copy.
  link_then : (x : ℕ) (xs : List ℕ) → walk.rest ≡ x ∷ xs → scratch_link (after_step m (copied_on (view_of m q))) q ≡ link_to_first xs
  link_then x xs e =
      let linked : Linked m.root m.pages (x ∷ xs) = subst (Linked m.root m.pages) e walk.linked in
      let bounds = protected_bounds m b i q in_row me.chain x (walk.protected x (rw e (among_first x xs))) in
      let long : length (page_of m.pages x) ≡ page_words = length_page_of (record { fits = omega (arith, i.pages_many, bounds) }) in
      let named : linked_page (link_of (scratch_of (view_of m q))) ≡ x = ap (λ (l : ℕ). linked_page l) (walk.link ∙ ap link_to_first e) ∙ first_linked x xs in
      ap (λ (y : ℕ). link_of (page_of (with_page m.pages (scratch_page m.root q) (page_of m.pages y)) (scratch_page m.root q))) named
      ∙ ap link_of (page_same m.pages (scratch_page m.root q) (page_of m.pages x) (record { fits = omega (arith, i.pages_many) }) long) ∙ linked.1

  copied_differs : (xs : List ℕ) → walk.rest ≡ xs → scratch_link (after_step m (copied_on (view_of m q))) q ≢ scratch_link m q
  unfolding link_to_first
  copied_differs [] e s = leads (walk.link ∙ ap link_to_first e)
  copied_differs (x ∷ xs) e s =
      first_differs x xs (subst (λ (ys : List ℕ). count x ys ≤ 1) e (walk.once x)) (sym (link_then x xs e) ∙ s ∙ walk.link ∙ ap link_to_first e)

  scratch_altered : step_call m q ≡ called_by m q (moved (copied_on (view_of m q))) → AltersScratch m q
  scratch_altered e = record {
    at_nine = is_nine;
    moves = ap (λ (c : Called StepReply). c.answer) e;
    same_record = ap (λ (c : Called StepReply). party_at c.memory.parties q) e ∙ ap (λ (ps : List Party). party_at ps q) (set-get_or m.parties q idle);
    another_link = λ s. copied_differs walk.rest refl (ap (λ (c : Called StepReply). scratch_link c.memory q) (sym e) ∙ s);
  }

-- ---- A call that waits

-- A fair answer that waits goes with a lock that is wanted and not granted.
forbidden_lock : (m : Memory) (q : ℕ) (w : Option Claim) → wants m.root (party_at m.parties q) ≡ w → fairly (view_of m q) w (Ok StepAnswer.Waiting) ≡ true → WaitsForLock m q
unfolding fairly unasked asked is_granted
forbidden_lock m q none e f = absurd (false≢true f)
forbidden_lock m q (some c) e f = record { lock = c; wanted = e; forbidden = go (and_fails (permits (get_or m.locks c.word 0) c.mode) (not (view_of m q).behind) (not-true (is_granted (view_of m q) c) f)) }
  where
    go : (permits (get_or m.locks c.word 0) c.mode ≡ false) ⊎ (not (view_of m q).behind ≡ false)
        → (permits (get_or m.locks c.word 0) c.mode ≡ false) ⊎ (stands_behind m.root m.parties m.waiting q ≡ true)
    go (inl h) = inl h
    go (inr h) = inr (not-false (view_of m q).behind h)

pub waits_for_lock : (m : Memory) (q : ℕ) → (step_call m q).answer ≡ Ok StepAnswer.Waiting → WaitsForLock m q
unfolding stepped
waits_for_lock m q w = go (tested m q)
  where
    go : Tested m q → WaitsForLock m q
    go (turned_away n e) = absurd (not_refused StepAnswer.Waiting n (sym w ∙ ap (λ (c : Called StepReply). c.answer) e))
    go (let_through _ e) =
        forbidden_lock m q (wants m.root (party_at m.parties q)) refl
        (subst (λ (a : StepReply). fairly (view_of m q) (wants m.root (party_at m.parties q)) a ≡ true) (sym (ap (λ (c : Called StepReply). c.answer) e) ∙ w) (step_fair (view_of m q)).fair)

-- ---- A begin

module _ (m : Memory) (q : ℕ) (none : first_cause (begin_rows m q) ≡ Ok tt) where
  begin_unmet : All (λ x. x.met ≡ false) (begin_rows m q)
  unfolding begin_rows
  begin_unmet = none_met (begin_rows m q) none

  begin_fits : q < length m.parties
  unfolding begin_rows lengths_fit
  begin_fits =
      let u = begin_unmet in
      let l : lengths_fit m.root m ≡ true = not-false (lengths_fit m.root m) (search) in
      let n = leb-false m.root.parties q (search) in
      omega (arith, eqb-true (length m.parties) m.root.parties (search (and_left, and_right)))

module _ (m : Memory) (q : ℕ) (o : Operation) (k : ℕ) where
  begun-alters : first_cause (begin_rows m q) ≡ Ok tt → begin_call m q o k ≡ called (Ok tt) (with_begun m q o k) → Begins m q o k
  unfolding with_begun
  begun-alters z e =
      let p = begun (operation_number o) k (setting_given o) in
      record {
        own = ap (λ (c : Called CallReply). party_at c.memory.parties q) e ∙ row_same m.parties q p (begin_fits m q z);
        others = λ j n. ap (λ (c : Called CallReply). party_at c.memory.parties j) e ∙ row_other m.parties q j p n;
        as_many = ap (λ (c : Called CallReply). length c.memory.parties) e ∙ length-set m.parties q p;
        root = ap (λ (c : Called CallReply). c.memory.root) e;
        locks = ap (λ (c : Called CallReply). c.memory.locks) e;
        pages = ap (λ (c : Called CallReply). c.memory.pages) e;
        waiting = ap (λ (c : Called CallReply). c.memory.waiting) e;
        memory = ap (λ (c : Called CallReply). c.memory) e;
      }

  pub begin_alters : BeginAlters m q o k
  begin_alters = go (caused (first_cause (begin_rows m q)))
    where
      go : Caused (first_cause (begin_rows m q)) → BeginAlters m q o k
      go (no_cause z) =
          let e = begin_accepted m q o k z in
          record { accepted = λ _. begun-alters z e; refused = λ n a. absurd (not_refused tt n (sym (ap (λ (c : Called CallReply). c.answer) e) ∙ a)) }
      go (caused_by c y) =
          let e = begin_refused_ok m c q o k y in
          record {
            accepted = λ a. absurd (not_refused tt c (sym a ∙ ap (λ (c : Called CallReply). c.answer) e));
            refused = λ n a. ap (λ (c : Called CallReply). c.memory) e;
          }

-- ---- Every reachable memory

-- On all memory: a call that waits alters the row alone, and nothing where the party is in it; a refused call nothing.
pub quiet_alters : (m : Memory) (q : ℕ) → QuietAlters m q
unfolding performs row_after row_with
quiet_alters m q = record {
  waits = waits-row;
  waits-again = λ e h. waits-row e ∙ ap (λ (row : List ℕ). with_waiting row m) (cond-true (is_among (q + 1) m.waiting) m.waiting (appended (q + 1) m.waiting) h);
  refused = λ n e. nothing_altered m q (ap performs e) ∙ ap (λ (a : StepReply). with_waiting (row_after q m.waiting a) m) e;
}
  where
    waits-row : (step_call m q).answer ≡ Ok StepAnswer.Waiting → (step_call m q).memory ≡ with_waiting (row_with q m.waiting) m
    waits-row e = nothing_altered m q (ap performs e) ∙ ap (λ (a : StepReply). with_waiting (row_after q m.waiting a) m) e

pub step-alters : (m : Memory) (b : Book) → Inv m b → (q : ℕ) → StepAlters m q
step-alters m b i q = record { performed = λ y. go (performed-alters m q y); otherwise = quiet_alters m q }
  where
    go : Performed m q → AltersOwn m q
    go (went a) = own_record a
    go (looked in_row is_nine leads e) = own_scratch (scratch_altered m b i q in_row is_nine leads e)

pub run_alters : (s : Start) (cs : List Call) (q : ℕ) → StepAlters (Reached s cs) q
run_alters s cs q = step-alters (Reached s cs) (book_reached s cs) (reached_inv s cs) q

-- No cause of refusal 6 is ever met.
pub never_damaged : (s : Start) (cs : List Call) (c : Call) → undamaged (reply_to (Reached s cs) c) ≡ true
never_damaged s cs c = (call_kept steps_kept (Reached s cs) (book_reached s cs) (reached_inv s cs) c).sound
