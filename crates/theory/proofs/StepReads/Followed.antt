-- WHAT A STEP FOLLOWS IS WHAT IT READS: of the overflow pages, a call of step that is not refused goes by those that its trace follows and the free pages that it takes, and by no other; nor does it
-- write any other. It holds of every memory, sound or not. So the link rule (specs/Links.antt) speaks of every overflow page that a step reads, but for the free pages that it takes.
-- Main statements: reads_what_it_follows; its readings page by page, alike_stays and unlike_kept; followed_any_clock (the pages followed go by no clock).
use mathlib.Core.Path.{◌≡◌, refl, sym, ap, ◌∙◌}
use mathlib.Core.Logic.{◌≢◌}
use mathlib.Core.Bool.{Bool, true, false, cond, not, false≢true}
use mathlib.Core.List.{List, ◌++◌}
use Prim.Native.Nat.{ℕ, ◌+◌, ◌≤◌, ◌<◌}
use lib.Dec.{eqb, leb}
use Rattle.std.specs.Prelude.{Ok, Err}
use Rattle.model.specs.declared.Root.{Root}
use Rattle.model.specs.declared.StepAnswer.{StepAnswer}
use Rattle.model.specs.Pages.{page_of, link_of, primary_page}
use Rattle.model.specs.FreeList.{is_among}
use Rattle.model.specs.Outcome.{View, with_pages, outcome}
use Rattle.model.specs.Memory.{Memory, party_at, view_of}
use Rattle.model.specs.Refusals.{first_cause, lengths_fit, step_rows}
use Rattle.model.specs.WaitingRow.{row_after}
use Rattle.model.specs.Calls.{Called, stepped, step_call, called_by}
use Rattle.theory.specs.Links.{Trace, chain_pages, list_pages, trace_nine, trace_fourteen, trace_twenty_nine, trace_of, Clock, clock_start, trace_of_step}
use Rattle.model.specs.Answers.{is_moved, performs, StepReply}
use Rattle.theory.specs.Reads.{is_accepted, pages_followed, followed_by, taken_by, read_by, is_overflow_page, is_open, DiffersOutside, step_after, StepAlike}
use Rattle.model.specs.Steps.Dispatch.{step_of}
use Rattle.model.proofs.Laws.Lists.{Told, holds, fails, tell, all_from, left_or, right_or, right_fails, among_append, lt-leb, le-ltb}
use Rattle.model.proofs.Theorems.RefusalOrder.{step-accepted}
use Rattle.model.proofs.Theorems.Gate.{ready}
use Rattle.theory.proofs.Alters.{Tested, turned_away, let_through, tested, nothing_altered}
use Rattle.theory.proofs.StepReads.Writings.{Beside, Open}
use Rattle.theory.proofs.StepReads.Outcomes.{Licence, Same}
use Rattle.theory.proofs.StepReads.EachStep.{now_pages, walked_pages, both_pages, step_reads}
use Rattle.theory.proofs.StepReads.Waiting.{is_waiting, waits_beside}

-- ---- The pages followed go by no clock

-- Two traces follow the same pages.
abbrev SamePages : Trace → Trace → Type 0
SamePages x y = pages_followed x.follows ≡ pages_followed y.follows

cond_pages : (t : Bool) (x y x' y' : Trace) → SamePages x x' → SamePages y y' → SamePages (cond t x y) (cond t x' y')
cond_pages true x y x' y' e f = e
cond_pages false x y x' y' e f = f

-- By whatever times, and whatever step comes next.
any_times : (t t' n : ℕ) (v : View) (a : StepReply) (next next' s s' o o' : ℕ) → SamePages (trace_of t n v a next s o) (trace_of t' n v a next' s' o')
unfolding trace_of trace_nine trace_fourteen trace_twenty_nine pages_followed
any_times t t' n v a next next' s s' o o' =
    let cs = chain_pages v v.party.chain in
    let ds = chain_pages v v.party.other in
    let xs = list_pages v v.party.old in
    let ys = list_pages v (link_of (page_of v.pages (primary_page v.party.other))) in
    cond_pages (eqb n 6) _ _ _ _ refl
    (cond_pages (eqb n 9) _ _ _ _ (cond_pages (is_moved a) _ _ _ _ refl refl)
    (cond_pages (eqb n 10) _ _ _ _ (now_pages t cs ∙ sym (now_pages t' cs))
    (cond_pages (eqb n 14) _ _ _ _ (walked_pages o t xs ∙ sym (walked_pages o' t' xs))
    (cond_pages (eqb n 17) _ _ _ _ (now_pages t cs ∙ sym (now_pages t' cs))
    (cond_pages (eqb n 26) _ _ _ _ (now_pages t (cs ++ ds) ∙ sym (now_pages t' (cs ++ ds)))
    (cond_pages (eqb n 29) _ _ _ _ (both_pages o t xs ys ∙ sym (both_pages o' t' xs ys)) refl))))))

pub followed_any_clock : (k : Clock) (m : Memory) (q : ℕ) → pages_followed (trace_of_step k m q).follows ≡ followed_by m q
unfolding trace_of_step followed_by clock_start
followed_any_clock k m q = cond_pages (performs (step_call m q).answer) _ _ _ _ (any_times _ _ (party_at m.parties q).step (view_of m q) (step_call m q).answer _ _ _ _ _ _) refl

-- ---- Open pages

-- Primary and scratch pages are open, whatever is followed, and so is each page that is listed.
module _ (r : Root) (xs : List ℕ) where
  pub primary_open : (x : ℕ) → x < r.primaries → is_open r xs x ≡ true
  unfolding is_open is_overflow_page
  primary_open x h = rw (lt-leb r.primaries x h)

  pub scratch_open_ok : (x : ℕ) → r.primaries + r.overflow ≤ x → is_open r xs x ≡ true
  unfolding is_open is_overflow_page
  scratch_open_ok x h = rw (right_fails (leb r.primaries x) (le-ltb x (r.primaries + r.overflow) h))

  pub listed_open : (x : ℕ) → is_among x xs ≡ true → is_open r xs x ≡ true
  unfolding is_open
  listed_open x h = right_or (not (is_overflow_page r x)) h

-- What is followed and what is taken is open.
followed_open : (m : Memory) (q : ℕ) → Open (is_open m.root (read_by m q)) (followed_by m q)
unfolding read_by
followed_open m q =
    all_from (λ x. is_open m.root (followed_by m q ++ taken_by m q) x ≡ true) (followed_by m q)
    (λ x h. listed_open m.root (followed_by m q ++ taken_by m q) x (among_append x (followed_by m q) (taken_by m q) ∙ left_or (is_among x (taken_by m q)) h))

taken_open : (m : Memory) (q : ℕ) → Open (is_open m.root (read_by m q)) (taken_by m q)
unfolding read_by
taken_open m q =
    all_from (λ x. is_open m.root (followed_by m q ++ taken_by m q) x ≡ true) (taken_by m q)
    (λ x h. listed_open m.root (followed_by m q ++ taken_by m q) x (among_append x (followed_by m q) (taken_by m q) ∙ right_or (is_among x (followed_by m q)) h))

-- ---- The call

is_waiting_lem : (a : StepReply) → is_waiting a ≡ true → a ≡ Ok StepAnswer.Waiting
unfolding is_waiting
is_waiting_lem (Ok StepAnswer.Waiting) h = refl
is_waiting_lem (Ok StepAnswer.Moved) h = absurd (false≢true h)
is_waiting_lem (Ok (StepAnswer.Done a s)) h = absurd (false≢true h)
is_waiting_lem (Err n) h = absurd (false≢true h)

module _ (m m' : Memory) (q : ℕ) (d : DiffersOutside (read_by m q) m m') where
  -- What the step meets, and the pages open to it.
  abbrev view : View
  view = view_of m q

  abbrev number : ℕ
  number = (party_at m.parties q).step

  abbrev opens : ℕ → Bool
  opens = is_open m.root (read_by m q)

  -- The rows of the refusal table go by the root, the records and the lengths.
  same_rows : step_rows m' q ≡ step_rows m q
  unfolding step_rows lengths_fit
  same_rows = rw (d.root=, d.parties=, d.locks=, d.length=, d.waiting=)

  -- The step is lent the same view but for the pages.
  stepped_beside : stepped m' q ≡ called_by m q (step_of number (with_pages m'.pages view))
  unfolding stepped
  stepped_beside = rw (d.parties=, d.root=, d.locks=, d.waiting=)

  module _ (none : first_cause (step_rows m q) ≡ Ok tt) where
    beside : Beside view m'.pages opens
    beside = record {
      ready = ready m q none;
      long = d.length=;
      agree = d.open=;
      primary_open = primary_open m.root (read_by m q);
      scratch_open_ok = scratch_open_ok m.root (read_by m q);
    }

    now : step_call m q ≡ called_by m q (step_of number view)
    unfolding stepped
    now = step-accepted m q none

    module _ (performed : performs (step_call m q).answer ≡ true) where
      step-performs : performs (step_of number view).answer ≡ true
      step-performs = sym (ap (λ (c : Called StepReply). performs c.answer) now) ∙ performed

      licence : Licence number view opens (step_of number view)
      unfolding followed_by taken_by trace_of_step
      licence =
          let v = view in
          let a = ap (λ (c : Called StepReply). c.answer) now in
          let f : followed_by m q ≡ pages_followed (trace_of 0 number v (step_of number v).answer 0 0 0).follows =
          rw (performed, a) (any_times _ 0 number v (step_of number v).answer _ 0 _ 0 _ 0) in
          record {
            follows = rw f at (followed_open m q);
            takes = rw now at (taken_open m q);
          }

      reads_same : Same view m'.pages opens (step_of number view) (step_of number (with_pages m'.pages view))
      reads_same = (step_reads number view m'.pages opens beside).go step-performs licence

      beside_call : step_call m' q ≡ called_by m q (outcome (step_of number view).answer (with_pages reads_same.pages' (step_of number view).after))
      beside_call = step-accepted m' q (ap first_cause same_rows ∙ none) ∙ stepped_beside ∙ ap (called_by m q) reads_same.out

      call_alike : StepAlike m m' q
      call_alike =
          let k = reads_same.alike in
          let e : step_after m q ≡ (called_by m q (step_of number view)).memory = ap (λ (c : Called StepReply). c.memory) now in
          let e' : step_after m' q ≡ (called_by m q (outcome (step_of number view).answer (with_pages reads_same.pages' (step_of number view).after))).memory = ap (λ (c : Called StepReply). c.memory) beside_call in
          record {
            answer= = rw (beside_call, now);
            root= = rw (e', e);
            parties= = rw (e', e);
            locks= = rw (e', e);
            waiting= = rw (e', e);
            length= = rw (e', e) (k.long' ∙ sym k.long);
            open= = λ x h. rw (e', e) (k.agree x h);
            shut_kept = λ x h. rw e (k.kept x h);
            shut_kept' = λ x h. rw e' (k.kept' x h);
          }

    -- A call that waits: nothing is altered, and beside it nothing either.
    module _ (waiting : (step_call m q).answer ≡ Ok StepAnswer.Waiting) where
      step_waits : is_waiting (step_of number (with_pages m'.pages view)).answer ≡ true
      unfolding is_waiting
      step_waits = (waits_beside view m'.pages).go (ap (λ (c : Called StepReply). is_waiting c.answer) (sym now) ∙ ap is_waiting waiting)

      waits_too : (step_call m' q).answer ≡ Ok StepAnswer.Waiting
      waits_too = ap (λ (c : Called StepReply). c.answer) (step-accepted m' q (ap first_cause same_rows ∙ none) ∙ stepped_beside) ∙ is_waiting_lem _ step_waits

      waiting_alike : StepAlike m m' q
      unfolding performs
      waiting_alike =
          let e = nothing_altered m q (ap performs waiting) in
          let e' = nothing_altered m' q (ap performs waits_too) in
          record {
            answer= = waits_too ∙ sym waiting;
            root= = rw (e', e) d.root=;
            parties= = rw (e', e) d.parties=;
            locks= = rw (e', e) d.locks=;
            waiting= = ap (λ (u : Memory). u.waiting) e' ∙ ap (λ (row : List ℕ). row_after q row (step_call m' q).answer) d.waiting=
                ∙ ap (row_after q m.waiting) (waits_too ∙ sym waiting) ∙ sym (ap (λ (u : Memory). u.waiting) e);
            length= = rw (e', e) d.length=;
            open= = λ x h. rw (e', e) (d.open= x h);
            shut_kept = λ x h. rw e refl;
            shut_kept' = λ x h. rw e' refl;
          }

pub reads_what_it_follows : (m m' : Memory) (q : ℕ) → is_accepted (step_call m q).answer ≡ true → DiffersOutside (read_by m q) m m' → StepAlike m m' q
unfolding is_accepted performs
reads_what_it_follows m m' q accepted d = go (tested m q) (step_call m q).answer refl
  where
    go : Tested m q → (a : StepReply) → (step_call m q).answer ≡ a → StepAlike m m' q
    go (turned_away c e) a f = absurd (false≢true (sym (ap (λ (c : Called StepReply). is_accepted c.answer) e) ∙ accepted))
    go (let_through z e) (Ok StepAnswer.Waiting) f = waiting_alike m m' q d z f
    go (let_through z e) (Ok StepAnswer.Moved) f = call_alike m m' q d z (ap performs f)
    go (let_through z e) (Ok (StepAnswer.Done a s)) f = call_alike m m' q d z (ap performs f)
    go (let_through z e) (Err n) f = absurd (false≢true (sym (ap is_accepted f) ∙ accepted))

-- ---- Page by page

module _ (m m' : Memory) (q : ℕ) (accepted : is_accepted (step_call m q).answer ≡ true) (d : DiffersOutside (read_by m q) m m') where
  -- A page on which the memories agree is the same in both afterwards.
  pub alike_stays : (x : ℕ) → page_of m'.pages x ≡ page_of m.pages x → page_of (step_after m' q).pages x ≡ page_of (step_after m q).pages x
  alike_stays x e = go (tell (is_open m.root (read_by m q) x)) (reads_what_it_follows m m' q accepted d)
    where
      go : Told (is_open m.root (read_by m q) x) → StepAlike m m' q → page_of (step_after m' q).pages x ≡ page_of (step_after m q).pages x
      go (holds h) a = a.open= x h
      go (fails h) a = a.shut_kept' x h ∙ e ∙ sym (a.shut_kept x h)

  -- A page on which they differ is as it was, in both.
  pub unlike_kept : (x : ℕ) → page_of m'.pages x ≢ page_of m.pages x
      → (page_of (step_after m q).pages x ≡ page_of m.pages x) × (page_of (step_after m' q).pages x ≡ page_of m'.pages x)
  unlike_kept x n = go (tell (is_open m.root (read_by m q) x)) (reads_what_it_follows m m' q accepted d)
    where
      go : Told (is_open m.root (read_by m q) x) → StepAlike m m' q
          → (page_of (step_after m q).pages x ≡ page_of m.pages x) × (page_of (step_after m' q).pages x ≡ page_of m'.pages x)
      go (holds h) a = absurd (n (d.open= x h))
      go (fails h) a = (a.shut_kept x h, a.shut_kept' x h)
