-- A C caller has THE INDEX: a run of bead_format, bead_take_up, bead_begin, bead_step and bead_withdraw is a run of
-- the index with the numbers seen, and right. The statements are specs/TheCalls.antt.
-- Main statements: begin_seen, step-seen, withdraw_seen, look-seen (every call can be made); start-zero,
-- formats_zero; format_zero, take_up_zero and begin_zero (0 says formatted, taken up, begun), moved_told and
-- done_told (outcomes 1 and 2); opened; told (every run seen is a run of the index); bead_right, opens-again.
use mathlib.Core.Path.{◌≡◌, refl, sym, ◌∙◌, ap, ap₂, subst}
use mathlib.Core.Bool.{Bool, true, false, cond}
use mathlib.Core.List.{List, [], ◌∷◌}
use Prim.Native.Nat.{ℕ}
use native.Mathlib.Omega.{arith}
use Rattle.std.specs.Prelude.{Ok, Err}
use Rattle.model.specs.declared.Refusal.{Refusal}
use Rattle.model.specs.declared.OperationAnswer.{OperationAnswer}
use Rattle.model.specs.declared.Restructuring.{Restructuring}
use Rattle.model.specs.declared.StepAnswer.{StepAnswer}
use Rattle.model.specs.Answers.{answer_number, setting_found, restructuring_number, cause_number, refusal_number, StepReply, CallReply}
use Rattle.model.specs.Memory.{Memory}
use Rattle.model.specs.Calls.{Called, called, format_call, begin_call, step_call, withdraw_call}
use Rattle.model.specs.TakeUp.{saved_book, take_up_call}
use Rattle.model.specs.Book.{book_at_end}
use Rattle.theory.specs.Demands.{Start, start, AtRest}
use Rattle.model.specs.Runs.{Call, begin_for, Reply, Event}
use Rattle.theory.specs.Made.{Formatted, Looked, Opened, Ran, happened}
use Rattle.theory.specs.Made as Made
use Rattle.theory.proofs.Made.{look, start_taken, opened_starts}
use Rattle.index.proofs.TheIndex.{index_right}
use Rattle.index.proofs.ForCallers.{goes_on}
use Rattle.bead.specs.Numbers.{sizes_of, is_operation, operation_of, reply_of, numbered, begin_numbered}
use Rattle.bead.specs.TheCalls.{BeadFormatted, BeadLooked, BeadBegun, BeadOpened, by_format, by-take_up, Seen, begin_saw, step_saw, withdraw_saw, look_saw, BeadRan, ended, begun, stepped, withdrew, looked, BeadAnswer, number, reply, calls_in, answers_in, looks_in, answer_for, answers_of, looks_of, BeadRight}

-- ---- Every call can be made, on every memory

module _ (m : Memory) {m' : Memory} {ss : List Seen} where
  pub begin_seen : (q o k x : ℕ) → BeadRan (begin_numbered m q o k x).memory ss m' → BeadRan m (begin_saw q o k x (begin_numbered m q o k x).answer ∷ ss) m'
  begin_seen q o k x rest = begun q o k x (begin_numbered m q o k x).answer refl rest

  pub step-seen : (q : ℕ) → BeadRan (step_call m q).memory ss m' → BeadRan m (step_saw q (reply_of (step_call m q).answer) ∷ ss) m'
  step-seen q rest = stepped q (reply_of (step_call m q).answer) refl rest

  pub withdraw_seen : (q : ℕ) → BeadRan (withdraw_call m q).memory ss m' → BeadRan m (withdraw_saw q (refusal_number (withdraw_call m q).answer) ∷ ss) m'
  withdraw_seen q rest = withdrew q (refusal_number (withdraw_call m q).answer) refl rest

  pub look-seen : BeadRan m ss m' → BeadRan m (look_saw (refusal_number (take_up_call m).answer) ∷ ss) m'
  look-seen rest = looked (refusal_number (take_up_call m).answer) (ap (numbered refusal_number) (look m)) rest

-- Where a run may start, bead_take_up returns 0; so does bead_format, where it formats.
pub start-zero : (s : Start) → BeadOpened (start s)
unfolding refusal_number
start-zero s = by-take_up (start s) (ap (numbered refusal_number) (start_taken s))

pub formats_zero : (m₀ : Memory) (n b p v q : ℕ) (m : Memory) → Formatted m₀ (sizes_of n b p v q) m → BeadOpened m
unfolding refusal_number
formats_zero m₀ n b p v q m is =
    let says : BeadFormatted m₀ n b p v q 0 m = ap (numbered refusal_number) is in by_format m₀ n b p v q says

-- ---- 0 was returned

-- Two calls that are the same returned the same and left the same.
answer_same : {A : Type 0} {x y : A} {m m' : Memory} → called x m ≡ called y m' → x ≡ y
answer_same {A} e = ap (λ (c : Called A). c.answer) e

memory_same : {A : Type 0} {x y : A} {m m' : Memory} → called x m ≡ called y m' → m ≡ m'
memory_same {A} e = ap (λ (c : Called A). c.memory) e

-- A refusal has another number.
zero_ok : (a : CallReply) → refusal_number a ≡ 0 → a ≡ Ok tt
unfolding refusal_number cause_number
zero_ok (Ok t) e = refl
zero_ok (Err Refusal.Size) e = absurd (omega (arith, e))
zero_ok (Err Refusal.Length) e = absurd (omega (arith, e))
zero_ok (Err Refusal.Unsaved) e = absurd (omega (arith, e))
zero_ok (Err Refusal.Party) e = absurd (omega (arith, e))
zero_ok (Err Refusal.Busy) e = absurd (omega (arith, e))
zero_ok (Err Refusal.Idle) e = absurd (omega (arith, e))
zero_ok (Err Refusal.Decided) e = absurd (omega (arith, e))
zero_ok (Err Refusal.Damage) e = absurd (omega (arith, e))

zero_told : (c : Called CallReply) (m : Memory) → called 0 m ≡ numbered refusal_number c → called (Ok tt) m ≡ c
zero_told c m is = ap (λ (a : CallReply). called a m) (sym (zero_ok c.answer (sym (answer_same is)))) ∙ ap (called c.answer) (memory_same is)

pub format_zero : (m₀ : Memory) (n b p v q : ℕ) (m : Memory) → BeadFormatted m₀ n b p v q 0 m → Formatted m₀ (sizes_of n b p v q) m
format_zero m₀ n b p v q m is = zero_told (format_call m₀ n b p v q) m is

pub take_up_zero : (m₀ m : Memory) → BeadLooked m₀ 0 m → Looked m₀ (Ok tt) m
take_up_zero m₀ m is = zero_told (take_up_call m₀) m is

pub opened : {m : Memory} → BeadOpened m → Opened m
opened (by_format {m} m₀ n b p v q is) = Made.by_format m₀ (sizes_of n b p v q) (format_zero m₀ n b p v q m is)
opened (by-take_up {m} m₀ is) = Made.by-take_up m₀ (take_up_zero m₀ m is)

-- 0 from a begin says that the number was an operation's, and that it is begun.
module _ (m : Memory) (q o k x : ℕ) (m' : Memory) (is : BeadBegun m q o k x 0 m') where
  pub begin_zero : (is_operation o ≡ true) × (begin_call m q (operation_of o x) k ≡ called (Ok tt) m')
  unfolding begin_numbered
  begin_zero = go (is_operation o) refl
    where
      go : (t : Bool) → is_operation o ≡ t → (is_operation o ≡ true) × (begin_call m q (operation_of o x) k ≡ called (Ok tt) m')
      go false e = let said : called {A = ℕ} 0 m' ≡ called 255 m = rw e at is in absurd (let z : ◌≡◌ {A = ℕ} 0 255 = answer_same said in omega arith)
      go true e =
          let said : called {A = ℕ} 0 m' ≡ numbered refusal_number (begin_call m q (operation_of o x) k) = rw e at is in
          (e, sym (zero_told (begin_call m q (operation_of o x) k) m' said))

-- Outcome 1 of a step says moved, and 2 says done, with the answer, the restructuring and the setting found.
pub moved_told : (a : StepReply) → (reply_of a).outcome ≡ 1 → a ≡ Ok StepAnswer.Moved
unfolding reply_of
moved_told (Ok StepAnswer.Waiting) e = absurd (omega (arith, e))
moved_told (Ok StepAnswer.Moved) e = refl
moved_told (Ok (StepAnswer.Done x s)) e = absurd (omega (arith, e))
moved_told (Err c) e = absurd (omega (arith, e))

pub record DoneTold (a : StepReply) : Type 0 where
  pub answer : OperationAnswer
  pub restructuring : Restructuring
  pub is : a ≡ Ok (StepAnswer.Done answer restructuring)
  pub numbers : ((reply_of a).answer ≡ answer_number answer) × ((reply_of a).restructuring ≡ restructuring_number restructuring) × ((reply_of a).setting ≡ setting_found answer)

pub done_told : (a : StepReply) → (reply_of a).outcome ≡ 2 → DoneTold a
unfolding reply_of
done_told (Ok StepAnswer.Waiting) e = absurd (omega (arith, e))
done_told (Ok StepAnswer.Moved) e = absurd (omega (arith, e))
done_told (Ok (StepAnswer.Done x s)) e = record { answer = x; restructuring = s; is = refl; numbers = (refl, refl, refl) }
done_told (Err c) e = absurd (omega (arith, e))

-- ---- A run

-- A run of the index of these calls, with these numbers for its replies and its looks.
pub record Told (m : Memory) (cs : List Call) (ys : List BeadAnswer) (ls : List ℕ) (m' : Memory) : Type 0 where
  pub events : List Event
  pub ran : Ran m cs events m'
  pub answers : ys ≡ answers_of events
  pub looks : ls ≡ looks_of ran

-- A call before it.
module _ {m m' m'' : Memory} {cs : List Call} {ys : List BeadAnswer} {ls : List ℕ} (rest : Told m' cs ys ls m'') where
  called-first : {c : Call} {x : Reply} (y : BeadAnswer) → Made.Made m c x m' → y ≡ answer_for x → Told m (c ∷ cs) (y ∷ ys) ls m''
  unfolding answers_of looks_of
  called-first {c} {x} y made told_by = record {
    events = happened m c x ∷ rest.events;
    ran = Made.next made rest.ran;
    answers = ap₂ (λ (z : BeadAnswer) (zs : List BeadAnswer). z ∷ zs) told_by rest.answers;
    looks = rest.looks;
  }

  looked-first : {a : CallReply} (y : ℕ) → Looked m a m' → y ≡ refusal_number a → Told m cs ys (y ∷ ls) m''
  unfolding looks_of
  looked-first y seen told_by = record {
    events = rest.events;
    ran = Made.looked seen rest.ran;
    answers = rest.answers;
    looks = ap₂ (λ (z : ℕ) (zs : List ℕ). z ∷ zs) told_by rest.looks;
  }

module _ {m m' m'' : Memory} {cs : List Call} {ys : List BeadAnswer} {ls : List ℕ} (rest : Told m' cs ys ls m'') (q o k x y : ℕ) (is : BeadBegun m q o k x y m') where
  -- A begin by number is one of the operation, or is answered 255 and alters nothing.
  begun_first : (t : Bool) → is_operation o ≡ t → Told m (cond t (begin_for q (operation_of o x) k ∷ cs) cs) (cond t (number y ∷ ys) ys) ls m''
  unfolding begin_numbered answer_for
  begun_first true e =
      let c = begin_call m q (operation_of o x) k in
      let said : called y m' ≡ numbered refusal_number c = rw e at is in
      called-first rest (number y) (Made.begun q (operation_of o x) k c.answer (ap (called c.answer) (memory_same said))) (ap number (answer_same said))
  begun_first false e = let said : called y m' ≡ called 255 m = rw e at is in subst (λ (u : Memory). Told u cs ys ls m'') (memory_same said) rest

pub told : {m m' : Memory} {ss : List Seen} → BeadRan m ss m' → Told m (calls_in ss) (answers_in ss) (looks_in ss) m'
unfolding calls_in answers_in looks_in answers_of looks_of answer_for
told ended = record { events = []; ran = Made.ended; answers = refl; looks = refl }
told (begun {m} {m'} {m''} {ss} q o k x y is rest) = begun_first (told rest) q o k x y is (is_operation o) refl
told (stepped {m} {m'} {m''} {ss} q y is rest) =
    let c = step_call m q in
    called-first (told rest) (reply y) (Made.stepped q c.answer (ap (called c.answer) (memory_same is))) (ap reply (answer_same is))
told (withdrew {m} {m'} {m''} {ss} q y is rest) =
    let c = withdraw_call m q in
    called-first (told rest) (number y) (Made.withdrew q c.answer (ap (called c.answer) (memory_same is))) (ap number (answer_same is))
told (looked {m} {m'} {m''} {ss} y is rest) =
    let c = take_up_call m in
    looked-first (told rest) y (ap (called c.answer) (memory_same is)) (answer_same is)

pub bead_right : {m₀ m : Memory} {ss : List Seen} → BeadOpened m₀ → BeadRan m₀ ss m → BeadRight m₀ ss m
bead_right {m₀} {m} {ss} way run =
    let t = told run in
    record { events = t.events; ran = t.ran; answers = t.answers; looks = t.looks; right = index_right (opened way) (calls_in ss) t.events m t.ran }

-- At rest, bead_take_up returns 0: the memory may be saved, and opens another run.
pub opens-again : {m₀ m : Memory} {ss : List Seen} (x : BeadRight m₀ ss m) → AtRest (book_at_end (saved_book m₀) x.events) → BeadOpened m
opens-again x rest = let f = opened_starts (goes_on x.right rest).0 in subst BeadOpened (sym f.starts) (start-zero f.begins)
