-- Every call on every memory is made, with the reply and the memory of the definitions, and with no other; every list
-- of calls is run, with the events and the memory of the definitions, and with no others, whatever looks were made;
-- and which memory a run may start from: what format made, and what passes take-up.
-- Main statements: made, made_reply, made_memory, made_once; look, looked_answer, looked_memory, looked_once; ran,
-- ran_looking (a look at every place), ran_events, ran_memory, ran_once, ran_both (a list behind another),
-- calls_told; format_starts, formatted_fits, formatted_once; start-opens, format_opens, OpenedAt, opened_starts;
-- looks_right_lem. What is no call and no run: Refutations/Runs.antt.
use mathlib.Core.Path.{◌≡◌, refl, sym, ◌∙◌, ap, ap₂, subst}
use mathlib.Core.Bool.{Bool, true, false, cond}
use mathlib.Core.List.{List, [], ◌∷◌, ◌++◌, map}
use Prim.Native.Nat.{ℕ, suc}
use lib.ListN.{length}
use Rattle.std.specs.Prelude.{Ok, Err, ⊤}
use Rattle.model.proofs.Laws.Answers.{not_refused}
use Rattle.model.specs.declared.Refusal.{Refusal}
use Rattle.model.specs.Answers.{StepReply, CallReply, cause_number, refusal_number}
use Rattle.model.specs.declared.FileSizes.{FileSizes}
use Rattle.model.specs.Sizes.{within_limits}
use Rattle.model.specs.Records.{root_sized}
use Rattle.model.specs.Memory.{Memory, formatted}
use Rattle.model.specs.Refusals.{lengths_fit}
use Rattle.model.specs.Calls.{Called, called, begin_call, step_call, withdraw_call}
use Rattle.model.specs.TakeUp.{take_up_call}
use Rattle.model.specs.Book.{Book}
use Rattle.model.specs.Progress.{under_way, some_below, book_after_call}
use Rattle.model.specs.Runs.{Call, begin_for, step_for, withdraw_for, Reply, to_begin, to_step, to_withdraw, Event, reply_to, after_call, event_of, events, final_memory}
use Rattle.theory.specs.Demands.{Sizes, Start, start}
use Rattle.theory.specs.Made.{Formatted, Looked, Opened, by_format, by-take_up, Made, begun, stepped, withdrew, happened, Ran, ended, next, looked, looks_made, looks_right}
use Rattle.model.proofs.Laws.Lists.{both-and, eqb_same}
use Rattle.model.proofs.Invariant.Statement.{Inv}
use Rattle.model.proofs.Theorems.Calls.{call_kept}
use Rattle.model.proofs.Theorems.AllSteps.{steps_kept}
use Rattle.model.proofs.Theorems.RefusalOrder.{FormatOrder, format_order, take_up_order}
use Rattle.theory.proofs.SizesStay.{call_limits}
use Rattle.theory.proofs.TakenUp.{taken_answer, taken_start, formatted-start}

-- ---- One call

-- It is made, with this reply and this memory.
pub made : (m : Memory) (c : Call) → Made m c (reply_to m c) (after_call m c)
unfolding reply_to after_call
made m (begin_for q o k) = begun q o k (begin_call m q o k).answer refl
made m (step_for q) = stepped q (step_call m q).answer refl
made m (withdraw_for q) = withdrew q (withdraw_call m q).answer refl

-- And with no other.
pub made_reply : {m m' : Memory} {c : Call} {x : Reply} → Made m c x m' → x ≡ reply_to m c
unfolding reply_to
made_reply (begun q o k a e) = ap (λ (r : Called CallReply). to_begin r.answer) e
made_reply (stepped q a e) = ap (λ (r : Called StepReply). to_step r.answer) e
made_reply (withdrew q a e) = ap (λ (r : Called CallReply). to_withdraw r.answer) e

pub made_memory : {m m' : Memory} {c : Call} {x : Reply} → Made m c x m' → m' ≡ after_call m c
unfolding after_call
made_memory (begun q o k a e) = ap (λ (r : Called CallReply). r.memory) e
made_memory (stepped q a e) = ap (λ (r : Called StepReply). r.memory) e
made_memory (withdrew q a e) = ap (λ (r : Called CallReply). r.memory) e

pub made_once : {m u v : Memory} {c : Call} {x y : Reply} → Made m c x u → Made m c y v → (x ≡ y) × (u ≡ v)
made_once a b = (made_reply a ∙ sym (made_reply b), made_memory a ∙ sym (made_memory b))

-- ---- A look

-- Every memory can be looked at, and is left as it was.
pub look : (m : Memory) → Looked m (take_up_call m).answer m
unfolding take_up_call
look m = refl

pub looked_answer : (m : Memory) {m' : Memory} {a : CallReply} → Looked m a m' → a ≡ (take_up_call m).answer
looked_answer m is = ap (λ (c : Called CallReply). c.answer) is

pub looked_memory : {m m' : Memory} {a : CallReply} → Looked m a m' → m' ≡ m
unfolding take_up_call
looked_memory is = ap (λ (c : Called CallReply). c.memory) is

pub looked_once : (m : Memory) {u v : Memory} {a b : CallReply} → Looked m a u → Looked m b v → (a ≡ b) × (u ≡ v)
looked_once m x y = (looked_answer m x ∙ sym (looked_answer m y), looked_memory x ∙ sym (looked_memory y))

-- ---- A list of calls

-- It is run, with these events and this memory.
pub ran : (m : Memory) (cs : List Call) → Ran m cs (events m cs) (final_memory m cs)
unfolding events event_of final_memory
ran m [] = ended
ran m (c ∷ cs) = next (made m c) (ran (after_call m c) cs)

-- The same with a look before every call and after the last.
unfoldable pub ran_looking : (m : Memory) (cs : List Call) → Ran m cs (events m cs) (final_memory m cs)
unfolding events event_of final_memory
ran_looking m [] = looked (look m) ended
ran_looking m (c ∷ cs) = looked (look m) (next (made m c) (ran_looking (after_call m c) cs))

pub looks_everywhere : (m : Memory) (cs : List Call) → looks_made (ran_looking m cs) ≡ suc (length cs)
unfolding ran_looking looks_made events event_of final_memory
looks_everywhere m [] = refl
looks_everywhere m (c ∷ cs) = ap suc (looks_everywhere (after_call m c) cs)

-- And with no others, whatever looks were made.
pub ran_events : {m m' : Memory} {cs : List Call} {es : List Event} → Ran m cs es m' → es ≡ events m cs
unfolding events event_of
ran_events ended = refl
ran_events (next {m} {m'} {m''} {c} {x} {cs} {es} call rest) =
    ap₂ (λ (y : Reply) (xs : List Event). happened m c y ∷ xs) (made_reply call) (ran_events rest ∙ ap (λ (z : Memory). events z cs) (made_memory call))
ran_events (looked {m} {m'} {m''} {a} {cs} {es} is rest) = ran_events rest ∙ ap (λ (z : Memory). events z cs) (looked_memory is)

pub ran_memory : {m m' : Memory} {cs : List Call} {es : List Event} → Ran m cs es m' → m' ≡ final_memory m cs
unfolding final_memory
ran_memory ended = refl
ran_memory (next {m} {m'} {m''} {c} {x} {cs} {es} call rest) = ran_memory rest ∙ ap (λ (z : Memory). final_memory z cs) (made_memory call)
ran_memory (looked {m} {m'} {m''} {a} {cs} {es} is rest) = ran_memory rest ∙ ap (λ (z : Memory). final_memory z cs) (looked_memory is)

pub ran_once : {m u v : Memory} {cs : List Call} {es fs : List Event} → Ran m cs es u → Ran m cs fs v → (es ≡ fs) × (u ≡ v)
ran_once a b = (ran_events a ∙ sym (ran_events b), ran_memory a ∙ sym (ran_memory b))

-- One list run behind another.
pub ran_both : {m u v : Memory} {cs ds : List Call} {es fs : List Event} → Ran m cs es u → Ran u ds fs v → Ran m (cs ++ ds) (es ++ fs) v
ran_both ended b = b
ran_both (next call rest) b = next call (ran_both rest b)
ran_both (looked is rest) b = looked is (ran_both rest b)

-- The events are of the very calls made, in their order.
pub calls_told : {m m' : Memory} {cs : List Call} {es : List Event} → Ran m cs es m' → map (λ (e : Event). e.call) es ≡ cs
calls_told ended = refl
calls_told (next {m} {m'} {m''} {c} {x} {cs} {es} call rest) = ap (λ (ds : List Call). c ∷ ds) (calls_told rest)
calls_told (looked is rest) = calls_told rest

-- ---- Format

module _ (m₀ : Memory) (z : FileSizes) where
  abbrev ordered : FormatOrder m₀ z.originals z.capacity z.primaries z.overflow z.parties
  ordered = format_order m₀ z.originals z.capacity z.primaries z.overflow z.parties

  -- Memory of the lengths that sizes within their limits ask for is formatted, whatever its words are.
  pub format_starts : within_limits (root_sized z) ≡ true → lengths_fit (root_sized z) m₀ ≡ true → Formatted m₀ z (formatted (root_sized z))
  format_starts e f = sym (ordered.none e f)

  -- An answer is not formatted and refused at once.
  refused : {X : Type 0} (m : Memory) (k : Refusal) → ◌≡◌ {A = Called CallReply} (called (Ok tt) m) (called (Err k) m₀) → X
  refused m k e = absurd (not_refused tt k (ap (λ (c : Called CallReply). c.answer) e))

  abbrev pub Fits : Memory → Type 0
  Fits m = (within_limits (root_sized z) ≡ true) × (lengths_fit (root_sized z) m₀ ≡ true) × (m ≡ formatted (root_sized z))

  -- And no other is: the sizes are within their limits, the lengths fit, and the memory left is the formatted one.
  pub formatted_fits : (m : Memory) → Formatted m₀ z m → Fits m
  formatted_fits m is = go (within_limits (root_sized z)) (lengths_fit (root_sized z) m₀) refl refl
    where
      go : (s l : Bool) → within_limits (root_sized z) ≡ s → lengths_fit (root_sized z) m₀ ≡ l → Fits m
      go false l e f = refused m Refusal.Size (is ∙ ordered.sizes e)
      go true false e f = refused m Refusal.Length (is ∙ ordered.lengths e f)
      go true true e f = (e, f, ap (λ (c : Called CallReply). c.memory) (is ∙ ordered.none e f))

  pub formatted_once : (u v : Memory) → Formatted m₀ z u → Formatted m₀ z v → u ≡ v
  formatted_once u v a b = (formatted_fits u a).2 ∙ sym (formatted_fits v b).2

  -- The sizes that were given, within their limits.
  abbrev pub sizes_fitting : (m : Memory) → Formatted m₀ z m → Sizes
  sizes_fitting m is = record {
    originals = z.originals;
    capacity = z.capacity;
    primaries = z.primaries;
    overflow = z.overflow;
    parties = z.parties;
    fit = (formatted_fits m is).0;
  }

-- ---- The ways into a run

-- Memory that a run may start from is taken up, and left as it is.
pub start_taken : (s : Start) → Looked (start s) (Ok tt) (start s)
start_taken s = sym ((take_up_order (start s)).none s.sizes_fit s.lengths_fit_ok s.saved)

-- So there is a way into a run from it, and after every format that was answered formatted.
pub start-opens : (s : Start) → Opened (start s)
start-opens s = by-take_up (start s) (start_taken s)

pub format_opens : (m₀ : Memory) (z : FileSizes) → within_limits (root_sized z) ≡ true → lengths_fit (root_sized z) m₀ ≡ true → Opened (formatted (root_sized z))
format_opens m₀ z e f = by_format m₀ z (format_starts m₀ z e f)

-- And from no other: memory behind a way in passes take-up.
pub record OpenedAt (m : Memory) : Type 0 where
  pub begins : Start
  pub starts : m ≡ start begins

pub opened_starts : {m : Memory} → Opened m → OpenedAt m
unfolding formatted-start taken_start
opened_starts (by_format {m} m₀ z is) = record { begins = formatted-start (sizes_fitting m₀ z m is); starts = (formatted_fits m₀ z m is).2 }
opened_starts (by-take_up {m} m₀ is) = record { begins = taken_start m₀ (sym (looked_answer m₀ is)); starts = looked_memory is }

-- ---- What looks answer

-- The number of the answer that a look gets where the invariant holds.
refusal_is : (t : Bool) → refusal_number {A = ⊤} (cond t (Err Refusal.Unsaved) (Ok tt)) ≡ cond t 8 0
unfolding refusal_number cause_number
refusal_is true = refl
refusal_is false = refl

look_number : (m m' : Memory) (b : Book) (a : CallReply) → Inv m b → Looked m a m'
    → refusal_number a ≡ cond (some_below m.root.parties (under_way b)) 8 0
look_number m m' b a i is =
    ap (λ (c : Called CallReply). refusal_number c.answer) (is ∙ taken_answer m b i) ∙ refusal_is (some_below m.root.parties (under_way b))

pub looks_right_lem : {m m' : Memory} {cs : List Call} {es : List Event} (n : ℕ) (b : Book) (run : Ran m cs es m') → n ≡ m.root.parties → Inv m b → looks_right n b run ≡ true
unfolding looks_right event_of
looks_right_lem n b ended e i = refl
looks_right_lem n b (next {m} {m'} {m''} {c} {x} {cs} {es} call rest) e i =
    looks_right_lem n (book_after_call b m c) rest (e ∙ sym (call_limits m c).parties= ∙ ap (λ (z : Memory). z.root.parties) (sym (made_memory call)))
    (subst (λ (z : Memory). Inv z (book_after_call b m c)) (sym (made_memory call)) (call_kept steps_kept m b i c).inv)
looks_right_lem n b (looked {m} {m'} {m''} {a} {cs} {es} is rest) e i =
    both-and (eqb_same (refusal_number a) (cond (some_below n (under_way b)) 8 0)
    (look_number m m' b a i is ∙ ap (λ (k : ℕ). cond (some_below k (under_way b)) 8 0) (sym e)))
    (looks_right_lem n b rest (e ∙ ap (λ (z : Memory). z.root.parties) (sym (looked_memory is))) (subst (λ (z : Memory). Inv z b) (sym (looked_memory is)) i))
