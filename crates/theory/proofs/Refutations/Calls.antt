-- Runs with more calls than the bound, and others that calls_bounded calls wrong, beside those that it calls right; and
-- the runs of programs that do in many calls what a step does in one, or do it again.
-- Main statements: find_last, find_late; insert_last, insert_late; delete_last, delete_late and their like by the
-- sizes; chase-stays, page_copied_lem, old_pages_singly, split-again; what counts and what does not; others_wrong,
-- others_uncounted (a reply to a call of another kind).
use mathlib.Core.Path.{◌≡◌, refl}
use mathlib.Core.Bool.{Bool, true, false}
use mathlib.Core.List.{List, [], ◌∷◌, ◌++◌}
use mathlib.Core.Option.{Option}
use Prim.Native.Nat.{ℕ}
use lib.ListN.{replicate}
use Rattle.std.specs.Prelude.{Ok, Err}
use Rattle.model.specs.declared.Refusal.{Refusal}
use Rattle.model.specs.Answers.{StepReply, CallReply}
use Rattle.model.specs.declared.Root.{Root}
use Rattle.model.specs.declared.Operation.{Operation}
use Rattle.model.specs.declared.OperationAnswer.TheVariants as OperationAnswer
use Rattle.model.specs.declared.Restructuring.TheVariants as Restructuring
use Rattle.model.specs.declared.StepAnswer.{StepAnswer}
use Rattle.model.specs.Records.{root_of_sizes}
use Rattle.model.specs.Runs.{Call, begin_for, step_for, withdraw_for, Reply, to_begin, to_step, to_withdraw, Event}
use Rattle.theory.specs.CallsBounded.{most_calls, most_by_sizes, Counted, none_counted, call_bounded, counted_after, calls_bounded}
use Rattle.theory.proofs.Refutations.Opened.{opened}

-- ---- Runs

abbrev begins : ℕ → Operation → CallReply → Event
begins q o a = record { call = begin_for q o 4; number = 0; reply = to_begin a }

abbrev steps : ℕ → StepReply → Event
steps q a = record { call = step_for q; number = 1; reply = to_step a }

abbrev withdraws : ℕ → CallReply → Event
withdraws q a = record { call = withdraw_for q; number = 1; reply = to_withdraw a }

abbrev is_done : StepReply
is_done = Ok (StepAnswer.Done OperationAnswer.Absent Restructuring.None)

-- Party 0 begins an operation and is moved on n times; then come these.
abbrev moved_then : Operation → ℕ → List Event → List Event
moved_then o n es = begins 0 o (Ok tt) ∷ (replicate n (steps 0 (Ok StepAnswer.Moved)) ++ es)

-- From 1 chain to 256, with 3 overflow pages: R is 8, and a find takes at most 34 calls. From 5 to 12: R is 2. Of 5 in
-- 5: R is 0.
abbrev widest : Root
widest = root_of_sizes 1 2 256 3 2

abbrev doubling : Root
doubling = root_of_sizes 5 2 12 3 2

abbrev fixed : Root
fixed = root_of_sizes 5 2 5 3 2

abbrev asked : Root → List Event → Bool
asked r es = calls_bounded (most_calls r) none_counted es

abbrev by_sizes : Root → List Event → Bool
by_sizes r es = calls_bounded (most_by_sizes r) none_counted es

-- ---- The last call is done: moved on by it, an operation is refused, whether or not it ends

find_last : asked widest (moved_then Operation.Find 33 (steps 0 is_done ∷ [])) ≡ true
unfolding opened
find_last = refl

find_late : asked widest (moved_then Operation.Find 34 []) ≡ false
unfolding opened
find_late = refl

insert_last : asked widest (moved_then (Operation.Insert 9) 44 (steps 0 is_done ∷ [])) ≡ true
unfolding opened
insert_last = refl

insert_late : asked widest (moved_then (Operation.Insert 9) 45 []) ≡ false
unfolding opened
insert_late = refl

delete_last : asked widest (moved_then Operation.Delete 44 (steps 0 is_done ∷ [])) ≡ true
unfolding opened
delete_last = refl

delete_late : asked widest (moved_then Operation.Delete 45 []) ≡ false
unfolding opened
delete_late = refl

-- Done is the last call that there may be.
done-within : calls_bounded (λ o. 1) none_counted (moved_then Operation.Find 0 (steps 0 is_done ∷ [])) ≡ true
unfolding opened
done-within = refl

done_late : calls_bounded (λ o. 0) none_counted (moved_then Operation.Find 0 (steps 0 is_done ∷ [])) ≡ false
unfolding opened
done_late = refl

-- ---- Programs that take too many calls

-- A step of party 0 with this number, moved.
abbrev moves : ℕ → Event
moves k = record { call = step_for 0; number = k; reply = to_step (Ok StepAnswer.Moved) }

-- The first calls of every operation, up to 6.
abbrev locates : List Event
locates = moves 1 ∷ moves 2 ∷ moves 3 ∷ moves 4 ∷ moves 5 ∷ moves 6 ∷ []

abbrev splits : List Event
splits = moves 15 ∷ moves 16 ∷ moves 17 ∷ moves 18 ∷ moves 19 ∷ moves 20 ∷ moves 21 ∷ moves 22 ∷ []

abbrev run_of : Operation → List Event → List Event
run_of o es = begins 0 o (Ok tt) ∷ (locates ++ es)

-- The most overflow pages that there can be.
abbrev roomiest : Root
roomiest = root_of_sizes 1 2 256 752 2

-- A chase that raises lev by one a call and stays at 6: a find moved 31 + V times.
chase-stays : asked widest (run_of Operation.Find (replicate 28 (moves 6))) ≡ false
unfolding opened
chase-stays = refl

-- A 9 that copies the page that it has: a find moved 31 + V times.
page_copied_lem : asked widest (run_of Operation.Find (replicate 28 (moves 9))) ≡ false
unfolding opened
page_copied_lem = refl

-- A 14 that gives back one page a call: an insert moved 45 times.
old_pages_singly : asked roomiest (run_of (Operation.Insert 9) (moves 10 ∷ moves 11 ∷ moves 12 ∷ moves 13 ∷ replicate 35 (moves 14))) ≡ false
unfolding opened
old_pages_singly = refl

-- A 22 that goes to 15: an insert moved 45 times.
split-again : asked roomiest (run_of (Operation.Insert 9) (moves 10 ∷ moves 11 ∷ moves 12 ∷ (splits ++ splits ++ splits ++ splits ++ (moves 15 ∷ moves 16 ∷ moves 17 ∷ moves 18 ∷ [])))) ≡ false
unfolding opened
split-again = refl

-- ---- By the sizes

delete_last_widest : by_sizes widest (moved_then Operation.Delete 42 (steps 0 is_done ∷ [])) ≡ true
unfolding opened
delete_last_widest = refl

delete_late_widest : by_sizes widest (moved_then Operation.Delete 43 []) ≡ false
unfolding opened
delete_late_widest = refl

find_last_doubling : by_sizes doubling (moved_then Operation.Find 15 (steps 0 is_done ∷ [])) ≡ true
unfolding opened
find_last_doubling = refl

find_late_doubling : by_sizes doubling (moved_then Operation.Find 16 []) ≡ false
unfolding opened
find_late_doubling = refl

insert_last_doubling : by_sizes doubling (moved_then (Operation.Insert 9) 26 (steps 0 is_done ∷ [])) ≡ true
unfolding opened
insert_last_doubling = refl

insert_late_doubling : by_sizes doubling (moved_then (Operation.Insert 9) 27 []) ≡ false
unfolding opened
insert_late_doubling = refl

find_last_fixed : by_sizes fixed (moved_then Operation.Find 9 (steps 0 is_done ∷ [])) ≡ true
unfolding opened
find_last_fixed = refl

find_late_fixed : by_sizes fixed (moved_then Operation.Find 10 []) ≡ false
unfolding opened
find_late_fixed = refl

-- ---- What counts

-- Waiting and refused calls do not, nor another party's.
waits_aside : by_sizes fixed (moved_then Operation.Find 9 (steps 0 (Ok StepAnswer.Waiting) ∷ steps 0 (Err Refusal.Idle) ∷ steps 1 (Err Refusal.Idle) ∷ steps 0 is_done ∷ [])) ≡ true
unfolding opened
waits_aside = refl

others_aside : by_sizes fixed (begins 1 Operation.Find (Ok tt) ∷ moved_then Operation.Find 9 (steps 1 (Ok StepAnswer.Moved) ∷ steps 0 is_done ∷ steps 1 is_done ∷ [])) ≡ true
unfolding opened
others_aside = refl

-- The next operation is counted from 0, once the last is done or withdrawn.
done_anew : by_sizes fixed (moved_then Operation.Find 9 (steps 0 is_done ∷ moved_then Operation.Find 9 (steps 0 is_done ∷ []))) ≡ true
unfolding opened
done_anew = refl

withdrawn_anew : by_sizes fixed (moved_then Operation.Find 9 (withdraws 0 (Ok tt) ∷ moved_then Operation.Find 9 (steps 0 is_done ∷ []))) ≡ true
unfolding opened
withdrawn_anew = refl

-- A withdraw refused leaves it, and so does a begin refused.
refused_last : by_sizes fixed (moved_then Operation.Find 9 (withdraws 0 (Err Refusal.Decided) ∷ begins 0 Operation.Find (Err Refusal.Busy) ∷ steps 0 is_done ∷ [])) ≡ true
unfolding opened
refused_last = refl

refused_late : by_sizes fixed (moved_then Operation.Find 9 (withdraws 0 (Err Refusal.Decided) ∷ begins 0 Operation.Find (Err Refusal.Busy) ∷ steps 0 (Ok StepAnswer.Moved) ∷ [])) ≡ false
unfolding opened
refused_late = refl

-- ---- Answers that nothing under way gets

moved_unbegun : asked widest (steps 0 (Ok StepAnswer.Moved) ∷ []) ≡ false
unfolding opened
moved_unbegun = refl

done_unbegun : asked widest (steps 0 is_done ∷ []) ≡ false
unfolding opened
done_unbegun = refl

moved_behind_done : asked widest (moved_then Operation.Find 8 (steps 0 is_done ∷ steps 0 (Ok StepAnswer.Moved) ∷ [])) ≡ false
unfolding opened
moved_behind_done = refl

moved-withdrawn : asked widest (moved_then Operation.Find 8 (withdraws 0 (Ok tt) ∷ steps 0 (Ok StepAnswer.Moved) ∷ [])) ≡ false
unfolding opened
moved-withdrawn = refl

begun_twice : asked widest (moved_then Operation.Find 8 (begins 0 Operation.Find (Ok tt) ∷ [])) ≡ false
unfolding opened
begun_twice = refl

-- Waiting is not counted, begun or not.
waiting_unbegun : asked widest (steps 0 (Ok StepAnswer.Waiting) ∷ []) ≡ true
unfolding opened
waiting_unbegun = refl

-- ---- A reply to a call of another kind is wrong, and counts nothing

module _ (w : ℕ → Option Counted) (most : Operation → ℕ) (q k : ℕ) (o : Operation) (b : CallReply) (s : StepReply) (d : CallReply) where
  abbrev to_others : {A : Type 0} → (Call → Reply → A) → List A
  to_others f =
      f (begin_for q o k) (to_step s) ∷ f (begin_for q o k) (to_withdraw d) ∷ f (step_for q) (to_begin b) ∷ f (step_for q) (to_withdraw d) ∷ f (withdraw_for q) (to_begin b) ∷ f (withdraw_for q) (to_step s)
      ∷ []

  pub others_wrong : to_others (call_bounded w) ≡ replicate 6 false
  unfolding call_bounded
  others_wrong = refl

  pub others_uncounted : to_others (counted_after most w) ≡ replicate 6 w
  unfolding counted_after
  others_uncounted = refl
