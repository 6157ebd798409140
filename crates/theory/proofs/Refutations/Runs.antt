-- What is no call, no look, no way in and no run: each wrong claim beside the right one that differs from it in one
-- place, on memory that has no words; and on reachable memory that no step which performs leaves all as it was.
-- Main statements: step_made and step_wrong, begin_made and begin_wrong, withdraw_made and withdraw_wrong; look_made
-- and look_wrong; bare_shut (no way into a run); call_left_out, event_made_up; look_right and
-- look_in_between (looks_right); performed_altered.
use mathlib.Core.Path.{◌≡◌, refl, sym, ◌∙◌, ap}
use mathlib.Core.Bool.{true, false, false≢true}
use mathlib.Core.List.{List, [], ◌∷◌}
use mathlib.Core.Option.{none, some}
use Prim.Native.Nat.{ℕ}
use native.Mathlib.Omega.{arith}
use Rattle.std.specs.Prelude.{Ok, Err}
use Rattle.model.specs.declared.Refusal.{Refusal}
use Rattle.model.specs.declared.Operation.TheVariants as Operation
use Rattle.model.specs.declared.StepAnswer.{StepAnswer}
use Rattle.model.specs.Sizes.{within_limits}
use Rattle.model.specs.Records.{root_of_sizes}
use Rattle.model.specs.Memory.{Memory, party_at}
use Rattle.model.specs.Refusals.{first_cause, begin_rows, step_rows, withdraw_rows}
use Rattle.model.specs.Calls.{Called, begin_call, step_call, withdraw_call}
use Rattle.model.specs.Answers.{performs, StepReply, refusal_number}
use Rattle.model.specs.Effects.{AltersOwn, own_record, own_scratch, scratch_link, StepAlters}
use Rattle.model.specs.TakeUp.{take_up_rows, take_up_call}
use Rattle.model.specs.Runs.{Call, begin_for, step_for, withdraw_for, Reply, to_begin, to_step, to_withdraw, Event}
use Rattle.model.specs.Book.{Book, empty_book, changed_at, with_entry}
use Rattle.model.specs.Progress.{is_entered, under_way, some_below}
use Rattle.theory.specs.Demands.{Start, Reached}
use Rattle.theory.specs.Made.{Looked, Opened, Made, begun, stepped, withdrew, Ran, ended, looked, looks_right}
use Rattle.theory.proofs.Alters.{run_alters}
use Rattle.theory.proofs.Made.{made_once, looked_once, calls_told, opened_starts, start_taken}

-- ---- Memory that has no words

-- Every size is 0, which is outside the limits: each call is refused 2.
abbrev bare : Memory
bare = record { root = root_of_sizes 0 0 0 0 0; parties = []; locks = []; pages = []; waiting = [] }

-- Both are replies to one call: they are the same.
module _ {c : Call} {x y : Reply} (wrong : Made bare c x bare) (right : Made bare c y bare) where
  same_reply : x ≡ y
  same_reply = (made_once wrong right).0

pub step_made : Made bare (step_for 0) (to_step (Err Refusal.Size)) bare
unfolding step_call step_rows first_cause within_limits
step_made = stepped 0 (Err Refusal.Size) refl

pub step_wrong : Made bare (step_for 0) (to_step (Ok StepAnswer.Moved)) bare → ⊥
step_wrong w = let e = same_reply w step_made in let z : ◌≡◌ {A = ℕ} 0 1 = cc in omega arith

pub begin_made : Made bare (begin_for 0 Operation.Find 0) (to_begin (Err Refusal.Size)) bare
unfolding begin_call begin_rows first_cause within_limits
begin_made = begun 0 Operation.Find 0 (Err Refusal.Size) refl

pub begin_wrong : Made bare (begin_for 0 Operation.Find 0) (to_begin (Ok tt)) bare → ⊥
begin_wrong w = let e = same_reply w begin_made in let z : ◌≡◌ {A = ℕ} 0 1 = cc in omega arith

pub withdraw_made : Made bare (withdraw_for 0) (to_withdraw (Err Refusal.Size)) bare
unfolding withdraw_call withdraw_rows first_cause within_limits
withdraw_made = withdrew 0 (Err Refusal.Size) refl

pub withdraw_wrong : Made bare (withdraw_for 0) (to_withdraw (Ok tt)) bare → ⊥
withdraw_wrong w = let e = same_reply w withdraw_made in let z : ◌≡◌ {A = ℕ} 0 1 = cc in omega arith

pub look_made : Looked bare (Err Refusal.Size) bare
unfolding take_up_call take_up_rows first_cause within_limits
look_made = refl

pub look_wrong : Looked bare (Ok tt) bare → ⊥
look_wrong w = let e = (looked_once bare w look_made).0 in let z : ◌≡◌ {A = ℕ} 0 1 = cc in omega arith

-- No way leads into a run from it.
pub bare_shut : Opened bare → ⊥
unfolding within_limits
bare_shut way =
    let x = opened_starts way in
    false≢true (ap (λ (m : Memory). within_limits m.root) x.starts ∙ x.begins.sizes_fit)

-- ---- Runs

-- A call that was left out, and an event that no call made.
pub call_left_out : (m : Memory) (c : Call) → Ran m (c ∷ []) [] m → ⊥
call_left_out m c r = let e = calls_told r in let z : ◌≡◌ {A = ℕ} 0 1 = cc in omega arith

pub event_made_up : (m : Memory) (e : Event) → Ran m [] (e ∷ []) m → ⊥
event_made_up m e r = let e = calls_told r in let z : ◌≡◌ {A = ℕ} 0 1 = cc in omega arith

-- Party 0 has a find under way, and nobody else has anything.
abbrev one_busy : Book
one_busy = with_entry empty_book 0 (some (record { operation = Operation.Find; key = 0; note = none }))

-- A look answered taken up is right where nobody is under way, and wrong where party 0 is.
module _ (s : Start) where
  pub look_right : looks_right 1 empty_book (looked (start_taken s) ended) ≡ true
  unfolding looks_right refusal_number empty_book under_way some_below is_entered
  look_right = refl

  pub look_in_between : looks_right 1 one_busy (looked (start_taken s) ended) ≡ false
  unfolding looks_right refusal_number empty_book under_way some_below is_entered changed_at
  look_in_between = refl

-- ---- Reachable memory

-- No step that moved or is done leaves all memory as it was.
module _ (s : Start) (cs : List Call) (q : ℕ) where
  pub performed_altered : (a : StepReply) → performs a ≡ true → Made (Reached s cs) (step_for q) (to_step a) (Reached s cs) → ⊥
  performed_altered a moves w = go (Reached s cs) (run_alters s cs q) refl w
    where
      altered : (m : Memory) → AltersOwn m q → (step_call m q).memory ≡ m → ⊥
      altered m (own_record r) e = r.another_step (ap (λ (x : Memory). (party_at x.parties q).step) e)
      altered m (own_scratch r) e = r.another_link (ap (λ (x : Memory). scratch_link x q) e)

      go : (m : Memory) → StepAlters m q → {m' : Memory} → m' ≡ m → Made m (step_for q) (to_step a) m' → ⊥
      go m alters same (stepped _ _ e) =
          altered m (alters.performed (ap (λ (c : Called StepReply). performs c.answer) (sym e) ∙ moves)) (sym (ap (λ (c : Called StepReply). c.memory) e) ∙ same)
