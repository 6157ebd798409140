-- The order of refusals: a call that meets two causes gets the earlier one, and leaves all lent memory (document 01,
-- "Refused calls").
-- Main definitions: FormatOrder, BeginOrder, StepOrder, WithdrawOrder, TakeUpOrder, one for each call: each cause,
-- where no earlier one is met, is the one returned.
-- Main statements: first_cause_lem (of any rows), format_order, begin_order, step_order, withdraw_order, take_up_order.
use mathlib.Core.Path.{◌≡◌, refl, ap}
use mathlib.Core.Logic.{◌≢◌}
use mathlib.Core.Bool.{true, false, not}
use mathlib.Core.List.{List, [], ◌∷◌, ◌++◌}
use Prim.Native.Nat.{ℕ, ◌≤◌, ◌<◌}
use borrow.Author.Tests.{le-leb, lt-leb, eq-eqb, ne_eqb}
use Rattle.std.specs.Prelude.{Ok, Err}
use Rattle.model.specs.declared.Refusal.{Refusal}
use Rattle.model.specs.declared.Operation.{Operation}
use Rattle.model.specs.Sizes.{within_limits}
use Rattle.model.specs.Records.{root_of_sizes}
use Rattle.model.specs.Memory.{Memory, party_at, formatted}
use Rattle.model.specs.Refusals.{Row, first_cause, lengths_fit, record_sound, size_row, length_row, party_row, busy_row, idle_row, decided_row, damage_row, waiting_row, format_rows, begin_rows, step_rows, withdraw_rows}
use Rattle.model.specs.Calls.{called, format_call, with_begun, begin_call, stepped, step_call, withdrawn_from, withdraw_call}
use Rattle.model.specs.Withdraw.{is_decided}
use Rattle.model.specs.WaitingRow.{row_sound}
use Rattle.model.specs.TakeUp.{is_saved, take_up_rows, take_up_call}
use Rattle.model.proofs.Laws.Lists.{All}

-- ---- Any rows

-- A cause that no earlier row meets is the first.
pub first_cause_lem : (before : List Row) (x : Row) (after : List Row) → All (λ y. y.met ≡ false) before → x.met ≡ true → first_cause (before ++ (x ∷ after)) ≡ Err x.cause
unfolding first_cause
first_cause_lem [] x after a e = rw e
first_cause_lem (y ∷ before) x after a e = rw a.0 (first_cause_lem before x after a.1 e)

-- Where no row is met there is no cause.
pub no_cause : (rows : List Row) → All (λ y. y.met ≡ false) rows → first_cause rows ≡ Ok tt
unfolding first_cause
no_cause [] a = refl
no_cause (y ∷ rows) a = rw a.0 (no_cause rows a.1)

-- ---- A call by its first cause

module _ (m : Memory) (cause : Refusal) where
  pub format_refused_ok : (n b p v q : ℕ) → first_cause (format_rows (root_of_sizes n b p v q) m) ≡ Err cause → format_call m n b p v q ≡ called (Err cause) m
  unfolding format_call
  format_refused_ok n b p v q e = rw e

  pub begin_refused_ok : (q : ℕ) (o : Operation) (k : ℕ) → first_cause (begin_rows m q) ≡ Err cause → begin_call m q o k ≡ called (Err cause) m
  unfolding begin_call
  begin_refused_ok q o k e = rw e

  pub step_refused_ok : (q : ℕ) → first_cause (step_rows m q) ≡ Err cause → step_call m q ≡ called (Err cause) m
  unfolding step_call
  step_refused_ok q e = rw e

  pub withdraw_refused_ok : (q : ℕ) → first_cause (withdraw_rows m q) ≡ Err cause → withdraw_call m q ≡ called (Err cause) m
  unfolding withdraw_call
  withdraw_refused_ok q e = rw e

module _ (m : Memory) where
  pub format_accepted : (n b p v q : ℕ) → first_cause (format_rows (root_of_sizes n b p v q) m) ≡ Ok tt → format_call m n b p v q ≡ called (Ok tt) (formatted (root_of_sizes n b p v q))
  unfolding format_call
  format_accepted n b p v q e = rw e

  pub begin_accepted : (q : ℕ) (o : Operation) (k : ℕ) → first_cause (begin_rows m q) ≡ Ok tt → begin_call m q o k ≡ called (Ok tt) (with_begun m q o k)
  unfolding begin_call
  begin_accepted q o k e = rw e

  pub step-accepted : (q : ℕ) → first_cause (step_rows m q) ≡ Ok tt → step_call m q ≡ stepped m q
  unfolding step_call
  step-accepted q e = rw e

  pub withdraw_accepted : (q : ℕ) → first_cause (withdraw_rows m q) ≡ Ok tt → withdraw_call m q ≡ withdrawn_from m q
  unfolding withdraw_call
  withdraw_accepted q e = rw e

-- ---- The order of each call

-- Format with the sizes N b P V Q.
pub record FormatOrder (m : Memory) (n b p v q : ℕ) : Type 0 where
  pub sizes : within_limits (root_of_sizes n b p v q) ≡ false → format_call m n b p v q ≡ called (Err Refusal.Size) m
  pub lengths :
      within_limits (root_of_sizes n b p v q) ≡ true → lengths_fit (root_of_sizes n b p v q) m ≡ false → format_call m n b p v q ≡ called (Err Refusal.Length) m
  pub none :
      within_limits (root_of_sizes n b p v q) ≡ true → lengths_fit (root_of_sizes n b p v q) m ≡ true
      → format_call m n b p v q ≡ called (Ok tt) (formatted (root_of_sizes n b p v q))

-- Begin of operation o with key k for party q.
pub record BeginOrder (m : Memory) (q : ℕ) (o : Operation) (k : ℕ) : Type 0 where
  pub sizes : within_limits m.root ≡ false → begin_call m q o k ≡ called (Err Refusal.Size) m
  pub lengths : within_limits m.root ≡ true → lengths_fit m.root m ≡ false → begin_call m q o k ≡ called (Err Refusal.Length) m
  pub party : within_limits m.root ≡ true → lengths_fit m.root m ≡ true → m.root.parties ≤ q → begin_call m q o k ≡ called (Err Refusal.Party) m
  pub busy :
      within_limits m.root ≡ true → lengths_fit m.root m ≡ true → q < m.root.parties → (party_at m.parties q).operation ≢ 0
      → begin_call m q o k ≡ called (Err Refusal.Busy) m
  pub none :
      within_limits m.root ≡ true → lengths_fit m.root m ≡ true → q < m.root.parties → (party_at m.parties q).operation ≡ 0
      → begin_call m q o k ≡ called (Ok tt) (with_begun m q o k)

-- Step for party q; the step's own tests of damage come after these.
pub record StepOrder (m : Memory) (q : ℕ) : Type 0 where
  pub sizes : within_limits m.root ≡ false → step_call m q ≡ called (Err Refusal.Size) m
  pub lengths : within_limits m.root ≡ true → lengths_fit m.root m ≡ false → step_call m q ≡ called (Err Refusal.Length) m
  pub party : within_limits m.root ≡ true → lengths_fit m.root m ≡ true → m.root.parties ≤ q → step_call m q ≡ called (Err Refusal.Party) m
  pub idle :
      within_limits m.root ≡ true → lengths_fit m.root m ≡ true → q < m.root.parties → (party_at m.parties q).operation ≡ 0
      → step_call m q ≡ called (Err Refusal.Idle) m
  pub damaged :
      within_limits m.root ≡ true → lengths_fit m.root m ≡ true → q < m.root.parties → (party_at m.parties q).operation ≢ 0
      → record_sound m.root (party_at m.parties q) ≡ false → step_call m q ≡ called (Err Refusal.Damage) m
  pub none :
      within_limits m.root ≡ true → lengths_fit m.root m ≡ true → q < m.root.parties → (party_at m.parties q).operation ≢ 0
      → record_sound m.root (party_at m.parties q) ≡ true → row_sound m.root m.parties m.waiting ≡ true → step_call m q ≡ stepped m q
  -- The waiting row is tested last.
  pub row_damaged :
      within_limits m.root ≡ true → lengths_fit m.root m ≡ true → q < m.root.parties → (party_at m.parties q).operation ≢ 0
      → record_sound m.root (party_at m.parties q) ≡ true → row_sound m.root m.parties m.waiting ≡ false → step_call m q ≡ called (Err Refusal.Damage) m

-- Withdraw for party q; its own tests of damage come after these.
pub record WithdrawOrder (m : Memory) (q : ℕ) : Type 0 where
  pub sizes : within_limits m.root ≡ false → withdraw_call m q ≡ called (Err Refusal.Size) m
  pub lengths : within_limits m.root ≡ true → lengths_fit m.root m ≡ false → withdraw_call m q ≡ called (Err Refusal.Length) m
  pub party : within_limits m.root ≡ true → lengths_fit m.root m ≡ true → m.root.parties ≤ q → withdraw_call m q ≡ called (Err Refusal.Party) m
  pub idle :
      within_limits m.root ≡ true → lengths_fit m.root m ≡ true → q < m.root.parties → (party_at m.parties q).operation ≡ 0
      → withdraw_call m q ≡ called (Err Refusal.Idle) m
  pub decided :
      within_limits m.root ≡ true → lengths_fit m.root m ≡ true → q < m.root.parties → (party_at m.parties q).operation ≢ 0
      → is_decided (party_at m.parties q) ≡ true → withdraw_call m q ≡ called (Err Refusal.Decided) m
  pub damaged :
      within_limits m.root ≡ true → lengths_fit m.root m ≡ true → q < m.root.parties → (party_at m.parties q).operation ≢ 0
      → is_decided (party_at m.parties q) ≡ false → record_sound m.root (party_at m.parties q) ≡ false
      → withdraw_call m q ≡ called (Err Refusal.Damage) m
  pub none :
      within_limits m.root ≡ true → lengths_fit m.root m ≡ true → q < m.root.parties → (party_at m.parties q).operation ≢ 0
      → is_decided (party_at m.parties q) ≡ false → record_sound m.root (party_at m.parties q) ≡ true → row_sound m.root m.parties m.waiting ≡ true
      → withdraw_call m q ≡ withdrawn_from m q
  -- The waiting row is tested last.
  pub row_damaged :
      within_limits m.root ≡ true → lengths_fit m.root m ≡ true → q < m.root.parties → (party_at m.parties q).operation ≢ 0
      → is_decided (party_at m.parties q) ≡ false → record_sound m.root (party_at m.parties q) ≡ true → row_sound m.root m.parties m.waiting ≡ false
      → withdraw_call m q ≡ called (Err Refusal.Damage) m

pub format_order : (m : Memory) (n b p v q : ℕ) → FormatOrder m n b p v q
unfolding format_rows
format_order m n b p v q =
    let r = root_of_sizes n b p v q in
    let size = size_row r in
    let lens = length_row r m in
    record {
      sizes = λ e. format_refused_ok m Refusal.Size n b p v q (first_cause_lem [] size _ tt (ap not e));
      lengths = λ s e. format_refused_ok m Refusal.Length n b p v q (first_cause_lem (size ∷ []) lens _ (ap not s, tt) (ap not e));
      none = λ s l. format_accepted m n b p v q (no_cause (size ∷ (lens ∷ [])) (ap not s, (ap not l, tt)));
    }

pub begin_order : (m : Memory) (q : ℕ) (o : Operation) (k : ℕ) → BeginOrder m q o k
unfolding begin_rows
begin_order m q o k =
    let r = m.root in
    let x = party_at m.parties q in
    let size = size_row r in
    let lens = length_row r m in
    let who = party_row r q in
    let busy = busy_row x in
    record {
      sizes = λ e. begin_refused_ok m Refusal.Size q o k (first_cause_lem [] size _ tt (ap not e));
      lengths = λ s e. begin_refused_ok m Refusal.Length q o k (first_cause_lem (size ∷ []) lens _ (ap not s, tt) (ap not e));
      party = λ s l h. begin_refused_ok m Refusal.Party q o k
          (first_cause_lem (size ∷ (lens ∷ [])) who _ (ap not s, (ap not l, tt)) (le-leb r.parties q h));
      busy = λ s l h i. begin_refused_ok m Refusal.Busy q o k
          (first_cause_lem (size ∷ (lens ∷ (who ∷ []))) busy _ (ap not s, (ap not l, (lt-leb r.parties q h, tt))) (ap not (ne_eqb x.operation 0 i)));
      none = λ s l h i. begin_accepted m q o k
          (no_cause (size ∷ (lens ∷ (who ∷ (busy ∷ []))))
          (ap not s, (ap not l, (lt-leb r.parties q h, (ap not (eq-eqb x.operation 0 i), tt)))));
    }

pub step_order : (m : Memory) (q : ℕ) → StepOrder m q
unfolding step_rows
step_order m q =
    let r = m.root in
    let x = party_at m.parties q in
    let size = size_row r in
    let lens = length_row r m in
    let who = party_row r q in
    let idle = idle_row x in
    let harm = damage_row r x in
    let line = waiting_row m in
    record {
      sizes = λ e. step_refused_ok m Refusal.Size q (first_cause_lem [] size _ tt (ap not e));
      lengths = λ s e. step_refused_ok m Refusal.Length q (first_cause_lem (size ∷ []) lens _ (ap not s, tt) (ap not e));
      party = λ s l h. step_refused_ok m Refusal.Party q
          (first_cause_lem (size ∷ (lens ∷ [])) who _ (ap not s, (ap not l, tt)) (le-leb r.parties q h));
      idle = λ s l h i. step_refused_ok m Refusal.Idle q
          (first_cause_lem (size ∷ (lens ∷ (who ∷ []))) idle _ (ap not s, (ap not l, (lt-leb r.parties q h, tt))) (eq-eqb x.operation 0 i));
      damaged = λ s l h i d. step_refused_ok m Refusal.Damage q
          (first_cause_lem (size ∷ (lens ∷ (who ∷ (idle ∷ [])))) harm _
          (ap not s, (ap not l, (lt-leb r.parties q h, (ne_eqb x.operation 0 i, tt)))) (ap not d));
      none = λ s l h i d w. step-accepted m q
          (no_cause (size ∷ (lens ∷ (who ∷ (idle ∷ (harm ∷ (line ∷ []))))))
          (ap not s, (ap not l, (lt-leb r.parties q h, (ne_eqb x.operation 0 i, (ap not d, (ap not w, tt)))))));
      row_damaged = λ s l h i d w. step_refused_ok m Refusal.Damage q
          (first_cause_lem (size ∷ (lens ∷ (who ∷ (idle ∷ (harm ∷ []))))) line _
          (ap not s, (ap not l, (lt-leb r.parties q h, (ne_eqb x.operation 0 i, (ap not d, tt))))) (ap not w));
    }

pub withdraw_order : (m : Memory) (q : ℕ) → WithdrawOrder m q
unfolding withdraw_rows
withdraw_order m q =
    let r = m.root in
    let x = party_at m.parties q in
    let size = size_row r in
    let lens = length_row r m in
    let who = party_row r q in
    let idle = idle_row x in
    let late = decided_row x in
    let harm = damage_row r x in
    let line = waiting_row m in
    record {
      sizes = λ e. withdraw_refused_ok m Refusal.Size q (first_cause_lem [] size _ tt (ap not e));
      lengths = λ s e. withdraw_refused_ok m Refusal.Length q (first_cause_lem (size ∷ []) lens _ (ap not s, tt) (ap not e));
      party = λ s l h. withdraw_refused_ok m Refusal.Party q
          (first_cause_lem (size ∷ (lens ∷ [])) who _ (ap not s, (ap not l, tt)) (le-leb r.parties q h));
      idle = λ s l h i. withdraw_refused_ok m Refusal.Idle q
          (first_cause_lem (size ∷ (lens ∷ (who ∷ []))) idle _ (ap not s, (ap not l, (lt-leb r.parties q h, tt))) (eq-eqb x.operation 0 i));
      decided = λ s l h i d. withdraw_refused_ok m Refusal.Decided q
          (first_cause_lem (size ∷ (lens ∷ (who ∷ (idle ∷ [])))) late _
          (ap not s, (ap not l, (lt-leb r.parties q h, (ne_eqb x.operation 0 i, tt)))) d);
      damaged = λ s l h i d e. withdraw_refused_ok m Refusal.Damage q
          (first_cause_lem (size ∷ (lens ∷ (who ∷ (idle ∷ (late ∷ []))))) harm _
          (ap not s, (ap not l, (lt-leb r.parties q h, (ne_eqb x.operation 0 i, (d, tt))))) (ap not e));
      none = λ s l h i d e w. withdraw_accepted m q
          (no_cause (size ∷ (lens ∷ (who ∷ (idle ∷ (late ∷ (harm ∷ (line ∷ [])))))))
          (ap not s, (ap not l, (lt-leb r.parties q h, (ne_eqb x.operation 0 i, (d, (ap not e, (ap not w, tt))))))));
      row_damaged = λ s l h i d e w. withdraw_refused_ok m Refusal.Damage q
          (first_cause_lem (size ∷ (lens ∷ (who ∷ (idle ∷ (late ∷ (harm ∷ [])))))) line _
          (ap not s, (ap not l, (lt-leb r.parties q h, (ne_eqb x.operation 0 i, (d, (ap not e, tt)))))) (ap not w));
    }

-- ---- Take-up

-- All lent memory is left, whatever the answer is.
pub record TakeUpOrder (m : Memory) : Type 0 where
  pub sizes : within_limits m.root ≡ false → take_up_call m ≡ called (Err Refusal.Size) m
  pub lengths : within_limits m.root ≡ true → lengths_fit m.root m ≡ false → take_up_call m ≡ called (Err Refusal.Length) m
  pub unsaved :
      within_limits m.root ≡ true → lengths_fit m.root m ≡ true → is_saved m ≡ false → take_up_call m ≡ called (Err Refusal.Unsaved) m
  pub none : within_limits m.root ≡ true → lengths_fit m.root m ≡ true → is_saved m ≡ true → take_up_call m ≡ called (Ok tt) m

pub take_up_order : (m : Memory) → TakeUpOrder m
unfolding take_up_call take_up_rows first_cause
take_up_order m = record {
  sizes = λ e. rw e refl;
  lengths = λ e f. rw (e, f) refl;
  unsaved = λ e f g. rw (e, f, g) refl;
  none = λ e f g. rw (e, f, g) refl;
}
