-- The causes against the model's rows, and what holds of a call that meets none.
-- Main statements: format_cause_is, begin_cause_is, step_cause_is, withdraw_cause_is, take_up_cause_is (for every
-- memory, with its lengths); same_step_cause, same_withdraw_cause (where the waiting row counts); past_row_refused (past
-- the row's end no record is looked at); place_of_begin, place_of_step, place_of_withdraw, row-length, number_below (the
-- party's record stands in the row); ready and withdraw_ready (what the code of a step and of a withdraw may take for
-- granted); file_of_take_up and take_up_ready (the same of take-up).
use mathlib.Core.Path.{◌≡◌, refl, sym, ◌∙◌}
use mathlib.Core.Logic.{◌≢◌}
use mathlib.Core.Bool.{Bool, true, false, ◌&&◌}
use mathlib.Core.List.{List, [], ◌∷◌, ◌++◌}
use mathlib.Core.Option.{Option, some}
use Prim.Native.Nat.{ℕ, zero, suc, ◌≤◌, ◌<◌}
use native.Mathlib.Omega.{arith}
use Rattle.std.specs.Prelude.{Ok, Err}
use lib.ListN.{length, get_or, replicate, length-replicate, get_or-replicate}
use borrow.Author.Tests.{leb-false, eqb-true, not-false}
use Rattle.model.specs.declared.Root.{Root}
use Rattle.model.specs.declared.Party.{Party}
use Rattle.model.specs.Sizes.{within_limits, lock_words, all_page_words}
use Rattle.model.specs.Records.{idle}
use Rattle.model.specs.Answers.{CallReply}
use Rattle.model.specs.Memory.{Memory, party_at}
use Rattle.model.specs.Refusals.{first_cause, root_sound, party_sound, record_sound, lengths_fit, busy_row, idle_row, decided_row, damage_row, format_rows, begin_rows, step_rows, withdraw_rows}
use Rattle.model.specs.LockWords.{Claim}
use Rattle.model.specs.WaitingRow.{requests, waiters_in, all_zero, none_twice, all_request, row_sound, one_before, behind_for, stands_behind}
use Rattle.model.specs.Ready.{Ready, viewing}
use Rattle.model.specs.TakeUp.{is_saved, unsaved_row, take_up_rows}
use Rattle.model.proofs.Laws.Lists.{All, Told, holds, fails, tell}
use Rattle.model.proofs.Laws.Booleans.{and_left, and_right}
use Rattle.model.proofs.Theorems.Gate as Gate
use Rattle.model.proofs.Steps.Withdraw.{undecided_early}
use Rattle.refusals.specs.Causes.{lengths_are, file_rows, place_rows, sound_row, format_cause, place_cause, begin_cause, step_cause, withdraw_cause, take_up_cause, lengths_of, lengths_lent}
use Rattle.refusals.specs.declared.Lengths.{Lengths}
use Rattle.refusals.proofs.Causes.{past, none_earlier, step_is, withdraw_is}

-- ---- The model's rows

module _ (m : Memory) where
  pub format_cause_is : (r : Root) → format_cause r (lengths_of m) ≡ first_cause (format_rows r m)
  unfolding format_cause format_rows lengths_are lengths_fit
  format_cause_is r = refl

  pub take_up_cause_is : take_up_cause m.root (is_saved m) (lengths_of m) ≡ first_cause (take_up_rows m)
  unfolding take_up_cause take_up_rows lengths_are lengths_fit
  take_up_cause_is = refl

  module _ (q : ℕ) where
    pub begin_cause_is :
        begin_cause m.root (party_at m.parties q) (lengths_of m) q ≡ first_cause (begin_rows m q)
    unfolding begin_cause begin_rows lengths_are lengths_fit
    begin_cause_is = refl

    pub step_cause_is :
        step_cause m.root (party_at m.parties q) (lengths_of m) q (row_sound m.root m.parties m.waiting)
        ≡ first_cause (step_rows m q)
    unfolding step_cause step_rows lengths_are lengths_fit
    step_cause_is = refl

    pub withdraw_cause_is :
        withdraw_cause m.root (party_at m.parties q) (lengths_of m) q (row_sound m.root m.parties m.waiting)
        ≡ first_cause (withdraw_rows m q)
    unfolding withdraw_cause withdraw_rows lengths_are lengths_fit
    withdraw_cause_is = refl

-- ---- The party's place in the row

module _ (r : Root) (l : Lengths) (q : ℕ) (passed : place_cause r l q ≡ Ok tt) where
  unmet : All (λ x. x.met ≡ false) (place_rows r l q)
  unfolding place_cause
  unmet = Gate.none_met (place_rows r l q) passed

  -- The row has the length that the root record says.
  pub row-length : l.parties ≡ r.parties
  unfolding lengths_are
  row-length =
      let are = not-false (lengths_are r l) unmet.1.0 in
      eqb-true l.parties r.parties (search (and_left, and_right))

  -- So has the waiting row; and the sizes are within their limits.
  pub waiting_length : l.waiting ≡ r.parties
  unfolding lengths_are
  waiting_length =
      let are = not-false (lengths_are r l) unmet.1.0 in
      eqb-true l.waiting r.parties (search (and_left, and_right))

  pub within_limits_lem : within_limits r ≡ true
  within_limits_lem = not-false (within_limits r) unmet.0

  -- The party's record stands in it.
  pub number_below : q < l.parties
  number_below = let h = leb-false r.parties q unmet.1.1.0 in omega (arith, row-length)

-- Past the row's end the cause is decided before a record is looked at.
pub past_row_refused : (r : Root) (l : Lengths) (q : ℕ) → l.parties ≤ q → place_cause r l q ≢ Ok tt
past_row_refused r l q h e = let k = number_below r l q e in omega arith

-- ---- A call that meets no cause

module _ (r : Root) (p : Party) (l : Lengths) (q : ℕ) where
  pub place_of_begin : begin_cause r p l q ≡ Ok tt → place_cause r l q ≡ Ok tt
  unfolding begin_cause place_cause
  place_of_begin none = none_earlier (place_rows r l q) (busy_row p ∷ []) none

  pub place_of_step : (sound : Bool) → step_cause r p l q sound ≡ Ok tt → place_cause r l q ≡ Ok tt
  unfolding step_cause place_cause
  place_of_step sound none = none_earlier (place_rows r l q) (idle_row p ∷ (damage_row r p ∷ (sound_row sound ∷ []))) none

  pub place_of_withdraw : (sound : Bool) → withdraw_cause r p l q sound ≡ Ok tt → place_cause r l q ≡ Ok tt
  unfolding withdraw_cause place_cause
  place_of_withdraw sound none = none_earlier (place_rows r l q) (idle_row p ∷ (decided_row p ∷ (damage_row r p ∷ (sound_row sound ∷ [])))) none

-- No cause is met with a sound row alone.
module _ (r : Root) (p : Party) (l : Lengths) (q : ℕ) (sound : Bool) where
  pub sound_of_step : step_cause r p l q sound ≡ Ok tt → sound ≡ true
  unfolding step_cause
  sound_of_step none = not-false sound (Gate.none_met (place_rows r l q ++ (idle_row p ∷ (damage_row r p ∷ (sound_row sound ∷ [])))) none).1.1.1.1.1.0

  pub root_of_step : step_cause r p l q sound ≡ Ok tt → root_sound r ≡ true
  unfolding step_cause record_sound
  root_of_step none = and_left (root_sound r) (party_sound r p) (not-false (root_sound r && party_sound r p) (Gate.none_met (place_rows r l q ++ (idle_row p ∷ (damage_row r p ∷ (sound_row sound ∷ [])))) none).1.1.1.1.0)

  pub sound_of_withdraw : withdraw_cause r p l q sound ≡ Ok tt → sound ≡ true
  unfolding withdraw_cause
  sound_of_withdraw none = not-false sound (Gate.none_met (place_rows r l q ++ (idle_row p ∷ (decided_row p ∷ (damage_row r p ∷ (sound_row sound ∷ []))))) none).1.1.1.1.1.1.0

-- In a row of zeros nobody waits.
no_waiters : (n : ℕ) → waiters_in (replicate n 0) ≡ []
unfolding waiters_in
no_waiters zero = refl
no_waiters (suc n) = refl

zeros_clear : (n : ℕ) → all_zero (replicate n 0) ≡ true
unfolding all_zero
zeros_clear zero = refl
zeros_clear (suc n) = zeros_clear n

zeros_sound : (r : Root) (ps : List Party) (n : ℕ) → row_sound r ps (replicate n 0) ≡ true
unfolding row_sound none_twice all_request
zeros_sound r ps n = rw (no_waiters n, zeros_clear n) refl

zeros_behind : (r : Root) (ps : List Party) (n q : ℕ) → stands_behind r ps (replicate n 0) q ≡ false
unfolding stands_behind behind_for one_before
zeros_behind r ps n q = go (requests r (get_or ps q idle))
  where
    go : (o : Option Claim) → behind_for r ps (replicate n 0) q o ≡ false
    go Option.none = refl
    go (some c) = rw (no_waiters n) refl

-- Whether the waiting row is sound counts only where the row can be looked at: the file's sizes and lengths are right,
-- the party has a record, and the root is sound.
module _ (r : Root) (p : Party) (l : Lengths) (q : ℕ) (a b : Bool) (told : place_cause r l q ≡ Ok tt → root_sound r ≡ true → a ≡ b) where
  sound_counts : place_cause r l q ≡ Ok tt → first_cause (damage_row r p ∷ (sound_row a ∷ [])) ≡ first_cause (damage_row r p ∷ (sound_row b ∷ []))
  unfolding first_cause record_sound
  sound_counts passed = go (tell (root_sound r))
    where
      go : Told (root_sound r) → first_cause (damage_row r p ∷ (sound_row a ∷ [])) ≡ first_cause (damage_row r p ∷ (sound_row b ∷ []))
      go (holds t) = rw (told passed t) refl
      go (fails t) = rw t refl

  pub same_step_cause : step_cause r p l q a ≡ step_cause r p l q b
  unfolding first_cause
  same_step_cause = step_is r p l q a ∙ go (place_cause r l q) refl ∙ sym (step_is r p l q b)
    where
      go : (c : CallReply) → place_cause r l q ≡ c
          → past (place_cause r l q) (first_cause (idle_row p ∷ (damage_row r p ∷ (sound_row a ∷ [])))) ≡ past (place_cause r l q) (first_cause (idle_row p ∷ (damage_row r p ∷ (sound_row b ∷ []))))
      go (Ok t) e = rw (e, sound_counts e) refl
      go (Err c) e = rw e refl

  pub same_withdraw_cause : withdraw_cause r p l q a ≡ withdraw_cause r p l q b
  unfolding first_cause
  same_withdraw_cause = withdraw_is r p l q a ∙ go (place_cause r l q) refl ∙ sym (withdraw_is r p l q b)
    where
      go : (c : CallReply) → place_cause r l q ≡ c
          → past (place_cause r l q) (first_cause (idle_row p ∷ (decided_row p ∷ (damage_row r p ∷ (sound_row a ∷ []))))) ≡ past (place_cause r l q) (first_cause (idle_row p ∷ (decided_row p ∷ (damage_row r p ∷ (sound_row b ∷ [])))))
      go (Ok t) e = rw (e, sound_counts e) refl
      go (Err c) e = rw e refl

-- The view is ready, whatever the row's other records are.
pub ready : (r : Root) (p : Party) (parties waiting q : ℕ) (ls ps : List ℕ) (sound : Bool) → step_cause r p (lengths_lent parties ls ps waiting) q sound ≡ Ok tt → Ready (viewing r p q ls ps)
ready r p parties waiting q ls ps sound none =
    let m : Memory = record { root = r; parties = replicate parties p; locks = ls; pages = ps; waiting = replicate waiting 0 } in
    let below = number_below r (lengths_lent parties ls ps waiting) q (place_of_step r p (lengths_lent parties ls ps waiting) q sound none) in
    let here : party_at m.parties q ≡ p = get_or-replicate parties q p idle below in
    let long : length m.parties ≡ parties = length-replicate parties p in
    let words : length m.waiting ≡ waiting = length-replicate waiting 0 in
    let tested = sound_of_step r p (lengths_lent parties ls ps waiting) q sound none in
    let accepted : first_cause (step_rows m q) ≡ Ok tt = sym (step_cause_is m q) ∙ rw (here, long, words, zeros_sound r m.parties waiting) (rw tested at none) in
    rw (here, zeros_behind r m.parties waiting q) at (Gate.ready m q accepted)

-- The same of a withdraw, and the party is before its decisive step.
pub withdraw_ready : (r : Root) (p : Party) (parties waiting q : ℕ) (ls ps : List ℕ) (sound : Bool) → withdraw_cause r p (lengths_lent parties ls ps waiting) q sound ≡ Ok tt → Ready (viewing r p q ls ps) × (p.step < 12)
withdraw_ready r p parties waiting q ls ps sound none =
    let m : Memory = record { root = r; parties = replicate parties p; locks = ls; pages = ps; waiting = replicate waiting 0 } in
    let below = number_below r (lengths_lent parties ls ps waiting) q (place_of_withdraw r p (lengths_lent parties ls ps waiting) q sound none) in
    let here : party_at m.parties q ≡ p = get_or-replicate parties q p idle below in
    let long : length m.parties ≡ parties = length-replicate parties p in
    let words : length m.waiting ≡ waiting = length-replicate waiting 0 in
    let tested = sound_of_withdraw r p (lengths_lent parties ls ps waiting) q sound none in
    let accepted : first_cause (withdraw_rows m q) ≡ Ok tt = sym (withdraw_cause_is m q) ∙ rw (here, long, words, zeros_sound r m.parties waiting) (rw tested at none) in
    let view = rw (here, zeros_behind r m.parties waiting q) at (Gate.withdraw_ready m q accepted) in
    (view, (undecided_early p view.step_fits (rw here at (Gate.undecided m q accepted))).0)

-- Sizes and lengths are those of the file, one by one, and it is said to be saved.
module _ (r : Root) (saved : Bool) (l : Lengths) (passed : take_up_cause r saved l ≡ Ok tt) where
  pub file_of_take_up : format_cause r l ≡ Ok tt
  unfolding take_up_cause format_cause
  file_of_take_up = none_earlier (file_rows r l) (unsaved_row saved ∷ []) passed

  pub take_up_ready : (within_limits r ≡ true) × (l.parties ≡ r.parties) × (l.locks ≡ lock_words r) × (l.pages ≡ all_page_words r) × (l.waiting ≡ r.parties) × (saved ≡ true)
  unfolding take_up_cause lengths_are
  take_up_ready =
      let met = Gate.none_met (file_rows r l ++ (unsaved_row saved ∷ [])) passed in
      let are = not-false (lengths_are r l) met.1.0 in (
        not-false (within_limits r) met.0,
        eqb-true l.parties r.parties (search (and_left, and_right)),
        eqb-true l.locks (lock_words r) (search (and_left, and_right)),
        eqb-true l.pages (all_page_words r) (search (and_left, and_right)),
        eqb-true l.waiting r.parties (search (and_left, and_right)),
        not-false saved met.1.1.0,
      )
