-- The waiting row after a step, as code changes it: by the answer, and by whether the party waits.
-- Main statement: after_step_ok (that is the row which the model's call leaves, of every memory).
use mathlib.Core.Path.{◌≡◌, refl, sym, ap, ◌∙◌}
use mathlib.Core.Bool.{true}
use Prim.Native.Nat.{ℕ, ◌<◌, ◌≤◌}
use native.Mathlib.Omega.{arith}
use lib.ListN.{length, drop}
use Rattle.std.specs.Prelude.{Ok, Err}
use Rattle.model.specs.Answers.{StepReply, CallReply}
use Rattle.model.specs.Sizes.{within_limits}
use Rattle.model.specs.Memory.{Memory, party_at}
use Rattle.model.specs.WaitingRow.{waiters_in, all_zero, row_sound, row_after}
use Rattle.model.specs.Refusals.{first_cause, root_sound, step_rows}
use Rattle.model.specs.Calls.{Called, step_call}
use Rattle.model.proofs.Laws.Lists.{leb-true}
use Rattle.model.proofs.Laws.Booleans.{and_left, and_right}
use Rattle.model.proofs.Theorems.RefusalOrder.{step_refused_ok}
use Rattle.refusals.specs.Causes.{lengths_of, place_cause}
use Rattle.refusals.proofs.Accepted.{step_cause_is, place_of_step, number_below, row-length, within_limits_lem, root_of_step, sound_of_step}
use Rattle.waiting_row.specs.declared.Place.{Place}
use Rattle.waiting_row.specs.Entry.{place_of, row_by}
use Rattle.waiting_row.proofs.Words.{after_right}
use Rattle.waiting_row.proofs.Rows.{waits-row}
use Rattle.calls.specs.Lent.{PlaceRight}

module _ (m : Memory) (q : ℕ) where
  abbrev Passed : Type 0
  Passed = place_cause m.root (lengths_of m) q ≡ Ok tt

  -- ---- A file that passed

  few : Passed → m.root.parties ≤ 16
  unfolding within_limits
  few passed =
      let limits = within_limits_lem m.root (lengths_of m) q passed in
      leb-true m.root.parties 16 (search (and_left, and_right))

  many : Passed → length m.parties ≡ m.root.parties
  many passed = row-length m.root (lengths_of m) q passed

  inside : Passed → q < length m.parties
  inside passed = number_below m.root (lengths_of m) q passed

  small : Passed → q < 16
  small passed = let f = few passed in let n = many passed in let h = inside passed in omega (arith, f, n, h)

  -- ---- A step

  module _ (l : Place) (right : PlaceRight m.root m.parties m.waiting q l) (a : StepReply) (answered : a ≡ (step_call m q).answer) where
    -- Whether the party waits is known wherever the row is changed.
    waits_told : first_cause (step_rows m q) ≡ Ok tt → row_by l.waits q m.waiting a ≡ row_after q m.waiting a
    unfolding root_sound row_sound
    waits_told none =
        let sound = row_sound m.root m.parties m.waiting in
        let cause = step_cause_is m q ∙ none in
        let passed = place_of_step m.root (party_at m.parties q) (lengths_of m) q sound cause in
        let whole = root_of_step m.root (party_at m.parties q) (lengths_of m) q sound cause in
        let is_sound_ok = sound_of_step m.root (party_at m.parties q) (lengths_of m) q sound cause in
        let level : m.root.level ≤ 8 = leb-true m.root.level 8 (search (and_left, and_right)) in
        let gapless : all_zero (drop (length (waiters_in m.waiting)) m.waiting) ≡ true = search (and_left, and_right) in
        let is : l ≡ place_of m.root m.parties m.waiting q = right (inside passed) (few passed) (many passed) level in
        after_right l.waits q m.waiting a (small passed) (ap (λ (x : Place). x.waits) is ∙ sym (waits-row q m.waiting gapless))

    pub after_step_ok : row_by l.waits q m.waiting a ≡ row_after q m.waiting a
    unfolding row_by row_after
    after_step_ok = go (first_cause (step_rows m q)) refl
      where
        go : (c : CallReply) → first_cause (step_rows m q) ≡ c → row_by l.waits q m.waiting a ≡ row_after q m.waiting a
        go (Ok t) none = waits_told none
        go (Err c) met =
            let e = step_refused_ok m c q met in
            rw (answered ∙ ap (λ (x : Called StepReply). x.answer) e) refl
