-- Take-up over values against the model's call.
-- Main statements: all_are_idle (a row of records looked through); early_refused,
-- words_taken, words_refused (the answer, found before the words are looked at and by them).
use mathlib.Core.Path.{◌≡◌, refl, sym, ap, ap₂, ◌∙◌}
use mathlib.Core.Bool.{Bool, true, false, ◌&&◌}
use mathlib.Core.List.{List, [], ◌∷◌}
use Prim.Native.Nat.{ℕ}
use lib.ListN.{length, replicate}
use Rattle.model.specs.declared.Root.{Root}
use Rattle.model.specs.declared.Party.{Party}
use Rattle.std.specs.Prelude.{Ok, Err}
use Rattle.std.specs.List.{list_all}
use Rattle.model.specs.declared.Refusal.{Refusal}
use Rattle.model.specs.Answers.{CallReply}
use Rattle.model.specs.Records.{idle}
use Rattle.model.specs.Memory.{Memory}
use Rattle.model.specs.Refusals.{first_cause, root_sound}
use Rattle.model.specs.Calls.{called}
use Rattle.model.specs.WaitingRow.{all_zero}
use Rattle.model.specs.TakeUp.{is_zero_record, all_idle, parties_rest, locks_clear, scratch_clear, chains_saved, beyond_clear, free_saved, pages_once, row_clear, is_saved, take_up_rows, take_up_call}
use Rattle.model.proofs.Laws.Lists.{Told, holds, fails, tell, and_both, left_fails, right_fails}
use Rattle.model.proofs.TakingUp.Tests.{record_zero, zeros}
use Rattle.refusals.specs.declared.Lengths.{Lengths}
use Rattle.refusals.specs.Causes.{lengths_of, format_cause, take_up_cause}
use Rattle.refusals.proofs.Causes.{unsaved_refused, take_up_passed, early_stands}
use Rattle.refusals.proofs.Accepted.{take_up_cause_is, file_of_take_up, take_up_ready}
use Rattle.take_up.specs.Seen.{at_rest}
use Rattle.calls.specs.Lent.{lent}

-- ---- A row that is looked through

-- Every record is zero, as `iter().all` finds it.
pub all_are_idle : (ps : List Party) → list_all is_zero_record ps ≡ all_idle ps
unfolding all_idle
all_are_idle [] = refl
all_are_idle (p ∷ ps) = ap (λ (b : Bool). is_zero_record p && b) (all_are_idle ps)

-- A row that is idle is a row of zero records.
idle-row : (row : List Party) → all_idle row ≡ true → row ≡ replicate (length row) idle
unfolding all_idle
idle-row [] e = refl
idle-row (p ∷ row) e =
    let f = and_both (is_zero_record p) (all_idle row) e in
    λ i. record_zero p f.0 i ∷ idle-row row f.1 i

-- ---- The cause

module _ (r : Root) (ls ps : List ℕ) (row : List Party) (ws : List ℕ) (l : Lengths) (fit : l ≡ lengths_of (lent r row ls ps ws)) (rests : Bool) (rest : (all_idle row && all_zero ws) ≡ rests) where
  abbrev m : Memory
  m = lent r row ls ps ws

  cause_is : take_up_cause r (is_saved m) l ≡ first_cause (take_up_rows m)
  cause_is = ap (take_up_cause r (is_saved m)) fit ∙ take_up_cause_is m

  -- All conditions but the waiting row's.
  abbrev before : Bool
  before = parties_rest m && locks_clear m && scratch_clear m && root_sound r && chains_saved m && beyond_clear m && free_saved m && pages_once m

  busy_unsaved : rests ≡ false → is_saved m ≡ false
  unfolding is_saved parties_rest row_clear
  busy_unsaved e = go (tell (all_idle row))
    where
      go : Told (all_idle row) → is_saved m ≡ false
      go (holds t) = right_fails before (ap (λ (b : Bool). b && all_zero ws) (sym t) ∙ rest ∙ e)
      go (fails t) =
          left_fails (row_clear m)
          (left_fails (pages_once m)
          (left_fails (free_saved m)
          (left_fails (beyond_clear m)
          (left_fails (chains_saved m) (left_fails (root_sound r) (left_fails (scratch_clear m) (left_fails (locks_clear m) t)))))))

  pub early_refused : {c : Refusal} → take_up_cause r rests l ≡ Err c → called (Err c) (lent r row ls ps ws) ≡ take_up_call (lent r row ls ps ws)
  unfolding take_up_call
  early_refused {c} e =
      let stands = early_stands r l rests (is_saved m) busy_unsaved (λ none. absurd (let f : Err c ≡ Ok tt = sym e ∙ none in cc)) in
      ap (λ (x : CallReply). called x m) (sym e ∙ stands ∙ cause_is)

  module _ (passed : take_up_cause r rests l ≡ Ok tt) where
    -- The file is the one with a row of zero records, and zeros in its waiting row.
    file_is : at_rest r ls ps ≡ m
    file_is =
        let k = take_up_ready r rests l passed in
        let many = sym (ap (λ (x : Lengths). x.parties) fit) ∙ k.1 in
        let long = sym (ap (λ (x : Lengths). x.waiting) fit) ∙ k.4 in
        let clear = and_both (all_idle row) (all_zero ws) (rest ∙ k.5) in
        ap₂ (λ (l : List Party) (w : List ℕ). lent r l ls ps w) (sym (idle-row row clear.0 ∙ ap (λ (n : ℕ). replicate n idle) many))
        (sym (zeros ws clear.1 ∙ ap (λ (n : ℕ). replicate n 0) long))

    passes : format_cause r l ≡ Ok tt
    passes = file_of_take_up r rests l passed

    pub words_taken : is_saved (at_rest r ls ps) ≡ true → called (Ok tt) (lent r row ls ps ws) ≡ take_up_call (lent r row ls ps ws)
    unfolding take_up_call
    words_taken e = ap (λ (x : CallReply). called x m) (take_up_passed r l passes (is_saved m) (ap is_saved (sym file_is) ∙ e) ∙ cause_is)

    pub words_refused : is_saved (at_rest r ls ps) ≡ false → called (Err Refusal.Unsaved) (lent r row ls ps ws) ≡ take_up_call (lent r row ls ps ws)
    unfolding take_up_call
    words_refused e = ap (λ (x : CallReply). called x m) (unsaved_refused r l passes (is_saved m) (ap is_saved (sym file_is) ∙ e) ∙ cause_is)
