-- The first cause, row by row: an earlier cause stands whatever rows follow, and where there is none the rows that
-- follow decide.
-- Main statements: first_past, earlier_stands, none_earlier (of any rows); place_is, begin_is, step_is,
-- withdraw_is, take_up_is (each cause by the cause before it and its own rows); place_stands_at_step,
-- place_stands_at_withdraw; row_last, row_refused (the waiting row's test comes last); unsaved_refused, take_up_passed,
-- early_stands (a cause found before the words are looked at).
use mathlib.Core.Path.{◌≡◌, refl, sym, ◌∙◌}
use mathlib.Core.Logic.{◌≢◌}
use mathlib.Core.Bool.{Bool, true, false}
use mathlib.Core.List.{List, [], ◌∷◌, ◌++◌}
use Prim.Native.Nat.{ℕ}
use Rattle.std.specs.Prelude.{Ok, Err}
use Rattle.model.specs.declared.Refusal.{Refusal}
use Rattle.model.specs.declared.Root.{Root}
use Rattle.model.specs.declared.Party.{Party}
use Rattle.model.specs.Answers.{CallReply}
use Rattle.model.specs.Refusals.{Row, first_cause, party_row, busy_row, idle_row, decided_row, damage_row}
use Rattle.model.specs.TakeUp.{unsaved_row}
use Rattle.refusals.specs.declared.Lengths.{Lengths}
use Rattle.refusals.specs.Causes.{file_rows, place_rows, sound_row, format_cause, place_cause, begin_cause, step_cause, withdraw_cause, take_up_cause}

-- ---- Any rows

-- A refusal, or else what the tests that follow say.
abbrev pub past : CallReply → CallReply → CallReply
past (Ok _) next = next
past (Err e) next = Err e

pub first_past : (xs ys : List Row) → first_cause (xs ++ ys) ≡ past (first_cause xs) (first_cause ys)
unfolding first_cause
first_past [] ys = refl
first_past (x ∷ xs) ys = go x.met refl (first_past xs ys)
  where
    go : (t : Bool) → x.met ≡ t → first_cause (xs ++ ys) ≡ past (first_cause xs) (first_cause ys)
        → first_cause (x ∷ (xs ++ ys)) ≡ past (first_cause (x ∷ xs)) (first_cause ys)
    go true k ih = rw k refl
    go false k ih = rw k ih

-- A cause that is met stands, whatever rows follow.
pub earlier_stands : (xs ys : List Row) → first_cause xs ≢ Ok tt → first_cause xs ≡ first_cause (xs ++ ys)
earlier_stands xs ys h = go (first_cause xs) refl ∙ sym (first_past xs ys)
  where
    go : (c : CallReply) → first_cause xs ≡ c → first_cause xs ≡ past (first_cause xs) (first_cause ys)
    go (Ok t) e = absurd (h e)
    go (Err r) e = rw e refl

-- Where there is none at all, there is none among the first rows.
pub none_earlier : (xs ys : List Row) → first_cause (xs ++ ys) ≡ Ok tt → first_cause xs ≡ Ok tt
none_earlier xs ys none = go (first_cause xs) refl
  where
    go : (c : CallReply) → first_cause xs ≡ c → first_cause xs ≡ Ok tt
    go (Ok t) e = e
    go (Err r) e = absurd (let f : Err r ≡ Ok tt = rw e at (sym (first_past xs ys) ∙ none) in cc)

-- ---- Each cause, by the cause before it

module _ (r : Root) (l : Lengths) (q : ℕ) where
  pub place_is : place_cause r l q ≡ past (format_cause r l) (first_cause (party_row r q ∷ []))
  unfolding place_cause format_cause
  place_is = first_past (file_rows r l) (party_row r q ∷ [])

module _ (r : Root) (p : Party) (l : Lengths) (q : ℕ) where
  pub begin_is : begin_cause r p l q ≡ past (place_cause r l q) (first_cause (busy_row p ∷ []))
  unfolding begin_cause place_cause
  begin_is = first_past (place_rows r l q) (busy_row p ∷ [])

  pub step_is : (sound : Bool) → step_cause r p l q sound ≡ past (place_cause r l q) (first_cause (idle_row p ∷ (damage_row r p ∷ (sound_row sound ∷ []))))
  unfolding step_cause place_cause
  step_is sound = first_past (place_rows r l q) (idle_row p ∷ (damage_row r p ∷ (sound_row sound ∷ [])))

  pub withdraw_is : (sound : Bool) → withdraw_cause r p l q sound ≡ past (place_cause r l q) (first_cause (idle_row p ∷ (decided_row p ∷ (damage_row r p ∷ (sound_row sound ∷ [])))))
  unfolding withdraw_cause place_cause
  withdraw_is sound = first_past (place_rows r l q) (idle_row p ∷ (decided_row p ∷ (damage_row r p ∷ (sound_row sound ∷ []))))

  -- A cause that begin, step and withdraw share stands for step and withdraw.
  pub place_stands_at_step : (sound : Bool) → place_cause r l q ≢ Ok tt → place_cause r l q ≡ step_cause r p l q sound
  unfolding place_cause step_cause
  place_stands_at_step sound h = earlier_stands (place_rows r l q) (idle_row p ∷ (damage_row r p ∷ (sound_row sound ∷ []))) h

  pub place_stands_at_withdraw : (sound : Bool) → place_cause r l q ≢ Ok tt → place_cause r l q ≡ withdraw_cause r p l q sound
  unfolding place_cause withdraw_cause
  place_stands_at_withdraw sound h = earlier_stands (place_rows r l q) (idle_row p ∷ (decided_row p ∷ (damage_row r p ∷ (sound_row sound ∷ [])))) h

  -- A step's rows before the waiting row's own.
  abbrev rows_before : List Row
  rows_before = place_rows r l q ++ (idle_row p ∷ (damage_row r p ∷ []))

  step_last : (sound : Bool) → step_cause r p l q sound ≡ past (first_cause rows_before) (first_cause (sound_row sound ∷ []))
  unfolding step_cause
  step_last sound = first_past rows_before (sound_row sound ∷ [])

  -- They are met whatever the row is; where none is, it decides.
  pub row_last : (sound : Bool) → step_cause r p l q true ≢ Ok tt → step_cause r p l q true ≡ step_cause r p l q sound
  unfolding first_cause
  row_last sound h = step_last true ∙ go (first_cause rows_before) refl ∙ sym (step_last sound)
    where
      go : (c : CallReply) → first_cause rows_before ≡ c
          → past (first_cause rows_before) (first_cause (sound_row true ∷ [])) ≡ past (first_cause rows_before) (first_cause (sound_row sound ∷ []))
      go (Ok t) e = absurd (h (step_last true ∙ rw e refl))
      go (Err c) e = rw e refl

  pub row_refused : step_cause r p l q true ≡ Ok tt → Err Refusal.Damage ≡ step_cause r p l q false
  unfolding first_cause
  row_refused passed = go (first_cause rows_before) refl ∙ sym (step_last false)
    where
      go : (c : CallReply) → first_cause rows_before ≡ c → Err Refusal.Damage ≡ past (first_cause rows_before) (first_cause (sound_row false ∷ []))
      go (Ok t) e = rw e refl
      go (Err c) e = absurd (let f : Err c ≡ Ok tt = rw e at (sym (step_last true) ∙ passed) in cc)

-- ---- Take-up, by whether the file is saved

module _ (r : Root) (l : Lengths) where
  pub take_up_is : (saved : Bool) → take_up_cause r saved l ≡ past (format_cause r l) (first_cause (unsaved_row saved ∷ []))
  unfolding take_up_cause format_cause
  take_up_is saved = first_past (file_rows r l) (unsaved_row saved ∷ [])

  module _ (passed : format_cause r l ≡ Ok tt) where
    pub unsaved_refused : (saved : Bool) → saved ≡ false → Err Refusal.Unsaved ≡ take_up_cause r saved l
    unfolding first_cause
    unsaved_refused saved e = rw (take_up_is saved, passed, e) refl

    pub take_up_passed : (saved : Bool) → saved ≡ true → Ok tt ≡ take_up_cause r saved l
    unfolding first_cause
    take_up_passed saved e = rw (take_up_is saved, passed, e) refl

  -- A cause that is met where only the records were looked at stands for the whole file.
  pub early_stands : (idle saved : Bool) → (idle ≡ false → saved ≡ false) → take_up_cause r idle l ≢ Ok tt
      → take_up_cause r idle l ≡ take_up_cause r saved l
  unfolding first_cause
  early_stands idle saved busy h = go (format_cause r l) refl
    where
      past_file : (t : Bool) → idle ≡ t → format_cause r l ≡ Ok tt → take_up_cause r idle l ≡ take_up_cause r saved l
      past_file true e passed = absurd (h (sym (take_up_passed passed idle e)))
      past_file false e passed = sym (unsaved_refused passed idle e) ∙ unsaved_refused passed saved (busy e)

      go : (c : CallReply) → format_cause r l ≡ c → take_up_cause r idle l ≡ take_up_cause r saved l
      go (Ok t) e = past_file idle refl e
      go (Err c) e = rw (take_up_is idle, take_up_is saved, e) refl
