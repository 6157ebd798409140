-- The calls over values against the model's calls: what a step and a withdraw leave where they are refused, where the
-- party stands behind another, and where not.
-- Main statements: format_refused_ok, format_formatted; begin_refused_ok, begin_begun; begin_past, step_past,
-- withdraw_past; step_refused_ok, row_damaged, step_held, step-stepped; withdraw_refused_ok, withdraw_withdrawn.
use mathlib.Core.Path.{◌≡◌, refl, sym, ap, ◌∙◌}
use mathlib.Core.Bool.{Bool, true, false, not, ◌&&◌, ◌||◌}
use mathlib.Core.List.{List, [], ◌∷◌, reverse}
use Prim.Native.Nat.{ℕ, zero, suc, ◌<◌, ◌≤◌}
use native.Mathlib.Omega.{arith}
use lib.ListN.{length, set, replicate}
use Rattle.std.specs.Prelude.{Result, Ok, Err, IsErr, IsErrAnd}
use borrow.Author.Tests.{not-false}
use Rattle.model.specs.declared.Root.{Root}
use Rattle.model.specs.declared.Party.{Party}
use Rattle.model.specs.declared.Refusal.{Refusal}
use Rattle.model.specs.declared.Operation.{Operation}
use Rattle.model.specs.LockWords.{Claim}
use Rattle.model.specs.LockRequests.{is_held, held_all, without_hold, given_up}
use Rattle.model.specs.FreeList.{pages_given_back, room_to_give_back}
use Rattle.model.specs.Claims.{claims}
use Rattle.model.specs.Chains.{Checked, damaged, sound, and_then, sound_if}
use Rattle.model.specs.Records.{root_of_sizes, idle, begun}
use Rattle.model.specs.Answers.{operation_number, setting_given, StepReply, CallReply}
use Rattle.model.specs.Outcome.{View, Outcome, outcome}
use Rattle.model.specs.Sizes.{within_limits}
use Rattle.model.specs.Ready.{viewing}
use Rattle.model.specs.Memory.{Memory, party_at, view_of, after_step, with_waiting, formatted}
use Rattle.model.specs.Refusals.{first_cause, root_sound, busy_row, idle_row, decided_row, damage_row, format_rows, begin_rows, step_rows, withdraw_rows}
use Rattle.model.specs.Steps.Dispatch.{step_of}
use Rattle.model.specs.WaitingRow.{row_sound, stands_behind, row_after, row_left}
use Rattle.model.specs.Calls.{called, format_call, begin_call, step_call, withdraw_call, stepped, withdrawn_from, with_begun}
use Rattle.model.specs.Withdraw.{Withdrawal, withdrawal, withdrawn_to, taken_back, taken_back_soundly, built_pages, withdrawn}
use Rattle.model.proofs.Exits.{step_exits}
use Rattle.model.proofs.Exits.Statement.{Kept, Exit, refusing, waiting, taking, moving, looking, ending}
use Rattle.model.proofs.Steps.Withdraw.{taken_back_is}
use Rattle.model.proofs.Withdrawing.Undone.{with_behind}
use Rattle.model.proofs.Laws.Booleans.{and_left, and_right}
use Rattle.model.proofs.Laws.Lists.{leb-true, or_neither}
use Rattle.refusals.specs.declared.Lengths.{Lengths}
use Rattle.refusals.specs.Causes.{lengths_of, lengths_lent, sound_row, format_cause, place_cause, begin_cause, step_cause, withdraw_cause}
use Rattle.refusals.proofs.Accepted.{format_cause_is, begin_cause_is, step_cause_is, withdraw_cause_is, number_below, row-length, within_limits_lem, place_of_step, place_of_withdraw, same_step_cause, same_withdraw_cause, root_of_step}
use Rattle.refusals.proofs.Causes.{past, begin_is, step_is, withdraw_is, row_last, row_refused}
use Rattle.waiting_row.specs.declared.Place.{Place}
use Rattle.waiting_row.specs.Entry.{place_of}
use Rattle.waiting_row.specs.HeldBack.{held_answer, held_back}
use Rattle.waiting_row.proofs.HeldBack.{held_back_lem, behind_asks, requests-wants}
use Rattle.calls.specs.declared.Rows.{Rows}
use Rattle.calls.specs.Lent.{lent, rows_of, PlaceRight}

-- ---- A withdraw does not look at whether its party stands behind another

held_unseen : (x : Bool) (v : View) (cs : List Claim) → held_all (with_behind x v) cs ≡ held_all v cs
unfolding held_all is_held
held_unseen x v [] = refl
held_unseen x v (c ∷ cs) = rw (held_unseen x v cs) refl

given_unseen : (x : Bool) (cs : List Claim) (v : View) → given_up cs (with_behind x v) ≡ with_behind x (given_up cs v)
unfolding given_up without_hold
given_unseen x [] v = refl
given_unseen x (c ∷ cs) v = given_unseen x cs (without_hold c v)

pages_unseen : (x : Bool) (ys : List ℕ) (v : View) → pages_given_back ys (with_behind x v) ≡ with_behind x (pages_given_back ys v)
unfolding pages_given_back
pages_unseen x ys v = refl

withdrawn_unseen : (x : Bool) (v : View) → withdrawn (with_behind x v) ≡ withdrawal (withdrawn v).answer (with_behind x (withdrawn v).after)
unfolding withdrawn taken_back_soundly taken_back built_pages
withdrawn_unseen x v = go (built_pages v)
  where
    go : (b : Checked (List ℕ))
        → withdrawn_to (with_behind x v) (and_then b (λ xs. sound_if (held_all (with_behind x v) (claims v.root v.party) && room_to_give_back v.root (length xs)) (taken_back (with_behind x v) xs)))
        ≡ withdrawal (withdrawn_to v (and_then b (λ xs. sound_if (held_all v (claims v.root v.party) && room_to_give_back v.root (length xs)) (taken_back v xs)))).answer
        (with_behind x (withdrawn_to v (and_then b (λ xs. sound_if (held_all v (claims v.root v.party) && room_to_give_back v.root (length xs)) (taken_back v xs)))).after)
    go damaged = refl
    go (sound xs) = rw (held_unseen x v (claims v.root v.party)) (test (held_all v (claims v.root v.party) && room_to_give_back v.root (length xs)))
      where
        test : (t : Bool) → withdrawn_to (with_behind x v) (sound_if t (taken_back (with_behind x v) xs))
            ≡ withdrawal (withdrawn_to v (sound_if t (taken_back v xs))).answer (with_behind x (withdrawn_to v (sound_if t (taken_back v xs))).after)
        test true = rw (pages_unseen x (reverse xs) v, given_unseen x (claims v.root v.party) (pages_given_back (reverse xs) v)) refl
        test false = refl

-- A record put back where it stood; past the row's end none is written.
put_back : (row : List Party) (q : ℕ) (p : Party) → (q < length row → party_at row q ≡ p) → set row q p ≡ row
put_back [] q p here = refl
put_back (x ∷ row) zero p here = ap (λ (y : Party). y ∷ row) (sym (here (omega arith)))
put_back (x ∷ row) (suc q) p here = ap (λ (r : List Party). x ∷ r) (put_back row q p (λ h. here (omega (arith, h))))

-- The lengths of the rows and of the lent words are the memory's.
pub fits : (r : Root) (row : List Party) (ls ps ws : List ℕ) {rows : Rows} → rows_of row ws ≡ rows → lengths_lent rows.parties ls ps rows.waiting ≡ lengths_of (lent r row ls ps ws)
fits r row ls ps ws e = ap (λ (x : Rows). lengths_lent x.parties ls ps x.waiting) (sym e)

-- What `?` hands on of a refusal is that refusal.
pub handed_on : {A : Type 0} (a : Result A Refusal) {c : Refusal} → IsErr a × IsErrAnd a (λ x. x ≡ c) → a ≡ Err c
handed_on (Ok x) e = absurd e.1
handed_on (Err x) e = ap Err e.1

-- ---- A step and a withdraw are of the party whose number they are given

exit_number : (v : View) (k : ℕ) (o : Outcome) → Exit v k o → o.after.number ≡ v.number
exit_number v k o (refusing r) = refl
exit_number v k o (waiting c w g r) = refl
exit_number v k o (taking c u w g d m) = ap (λ (x : Kept). x.number) m.kept
exit_number v k o (moving u w d m) = ap (λ (x : Kept). x.number) m.kept
exit_number v k o (looking e w l m) = refl
exit_number v k o (ending a s u w e) = ap (λ (x : Kept). x.number) e.kept

pub step_number : {a : StepReply} (w u : View) → outcome a w ≡ step_of u.party.step u → w.number ≡ u.number
step_number w u e = ap (λ (o : Outcome). o.after.number) e ∙ exit_number u u.party.step (step_of u.party.step u) (step_exits u.party.step u)

pub withdraw_number : {a : CallReply} (w v : View) → withdrawal a w ≡ withdrawn v → w.number ≡ v.number
unfolding withdrawn taken_back_soundly
withdraw_number {a} w v e = ap (λ (o : Withdrawal). o.after.number) e ∙ go (built_pages v)
  where
    go : (b : Checked (List ℕ))
        → (withdrawn_to v (and_then b (λ xs. sound_if (held_all v (claims v.root v.party) && room_to_give_back v.root (length xs)) (taken_back v xs)))).after.number ≡ v.number
    go damaged = refl
    go (sound xs) = test (held_all v (claims v.root v.party) && room_to_give_back v.root (length xs))
      where
        test : (t : Bool) → (withdrawn_to v (sound_if t (taken_back v xs))).after.number ≡ v.number
        test true = ap (λ (u : View). u.number) (taken_back_is v xs)
        test false = refl

-- A refused withdraw leaves the view.
pub withdraw_alone : (v w : View) (c : Refusal) → withdrawal (Err c) w ≡ withdrawn v → w ≡ v
unfolding withdrawn
withdraw_alone v w c = go (taken_back_soundly v)
  where
    go : (x : Checked View) → withdrawal (Err c) w ≡ withdrawn_to v x → w ≡ v
    go damaged e = ap (λ (o : Withdrawal). o.after) e
    go (sound y) e = absurd (let f : Err c ≡ Ok tt = ap (λ (o : Withdrawal). o.answer) e in cc)

-- l are the lengths that the memory has.
module _ (r : Root) (row : List Party) (ls ps ws : List ℕ) (l : Lengths) (fit : l ≡ lengths_of (lent r row ls ps ws)) where
  abbrev m : Memory
  m = lent r row ls ps ws

  many : l.parties ≡ length row
  many = ap (λ (x : Lengths). x.parties) fit

  -- ---- Format

  module _ (n b p v q : ℕ) where
    abbrev sized : Root
    sized = root_of_sizes n b p v q

    first_of_format : format_cause sized l ≡ first_cause (format_rows sized m)
    first_of_format = ap (format_cause sized) fit ∙ format_cause_is m sized

    pub format_refused_ok : {c : Refusal} → format_cause sized l ≡ Err c → called (Err c) (lent r row ls ps ws) ≡ format_call (lent r row ls ps ws) n b p v q
    unfolding format_call
    format_refused_ok e = rw (← first_of_format, e) refl

    pub format_formatted : format_cause sized l ≡ Ok tt → l.parties ≡ q → l.waiting ≡ q → {made : Root} {ls' ps' : List ℕ} → made ≡ (formatted sized).root
        → ls' ≡ (formatted sized).locks → ps' ≡ (formatted sized).pages
        → called (Ok tt) (lent made (replicate (length row) idle) ls' ps' (replicate (length ws) 0)) ≡ format_call (lent r row ls ps ws) n b p v q
    unfolding format_call formatted
    format_formatted none parties words er el ep =
        let row_fits = sym many ∙ parties in
        let words_fit = sym (ap (λ (x : Lengths). x.waiting) fit) ∙ words in
        rw (← first_of_format, none, er, el, ep, row_fits, words_fit) refl

  -- ---- Past the row's end, by the rows that look at no record

  module _ (q : ℕ) {c : Refusal} (cause : place_cause r l q ≡ Err c) where
    pub begin_past : (o : Operation) (k : ℕ) → called (Err c) (lent r row ls ps ws) ≡ begin_call (lent r row ls ps ws) q o k
    unfolding begin_call
    begin_past o k =
        let first : begin_cause r (party_at row q) l q ≡ Err c = begin_is r (party_at row q) l q ∙ rw cause refl in
        rw (← begin_cause_is m q, ← fit, first) refl

    pub step_past : called (Err c) (lent r row ls ps ws) ≡ step_call (lent r row ls ps ws) q
    unfolding step_call
    step_past =
        let sound = row_sound r row ws in
        let first : step_cause r (party_at row q) l q sound ≡ Err c = step_is r (party_at row q) l q sound ∙ rw cause refl in
        rw (← step_cause_is m q, ← fit, first) refl

    pub withdraw_past : called (Err c) (lent r row ls ps ws) ≡ withdraw_call (lent r row ls ps ws) q
    unfolding withdraw_call
    withdraw_past =
        let sound = row_sound r row ws in
        let first : withdraw_cause r (party_at row q) l q sound ≡ Err c = withdraw_is r (party_at row q) l q sound ∙ rw cause refl in
        rw (← withdraw_cause_is m q, ← fit, first) refl

  module _ (q : ℕ) (p : Party) (here : q < l.parties → party_at row q ≡ p) where
    -- Past the row's end the cause is decided before a record is looked at.
    by_place : (f : Party → CallReply) → past (place_cause r l q) (f (party_at row q)) ≡ past (place_cause r l q) (f p)
    by_place f = go (place_cause r l q) refl
      where
        go : (c : CallReply) → place_cause r l q ≡ c → past (place_cause r l q) (f (party_at row q)) ≡ past (place_cause r l q) (f p)
        go (Ok t) e = rw e (ap f (here (number_below r l q e)))
        go (Err c) e = rw e refl

    -- ---- Begin

    first_of_begin : begin_cause r p l q ≡ first_cause (begin_rows m q)
    first_of_begin =
        begin_is r p l q ∙ sym (by_place (λ x. first_cause (busy_row x ∷ []))) ∙ sym (begin_is r (party_at row q) l q)
        ∙ ap (λ (x : Lengths). begin_cause r (party_at row q) x q) fit ∙ begin_cause_is m q

    module _ (o : Operation) (k : ℕ) where
      pub begin_refused_ok : {c : Refusal} → begin_cause r p l q ≡ Err c → called (Err c) (lent r row ls ps ws) ≡ begin_call (lent r row ls ps ws) q o k
      unfolding begin_call
      begin_refused_ok e = rw (← first_of_begin, e) refl

      pub begin_begun : begin_cause r p l q ≡ Ok tt → {next : Party} → next ≡ begun (operation_number o) k (setting_given o)
          → called (Ok tt) (lent r (set row q next) ls ps ws) ≡ begin_call (lent r row ls ps ws) q o k
      unfolding begin_call with_begun
      begin_begun none e = rw (← first_of_begin, none, e) refl

    -- ---- Step and withdraw

    left_alone : lent r (set row q p) ls ps ws ≡ m
    left_alone = ap (λ (x : List Party). lent r x ls ps ws) (put_back row q p (λ h. here (omega (arith, h, many))))

    module _ (at : Place) (right : PlaceRight r row ws q at) where
      -- Where the file passed and the root is sound, the place is right.
      place_told : place_cause r l q ≡ Ok tt → root_sound r ≡ true → at ≡ place_of r row ws q
      unfolding within_limits root_sound
      place_told passed whole =
          let below = number_below r l q passed in
          let limits = within_limits_lem r l q passed in
          let few : r.parties ≤ 16 = leb-true r.parties 16 (search (and_left, and_right)) in
          let low : r.level ≤ 8 = leb-true r.level 8 (search (and_left, and_right)) in
          right (omega (arith, below, many)) few (sym many ∙ row-length r l q passed) low

      row_told : place_cause r l q ≡ Ok tt → root_sound r ≡ true → row_sound r row ws ≡ at.sound
      row_told passed whole = sym (ap (λ (x : Place). x.sound) (place_told passed whole))

      -- A step that meets no cause before the row's, and does not go apart, has a sound row.
      goes_sound : step_cause r p l q true ≡ Ok tt → at.apart ≡ false → at.sound ≡ true
      goes_sound none goes =
          let place = place_told (place_of_step r p l q true none) (root_of_step r p l q true none) in
          let told : (not (row_sound r row ws) || stands_behind r row ws q) ≡ false = sym (ap (λ (x : Place). x.apart) place) ∙ goes in
          ap (λ (x : Place). x.sound) place ∙ not-false (row_sound r row ws) (or_neither (not (row_sound r row ws)) (stands_behind r row ws q) told).0

      first_of_step : step_cause r p l q at.sound ≡ first_cause (step_rows m q)
      first_of_step =
          let sound = row_sound r row ws in
          sym (same_step_cause r p l q sound at.sound row_told) ∙ step_is r p l q sound
          ∙ sym (by_place (λ x. first_cause (idle_row x ∷ (damage_row r x ∷ (sound_row sound ∷ []))))) ∙ sym (step_is r (party_at row q) l q sound)
          ∙ ap (λ (x : Lengths). step_cause r (party_at row q) x q sound) fit ∙ step_cause_is m q

      step_cause_met : {c : Refusal} → step_cause r p l q at.sound ≡ Err c
          → called (Err c) (lent r (set row q p) ls ps (row_after q ws (Err c))) ≡ step_call (lent r row ls ps ws) q
      unfolding step_call row_after
      step_cause_met {c} e = ap (called (Err c)) left_alone ∙ rw (← first_of_step, e) refl

      pub step_refused_ok : {c : Refusal} → step_cause r p l q true ≡ Err c
          → called (Err c) (lent r (set row q p) ls ps (row_after q ws (Err c))) ≡ step_call (lent r row ls ps ws) q
      step_refused_ok {c} e = step_cause_met (sym (row_last r p l q at.sound (λ none. absurd (let f : Err c ≡ Ok tt = sym e ∙ none in cc))) ∙ e)

      module _ (none : step_cause r p l q true ≡ Ok tt) where
        pub row_damaged : at.sound ≡ false
            → called (Err Refusal.Damage) (lent r (set row q p) ls ps (row_after q ws (Err Refusal.Damage))) ≡ step_call (lent r row ls ps ws) q
        row_damaged e = step_cause_met (ap (step_cause r p l q) e ∙ sym (row_refused r p l q none))

        passed : place_cause r l q ≡ Ok tt
        passed = place_of_step r p l q true none

        -- The party's record is the one that the row has: a step that meets no cause has its party in the row.
        in_row : party_at row q ≡ p
        in_row = here (number_below r l q passed)

        module _ (whole : at.sound ≡ true) where
          accepted : first_cause (step_rows m q) ≡ Ok tt
          accepted = sym first_of_step ∙ ap (step_cause r p l q) whole ∙ none

          -- With a sound row a step goes apart only where its party stands behind another.
          behind_told : at.apart ≡ stands_behind r row ws q
          behind_told =
              let place = place_told passed (root_of_step r p l q true none) in
              ap (λ (x : Place). x.apart) place ∙ ap (λ (b : Bool). not b || stands_behind r row ws q) (sym (ap (λ (x : Place). x.sound) place) ∙ whole)

          pub step_held : at.apart ≡ true → {a : StepReply} → a ≡ held_answer r p
              → called a (lent r (set row q p) ls ps (row_after q ws a)) ≡ step_call (lent r row ls ps ws) q
          unfolding step_call stepped
          step_held held {a} e =
              let asked = behind_asks r row ws q (sym behind_told ∙ held) in
              let waits : step_of (view_of m q).party.step (view_of m q) ≡ held_back (view_of m q) = held_back_lem (view_of m q) asked.0 (sym behind_told ∙ held) (requests-wants r (party_at row q) asked.0 asked.1) in
              let same : a ≡ held_answer r (party_at row q) = e ∙ ap (held_answer r) (sym in_row) in
              rw (accepted, waits, sym same) (ap (λ (x : List Party). called a (lent r x ls ps (row_after q ws a))) (ap (set row q) (sym in_row)))

        pub step-stepped : at.apart ≡ false → {a : StepReply} {r' : Root} {p' : Party} {ls' ps' : List ℕ}
            → outcome a (viewing r' p' q ls' ps') ≡ step_of p.step (viewing r p q ls ps)
            → called a (lent r' (set row q p') ls' ps' (row_after q ws a)) ≡ step_call (lent r row ls ps ws) q
        unfolding step_call stepped
        step-stepped free {a} {r'} {p'} {ls'} {ps'} e =
            let whole = goes_sound none free in
            ap (λ (o : Outcome). called o.answer (with_waiting (row_after q ws o.answer) (after_step m o.after))) e
            ∙ rw (accepted whole, in_row, sym (behind_told whole) ∙ free) refl

      first_of_withdraw : withdraw_cause r p l q at.sound ≡ first_cause (withdraw_rows m q)
      first_of_withdraw =
          let sound = row_sound r row ws in
          sym (same_withdraw_cause r p l q sound at.sound row_told) ∙ withdraw_is r p l q sound
          ∙ sym (by_place (λ x. first_cause (idle_row x ∷ (decided_row x ∷ (damage_row r x ∷ (sound_row sound ∷ [])))))) ∙ sym (withdraw_is r (party_at row q) l q sound)
          ∙ ap (λ (x : Lengths). withdraw_cause r (party_at row q) x q sound) fit ∙ withdraw_cause_is m q

      pub withdraw_refused_ok : {c : Refusal} → withdraw_cause r p l q at.sound ≡ Err c → called (Err c) (lent r row ls ps ws) ≡ withdraw_call (lent r row ls ps ws) q
      unfolding withdraw_call
      withdraw_refused_ok e = rw (← first_of_withdraw, e) refl

      module _ (none : withdraw_cause r p l q at.sound ≡ Ok tt) where
        withdraw_made : {a : CallReply} {r' : Root} {p' : Party} {ls' ps' : List ℕ} → withdrawal a (viewing r' p' q ls' ps') ≡ withdrawn (viewing r p q ls ps)
            → called a (lent r' (set row q p') ls' ps' (row_left q ws a)) ≡ withdraw_call (lent r row ls ps ws) q
        unfolding withdraw_call withdrawn_from
        withdraw_made e =
            let there = here (number_below r l q (place_of_withdraw r p l q at.sound none)) in
            ap (λ (o : Withdrawal). called o.answer (with_waiting (row_left q ws o.answer) (after_step m o.after))) e
            ∙ rw (← first_of_withdraw, none, there, withdrawn_unseen (stands_behind r row ws q) (viewing r p q ls ps)) refl

      module _ (none : withdraw_cause r p l q at.sound ≡ Ok tt) {r' : Root} {p' : Party} {ls' ps' : List ℕ} where
        pub withdraw_withdrawn : withdrawal (Ok tt) (viewing r' p' q ls' ps') ≡ withdrawn (viewing r p q ls ps)
            → called (Ok tt) (lent r' (set row q p') ls' ps' (row_left q ws (Ok tt))) ≡ withdraw_call (lent r row ls ps ws) q
        withdraw_withdrawn e = withdraw_made none e

        -- A withdraw refused for the damage that only it meets.
        pub withdraw_damaged : {c : Refusal} → withdrawal (Err c) (viewing r' p' q ls' ps') ≡ withdrawn (viewing r p q ls ps)
            → called (Err c) (lent r row ls' ps' ws) ≡ withdraw_call (lent r row ls ps ws) q
        unfolding row_left
        withdraw_damaged {c} e =
            let same = withdraw_alone (viewing r p q ls ps) (viewing r' p' q ls' ps') c e in
            let there = ap (λ (v : View). called (Err c) (lent r (set row q p) v.locks v.pages ws)) same in
            let back = ap (λ (v : View). called (Err c) (lent v.root (set row q v.party) v.locks v.pages ws)) (sym same) in
            ap (λ (x : List Party). called (Err c) (lent r x ls' ps' ws)) (sym (put_back row q p (λ h. here (omega (arith, h, many))))) ∙ there ∙ back ∙ withdraw_made none e
