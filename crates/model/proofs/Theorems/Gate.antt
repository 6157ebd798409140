-- What holds of the view of a step, or of a withdraw, once no row of the refusal table is met.
-- Main statements: ready (of the view), row_fits (of the row of parties); withdraw_ready, withdraw_row_fits, undecided (of a withdraw).
use mathlib.Core.Path.{◌≡◌, refl, ap}
use mathlib.Core.Bool.{Bool, true, false, false≢true}
use mathlib.Core.List.{List, [], ◌∷◌}
use Prim.Native.Nat.{ℕ, ◌≤◌, ◌<◌}
use lib.ListN.{length}
use borrow.Author.Tests.{leb-true, leb-false, ltb-true, eqb-true, not-false}
use Rattle.std.specs.Prelude.{Ok, is_ok}
use Rattle.model.specs.declared.Root.{Root}
use Rattle.model.specs.declared.Party.{Party}
use Rattle.model.specs.Sizes.{within_limits, most_records, lock_words, all_page_words}
use Rattle.model.specs.Addresses.{span, chain_count}
use Rattle.model.specs.Memory.{Memory, party_at, view_of}
use Rattle.model.specs.Refusals.{Row, first_cause, lengths_fit, root_sound, party_sound, record_sound, step_rows, withdraw_rows}
use Rattle.model.specs.Withdraw.{is_decided}
use Rattle.model.specs.Steps.Dispatch.{has_step}
use Rattle.model.specs.Ready.{Ready}
use Rattle.model.proofs.Laws.Lists.{All}
use Rattle.model.proofs.Laws.Booleans.{and_left, and_right}

-- Where there is no cause no row is met.
pub none_met : (rows : List Row) → first_cause rows ≡ Ok tt → All (λ x. x.met ≡ false) rows
unfolding first_cause
none_met [] e = tt
none_met (x ∷ rows) e = go x.met refl (none_met rows)
  where
    go : (t : Bool) → x.met ≡ t → (first_cause rows ≡ Ok tt → All (λ y. y.met ≡ false) rows) → All (λ y. y.met ≡ false) (x ∷ rows)
    go true k ih = absurd (let z = rw k at e in false≢true (ap is_ok z))
    go false k ih = (k, ih (rw k at e))

-- A sound record's step number and lev.
module _ (r : Root) (x : Party) (p : party_sound r x ≡ true) where
  step_sound : has_step x.operation x.step ≡ true
  unfolding party_sound
  step_sound = search (and_left, and_right) depth 8

  lev_sound : x.lev ≤ 9
  unfolding party_sound
  lev_sound = leb-true x.lev 9 (search (and_left, and_right) depth 8)

-- The tests that step and withdraw share.
module _ (m : Memory) (q : ℕ) (limits : within_limits m.root ≡ true) (lengths : lengths_fit m.root m ≡ true) (number : q < m.root.parties)
    (records : record_sound m.root (party_at m.parties q) ≡ true) where
  row-by_tests : length m.parties ≡ m.root.parties
  unfolding lengths_fit
  row-by_tests = eqb-true (length m.parties) m.root.parties (search (and_left, and_right))

  ready_by_tests : Ready (view_of m q)
  unfolding within_limits lengths_fit record_sound root_sound party_sound
  ready_by_tests =
      let r = m.root in
      let x = party_at m.parties q in
      let k = and_left (root_sound r) (party_sound r x) records in
      let p = and_right (root_sound r) (party_sound r x) records in
      record {
        some_original = leb-true 1 r.originals (search (and_left, and_right));
        originals_fit = leb-true r.originals r.primaries (search (and_left, and_right));
        chains_fit_ok = leb-true r.primaries 256 (search (and_left, and_right));
        overflow_fits = leb-true r.overflow 752 (search (and_left, and_right));
        some_key = leb-true 1 r.capacity (search (and_left, and_right));
        keys_fit = leb-true r.capacity most_records (search (and_left, and_right));
        parties_fit_lem = leb-true r.parties 16 (search (and_left, and_right));
        locks_fit = eqb-true (length m.locks) (lock_words r) (search (and_left, and_right));
        pages_fit = eqb-true (length m.pages) (all_page_words r) (search (and_left, and_right));
        number_fits = number;
        level_fits = leb-true r.level 8 (search (and_left, and_right));
        next_fits = ltb-true r.next (span r.originals r.level) (search (and_left, and_right));
        count_fits = leb-true (chain_count r.originals r.level r.next) r.primaries (search (and_left, and_right));
        free_fits = leb-true r.free r.overflow (search (and_left, and_right));
        step_fits = step_sound r x p;
        lev_fits = lev_sound r x p;
        owed_fits_ok = leb-true x.owed 3 (search (and_left, and_right));
        answer_fits = leb-true x.answer 5 (search (and_left, and_right));
        chain_fits = ltb-true x.chain r.primaries (search (and_left, and_right));
        other_fits = ltb-true x.other r.primaries (search (and_left, and_right));
      }

module _ (m : Memory) (q : ℕ) (none : first_cause (step_rows m q) ≡ Ok tt) where
  unmet : All (λ x. x.met ≡ false) (step_rows m q)
  unfolding step_rows
  unmet = none_met (step_rows m q) none

  limits : within_limits m.root ≡ true
  unfolding step_rows
  limits = let u = unmet in not-false (within_limits m.root) (search)

  lengths : lengths_fit m.root m ≡ true
  unfolding step_rows
  lengths = let u = unmet in not-false (lengths_fit m.root m) (search)

  number : q < m.root.parties
  unfolding step_rows
  number = let u = unmet in leb-false m.root.parties q (search)

  records : record_sound m.root (party_at m.parties q) ≡ true
  unfolding step_rows
  records = let u = unmet in not-false (record_sound m.root (party_at m.parties q)) (search)

  -- The row of party records has the length that the root record says.
  pub row_fits : length m.parties ≡ m.root.parties
  row_fits = row-by_tests m q limits lengths number records

  pub ready : Ready (view_of m q)
  ready = ready_by_tests m q limits lengths number records

-- The same of a withdraw; and the decisive step is not taken.
module _ (m : Memory) (q : ℕ) (none : first_cause (withdraw_rows m q) ≡ Ok tt) where
  withdraw_unmet : All (λ x. x.met ≡ false) (withdraw_rows m q)
  unfolding withdraw_rows
  withdraw_unmet = none_met (withdraw_rows m q) none

  withdraw_limits : within_limits m.root ≡ true
  unfolding withdraw_rows
  withdraw_limits = let u = withdraw_unmet in not-false (within_limits m.root) (search)

  withdraw_lengths : lengths_fit m.root m ≡ true
  unfolding withdraw_rows
  withdraw_lengths = let u = withdraw_unmet in not-false (lengths_fit m.root m) (search)

  withdraw_number_lem : q < m.root.parties
  unfolding withdraw_rows
  withdraw_number_lem = let u = withdraw_unmet in leb-false m.root.parties q (search)

  withdraw_records : record_sound m.root (party_at m.parties q) ≡ true
  unfolding withdraw_rows
  withdraw_records = let u = withdraw_unmet in not-false (record_sound m.root (party_at m.parties q)) (search)

  pub undecided : is_decided (party_at m.parties q) ≡ false
  unfolding withdraw_rows
  undecided = let u = withdraw_unmet in search

  pub withdraw_row_fits : length m.parties ≡ m.root.parties
  withdraw_row_fits = row-by_tests m q withdraw_limits withdraw_lengths withdraw_number_lem withdraw_records

  pub withdraw_ready : Ready (view_of m q)
  withdraw_ready = ready_by_tests m q withdraw_limits withdraw_lengths withdraw_number_lem withdraw_records
