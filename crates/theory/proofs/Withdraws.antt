-- What a withdraw leaves, on all memory (statements in specs/Effects.antt of crate model), and what it meets on a
-- memory with the invariant.
-- Main statements: WithdrawTested, withdraw_tested (a withdraw is refused, and leaves all, or is accepted, with the
-- pages built); built_overflow; withdraw_alters; WithdrawMet, withdraw_meets (under the invariant: refused Refusal.Party, 5 or 7,
-- or accepted).
use mathlib.Core.Path.{◌≡◌, refl, sym, ap, ◌∙◌, subst}
use mathlib.Core.Bool.{true, false, ◌&&◌}
use mathlib.Core.List.{List, reverse}
use mathlib.Core.Option.{none}
use Prim.Native.Nat.{ℕ, ◌≤◌, ◌<◌}
use native.Mathlib.Omega.{arith}
use lib.ListN.{length, length-set}
use lib.Seq.{set-get_or}
use lib.Dec.{eqb}
use Rattle.std.specs.Prelude.{Ok, Err}
use Rattle.model.proofs.Laws.Answers.{not_refused, Caused, no_cause, caused_by, caused}
use Rattle.model.specs.declared.Refusal.{Refusal}
use Rattle.model.specs.Answers.{CallReply}
use Rattle.model.specs.WaitingRow.{row_left, row_without}
use Rattle.model.specs.declared.Party.{Party}
use Rattle.model.specs.Sizes.{within_limits}
use Rattle.model.specs.Records.{idle}
use Rattle.model.specs.LockWords.{Claim}
use Rattle.model.specs.Pages.{page_of, link_of, page_sound, scratch_page, zero_page}
use Rattle.model.specs.Chains.{Checked, damaged, sound, pages_listed}
use Rattle.model.specs.FreeList.{is_among, room_to_give_back, given_back}
use Rattle.model.specs.Outcome.{View}
use Rattle.model.specs.LockRequests.{held_all}
use Rattle.model.specs.ScratchPages.{scratch_of}
use Rattle.model.specs.Claims.{claims}
use Rattle.model.specs.Withdraw.{is_decided, built_pages, taken_back_soundly, Withdrawal, withdrawal, withdrawn}
use Rattle.model.specs.Memory.{Memory, party_at, view_of, after_step, with_waiting}
use Rattle.model.specs.Refusals.{first_cause, lengths_fit, withdraw_rows}
use Rattle.model.specs.Calls.{Called, called, withdrawn_from, withdraw_call}
use Rattle.model.specs.Book.{Book, Entered}
use Rattle.model.specs.Effects.{Withdraws, WithdrawAlters}
use Rattle.model.proofs.Laws.Lists.{Told, holds, fails, tell, cond_ind, and_both, among_reverse, All, all_from, all_in}
use Rattle.model.proofs.Laws.Pages.{Has, page_same, page_other, length-zero_page}
use Rattle.model.proofs.Laws.Filling.{IsOverflow}
use Rattle.model.proofs.Laws.Reading.{has_overflow}
use Rattle.model.proofs.Laws.FreeList.{given_other, length-given}
use Rattle.model.proofs.Invariant.Statement.{Busy, facts_at, Inv, scene_of}
use Rattle.model.proofs.Invariant.Turn.{Turn}
use Rattle.model.proofs.Effects.Kept.{row_same, row_other}
use Rattle.model.proofs.Steps.Withdraw.{left_by, taken_back_is, withdraw_kept}
use Rattle.model.proofs.Theorems.RefusalOrder.{withdraw_refused_ok, withdraw_accepted, withdraw_order}
use Rattle.model.proofs.Theorems.Gate.{withdraw_row_fits, withdraw_ready}
use Rattle.model.proofs.Theorems.Calls.{within_limits_lem, lengths_fit_ok, operation_some, record_sound_lem, root_sound_ok, party_sound_ok}
use Rattle.model.proofs.Exits.Scratches.{IfSound, sound_link, list_overflow_ok}
use Rattle.theory.proofs.UnderWay.{Met, no_party, nothing-begun, under_way_lem, meets}

-- ---- Refused or accepted

-- A withdraw is refused and leaves all lent memory, or is accepted: the pages built are xs, every lock given up is
-- held, and the free count has room.
pub data WithdrawTested (m : Memory) (q : ℕ) : Type 0 where
  turned_away : (n : Refusal) → withdraw_call m q ≡ called (Err n) m → WithdrawTested m q
  let_through : (xs : List ℕ) → first_cause (withdraw_rows m q) ≡ Ok tt → built_pages (view_of m q) ≡ sound xs → held_all (view_of m q) (claims m.root (party_at m.parties q)) ≡ true
      → room_to_give_back m.root (length xs) ≡ true → withdraw_call m q ≡ called (Ok tt) (with_waiting (row_without q m.waiting) (after_step m (left_by (view_of m q) xs))) → WithdrawTested m q

-- A call that leaves the view leaves the memory.
same_memory : (m : Memory) (q : ℕ) → after_step m (view_of m q) ≡ m
same_memory m q = ap (λ (ps : List Party). record { root = m.root; parties = ps; locks = m.locks; pages = m.pages; waiting = m.waiting }) (set-get_or m.parties q idle)

pub withdraw_tested : (m : Memory) (q : ℕ) → WithdrawTested m q
unfolding withdrawn_from withdrawn taken_back_soundly row_left
withdraw_tested m q = go (caused (first_cause (withdraw_rows m q)))
  where
    v : View
    v = view_of m q

    cs : List Claim
    cs = claims m.root (party_at m.parties q)

    -- Past the rows: what the call is where its own tests have this outcome.
    call_is : first_cause (withdraw_rows m q) ≡ Ok tt → (o : Withdrawal) → withdrawn v ≡ o → withdraw_call m q ≡ called o.answer (with_waiting (row_left q m.waiting o.answer) (after_step m o.after))
    call_is z o e = withdraw_accepted m q z ∙ ap (λ (x : Withdrawal). called x.answer (with_waiting (row_left q m.waiting x.answer) (after_step m x.after))) e

    harmed : first_cause (withdraw_rows m q) ≡ Ok tt → withdrawn v ≡ withdrawal (Err Refusal.Damage) v → WithdrawTested m q
    harmed z e = turned_away Refusal.Damage (call_is z _ e ∙ ap (called (Err Refusal.Damage)) (same_memory m q))

    by_tests : first_cause (withdraw_rows m q) ≡ Ok tt → (xs : List ℕ) → built_pages v ≡ sound xs → Told (held_all v cs && room_to_give_back m.root (length xs)) → WithdrawTested m q
    by_tests z xs e (fails t) = harmed z (rw (e, t) refl)
    by_tests z xs e (holds t) =
        let both = and_both (held_all v cs) (room_to_give_back m.root (length xs)) t in
        let_through xs z e both.0 both.1 (call_is z (withdrawal (Ok tt) (left_by v xs)) (rw (e, t, taken_back_is v xs) refl))

    by_pages : first_cause (withdraw_rows m q) ≡ Ok tt → (c : Checked (List ℕ)) → built_pages v ≡ c → WithdrawTested m q
    by_pages z damaged e = harmed z (rw e refl)
    by_pages z (sound xs) e = by_tests z xs e (tell (held_all v cs && room_to_give_back m.root (length xs)))

    go : Caused (first_cause (withdraw_rows m q)) → WithdrawTested m q
    go (no_cause z) = by_pages z (built_pages v) refl
    go (caused_by c y) = turned_away c (withdraw_refused_ok m c q y)

-- ---- The pages built

-- They are overflow pages.
pub built_overflow : (v : View) (xs : List ℕ) → built_pages v ≡ sound xs → All (IsOverflow v.root) xs
unfolding built_pages
built_overflow v xs e = subst (IfSound (All (IsOverflow v.root))) e checked_pages
  where
    checked_pages : IfSound (All (IsOverflow v.root)) (built_pages v)
    checked_pages =
        cond_ind (IfSound (All (IsOverflow v.root))) (eqb v.party.step 11) _ _
        (λ _. cond_ind (IfSound (All (IsOverflow v.root))) (page_sound v.root (scratch_of v)) _ _
        (λ s. list_overflow_ok v.root v.pages (link_of (scratch_of v)) (sound_link v.root (scratch_of v) s)) (λ _. tt))
        (λ _. tt)

-- ---- What it alters

module _ (m : Memory) (q : ℕ) (xs : List ℕ) (none : first_cause (withdraw_rows m q) ≡ Ok tt) (built : built_pages (view_of m q) ≡ sound xs)
    (call : withdraw_call m q ≡ called (Ok tt) (with_waiting (row_without q m.waiting) (after_step m (left_by (view_of m q) xs)))) where
  fits : q < length m.parties
  fits = omega (arith, withdraw_row_fits m q none, (withdraw_ready m q none).number_fits)

  back_overflow : All (IsOverflow m.root) (reverse xs)
  back_overflow = all_from (IsOverflow m.root) (reverse xs) (λ x h. all_in (IsOverflow m.root) x xs (built_overflow (view_of m q) xs built) (sym (among_reverse x xs) ∙ h))

  back_has : All (Has m.pages) (reverse xs)
  back_has = has_overflow m.root m.pages (reverse xs) (withdraw_ready m q none).pages_fit back_overflow

  abbrev given : List ℕ
  given = (given_back m.pages m.root.head (reverse xs)).pages

  pub back_long : length given ≡ length m.pages
  back_long = length-given m.pages m.root.head (reverse xs) back_has

  has_scratch : Has given (scratch_page m.root q)
  has_scratch = record { fits = omega (arith, back_long, (withdraw_ready m q none).pages_fit, (withdraw_ready m q none).number_fits) }

  then_is : (withdraw_call m q).memory ≡ with_waiting (row_without q m.waiting) (after_step m (left_by (view_of m q) xs))
  then_is = ap (λ (c : Called CallReply). c.memory) call

  pub withdraws : Withdraws m q
  unfolding pages_listed
  withdraws = record {
    own = ap (λ (u : Memory). party_at u.parties q) then_is ∙ row_same m.parties q idle fits;
    others = λ j n. ap (λ (u : Memory). party_at u.parties j) then_is ∙ row_other m.parties q j idle n;
    as_many = ap (λ (u : Memory). length u.parties) then_is ∙ length-set m.parties q idle;
    root = rw then_is refl;
    locks = ap (λ (u : Memory). u.locks) then_is;
    waiting = ap (λ (u : Memory). u.waiting) then_is;
    scratch = ap (λ (u : Memory). page_of u.pages (scratch_page m.root q)) then_is ∙ page_same given (scratch_page m.root q) zero_page has_scratch length-zero_page;
    elsewhere = λ x n h.
        ap (λ (u : Memory). page_of u.pages x) then_is ∙ page_other given (scratch_page m.root q) zero_page has_scratch length-zero_page x n
        ∙ given_other m.pages m.root.head (reverse xs) back_has x (among_reverse x xs ∙ ap (λ (c : Checked (List ℕ)). is_among x (pages_listed c)) (sym built) ∙ h);
  }

pub withdraw_alters : (m : Memory) (q : ℕ) → WithdrawAlters m q
withdraw_alters m q = go (withdraw_tested m q)
  where
    go : WithdrawTested m q → WithdrawAlters m q
    go (turned_away c e) = record {
      accepted = λ a. absurd (not_refused tt c (sym a ∙ ap (λ (x : Called CallReply). x.answer) e));
      refused = λ n a. ap (λ (x : Called CallReply). x.memory) e;
    }
    go (let_through xs z b _ _ e) = record {
      accepted = λ _. withdraws m q xs z b e;
      refused = λ n a. absurd (not_refused tt n (sym (ap (λ (x : Called CallReply). x.answer) e) ∙ a));
    }

-- ---- Under the invariant

-- What a withdraw for party q meets: there is no such party, it has nothing under way, its decisive step is taken, or
-- its operation is taken back.
pub data WithdrawMet (m : Memory) (b : Book) (i : Inv m b) (q : ℕ) : Type 0 where
  stranger : m.root.parties ≤ q → b.entries q ≡ none → withdraw_call m q ≡ called (Err Refusal.Party) m → WithdrawMet m b i q
  unbegun : q < m.root.parties → b.entries q ≡ none → withdraw_call m q ≡ called (Err Refusal.Idle) m → WithdrawMet m b i q
  too_late : q < m.root.parties → (e : Entered) → Busy (scene_of m i.ghost b) q (party_at m.parties q) e → is_decided (party_at m.parties q) ≡ true
      → withdraw_call m q ≡ called (Err Refusal.Decided) m → WithdrawMet m b i q
  taken_back : q < m.root.parties → (e : Entered) → Busy (scene_of m i.ghost b) q (party_at m.parties q) e
      → Turn m b q (party_at m.parties q).step → is_decided (party_at m.parties q) ≡ false → (withdraw_call m q).answer ≡ Ok tt → WithdrawMet m b i q

module _ (m : Memory) (b : Book) (i : Inv m b) where
  pub withdraw_meets : (q : ℕ) → WithdrawMet m b i q
  unfolding withdrawn_from
  withdraw_meets q = go (meets m b i q)
    where
      limits : within_limits m.root ≡ true
      limits = within_limits_lem m.root i.limits

      lengths : lengths_fit m.root m ≡ true
      lengths = lengths_fit_ok m b i

      started : q < m.root.parties → (e : Entered) → (k : Busy (scene_of m i.ghost b) q (party_at m.parties q) e)
          → facts_at (party_at m.parties q).step (scene_of m i.ghost b) q (party_at m.parties q) e → Told (is_decided (party_at m.parties q)) → WithdrawMet m b i q
      started h e k f (holds d) =
          too_late h e k d ((withdraw_order m q).decided limits lengths h (operation_some e.operation (party_at m.parties q).operation k.same_operation) d)
      started h e k f (fails d) =
          let t : Turn m b q (party_at m.parties q).step = record { inv = i; in_row = h; is_at = refl; entered = e; busy = k; facts = f } in
          taken_back h e k t d
          (ap (λ (c : Called CallReply). c.answer)
          ((withdraw_order m q).none limits lengths h (operation_some e.operation (party_at m.parties q).operation k.same_operation) d
          (record_sound_lem m.root (party_at m.parties q) (root_sound_ok m b i) (party_sound_ok m b i q h (party_at m.parties q) e k)) i.row_ok.sound)
          ∙ (withdraw_kept t d).accepted)

      go : Met m b i q → WithdrawMet m b i q
      go (no_party h n _ _) = stranger h n ((withdraw_order m q).party limits lengths h)
      go (nothing-begun h e n _ _) = unbegun h n ((withdraw_order m q).idle limits lengths h (rw e refl))
      go (under_way_lem h e k f _) = started h e k f (tell (is_decided (party_at m.parties q)))
