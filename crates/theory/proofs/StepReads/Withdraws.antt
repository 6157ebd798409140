-- What a withdraw follows is what it reads, and its trace is what it does: of every memory on which it is accepted
-- (statements in specs/Reads.antt).
-- Main statements: withdraw_reads, withdraw_true.
use mathlib.Core.Path.{◌≡◌, refl, sym, ap, ◌∙◌, subst}
use mathlib.Core.Bool.{Bool, true, false}
use mathlib.Core.List.{List, reverse}
use Prim.Native.Nat.{ℕ, ◌+◌, ◌-◌}
use native.Mathlib.Omega.{arith}
use lib.ListN.{length, length-reverse}
use lib.Dec.{eqb}
use Rattle.std.specs.Prelude.{Ok}
use Rattle.model.proofs.Laws.Answers.{not_refused}
use Rattle.model.specs.Answers.{CallReply}
use Rattle.model.specs.WaitingRow.{row_left, row_without}
use Rattle.model.specs.Pages.{page_of, link_of, page_sound, scratch_page, zero_page}
use Rattle.model.specs.Chains.{Checked, damaged, sound, list_from, pages_listed}
use Rattle.model.specs.FreeList.{is_among, room_to_give_back, given_back}
use Rattle.model.specs.Outcome.{View, with_pages}
use Rattle.model.specs.LockRequests.{held_all}
use Rattle.model.specs.ScratchPages.{scratch_of}
use Rattle.model.specs.Claims.{claims}
use Rattle.model.specs.Withdraw.{built_pages, taken_back_soundly, withdrawn}
use Rattle.model.specs.Memory.{Memory, party_at, view_of, after_step, with_waiting}
use Rattle.model.specs.Refusals.{first_cause, lengths_fit, withdraw_rows}
use Rattle.model.specs.Calls.{Called, called, withdrawn_from, withdraw_call}
use Rattle.model.specs.Effects.{withdraw_after}
use Rattle.theory.specs.Links.{Trace, trace, walked_from, Clock, clock_start, trace_answered, trace_of_withdraw}
use Rattle.theory.specs.Reads.{pages_followed, Freed, walked_back, is_open, DiffersOutside, ReadAlike, WithdrawTrue}
use Rattle.model.proofs.Laws.Lists.{cond_ind, among_reverse, All, all_from, all_in}
use Rattle.model.proofs.Laws.Pages.{page_other, length-zero_page}
use Rattle.model.proofs.Laws.Structure.{SameOn}
use Rattle.model.proofs.Laws.Filling.{IsOverflow}
use Rattle.model.proofs.Laws.Reading.{has_overflow}
use Rattle.model.proofs.Theorems.RefusalOrder.{withdraw_accepted}
use Rattle.model.proofs.Theorems.Gate.{withdraw_ready}
use Rattle.model.proofs.Effects.GiveUps.{given_up_alike}
use Rattle.model.proofs.Steps.Withdraw.{left_by, taken_back_is}
use Rattle.model.proofs.Exits.Scratches.{IfSound, sound_link, has_page}
use Rattle.theory.proofs.Withdraws.{WithdrawTested, turned_away, let_through, withdraw_tested, built_overflow, back_long}
use Rattle.theory.proofs.StepReads.Readings.{from_sound, ListRead, list_alike}
use Rattle.theory.proofs.StepReads.Writings.{Beside, Alike, Open, open_same, alike_start, alike_written, alike_given, head_alike}
use Rattle.theory.proofs.StepReads.Outcomes.{held_beside}
use Rattle.theory.proofs.StepReads.EachStep.{walked_pages}
use Rattle.theory.proofs.StepReads.Followed.{primary_open, scratch_open_ok, listed_open}
use Rattle.theory.proofs.StepReads.Known.{Stepping, list_stepping, back_known, given_freed}

-- ---- The pages built

module _ (v : View) where
  -- What is read of them goes by the scratch page and by themselves.
  abbrev BuiltRead : List ℕ → List ℕ → Type 0
  BuiltRead ps' xs = SameOn v.pages ps' xs → built_pages (with_pages ps' v) ≡ sound xs

  built_alike : (ps' : List ℕ) → page_of ps' (scratch_page v.root v.number) ≡ scratch_of v → IfSound (BuiltRead ps') (built_pages v)
  unfolding built_pages
  built_alike ps' e =
      let l = link_of (scratch_of v) in
      cond_ind (IfSound (BuiltRead ps')) (eqb v.party.step 11) _ _
      (λ n. cond_ind (IfSound (BuiltRead ps')) (page_sound v.root (scratch_of v)) _ _
      (λ s. if_then_read (list_from v.root v.pages l) (list_alike v.root v.pages ps' l) (λ xs f o. rw (n, e, s) (f o)))
      (λ _. tt))
      (λ n o. rw n refl)
    where
      if_then_read : (c : Checked (List ℕ)) → IfSound (ListRead v.root v.pages ps' (link_of (scratch_of v))) c
          → ((xs : List ℕ) → ListRead v.root v.pages ps' (link_of (scratch_of v)) xs → BuiltRead ps' xs) → IfSound (BuiltRead ps') c
      if_then_read damaged h f = tt
      if_then_read (sound xs) h f = f xs h

  -- The scratch link leads to the first, and each page's own link to the next.
  built_stepping : IfSound (Stepping v.root v.pages (link_of (scratch_of v))) (built_pages v)
  unfolding built_pages
  built_stepping =
      cond_ind (IfSound (Stepping v.root v.pages (link_of (scratch_of v)))) (eqb v.party.step 11) _ _
      (λ _. cond_ind (IfSound (Stepping v.root v.pages (link_of (scratch_of v)))) (page_sound v.root (scratch_of v)) _ _
      (λ s. list_stepping v.root v.pages (link_of (scratch_of v)) (sound_link v.root (scratch_of v) s)) (λ _. tt))
      (λ _. tt)

-- ---- The call

-- Accepted, with the pages xs built.
module _ (m : Memory) (q : ℕ) (xs : List ℕ) (none : first_cause (withdraw_rows m q) ≡ Ok tt) (built : built_pages (view_of m q) ≡ sound xs)
    (held : held_all (view_of m q) (claims m.root (party_at m.parties q)) ≡ true) (room : room_to_give_back m.root (length xs) ≡ true)
    (call : withdraw_call m q ≡ called (Ok tt) (with_waiting (row_without q m.waiting) (after_step m (left_by (view_of m q) xs)))) where
  abbrev view : View
  view = view_of m q

  overflow : All (IsOverflow m.root) xs
  overflow = built_overflow view xs built

  back_overflow : All (IsOverflow m.root) (reverse xs)
  back_overflow = all_from (IsOverflow m.root) (reverse xs) (λ x h. all_in (IsOverflow m.root) x xs overflow (sym (among_reverse x xs) ∙ h))

  trace-is : (k : Clock) → trace_of_withdraw k m q ≡ trace (walked_from (k.scratch_read q) (k.calls + 1) xs) false false xs
  unfolding trace_of_withdraw trace_answered pages_listed
  trace-is k = rw (call, built) refl

  walked-is : walked_back m q ≡ xs
  unfolding walked_back
  walked-is = ap (λ (t : Trace). pages_followed t.follows) (trace-is clock_start) ∙ walked_pages _ _ xs

  -- ---- The same call beside it, on the page memory ps'

  module _ (ps' : List ℕ) (long : length ps' ≡ length m.pages) (agree : (x : ℕ) → is_open m.root (walked_back m q) x ≡ true → page_of ps' x ≡ page_of m.pages x) where
    abbrev m' : Memory
    m' = record { root = m.root; parties = m.parties; locks = m.locks; pages = ps'; waiting = m.waiting }

    abbrev opens : ℕ → Bool
    opens = is_open m.root (walked_back m q)

    beside : Beside view ps' opens
    beside = record {
      ready = withdraw_ready m q none;
      long = long;
      agree = agree;
      primary_open = primary_open m.root (walked_back m q);
      scratch_open_ok = scratch_open_ok m.root (walked_back m q);
    }

    open_listed : Open opens xs
    open_listed = all_from (λ x. opens x ≡ true) xs (λ x h. listed_open m.root (walked_back m q) x (rw walked-is h))

    open_back : Open opens (reverse xs)
    open_back = all_from (λ x. opens x ≡ true) (reverse xs) (λ x h. all_in (λ x. opens x ≡ true) x xs open_listed (sym (among_reverse x xs) ∙ h))

    built' : built_pages (view_of m' q) ≡ sound xs
    built' =
        from_sound (BuiltRead view ps') (built_pages view) (built_alike view ps' (agree (scratch_page m.root q) (scratch_open_ok m.root (walked_back m q) (scratch_page m.root q) (omega arith)))) xs built
        (open_same view ps' opens beside xs open_listed)

    same_rows : withdraw_rows m' q ≡ withdraw_rows m q
    unfolding withdraw_rows lengths_fit
    same_rows = rw long

    call' : withdraw_call m' q ≡ called (Ok tt) (with_waiting (row_without q m.waiting) (after_step m' (left_by (view_of m' q) xs)))
    unfolding withdrawn_from withdrawn taken_back_soundly row_left
    call' =
        withdraw_accepted m' q (ap first_cause same_rows ∙ none)
        ∙ rw (built', held_beside (claims m.root (party_at m.parties q)) ps' view, held, room, taken_back_is (view_of m' q) xs) refl

    pages_alike : Alike opens m.pages ps' (left_by view xs).pages (left_by (view_of m' q) xs).pages
    pages_alike =
        let k = alike_given view ps' opens beside m.pages ps' (alike_start view ps' opens beside) m.root.head (reverse xs) open_back back_overflow in
        alike_written view ps' opens beside _ _ k (scratch_page m.root q) zero_page (scratch_open_ok m.root (walked_back m q) (scratch_page m.root q) (omega arith))
        (omega (arith, (withdraw_ready m q none).number_fits)) length-zero_page

    alike_beside : ReadAlike (walked_back m q) m m' (withdraw_call m q) (withdraw_call m' q)
    alike_beside =
        let k = pages_alike in
        let head = head_alike m.pages ps' m.root.head (reverse xs) in
        record {
          answer= = rw (call', call);
          root= = rw (call', call, head);
          parties= = rw (call', call);
          locks= = rw (call', call) (given_up_alike (claims m.root (party_at m.parties q)) view (view_of m' q) refl refl);
          waiting= = rw (call', call);
          length= = rw (call', call) (k.long' ∙ sym k.long);
          open= = λ x h. rw (call', call) (k.agree x h);
          shut_kept = λ x h. rw call (k.kept x h);
          shut_kept' = λ x h. rw call' (k.kept' x h);
        }

  -- ---- Its trace

  then_is : withdraw_after m q ≡ with_waiting (row_without q m.waiting) (after_step m (left_by view xs))
  then_is = ap (λ (c : Called CallReply). c.memory) call

  trace-true : (k : Clock) → WithdrawTrue k m q
  trace-true k =
      let fits = withdraw_ready m q none in
      let has = has_overflow m.root m.pages (reverse xs) fits.pages_fit back_overflow in
      record {
        known = rw (trace-is k) (back_known view (k.calls + 1) (k.scratch_read q) (k.old_read q) xs (from_sound (Stepping m.root m.pages (link_of (scratch_of view))) (built_pages view) (built_stepping view) xs built));
        given = ap (λ (u : Memory). u.root.free - m.root.free) then_is ∙ omega (arith, length-reverse xs) ∙ ap (λ (t : Trace). length t.gives) (sym (trace-is k));
        freed = λ x h.
            let listed : is_among x xs ≡ true = rw (trace-is k) at h in
            let over = all_in (IsOverflow m.root) x xs overflow listed in
            let back = given_freed m.pages m.root.head (reverse xs) has x (among_reverse x xs ∙ listed) in
            subst (λ (u : Memory). Freed u.pages x) (sym then_is)
            (record {
              link = back.link;
              free = page_other (given_back m.pages m.root.head (reverse xs)).pages (scratch_page m.root q) zero_page
                  (has_page view fits _ (scratch_page m.root q) (back_long m q xs none built call) (omega (arith, fits.number_fits))) length-zero_page x (λ e. omega (arith, over.below))
                  ∙ back.free;
            });
      }

-- ---- The theorems

pub withdraw_reads : (m m' : Memory) (q : ℕ) → (withdraw_call m q).answer ≡ Ok tt → DiffersOutside (walked_back m q) m m'
    → ReadAlike (walked_back m q) m m' (withdraw_call m q) (withdraw_call m' q)
withdraw_reads m m' q accepted d = go (withdraw_tested m q)
  where
    same : record { root = m.root; parties = m.parties; locks = m.locks; pages = m'.pages; waiting = m.waiting } ≡ m'
    same = sym (λ i. record { root = d.root= i; parties = d.parties= i; locks = d.locks= i; pages = m'.pages; waiting = d.waiting= i })

    go : WithdrawTested m q → ReadAlike (walked_back m q) m m' (withdraw_call m q) (withdraw_call m' q)
    go (turned_away n e) = absurd (not_refused tt n (sym accepted ∙ ap (λ (c : Called CallReply). c.answer) e))
    go (let_through xs z b h r e) =
        subst (λ (u : Memory). ReadAlike (walked_back m q) m u (withdraw_call m q) (withdraw_call u q)) same (alike_beside m q xs z b h r e m'.pages d.length= d.open=)

pub withdraw_true : (k : Clock) (m : Memory) (q : ℕ) → (withdraw_call m q).answer ≡ Ok tt → WithdrawTrue k m q
withdraw_true k m q accepted = go (withdraw_tested m q)
  where
    go : WithdrawTested m q → WithdrawTrue k m q
    go (turned_away n e) = absurd (not_refused tt n (sym accepted ∙ ap (λ (c : Called CallReply). c.answer) e))
    go (let_through xs z b h r e) = trace-true m q xs z b h r e k
