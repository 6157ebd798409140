-- An operation takes at most 31 + V calls for a find and 45 for an insert or a delete, waiting ones set aside,
-- whatever the other parties do; and fewer by the sizes.
-- Beside the invariant: what an operation has taken and what it has left (CallsLeft) make at most its limit.
-- Main statements: Stands (one party), call_counted (one call), run_counted (a list); calls_with (any R that
-- suffices); larger_bounded (larger limits); rehashes_least, rehashes_most (R);
-- sizes_imply, calls_by_sizes, calls_right; calls_formatted.
use mathlib.Core.Path.{◌≡◌, refl, sym, ap, ◌∙◌, subst}
use mathlib.Core.Logic.{◌≢◌}
use mathlib.Core.Bool.{Bool, true, false, cond, false≢true}
use mathlib.Core.List.{List, [], ◌∷◌}
use mathlib.Core.Option.{Option, none, some}
use Prim.Native.Nat.{ℕ, zero, suc, ◌+◌, ◌≤◌, ◌<◌}
use native.Mathlib.Omega.{arith}
use lib.ListN.{length}
use lib.Dec.{eqb, leb}
use Rattle.std.specs.Prelude.{Ok, Err}
use Rattle.model.proofs.Laws.Answers.{not_refused}
use Rattle.model.specs.declared.Refusal.{Refusal}
use Rattle.model.specs.WaitingRow.{row_after, row_left, row_without}
use Rattle.model.specs.declared.Root.{Root}
use Rattle.model.specs.declared.Party.{Party}
use Rattle.model.specs.declared.Operation.{Operation}
use Rattle.model.specs.declared.OperationAnswer.{OperationAnswer}
use Rattle.model.specs.declared.Restructuring.{Restructuring}
use Rattle.model.specs.declared.StepAnswer.{StepAnswer}
use Rattle.model.specs.Sizes.{within_limits}
use Rattle.model.specs.Addresses.{span}
use Rattle.model.specs.Records.{begun}
use Rattle.model.specs.Answers.{operation_number, performs, setting_given, StepReply, CallReply}
use Rattle.model.specs.Outcome.{View, Outcome}
use Rattle.model.specs.Withdraw.{withdrawn}
use Rattle.model.specs.Memory.{Memory, party_at, view_of, after_step, formatted_root, formatted, with_waiting}
use Rattle.model.specs.Calls.{Called, called, stepped, step_call, with_begun, begin_call, withdrawn_from, withdraw_call, called_by}
use Rattle.model.specs.Runs.{Call, begin_for, step_for, withdraw_for, Reply, to_begin, to_step, to_withdraw, Event, reply_to, after_call, event_of, events}
use Rattle.model.specs.Book.{Book, empty_book, Entered, changed_at, with_entry, enter, note_for, after_reply, after_begin, after_withdraw, book_after}
use Rattle.model.specs.Progress.{is_entered, under_way, book_after_call}
use Rattle.model.specs.Effects.{Withdraws}
use Rattle.model.specs.Steps.Dispatch.{step_of}
use Rattle.theory.specs.Demands.{Sizes, sizes_given, Start, start, sizes_of, book_start}
use Rattle.theory.specs.CallsBounded.{most_calls, doubled_from, most_rehashes, most_with, most_by_sizes, Counted, counted, begin_bounded, step_bounded, counted_begin, counted_step, counted_withdraw, none_counted, call_bounded, counted_after, calls_bounded, CallsRight}
use Rattle.model.proofs.Laws.Lists.{Cmp, same, diff, cmp, Ord, lt, ge, ord, not-both, and_both, both-and, cond_ind, lt-ltb, ltb-true, le-leb, leb-true, leb-false}
use Rattle.model.proofs.Invariant.Statement.{facts_at, Busy, Inv, scene_of}
use Rattle.model.proofs.Invariant.Frame.{SameLimits}
use Rattle.model.proofs.Invariant.Facts.{changed_here, changed_elsewhere}
use Rattle.model.proofs.Invariant.Ahead.{ahead_in, AheadStays}
use Rattle.model.proofs.Invariant.Turn.{Turn}
use Rattle.model.proofs.Invariant.Start.{start_inv}
use Rattle.model.proofs.Effects.Kept.{row_same, row_other}
use Rattle.model.proofs.Steps.Withdraw.{withdraw_kept}
use Rattle.model.proofs.Theorems.RefusalOrder.{begin_order, withdraw_accepted}
use Rattle.model.proofs.Theorems.Calls.{StepsKept, within_limits_lem, operation_some, lengths_fit_ok, call_kept}
use Rattle.model.proofs.Theorems.AllSteps.{steps_kept}
use Rattle.theory.proofs.Reached.{started_inv, started-idle}
use Rattle.theory.proofs.SizesStay.{limits_on, call_limits, start_limits}
use Rattle.theory.proofs.LockTrades.{step_trades}
use Rattle.theory.proofs.Alters.{nothing_altered}
use Rattle.theory.proofs.UnderWay.{entered_under, unentered_under, Met, no_party, nothing-begun, under_way_lem, meets}
use Rattle.theory.proofs.Withdraws.{WithdrawTested, turned_away, let_through, withdraw_tested, withdraws, WithdrawMet, stranger, unbegun, too_late, taken_back, withdraw_meets}
use Rattle.theory.proofs.Linearization.Notes.{noted_elsewhere, noted_own}
use Rattle.theory.proofs.CallsLeft.{left, left_at, left-begun, left-some, left_alike, Nearer, stays, goes, ends}
use Rattle.theory.proofs.StepsNearer.{step_nearer}

-- ---- One party

-- Nothing is counted of a party with nothing under way; else what it has taken and what it has left make at most its
-- limit.
abbrev pub Stands : ℕ → Memory → Book → ℕ → Option Counted → Type 0
Stands most m b q none = b.entries q ≡ none
Stands most m b q (some x) = (under_way b q ≡ true) × (x.taken + left most (view_of m q) ≤ x.limit)

abbrev pub CountsOk : ℕ → Memory → Book → (ℕ → Option Counted) → Type 0
CountsOk most m b w = (q : ℕ) → Stands most m b q (w q)

-- An entry that stays keeps who is under way.
under_same : (b c : Book) (q : ℕ) → c.entries q ≡ b.entries q → under_way c q ≡ under_way b q
unfolding under_way
under_same b c q e = ap is_entered e

not_under : (b : Book) (q : ℕ) → b.entries q ≡ none → under_way b q ≡ true → ⊥
not_under b q n u = not-both (under_way b q) u (unentered_under b q n)

-- From memory m and book b to u and c, what party j relies on stays.
pub record Keeps (m u : Memory) (b c : Book) (j : ℕ) : Type 0 where
  pub entry= : c.entries j ≡ b.entries j
  pub party= : party_at u.parties j ≡ party_at m.parties j
  pub overflow= : u.root.overflow ≡ m.root.overflow
  pub ahead= : (party_at m.parties j).step ≡ 9 → ahead_in u.root u.pages j ≡ ahead_in m.root m.pages j

module _ (most : ℕ) where
  left-kept : (m u : Memory) (b c : Book) (j : ℕ) → Keeps m u b c j → left most (view_of u j) ≡ left most (view_of m j)
  unfolding left
  left-kept m u b c j k =
      ap (λ (p : Party). left_at most p.step u.root p (ahead_in u.root u.pages j)) k.party=
      ∙ left_alike most (party_at m.parties j).step m.root u.root (party_at m.parties j) (ahead_in m.root m.pages j) (ahead_in u.root u.pages j) k.overflow= k.ahead=

  stands_kept : (m u : Memory) (b c : Book) (j : ℕ) (x : Option Counted) → (under_way b j ≡ true → Keeps m u b c j) → c.entries j ≡ b.entries j → Stands most m b j x → Stands most u c j x
  stands_kept m u b c j none k e h = e ∙ h
  stands_kept m u b c j (some x) k e h = (under_same b c j e ∙ h.0, omega (arith, left-kept m u b c j (k h.0), h.1))

  -- The view that a step leaves is the party's next.
  own_after_ok : (m : Memory) (row : List ℕ) (u : View) → u.number < length m.parties → left most (view_of (with_waiting row (after_step m u)) u.number) ≡ left most u
  unfolding left
  own_after_ok m row u h = ap (λ (p : Party). left_at most p.step u.root p (ahead_in u.root u.pages u.number)) (row_same m.parties u.number u.party h)

  left_after : (m : Memory) (row : List ℕ) (q : ℕ) (u : View) → u.number ≡ q → q < length m.parties → left most (view_of (with_waiting row (after_step m u)) q) ≡ left most u
  left_after m row q u e h = subst (λ (n : ℕ). left most (view_of (with_waiting row (after_step m u)) n) ≡ left most u) e (own_after_ok m row u (omega (arith, e, h)))

  left_positive : (v : View) → 1 ≤ left most v
  unfolding left
  left_positive v = left-some most v.party.step v.root v.party _

-- ---- Answers that count nothing

idle_bounded : (x : Option Counted) (a : StepReply) → performs a ≡ false → (step_bounded x a ≡ true) × (counted_step x a ≡ x)
unfolding performs step_bounded counted_step
idle_bounded none (Ok StepAnswer.Waiting) h = (refl, refl)
idle_bounded none (Ok StepAnswer.Moved) h = absurd (not-both true refl h)
idle_bounded none (Ok (StepAnswer.Done a s)) h = absurd (not-both true refl h)
idle_bounded none (Err n) h = (refl, refl)
idle_bounded (some x) (Ok StepAnswer.Waiting) h = (refl, refl)
idle_bounded (some x) (Ok StepAnswer.Moved) h = absurd (not-both true refl h)
idle_bounded (some x) (Ok (StepAnswer.Done a s)) h = absurd (not-both true refl h)
idle_bounded (some x) (Err n) h = (refl, refl)

-- They leave the book.
idle_book : (b : Book) (q number : ℕ) (a : StepReply) → performs a ≡ false → after_reply b q number a ≡ b
unfolding performs after_reply
idle_book b q number (Ok StepAnswer.Waiting) h = refl
idle_book b q number (Ok StepAnswer.Moved) h = absurd (not-both true refl h)
idle_book b q number (Ok (StepAnswer.Done a s)) h = absurd (not-both true refl h)
idle_book b q number (Err n) h = refl

refused_begin : (x : Option Counted) (n : Refusal) → begin_bounded x (Err n) ≡ true
unfolding begin_bounded
refused_begin none n = refl
refused_begin (some x) n = refl

-- A reply leaves the entries of the others.
reply_elsewhere : (b : Book) (q number : ℕ) (a : StepReply) (j : ℕ) → j ≢ q → (after_reply b q number a).entries j ≡ b.entries j
unfolding after_reply
reply_elsewhere b q number (Ok StepAnswer.Waiting) j d = refl
reply_elsewhere b q number (Ok StepAnswer.Moved) j d = noted_elsewhere b q (b.entries q) number j d
reply_elsewhere b q number (Ok (StepAnswer.Done a s)) j d =
    changed_elsewhere (note_for b q (b.entries q) number).entries q none j d ∙ noted_elsewhere b q (b.entries q) number j d
reply_elsewhere b q number (Err n) j d = refl

-- The figures go by the sizes.
most_with_sizes : (most : ℕ) (z r : Root) → SameLimits z r → (o : Operation) → most_with most r o ≡ most_with most z o
unfolding most_with
most_with_sizes most z r l Operation.Find = rw l.overflow= refl
most_with_sizes most z r l (Operation.Insert x) = refl
most_with_sizes most z r l Operation.Delete = refl

-- ---- One call

pub record CallCounted (most : ℕ) (z : Root) (m : Memory) (b : Book) (w : ℕ → Option Counted) (c : Call) : Type 0 where
  pub right : call_bounded w c (reply_to m c) ≡ true
  pub counts : CountsOk most (after_call m c) (book_after_call b m c) (counted_after (most_with most z) w c (reply_to m c))

module _ (most : ℕ) (z : Root) (room : z.primaries ≤ span z.originals most) (kept : StepsKept) (m : Memory) (b : Book) (i : Inv m b) (l : SameLimits z m.root)
    (w : ℕ → Option Counted) (ok : CountsOk most m b w) where
  -- A party under way is one of the row.
  under_row : (j : ℕ) → under_way b j ≡ true → j < m.root.parties
  under_row j u = go (ord j m.root.parties)
    where
      go : Ord j m.root.parties → j < m.root.parties
      go (lt h _) = h
      go (ge h _) = absurd (not_under b j (i.strangers j h).0 u)

  -- A call of party q that leaves the others.
  counts_after : (q : ℕ) (u : Memory) (c : Book) (x : Option Counted) → ((j : ℕ) → j ≢ q → c.entries j ≡ b.entries j)
      → ((j : ℕ) → j ≢ q → under_way b j ≡ true → Keeps m u b c j) → Stands most u c q x → CountsOk most u c (changed_at w q x)
  counts_after q u c x e k own j = go (cmp j q)
    where
      go : Cmp j q → Stands most u c j (changed_at w q x j)
      go (same s) = subst (Stands most u c j) (sym (changed_here w q x j s)) (subst (λ (n : ℕ). Stands most u c n x) (sym s) own)
      go (diff d) = subst (Stands most u c j) (sym (changed_elsewhere w q x j d)) (stands_kept most m u b c j (w j) (k j d) (e j d) (ok j))

  -- A call that leaves all.
  counts_same : (q : ℕ) (x : Option Counted) → x ≡ w q → CountsOk most m b (changed_at w q x)
  counts_same q x e =
      counts_after q m b x (λ j d. refl) (λ j d u. record { entry= = refl; party= = refl; overflow= = refl; ahead= = λ _. refl }) (subst (Stands most m b q) (sym e) (ok q))

  -- ---- Begin

  abbrev BeginCounted : ℕ → Operation → ℕ → Called CallReply → Type 0
  BeginCounted q o k c = (begin_bounded (w q) c.answer ≡ true) × CountsOk most c.memory (after_begin b q o k c.answer) (changed_at w q (counted_begin (most_with most z o) (w q) c.answer))

  begin_turned : (q : ℕ) (o : Operation) (k : ℕ) (n : Refusal) → BeginCounted q o k (called (Err n) m)
  unfolding counted_begin after_begin
  begin_turned q o k n = (refused_begin (w q) n, counts_same q (w q) refl)

  begin_begun : (q : ℕ) (o : Operation) (k : ℕ) → q < m.root.parties → b.entries q ≡ none → BeginCounted q o k (called (Ok tt) (with_begun m q o k))
  unfolding counted_begin after_begin with_begun enter begin_bounded left
  begin_begun q o k h n = (
    free (w q) (ok q),
    counts_after q (with_begun m q o k) (enter b q o k) (some (counted (most_with most z o) 0)) (λ j d. changed_elsewhere b.entries q _ j d)
        (λ j d u. record {
          entry= = changed_elsewhere b.entries q _ j d;
          party= = row_other m.parties q j p d;
          overflow= = refl;
          ahead= = λ _. refl;
        })
        (entered_under (enter b q o k) q _ (changed_here b.entries q _ q refl), omega (arith, first, most_with_sizes most z m.root l o)),
  )
    where
      p : Party
      p = begun (operation_number o) k (setting_given o)

      free : (x : Option Counted) → Stands most m b q x → begin_bounded x (Ok tt) ≡ true
      free none s = refl
      free (some x) s = absurd (not_under b q n s.0)

      first : left most (view_of (with_begun m q o k) q) ≡ most_with most m.root o
      first =
          ap (λ (y : Party). left_at most y.step m.root y (ahead_in m.root m.pages q)) (row_same m.parties q p (omega (arith, h, i.parties_many)))
          ∙ left-begun most o m.root k (setting_given o) (ahead_in m.root m.pages q)

  begin_counted : (q : ℕ) (o : Operation) (k : ℕ) → BeginCounted q o k (begin_call m q o k)
  begin_counted q o k = go (meets m b i q)
    where
      fits : within_limits m.root ≡ true
      fits = within_limits_lem m.root i.limits

      go : Met m b i q → BeginCounted q o k (begin_call m q o k)
      go (no_party h _ _ _) = subst (BeginCounted q o k) (sym ((begin_order m q o k).party fits (lengths_fit_ok m b i) h)) (begin_turned q o k Refusal.Party)
      go (nothing-begun h e n _ _) =
          subst (BeginCounted q o k) (sym ((begin_order m q o k).none fits (lengths_fit_ok m b i) h (ap (λ (p : Party). p.operation) e))) (begin_begun q o k h n)
      go (under_way_lem h e c _ _) =
          subst (BeginCounted q o k)
          (sym ((begin_order m q o k).busy fits (lengths_fit_ok m b i) h (operation_some e.operation (party_at m.parties q).operation c.same_operation))) (begin_turned q o k Refusal.Busy)

  -- ---- Step

  abbrev StepCounted : ℕ → Called StepReply → Type 0
  StepCounted q c = (step_bounded (w q) c.answer ≡ true)
      × CountsOk most c.memory (after_reply b q (party_at m.parties q).step c.answer) (changed_at w q (counted_step (w q) c.answer))

  -- What a call that performs nothing leaves.
  stands_row : (row : List ℕ) (c : Book) (j : ℕ) (x : Option Counted) → Stands most m c j x → Stands most (with_waiting row m) c j x
  unfolding left
  stands_row row c j none h = h
  stands_row row c j (some x) h = h

  idle-counted : (q : ℕ) (a : StepReply) → performs a ≡ false → (row : List ℕ) → StepCounted q (called a (with_waiting row m))
  idle-counted q a h row =
      let x = idle_bounded (w q) a h in
      (x.0, λ j. stands_row row (after_reply b q (party_at m.parties q).step a) j (changed_at w q (counted_step (w q) a) j) (subst (λ (c : Book). CountsOk most m c (changed_at w q (counted_step (w q) a))) (sym (idle_book b q (party_at m.parties q).step a h)) (counts_same q (counted_step (w q) a) x.1) j))

  module _ (q : ℕ) (in_row : q < m.root.parties) (e : Entered) (k : Busy (scene_of m i.ghost b) q (party_at m.parties q) e)
      (x : facts_at (party_at m.parties q).step (scene_of m i.ghost b) q (party_at m.parties q) e) (call : step_call m q ≡ stepped m q) where
    abbrev number : ℕ
    number = (party_at m.parties q).step

    abbrev o : Outcome
    o = step_of (party_at m.parties q).step (view_of m q)

    abbrev then : Memory
    then = (called_by m q (step_of (party_at m.parties q).step (view_of m q))).memory

    in_list : q < length m.parties
    in_list = omega (arith, in_row, i.parties_many)

    number= : o.after.number ≡ q
    number= = (step_trades number (view_of m q) refl k.step_fits).number=

    -- The others: their records, their entries, and what a find at 9 has yet to copy.
    others : (j : ℕ) → j ≢ q → under_way b j ≡ true → Keeps m then b (after_reply b q number o.answer) j
    unfolding stepped after_call
    others j d u = record {
      entry= = reply_elsewhere b q number o.answer j d;
      party= = rw (number=) (row_other m.parties q j o.after.party d);
      overflow= = ap (λ (c : Called StepReply). c.memory.root.overflow) (sym call) ∙ (call_limits m (step_for q)).overflow=;
      ahead= = λ nine. (kept m b i q in_row k.step_fits).framed j d (under_row j u) nine;
    }

    performed : (step_bounded (w q) o.answer ≡ true) × Stands most then (after_reply b q number o.answer) q (counted_step (w q) o.answer) → StepCounted q (stepped m q)
    unfolding stepped
    performed own = (own.0, counts_after q then (after_reply b q number o.answer) (counted_step (w q) o.answer) (reply_elsewhere b q number o.answer) others own.1)

    -- Moved: it is under way on, and has less left.
    moves : suc (left most o.after) ≤ left most (view_of m q) → (y : Option Counted) → Stands most m b q y
        → (step_bounded y (Ok StepAnswer.Moved) ≡ true) × Stands most then (after_reply b q number (Ok StepAnswer.Moved)) q (counted_step y (Ok StepAnswer.Moved))
    unfolding step_bounded counted_step after_reply
    moves h none s = absurd (not_under b q s (entered_under b q e k.entry))
    moves h (some y) s =
        let on = noted_own b q e k.entry number in (
          lt-ltb (y.taken + 1) y.limit (omega (arith, h, s.1, left_positive most o.after)),
          (entered_under (note_for b q (b.entries q) number) q on.entered on.is, omega (arith, h, s.1, left_after most m (row_after q m.waiting o.answer) q o.after number= in_list)),
        )

    -- Done: its entry goes.
    ended : (a : OperationAnswer) (r : Restructuring) → 1 ≤ left most (view_of m q) → (y : Option Counted) → Stands most m b q y
        → (step_bounded y (Ok (StepAnswer.Done a r)) ≡ true) × Stands most then (after_reply b q number (Ok (StepAnswer.Done a r))) q (counted_step y (Ok (StepAnswer.Done a r)))
    unfolding step_bounded counted_step after_reply
    ended a r h none s = absurd (not_under b q s (entered_under b q e k.entry))
    ended a r h (some y) s = (
      le-leb (y.taken + 1) y.limit (omega (arith, h, s.1)),
      changed_here (note_for b q (b.entries q) number).entries q none q refl,
    )

    by_nearer : Nearer most (left most (view_of m q)) o → StepCounted q (step_call m q)
    unfolding stepped
    by_nearer (stays h) =
        let still : performs (step_call m q).answer ≡ false = ap (λ (c : Called StepReply). performs c.answer) call ∙ h in
        subst (λ (u : Memory). StepCounted q (called (step_call m q).answer u)) (sym (nothing_altered m q still)) (idle-counted q (step_call m q).answer still _)
    by_nearer (goes a h) =
        subst (StepCounted q) (sym call)
        (performed (subst (λ (y : StepReply). (step_bounded (w q) y ≡ true) × Stands most then (after_reply b q number y) q (counted_step (w q) y)) (sym a) (moves h (w q) (ok q))))
    by_nearer (ends s r a h) =
        subst (StepCounted q) (sym call)
        (performed (subst (λ (y : StepReply). (step_bounded (w q) y ≡ true) × Stands most then (after_reply b q number y) q (counted_step (w q) y)) (sym a) (ended s r h (w q) (ok q))))

    under_way_counted : StepCounted q (step_call m q)
    unfolding left
    under_way_counted = by_nearer (step_nearer most m b q (rw (l.primaries=, l.originals=) room) number (record { inv = i; in_row = in_row; is_at = refl; entered = e; busy = k; facts = x }))

  step-counted : (q : ℕ) → StepCounted q (step_call m q)
  unfolding performs
  step-counted q = go (meets m b i q)
    where
      go : Met m b i q → StepCounted q (step_call m q)
      go (no_party _ _ _ e) = subst (StepCounted q) (sym e) (idle-counted q (Err Refusal.Party) refl m.waiting)
      go (nothing-begun _ _ _ _ e) = subst (StepCounted q) (sym e) (idle-counted q (Err Refusal.Idle) refl m.waiting)
      go (under_way_lem h e k x c) = under_way_counted q h e k x c

  -- ---- Withdraw

  abbrev WithdrawCounted : ℕ → Called CallReply → Type 0
  WithdrawCounted q c = CountsOk most c.memory (after_withdraw b q c.answer) (changed_at w q (counted_withdraw (w q) c.answer))

  withdraw_turned : (q : ℕ) (n : Refusal) → WithdrawCounted q (called (Err n) m)
  unfolding counted_withdraw after_withdraw
  withdraw_turned q n = counts_same q (w q) refl

  withdraw_counted : (q : ℕ) → WithdrawCounted q (withdraw_call m q)
  unfolding counted_withdraw after_withdraw withdrawn_from row_left
  withdraw_counted q = go (withdraw_meets m b i q)
    where
      gone : (u : Memory) → u ≡ (withdraw_call m q).memory → u ≡ with_waiting (row_without q m.waiting) (after_step m (withdrawn (view_of m q)).after) → Withdraws m q
          → AheadStays m q (withdrawn (view_of m q)).after.root (withdrawn (view_of m q)).after.pages → WithdrawCounted q (called (Ok tt) u)
      gone u is left_is x framed =
          counts_after q u (with_entry b q none) none (λ j d. changed_elsewhere b.entries q none j d)
          (λ j d on. record {
            entry= = changed_elsewhere b.entries q none j d;
            party= = ap (λ (y : Memory). party_at y.parties j) is ∙ x.others j d;
            overflow= = ap (λ (y : Memory). y.root.overflow) is ∙ ap (λ (r : Root). r.overflow) x.root;
            ahead= = λ nine. ap (λ (y : Memory). ahead_in y.root y.pages j) left_is ∙ framed j d (under_row j on) nine;
          })
          (changed_here b.entries q none q refl)

      accepted : Turn m b q (party_at m.parties q).step → (withdraw_call m q).answer ≡ Ok tt
          → AheadStays m q (withdrawn (view_of m q)).after.root (withdrawn (view_of m q)).after.pages → WithdrawTested m q → WithdrawCounted q (withdraw_call m q)
      accepted t a f (turned_away n e) = absurd (not_refused tt n (sym a ∙ ap (λ (c : Called CallReply). c.answer) e))
      accepted t a f (let_through xs z d x y e) =
          subst (λ (c : CallReply). WithdrawCounted q (called c (withdraw_call m q).memory)) (sym a)
          (gone (withdraw_call m q).memory refl
          (ap (λ (c : Called CallReply). c.memory) (withdraw_accepted m q z)
          ∙ ap (λ (y : CallReply). with_waiting (row_left q m.waiting y) (after_step m (withdrawn (view_of m q)).after))
          (sym (ap (λ (c : Called CallReply). c.answer) (withdraw_accepted m q z)) ∙ a)) (withdraws m q xs z d e) f)

      go : WithdrawMet m b i q → WithdrawCounted q (withdraw_call m q)
      go (stranger _ _ e) = subst (WithdrawCounted q) (sym e) (withdraw_turned q Refusal.Party)
      go (unbegun _ _ e) = subst (WithdrawCounted q) (sym e) (withdraw_turned q Refusal.Idle)
      go (too_late _ _ _ _ e) = subst (WithdrawCounted q) (sym e) (withdraw_turned q Refusal.Decided)
      go (taken_back _ _ _ t d a) = accepted t a (withdraw_kept t d).framed (withdraw_tested m q)

  pub call_counted : (c : Call) → CallCounted most z m b w c
  unfolding call_bounded counted_after reply_to after_call book_after event_of
  call_counted (begin_for q o k) = let g = begin_counted q o k in record { right = g.0; counts = g.1 }
  call_counted (step_for q) = let g = step-counted q in record { right = g.0; counts = g.1 }
  call_counted (withdraw_for q) = record { right = refl; counts = withdraw_counted q }

-- ---- A list of calls

module _ (most : ℕ) (z : Root) (room : z.primaries ≤ span z.originals most) (kept : StepsKept) where
  pub run_counted : (m : Memory) (b : Book) → Inv m b → SameLimits z m.root → (w : ℕ → Option Counted) → CountsOk most m b w → (cs : List Call)
      → calls_bounded (most_with most z) w (events m cs) ≡ true
  unfolding calls_bounded events event_of
  run_counted m b i l w ok [] = refl
  run_counted m b i l w ok (c ∷ cs) =
      let g = call_counted most z room kept m b i l w ok c in
      both-and g.right
      (run_counted (after_call m c) (book_after_call b m c) (call_kept kept m b i c).inv (limits_on z m.root (after_call m c).root l (call_limits m c)) _ g.counts cs)

-- Nothing is counted at first.
start_counts : (most : ℕ) (s : Start) → CountsOk most (start s) (book_start s) none_counted
unfolding none_counted
start_counts most s q = go (meets (start s) (book_start s) (started_inv s) q)
  where
    go : Met (start s) (book_start s) (started_inv s) q → (book_start s).entries q ≡ none
    go (no_party _ n _ _) = n
    go (nothing-begun _ _ n _ _) = n
    go (under_way_lem _ e k _ _) =
        absurd (operation_some e.operation (party_at (start s).parties q).operation k.same_operation (ap (λ (p : Party). p.operation) (started-idle s q)))

-- Where N chains doubled n times are P or more.
pub calls_with : (n : ℕ) (s : Start) → (sizes_of s).primaries ≤ span (sizes_of s).originals n → (cs : List Call)
    → calls_bounded (most_with n (sizes_of s)) none_counted (events (start s) cs) ≡ true
calls_with n s room cs = run_counted n (sizes_of s) room steps_kept (start s) (book_start s) (started_inv s) (start_limits s) none_counted (start_counts n s) cs

-- ---- Larger limits

-- As many calls taken, within a limit that is no smaller.
abbrev Wider : Option Counted → Option Counted → Type 0
Wider none none = Unit {0}
Wider none (some y) = ⊥
Wider (some x) none = ⊥
Wider (some x) (some y) = (y.taken ≡ x.taken) × (x.limit ≤ y.limit)

begin_wider : (l n : ℕ) (x y : Option Counted) (a : CallReply) → l ≤ n → Wider x y → begin_bounded x a ≡ true
    → (begin_bounded y a ≡ true) × Wider (counted_begin l x a) (counted_begin n y a)
unfolding begin_bounded counted_begin
begin_wider l n none none (Ok _) h k e = (refl, (refl, h))
begin_wider l n none none (Err c) h k e = (refl, k)
begin_wider l n none (some y) a h k e = absurd k
begin_wider l n (some x) none a h k e = absurd k
begin_wider l n (some x) (some y) (Ok _) h k e = absurd (false≢true e)
begin_wider l n (some x) (some y) (Err c) h k e = (refl, k)

step_wider : (x y : Option Counted) (a : StepReply) → Wider x y → step_bounded x a ≡ true → (step_bounded y a ≡ true) × Wider (counted_step x a) (counted_step y a)
unfolding step_bounded counted_step
step_wider none none (Ok StepAnswer.Waiting) k e = (refl, k)
step_wider none none (Ok StepAnswer.Moved) k e = absurd (false≢true e)
step_wider none none (Ok (StepAnswer.Done a s)) k e = absurd (false≢true e)
step_wider none none (Err n) k e = (refl, k)
step_wider none (some y) a k e = absurd k
step_wider (some x) none a k e = absurd k
step_wider (some x) (some y) (Ok StepAnswer.Waiting) k e = (refl, k)
step_wider (some x) (some y) (Ok StepAnswer.Moved) k e =
    (lt-ltb (y.taken + 1) y.limit (omega (arith, ltb-true (x.taken + 1) x.limit e, k.0, k.1)), (omega (arith, k.0), k.1))
step_wider (some x) (some y) (Ok (StepAnswer.Done a s)) k e = (le-leb (y.taken + 1) y.limit (omega (arith, leb-true (x.taken + 1) x.limit e, k.0, k.1)), tt)
step_wider (some x) (some y) (Err n) k e = (refl, k)

withdraw_wider : (x y : Option Counted) (a : CallReply) → Wider x y → Wider (counted_withdraw x a) (counted_withdraw y a)
unfolding counted_withdraw
withdraw_wider x y (Ok _) k = tt
withdraw_wider x y (Err n) k = k

module _ (f g : Operation → ℕ) (larger : (o : Operation) → f o ≤ g o) where
  changed_wider : (v w : ℕ → Option Counted) → ((q : ℕ) → Wider (v q) (w q)) → (q : ℕ) (x y : Option Counted) → Wider x y → (j : ℕ) → Wider (changed_at v q x j) (changed_at w q y j)
  unfolding changed_at
  changed_wider v w k q x y h j = go (eqb j q)
    where
      go : (t : Bool) → Wider (cond t x (v j)) (cond t y (w j))
      go true = h
      go false = k j

  call_wider : (v w : ℕ → Option Counted) → ((q : ℕ) → Wider (v q) (w q)) → (c : Call) (r : Reply) → call_bounded v c r ≡ true
      → (call_bounded w c r ≡ true) × ((q : ℕ) → Wider (counted_after f v c r q) (counted_after g w c r q))
  unfolding call_bounded counted_after
  call_wider v w k (begin_for q o n) (to_begin a) e = let h = begin_wider (f o) (g o) (v q) (w q) a (larger o) (k q) e in (h.0, changed_wider v w k q _ _ h.1)
  call_wider v w k (begin_for q o n) (to_step a) e = absurd (false≢true e)
  call_wider v w k (begin_for q o n) (to_withdraw a) e = absurd (false≢true e)
  call_wider v w k (step_for q) (to_begin a) e = absurd (false≢true e)
  call_wider v w k (step_for q) (to_step a) e = let h = step_wider (v q) (w q) a (k q) e in (h.0, changed_wider v w k q _ _ h.1)
  call_wider v w k (step_for q) (to_withdraw a) e = absurd (false≢true e)
  call_wider v w k (withdraw_for q) (to_begin a) e = absurd (false≢true e)
  call_wider v w k (withdraw_for q) (to_step a) e = absurd (false≢true e)
  call_wider v w k (withdraw_for q) (to_withdraw a) e = (refl, changed_wider v w k q _ _ (withdraw_wider (v q) (w q) a (k q)))

  -- A run within its limits is within larger ones.
  bounded_wider : (v w : ℕ → Option Counted) → ((q : ℕ) → Wider (v q) (w q)) → (es : List Event) → calls_bounded f v es ≡ true → calls_bounded g w es ≡ true
  unfolding calls_bounded
  bounded_wider v w k [] e = refl
  bounded_wider v w k (x ∷ xs) e =
      let both = and_both (call_bounded v x.call x.reply) (calls_bounded f (counted_after f v x.call x.reply) xs) e in
      let h = call_wider v w k x.call x.reply both.0 in
      both-and h.0 (bounded_wider (counted_after f v x.call x.reply) (counted_after g w x.call x.reply) h.1 xs both.1)

  pub larger_bounded : (es : List Event) → calls_bounded f none_counted es ≡ true → calls_bounded g none_counted es ≡ true
  unfolding none_counted
  larger_bounded es e = bounded_wider none_counted none_counted (λ q. tt) es e

-- ---- R, by the sizes

-- From i on, f more at most: it is enough, where the last is; it is no more than the last; and none below it, from i
-- on, is enough.
doubled_enough : (f i n p : ℕ) → p ≤ span n (i + f) → p ≤ span n (doubled_from f i n p)
unfolding doubled_from
doubled_enough zero i n p h = subst (λ (k : ℕ). p ≤ span n k) (omega arith) h
doubled_enough (suc f) i n p h =
    cond_ind (λ (k : ℕ). p ≤ span n k) (leb p (span n i)) _ _ (λ e. leb-true p (span n i) e)
    (λ _. doubled_enough f (i + 1) n p (subst (λ (k : ℕ). p ≤ span n k) (omega arith) h))

doubled_most : (f i n p : ℕ) → doubled_from f i n p ≤ i + f
unfolding doubled_from
doubled_most zero i n p = omega arith
doubled_most (suc f) i n p =
    cond_ind (λ (k : ℕ). k ≤ i + suc f) (leb p (span n i)) _ _ (λ _. omega arith) (λ _. omega (arith, doubled_most f (i + 1) n p))

doubled_least : (f i n p k : ℕ) → i ≤ k → p ≤ span n k → doubled_from f i n p ≤ k
unfolding doubled_from
doubled_least zero i n p k h e = h
doubled_least (suc f) i n p k h e =
    cond_ind (λ (j : ℕ). j ≤ k) (leb p (span n i)) _ _ (λ _. h)
    (λ x. doubled_least f (i + 1) n p k (past (cmp i k) (leb-false p (span n i) x)) e)
  where
    past : Cmp i k → span n i < p → i + 1 ≤ k
    past (same s) l = absurd (omega (arith, l, e, ap (span n) s))
    past (diff d) l = omega (arith, h, d)

-- The least number with N × 2^R ≥ P.
pub record IsLeast (n p r : ℕ) : Type 0 where
  pub enough : p ≤ span n r
  pub least : (k : ℕ) → p ≤ span n k → r ≤ k

pub rehashes_least : (r : Root) → 1 ≤ r.originals → r.primaries ≤ 256 → IsLeast r.originals r.primaries (most_rehashes r)
unfolding most_rehashes span
rehashes_least r first fits = record {
  enough = doubled_enough 8 0 r.originals r.primaries (omega (arith, first, fits));
  least = λ k e. doubled_least 8 0 r.originals r.primaries k (omega arith) e;
}

-- It is at most 8, on any sizes.
pub rehashes_most : (r : Root) → most_rehashes r ≤ 8
unfolding most_rehashes
rehashes_most r = doubled_most 8 0 r.originals r.primaries

-- Where N is P, so that nothing ever splits, it is 0.
pub rehashes_none : (r : Root) → r.primaries ≡ r.originals → most_rehashes r ≡ 0
unfolding most_rehashes span
rehashes_none r e = let l = doubled_least 8 0 r.originals r.primaries 0 (omega arith) (omega (arith, e)) in omega (arith, l)

-- ---- The figures

-- Those by the sizes are within those asked for.
pub sizes_within : (r : Root) (o : Operation) → most_by_sizes r o ≤ most_calls r o
unfolding most_by_sizes most_with most_calls
sizes_within r Operation.Find = omega (arith, rehashes_most r)
sizes_within r (Operation.Insert x) = omega (arith, rehashes_most r)
sizes_within r Operation.Delete = omega (arith, rehashes_most r)

-- So a run within the former is within the latter.
pub sizes_imply : (r : Root) (es : List Event) → calls_bounded (most_by_sizes r) none_counted es ≡ true → calls_bounded (most_calls r) none_counted es ≡ true
sizes_imply r es e = larger_bounded (most_by_sizes r) (most_calls r) (sizes_within r) es e

-- By the sizes, for every list of calls.
pub calls_by_sizes : (s : Start) (cs : List Call) → calls_bounded (most_by_sizes (sizes_of s)) none_counted (events (start s) cs) ≡ true
unfolding most_by_sizes
calls_by_sizes s cs =
    let i = started_inv s in
    let z = sizes_of s in
    calls_with (most_rehashes z) s (rehashes_least z i.limits.some_original i.limits.chains_fit_ok).enough cs

-- CHANGE 8: from every memory that passes take-up, for every list of calls.
pub calls_right : (s : Start) (cs : List Call) → CallsRight s cs
calls_right s cs = record { bounded = sizes_imply (sizes_of s) (events (start s) cs) (calls_by_sizes s cs); by_sizes_ok = calls_by_sizes s cs }

-- From formatted memory, by the sizes given to format.
pub calls_formatted : (z : Sizes) (cs : List Call) → (calls_bounded (most_calls (sizes_given z)) none_counted (events (formatted (sizes_given z)) cs) ≡ true)
    × (calls_bounded (most_by_sizes (sizes_given z)) none_counted (events (formatted (sizes_given z)) cs) ≡ true)
unfolding most_by_sizes none_counted empty_book formatted formatted_root
calls_formatted z cs =
    let r = sizes_given z in
    let i = start_inv z.originals z.capacity z.primaries z.overflow z.parties z.fit in
    let l : SameLimits r (formatted r).root = record { originals= = refl; capacity= = refl; primaries= = refl; overflow= = refl; parties= = refl } in
    let room = (rehashes_least r i.limits.some_original i.limits.chains_fit_ok).enough in
    let by_sizes_ok = run_counted (most_rehashes r) r room steps_kept (formatted r) empty_book i l none_counted (λ q. refl) cs in
    (sizes_imply r (events (formatted r) cs) by_sizes_ok, by_sizes_ok)
