-- From steps and withdraws to calls and lists of calls: if every step keeps the invariant, so does every call, and the book agrees with every answer of a list.
-- Main statements: StepsKept (what the lemmas of the thirty steps say together); record_sound_lem (no common test of damage fails); call_kept; run_answers, run_inv (over whole lists).
use mathlib.Core.Path.{◌≡◌, refl, sym, ap, ◌∙◌, subst}
use mathlib.Core.Logic.{◌≢◌}
use mathlib.Core.Bool.{Bool, true, false, not, ◌||◌, false≢true}
use mathlib.Core.List.{List, [], ◌∷◌}
use mathlib.Core.Option.{Option}
use Prim.Native.Nat.{ℕ, ◌+◌, ◌≤◌, ◌<◌}
use native.Mathlib.Omega.{arith}
use lib.ListN.{length, set}
use lib.Seq.{set-get_or}
use lib.Dec.{eqb, ltb}
use Rattle.std.specs.Prelude.{Ok, Err}
use Rattle.model.specs.declared.Refusal.{Refusal}
use Rattle.model.specs.declared.Root.{Root}
use Rattle.model.specs.declared.Party.{Party}
use Rattle.model.specs.declared.Operation.{Operation}
use Rattle.model.specs.declared.StepAnswer.{StepAnswer}
use Rattle.model.specs.Sizes.{within_limits, lock_words, all_page_words}
use Rattle.model.specs.Records.{idle, begun}
use Rattle.model.specs.Answers.{operation_number, refusal_number, setting_given, StepReply, CallReply, is_damage}
use Rattle.model.specs.Addresses.{span, chain_count}
use Rattle.model.specs.Outcome.{View, Outcome}
use Rattle.model.specs.Withdraw.{is_decided, withdrawn}
use Rattle.model.specs.Memory.{Memory, party_at, view_of, after_step, with_waiting}
use Rattle.model.specs.WaitingRow.{requests, row_after, row_left, row_with, row_without}
use Rattle.model.specs.Refusals.{lengths_fit, root_sound, party_sound, record_sound}
use Rattle.model.specs.Calls.{Called, called, stepped, step_call, with_begun, begin_call, withdrawn_from, withdraw_call}
use Rattle.model.specs.Runs.{Call, begin_for, step_for, withdraw_for, Reply, to_begin, to_step, to_withdraw, caller_of, reply_to, after_call, event_of, events, final_memory}
use Rattle.model.specs.Book.{Book, Entered, changed_at, enter, book_after, after_reply, after_begin, after_withdraw, agrees, agrees_with, book_agrees, book_at_end}
use Rattle.model.specs.Steps.Dispatch.{has_step, step_of}
use Rattle.model.proofs.Laws.Answers.{cause_some}
use Rattle.model.proofs.Laws.Lists.{Told, holds, fails, tell, Ord, lt, ge, ord, both-and, eqb_same, eqb-diff, le-leb, lt-ltb}
use Rattle.model.proofs.Laws.WaitingRow.{RowOk, row-waits, row_moves, row_stays, idle-asks-none}
use Rattle.model.proofs.Theorems.Answering.{waiting_asks, done-asks-none}
use Rattle.model.proofs.Invariant.Ghost.{nobody, old_of, free, root_extent, size}
use Rattle.model.proofs.Invariant.Owners.{owns_nothing, kinds_apart}
use Rattle.model.specs.Claims.{claims}
use Rattle.model.proofs.Invariant.LockMoves.{locks_stay}
use Rattle.model.proofs.Effects.OwnRecord.{same_sizes, own_parts}
use Rattle.model.proofs.Invariant.Facts.{no_pages_held}
use Rattle.model.proofs.Invariant.Extents.{level_fits}
use Rattle.model.proofs.Laws.Reading.{held_length}
use Rattle.model.proofs.Theorems.RefusalOrder.{begin_order, step_order, withdraw_order}
use Rattle.model.proofs.Invariant.Statement.{Limits, restructures, uses, NoPages, Busy, PartyOk, resting, working, Inv, scene_of}
use Rattle.model.proofs.Effects.Kept.{Kept, row_other, extents_move, assemble}
use Rattle.model.proofs.Steps.Withdraw.{WithdrawKept, withdraw_kept}

-- Every step of a party under way is not refused, agrees with the book and keeps the invariant.
abbrev pub StepsKept : Type 0
StepsKept = (m : Memory) (b : Book) → Inv m b → (q : ℕ) → q < m.root.parties → has_step (party_at m.parties q).operation (party_at m.parties q).step ≡ true
    → Kept m b q (step_of (party_at m.parties q).step (view_of m q))

-- ---- No row of the refusal table is met but by the party's number, or by an idle or busy party

pub within_limits_lem : (r : Root) → Limits r → within_limits r ≡ true
unfolding within_limits
within_limits_lem r l =
    rw (
      le-leb 1 r.originals l.some_original,
      le-leb r.originals r.primaries l.originals_fit,
      le-leb 1 r.primaries (omega (arith, l.some_original, l.originals_fit)),
      le-leb r.primaries 256 l.chains_fit_ok,
      le-leb r.overflow 752 l.overflow_fits,
      le-leb 1 r.parties l.some_party,
      le-leb r.parties 16 l.parties_fit_lem,
      le-leb 1 r.capacity l.some_key,
      le-leb r.capacity 6 l.keys_fit,
    ) refl

-- The operation in a record that the book has entered.
operation_small : (o : Operation) (n : ℕ) → operation_number o ≡ n → n ≤ 3
unfolding operation_number
operation_small Operation.Find n e = omega arith
operation_small (Operation.Insert x) n e = omega arith
operation_small Operation.Delete n e = omega arith

pub operation_some : (o : Operation) (n : ℕ) → operation_number o ≡ n → n ≢ 0
unfolding operation_number
operation_some Operation.Find n e = omega arith
operation_some (Operation.Insert x) n e = omega arith
operation_some Operation.Delete n e = omega arith

pub record_sound_lem : (r : Root) (p : Party) → root_sound r ≡ true → party_sound r p ≡ true → record_sound r p ≡ true
unfolding record_sound
record_sound_lem r p a c = both-and a c

module _ (m : Memory) (b : Book) (i : Inv m b) where
  pub lengths_fit_ok : lengths_fit m.root m ≡ true
  unfolding lengths_fit
  lengths_fit_ok =
      rw (
        eqb_same (length m.parties) m.root.parties i.parties_many,
        eqb_same (length m.locks) (lock_words m.root) i.locks_ok.as_many,
        eqb_same (length m.pages) (all_page_words m.root) i.pages_many,
        eqb_same (length m.waiting) m.root.parties i.row_ok.long,
      ) refl

  pub root_sound_ok : root_sound m.root ≡ true
  unfolding root_sound size chain_count
  root_sound_ok =
      let r = m.root in
      let fits = i.extents_ok.root_fits in
      let level = level_fits r.originals (root_extent r) i.limits.some_original (omega (arith, i.limits.chains_fit_ok)) in
      rw (
        le-leb r.level 8 level,
        lt-ltb r.next (span r.originals r.level) i.extents_ok.root_next,
        le-leb (span r.originals r.level + r.next) r.primaries fits,
        le-leb r.free r.overflow (omega (arith, i.pages_ok.free_count, held_length m.root i.pages_ok.owned free)),
      ) refl

  module _ (q : ℕ) (in_row : q < m.root.parties) (p : Party) (e : Entered) (k : Busy (scene_of m i.ghost b) q p e) where
    answer_set : (ltb p.step 12 || not (eqb p.answer 0)) ≡ true
    answer_set = go (ord p.step 12)
      where
        go : Ord p.step 12 → (ltb p.step 12 || not (eqb p.answer 0)) ≡ true
        go (lt h t) = rw t refl
        go (ge h t) = rw (t, eqb-diff p.answer 0 (k.answer_set h)) refl

    pub party_sound_ok : party_sound m.root p ≡ true
    unfolding party_sound
    party_sound_ok =
        rw (
          le-leb p.operation 3 (operation_small e.operation p.operation k.same_operation),
          k.step_fits,
          le-leb p.lev 9 k.lev_fits,
          le-leb p.owed 3 k.owed_fits_ok,
          le-leb p.answer 5 k.answer_fits,
          answer_set,
          lt-ltb p.chain m.root.primaries k.chain_fits,
          lt-ltb p.other m.root.primaries k.other_fits,
        ) refl

-- ---- An operation begun

-- Every operation has step 1.
has_first : (o : Operation) → has_step (operation_number o) 1 ≡ true
unfolding operation_number has_step
has_first Operation.Find = refl
has_first (Operation.Insert x) = refl
has_first Operation.Delete = refl

module _ (m : Memory) (b : Book) (i : Inv m b) (q : ℕ) (o : Operation) (k : ℕ) (in_row : q < m.root.parties) (was_idle : party_at m.parties q ≡ idle)
    (none : NoPages (scene_of m i.ghost b) q) where
  abbrev p_then : Party
  p_then = begun (operation_number o) k (setting_given o)

  row_long : q < length m.parties
  row_long = omega (arith, i.parties_many)

  idle_uses : (d : ℕ) → uses (party_at m.parties q) d ≡ false
  unfolding uses
  idle_uses d = rw was_idle refl

  idle_rests : restructures p_then ≡ restructures (party_at m.parties q)
  unfolding restructures
  idle_rests = rw was_idle refl

  begun_rests : restructures p_then ≡ false
  unfolding restructures
  begun_rests = refl

  begun-claims : claims m.root p_then ≡ claims m.root (party_at m.parties q)
  unfolding claims
  begun-claims = rw was_idle refl

  begun-row : RowOk m.root (set m.parties q p_then) m.waiting
  begun-row =
      row_stays m.root m.root m.parties (set m.parties q p_then) m.waiting q i.row_ok (idle-asks-none m.root (party_at m.parties q) was_idle)
      (record { as_many = refl; same_ask = λ j n l. ap (requests m.root) (row_other m.parties q j p_then n) })

  abbrev entered : Entered
  entered = record { operation = o; key = k; note = Option.none }

  pub begun_inv : Inv (with_begun m q o k) (enter b q o k)
  unfolding with_begun enter changed_at
  begun_inv =
      let fits = i.limits in
      assemble m b i q in_row m.root m.locks m.pages p_then (enter b q o k) i.ghost
      (own_parts m b i q in_row p_then (enter b q o k) m.locks
      (record {
        entries= = λ j n. rw (eqb-diff j q n) refl;
        contents= = refl;
        stays = λ x e. absurd (owns_nothing i.pages_ok.owned (old_of q) x (kinds_apart (old_of q) nobody refl) none.nothing_old.no_old e);
        frees = λ d _. idle_uses d;
        extents = extents_move
            (record {
              sizes = same_sizes m.root;
              live= = refl;
              low= = refl;
              in_row = row_long;
              same_part = idle_rests;
              same_live = λ e. absurd (false≢true (sym begun_rests ∙ e));
              same_low = λ e. absurd (false≢true (sym begun_rests ∙ e));
            })
            i.extents_ok;
        locks = locks_stay m.root m.parties q p_then row_long begun-claims i.locks_ok;
        self = working entered
            (record {
              entry = rw (eqb_same q q refl) refl;
              same_operation = refl;
              same_setting = refl;
              same_key = refl;
              step_fits = has_first o;
              lev_fits = omega arith;
              owed_fits_ok = omega arith;
              answer_fits = omega arith;
              answer_set = λ h. absurd (omega arith);
              chain_fits = omega (arith, fits.some_original, fits.originals_fit);
              other_fits = omega (arith, fits.some_original, fits.originals_fit);
            })
            (record { nothing_owed = refl; no_pages = no_pages_held _ _ q refl none });
      }))
      m.waiting begun-row

-- ---- A call

-- Whether a reply is not the refusal of a damaged number.
unfoldable pub undamaged : Reply → Bool
undamaged (to_begin a) = true
undamaged (to_step (Ok StepAnswer.Waiting)) = true
undamaged (to_step (Ok StepAnswer.Moved)) = true
undamaged (to_step (Ok (StepAnswer.Done a s))) = true
undamaged (to_step (Err c)) = not (is_damage c)
undamaged (to_withdraw (Ok _)) = true
undamaged (to_withdraw (Err c)) = not (is_damage c)

allowed_undamaged : (a : StepReply) → refusal_number a ≡ 0 → undamaged (to_step a) ≡ true
unfolding refusal_number undamaged
allowed_undamaged (Ok StepAnswer.Waiting) e = refl
allowed_undamaged (Ok StepAnswer.Moved) e = refl
allowed_undamaged (Ok (StepAnswer.Done a s)) e = refl
allowed_undamaged (Err c) e = absurd (cause_some c e)

-- What is owed of a call.
pub record CallOk (m : Memory) (b : Book) (c : Call) : Type 0 where
  pub right : agrees b c (party_at m.parties (caller_of c)).step (reply_to m c) ≡ true
  pub sound : undamaged (reply_to m c) ≡ true
  pub inv : Inv (after_call m c) (book_after b c (party_at m.parties (caller_of c)).step (reply_to m c))

module _ (kept : StepsKept) (m : Memory) (b : Book) (i : Inv m b) where
  -- A step refused for its party's number, or because the party is idle.
  refused_ok : (q : ℕ) (c : Refusal) → is_damage c ≡ false → step_call m q ≡ called (Err c) m → CallOk m b (step_for q)
  unfolding reply_to after_call book_after after_reply agrees agrees_with undamaged
  refused_ok q c h e = record {
    right = ap (λ (c : Called StepReply). agrees_with b q (party_at m.parties q).step c.answer) e;
    sound = ap (λ (c : Called StepReply). undamaged (to_step c.answer)) e ∙ ap not h;
    inv = subst (λ (c : Called StepReply). Inv c.memory (after_reply b q (party_at m.parties q).step c.answer)) (sym e) i;
  }

  -- The waiting row after a step performed.
  module _ (q : ℕ) (l : q < m.root.parties) (h : has_step (party_at m.parties q).operation (party_at m.parties q).step ≡ true) where
    abbrev left : Outcome
    left = step_of (party_at m.parties q).step (view_of m q)

    pub step_row : (a : StepReply) → left.answer ≡ a → RowOk left.after.root (set m.parties left.after.number left.after.party) (row_after q m.waiting a)
    unfolding row_after refusal_number
    step_row (Ok StepAnswer.Waiting) e =
        subst (λ (v : View). RowOk v.root (set m.parties v.number v.party) (row_with q m.waiting)) (sym ((kept m b i q l h).stays e))
        (subst (λ (ps : List Party). RowOk m.root ps (row_with q m.waiting)) (sym (set-get_or m.parties q idle))
        (row-waits m.root m.parties m.waiting q i.row_ok (record { there = l; asks = waiting_asks (view_of m q) h e })))
    step_row (Ok StepAnswer.Moved) e = row_moves m.root _ m.parties _ m.waiting q i.row_ok (kept m b i q l h).asks
    step_row (Ok (StepAnswer.Done a s)) e = row_stays m.root _ m.parties _ m.waiting q i.row_ok (done-asks-none (view_of m q) h a s e) (kept m b i q l h).asks
    step_row (Err c) e = absurd (cause_some c (ap refusal_number (sym e) ∙ (kept m b i q l h).allowed))

  -- A step performed.
  performed_ok : (q : ℕ) → q < m.root.parties → has_step (party_at m.parties q).operation (party_at m.parties q).step ≡ true → step_call m q ≡ stepped m q → CallOk m b (step_for q)
  unfolding reply_to after_call book_after agrees stepped undamaged
  performed_ok q l h e =
      let k = kept m b i q l h in
      record {
        right = ap (λ (c : Called StepReply). agrees_with b q (party_at m.parties q).step c.answer) e ∙ k.right;
        sound = ap (λ (c : Called StepReply). undamaged (to_step c.answer)) e ∙ allowed_undamaged _ k.allowed;
        inv = subst (λ (c : Called StepReply). Inv c.memory (after_reply b q (party_at m.parties q).step c.answer)) (sym e) (k.inv _ (step_row q l h _ refl));
      }

  step_ok : (q : ℕ) → Ord q m.root.parties → CallOk m b (step_for q)
  unfolding is_damage
  step_ok q (ge h t) = refused_ok q Refusal.Party refl ((step_order m q).party (within_limits_lem m.root i.limits) (lengths_fit_ok m b i) h)
  step_ok q (lt h t) = go (i.parties_ok q h)
    where
      go : PartyOk (scene_of m i.ghost b) q (party_at m.parties q) → CallOk m b (step_for q)
      go (resting e _ _ _) =
          refused_ok q Refusal.Idle refl ((step_order m q).idle (within_limits_lem m.root i.limits) (lengths_fit_ok m b i) h (rw e refl))
      go (working e k f) =
          performed_ok q h k.step_fits
          ((step_order m q).none (within_limits_lem m.root i.limits) (lengths_fit_ok m b i) h (operation_some e.operation (party_at m.parties q).operation k.same_operation)
          (record_sound_lem m.root (party_at m.parties q) (root_sound_ok m b i) (party_sound_ok m b i q h (party_at m.parties q) e k)) i.row_ok.sound)

  -- ---- Begin

  -- A begin refused for its party's number, or because the party is busy.
  begin_refused_ok_ok : (q : ℕ) (o : Operation) (k : ℕ) (c : Refusal) → begin_call m q o k ≡ called (Err c) m → CallOk m b (begin_for q o k)
  unfolding reply_to after_call book_after after_begin agrees undamaged
  begin_refused_ok_ok q o k c e = record {
    right = refl;
    sound = refl;
    inv = subst (λ (c : Called CallReply). Inv c.memory (after_begin b q o k c.answer)) (sym e) i;
  }

  -- The operation is entered in the record and in the book.
  begun_ok : (q : ℕ) (o : Operation) (k : ℕ) → q < m.root.parties → party_at m.parties q ≡ idle → NoPages (scene_of m i.ghost b) q
      → begin_call m q o k ≡ called (Ok tt) (with_begun m q o k) → CallOk m b (begin_for q o k)
  unfolding reply_to after_call book_after after_begin agrees undamaged with_begun
  begun_ok q o k l e none h = record {
    right = refl;
    sound = refl;
    inv = subst (λ (c : Called CallReply). Inv c.memory (after_begin b q o k c.answer)) (sym h) (begun_inv m b i q o k l e none);
  }

  begin_ok_ok : (q : ℕ) (o : Operation) (k : ℕ) → Ord q m.root.parties → CallOk m b (begin_for q o k)
  begin_ok_ok q o k (ge h t) = begin_refused_ok_ok q o k Refusal.Party ((begin_order m q o k).party (within_limits_lem m.root i.limits) (lengths_fit_ok m b i) h)
  begin_ok_ok q o k (lt h t) = go (i.parties_ok q h)
    where
      go : PartyOk (scene_of m i.ghost b) q (party_at m.parties q) → CallOk m b (begin_for q o k)
      go (working e c f) =
          begin_refused_ok_ok q o k Refusal.Busy
          ((begin_order m q o k).busy (within_limits_lem m.root i.limits) (lengths_fit_ok m b i) h (operation_some e.operation (party_at m.parties q).operation c.same_operation))
      go (resting e _ none _) = begun_ok q o k h e none ((begin_order m q o k).none (within_limits_lem m.root i.limits) (lengths_fit_ok m b i) h (rw e refl))

  -- ---- Withdraw

  -- A withdraw refused for its party's number, because the party is idle, or because the decisive step is taken.
  withdraw_refused_ok_ok : (q : ℕ) (c : Refusal) → is_damage c ≡ false → withdraw_call m q ≡ called (Err c) m → CallOk m b (withdraw_for q)
  unfolding reply_to after_call book_after after_withdraw agrees undamaged
  withdraw_refused_ok_ok q c h e = record {
    right = refl;
    sound = ap (λ (c : Called CallReply). undamaged (to_withdraw c.answer)) e ∙ ap not h;
    inv = subst (λ (c : Called CallReply). Inv c.memory (after_withdraw b q c.answer)) (sym e) i;
  }

  -- The operation is taken back, in the record and in the book.
  withdrawn_ok : (q : ℕ) → WithdrawKept m b q → withdraw_call m q ≡ withdrawn_from m q → CallOk m b (withdraw_for q)
  unfolding reply_to after_call book_after after_withdraw agrees undamaged withdrawn_from row_left
  withdrawn_ok q k e =
      let now : withdraw_call m q ≡ called (Ok tt) (with_waiting (row_without q m.waiting) (after_step m (withdrawn (view_of m q)).after))
      = e ∙ ap (λ (a : CallReply). called a (with_waiting (row_left q m.waiting a) (after_step m (withdrawn (view_of m q)).after))) k.accepted in
      record {
        right = refl;
        sound = ap (λ (c : Called CallReply). undamaged (to_withdraw c.answer)) now;
        inv = subst (λ (c : Called CallReply). Inv c.memory (after_withdraw b q c.answer)) (sym now) (k.inv _ (row_moves m.root _ m.parties _ m.waiting q i.row_ok k.asks));
      }

  withdraw_ok_ok : (q : ℕ) → Ord q m.root.parties → CallOk m b (withdraw_for q)
  unfolding is_damage
  withdraw_ok_ok q (ge h t) = withdraw_refused_ok_ok q Refusal.Party refl ((withdraw_order m q).party (within_limits_lem m.root i.limits) (lengths_fit_ok m b i) h)
  withdraw_ok_ok q (lt h t) = go (i.parties_ok q h)
    where
      go : PartyOk (scene_of m i.ghost b) q (party_at m.parties q) → CallOk m b (withdraw_for q)
      go (resting e _ _ _) = withdraw_refused_ok_ok q Refusal.Idle refl ((withdraw_order m q).idle (within_limits_lem m.root i.limits) (lengths_fit_ok m b i) h (rw e refl))
      go (working e k f) = by (tell (is_decided (party_at m.parties q)))
        where
          some_operation : (party_at m.parties q).operation ≢ 0
          some_operation = operation_some e.operation (party_at m.parties q).operation k.same_operation

          by : Told (is_decided (party_at m.parties q)) → CallOk m b (withdraw_for q)
          by (holds d) = withdraw_refused_ok_ok q Refusal.Decided refl ((withdraw_order m q).decided (within_limits_lem m.root i.limits) (lengths_fit_ok m b i) h some_operation d)
          by (fails d) =
              withdrawn_ok q (withdraw_kept (record { inv = i; in_row = h; is_at = refl; entered = e; busy = k; facts = f }) d)
              ((withdraw_order m q).none (within_limits_lem m.root i.limits) (lengths_fit_ok m b i) h some_operation d
              (record_sound_lem m.root (party_at m.parties q) (root_sound_ok m b i) (party_sound_ok m b i q h (party_at m.parties q) e k)) i.row_ok.sound)

  pub call_kept : (c : Call) → CallOk m b c
  call_kept (begin_for q o k) = begin_ok_ok q o k (ord q m.root.parties)
  call_kept (step_for q) = step_ok q (ord q m.root.parties)
  call_kept (withdraw_for q) = withdraw_ok_ok q (ord q m.root.parties)

-- ---- A list of calls

pub run_answers : StepsKept → (m : Memory) (b : Book) → Inv m b → (cs : List Call) → book_agrees b (events m cs) ≡ true
unfolding book_agrees events event_of
run_answers kept m b i [] = refl
run_answers kept m b i (c ∷ cs) =
    let k = call_kept kept m b i c in
    both-and k.right (run_answers kept (after_call m c) (book_after b c (party_at m.parties (caller_of c)).step (reply_to m c)) k.inv cs)

pub run_inv : StepsKept → (m : Memory) (b : Book) → Inv m b → (cs : List Call) → Inv (final_memory m cs) (book_at_end b (events m cs))
unfolding final_memory book_at_end events event_of
run_inv kept m b i [] = i
run_inv kept m b i (c ∷ cs) =
    let k = call_kept kept m b i c in
    run_inv kept (after_call m c) (book_after b c (party_at m.parties (caller_of c)).step (reply_to m c)) k.inv cs
