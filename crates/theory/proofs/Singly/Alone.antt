-- One party under way, alone: its requests are granted, its steps are not refused, and what is known of the file goes from step to step.
-- Main statements: Alone (nobody else is under way, and the live file is f); live-alone, file_alone, records_alone; Performed and performed (a step that is not refused), guarded_open,
-- checked_open; none_claimed, granted (a lock that the party does not hold itself is granted); many_alone,
-- written_linked (the overflow pages of live chains); alone_after, alone_moves and alone_on (the next step); Ends (a run that ends as the yardstick does), goes_on, comes_to_end.
use mathlib.Core.Path.{◌≡◌, refl, sym, ap, ◌∙◌, subst}
use mathlib.Core.Logic.{◌≢◌, ◌⊎◌, inl, inr}
use mathlib.Core.Bool.{Bool, true, false, not, ◌||◌}
use mathlib.Core.List.{List, [], ◌∷◌}
use mathlib.Core.Option.{Option, none, some}
use Prim.Native.Nat.{ℕ, zero, suc, ◌+◌, ◌<◌}
use native.Mathlib.Omega.{arith}
use lib.ListN.{length, set, drop}
use lib.Dec.{eqb, leb}
use Rattle.std.specs.Prelude.{Ok}
use Rattle.model.proofs.Laws.WaitingRow.{RowOk, alone_before_all, idle-asks-none}
use Rattle.model.specs.WaitingRow.{row_after}
use Rattle.model.specs.declared.Root.{Root}
use Rattle.model.specs.declared.Party.{Party}
use Rattle.model.specs.declared.Mode.{Mode}
use Rattle.model.specs.declared.OperationAnswer.{OperationAnswer}
use Rattle.model.specs.declared.Restructuring.{Restructuring}
use Rattle.model.specs.declared.StepAnswer.{StepAnswer}
use Rattle.model.specs.Sizes.{page_words, lock_words, within}
use Rattle.model.specs.Records.{idle, with_free_list}
use Rattle.model.specs.Answers.{refusal_number, StepReply, cause_number}
use Rattle.model.specs.LockWords.{Claim}
use Rattle.model.specs.Pages.{page_of, with_page, primary_page, scratch_page}
use Rattle.model.specs.Filling.{pages_for}
use Rattle.model.specs.Chains.{Checked, damaged, sound}
use Rattle.model.specs.Outcome.{View, Outcome, moved, guarded, checked, with_party}
use Rattle.model.specs.Endings.{done}
use Rattle.model.specs.LockRequests.{is_granted, with_hold, request, held_all, given_up, release}
use Rattle.model.specs.Memory.{Memory, party_at, view_of}
use Rattle.model.specs.Calls.{Called, called, step_call, stepped, called_by}
use Rattle.model.specs.Runs.{Reply, to_step, reply_to, after_call, event_of, events, final_memory}
use Rattle.model.specs.declared.Entry.{Entry}
use Rattle.model.specs.Entries.{setting_in}
use Rattle.model.specs.Book.{Book, Entered, with_entry, note_for, note_step, note_at_six, noted_if_find, after_reply, agrees_with, is_note, is_note_of}
use Rattle.model.specs.Ready.{viewing}
use Rattle.theory.specs.Sequential.{File, Finished, finishes, records_at, file_of}
use Rattle.theory.proofs.Singly.StepWords.{pages_in_use}
use Rattle.theory.specs.Singly.{steps_of, replies_of, moves_then, done_by}
use Rattle.model.specs.Steps.Dispatch.{step_of}
use Rattle.model.proofs.Laws.Lists.{All, Told, holds, fails, tell, Cmp, same, diff, cmp, cond_ind, and_both, both-and, left_or, or_either, or_neither, not-both, not-true, eqb-true, eqb-diff, leb-true, le-leb}
use Rattle.model.proofs.Invariant.Ghost.{Extent, root_extent, in_chain, size}
use Rattle.model.proofs.Laws.Structure.{Linked}
use Rattle.model.proofs.Laws.Filling.{IsOverflow, overflow_linked}
use Rattle.model.proofs.Laws.Pages.{length_page_of, page_other}
use Rattle.model.proofs.Laws.Reading.{held_overflow}
use Rattle.model.specs.Claims.{claims}
use Rattle.model.proofs.Invariant.Claims.{is_claimed, claimed}
use Rattle.model.proofs.Invariant.LockMoves.{permits-true}
use Rattle.model.proofs.Invariant.Statement.{restructures, live_for, Inv, scene_of}
use Rattle.model.proofs.Invariant.Frame.{SameLimits, claims_at_lem}
use Rattle.model.proofs.Effects.Kept.{Kept, row_same, row_other}
use Rattle.model.proofs.Invariant.Facts.{At, facts_at_lem, still_noted}
use Rattle.model.proofs.Effects.OwnRecord.{same_limits}
use Rattle.model.proofs.Effects.ScratchPage.{has_scratch}
use Rattle.model.proofs.Effects.GiveUps.{given_up_rest}
use Rattle.model.proofs.Theorems.RefusalOrder.{step_order}
use Rattle.model.proofs.Theorems.Calls.{StepsKept, within_limits_lem, operation_some, record_sound_lem, lengths_fit_ok, root_sound_ok, party_sound_ok, step_row}
use Rattle.model.proofs.Laws.Answers.{answers_same}
use Rattle.theory.proofs.Singly.Files.{extent_of, Holding, same_file}
use Rattle.theory.proofs.Singly.AtRest.{live_file, live_holding, live_records, live_pages, file_read, Whole}

-- ---- One party alone

-- Party q has the record p, nobody else is under way; f is the live file; out pages are neither free nor in the file.
pub record Alone (m : Memory) (b : Book) (q : ℕ) (p : Party) (f : File) (out : ℕ) : Type 0 where
  pub inv : Inv m b
  pub in_row : q < m.root.parties
  pub mine : party_at m.parties q ≡ p
  pub others : (j : ℕ) → j ≢ q → party_at m.parties j ≡ idle
  pub extent_is : extent_of f ≡ live_for m.root p
  pub holding : Holding m.root.originals f b.contents
  pub whole : m.root.free + out + pages_in_use m.root.capacity f.chains ≡ m.root.overflow

-- The memory after a step of party q: root, record, lock words and page words. The book after a step of the record p that goes on.
abbrev pub left_at : Memory → ℕ → Root → Party → List ℕ → List ℕ → Memory
left_at m q t x ls ps = record { root = t; parties = set m.parties q x; locks = ls; pages = ps; waiting = row_after q m.waiting (Ok StepAnswer.Moved) }

abbrev pub book_on : Book → ℕ → Party → Book
book_on b q p = note_for b q (b.entries q) p.step

-- A party that restructures nothing leaves the live file where the root says.
live_rests : (r : Root) (p : Party) → restructures p ≡ false → live_for r p ≡ root_extent r
unfolding restructures live_for
live_rests r p h =
    cond_ind (λ (e : Extent). e ≡ root_extent r) (within 19 20 p.step || eqb p.step 28) _ _ (λ t. absurd (far (or_either _ _ t)))
    (λ _. cond_ind (λ (e : Extent). e ≡ root_extent r) (eqb p.step 21) _ _ (λ t. absurd (not-both _ (at 21 (eqb-true p.step 21 t) refl) h)) (λ _. refl))
  where
    at : (k : ℕ) → p.step ≡ k → (within 16 22 k || within 24 30 k) ≡ true → (within 16 22 p.step || within 24 30 p.step) ≡ true
    at k e t = rw e t

    far : (within 19 20 p.step ≡ true) ⊎ (eqb p.step 28 ≡ true) → ⊥
    far (inl t) =
        let b = and_both (leb 19 p.step) (leb p.step 20) t in
        let low = leb-true 19 p.step b.0 in
        let high = leb-true p.step 20 b.1 in
        not-both _ (left_or (within 24 30 p.step) (both-and (le-leb 16 p.step (omega arith)) (le-leb p.step 22 (omega arith)))) h
    far (inr t) = not-both _ (at 28 (eqb-true p.step 28 t) refl) h

idle_rests : restructures idle ≡ false
unfolding restructures
idle_rests = refl

-- A record that claims no lock claims none of any word.
pub none_claimed : (r : Root) (p : Party) → claims r p ≡ [] → (w : ℕ) (o : Mode) → is_claimed (claims r p) w o ≡ false
unfolding is_claimed
none_claimed r p e w o = rw e refl

-- How far the live file extends goes by the one record.
pub live-by_one : (m : Memory) (b : Book) (i : Inv m b) (q : ℕ) → ((j : ℕ) → j ≢ q → party_at m.parties j ≡ idle) → i.ghost.live ≡ live_for m.root (party_at m.parties q)
live-by_one m b i q others = go (tell (restructures (party_at m.parties q)))
  where
    rests : restructures (party_at m.parties q) ≡ false → (j : ℕ) → Cmp j q → restructures (party_at m.parties j) ≡ false
    rests h j (same s) = rw s h
    rests h j (diff d) = rw (others j d) idle_rests

    go : Told (restructures (party_at m.parties q)) → i.ghost.live ≡ live_for m.root (party_at m.parties q)
    go (holds h) = i.extents_ok.live-by q h
    go (fails h) = (i.extents_ok.at_rest_lem (λ j. rests h j (cmp j q))).0 ∙ sym (live_rests m.root (party_at m.parties q) h)

module _ (m : Memory) (b : Book) (q : ℕ) (p : Party) (f : File) (out : ℕ) (a : Alone m b q p f out) where
  pub live-alone : a.inv.ghost.live ≡ extent_of f
  live-alone = live-by_one m b a.inv q a.others ∙ ap (live_for m.root) a.mine ∙ sym a.extent_is

  pub file_alone : live_file m.root.originals a.inv.ghost ≡ f
  unfolding live_file
  file_alone = same_file m.root.originals (live_file m.root.originals a.inv.ghost) f _ (live_holding m b a.inv) a.holding live-alone

  pub records_alone : (c : ℕ) → c < size m.root.originals a.inv.ghost.live → a.inv.ghost.records c ≡ records_at f c
  records_alone c l = sym (live_records m b a.inv c l) ∙ ap (λ (x : File). records_at x c) file_alone

  -- The party at a step number, with its facts.
  pub at_alone : (k : ℕ) → p.step ≡ suc k → At (suc k) (scene_of m a.inv.ghost b) q p
  at_alone k e =
      subst (λ (x : Party). x.step ≡ suc k → At (suc k) (scene_of m a.inv.ghost b) q x) a.mine
      (λ h. facts_at_lem k (scene_of m a.inv.ghost b) q (party_at m.parties q) h (a.inv.parties_ok q a.in_row)) e

  row_long : q < length m.parties
  row_long = omega (arith, a.inv.parties_many, a.in_row)

  -- ---- Locks

  -- A lock of which the party holds none is granted: nobody else holds any.
  pub granted : (c : Claim) → c.word < lock_words m.root → ((o : Mode) → is_claimed (claims m.root p) c.word o ≡ false)
      → is_granted (viewing m.root p q m.locks m.pages) c ≡ true
  unfolding is_granted
  granted c fits mine_none = both-and (permits-true (a.inv.locks_ok.each c.word fits) c.mode (λ j o h. absurd (not-both _ h (nobody j o (cmp j q))))) refl
    where
      idle-claims : (o : Mode) → is_claimed (claims m.root idle) c.word o ≡ false
      idle-claims o = none_claimed m.root idle (claims_at_lem m.root idle 0 refl) c.word o

      nobody : (j : ℕ) (o : Mode) → Cmp j q → claimed m.root m.parties c.word j o ≡ false
      nobody j o (same s) = rw (s, a.mine) (mine_none o)
      nobody j o (diff d) = rw (a.others j d) (idle-claims o)

-- ---- A step performed

-- Party q's step has this outcome, and what is owed of it holds.
pub record Performed (m : Memory) (b : Book) (q : ℕ) (o : Outcome) : Type 0 where
  pub call : step_call m q ≡ called_by m q o
  pub kept : Kept m b q o
  pub row : RowOk o.after.root (set m.parties o.after.number o.after.party) (row_after q m.waiting o.answer)

pub performs-as : {m : Memory} {b : Book} {q : ℕ} {o u : Outcome} → o ≡ u → Performed m b q o → Performed m b q u
performs-as {m} {b} {q} e x = subst (Performed m b q) e x

pub performed : StepsKept → (m : Memory) (b : Book) (q : ℕ) (p : Party) (f : File) (out : ℕ) → Alone m b q p f out → (k : ℕ) (g : View → Outcome) → p.step ≡ suc k → step_of (suc k) ≡ g
    → Performed m b q (g (viewing m.root p q m.locks m.pages))
unfolding stepped
performed kept m b q p f out a k g e s =
    performs-as outcome-is
    (record {
      call = (step_order m q).none (within_limits_lem m.root a.inv.limits) (lengths_fit_ok m b a.inv) a.in_row
          (rw a.mine (operation_some x.entered.operation p.operation x.busy.same_operation))
          (rw a.mine (record_sound_lem m.root p (root_sound_ok m b a.inv) (party_sound_ok m b a.inv q a.in_row p x.entered x.busy))) a.inv.row_ok.sound;
      kept = kept m b a.inv q a.in_row (rw a.mine x.busy.step_fits);
      row = step_row kept m b a.inv q a.in_row (rw a.mine x.busy.step_fits) _ refl;
    })
  where
    -- It stands behind nobody.
    view_is : view_of m q ≡ viewing m.root p q m.locks m.pages
    view_is =
        ap (λ (u : Party). record { root = m.root; party = u; number = q; locks = m.locks; pages = m.pages; behind = (view_of m q).behind }) a.mine
        ∙ ap (λ (t : Bool). record { root = m.root; party = p; number = q; locks = m.locks; pages = m.pages; behind = t })
        (alone_before_all m.root m.parties m.waiting q a.inv.row_ok (λ j n. idle-asks-none m.root (party_at m.parties j) (a.others j n)))

    x : At (suc k) (scene_of m a.inv.ghost b) q p
    x = at_alone m b q p f out a k e

    outcome-is : step_of (party_at m.parties q).step (view_of m q) ≡ g (viewing m.root p q m.locks m.pages)
    outcome-is =
        ap (step_of (party_at m.parties q).step) view_is ∙ ap (λ (u : Party). step_of u.step (viewing m.root p q m.locks m.pages)) a.mine
        ∙ (ap (λ (n : ℕ). step_of n (viewing m.root p q m.locks m.pages)) e ∙ ap (λ (h : View → Outcome). h (viewing m.root p q m.locks m.pages)) s)

-- A step that is not refused passed its tests.
pub guarded_open : (v : View) (t : Bool) (o : Outcome) → refusal_number (guarded v t o).answer ≡ 0 → guarded v t o ≡ o
unfolding refusal_number cause_number
guarded_open v true o h = refl
guarded_open v false o h = absurd (omega (arith, h))

pub checked_open : {A : Type 0} (v : View) (c : Checked A) (g : A → Outcome) → refusal_number (checked v c g).answer ≡ 0 → (x : A) × (c ≡ sound x)
unfolding refusal_number cause_number
checked_open v damaged g h = absurd (omega (arith, h))
checked_open v (sound x) g h = (x, refl)

-- Pages that stand linked stay so where no overflow page is written.
pub linked_off : (r : Root) (ps qs xs : List ℕ) → ((x : ℕ) → IsOverflow r x → page_of qs x ≡ page_of ps x) → All (IsOverflow r) xs → Linked r ps xs → Linked r qs xs
linked_off r ps qs [] f a h = tt
linked_off r ps qs (x ∷ xs) f a h = (rw (f x a.0) h.0, rw (f x a.0) h.1, linked_off r ps qs xs f a.1 h.2)

-- ---- Pages

-- A root whose free list alone changes keeps its sizes.
pub limits_free : (r : Root) (h n : ℕ) → SameLimits r (with_free_list h n r)
limits_free r h n = record { originals= = refl; capacity= = refl; primaries= = refl; overflow= = refl; parties= = refl }

module _ (m : Memory) (b : Book) (q : ℕ) (p : Party) (f : File) (out : ℕ) (a : Alone m b q p f out) where
  pub scratch_long : length (page_of m.pages (scratch_page m.root q)) ≡ page_words
  scratch_long = length_page_of (has_scratch m b a.inv q a.in_row)

  -- A live chain has as many overflow pages as its records in the file need.
  pub many_alone : (d : ℕ) → d < size m.root.originals a.inv.ghost.live → length (a.inv.ghost.held (in_chain d)) ≡ pages_for m.root.capacity (records_at f d)
  many_alone d l = live_pages m b a.inv d l ∙ ap (pages_for m.root.capacity) (records_alone m b q p f out a d l)

  -- The primary page of chain c is written with the words w: the overflow pages of every live chain stand linked as before.
  module _ (c : ℕ) (w : List ℕ) (fits : c < m.root.primaries) (long : length w ≡ page_words) where
    pub written_off : (x : ℕ) → x ≢ c → page_of (with_page m.pages (primary_page c) w) x ≡ page_of m.pages x
    written_off x d = page_other m.pages c w (record { fits = omega (arith, a.inv.pages_many) }) long x d

    pub written_linked : (d : ℕ) → d < size m.root.originals a.inv.ghost.live → Linked m.root (with_page m.pages (primary_page c) w) (a.inv.ghost.held (in_chain d))
    written_linked d l =
        let xs = a.inv.ghost.held (in_chain d) in
        let over = held_overflow m.root a.inv.pages_ok.owned (in_chain d) in
        linked_off m.root m.pages (with_page m.pages (primary_page c) w) xs (λ x o. written_off x (omega arith)) over
        (overflow_linked m.root m.pages xs (drop m.root.capacity (a.inv.ghost.records d)) over (a.inv.pages_ok.chain d l).overflow)

-- ---- The next step

six_kept : (b : Book) (q : ℕ) (e : Entered) (x : Option OperationAnswer) → (noted_if_find b q e x).contents ≡ b.contents
unfolding noted_if_find
six_kept b q e none = refl
six_kept b q e (some x) = refl

-- Only step 11 changes the book's map.
pub contents_kept : (b : Book) (q : ℕ) (x : Option Entered) (n : ℕ) → n ≢ 11 → (note_for b q x n).contents ≡ b.contents
unfolding note_for note_step
contents_kept b q none n d = refl
contents_kept b q (some e) n d =
    rw (eqb-diff n 11 d)
    (cond_ind (λ (c : Book). c.contents ≡ b.contents) (eqb n 6) _ _ (λ _. six_kept b q e (note_at_six e.operation (setting_in e.key b.contents)))
    (λ _. cond_ind (λ (c : Book). c.contents ≡ b.contents) (eqb n 10) _ _ (λ _. refl) (λ _. refl)))

module _ (m : Memory) (b : Book) (q : ℕ) (p : Party) (f : File) (out : ℕ) (a : Alone m b q p f out) where
  others_then : (x : Party) (j : ℕ) → j ≢ q → party_at (set m.parties q x) j ≡ idle
  others_then x j d = row_other m.parties q j x d ∙ a.others j d

  mine_then : (x : Party) → party_at (set m.parties q x) q ≡ x
  mine_then x = row_same m.parties q x (row_long m b q p f out a)

  -- From this memory to one with root t, record x, locks ls and pages ps, with the live file g and the pages out then.
  module _ (t : Root) (x : Party) (ls ps : List ℕ) (g : File) (out_then : ℕ) (z : SameLimits m.root t) where
    pub alone_after : (c : Book) → Inv (left_at m q t x ls ps) c → extent_of g ≡ live_for t x
        → Holding m.root.originals g c.contents → t.free + out_then + pages_in_use m.root.capacity g.chains ≡ m.root.overflow
        → Alone (left_at m q t x ls ps) c q x g out_then
    alone_after c i e h w = record {
      inv = i;
      in_row = rw z.parties= a.in_row;
      mine = mine_then x;
      others = others_then x;
      extent_is = e;
      holding = rw z.originals= h;
      whole = rw (z.capacity=, z.overflow=) w;
    }

    -- The same after a step that goes on; the book's map is as it was.
    pub alone_moves : Performed m b q (moved (viewing t x q ls ps)) → p.step ≢ 11 → extent_of g ≡ live_for t x
        → Holding m.root.originals g b.contents → t.free + out_then + pages_in_use m.root.capacity g.chains ≡ m.root.overflow
        → Alone (left_at m q t x ls ps) (book_on b q p) q x g out_then
    unfolding after_reply
    alone_moves k d e h w =
        alone_after (book_on b q p)
        (subst (λ (y : Party). Inv (left_at m q t x ls ps) (book_on b q y)) a.mine (k.kept.inv _ k.row)) e
        (subst (λ (y : List Entry). Holding m.root.originals g y) (sym (contents_kept b q (b.entries q) p.step d)) h) w

  -- The same where the root stays too, and with it the file.
  pub alone_on : (x : Party) (ls ps : List ℕ) → Performed m b q (moved (viewing m.root x q ls ps)) → p.step ≢ 11 → live_for m.root x ≡ live_for m.root p
      → Alone (left_at m q m.root x ls ps) (book_on b q p) q x f out
  alone_on x ls ps k d e = alone_moves m.root x ls ps f out (same_limits m.root) k d (a.extent_is ∙ sym e) a.holding a.whole

-- ---- A run that ends

-- The memory after n moves of party q and one step more.
abbrev pub left_by : Memory → ℕ → ℕ → Memory
left_by m q n = final_memory m (steps_of q (suc n))

-- Party q, run alone from memory m, never waits, ends with this answer and restructuring and leaves this file; then every record is the zero record.
pub record Ends (m : Memory) (q : ℕ) (x : Finished) : Type 0 where
  pub moves : ℕ
  pub replies : replies_of (events m (steps_of q (suc moves))) ≡ moves_then moves (done_by x)
  pub leaves : file_of (left_by m q moves).root (left_by m q moves) ≡ x.file
  pub rests : (j : ℕ) → party_at (left_by m q moves).parties j ≡ idle
  pub whole : Whole (left_by m q moves)

-- One step more at the start.
pub goes_on : (m t : Memory) (q : ℕ) (x : Finished) → step_call m q ≡ called (Ok StepAnswer.Moved) t → Ends t q x → Ends m q x
unfolding steps_of events event_of reply_to after_call replies_of moves_then final_memory
goes_on m t q x e h =
    let more = steps_of q (suc h.moves) in
    record {
      moves = suc h.moves;
      replies = ap (λ (c : Called StepReply). to_step c.answer ∷ replies_of (events c.memory more)) e ∙ ap (λ (l : List Reply). to_step (Ok StepAnswer.Moved) ∷ l) h.replies;
      leaves = ap (λ (c : Called StepReply). file_of (final_memory c.memory more).root (final_memory c.memory more)) e ∙ h.leaves;
      rests = λ j. ap (λ (c : Called StepReply). party_at (final_memory c.memory more).parties j) e ∙ h.rests j;
      whole = subst (λ (c : Called StepReply). Whole (final_memory c.memory more)) (sym e) h.whole;
    }

-- The last step.
last : (m t : Memory) (q : ℕ) (x : Finished) → step_call m q ≡ called (done_by x) t → file_of t.root t ≡ x.file → ((j : ℕ) → party_at t.parties j ≡ idle) → Whole t → Ends m q x
unfolding steps_of events event_of reply_to after_call replies_of moves_then final_memory
last m t q x e l r w = record {
  moves = zero;
  replies = ap (λ (c : Called StepReply). to_step c.answer ∷ []) e;
  leaves = ap (λ (c : Called StepReply). file_of c.memory.root c.memory) e ∙ l;
  rests = λ j. ap (λ (c : Called StepReply). party_at c.memory.parties j) e ∙ r j;
  whole = subst (λ (c : Called StepReply). Whole c.memory) (sym e) w;
}

-- Where everybody is idle the file read is the one that holds the book's map.
rests_with : (m : Memory) (b : Book) (f : File) → Inv m b → ((q : ℕ) → party_at m.parties q ≡ idle) → extent_of f ≡ root_extent m.root
    → Holding m.root.originals f b.contents → file_of m.root m ≡ f
unfolding live_file
rests_with m b f i idles e h =
    file_read m b i live ∙ same_file m.root.originals (live_file m.root.originals i.ghost) f _ (live_holding m b i) h (live ∙ sym e)
  where
    live : i.ghost.live ≡ root_extent m.root
    live = (i.extents_ok.at_rest_lem (λ q. rw (idles q) idle_rests)).0

module _ (m : Memory) (b : Book) (q : ℕ) (p : Party) (f : File) (out : ℕ) (a : Alone m b q p f out) where
  -- A step that ends the operation, with the root t; the file is g.
  pub comes_to_end : (t : Root) (x : Party) (ls ps : List ℕ) (g : File) (y : OperationAnswer) (s : Restructuring) → SameLimits m.root t
      → Performed m b q (done y s (viewing t x q ls ps)) → p.step ≢ 11 → extent_of g ≡ root_extent t → Holding m.root.originals g b.contents
      → t.free + pages_in_use m.root.capacity g.chains ≡ m.root.overflow → Ends m q (finishes y s g)
  unfolding after_reply
  comes_to_end t x ls ps g y s z k d e h w =
      last m m_then q (finishes y s g) k.call file_then (λ j. idles j (cmp j q))
      (record {
        all_pages = ap (λ (n : ℕ). t.free + pages_in_use n (file_of t m_then).chains) z.capacity= ∙ ap (λ (l : File). t.free + pages_in_use m.root.capacity l.chains) file_then ∙ w
            ∙ sym z.overflow=;
      })
    where
      m_then : Memory
      m_then = (called_by m q (done y s (viewing t x q ls ps))).memory

      b_then : Book
      b_then = with_entry (book_on b q p) q none

      inv_then : Inv m_then b_then
      inv_then = subst (λ (u : Party). Inv m_then (with_entry (book_on b q u) q none)) a.mine (k.kept.inv _ k.row)

      idles : (j : ℕ) → Cmp j q → party_at (set m.parties q idle) j ≡ idle
      idles j (same u) = rw u (mine_then m b q p f out a idle)
      idles j (diff u) = others_then m b q p f out a idle j u

      file_then : file_of t m_then ≡ g
      file_then =
          rests_with m_then b_then g inv_then (λ j. idles j (cmp j q)) e
          (rw z.originals= (subst (λ (u : List Entry). Holding m.root.originals g u) (sym (contents_kept b q (b.entries q) p.step d)) h))

-- ---- What a step that ends answers

-- It is the book's note.
pub answers_note : (m : Memory) (b : Book) (q : ℕ) (y : OperationAnswer) (s : Restructuring) (v : View) (e : Entered) (n : OperationAnswer) → Performed m b q (done y s v)
    → b.entries q ≡ some e → e.note ≡ some n → (party_at m.parties q).step ≢ 6 → (party_at m.parties q).step ≢ 10 → (party_at m.parties q).step ≢ 11 → y ≡ n
unfolding agrees_with is_note_of is_note
answers_note m b q y s v e n k h w x6 x10 x11 =
    answers_same y n (rw (still_noted b q (b.entries q) (party_at m.parties q).step x6 x10 x11, h, w) at k.kept.right)

-- ---- Steps at which the live file extends as the root says

-- Every number but 19 to 21 and 28.
unfoldable pub plain : ℕ → Bool
plain n = not (within 19 20 n || eqb n 28 || eqb n 21)

pub live-plain : (r : Root) (p : Party) (n : ℕ) → p.step ≡ n → plain n ≡ true → live_for r p ≡ root_extent r
unfolding live_for plain
live-plain r p n e h =
    let x = or_neither (within 19 20 n || eqb n 28) (eqb n 21) (not-true _ h) in
    rw (e, x.0, x.1) refl

module _ (m : Memory) (b : Book) (q : ℕ) (p : Party) (f : File) (out : ℕ) (a : Alone m b q p f out) where
  pub root_extent_ok : (n : ℕ) → p.step ≡ n → plain n ≡ true → extent_of f ≡ root_extent m.root
  root_extent_ok n e h = a.extent_is ∙ live-plain m.root p n e h

  -- A step that goes on from one such number to another, and leaves the root.
  pub moves_on : (k l : ℕ) (x : Party) (ls ps : List ℕ) (y : Finished) → p.step ≡ k → x.step ≡ l → plain k ≡ true → plain l ≡ true → k ≢ 11
      → Performed m b q (moved (viewing m.root x q ls ps))
      → (Alone (left_at m q m.root x ls ps) (book_on b q p) q x f out
      → Ends (left_at m q m.root x ls ps) q y) → Ends m q y
  moves_on k l x ls ps y e s h g d w next =
      goes_on m _ q y w.call (next (alone_on m b q p f out a x ls ps w (λ z. d (sym e ∙ z)) (live-plain m.root x l s g ∙ sym (live-plain m.root p k e h))))

  -- One that ends the operation, with nothing out.
  pub ends_there : (k : ℕ) (x : Party) (ls ps : List ℕ) (y : OperationAnswer) (s : Restructuring) → p.step ≡ k → plain k ≡ true → k ≢ 11 → out ≡ 0
      → Performed m b q (done y s (viewing m.root x q ls ps)) → Ends m q (finishes y s f)
  ends_there k x ls ps y s e h d none_out w =
      comes_to_end m b q p f out a m.root x ls ps f y s (same_limits m.root) w (λ z. d (sym e ∙ z))
      (root_extent_ok k e h) a.holding (omega (arith, a.whole))

-- ---- Requests and releases

module _ (kept : StepsKept) (m : Memory) (b : Book) (q : ℕ) (p : Party) (f : File) (out : ℕ) (a : Alone m b q p f out) (y : Finished) where
  abbrev lent : View
  lent = viewing m.root p q m.locks m.pages

  -- A request of a lock of which the party holds none.
  pub requests_on : (k l : ℕ) (g : View → Outcome) (c : Claim) (x : Party) → p.step ≡ suc k → step_of (suc k) ≡ g
      → g (viewing m.root p q m.locks m.pages) ≡ request (viewing m.root p q m.locks m.pages) c x → x.step ≡ l
      → plain (suc k) ≡ true → plain l ≡ true → suc k ≢ 11 → c.word < lock_words m.root → ((o : Mode) → is_claimed (claims m.root p) c.word o ≡ false)
      → ((ls : List ℕ) → Alone (left_at m q m.root x ls m.pages) (book_on b q p) q x f out
      → Ends (left_at m q m.root x ls m.pages) q y) → Ends m q y
  unfolding request with_hold
  requests_on k l g c x e s d t h i n fits mine_none next =
      moves_on m b q p f out a (suc k) l x ls_then m.pages y e t h i n
      (performs-as (d ∙ rw (granted m b q p f out a c fits mine_none) refl) (performed kept m b q p f out a k g e s)) (next ls_then)
    where
      ls_then : List ℕ
      ls_then = (with_hold c lent).locks

  -- Locks given up: nothing but lock words and the record changes.
  pub releases_on : (k l : ℕ) (g : View → Outcome) (cs : List Claim) (x : Party) → p.step ≡ suc k → step_of (suc k) ≡ g
      → g (viewing m.root p q m.locks m.pages) ≡ release (viewing m.root p q m.locks m.pages) cs x → x.step ≡ l
      → plain (suc k) ≡ true → plain l ≡ true → suc k ≢ 11
      → ((ls : List ℕ) → Alone (left_at m q m.root x ls m.pages) (book_on b q p) q x f out
      → Ends (left_at m q m.root x ls m.pages) q y) → Ends m q y
  unfolding release
  releases_on k l g cs x e s d t h i n next =
      let w = performs-as d (performed kept m b q p f out a k g e s) in
      let open_then = guarded_open lent (held_all lent cs) (moved (with_party x (given_up cs lent))) w.kept.allowed in
      moves_on m b q p f out a (suc k) l x (given_up cs lent).locks m.pages y e t h i n
      (performs-as (open_then ∙ ap (λ (v : View). moved (with_party x v)) (given_up_rest cs lent)) w) (next (given_up cs lent).locks)
