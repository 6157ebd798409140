-- Progress (demand 3, last part; Ellis's P1, no deadlock): while operations are under way, one of them can move.
-- Who waits wants a lock that somebody holds; the holder can move, or waits for a lock further on in the order of the lock words; and that order ends.
-- Main statements: standing (a party under way can move, or waits for a lock behind all that it holds), climb (from a lock that is not granted to a party that can move);
-- progress_holds, no_deadlock, always_progress.
use mathlib.Core.Path.{◌≡◌, refl, sym, ap, ◌∙◌, subst}
use mathlib.Core.Logic.{◌≢◌, ◌⊎◌, inl, inr}
use mathlib.Core.Bool.{Bool, true, false, cond, not, ◌&&◌, ◌||◌, false≢true}
use mathlib.Core.List.{List, [], ◌∷◌}
use mathlib.Core.Option.{Option, none, some}
use Prim.Native.Nat.{ℕ, zero, suc, ◌+◌, ◌≤◌, ◌<◌}
use native.Mathlib.Omega.{arith}
use lib.ListN.{get_or, get_or-eq_default}
use lib.Dec.{eqb}
use Rattle.std.specs.Prelude.{Ok, Err}
use Rattle.model.proofs.Laws.Answers.{cause_some}
use Rattle.model.specs.declared.Root.{Root}
use Rattle.model.specs.declared.Party.{Party}
use Rattle.model.specs.declared.Mode.{Mode}
use Rattle.model.specs.declared.StepAnswer.{StepAnswer}
use Rattle.model.specs.Sizes.{lock_words}
use Rattle.model.specs.Records.{idle}
use Rattle.model.specs.Answers.{refusal_number, performs, StepReply}
use Rattle.model.specs.LockWords.{Claim, permits}
use Rattle.model.specs.Outcome.{View}
use Rattle.model.specs.LockRequests.{is_granted}
use Rattle.model.specs.Memory.{Memory, party_at, view_of}
use Rattle.model.specs.Calls.{Called, stepped, step_call}
use Rattle.model.specs.Runs.{Call, event_of, after_call}
use Rattle.model.specs.Book.{Book, Entered}
use Rattle.model.specs.Holds.{same_mode}
use Rattle.model.specs.Progress.{is_entered, under_way, can_move, some_below, progresses, book_after_call, always_progresses}
use Rattle.theory.specs.Demands.{Start, start, Reached, book_reached, book_start, sizes_of}
use Rattle.model.specs.Steps.Dispatch.{has_step, step_of, wants}
use Rattle.model.specs.WaitingRow.{requests, is_some, waiters_in, behind_for, stands_behind}
use Rattle.model.proofs.Laws.WaitingRow.{Front, front, row_for, idle-asks-none}
use Rattle.model.proofs.Laws.Lists.{Told, holds, fails, tell, Cmp, same, diff, cmp, Ord, lt, ge, ord, and_both, both-and, or_either, left_or, right_or, not-both, not-true, not-false, and_fails, eqb-true, All}
use Rattle.model.specs.Claims.{claims}
use Rattle.model.proofs.Invariant.Claims.{is_claimed}
use Rattle.model.proofs.Invariant.LockMoves.{permits-true}
use Rattle.model.proofs.Theorems.RefusalOrder.{step_order}
use Rattle.model.proofs.Invariant.Statement.{facts_at, Busy, PartyOk, resting, working, scene_of, Inv}
use Rattle.theory.proofs.Reached.{started_inv}
use Rattle.model.proofs.Theorems.Calls.{StepsKept, within_limits_lem, operation_some, record_sound_lem, lengths_fit_ok, root_sound_ok, party_sound_ok, call_kept, run_inv}
use Rattle.theory.proofs.SizesStay.{call_limits, sizes_stay}
use Rattle.theory.proofs.UnderWay.{inv_fits, entered_under}
use Rattle.model.proofs.Theorems.Answering.{unasked, asked, fairly, step_fair}
use Rattle.theory.proofs.LockOrder.{Higher, WantedHigher, wanted_higher}

-- ---- A search below a bound

pub record Found (n : ℕ) (f : ℕ → Bool) : Type 0 where
  pub number : ℕ
  pub below : number < n
  pub passes : f number ≡ true

pub some_found : (n : ℕ) (f : ℕ → Bool) → some_below n f ≡ true → Found n f
unfolding some_below
some_found zero f e = absurd (false≢true e)
some_found (suc n) f e = go (or_either (f n) (some_below n f) e) (λ h. some_found n f h)
  where
    go : (f n ≡ true) ⊎ (some_below n f ≡ true) → (some_below n f ≡ true → Found n f) → Found (suc n) f
    go (inl h) ih = record { number = n; below = omega arith; passes = h }
    go (inr h) ih = let x = ih h in record { number = x.number; below = omega (arith, x.below); passes = x.passes }

pub found_some : (n : ℕ) (f : ℕ → Bool) (k : ℕ) → k < n → f k ≡ true → some_below n f ≡ true
unfolding some_below
found_some zero f k l h = absurd (omega arith)
found_some (suc n) f k l h = go (cmp k n) (λ s. found_some n f k s h)
  where
    go : Cmp k n → (k < n → some_below n f ≡ true) → (f n || some_below n f) ≡ true
    go (same e) ih = left_or (some_below n f) (ap f (sym e) ∙ h)
    go (diff d) ih = right_or (f n) (ih (omega arith))

-- ---- Words held, in whatever mode

unfoldable pub is_on : List Claim → ℕ → Bool
is_on [] w = false
is_on (c ∷ cs) w = eqb c.word w || is_on cs w

claimed_on : (cs : List Claim) (w : ℕ) (o : Mode) → is_claimed cs w o ≡ true → is_on cs w ≡ true
unfolding is_claimed is_on
claimed_on [] w o e = e
claimed_on (c ∷ cs) w o e = go (or_either (eqb c.word w && same_mode c.mode o) (is_claimed cs w o) e) (λ h. claimed_on cs w o h)
  where
    go : ((eqb c.word w && same_mode c.mode o) ≡ true) ⊎ (is_claimed cs w o ≡ true) → (is_claimed cs w o ≡ true → is_on cs w ≡ true) → (eqb c.word w || is_on cs w) ≡ true
    go (inl h) ih = left_or (is_on cs w) (and_both (eqb c.word w) (same_mode c.mode o) h).0
    go (inr h) ih = right_or (eqb c.word w) (ih h)

-- A word held lies below what all the words held lie below.
on_below : (cs : List Claim) (w z : ℕ) → All (λ x. x.word < z) cs → is_on cs w ≡ true → w < z
unfolding is_on
on_below [] w z a e = absurd (false≢true e)
on_below (c ∷ cs) w z a e = go (or_either (eqb c.word w) (is_on cs w) e) (λ h. on_below cs w z a.1 h)
  where
    go : (eqb c.word w ≡ true) ⊎ (is_on cs w ≡ true) → (is_on cs w ≡ true → w < z) → w < z
    go (inl h) ih = omega (arith, a.0, eqb-true c.word w h)
    go (inr h) ih = ih h

idle-holds-nothing : (r : Root) (p : Party) (w : ℕ) → p ≡ idle → is_on (claims r p) w ≢ true
unfolding claims is_on
idle-holds-nothing r p w e h = false≢true (rw e at h)

-- ---- What is requested

some_is : (c d : Claim) → ◌≡◌ {A = Option Claim} (some c) (some d) → c ≡ d
some_is c d e = ap (λ (o : Option Claim). pick o) e
  where
    pick : Option Claim → Claim
    pick none = c
    pick (some x) = x

none-some : (d : Claim) → ◌≡◌ {A = Option Claim} none (some d) → ⊥
unfolding is_some
none-some d e = false≢true (ap is_some e)

none_is : (o : Option Claim) → is_some o ≡ false → o ≡ none
unfolding is_some
none_is none e = refl
none_is (some c) e = absurd (false≢true (sym e))

-- ---- A party under way

-- Where a party under way stands: its next step performs, waits for a lock behind all that it holds, or stands behind
-- an earlier request.
pub data Standing (b : Book) (m : Memory) (q : ℕ) : Type 0 where
  moves : can_move b m q ≡ true → Standing b m q
  awaits : (c : Claim) → wants m.root (party_at m.parties q) ≡ some c → permits (get_or m.locks c.word 0) c.mode ≡ false
      → Higher m.root c (claims m.root (party_at m.parties q)) → Standing b m q
  behind_one : stands_behind m.root m.parties m.waiting q ≡ true → Standing b m q

-- A fair answer that is no refusal performs the step, unless a lock is wanted and not granted.
module _ (v : View) (h : List Claim) where
  by_answer : (w : Option Claim) (a : StepReply) → refusal_number a ≡ 0 → fairly v w a ≡ true → WantedHigher v.root h w
      → (performs a ≡ true) ⊎ ((c : Claim) × (w ≡ some c) × (is_granted v c ≡ false) × Higher v.root c h)
  unfolding refusal_number fairly unasked asked performs
  by_answer none (Ok StepAnswer.Waiting) r f x = absurd (false≢true f)
  by_answer (some c) (Ok StepAnswer.Waiting) r f x = inr (c, refl, not-true (is_granted v c) f, x)
  by_answer none (Ok StepAnswer.Moved) r f x = inl refl
  by_answer (some c) (Ok StepAnswer.Moved) r f x = inl refl
  by_answer none (Ok (StepAnswer.Done a s)) r f x = inl refl
  by_answer (some c) (Ok (StepAnswer.Done a s)) r f x = inl refl
  by_answer none (Err n) r f x = absurd (cause_some n r)
  by_answer (some c) (Err n) r f x = absurd (cause_some n r)

module _ (kept : StepsKept) (m : Memory) (b : Book) (i : Inv m b) where
  module _ (q : ℕ) (in_row : q < m.root.parties) where
    working_stands : (e : Entered) → Busy (scene_of m i.ghost b) q (party_at m.parties q) e
        → facts_at (party_at m.parties q).step (scene_of m i.ghost b) q (party_at m.parties q) e → Standing b m q
    unfolding can_move stepped is_granted
    working_stands e k x =
        let v = view_of m q in
        let busy = operation_some e.operation (party_at m.parties q).operation k.same_operation in
        let sound = record_sound_lem m.root (party_at m.parties q) (root_sound_ok m b i) (party_sound_ok m b i q in_row (party_at m.parties q) e k) in
        let performed = (step_order m q).none (within_limits_lem m.root i.limits) (lengths_fit_ok m b i) in_row busy sound i.row_ok.sound in
        go performed (entered_under b q e k.entry)
        (by_answer v (claims m.root v.party) (wants m.root v.party) (step_of v.party.step v).answer (kept m b i q in_row k.step_fits).allowed
        (step_fair v).fair (wanted_higher (scene_of m i.ghost b) q v.party e (inv_fits m b i) k x))
      where
        go : step_call m q ≡ stepped m q → under_way b q ≡ true
            → (performs (step_of (party_at m.parties q).step (view_of m q)).answer ≡ true)
            ⊎ ((c : Claim) × (wants m.root (party_at m.parties q) ≡ some c) × (is_granted (view_of m q) c ≡ false) × Higher m.root c (claims m.root (party_at m.parties q))) → Standing b m q
        go performed entered (inl h) = moves (both-and entered (ap (λ (c : Called StepReply). performs c.answer) performed ∙ h))
        go performed entered (inr h) = barred (and_fails (permits (get_or m.locks h.0.word 0) h.0.mode) (not (view_of m q).behind) h.2)
          where
            barred : (permits (get_or m.locks h.0.word 0) h.0.mode ≡ false) ⊎ (not (view_of m q).behind ≡ false) → Standing b m q
            barred (inl n) = awaits h.0 h.1 n h.3
            barred (inr n) = behind_one (not-false (view_of m q).behind n)

    -- A party is idle, or stands somewhere.
    pub standing : (party_at m.parties q ≡ idle) ⊎ Standing b m q
    standing = go (i.parties_ok q in_row)
      where
        go : PartyOk (scene_of m i.ghost b) q (party_at m.parties q) → (party_at m.parties q ≡ idle) ⊎ Standing b m q
        go (resting e _ _ _) = inl e
        go (working e k x) = inr (working_stands e k x)

  -- ---- From one who waits to one who can move

  -- A word that does not permit a request is held by a party of the row.
  holder : (c : Claim) → c.word < lock_words m.root → permits (get_or m.locks c.word 0) c.mode ≡ false
      → Found m.root.parties (λ q. is_on (claims m.root (party_at m.parties q)) c.word)
  holder c l n = go (tell (some_below m.root.parties on))
    where
      on : ℕ → Bool
      on q = is_on (claims m.root (party_at m.parties q)) c.word

      -- Past the row's end nothing is held.
      in_row : (q : ℕ) → on q ≡ true → Ord q m.root.parties → q < m.root.parties
      in_row q h (lt k t) = k
      in_row q h (ge k t) = absurd (idle-holds-nothing m.root (party_at m.parties q) c.word (get_or-eq_default m.parties idle (omega (arith, i.parties_many))) h)

      go : Told (some_below m.root.parties on) → Found m.root.parties on
      go (holds e) = some_found m.root.parties on e
      go (fails e) =
          absurd
          (not-both _ (permits-true (i.locks_ok.each c.word l) c.mode
          (λ q o x. let h = claimed_on (claims m.root (party_at m.parties q)) c.word o x in
          absurd (not-both _ (found_some m.root.parties on q (in_row q h (ord q m.root.parties)) h) e))) n)

  -- ---- From one who stands behind another to the first of those who wait for the lock

  abbrev r : Root
  r = m.root

  abbrev ps : List Party
  ps = m.parties

  -- What one requests it wants.
  requested_wanted : (p : Party) (c : Claim) → requests r p ≡ some c → wants r p ≡ some c
  unfolding requests
  requested_wanted p c e = go (has_step p.operation p.step) e
    where
      go : (t : Bool) → cond t (wants r p) none ≡ some c → wants r p ≡ some c
      go true h = h
      go false h = absurd (none-some c h)

  -- From party q: one who can move, or a lock behind all that q holds, which its word does not permit.
  data LeadsTo (q : ℕ) : Type 0 where
    to_mover : Found r.parties (can_move b m) → LeadsTo q
    to_lock : (d : Claim) → permits (get_or m.locks d.word 0) d.mode ≡ false → Higher r d (claims r (party_at ps q)) → LeadsTo q

  -- One who stands behind nobody.
  unhindered : (q : ℕ) → q < r.parties → stands_behind r ps m.waiting q ≡ false → (party_at ps q ≡ idle) ⊎ LeadsTo q
  unhindered q l n = go (standing q l)
    where
      go : (party_at ps q ≡ idle) ⊎ Standing b m q → (party_at ps q ≡ idle) ⊎ LeadsTo q
      go (inl e) = inl e
      go (inr (moves e)) = inr (to_mover (record { number = q; below = l; passes = e }))
      go (inr (awaits d _ x y)) = inr (to_lock d x y)
      go (inr (behind_one h)) = absurd (not-both (stands_behind r ps m.waiting q) h n)

  -- Who stands behind somebody: the first of those who wait for the lock stands behind nobody.
  hindered : (q : ℕ) → q < r.parties → (e : Entered) → Busy (scene_of m i.ghost b) q (party_at ps q) e → facts_at (party_at ps q).step (scene_of m i.ghost b) q (party_at ps q) e
      → (o : Option Claim) → requests r (party_at ps q) ≡ o → behind_for r ps m.waiting q o ≡ true → LeadsTo q
  unfolding behind_for stands_behind is_some
  hindered q l e k x none a h = absurd (false≢true h)
  hindered q l e k x (some c) a h = go (standing f_number f_there)
    where
      f : Front r ps c.word (waiters_in m.waiting)
      f = front r ps q c (waiters_in m.waiting) h

      f_number : ℕ
      f_number = f.number

      f_there : f_number < r.parties
      f_there = ((row_for r ps m.waiting i.row_ok).asking f_number f.waits).there

      f_first : stands_behind r ps m.waiting f_number ≡ false
      f_first = ap (behind_for r ps m.waiting f_number) f.wanted ∙ f.unhindered

      mine : WantedHigher r (claims r (party_at ps q)) (some c)
      mine = subst (WantedHigher r (claims r (party_at ps q))) (requested_wanted (party_at ps q) c a) (wanted_higher (scene_of m i.ghost b) q (party_at ps q) e (inv_fits m b i) k x)

      go : (party_at ps f_number ≡ idle) ⊎ Standing b m f_number → LeadsTo q
      go (inl z) = absurd (none-some f.lock (sym (idle-none z) ∙ f.wanted))
        where
          idle-none : party_at ps f_number ≡ idle → requests r (party_at ps f_number) ≡ none
          idle-none w = none_is (requests r (party_at ps f_number)) (idle-asks-none r (party_at ps f_number) w)
      go (inr (moves z)) = to_mover (record { number = f_number; below = f_there; passes = z })
      go (inr (behind_one z)) = absurd (not-both (stands_behind r ps m.waiting f_number) z f_first)
      go (inr (awaits d w z y)) =
          let its : d.word ≡ c.word = ap (λ (v : Claim). v.word) (some_is d f.lock (sym w ∙ requested_wanted (party_at ps f_number) f.lock f.wanted)) ∙ f.word= in
          to_lock d z (record { inside = y.inside; above = subst (λ (n : ℕ). All (λ v. v.word < n) (claims r (party_at ps q))) (sym its) mine.above })

  -- A party is idle, or leads on.
  settle : (q : ℕ) → q < r.parties → (party_at ps q ≡ idle) ⊎ LeadsTo q
  unfolding stands_behind
  settle q l = go (i.parties_ok q l) (tell (stands_behind r ps m.waiting q))
    where
      go : PartyOk (scene_of m i.ghost b) q (party_at ps q) → Told (stands_behind r ps m.waiting q) → (party_at ps q ≡ idle) ⊎ LeadsTo q
      go (resting e _ _ _) t = inl e
      go (working e k x) (fails n) = unhindered q l n
      go (working e k x) (holds h) = inr (hindered q l e k x (requests r (party_at ps q)) refl h)

  -- From a lock that its word does not permit: its holder leads to one who can move, or to a lock further on.
  climb : (k : ℕ) (c : Claim) → c.word < lock_words r → lock_words r ≤ k + c.word → permits (get_or m.locks c.word 0) c.mode ≡ false → Found r.parties (can_move b m)
  climb zero c l f n = absurd (omega arith)
  climb (suc k) c l f n = go (holder c l n) (λ d. climb k d)
    where
      go : Found r.parties (λ q. is_on (claims r (party_at ps q)) c.word)
          → ((d : Claim) → d.word < lock_words r → lock_words r ≤ k + d.word → permits (get_or m.locks d.word 0) d.mode ≡ false → Found r.parties (can_move b m))
          → Found r.parties (can_move b m)
      go h ih = from (settle h.number h.below)
        where
          from : (party_at ps h.number ≡ idle) ⊎ LeadsTo h.number → Found r.parties (can_move b m)
          from (inl e) = absurd (idle-holds-nothing r (party_at ps h.number) c.word e h.passes)
          from (inr (to_mover x)) = x
          from (inr (to_lock d x y)) =
              let up = on_below (claims r (party_at ps h.number)) c.word d.word y.above h.passes in
              ih d y.inside (omega (arith, up, f)) x

  -- One under way, and so one who can move.
  mover : Found r.parties (under_way b) → Found r.parties (can_move b m)
  unfolding under_way is_entered has_step
  mover h = go (i.parties_ok h.number h.below) (settle h.number h.below)
    where
      from : LeadsTo h.number → Found r.parties (can_move b m)
      from (to_mover x) = x
      from (to_lock d x y) = climb (lock_words r) d y.inside (omega arith) x

      go : PartyOk (scene_of m i.ghost b) h.number (party_at ps h.number) → (party_at ps h.number ≡ idle) ⊎ LeadsTo h.number → Found r.parties (can_move b m)
      go (resting _ n _ _) x = absurd (false≢true (sym (ap is_entered n) ∙ h.passes))
      go (working e k y) (inr x) = from x
      go (working e k y) (inl z) = absurd (operation_some e.operation (party_at ps h.number).operation k.same_operation (ap (λ (p : Party). p.operation) z))

-- PROGRESS: if operations are under way, at least one of them would answer moved or done if its step came next.
pub progress_holds : StepsKept → (m : Memory) (b : Book) → Inv m b → progresses m.root.parties b m ≡ true
unfolding progresses
progress_holds kept m b i = go (tell (some_below m.root.parties (under_way b)))
  where
    go : Told (some_below m.root.parties (under_way b)) → (not (some_below m.root.parties (under_way b)) || some_below m.root.parties (can_move b m)) ≡ true
    go (holds e) =
        let x = mover kept m b i (some_found m.root.parties (under_way b) e) in
        right_or (not (some_below m.root.parties (under_way b))) (found_some m.root.parties (can_move b m) x.number x.below x.passes)
    go (fails e) = left_or (some_below m.root.parties (can_move b m)) (ap not e)

-- The same after every call of a list, and before the first.
pub always_progress : StepsKept → (m : Memory) (b : Book) → Inv m b → (cs : List Call) → always_progresses m.root.parties b m cs ≡ true
unfolding always_progresses event_of
always_progress kept m b i [] = progress_holds kept m b i
always_progress kept m b i (c ∷ cs) =
    both-and (progress_holds kept m b i)
    (subst (λ (n : ℕ). always_progresses n (book_after_call b m c) (after_call m c) cs ≡ true) (call_limits m c).parties=
    (always_progress kept (after_call m c) (book_after_call b m c) (call_kept kept m b i c).inv cs))

-- Ellis's P1, no deadlock: after every list of calls from formatted memory.
pub no_deadlock : StepsKept → (s : Start) (cs : List Call) → progresses (sizes_of s).parties (book_reached s cs) (Reached s cs) ≡ true
no_deadlock kept s cs =
    subst (λ (n : ℕ). progresses n (book_reached s cs) (Reached s cs) ≡ true) (sizes_stay s cs).parties
    (progress_holds kept (Reached s cs) (book_reached s cs)
    (run_inv kept (start s) (book_start s) (started_inv s) cs))
