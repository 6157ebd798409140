-- Each of the thirty steps does what its trace says: when the links that it follows were read, what it reads into its
-- record and scratch page, what it gives back.
-- Main definition: Truth (the trace of an outcome is true). Main statement: step_tells (of every step number).
use mathlib.Core.Path.{◌≡◌, refl, sym, ap, ◌∙◌}
use mathlib.Core.Logic.{◌≢◌, ◌⊎◌, inl, inr}
use mathlib.Core.Bool.{Bool, true, false, cond, not, ◌&&◌, false≢true, true≢false, ◌||◌}
use mathlib.Core.List.{List, [], ◌∷◌, ◌++◌}
use Prim.Native.Nat.{ℕ, ◌+◌, ◌-◌}
use native.Mathlib.Omega.{arith}
use lib.ListN.{length}
use lib.Dec.{eqb, leb, ltb}
use Rattle.std.specs.Prelude.{Ok}
use Rattle.model.specs.declared.Party.{Party}
use Rattle.model.specs.declared.OperationAnswer.{OperationAnswer}
use Rattle.model.specs.declared.Restructuring.{Restructuring}
use Rattle.model.specs.declared.StepAnswer.{StepAnswer}
use Rattle.model.specs.Records.{idle, at_step}
use Rattle.model.specs.Answers.{answer_of, restructuring_of, is_moved, performs, found_or_absent, StepReply}
use Rattle.model.specs.LockWords.{Claim}
use Rattle.model.specs.Addresses.{split_barred, count_of_chains}
use Rattle.model.specs.Entries.{has_key, shares_key, setting_in}
use Rattle.model.specs.Filling.{pages_for}
use Rattle.model.specs.Steps.Find.{answered, looked_on, step09}
use Rattle.model.specs.Pages.{page_of, with_page, level_of, link_of, entries_of, zero_page, names_overflow, link_sound, page_sound, primary_page, scratch_page, linked_page, link_to_first}
use Rattle.model.specs.Chains.{Checked, damaged, sound, Chain, chain_of, list_from}
use Rattle.model.specs.FreeList.{is_among, too_few, Taken, pages_taken, given_back, root_after_taking, room_to_give_back, pages_given_back}
use Rattle.model.specs.Outcome.{View, Outcome, outcome, with_party, moved, guarded, checked}
use Rattle.model.specs.ScratchPages.{with_scratch, scratch_of}
use Rattle.model.specs.Endings.{done, finished, onward, ended_with}
use Rattle.model.specs.LockRequests.{held_all, without_hold, given_up, chain_lock, chain_exclusive}
use Rattle.theory.specs.Links.{Trace, trace, no_trace, chain_pages, read_now, walked_from, trace_looked, trace_ten, trace_nine, trace_fourteen, trace_twenty_nine, trace_of}
use Rattle.model.specs.Ready.{Ready}
use Rattle.theory.specs.Reads.{by_scratch, EachKnown, Freed}
use Rattle.model.specs.PagePlaces.{pages_drawn}
use Rattle.model.specs.declared.Entry.{Entry}
use Rattle.model.specs.Steps.Chase.{Chase, chase_of, arrived, chasing, step06}
use Rattle.model.specs.Steps.Rebuild.{Change, kept, changed, changes_nothing, changing, rebuilt, rebuild_with, step10}
use Rattle.model.specs.Steps.OldPages.{old_given_back, step14}
use Rattle.model.specs.Steps.SplitBuild.{Halves, halves_of, halves_need, divided, divide_with, step17}
use Rattle.model.specs.Steps.MergeLocks.{merge_stops}
use Rattle.model.specs.Steps.MergeBuild.{Pair, pair_of, merge_goes, combined, combine_with, step26}
use Rattle.model.specs.Steps.MergeWrite.{merged_away, partner_cleared, step29}
use Rattle.model.specs.Steps.Dispatch.{no_step, step_table, step_of, next_table, writes_table}
use Rattle.model.specs.Steps.Table.{old_word, free_word}
use Rattle.model.proofs.Laws.Lists.{not-true, cond_ind, eqb-false, ltb-false, not-both, and_both, All, all_in, ◌▸◌, Numbered, numbered_at}
use Rattle.model.proofs.Laws.Pages.{page_same, page_other, length_page_of, length-zero_page}
use Rattle.model.proofs.Laws.Filling.{IsOverflow}
use Rattle.model.proofs.Laws.Reading.{has_overflow}
use Rattle.model.proofs.Laws.FreeList.{length-given}
use Rattle.model.proofs.Effects.GiveUps.{given_up_rest}
use Rattle.model.proofs.Exits.Scratches.{IfSound, has_page, taken_overflow, list_overflow_ok, names_page, names_linked, sound_link, names_sound, merged_overflow}
use Rattle.model.proofs.Exits.OpenLinks.{scratch_open}
use Rattle.theory.proofs.Traces.{list_followed}
use Rattle.model.proofs.Exits.Statement.{Kept, kept_by, every_next, none-writes, Moves, Exit, refusing, waiting, taking, moving, looking, ending}
use Rattle.model.proofs.Exits.{ExitsAt, step_exits}
use Rattle.theory.proofs.StepReads.Readings.{if_known, then_known, from_sound}
use Rattle.theory.proofs.StepReads.Known.{Stepping, list_stepping, chain_links, now_known, chain_known, walked_known, known_append, given_freed, none_more, ScratchLink, copied_link, made_link, built_link}
use Rattle.theory.proofs.StepReads.EachStep.{other_link}

-- The trace tr is true of the outcome o on the view v: t, s and w are the times of this call, of the scratch link and of the old link.
pub record Truth (t s w : ℕ) (v : View) (o : Outcome) (tr : Trace) : Type 0 where
  pub known : EachKnown v t s w tr.follows
  pub old_read_ok : tr.into_old ≡ true → o.after.party.old ≡ link_of (page_of v.pages (primary_page v.party.chain))
  pub old_kept : tr.into_old ≡ false → o.after.party.old ≢ 0 → o.after.party.old ≡ v.party.old
  pub scratch_now : scratch_open o.after.party.step ≡ true → tr.into_scratch ≡ true
  pub scratch_read_ok : tr.into_scratch ≡ true → ScratchLink v o
  pub given : o.after.root.free - v.root.free ≡ length tr.gives
  pub freed : (x : ℕ) → is_among x tr.gives ≡ true → Freed o.after.pages x

-- Step number n performs, and then its trace is true.
pub record Tells (t s w n : ℕ) (v : View) (o : Outcome) : Type 0 where
  pub go : performs o.answer ≡ true → Truth t s w v o (trace_of t n v o.answer o.after.party.step s w)

-- What a trace that reads nothing into record or scratch asks of root and pages.
record Basis (t s w : ℕ) (v : View) (tr : Trace) (u : View) : Type 0 where
  known : EachKnown v t s w tr.follows
  no_old : tr.into_old ≡ false
  no_scratch : tr.into_scratch ≡ false
  given : u.root.free - v.root.free ≡ length tr.gives
  freed : (x : ℕ) → is_among x tr.gives ≡ true → Freed u.pages x

-- The old link is the one it was, or none.
abbrev OldKept : View → Party → Type 0
OldKept v p = (p.old ≡ v.party.old) ⊎ (p.old ≡ 0)

module _ (t s w : ℕ) (v : View) where
  truth : (a : StepReply) (u : View) (tr : Trace) → Basis t s w v tr u → OldKept v u.party → scratch_open u.party.step ≡ false → Truth t s w v (outcome a u) tr
  truth a u tr b k n = record {
    known = b.known;
    old_read_ok = λ h. absurd (not-both tr.into_old h b.no_old);
    old_kept = λ _ d. same_old d k;
    scratch_now = λ e. absurd (not-both (scratch_open u.party.step) e n);
    scratch_read_ok = λ h. absurd (not-both tr.into_scratch h b.no_scratch);
    given = b.given;
    freed = b.freed;
  }
    where
      same_old : u.party.old ≢ 0 → OldKept v u.party → u.party.old ≡ v.party.old
      same_old d (inl e) = e
      same_old d (inr e) = absurd (d e)

  -- Nothing followed, read or given back.
  quiet_basis : (u : View) → u.root.free - v.root.free ≡ 0 → Basis t s w v no_trace u
  unfolding is_among
  quiet_basis u e = record { known = tt; no_old = refl; no_scratch = refl; given = e; freed = λ x h. absurd (false≢true h) }

  module _ (n : ℕ) where
    guarded_tells : (b : Bool) (o : Outcome) → (b ≡ true → Tells t s w n v o) → Tells t s w n v (guarded v b o)
    unfolding performs
    guarded_tells true o f = f refl
    guarded_tells false o f = record { go = λ p. absurd (false≢true p) }

    checked_tells : {A : Type 0} (x : Checked A) (f : A → Outcome) → ((a : A) → x ≡ sound a → Tells t s w n v (f a)) → Tells t s w n v (checked v x f)
    unfolding performs
    checked_tells damaged f g = record { go = λ p. absurd (false≢true p) }
    checked_tells (sound a) f g = g a refl

    -- The trace is tr, whatever the answer and the next step.
    module _ (tr : Trace) (steady : (a : StepReply) (next : ℕ) → trace_of t n v a next s w ≡ tr) where
      steady_tells : (a : StepReply) (u : View) → Basis t s w v tr u → OldKept v u.party → scratch_open u.party.step ≡ false → Tells t s w n v (outcome a u)
      steady_tells a u b k d = record { go = λ p. rw (steady a u.party.step) (truth a u tr b k d) }

      done_tells : (a : OperationAnswer) (r : Restructuring) (u : View) → Basis t s w v tr (with_scratch zero_page u) → Tells t s w n v (done a r u)
      done_tells a r u b = steady_tells (Ok (StepAnswer.Done a r)) (with_party idle (with_scratch zero_page u)) (record { known = b.known; no_old = b.no_old; no_scratch = b.no_scratch; given = b.given; freed = b.freed }) (inr refl) refl

      onward_tells : (u : View) → Basis t s w v tr u → Basis t s w v tr (with_scratch zero_page u) → OldKept v u.party → Tells t s w n v (onward u)
      unfolding onward finished
      onward_tells u b c k =
          let on : (j : ℕ) → Basis t s w v tr (with_party (at_step j u.party) u) = λ j. record { known = b.known; no_old = b.no_old; no_scratch = b.no_scratch; given = b.given; freed = b.freed } in
          cond_ind (Tells t s w n v) (eqb u.party.owed 1) _ _ (λ _. steady_tells (Ok StepAnswer.Moved) (with_party (at_step 15 u.party) u) (on 15) k refl)
          (λ _. cond_ind (Tells t s w n v) (eqb u.party.owed 2) _ _ (λ _. steady_tells (Ok StepAnswer.Moved) (with_party (at_step 23 u.party) u) (on 23) k refl)
          (λ _. done_tells (answer_of u.party.answer) (restructuring_of u.party.owed) u c))

    -- An end with locks given up, whose trace is tr.
    ended-as : (tr : Trace) → ((a : OperationAnswer) (r : Restructuring) → trace_of t n v (Ok (StepAnswer.Done a r)) 0 s w ≡ tr)
        → ((u : View) → u.root.free - v.root.free ≡ 0 → Basis t s w v tr u) → (cs : List Claim) (r : Restructuring) → Tells t s w n v (ended_with v cs r)
    unfolding ended_with
    ended-as tr e f cs r =
        guarded_tells (held_all v cs) _
        (λ _. record {
          go = λ p. rw (e (answer_of v.party.answer) r)
              (truth _ (with_party idle (with_scratch zero_page (given_up cs v))) tr (f (with_party idle (with_scratch zero_page (given_up cs v))) (rw (given_up_rest cs v) (omega arith))) (inr refl) refl);
        })

-- ---- Each step

abbrev pub TellsAt : ℕ → (View → Outcome) → Type 0
TellsAt n f = (t s w : ℕ) (v : View) → Ready v → Tells t s w n v (f v)

-- The steps that follow links, read them or give pages back; the others have no trace.
abbrev has_trace : ℕ → Bool
has_trace n = eqb n 6 || (eqb n 9 || (eqb n 10 || (eqb n 14 || (eqb n 17 || (eqb n 26 || eqb n 29)))))

cond_skip : {A : Type 0} (a b : Bool) (x y z : A) → (a || b) ≡ false → (b ≡ false → y ≡ z) → cond a x y ≡ z
cond_skip true b x y z e f = absurd (true≢false e)
cond_skip false b x y z e f = f e

no_trace_lem : (n : ℕ) → has_trace n ≡ false → (t s w : ℕ) (v : View) (a : StepReply) (next : ℕ) → trace_of t n v a next s w ≡ no_trace
unfolding trace_of
no_trace_lem n q t s w v a next =
    cond_skip (eqb n 6) _ _ _ _ q (λ q. cond_skip (eqb n 9) _ _ _ _ q (λ q. cond_skip (eqb n 10) _ _ _ _ q (λ q. cond_skip (eqb n 14) _ _ _ _ q
    (λ q. cond_skip (eqb n 17) _ _ _ _ q (λ q. cond_skip (eqb n 26) _ _ _ _ q (λ q. rw q refl))))))

-- Such a step keeps the old link and the free list, and leads to no step with a link in scratch.
module _ (n : ℕ) (q : has_trace n ≡ false) (t s w : ℕ) (v : View) where
  no_more_free : (u : View) → kept_by n u ≡ kept_by n v → u.root.free - v.root.free ≡ 0
  unfolding writes_table is_among
  no_more_free u e = let f = rw (none-writes has_trace free_word refl n q) at (ap (λ (x : Kept). x.free) e) in omega arith

  quiet_move : (u : View) → Moves v n u → Truth t s w v (moved u) no_trace
  unfolding writes_table next_table is_among
  quiet_move u m =
      truth t s w v (Ok StepAnswer.Moved) u no_trace (quiet_basis t s w v u (no_more_free u m.kept)) (inl (rw (none-writes has_trace old_word refl n q) at (ap (λ (x : Kept). x.old) m.kept)))
      (not-true _ (rw q at (every_next (λ j i. has_trace j || not (scratch_open i)) refl refl v.party.operation n u.party.step m.next)))

  quiet_exit : (o : Outcome) → Exit v n o → performs o.answer ≡ true → Truth t s w v o no_trace
  unfolding performs
  quiet_exit o (refusing r) p = absurd (false≢true p)
  quiet_exit o (waiting c _ g r) p = absurd (false≢true p)
  quiet_exit o (taking c u _ g d m) p = quiet_move u m
  quiet_exit o (moving u _ d m) p = quiet_move u m
  quiet_exit o (looking e _ l m) p = absurd (true≢false (rw e at q))
  quiet_exit o (ending a r u _ e) p = truth t s w v _ _ no_trace (quiet_basis t s w v _ (no_more_free u e.kept)) (inr refl) refl

quiet : (n : ℕ) → has_trace n ≡ false → (f : View → Outcome) → ExitsAt n f → TellsAt n f
quiet n q f x t s w v ready = record { go = λ p. rw (no_trace_lem n q t s w v (f v).answer (f v).after.party.step) (quiet_exit n q t s w v (f v) (x v) p) }

-- The record after a chase keeps its old link.
chase_keeps : (b : Bool) (x : Chase) (p : Party) → (cond b (arrived x p) (chasing x p)).old ≡ p.old
unfolding arrived chasing
chase_keeps true x p = refl
chase_keeps false x p = refl

tells_06 : TellsAt 6 step06
unfolding step06 trace_of is_among
tells_06 t s w v ready =
    let p = v.party in
    let x = page_of v.pages (primary_page p.chain) in
    guarded_tells t s w v 6 (page_sound v.root x && leb p.lev (level_of x) && ltb (chase_of v).chain v.root.primaries) _
    (λ _. record {
      go = λ _. record {
        known = tt;
        old_read_ok = λ h. absurd (false≢true h);
        old_kept = λ _ _. chase_keeps (eqb (chase_of v).chain p.chain) (chase_of v) p;
        scratch_now = λ _. refl;
        scratch_read_ok = λ _. copied_link
            (record {
              page = primary_page p.chain;
              inside = omega (arith, ready.chain_fits);
              copy = page_same v.pages (scratch_page v.root v.number) x (has_page v ready v.pages (scratch_page v.root v.number) refl (omega (arith, ready.number_fits)))
                  (length_page_of (has_page v ready v.pages (primary_page p.chain) refl (omega (arith, ready.chain_fits))));
            });
        given = omega arith;
        freed = λ y h. absurd (false≢true h);
      };
    })

tells_answered : (t s w : ℕ) (v : View) (a : OperationAnswer) → Tells t s w 9 v (answered v a)
unfolding answered trace_of trace_nine is_moved given_up without_hold
tells_answered t s w v a =
    guarded_tells t s w v 9 (held_all v (chain_lock v.party ∷ [])) _ (λ _. record { go = λ _. truth t s w v _ _ no_trace (quiet_basis t s w v _ (omega arith)) (inr refl) refl })

tells_on : (t s w : ℕ) (v : View) → Ready v → page_sound v.root (scratch_of v) ≡ true → eqb (link_of (scratch_of v)) 0 ≡ false → Tells t s w 9 v (looked_on v)
unfolding looked_on trace_of trace_nine is_moved is_among
tells_on t s w v ready e d =
    let l = link_of (scratch_of v) in
    let x = page_of v.pages (linked_page l) in
    let over = names_page v.root l (names_linked v.root l (sound_link v.root (scratch_of v) e) d) in
    let some = eqb-false l 0 d in
    guarded_tells t s w v 9 (page_sound v.root x) _
    (λ _. record {
      go = λ _. record {
        known = (by_scratch (omega arith) refl, tt);
        old_read_ok = λ h. absurd (false≢true h);
        old_kept = λ _ _. refl;
        scratch_now = λ _. refl;
        scratch_read_ok = λ _. copied_link
            (record {
              page = linked_page l;
              inside = over.below;
              copy = page_same v.pages (scratch_page v.root v.number) x (has_page v ready v.pages (scratch_page v.root v.number) refl (omega (arith, ready.number_fits)))
                  (length_page_of (has_page v ready v.pages (linked_page l) refl (omega (arith, over.below))));
            });
        given = omega arith;
        freed = λ y h. absurd (false≢true h);
      };
    })

tells_09 : TellsAt 9 step09
unfolding step09
tells_09 t s w v ready =
    guarded_tells t s w v 9 (page_sound v.root (scratch_of v)) _
    (λ e. cond_ind (Tells t s w 9 v) (has_key v.party.key (entries_of (scratch_of v))) _ _ (λ _. tells_answered t s w v (found_or_absent (setting_in v.party.key (entries_of (scratch_of v)))))
    (λ _. cond_ind (Tells t s w 9 v) (eqb (link_of (scratch_of v)) 0) _ _ (λ _. tells_answered t s w v OperationAnswer.Absent) (λ d. tells_on t s w v ready e d)))

-- A chain looked through, nothing read into the record.
looked_basis : (t s w : ℕ) (v u : View) (xs : List ℕ) → EachKnown v t s w (read_now t xs) → u.root.free - v.root.free ≡ 0 → Basis t s w v (trace_looked t xs false) u
unfolding is_among
looked_basis t s w v u xs k e = record { known = k; no_old = refl; no_scratch = refl; given = e; freed = λ x h. absurd (false≢true h) }

-- Looked through, and its link read into the record.
looked_read : (t s w : ℕ) (v u : View) (a : StepReply) (xs : List ℕ) → EachKnown v t s w (read_now t xs) → u.root.free - v.root.free ≡ 0
    → u.party.old ≡ link_of (page_of v.pages (primary_page v.party.chain)) → scratch_open u.party.step ≡ false → Truth t s w v (outcome a u) (trace_looked t xs true)
unfolding is_among
looked_read t s w v u a xs k e l d = record {
  known = k;
  old_read_ok = λ _. l;
  old_kept = λ h _. absurd (true≢false h);
  scratch_now = λ h. absurd (not-both (scratch_open u.party.step) h d);
  scratch_read_ok = λ h. absurd (false≢true h);
  given = e;
  freed = λ x h. absurd (false≢true h);
}

-- 10 on to 11: the old link read, and the link in scratch made.
built_read : (t s w : ℕ) (v : View) → Ready v → (c : Chain) (a : ℕ) (es : List Entry) (x : Taken) → pages_taken v.root v.pages (pages_for v.root.capacity es) ≡ sound x
    → too_few v.root (pages_for v.root.capacity es) ≡ false → c.link ≡ link_of (page_of v.pages (primary_page v.party.chain))
    → Truth t s w v (rebuilt v c a es x) (trace_ten t (chain_pages v v.party.chain) true)
unfolding rebuilt changing root_after_taking too_few is_among pages_drawn
built_read t s w v ready c a es x e d l =
    let k = pages_for v.root.capacity es in
    let taken : v.root.free - (v.root.free - k) ≡ k = omega (arith, ltb-false v.root.free k d) in
    record {
      known = chain_known v t s w v.party.chain ready.chain_fits;
      old_read_ok = λ _. l;
      old_kept = λ h _. absurd (true≢false h);
      scratch_now = λ _. refl;
      scratch_read_ok = λ _. made_link refl
          (built_link v ready c.level es x.pages (from_sound (λ (y : Taken). All (IsOverflow v.root) y.pages) (pages_taken v.root v.pages k) (taken_overflow v.root v.pages k) x e)
          ∙ ap (λ (y : Checked Taken). link_to_first (pages_drawn y)) (sym (ap (pages_taken v.root v.pages) taken ∙ e)));
      given = none_more v.root.free k;
      freed = λ y h. absurd (false≢true h);
    }

tells_rebuilt : (t s w : ℕ) (v : View) → Ready v → (c : Chain) → c.link ≡ link_of (page_of v.pages (primary_page v.party.chain)) → (x : Change) → Tells t s w 10 v (rebuild_with v c x)
unfolding rebuild_with rebuilt changes_nothing changing root_after_taking trace_of
tells_rebuilt t s w v ready c l (kept a) =
    let xs = chain_pages v v.party.chain in
    let known = chain_known v t s w v.party.chain ready.chain_fits in
    record { go = λ _. truth t s w v _ _ _ (looked_basis t s w v _ xs known (omega arith)) (inl refl) refl }
tells_rebuilt t s w v ready c l (changed a es) =
    let k = pages_for v.root.capacity es in
    let xs = chain_pages v v.party.chain in
    let known = chain_known v t s w v.party.chain ready.chain_fits in
    cond_ind (Tells t s w 10 v) (too_few v.root k) _ _ (λ _. record { go = λ _. truth t s w v _ _ _ (looked_basis t s w v _ xs known (omega arith)) (inl refl) refl })
    (λ d. checked_tells t s w v 10 (pages_taken v.root v.pages k) (λ x. rebuilt v c a es x)
    (λ x e. record { go = λ _. built_read t s w v ready c a es x e d l }))

tells_10 : TellsAt 10 step10
unfolding step10
tells_10 t s w v ready =
    let found = chain_of v.root v.pages v.party.chain in
    checked_tells t s w v 10 found _
    (λ c e. tells_rebuilt t s w v ready c (from_sound (λ (h : Chain). h.link ≡ link_of (page_of v.pages (primary_page v.party.chain))) found (chain_links v.root v.pages v.party.chain) c e) _)

-- As many more as are given back.
so_many_more : (a n : ℕ) → (a + n) - a ≡ n
so_many_more a n = omega arith

tells_given : (t s w : ℕ) (v : View) → Ready v → link_sound v.root v.party.old ≡ true → (xs : List ℕ) → list_from v.root v.pages v.party.old ≡ sound xs
    → Tells t s w 14 v (old_given_back v xs)
unfolding old_given_back pages_given_back trace_of trace_fourteen given_up without_hold
tells_given t s w v ready h xs e =
    let l = v.party.old in
    let r = v.root in
    let listed = list_from r v.pages l in
    let cs = chain_exclusive v.party ∷ [] in
    let over = from_sound (All (IsOverflow r)) listed (list_overflow_ok r v.pages l h) xs e in
    let has = has_overflow r v.pages xs ready.pages_fit over in
    let long = length-given v.pages r.head xs has in
    let known = walked_known v t s w xs (from_sound (Stepping r v.pages l) listed (list_stepping r v.pages l h) xs e) in
    let free = given_freed v.pages r.head xs has in
    let kept : (x : ℕ) → is_among x xs ≡ true → Freed (with_page (given_back v.pages r.head xs).pages (scratch_page r v.number) zero_page) x = λ x k.
    let f = free x k in
    let o = all_in (IsOverflow r) x xs over k in
    record {
      link = f.link;
      free = page_other (given_back v.pages r.head xs).pages (scratch_page r v.number) zero_page
          (has_page v ready (given_back v.pages r.head xs).pages (scratch_page r v.number) long (omega (arith, ready.number_fits))) length-zero_page x (λ z. omega (arith, o.below)) ∙ f.free;
    } in
    guarded_tells t s w v 14 (room_to_give_back r (length xs) && held_all v cs) _
    (λ _. onward_tells t s w v 14 (trace (walked_from w t xs) false false xs) (λ a next. rw (list_followed v l xs e)) _
    (record { known = known; no_old = refl; no_scratch = refl; given = so_many_more r.free (length xs); freed = free })
    (record { known = known; no_old = refl; no_scratch = refl; given = so_many_more r.free (length xs); freed = kept }) (inr refl))

tells_14 : TellsAt 14 step14
unfolding step14
tells_14 t s w v ready =
    guarded_tells t s w v 14 (names_overflow v.root v.party.old) _
    (λ n. checked_tells t s w v 14 (list_from v.root v.pages v.party.old) (λ xs. old_given_back v xs)
    (λ xs e. tells_given t s w v ready (names_sound v.root v.party.old n) xs e))

tells_divided : (t s w : ℕ) (v : View) → Ready v → (c : Chain) → c.link ≡ link_of (page_of v.pages (primary_page v.party.chain)) → (h : Halves) → Tells t s w 17 v (divide_with v c h)
unfolding divide_with divided root_after_taking trace_of is_moved
tells_divided t s w v ready c l h =
    let k = halves_need v.root.capacity h in
    let xs = chain_pages v v.party.chain in
    let known = chain_known v t s w v.party.chain ready.chain_fits in
    cond_ind (Tells t s w 17 v) (too_few v.root k) _ _ (λ _. ended-as t s w v 17 (trace_looked t xs false) (λ a r. refl) (λ u e. looked_basis t s w v u xs known e) _ _)
    (λ _. checked_tells t s w v 17 (pages_taken v.root v.pages k) (λ x. divided v c h x)
    (λ x _. record { go = λ _. looked_read t s w v _ _ xs known (none_more v.root.free k) l refl }))

tells_17 : TellsAt 17 step17
unfolding step17
tells_17 t s w v ready =
    let found = chain_of v.root v.pages v.party.chain in
    guarded_tells t s w v 17 (not (split_barred (count_of_chains v.root) v.root.primaries)) _
    (λ _. checked_tells t s w v 17 found _
    (λ c e. tells_divided t s w v ready c (from_sound (λ (h : Chain). h.link ≡ link_of (page_of v.pages (primary_page v.party.chain))) found (chain_links v.root v.pages v.party.chain) c e) (halves_of v c)))

-- The link of the target.
abbrev TargetLink : View → Pair → Type 0
TargetLink v m = m.target.link ≡ link_of (page_of v.pages (primary_page v.party.chain))

target_link : (v : View) → IfSound (TargetLink v) (pair_of v.root v.pages v.party.chain v.party.other)
unfolding pair_of
target_link v =
    let found = chain_of v.root v.pages v.party.chain in
    then_known (TargetLink v) found _
    (λ x e. then_known (TargetLink v) (chain_of v.root v.pages v.party.other) _
    (λ y _. if_known (TargetLink v) (not (shares_key x.entries y.entries)) (record { target = x; partner = y })
    (λ _. from_sound (λ (h : Chain). h.link ≡ link_of (page_of v.pages (primary_page v.party.chain))) found (chain_links v.root v.pages v.party.chain) x e)))

-- Two chains looked through.
both_known : (t s w : ℕ) (v : View) (xs ys : List ℕ) → EachKnown v t s w (read_now t xs) → EachKnown v t s w (read_now t ys) → EachKnown v t s w (read_now t (xs ++ ys))
both_known t s w v [] ys a b = b
both_known t s w v (x ∷ xs) ys a b = (a.0, both_known t s w v xs ys a.1 b)

tells_combined : (t s w : ℕ) (v : View) → Ready v → (m : Pair) → TargetLink v m → Tells t s w 26 v (combine_with v m)
unfolding combine_with combined trace_of is_moved
tells_combined t s w v ready m l =
    let xs = chain_pages v v.party.chain in
    let ys = chain_pages v v.party.other in
    let known = both_known t s w v xs ys (chain_known v t s w v.party.chain ready.chain_fits) (chain_known v t s w v.party.other ready.other_fits) in
    cond_ind (Tells t s w 26 v) (merge_goes v.root m) _ _
    (λ _. record { go = λ _. looked_read t s w v _ _ (xs ++ ys) known (omega arith) l refl })
    (λ _. ended-as t s w v 26 (trace_looked t (xs ++ ys) false) (λ a r. refl) (λ u e. looked_basis t s w v u (xs ++ ys) known e) _ _)

tells_26 : TellsAt 26 step26
unfolding step26
tells_26 t s w v ready =
    let pair = pair_of v.root v.pages v.party.chain v.party.other in
    guarded_tells t s w v 26 (not (merge_stops v.root)) _
    (λ _. checked_tells t s w v 26 pair (λ m. combine_with v m) (λ m e. tells_combined t s w v ready m (from_sound (TargetLink v) pair (target_link v) m e)))

-- The two lists of 29, each walked by its link.
record Merged (v : View) (zs : List ℕ) : Type 0 where
  olds : List ℕ
  partners : List ℕ
  both : zs ≡ olds ++ partners
  old_listed : list_from v.root v.pages v.party.old ≡ sound olds
  partner_listed : list_from v.root v.pages (other_link v) ≡ sound partners
  old_sound : link_sound v.root v.party.old ≡ true
  partner_sound : link_sound v.root (other_link v) ≡ true

merged_lists : (v : View) → IfSound (Merged v) (merged_away v.root v.pages v.party)
unfolding merged_away
merged_lists v =
    let l = v.party.old in
    let x = page_of v.pages (primary_page v.party.other) in
    cond_ind (IfSound (Merged v)) (link_sound v.root l && page_sound v.root x) _ damaged
    (λ h. let c = and_both (link_sound v.root l) (page_sound v.root x) h in
    then_known (Merged v) (list_from v.root v.pages l) _
    (λ xs e. then_known (Merged v) (list_from v.root v.pages (other_link v)) _
    (λ ys f. if_known (Merged v) (room_to_give_back v.root (length (xs ++ ys))) (xs ++ ys)
    (λ _. record {
      olds = xs;
      partners = ys;
      both = refl;
      old_listed = e;
      partner_listed = f;
      old_sound = c.0;
      partner_sound = sound_link v.root x c.1;
    }))))
    (λ _. tt)

tells_cleared : (t s w : ℕ) (v : View) → Ready v → (zs : List ℕ) → All (IsOverflow v.root) zs → Merged v zs → Tells t s w 29 v (partner_cleared v zs)
unfolding partner_cleared pages_given_back trace_of trace_twenty_nine
tells_cleared t s w v ready zs over g =
    let r = v.root in
    let l = v.party.old in
    let c = v.party.other in
    let xs = g.olds in
    let ys = g.partners in
    let has = has_overflow r v.pages zs ready.pages_fit over in
    let qs = (given_back v.pages r.head zs).pages in
    let known : EachKnown v t s w (walked_from w t xs ++ read_now t ys) =
    known_append v t s w (walked_from w t xs) (read_now t ys)
    (walked_known v t s w xs (from_sound (Stepping r v.pages l) (list_from r v.pages l) (list_stepping r v.pages l g.old_sound) xs g.old_listed))
    (now_known v t s w c (omega (arith, ready.other_fits)) ys
    (from_sound (Stepping r v.pages (other_link v)) (list_from r v.pages (other_link v)) (list_stepping r v.pages (other_link v) g.partner_sound) ys g.partner_listed)) in
    let free : (x : ℕ) → is_among x (xs ++ ys) ≡ true → Freed (with_page qs (primary_page c) zero_page) x = λ x k.
    let k' : is_among x zs ≡ true = rw g.both k in
    let f = given_freed v.pages r.head zs has x k' in
    let o = all_in (IsOverflow r) x zs over k' in
    record {
      link = f.link;
      free = page_other qs (primary_page c) zero_page (has_page v ready qs (primary_page c) (length-given v.pages r.head zs has) (omega (arith, ready.other_fits))) length-zero_page x
          (λ z. omega (arith, o.above, ready.other_fits)) ∙ f.free;
    } in
    let count : (r.free + length zs) - r.free ≡ length (xs ++ ys) = so_many_more r.free (length zs) ∙ ap length g.both in
    record {
      go = λ _. rw (list_followed v l xs g.old_listed, list_followed v (other_link v) ys g.partner_listed)
          (truth t s w v _ _ (trace (walked_from w t xs ++ read_now t ys) false false (xs ++ ys))
          (record { known = known; no_old = refl; no_scratch = refl; given = count; freed = free }) (inl refl) refl);
    }

tells_29 : TellsAt 29 step29
unfolding step29
tells_29 t s w v ready =
    let merged = merged_away v.root v.pages v.party in
    checked_tells t s w v 29 merged (λ zs. partner_cleared v zs)
    (λ zs e. tells_cleared t s w v ready zs (from_sound (All (IsOverflow v.root)) merged (merged_overflow v.root v.pages v.party) zs e) (from_sound (Merged v) merged (merged_lists v) zs e))

-- ---- Every step number

refused_tells : (n : ℕ) → TellsAt n no_step
unfolding performs
refused_tells n t s w v ready = record { go = λ p. absurd (false≢true p) }

-- Those with a trace; the others have it from how they end.
abbrev Told : ℕ → (View → Outcome) → Type 0
Told n f = ExitsAt n f → TellsAt n f

all_tell : Numbered Told 0 step_table
unfolding step_table
all_tell =
    quiet 0 refl _ ▸ quiet 1 refl _ ▸ quiet 2 refl _ ▸ quiet 3 refl _ ▸ quiet 4 refl _ ▸ quiet 5 refl _ ▸ (λ _. tells_06) ▸ quiet 7 refl _ ▸ quiet 8 refl _ ▸ (λ _. tells_09)
    ▸ (λ _. tells_10) ▸ quiet 11 refl _ ▸ quiet 12 refl _ ▸ quiet 13 refl _ ▸ (λ _. tells_14) ▸ quiet 15 refl _ ▸ quiet 16 refl _ ▸ (λ _. tells_17) ▸ quiet 18 refl _ ▸ quiet 19 refl _
    ▸ quiet 20 refl _ ▸ quiet 21 refl _ ▸ quiet 22 refl _ ▸ quiet 23 refl _ ▸ quiet 24 refl _ ▸ quiet 25 refl _ ▸ (λ _. tells_26) ▸ quiet 27 refl _ ▸ quiet 28 refl _ ▸ (λ _. tells_29)
    ▸ quiet 30 refl _ ▸ tt

pub step_tells : (n : ℕ) → TellsAt n (step_of n)
unfolding step_of
step_tells n = numbered_at Told no_step (λ k _. refused_tells k) step_table all_tell n (step_exits n)
