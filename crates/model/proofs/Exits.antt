-- The walk over the thirty steps: how each of them ends on any view, from its definition alone. Exits/Statement.antt
-- says what an exit is; who needs a fact of every step takes step_exits by cases.
-- Two walks stay beside it, crates/theory/proofs/StepReads/EachStep.antt and Outcomes.antt: they hold a step on one
-- page memory beside the same step on another, and an exit speaks of one.
-- Main statement: step_exits (every step number).
use mathlib.Core.Path.{◌≡◌, refl, ap, ◌∙◌}
use mathlib.Core.Bool.{Bool, true, false, cond, not, ◌&&◌}
use mathlib.Core.List.{List, [], ◌∷◌}
use mathlib.Core.Option.{none, some}
use Prim.Native.Nat.{ℕ, ◌+◌, ◌-◌}
use native.Mathlib.Omega.{arith}
use lib.ListN.{length, take, get_or-eq_default}
use lib.Dec.{eqb, leb, ltb}
use Rattle.model.specs.declared.Party.{Party}
use Rattle.model.specs.declared.Mode.{Mode}
use Rattle.model.specs.declared.Entry.{Entry}
use Rattle.model.specs.declared.OperationAnswer.{OperationAnswer}
use Rattle.model.specs.declared.Restructuring.{Restructuring}
use Rattle.model.specs.declared.Restructuring.TheVariants as Restructuring
use Rattle.model.specs.Sizes.{page_words}
use Rattle.model.specs.Records.{at_step, with_lev, with_old, with_owed}
use Rattle.model.specs.Answers.{answer_number, answer_of, restructuring_of}
use Rattle.model.specs.LockWords.{Claim, claim, chain_word}
use Rattle.model.specs.Addresses.{split_barred, count_of_chains}
use Rattle.model.specs.Entries.{has_key}
use Rattle.model.specs.Pages.{page_of, with_page, level_of, link_of, entries_of, zero_page, with_local_level, page_sound, names_overflow, primary_page, scratch_page, linked_page}
use Rattle.model.specs.Chains.{Checked, damaged, sound, Chain, chain_of, list_from}
use Rattle.model.specs.Filling.{pages_for}
use Rattle.model.specs.FreeList.{is_among, too_few, Taken, pages_taken, root_after_taking, room_to_give_back, pages_given_back}
use Rattle.model.specs.Outcome.{View, Outcome, with_party, moved, guarded, checked}
use Rattle.model.specs.ScratchPages.{with_scratch, scratch_of, primary_written}
use Rattle.model.specs.Endings.{finished, onward, old_pages_first, ended_with}
use Rattle.model.specs.LockRequests.{is_granted, is_held, with_hold, request, held_all, without_hold, given_up, mode_of, root_read, chain_lock, other_lock, release, chain_selective, chain_exclusive, root_selective, root_exclusive, other_exclusive}
use Rattle.model.specs.Ready.{Ready}
use Rattle.model.specs.Claims.{claims}
use Rattle.model.specs.Holds.{gives_up_moving, requested}
use Rattle.model.specs.Steps.Locate.{located, step01, step02, step03, step04, step05}
use Rattle.model.specs.Steps.Chase.{Chase, chase_of, arrived, chasing, step06, step07, step08}
use Rattle.model.specs.Steps.Find.{answered, looked_on, step09}
use Rattle.model.specs.Steps.Rebuild.{Change, kept, changed, change_of, changes_nothing, changing, rebuilt, rebuild_with, step10}
use Rattle.model.specs.Steps.Write.{is_change, step11, step12}
use Rattle.model.specs.Steps.OldPages.{old_given_back, step13, step14}
use Rattle.model.specs.Steps.SplitLocks.{next_selective, splitting, step15, step16, step19, step22}
use Rattle.model.specs.Steps.SplitBuild.{Halves, halves_of, halves_need, halves_written, divided, divide_with, step17}
use Rattle.model.specs.Steps.SplitWrite.{step18, step20, step21}
use Rattle.model.specs.Steps.MergeLocks.{merge_stops, target_exclusive, merging, merge_locks, step23, step24, step25, step30}
use Rattle.model.specs.Steps.MergeBuild.{Pair, pair_of, joined_entries, merge_goes, combined, combine_with, step26}
use Rattle.model.specs.Steps.MergeWrite.{root_moved_back, merged_away, partner_cleared, step27, step28, step29}
use Rattle.model.specs.Steps.Dispatch.{has_step, no_step, step_table, step_of, want_table, wants_none, next_table, is_next, writes_table, writes}
use Rattle.model.specs.Steps.Table.{page_word}
use Rattle.model.proofs.Invariant.Turn.{claims_at}
use Rattle.model.proofs.Laws.Lists.{cond_ind, eqb-false, All, ◌▸◌, Numbered, numbered_below, Ord, lt, ge, ord}
use Rattle.model.proofs.Laws.Pages.{length_page_of, length-zero_page, length-with_local_level}
use Rattle.model.proofs.Laws.Filling.{IsOverflow, length-primary_of}
use Rattle.model.proofs.Invariant.Frame.{claims_at_lem, changes_selectively}
use Rattle.model.proofs.Effects.GiveUps.{given_up_rest}
use Rattle.model.proofs.Exits.Trades.{listed, Trade, trade_none, trade_all, trade_more, trade_less, trade_last, trade_turn}
use Rattle.model.proofs.Exits.OpenLinks.{scratch_open, old_open, open_at, gives_pages, LinksThen, none_open, set-now, passes, keeps, reads_old_lem}
use Rattle.model.proofs.Exits.Scratches.{IfSound, names_page, names_linked, sound_link, taken_overflow, list_overflow_ok, Spares, spares_all, scratch_writable, primary_writable, has_page, spares_written, spares_given, scratch_long, built_spares, halves_spares, names_sound, merged_overflow}
use Rattle.model.proofs.Exits.Statement.{is_other, kept_by, want_at, asks, Exit, refusing, waiting, taking, moving, looking, ending}
pub mod Trades
pub mod OpenLinks
pub mod Scratches
pub mod Statement
pub mod Exact

-- ---- The paths that the steps share

module _ (v : View) (k : ℕ) where
  guarded_exits : (t : Bool) → (t ≡ false → asks (want_at k v) k v.root v.party ≡ false) → (o : Outcome) → (t ≡ true → Exit v k o) → Exit v k (guarded v t o)
  guarded_exits true a o f = f refl
  guarded_exits false a o f = refusing (a refl)

  checked_exits : {A : Type 0} (x : Checked A) → asks (want_at k v) k v.root v.party ≡ false → (f : A → Outcome) → ((a : A) → Exit v k (f a)) → Exit v k (checked v x f)
  checked_exits damaged n f g = refusing n
  checked_exits (sound a) n f g = g a

  -- What was read has P.
  found_exits : {A : Type 0} (P : A → Type 0) (x : Checked A) → asks (want_at k v) k v.root v.party ≡ false → (f : A → Outcome) → IfSound P x → ((a : A) → P a → Exit v k (f a))
      → Exit v k (checked v x f)
  found_exits P damaged n f h g = refusing n
  found_exits P (sound a) n f h g = g a h

  -- The record then has no link to follow, or the old link that it had.
  unlinked : (p : Party) → scratch_open p.step ≡ false → old_open p ≡ false → v.party.step ≡ k → Ready v → LinksThen k v p
  unlinked p s o at ready = passes k v p s o

  still_linked : (p : Party) → scratch_open p.step ≡ false → p.old ≡ v.party.old → old_open (at_step k v.party) ≡ true
      → gives_pages k ≡ false → v.party.step ≡ k → Ready v → LinksThen k v p
  still_linked p s e h g at ready = keeps k v p s e (open_at v.party k at ∙ h) g

  moved_exits : (u : View) → is_next v.party.operation k u.party.step ≡ true → kept_by k u ≡ kept_by k v → want_at k v ≡ none → is_other k u.party.step ≡ true
      → (has_step v.party.operation k ≡ true → Trade (claims_at k v.party) (gives_up_moving k v.party) (listed (requested k none)) (claims u.root u.party))
      → (Ready v → Spares v u.pages) → (v.party.step ≡ k → Ready v → LinksThen k v u.party) → Exit v k (moved u)
  moved_exits u n e w d t s m = moving u w d (record { next = n; kept = e; trade = λ has. rw w (t has); spares = s; marks = m })

  request_exits : (c : Claim) (p : Party) → want_at k v ≡ some c → asks (some c) k v.root v.party ≡ true → is_next v.party.operation k p.step ≡ true → kept_by k (with_party p v) ≡ kept_by k v → is_other k p.step ≡ true
      → Trade (claims_at k v.party) (gives_up_moving k v.party) (c ∷ []) (claims v.root p)
      → (v.party.step ≡ k → Ready v → LinksThen k v p) → Exit v k (request v c p)
  unfolding request with_hold requested
  request_exits c p w a n e d t m =
      cond_ind (Exit v k) (is_granted v c) _ _
      (λ g. taking c (with_party p (with_hold c v)) w g d (record { next = n; kept = e; trade = λ _. rw w t; spares = λ _. spares_all v; marks = m }))
      (λ g. waiting c w g (rw w a))

  -- A lock given up, on to another step: 5, 8 and 19.
  release_exits : (c : Claim) (p : Party) → want_at k v ≡ none → is_next v.party.operation k p.step ≡ true → kept_by k (with_party p v) ≡ kept_by k v → is_other k p.step ≡ true
      → Trade (claims_at k v.party) (gives_up_moving k v.party) (listed (requested k none)) (claims v.root p)
      → (v.party.step ≡ k → Ready v → LinksThen k v p) → Exit v k (release v (c ∷ []) p)
  unfolding release given_up without_hold
  release_exits c p w n e d t m = guarded_exits (held_all v (c ∷ [])) (λ _. rw w refl) _ (λ _. moved_exits (with_party p (given_up (c ∷ []) v)) n e w d (λ _. t) (λ _. spares_all v) m)

  -- A primary page written: 11 and 18.
  written_exits : (j : ℕ) → want_at k v ≡ none → is_next v.party.operation k j ≡ true → writes k page_word ≡ true → is_other k j ≡ true
      → Trade (claims_at k v.party) (gives_up_moving k v.party) (listed (requested k none)) (claims v.root (at_step j v.party))
      → (v.party.step ≡ k → Ready v → LinksThen k v (at_step j v.party)) → Exit v k (primary_written v j)
  unfolding primary_written
  written_exits j w n e d t m =
      guarded_exits (page_sound v.root (scratch_of v)) (λ _. rw w refl) _
      (λ _. moved_exits _ n (rw e) w d (λ _. t)
      (λ ready. spares_written v ready v.pages (spares_all v) (primary_page v.party.chain) (scratch_of v) (primary_writable v ready v.party.chain ready.chain_fits) (scratch_long v ready)) m)

  -- Done with the answer of the record, all locks given up: 16, 17, 24, 26 and 30.
  ended_exits : (cs : List Claim) (s : Restructuring) → want_at k v ≡ none → is_next v.party.operation k 0 ≡ true → Exit v k (ended_with v cs s)
  unfolding ended_with
  ended_exits cs s w n =
      guarded_exits (held_all v cs) (λ _. rw w refl) _
      (λ _. ending (answer_of v.party.answer) s (given_up cs v) w
      (record { next = n; kept = ap (kept_by k) (given_up_rest cs v); answer= = λ _. refl; spares = λ _. rw (given_up_rest cs v) (spares_all v) }))

-- A step that gives up all that its party claims, then leads to a step at which nothing is held, or ends the
-- operation: 12, 14 and 22.
module _ (v : View) (k : ℕ) (u : View) (w : want_at k v ≡ none) (kept : kept_by k u ≡ kept_by k v) (answer : u.party.answer ≡ v.party.answer)
    (up : has_step v.party.operation k ≡ true → claims_at k v.party ≡ gives_up_moving k v.party)
    (no : requested k none ≡ none) (spares : Ready v → Spares v u.pages) where
  leads_exits : (j : ℕ) → is_next v.party.operation k j ≡ true → is_other k j ≡ true → claims u.root (at_step j u.party) ≡ []
      → (v.party.step ≡ k → Ready v → LinksThen k v (at_step j u.party)) → Exit v k (moved (with_party (at_step j u.party) u))
  leads_exits j n d c m = moved_exits v k (with_party (at_step j u.party) u) n kept w d (λ has. rw (up has, no, c) (trade_all (gives_up_moving k v.party))) spares m

  finished_exits : is_next v.party.operation k 0 ≡ true → Exit v k (finished u)
  unfolding finished
  finished_exits n =
      ending (answer_of u.party.answer) (restructuring_of u.party.owed) u w (record { next = n; kept = kept; answer= = λ _. ap answer_of answer; spares = spares })

  onward_exits : is_next v.party.operation k 15 ≡ true → is_next v.party.operation k 23 ≡ true → is_next v.party.operation k 0 ≡ true → is_other k 15 ≡ true → is_other k 23 ≡ true
      → Exit v k (onward u)
  unfolding onward claims old_open is_among
  onward_exits m n e a b =
      cond_ind (Exit v k) (eqb u.party.owed 1) _ _ (λ _. leads_exits 15 m a refl (unlinked v k _ refl refl))
      (λ _. cond_ind (Exit v k) (eqb u.party.owed 2) _ _ (λ _. leads_exits 23 n b refl (unlinked v k _ refl refl)) (λ _. finished_exits e))

  -- 13 on the same old link.
  old_pages_exit : (o : Outcome) → is_next v.party.operation k 13 ≡ true → is_other k 13 ≡ true → u.party.old ≡ v.party.old → old_open (at_step k v.party) ≡ true
      → gives_pages k ≡ false → Exit v k o → Exit v k (old_pages_first u o)
  unfolding old_pages_first claims
  old_pages_exit o n d e h g f =
      cond_ind (Exit v k) (eqb u.party.old 0) _ _ (λ _. f) (λ _. leads_exits 13 n d refl (still_linked v k _ refl e h g))

-- ---- Every step

abbrev pub ExitsAt : ℕ → (View → Outcome) → Type 0
ExitsAt k f = (v : View) → Exit v k (f v)

exits_01 : ExitsAt 1 step01
unfolding step01 want_table is_next next_table writes writes_table is_among gives_up_moving claims old_open
exits_01 v = request_exits v 1 root_read _ refl refl refl refl refl (trade_more [] root_read) (unlinked v 1 _ refl refl)

exits_02 : ExitsAt 2 step02
unfolding step02 want_table is_next next_table writes writes_table is_among gives_up_moving requested claims old_open
exits_02 v = moved_exits v 2 _ refl refl refl refl (λ _. trade_none (root_read ∷ [])) (λ _. spares_all v) (unlinked v 2 _ refl refl)

exits_03 : ExitsAt 3 step03
unfolding step03 located want_table is_next next_table writes writes_table is_among gives_up_moving requested claims old_open
exits_03 v =
    guarded_exits v 3 (ltb (located v.root v.party).chain v.root.primaries) (λ _. refl) _
    (λ _. moved_exits v 3 _ refl refl refl refl (λ _. trade_none (root_read ∷ [])) (λ _. spares_all v) (unlinked v 3 _ refl refl))

exits_04 : ExitsAt 4 step04
unfolding step04 want_table is_next next_table writes writes_table is_among gives_up_moving claims mode_of old_open
exits_04 v = request_exits v 4 (chain_lock v.party) _ refl refl refl refl refl (trade_more (root_read ∷ []) (chain_lock v.party)) (unlinked v 4 _ refl refl)

exits_05 : ExitsAt 5 step05
unfolding step05 want_table is_next next_table writes writes_table is_among gives_up_moving requested claims mode_of old_open
exits_05 v = release_exits v 5 root_read _ refl refl refl refl (trade_less root_read (chain_lock v.party ∷ [])) (unlinked v 5 _ refl refl)

-- A party's own scratch page written.
scratch_spares : (v : View) (ps w : List ℕ) → Ready v → Spares v ps → length w ≡ page_words → Spares v (with_page ps (scratch_page v.root v.number) w)
scratch_spares v ps w ready s h = spares_written v ready ps s (scratch_page v.root v.number) w (scratch_writable v ready (scratch_page v.root v.number) refl) h

primary_long : (v : View) → Ready v → length (page_of v.pages (primary_page v.party.chain)) ≡ page_words
primary_long v ready = length_page_of (has_page v ready v.pages (primary_page v.party.chain) refl (omega (arith, ready.chain_fits)))

-- 6 on to 9 for a find, else to 10.
arrived_exits : (v : View) (t : Chase) (find : Bool) → eqb v.party.operation 1 ≡ find
    → Exit v 6 (moved (with_party (at_step (cond find 9 10) (with_lev t.lev v.party)) (with_scratch (page_of v.pages (primary_page v.party.chain)) v)))
unfolding want_table is_next next_table writes writes_table is_among gives_up_moving requested claims mode_of old_open
arrived_exits v t true e =
    moved_exits v 6 _ (rw e refl) refl refl refl (λ _. trade_none (chain_lock v.party ∷ [])) (λ ready. scratch_spares v v.pages _ ready (spares_all v) (primary_long v ready))
    (λ at ready. record { scratch_then = λ h. refl; old_then = none_open refl })
arrived_exits v t false e =
    moved_exits v 6 _ (rw e refl) refl refl refl (λ _. trade_none (chain_lock v.party ∷ [])) (λ ready. scratch_spares v v.pages _ ready (spares_all v) (primary_long v ready))
    (λ at ready. record { scratch_then = λ h. refl; old_then = none_open refl })

exits_06 : ExitsAt 6 step06
unfolding step06 arrived chasing want_table is_next next_table writes writes_table is_among gives_up_moving requested claims mode_of old_open
exits_06 v =
    let p = v.party in
    let w = page_of v.pages (primary_page p.chain) in
    let t = chase_of v in
    guarded_exits v 6 (page_sound v.root w && leb p.lev (level_of w) && ltb t.chain v.root.primaries) (λ _. refl) _
    (λ _. cond_ind (λ (q : Party). Exit v 6 (moved (with_party q (with_scratch w v)))) (eqb t.chain p.chain) (arrived t p) (chasing t p)
    (λ _. arrived_exits v t (eqb p.operation 1) refl)
    (λ _. moved_exits v 6 _ refl refl refl refl (λ _. trade_none (chain_lock p ∷ [])) (λ ready. scratch_spares v v.pages w ready (spares_all v) (primary_long v ready)) (unlinked v 6 _ refl refl)))

exits_07 : ExitsAt 7 step07
unfolding step07 want_table is_next next_table writes writes_table is_among gives_up_moving claims mode_of old_open
exits_07 v = request_exits v 7 (chain_lock v.party) _ refl refl refl refl refl (trade_more (other_lock v.party ∷ []) (chain_lock v.party)) (unlinked v 7 _ refl refl)

exits_08 : ExitsAt 8 step08
unfolding step08 want_table is_next next_table writes writes_table is_among gives_up_moving requested claims mode_of old_open
exits_08 v = release_exits v 8 (other_lock v.party) _ refl refl refl refl (trade_less (other_lock v.party) (chain_lock v.party ∷ [])) (unlinked v 8 _ refl refl)

answered_exits : (v : View) (a : OperationAnswer) → Exit v 9 (answered v a)
unfolding answered given_up without_hold want_table is_next next_table writes writes_table is_among
answered_exits v a =
    let cs = chain_lock v.party ∷ [] in
    guarded_exits v 9 (held_all v cs) (λ _. refl) _
    (λ _. ending a Restructuring.None (given_up cs v) refl (record { next = refl; kept = refl; answer= = λ n. absurd (n refl); spares = λ _. spares_all v }))

looked_exits : (v : View) → page_sound v.root (scratch_of v) ≡ true → eqb (link_of (scratch_of v)) 0 ≡ false → Exit v 9 (looked_on v)
unfolding looked_on want_table is_next next_table writes writes_table is_among gives_up_moving requested old_open
looked_exits v s n =
    let l = link_of (scratch_of v) in
    let over = names_page v.root l (names_linked v.root l (sound_link v.root (scratch_of v) s) n) in
    guarded_exits v 9 (page_sound v.root (page_of v.pages (linked_page l))) (λ _. refl) _
    (λ _. looking refl refl (eqb-false l 0 n)
    (λ at. record {
      next = rw at refl;
      kept = refl;
      trade = λ _. rw (claims_at_lem v.root v.party 9 at) (trade_none (chain_lock v.party ∷ []));
      spares = λ ready. scratch_spares v v.pages (page_of v.pages (linked_page l)) ready (spares_all v) (length_page_of (has_page v ready v.pages (linked_page l) refl (omega (arith, over.below))));
      marks = λ at ready. record { scratch_then = λ h. refl; old_then = none_open (open_at v.party 9 at) };
    }))

exits_09 : ExitsAt 9 step09
unfolding step09 want_table
exits_09 v =
    guarded_exits v 9 (page_sound v.root (scratch_of v)) (λ _. refl) _
    (λ s. cond_ind (Exit v 9) (has_key v.party.key (entries_of (scratch_of v))) _ _ (λ _. answered_exits v _)
    (λ _. cond_ind (Exit v 9) (eqb (link_of (scratch_of v)) 0) _ _ (λ _. answered_exits v _) (λ n. looked_exits v s n)))

-- An answer that changes nothing is no change's.
abbrev NoChange : Change → Type 0
NoChange (kept a) = is_change a ≡ false
NoChange (changed a es) = Unit {0}

no_change : (operation k x : ℕ) (es : List Entry) → NoChange (change_of operation k x es)
unfolding change_of is_change answer_number
no_change operation k x es =
    cond_ind NoChange (eqb operation 2) _ _ (λ _. cond_ind NoChange (has_key k es) _ _ (λ _. refl) (λ _. tt)) (λ _. cond_ind NoChange (has_key k es) _ _ (λ _. tt) (λ _. refl))

nothing_exits : (v : View) (a : ℕ) → is_change a ≡ false → Exit v 10 (changes_nothing v a)
unfolding changes_nothing want_table is_next next_table writes writes_table is_among gives_up_moving requested claims mode_of old_open
nothing_exits v a h = moved_exits v 10 _ refl refl refl refl (λ _. trade_none (chain_lock v.party ∷ [])) (λ _. spares_all v) (unlinked v 10 _ refl h)

rebuild_exits : (v : View) (c : Chain) (x : Change) → NoChange x → Exit v 10 (rebuild_with v c x)
unfolding rebuild_with rebuilt root_after_taking changing answer_number is_change want_table is_next next_table writes writes_table is_among gives_up_moving requested claims mode_of
rebuild_exits v c (kept a) h = nothing_exits v a h
rebuild_exits v c (changed a es) h =
    let k = pages_for v.root.capacity es in
    cond_ind (Exit v 10) (too_few v.root k) _ _ (λ _. nothing_exits v 5 refl)
    (λ _. found_exits v 10 (λ (t : Taken). All (IsOverflow v.root) t.pages) (pages_taken v.root v.pages k) refl (λ t. rebuilt v c a es t) (taken_overflow v.root v.pages k)
    (λ t over. moved_exits v 10 _ refl refl refl refl (λ _. trade_none (chain_lock v.party ∷ []))
    (λ ready. built_spares v ready c.level es t.pages over)
    (λ at ready. record { scratch_then = λ h. refl; old_then = set-now refl })))

exits_10 : ExitsAt 10 step10
unfolding step10 want_table
exits_10 v =
    let p = v.party in
    checked_exits v 10 (chain_of v.root v.pages p.chain) refl _
    (λ c. rebuild_exits v c (change_of p.operation p.key p.setting c.entries) (no_change p.operation p.key p.setting c.entries))

exits_11 : ExitsAt 11 step11
unfolding step11 want_table is_next next_table writes writes_table is_among gives_up_moving requested claims mode_of old_open
exits_11 v = written_exits v 11 12 refl refl refl refl (trade_none (chain_lock v.party ∷ [])) (still_linked v 11 _ refl refl refl refl)

-- An insert or a delete gives its chain up as it holds it.
selective_chain : (p : Party) → has_step p.operation 12 ≡ true → claims_at 12 p ≡ chain_selective p ∷ []
unfolding has_step
selective_chain p has = ap (λ (o : Mode). claim (chain_word p.chain) o ∷ []) (changes_selectively p has)

exits_12 : ExitsAt 12 step12
unfolding step12 given_up without_hold want_table is_next next_table writes writes_table is_among gives_up_moving requested old_open
exits_12 v =
    let cs = chain_selective v.party ∷ [] in
    let u = given_up cs v in
    let c = selective_chain v.party in
    let l : Ready v → Spares v v.pages = λ _. spares_all v in
    guarded_exits v 12 (held_all v cs) (λ _. refl) _
    (λ _. cond_ind (Exit v 12) (is_change v.party.answer) _ _
    (λ h. old_pages_exit v 12 u refl refl refl c refl l _ refl refl refl h refl (onward_exits v 12 u refl refl refl c refl l refl refl refl refl refl))
    (λ _. finished_exits v 12 u refl refl refl c refl l refl))

exits_13 : ExitsAt 13 step13
unfolding step13 want_table is_next next_table writes writes_table is_among gives_up_moving claims old_open
exits_13 v =
    guarded_exits v 13 (names_overflow v.root v.party.old) (λ e. rw e refl) _
    (λ e. request_exits v 13 (chain_exclusive v.party) _ refl e refl refl refl (trade_more [] (chain_exclusive v.party)) (still_linked v 13 _ refl refl refl refl))

exits_14 : ExitsAt 14 step14
unfolding step14 old_given_back given_up without_hold pages_given_back want_table is_next next_table writes writes_table is_among gives_up_moving requested
exits_14 v =
    let cs = chain_exclusive v.party ∷ [] in
    guarded_exits v 14 (names_overflow v.root v.party.old) (λ _. refl) _
    (λ n. found_exits v 14 (All (IsOverflow v.root)) (list_from v.root v.pages v.party.old) refl (λ xs. old_given_back v xs)
    (list_overflow_ok v.root v.pages v.party.old (names_sound v.root v.party.old n))
    (λ xs over. guarded_exits v 14 (room_to_give_back v.root (length xs) && held_all v cs) (λ _. refl) _
    (λ _. onward_exits v 14 (with_party (with_old 0 v.party) (given_up cs (pages_given_back xs v))) refl refl refl (λ _. refl) refl
    (λ ready. spares_given v ready v.pages (spares_all v) v.root.head xs over)
    refl refl refl refl refl)))

exits_15 : ExitsAt 15 step15
unfolding step15 want_table is_next next_table writes writes_table is_among gives_up_moving claims old_open
exits_15 v = request_exits v 15 root_selective _ refl refl refl refl refl (trade_more [] root_selective) (unlinked v 15 _ refl refl)

exits_16 : ExitsAt 16 step16
unfolding step16 splitting want_table is_next next_table writes writes_table is_among gives_up_moving claims old_open
exits_16 v =
    cond_ind (Exit v 16) (split_barred (count_of_chains v.root) v.root.primaries) _ _ (λ e. ended_exits v 16 _ _ (rw e refl) refl)
    (λ e. request_exits v 16 (next_selective v.root) _ (rw e refl) refl refl refl refl (trade_more (root_selective ∷ []) (next_selective v.root)) (unlinked v 16 _ refl refl))

divide_exits : (v : View) (c : Chain) (h : Halves) → Exit v 17 (divide_with v c h)
unfolding divide_with divided root_after_taking want_table is_next next_table writes writes_table is_among gives_up_moving requested claims
divide_exits v c h =
    let b = v.root.capacity in
    let k = halves_need b h in
    cond_ind (Exit v 17) (too_few v.root k) _ _ (λ _. ended_exits v 17 _ _ refl refl)
    (λ _. found_exits v 17 (λ (t : Taken). All (IsOverflow v.root) t.pages) (pages_taken v.root v.pages k) refl (λ t. divided v c h t) (taken_overflow v.root v.pages k)
    (λ t over. moved_exits v 17 _ refl refl refl refl (λ _. trade_none (root_selective ∷ (chain_selective v.party ∷ [])))
    (λ ready. scratch_spares v (halves_written v h t.pages) _ ready (halves_spares v ready h t.pages over)
    (length-primary_of b (v.root.level + 1) h.stay (take (pages_for b h.stay) t.pages) ready.keys_fit))
    (λ at ready. reads_old_lem 17 v _ refl refl)))

exits_17 : ExitsAt 17 step17
unfolding step17 want_table
exits_17 v =
    guarded_exits v 17 (not (split_barred (count_of_chains v.root) v.root.primaries)) (λ _. refl) _
    (λ _. checked_exits v 17 (chain_of v.root v.pages v.party.chain) refl _ (λ c. divide_exits v c (halves_of v c)))

exits_18 : ExitsAt 18 step18
unfolding step18 want_table is_next next_table writes writes_table is_among gives_up_moving requested claims old_open
exits_18 v = written_exits v 18 19 refl refl refl refl (trade_none (root_selective ∷ (chain_selective v.party ∷ []))) (still_linked v 18 _ refl refl refl refl)

exits_19 : ExitsAt 19 step19
unfolding step19 want_table is_next next_table writes writes_table is_among gives_up_moving requested claims old_open
exits_19 v =
    release_exits v 19 (chain_selective v.party) _ refl refl refl refl (trade_last (root_selective ∷ []) (chain_selective v.party)) (still_linked v 19 _ refl refl refl refl)

exits_20 : ExitsAt 20 step20
unfolding step20 want_table is_next next_table writes writes_table is_among gives_up_moving requested claims old_open
exits_20 v =
    moved_exits v 20 _ refl refl refl refl (λ _. trade_none (root_selective ∷ [])) (λ _. spares_all v) (still_linked v 20 _ refl refl refl refl)

exits_21 : ExitsAt 21 step21
unfolding step21 want_table is_next next_table writes writes_table is_among gives_up_moving requested claims old_open
exits_21 v =
    moved_exits v 21 _ refl refl refl refl (λ _. trade_none (root_selective ∷ [])) (λ _. spares_all v) (still_linked v 21 _ refl refl refl refl)

exits_22 : ExitsAt 22 step22
unfolding step22 given_up without_hold want_table is_next next_table writes writes_table is_among gives_up_moving requested old_open
exits_22 v =
    let cs = root_selective ∷ [] in
    let u = with_party (with_owed 3 v.party) (given_up cs v) in
    let l : Ready v → Spares v v.pages = λ _. spares_all v in
    guarded_exits v 22 (held_all v cs) (λ _. refl) _
    (λ _. old_pages_exit v 22 u refl refl refl (λ _. refl) refl l _ refl refl refl refl refl (finished_exits v 22 u refl refl refl (λ _. refl) refl l refl))

exits_23 : ExitsAt 23 step23
unfolding step23 want_table is_next next_table writes writes_table is_among gives_up_moving claims old_open
exits_23 v = request_exits v 23 root_exclusive _ refl refl refl refl refl (trade_more [] root_exclusive) (unlinked v 23 _ refl refl)

exits_24 : ExitsAt 24 step24
unfolding step24 merging want_table is_next next_table writes writes_table is_among gives_up_moving claims old_open
exits_24 v =
    cond_ind (Exit v 24) (merge_stops v.root) _ _ (λ e. ended_exits v 24 _ _ (rw e refl) refl)
    (λ e. request_exits v 24 (target_exclusive v.root) _ (rw e refl) refl refl refl refl (trade_more (root_exclusive ∷ []) (target_exclusive v.root)) (unlinked v 24 _ refl refl))

exits_25 : ExitsAt 25 step25
unfolding step25 want_table is_next next_table writes writes_table is_among gives_up_moving claims old_open
exits_25 v =
    request_exits v 25 (other_exclusive v.party) _ refl refl refl refl refl (trade_more (root_exclusive ∷ (chain_exclusive v.party ∷ [])) (other_exclusive v.party)) (unlinked v 25 _ refl refl)

combine_exits : (v : View) (m : Pair) → Exit v 26 (combine_with v m)
unfolding combine_with combined want_table is_next next_table writes writes_table is_among gives_up_moving requested claims
combine_exits v m =
    cond_ind (Exit v 26) (merge_goes v.root m) _ _
    (λ _. moved_exits v 26 _ refl refl refl refl (λ _. trade_none (merge_locks root_exclusive v.party))
    (λ ready. scratch_spares v v.pages _ ready (spares_all v) (length-primary_of v.root.capacity m.target.level (joined_entries m) [] ready.keys_fit))
    (λ at ready. reads_old_lem 26 v _ refl refl))
    (λ _. ended_exits v 26 _ _ refl refl)

exits_26 : ExitsAt 26 step26
unfolding step26 want_table
exits_26 v =
    guarded_exits v 26 (not (merge_stops v.root)) (λ _. refl) _
    (λ _. checked_exits v 26 (pair_of v.root v.pages v.party.chain v.party.other) refl _ (λ m. combine_exits v m))

exits_27 : ExitsAt 27 step27
unfolding step27 root_moved_back want_table is_next next_table writes writes_table is_among gives_up_moving requested claims old_open
exits_27 v =
    guarded_exits v 27 (not (merge_stops v.root) && is_held v root_exclusive) (λ _. refl) _
    (λ _. moved_exits v 27 _ refl refl refl refl (λ _. trade_turn root_exclusive root_selective (chain_exclusive v.party ∷ (other_exclusive v.party ∷ [])))
    (λ _. spares_all v) (still_linked v 27 _ refl refl refl refl))

exits_28 : ExitsAt 28 step28
unfolding step28 want_table is_next next_table writes writes_table is_among gives_up_moving requested claims old_open
exits_28 v =
    let s = scratch_of v in
    guarded_exits v 28 (page_sound v.root s && not (eqb (level_of s) 0)) (λ _. refl) _
    (λ _. moved_exits v 28 _ refl refl refl refl (λ _. trade_none (merge_locks root_selective v.party))
    (λ ready. spares_written v ready v.pages (spares_all v) (primary_page v.party.chain) (with_local_level (level_of s - 1) s)
    (primary_writable v ready v.party.chain ready.chain_fits) (length-with_local_level (level_of s - 1) s (scratch_long v ready)))
    (still_linked v 28 _ refl refl refl refl))

exits_29 : ExitsAt 29 step29
unfolding step29 partner_cleared pages_given_back want_table is_next next_table writes writes_table is_among gives_up_moving requested claims old_open
exits_29 v =
    found_exits v 29 (All (IsOverflow v.root)) (merged_away v.root v.pages v.party) refl (λ xs. partner_cleared v xs) (merged_overflow v.root v.pages v.party)
    (λ xs over. moved_exits v 29 _ refl refl refl refl (λ _. trade_none (merge_locks root_selective v.party))
    (λ ready. spares_written v ready (pages_given_back xs v).pages (spares_given v ready v.pages (spares_all v) v.root.head xs over) (primary_page v.party.other) zero_page
    (primary_writable v ready v.party.other ready.other_fits) length-zero_page)
    (unlinked v 29 _ refl refl))

exits_30 : ExitsAt 30 step30
unfolding step30 want_table is_next next_table writes writes_table is_among
exits_30 v = ended_exits v 30 _ _ refl refl

-- ---- Every step number

all_exits : Numbered ExitsAt 0 step_table
unfolding step_table want_table
all_exits =
    (λ v. refusing refl) ▸ exits_01 ▸ exits_02 ▸ exits_03 ▸ exits_04 ▸ exits_05 ▸ exits_06 ▸ exits_07 ▸ exits_08 ▸ exits_09
    ▸ exits_10 ▸ exits_11 ▸ exits_12 ▸ exits_13 ▸ exits_14 ▸ exits_15 ▸ exits_16 ▸ exits_17 ▸ exits_18 ▸ exits_19
    ▸ exits_20 ▸ exits_21 ▸ exits_22 ▸ exits_23 ▸ exits_24 ▸ exits_25 ▸ exits_26 ▸ exits_27 ▸ exits_28 ▸ exits_29 ▸ exits_30 ▸ tt

pub step_exits : (k : ℕ) → ExitsAt k (step_of k)
unfolding step_of step_table want_table
step_exits k v = go (ord k 31)
  where
    go : Ord k 31 → Exit v k (step_of k v)
    go (lt h _) = numbered_below ExitsAt no_step step_table all_exits k h v
    go (ge h _) = rw (get_or-eq_default step_table no_step h) (refusing (rw (get_or-eq_default want_table wants_none h) refl))
