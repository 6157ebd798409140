-- Each of the thirty steps on its view and on the page memory beside it.
-- Main statement: step_reads (of every step number).
use mathlib.Core.Path.{◌≡◌, refl, ◌∙◌}
use mathlib.Core.Bool.{Bool, true, false, not, ◌&&◌, false≢true}
use mathlib.Core.List.{List, [], ◌∷◌, ◌++◌, map-append}
use Prim.Native.Nat.{ℕ, ◌+◌, ◌-◌}
use native.Mathlib.Omega.{arith}
use lib.ListN.{length, take, drop}
use lib.Dec.{eqb, leb, ltb}
use Rattle.model.specs.declared.OperationAnswer.{OperationAnswer}
use Rattle.model.specs.declared.Restructuring.TheVariants as Restructuring
use Rattle.model.specs.Records.{with_owed}
use Rattle.model.specs.Addresses.{split_barred, count_of_chains}
use Rattle.model.specs.Entries.{has_key, shares_key, setting_in}
use Rattle.model.specs.Pages.{page_of, level_of, link_of, entries_of, zero_page, with_local_level, page_sound, link_sound, names_overflow, primary_page, scratch_page, linked_page}
use Rattle.model.specs.Chains.{damaged, sound, Chain, chain_of, list_from}
use Rattle.model.specs.Filling.{pages_for, primary_of}
use Rattle.model.specs.FreeList.{too_few, given_back, root_after_taking, room_to_give_back, pages_given_back}
use Rattle.model.specs.Outcome.{View, Outcome, with_party, with_pages}
use Rattle.model.specs.ScratchPages.{scratch_of}
use Rattle.model.specs.LockRequests.{is_held, held_all, without_hold, given_up, chain_lock, chain_selective, chain_exclusive, root_selective, root_exclusive}
use Rattle.theory.specs.Links.{Follow, chain_pages, list_pages, read_now, walked_from, trace_nine, trace_fourteen, trace_twenty_nine, trace_of}
use Rattle.model.specs.Answers.{is_moved, performs, found_or_absent}
use Rattle.theory.specs.Reads.{pages_followed}
use Rattle.model.specs.Steps.Locate.{located, step01, step02, step03, step04, step05}
use Rattle.model.specs.Steps.Chase.{chase_of, step06, step07, step08}
use Rattle.model.specs.Steps.Find.{answered, looked_on, step09}
use Rattle.model.specs.Steps.Rebuild.{Change, kept, changed, change_of, changes_nothing, changing, rebuilt, rebuild_with, step10}
use Rattle.model.specs.Steps.Write.{is_change, step11, step12}
use Rattle.model.specs.Steps.OldPages.{old_given_back, step13, step14}
use Rattle.model.specs.Steps.SplitBuild.{Halves, halves_of, halves_need, halves_written, divided, divide_with, step17}
use Rattle.model.specs.Steps.SplitLocks.{step15, step16, step19, step22}
use Rattle.model.specs.Steps.SplitWrite.{step18, step20, step21}
use Rattle.model.specs.Steps.MergeLocks.{merge_stops, step23, step24, step25, step30}
use Rattle.model.specs.Steps.MergeBuild.{Pair, pair_of, joined_entries, merge_goes, combined, combine_with, step26}
use Rattle.model.specs.Steps.MergeWrite.{merged_away, partner_cleared, step27, step28, step29}
use Rattle.model.specs.Steps.Dispatch.{no_step, step_table, step_of}
use Rattle.model.proofs.Laws.Lists.{cond_ind, All, ◌▸◌, Numbered, numbered_at, all_left as All-first, all_right as all_second, all_from, all_in, among_take, among_drop}
use Rattle.model.proofs.Laws.Pages.{length_page_of, length-zero_page, length-with_local_level}
use Rattle.model.proofs.Laws.Filling.{IsOverflow, length-primary_of}
use Rattle.model.proofs.Exits.Scratches.{IfSound, has_page, list_overflow_ok, names_page, names_linked, sound_link, names_sound, all_taken, all_left, merged_overflow}
use Rattle.theory.proofs.Traces.{chain_followed, list_followed}
use Rattle.theory.proofs.StepReads.Readings.{if_known, then_known, from_sound, ListRead, ChainRead, PairRead, MergedRead, list_alike, chain_alike, pair_alike, merged_alike}
use Rattle.theory.proofs.StepReads.Writings.{Beside, Alike, Open, open_same, alike_start, alike_overflow, alike_given, head_alike}
use Rattle.theory.proofs.StepReads.Outcomes.{Reads, guarded_reads, tested_reads, checked_reads, cond_reads, moved_same, moved_reads, scratch_same, primary_same, scratch_written_ok, primary_written_ok, request_reads, done_reads, release_reads, ended_reads, finished_reads, onward_reads, old_reads, scratch_long, over_reads, taking_reads, built_alike}

-- Step number n, with whatever page memory beside its view.
abbrev pub ReadsAt : ℕ → (View → Outcome) → Type 0
ReadsAt n f = (v : View) (ps' : List ℕ) (opens : ℕ → Bool) → Beside v ps' opens → Reads n v ps' opens (f v) (f (with_pages ps' v))

-- ---- Pages followed, as they are listed

pub now_pages : (t : ℕ) (xs : List ℕ) → pages_followed (read_now t xs) ≡ xs
unfolding pages_followed
now_pages t [] = refl
now_pages t (x ∷ xs) = rw (now_pages t xs)

pub walked_pages : (s t : ℕ) (xs : List ℕ) → pages_followed (walked_from s t xs) ≡ xs
unfolding pages_followed walked_from
walked_pages s t [] = refl
walked_pages s t (x ∷ xs) = rw (now_pages t xs)

-- ---- 1 to 8

reads_01 : ReadsAt 1 step01
unfolding step01
reads_01 v ps' opens b = request_reads 1 v ps' opens b _ _

reads_02 : ReadsAt 2 step02
unfolding step02
reads_02 v ps' opens b = moved_reads 2 v ps' opens _ ps' (alike_start v ps' opens b)

reads_03 : ReadsAt 3 step03
unfolding step03
reads_03 v ps' opens b =
    tested_reads 3 v ps' opens (ltb (located v.root v.party).chain v.root.primaries) _ _ (λ _. moved_reads 3 v ps' opens _ ps' (alike_start v ps' opens b))

reads_04 : ReadsAt 4 step04
unfolding step04
reads_04 v ps' opens b = request_reads 4 v ps' opens b _ _

reads_05 : ReadsAt 5 step05
unfolding step05
reads_05 v ps' opens b = release_reads 5 v ps' opens b _ _

reads_06 : ReadsAt 6 step06
unfolding step06 chase_of
reads_06 v ps' opens b =
    let w = page_of v.pages (primary_page v.party.chain) in
    rw (primary_same 6 v ps' opens b v.party.chain b.ready.chain_fits)
    (tested_reads 6 v ps' opens (page_sound v.root w && leb v.party.lev (level_of w) && ltb (chase_of v).chain v.root.primaries) _ _
    (λ _. moved_reads 6 v ps' opens _ _
    (scratch_written_ok 6 v ps' opens b v.pages ps' (alike_start v ps' opens b) (scratch_page v.root v.number) w refl
    (length_page_of (has_page v b.ready v.pages (primary_page v.party.chain) refl (omega (arith, b.ready.chain_fits)))))))

reads_07 : ReadsAt 7 step07
unfolding step07
reads_07 v ps' opens b = request_reads 7 v ps' opens b _ _

reads_08 : ReadsAt 8 step08
unfolding step08
reads_08 v ps' opens b = release_reads 8 v ps' opens b _ _

-- ---- 9

answered_reads : (v : View) (ps' : List ℕ) (opens : ℕ → Bool) → Beside v ps' opens → (a : OperationAnswer) → Reads 9 v ps' opens (answered v a) (answered (with_pages ps' v) a)
unfolding answered given_up without_hold held_all is_held
answered_reads v ps' opens b a =
    let cs = chain_lock v.party ∷ [] in
    tested_reads 9 v ps' opens (held_all v cs) _ _ (λ _. done_reads 9 v ps' opens b a Restructuring.None (given_up cs v) ps' (alike_start v ps' opens b) refl)

on_reads : (v : View) (ps' : List ℕ) (opens : ℕ → Bool) → Beside v ps' opens → page_sound v.root (scratch_of v) ≡ true → eqb (link_of (scratch_of v)) 0 ≡ false
    → Reads 9 v ps' opens (looked_on v) (looked_on (with_pages ps' v))
unfolding looked_on trace_of trace_nine is_moved pages_followed
on_reads v ps' opens b s d =
    let l = link_of (scratch_of v) in
    let w = page_of v.pages (linked_page l) in
    let over = names_page v.root l (names_linked v.root l (sound_link v.root (scratch_of v) s) d) in
    let k = scratch_written_ok 9 v ps' opens b v.pages ps' (alike_start v ps' opens b) (scratch_page v.root v.number) w refl
    (length_page_of (has_page v b.ready v.pages (linked_page l) refl (omega (arith, over.below)))) in
    rw (scratch_same 9 v ps' opens b)
    (guarded_reads 9 v ps' opens (page_sound v.root w) (page_sound v.root (page_of ps' (linked_page l))) _ _ (λ t c. rw (b.agree (linked_page l) c.follows.0) t)
    (λ t. record { go = λ p c. rw (b.agree (linked_page l) c.follows.0) (moved_same 9 v ps' opens _ _ k) }))

reads_09 : ReadsAt 9 step09
unfolding step09
reads_09 v ps' opens b =
    let s = scratch_of v in
    rw (scratch_same 9 v ps' opens b)
    (tested_reads 9 v ps' opens (page_sound v.root s) _ _
    (λ t. cond_reads 9 v ps' opens (has_key v.party.key (entries_of s)) _ _ _ _ (λ _. answered_reads v ps' opens b (found_or_absent (setting_in v.party.key (entries_of s))))
    (λ _. cond_reads 9 v ps' opens (eqb (link_of s) 0) _ _ _ _ (λ _. answered_reads v ps' opens b OperationAnswer.Absent) (λ d. on_reads v ps' opens b t d))))

-- ---- 10 to 14

chain_read : (v : View) (ps' : List ℕ) (opens : ℕ → Bool) → Beside v ps' opens → (h : Chain) → chain_of v.root v.pages v.party.chain ≡ sound h
    → Open opens (chain_pages v v.party.chain) → chain_of v.root ps' v.party.chain ≡ sound h
chain_read v ps' opens b h e o =
    from_sound (ChainRead v.root v.pages ps' v.party.chain) (chain_of v.root v.pages v.party.chain)
    (chain_alike v.root v.pages ps' v.party.chain (primary_same 0 v ps' opens b v.party.chain b.ready.chain_fits)) h e
    (open_same v ps' opens b h.pages (rw (chain_followed v v.party.chain h e) at o))

rebuild_reads : (v : View) (ps' : List ℕ) (opens : ℕ → Bool) → Beside v ps' opens → (c : Chain) (x : Change) → Reads 10 v ps' opens (rebuild_with v c x) (rebuild_with (with_pages ps' v) c x)
unfolding rebuild_with rebuilt root_after_taking changing changes_nothing
rebuild_reads v ps' opens b c (kept a) = moved_reads 10 v ps' opens _ ps' (alike_start v ps' opens b)
rebuild_reads v ps' opens b c (changed a es) =
    let k = pages_for v.root.capacity es in
    cond_reads 10 v ps' opens (too_few v.root k) _ _ _ _ (λ _. moved_reads 10 v ps' opens _ ps' (alike_start v ps' opens b))
    (λ enough. taking_reads 10 v ps' opens b k (λ t. rebuilt v c a es t) (λ t. rebuilt (with_pages ps' v) c a es t) enough (λ t. refl)
    (λ t o over. moved_same 10 v ps' opens _ _ (built_alike 10 v ps' opens b c.level es t.pages o over)))

reads_10 : ReadsAt 10 step10
unfolding step10 trace_of
reads_10 v ps' opens b =
    checked_reads 10 v ps' opens (chain_of v.root v.pages v.party.chain) (chain_of v.root ps' v.party.chain) _ _
    (λ c e l. chain_read v ps' opens b c e (rw (now_pages 0 (chain_pages v v.party.chain)) at l.follows))
    (λ c e. rebuild_reads v ps' opens b c (change_of v.party.operation v.party.key v.party.setting c.entries))

reads_11 : ReadsAt 11 step11
unfolding step11
reads_11 v ps' opens b = over_reads 11 v ps' opens b 12

reads_12 : ReadsAt 12 step12
unfolding step12 given_up without_hold held_all is_held
reads_12 v ps' opens b =
    let cs = chain_selective v.party ∷ [] in
    let k = alike_start v ps' opens b in
    tested_reads 12 v ps' opens (held_all v cs) _ _
    (λ _. cond_reads 12 v ps' opens (is_change v.party.answer) _ _ _ _
    (λ _. old_reads 12 v ps' opens b (given_up cs v) ps' _ _ k (onward_reads 12 v ps' opens b (given_up cs v) ps' k refl))
    (λ _. finished_reads 12 v ps' opens b (given_up cs v) ps' k refl))

reads_13 : ReadsAt 13 step13
unfolding step13
reads_13 v ps' opens b = tested_reads 13 v ps' opens (names_overflow v.root v.party.old) _ _ (λ _. request_reads 13 v ps' opens b _ _)

given_reads : (v : View) (ps' : List ℕ) (opens : ℕ → Bool) → Beside v ps' opens → (xs : List ℕ) → Open opens xs → All (IsOverflow v.root) xs
    → Reads 14 v ps' opens (old_given_back v xs) (old_given_back (with_pages ps' v) xs)
unfolding old_given_back pages_given_back given_up without_hold held_all is_held
given_reads v ps' opens b xs o over =
    let cs = chain_exclusive v.party ∷ [] in
    rw (head_alike v.pages ps' v.root.head xs)
    (tested_reads 14 v ps' opens (room_to_give_back v.root (length xs) && held_all v cs) _ _
    (λ _. onward_reads 14 v ps' opens b _ (given_back ps' v.root.head xs).pages
    (alike_given v ps' opens b v.pages ps' (alike_start v ps' opens b) v.root.head xs o over) refl))

reads_14 : ReadsAt 14 step14
unfolding step14 trace_of trace_fourteen
reads_14 v ps' opens b =
    let l = v.party.old in
    let listed = list_from v.root v.pages l in
    tested_reads 14 v ps' opens (names_overflow v.root l) _ _
    (λ n. checked_reads 14 v ps' opens listed (list_from v.root ps' l) (λ xs. old_given_back v xs) (λ xs. old_given_back (with_pages ps' v) xs)
    (λ xs e c. from_sound (ListRead v.root v.pages ps' l) listed (list_alike v.root v.pages ps' l) xs e (open_same v ps' opens b xs (opened xs e c.follows)))
    (λ xs e. record {
      go = λ p c. (given_reads v ps' opens b xs (opened xs e c.follows)
          (from_sound (All (IsOverflow v.root)) listed (list_overflow_ok v.root v.pages l (names_sound v.root l n)) xs e)).go p c;
    }))
  where
    opened : (xs : List ℕ) → list_from v.root v.pages v.party.old ≡ sound xs → Open opens (pages_followed (walked_from 0 0 (list_pages v v.party.old))) → Open opens xs
    opened xs e o = rw (walked_pages 0 0 (list_pages v v.party.old), list_followed v v.party.old xs e) at o

-- ---- 15 to 22

reads_15 : ReadsAt 15 step15
unfolding step15
reads_15 v ps' opens b = request_reads 15 v ps' opens b _ _

reads_16 : ReadsAt 16 step16
unfolding step16
reads_16 v ps' opens b =
    cond_reads 16 v ps' opens (split_barred (count_of_chains v.root) v.root.primaries) _ _ _ _ (λ _. ended_reads 16 v ps' opens b _ _)
    (λ _. request_reads 16 v ps' opens b _ _)

-- Pages of a list, its front or the rest, are open where the list's are.
open_take : (opens : ℕ → Bool) (k : ℕ) (xs : List ℕ) → Open opens xs → Open opens (take k xs)
open_take opens k xs o = all_from (λ x. opens x ≡ true) (take k xs) (λ x h. all_in (λ x. opens x ≡ true) x xs o (among_take x k xs h))

open_drop : (opens : ℕ → Bool) (k : ℕ) (xs : List ℕ) → Open opens xs → Open opens (drop k xs)
open_drop opens k xs o = all_from (λ x. opens x ≡ true) (drop k xs) (λ x h. all_in (λ x. opens x ≡ true) x xs o (among_drop x k xs h))

halves_alike : (v : View) (ps' : List ℕ) (opens : ℕ → Bool) → Beside v ps' opens → (h : Halves) (xs : List ℕ) → Open opens xs → All (IsOverflow v.root) xs
    → Alike opens v.pages ps' (halves_written v h xs) (halves_written (with_pages ps' v) h xs)
unfolding halves_written
halves_alike v ps' opens b h xs o a =
    let m = v.root.capacity in
    let k = pages_for m h.stay in
    let first = alike_overflow v ps' opens b v.pages ps' (alike_start v ps' opens b) (take k xs) h.stay (open_take opens k xs o) (all_taken v.root k xs a) in
    let second = alike_overflow v ps' opens b _ _ first (drop k xs) h.go (open_drop opens k xs o) (all_left v.root k xs a) in
    primary_written_ok 17 v ps' opens b _ _ second (primary_page v.party.other) (primary_of m (v.root.level + 1) h.go (drop k xs)) b.ready.other_fits
    (length-primary_of m (v.root.level + 1) h.go (drop k xs) b.ready.keys_fit)

divide_reads : (v : View) (ps' : List ℕ) (opens : ℕ → Bool) → Beside v ps' opens → (c : Chain) (h : Halves) → Reads 17 v ps' opens (divide_with v c h) (divide_with (with_pages ps' v) c h)
unfolding divide_with divided root_after_taking
divide_reads v ps' opens b c h =
    let m = v.root.capacity in
    let k = halves_need m h in
    cond_reads 17 v ps' opens (too_few v.root k) _ _ _ _ (λ _. ended_reads 17 v ps' opens b _ _)
    (λ enough. taking_reads 17 v ps' opens b k (λ t. divided v c h t) (λ t. divided (with_pages ps' v) c h t) enough (λ t. refl)
    (λ t o over. moved_same 17 v ps' opens _ _
    (scratch_written_ok 17 v ps' opens b (halves_written v h t.pages) (halves_written (with_pages ps' v) h t.pages) (halves_alike v ps' opens b h t.pages o over)
    (scratch_page v.root v.number) (primary_of m (v.root.level + 1) h.stay (take (pages_for m h.stay) t.pages)) refl
    (length-primary_of m (v.root.level + 1) h.stay (take (pages_for m h.stay) t.pages) b.ready.keys_fit))))

reads_17 : ReadsAt 17 step17
unfolding step17 trace_of halves_of
reads_17 v ps' opens b =
    tested_reads 17 v ps' opens (not (split_barred (count_of_chains v.root) v.root.primaries)) _ _
    (λ _. checked_reads 17 v ps' opens (chain_of v.root v.pages v.party.chain) (chain_of v.root ps' v.party.chain) _ _
    (λ c e l. chain_read v ps' opens b c e (rw (now_pages 0 (chain_pages v v.party.chain)) at l.follows))
    (λ c e. divide_reads v ps' opens b c (halves_of v c)))

reads_18 : ReadsAt 18 step18
unfolding step18
reads_18 v ps' opens b = over_reads 18 v ps' opens b 19

reads_19 : ReadsAt 19 step19
unfolding step19
reads_19 v ps' opens b = release_reads 19 v ps' opens b _ _

reads_20 : ReadsAt 20 step20
unfolding step20
reads_20 v ps' opens b = moved_reads 20 v ps' opens _ ps' (alike_start v ps' opens b)

reads_21 : ReadsAt 21 step21
unfolding step21
reads_21 v ps' opens b = moved_reads 21 v ps' opens _ ps' (alike_start v ps' opens b)

reads_22 : ReadsAt 22 step22
unfolding step22 given_up without_hold held_all is_held
reads_22 v ps' opens b =
    let cs = root_selective ∷ [] in
    let u = with_party (with_owed 3 v.party) (given_up cs v) in
    let k = alike_start v ps' opens b in
    tested_reads 22 v ps' opens (held_all v cs) _ _ (λ _. old_reads 22 v ps' opens b u ps' _ _ k (finished_reads 22 v ps' opens b u ps' k refl))

-- ---- 23 to 30

reads_23 : ReadsAt 23 step23
unfolding step23
reads_23 v ps' opens b = request_reads 23 v ps' opens b _ _

reads_24 : ReadsAt 24 step24
unfolding step24
reads_24 v ps' opens b =
    cond_reads 24 v ps' opens (merge_stops v.root) _ _ _ _ (λ _. ended_reads 24 v ps' opens b _ _) (λ _. request_reads 24 v ps' opens b _ _)

reads_25 : ReadsAt 25 step25
unfolding step25
reads_25 v ps' opens b = request_reads 25 v ps' opens b _ _

combine_reads : (v : View) (ps' : List ℕ) (opens : ℕ → Bool) → Beside v ps' opens → (m : Pair) → Reads 26 v ps' opens (combine_with v m) (combine_with (with_pages ps' v) m)
unfolding combine_with combined
combine_reads v ps' opens b m =
    cond_reads 26 v ps' opens (merge_goes v.root m) _ _ _ _
    (λ _. moved_reads 26 v ps' opens _ _
    (scratch_written_ok 26 v ps' opens b v.pages ps' (alike_start v ps' opens b) (scratch_page v.root v.number) (primary_of v.root.capacity m.target.level (joined_entries m) []) refl
    (length-primary_of v.root.capacity m.target.level (joined_entries m) [] b.ready.keys_fit)))
    (λ _. ended_reads 26 v ps' opens b _ _)

-- The two chains of a merge are those of the trace.
abbrev PairFound : View → ℕ → ℕ → Pair → Type 0
PairFound v c o m = (chain_pages v c ≡ m.target.pages) × (chain_pages v o ≡ m.partner.pages)

pair_found : (v : View) (c o : ℕ) → IfSound (PairFound v c o) (pair_of v.root v.pages c o)
unfolding pair_of
pair_found v c o =
    then_known (PairFound v c o) (chain_of v.root v.pages c) _
    (λ t e. then_known (PairFound v c o) (chain_of v.root v.pages o) _
    (λ u f. if_known (PairFound v c o) (not (shares_key t.entries u.entries)) (record { target = t; partner = u }) (λ _. (chain_followed v c t e, chain_followed v o u f))))

reads_26 : ReadsAt 26 step26
unfolding step26 trace_of
reads_26 v ps' opens b =
    let c = v.party.chain in
    let d = v.party.other in
    let pair = pair_of v.root v.pages c d in
    tested_reads 26 v ps' opens (not (merge_stops v.root)) _ _
    (λ _. checked_reads 26 v ps' opens pair (pair_of v.root ps' c d) (λ m. combine_with v m) (λ m. combine_with (with_pages ps' v) m)
    (λ m e l.
    let found = from_sound (PairFound v c d) pair (pair_found v c d) m e in
    let all : Open opens (chain_pages v c ++ chain_pages v d) = rw (now_pages 0 (chain_pages v c ++ chain_pages v d)) at l.follows in
    from_sound (PairRead v.root v.pages ps' c d) pair
    (pair_alike v.root v.pages ps' c d (primary_same 26 v ps' opens b c b.ready.chain_fits) (primary_same 26 v ps' opens b d b.ready.other_fits)) m e
    (open_same v ps' opens b m.target.pages (rw found.0 at (All-first (λ x. opens x ≡ true) (chain_pages v c) (chain_pages v d) all)))
    (open_same v ps' opens b m.partner.pages (rw found.1 at (all_second (λ x. opens x ≡ true) (chain_pages v c) (chain_pages v d) all))))
    (λ m e. combine_reads v ps' opens b m))

reads_27 : ReadsAt 27 step27
unfolding step27 is_held
reads_27 v ps' opens b =
    tested_reads 27 v ps' opens (not (merge_stops v.root) && is_held v root_exclusive) _ _ (λ _. moved_reads 27 v ps' opens _ ps' (alike_start v ps' opens b))

reads_28 : ReadsAt 28 step28
unfolding step28
reads_28 v ps' opens b =
    let s = scratch_of v in
    let w = with_local_level (level_of s - 1) s in
    rw (scratch_same 28 v ps' opens b)
    (tested_reads 28 v ps' opens (page_sound v.root s && not (eqb (level_of s) 0)) _ _
    (λ _. moved_reads 28 v ps' opens _ _
    (primary_written_ok 28 v ps' opens b v.pages ps' (alike_start v ps' opens b) (primary_page v.party.chain) w b.ready.chain_fits
    (length-with_local_level (level_of s - 1) s (scratch_long 28 v ps' opens b)))))

-- The pages to give back at 29 are the two lists of the trace.
abbrev pub other_link : View → ℕ
other_link v = link_of (page_of v.pages (primary_page v.party.other))

abbrev MergedFound : View → List ℕ → Type 0
MergedFound v xs = list_pages v v.party.old ++ list_pages v (other_link v) ≡ xs

merged_found : (v : View) → IfSound (MergedFound v) (merged_away v.root v.pages v.party)
unfolding merged_away
merged_found v =
    let l = v.party.old in
    cond_ind (IfSound (MergedFound v)) (link_sound v.root l && page_sound v.root (page_of v.pages (primary_page v.party.other))) _ damaged
    (λ _. then_known (MergedFound v) (list_from v.root v.pages l) _
    (λ xs e. then_known (MergedFound v) (list_from v.root v.pages (other_link v)) _
    (λ ys f. if_known (MergedFound v) (room_to_give_back v.root (length (xs ++ ys))) (xs ++ ys) (λ _. rw (list_followed v l xs e, list_followed v (other_link v) ys f)))))
    (λ _. tt)

cleared_reads : (v : View) (ps' : List ℕ) (opens : ℕ → Bool) → Beside v ps' opens → (xs : List ℕ) → Open opens xs → All (IsOverflow v.root) xs
    → Reads 29 v ps' opens (partner_cleared v xs) (partner_cleared (with_pages ps' v) xs)
unfolding partner_cleared pages_given_back
cleared_reads v ps' opens b xs o over =
    rw (head_alike v.pages ps' v.root.head xs)
    (moved_reads 29 v ps' opens _ _
    (primary_written_ok 29 v ps' opens b (given_back v.pages v.root.head xs).pages (given_back ps' v.root.head xs).pages
    (alike_given v ps' opens b v.pages ps' (alike_start v ps' opens b) v.root.head xs o over) (primary_page v.party.other) zero_page b.ready.other_fits length-zero_page))

-- Both lists of the trace.
pub both_pages : (s t : ℕ) (xs ys : List ℕ) → pages_followed (walked_from s t xs ++ read_now t ys) ≡ xs ++ ys
unfolding pages_followed
both_pages s t xs ys = map-append (λ (f : Follow). f.page) (walked_from s t xs) (read_now t ys) ∙ rw (walked_pages s t xs, now_pages t ys)

reads_29 : ReadsAt 29 step29
unfolding step29 trace_of trace_twenty_nine
reads_29 v ps' opens b =
    let p = v.party in
    let merged = merged_away v.root v.pages p in
    checked_reads 29 v ps' opens merged (merged_away v.root ps' p) (λ xs. partner_cleared v xs) (λ xs. partner_cleared (with_pages ps' v) xs)
    (λ xs e c. from_sound (MergedRead v.root v.pages ps' p) merged (merged_alike v.root v.pages ps' p (primary_same 29 v ps' opens b p.other b.ready.other_fits)) xs e
    (open_same v ps' opens b xs (opened xs e c.follows)))
    (λ xs e. record {
      go = λ y c. (cleared_reads v ps' opens b xs (opened xs e c.follows) (from_sound (All (IsOverflow v.root)) merged (merged_overflow v.root v.pages p) xs e)).go y c;
    })
  where
    opened : (xs : List ℕ) → merged_away v.root v.pages v.party ≡ sound xs
        → Open opens (pages_followed (walked_from 0 0 (list_pages v v.party.old) ++ read_now 0 (list_pages v (other_link v)))) → Open opens xs
    opened xs e o =
        let found = from_sound (MergedFound v) (merged_away v.root v.pages v.party) (merged_found v) xs e in
        rw (both_pages 0 0 (list_pages v v.party.old) (list_pages v (other_link v)), found) at o

reads_30 : ReadsAt 30 step30
unfolding step30
reads_30 v ps' opens b = ended_reads 30 v ps' opens b _ _

-- ---- Every step number

refused_reads : (n : ℕ) → ReadsAt n no_step
unfolding performs
refused_reads n v ps' opens b = record { go = λ p l. absurd (false≢true p) }

all_reads : Numbered ReadsAt 0 step_table
unfolding step_table
all_reads =
    refused_reads 0 ▸ reads_01 ▸ reads_02 ▸ reads_03 ▸ reads_04 ▸ reads_05 ▸ reads_06 ▸ reads_07 ▸ reads_08 ▸ reads_09
    ▸ reads_10 ▸ reads_11 ▸ reads_12 ▸ reads_13 ▸ reads_14 ▸ reads_15 ▸ reads_16 ▸ reads_17 ▸ reads_18 ▸ reads_19
    ▸ reads_20 ▸ reads_21 ▸ reads_22 ▸ reads_23 ▸ reads_24 ▸ reads_25 ▸ reads_26 ▸ reads_27 ▸ reads_28 ▸ reads_29 ▸ reads_30 ▸ tt

pub step_reads : (n : ℕ) → ReadsAt n (step_of n)
unfolding step_of
step_reads n = numbered_at ReadsAt no_step refused_reads step_table all_reads n
