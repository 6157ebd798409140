-- Merges on memory of any contents: at 26 a key in both chains is damage; 26 takes no overflow page, and 29 gives back what both chains had.
-- Main statements: shared_damage (a key in both chains); step26_root, takes_none; gives_back_both.
use mathlib.Core.Path.{◌≡◌, refl, sym, ap, ◌∙◌}
use mathlib.Core.Logic.{◌≢◌}
use mathlib.Core.Bool.{Bool, true, false, cond, not, ◌&&◌, false≢true}
use mathlib.Core.List.{List, [], ◌++◌}
use Prim.Native.Nat.{ℕ, ◌-◌}
use native.Mathlib.Omega.{arith}
use lib.ListN.{length, set}
use lib.Dec.{eqb}
use Rattle.model.specs.declared.Refusal.{Refusal}
use Rattle.model.specs.declared.Root.{Root}
use Rattle.model.specs.declared.Party.{Party}
use Rattle.model.specs.declared.Restructuring.{Restructuring}
use Rattle.model.specs.Sizes.{page_words}
use Rattle.model.specs.Records.{at_step, with_old}
use Rattle.model.specs.Answers.{is_moved, answer_of}
use Rattle.model.specs.LockWords.{Claim, root_word, turned_selective}
use Rattle.model.specs.Pages.{page_of, with_page, level_of, link_of, page_sound, link_sound, names_overflow, primary_page, scratch_page, zero_page, with_local_level}
use Rattle.model.specs.Chains.{Checked, damaged, sound, sound_if, and_then, Chain, chain_of, read_chain, list_from, overflow_from}
use Rattle.model.specs.Entries.{shares_key}
use Rattle.model.specs.Filling.{primary_of}
use Rattle.model.specs.Outcome.{View, Outcome, refuse, moved, guarded, checked}
use Rattle.model.specs.FreeList.{room_to_give_back}
use Rattle.model.specs.LockRequests.{is_held, lock_word, root_exclusive, without_hold, given_up, held_all}
use Rattle.model.specs.ScratchPages.{scratch_of}
use Rattle.model.specs.Endings.{ended_with, done}
use Rattle.model.specs.Ready.{Ready}
use Rattle.model.specs.Steps.MergeLocks.{merge_stops, merge_locks}
use Rattle.model.specs.Steps.MergeBuild.{Pair, pair_of, joined_entries, merge_goes, combined, combine_with, step26}
use Rattle.model.specs.Steps.MergeWrite.{root_moved_back, merged_away, partner_cleared, step27, step28, step29}
use Rattle.model.specs.Merges.{TakesNone, before27, before28, before29, MovedTo29, pages_of_both, GivesBackBoth}
use Rattle.model.proofs.Laws.Lists.{cond_ind}
use Rattle.model.proofs.Laws.Pages.{Has, length-with_page, page_other, length_page_of, length-zero_page, length-with_local_level}
use Rattle.model.proofs.Laws.Tests.{sound_page_links}
use Rattle.model.proofs.Laws.Structure.{linked_frame}
use Rattle.model.proofs.Laws.Filling.{length-primary_of}
use Rattle.model.proofs.Laws.Reading.{primary_outside, scratch_outside, linked_list}
use Rattle.model.proofs.Laws.Walks.{walked_chained, chain_reads, linked_overflow, same_beside}
use Rattle.model.proofs.Invariant.Frame.{SameLimits, sound_sizes, linked_sizes}

-- ---- A key in both chains

-- It is damage, whether or not the joined records fit.
pub shared_damage : (v : View) (t u : Chain) → merge_stops v.root ≡ false → chain_of v.root v.pages v.party.chain ≡ sound t → chain_of v.root v.pages v.party.other ≡ sound u
    → shares_key t.entries u.entries ≡ true → step26 v ≡ refuse Refusal.Damage v
unfolding step26 pair_of
shared_damage v t u goes target partner e = rw (goes, target, partner, e) refl

-- ---- 26 takes no page

-- What 26 can come to: refused, joined or skipped.
step26_ends : (v : View) (P : Outcome → Type 0) → P (refuse Refusal.Damage v) → ((m : Pair) → P (combined v m))
    → P (done (answer_of v.party.answer) Restructuring.MergeSkipped (given_up (merge_locks root_exclusive v.party) v)) → P (step26 v)
unfolding step26 combine_with ended_with
step26_ends v P refused joins skips =
    tested (not (merge_stops v.root)) _
    (read (pair_of v.root v.pages v.party.chain v.party.other)
    (λ m. cond_ind P (merge_goes v.root m) _ _ (λ _. joins m) (λ _. tested (held_all v (merge_locks root_exclusive v.party)) _ skips)))
  where
    tested : (t : Bool) (o : Outcome) → P o → P (guarded v t o)
    tested true o h = h
    tested false o h = refused

    read : (c : Checked Pair) → ((m : Pair) → P (combine_with v m)) → P (checked v c (λ m. combine_with v m))
    read damaged h = refused
    read (sound m) h = h m

-- The root stays.
pub step26_root : (v : View) → (step26 v).after.root ≡ v.root
unfolding combined given_up without_hold
step26_root v = step26_ends v (λ (o : Outcome). o.after.root ≡ v.root) refl (λ m. refl) refl

module _ (v : View) (ready : Ready v) where
  abbrev scratch : ℕ
  scratch = scratch_page v.root v.number

  has_scratch : Has v.pages scratch
  has_scratch = record { fits = omega (arith, ready.pages_fit, ready.number_fits) }

  page_long : (m : Pair) → length (primary_of v.root.capacity m.target.level (joined_entries m) []) ≡ page_words
  page_long m = length-primary_of v.root.capacity m.target.level (joined_entries m) [] ready.keys_fit

  pub takes_none : TakesNone v
  unfolding combined given_up without_hold
  takes_none = record {
    root= = step26_root v;
    pages= = step26_ends v (λ (o : Outcome). (x : ℕ) → x ≢ scratch → page_of o.after.pages x ≡ page_of v.pages x) (λ x n. refl)
        (λ m x n. page_other v.pages scratch (primary_of v.root.capacity m.target.level (joined_entries m) []) has_scratch (page_long m) x n)
        (λ x n. page_other v.pages scratch zero_page has_scratch length-zero_page x n);
  }

-- ---- 29 gives back what both chains had

-- A step that moved passed its test.
moved_on : (v : View) (t : Bool) (o : Outcome) → is_moved (guarded v t o).answer ≡ true → guarded v t o ≡ o
unfolding is_moved
moved_on v true o h = refl
moved_on v false o h = absurd (false≢true h)

-- An end is no move.
pub ended_no_move : (v : View) (cs : List Claim) (s : Restructuring) → is_moved (ended_with v cs s).answer ≡ false
unfolding ended_with is_moved
ended_no_move v cs s = go (held_all v cs)
  where
    go : (t : Bool) → is_moved (guarded v t (done (answer_of v.party.answer) s (given_up cs v))).answer ≡ false
    go true = refl
    go false = refl

-- Both chains looked through.
record BothRead (r : Root) (ps : List ℕ) (c o : ℕ) (m : Pair) : Type 0 where
  target_is : chain_of r ps c ≡ sound m.target
  partner_is : chain_of r ps o ≡ sound m.partner

both_read_lem : (r : Root) (ps : List ℕ) (c o : ℕ) (m : Pair) → pair_of r ps c o ≡ sound m → BothRead r ps c o m
unfolding pair_of
both_read_lem r ps c o m e = go (chain_of r ps c) (chain_of r ps o) refl refl e
  where
    same : (t u : Chain) → chain_of r ps c ≡ sound t → chain_of r ps o ≡ sound u → (b : Bool) → sound_if b (record { target = t; partner = u }) ≡ sound m → BothRead r ps c o m
    same t u et eu true e = let k : record { target = t; partner = u } ≡ m = cc in record { target_is = et ∙ ap (λ (x : Pair). sound x.target) k; partner_is = eu ∙ ap (λ (x : Pair). sound x.partner) k }
    same t u et eu false e = absurd (let z : ◌≡◌ {A = ℕ} 0 1 = cc in omega arith)

    go : (x y : Checked Chain) → chain_of r ps c ≡ x → chain_of r ps o ≡ y
        → and_then x (λ t. and_then y (λ u. sound_if (not (shares_key t.entries u.entries)) (record { target = t; partner = u }))) ≡ sound m → BothRead r ps c o m
    go damaged y ex ey e = absurd (let z : ◌≡◌ {A = ℕ} 0 1 = cc in omega arith)
    go (sound t) damaged ex ey e = absurd (let z : ◌≡◌ {A = ℕ} 0 1 = cc in omega arith)
    go (sound t) (sound u) ex ey e = same t u ex ey (not (shares_key t.entries u.entries)) e

-- Two lists that 29 finds sound.
both-listed : (r : Root) (ps : List ℕ) (p : Party) (xs ys : List ℕ) → link_sound r p.old ≡ true → page_sound r (page_of ps (primary_page p.other)) ≡ true
    → list_from r ps p.old ≡ sound xs → list_from r ps (link_of (page_of ps (primary_page p.other))) ≡ sound ys
    → merged_away r ps p ≡ sound_if (room_to_give_back r (length (xs ++ ys))) (xs ++ ys)
unfolding merged_away
both-listed r ps p xs ys a b c d = rw (a, b, c, d) refl

-- A reading that a test allows, as a test of the step.
as-guarded : (w : View) (t : Bool) (zs : List ℕ) (f : List ℕ → Outcome) → checked w (sound_if t zs) f ≡ guarded w t (f zs)
as-guarded w true zs f = refl
as-guarded w false zs f = refl

module _ (v : View) (ready : Ready v) (m : Pair) (h : MovedTo29 v m) where
  abbrev r : Root
  r = v.root

  abbrev c : ℕ
  c = v.party.chain

  abbrev o : ℕ
  o = v.party.other

  chains : BothRead r v.pages c o m
  chains = both_read_lem r v.pages c o m h.joins

  -- ---- The three moves

  joined_there : step26 v ≡ combined v m
  unfolding step26 combine_with
  joined_there =
      let join = checked v (pair_of r v.pages c o) (λ m. combine_with v m) in
      let open_26 = moved_on v (not (merge_stops r)) join h.moved_26 in
      let pair_26 : join ≡ combine_with v m = ap (λ (x : Checked Pair). checked v x (λ m. combine_with v m)) h.joins in
      let is : step26 v ≡ combine_with v m = open_26 ∙ pair_26 in
      is ∙ go (merge_goes r m) (sym (ap (λ (x : Outcome). is_moved x.answer) is) ∙ h.moved_26)
    where
      go : (t : Bool) → is_moved (cond t (combined v m) (ended_with v (merge_locks root_exclusive v.party) Restructuring.MergeSkipped)).answer ≡ true
          → cond t (combined v m) (ended_with v (merge_locks root_exclusive v.party) Restructuring.MergeSkipped) ≡ combined v m
      go true e = refl
      go false e = absurd (false≢true (sym (ended_no_move v (merge_locks root_exclusive v.party) Restructuring.MergeSkipped) ∙ e))

  abbrev page : List ℕ
  page = primary_of r.capacity m.target.level (joined_entries m) []

  abbrev pages₁ : List ℕ
  pages₁ = with_page v.pages (scratch_page r v.number) page

  abbrev party₁ : Party
  party₁ = with_old m.target.link v.party

  abbrev locks₁ : List ℕ
  locks₁ = set v.locks root_word (turned_selective (lock_word v root_word) v.number)

  abbrev joined_view : View
  joined_view = record { root = r; party = at_step 27 party₁; number = v.number; locks = v.locks; pages = pages₁; behind = v.behind }

  abbrev root_view : View
  root_view = record { root = root_moved_back v.party r; party = at_step 28 party₁; number = v.number; locks = locks₁; pages = pages₁; behind = v.behind }

  abbrev written : List ℕ
  written = with_local_level (level_of (scratch_of root_view) - 1) (scratch_of root_view)

  abbrev written_view : View
  written_view = record { root = root_moved_back v.party r; party = at_step 29 party₁; number = v.number; locks = locks₁; pages = with_page pages₁ (primary_page c) written; behind = v.behind }

  is_27 : before27 v ≡ joined_view
  unfolding combined
  is_27 = ap (λ (x : Outcome). x.after) joined_there

  is_28 : before28 v ≡ root_view
  unfolding step27 root_moved_back
  is_28 =
      ap (λ (x : View). (step27 x).after) is_27
      ∙ ap (λ (x : Outcome). x.after)
      (moved_on joined_view (not (merge_stops r) && is_held joined_view root_exclusive) (moved root_view) (sym (ap (λ (x : View). is_moved (step27 x).answer) is_27) ∙ h.moved_27))

  is_29 : before29 v ≡ written_view
  unfolding step28
  is_29 =
      ap (λ (x : View). (step28 x).after) is_28
      ∙ ap (λ (x : Outcome). x.after)
      (moved_on root_view (page_sound (root_moved_back v.party r) (scratch_of root_view) && not (eqb (level_of (scratch_of root_view)) 0)) (moved written_view)
      (sym (ap (λ (x : View). is_moved (step28 x).answer) is_28) ∙ h.moved_28))

  -- ---- What 29 then reads

  abbrev root₁ : Root
  root₁ = root_moved_back v.party r

  abbrev pages₂ : List ℕ
  pages₂ = with_page pages₁ (primary_page c) written

  sizes : SameLimits r root₁
  unfolding root_moved_back
  sizes = record { originals= = refl; capacity= = refl; primaries= = refl; overflow= = refl; parties= = refl }

  long₁ : length pages₁ ≡ length v.pages
  long₁ = length-with_page v.pages (scratch_page r v.number) page (has_scratch v ready) (page_long v ready m)

  has_target : Has pages₁ c
  has_target = record { fits = omega (arith, long₁, ready.pages_fit, ready.chain_fits) }

  written_long : length written ≡ page_words
  unfolding root_moved_back
  written_long =
      length-with_local_level (level_of (scratch_of root_view) - 1) (scratch_of root_view)
      (length_page_of (record { fits = omega (arith, long₁, ready.pages_fit, ready.number_fits) }))

  -- A list of overflow pages stands as it stood at 26.
  list_stays : (l : ℕ) (xs : List ℕ) → link_sound r l ≡ true → list_from r v.pages l ≡ sound xs → list_from root₁ pages₂ l ≡ sound xs
  unfolding list_from root_moved_back
  list_stays l xs s e =
      let found = walked_chained r v.pages r.overflow l xs e in
      let linked = found.0.linked in
      let over = linked_overflow r v.pages xs (rw found.0.first at s) linked in
      let linked₁ = linked_frame r v.pages pages₁ xs
      (same_beside v.pages (scratch_page r v.number) page xs (has_scratch v ready) (page_long v ready m) (scratch_outside r v.number xs over)) linked in
      let linked₂ = linked_frame r pages₁ pages₂ xs (same_beside pages₁ (primary_page c) written xs has_target written_long (primary_outside r c xs ready.chain_fits over)) linked₁ in
      ap (overflow_from root₁ pages₂ r.overflow) found.0.first ∙ linked_list root₁ pages₂ xs (linked_sizes r root₁ sizes pages₂ xs linked₂) found.1

  partner_stays : page_of pages₂ (primary_page o) ≡ page_of v.pages (primary_page o)
  partner_stays =
      page_other pages₁ (primary_page c) written has_target written_long (primary_page o) (λ e. h.two (sym e))
      ∙ page_other v.pages (scratch_page r v.number) page (has_scratch v ready) (page_long v ready m) (primary_page o) (omega (arith, ready.other_fits))

  link_sizes : (l : ℕ) → link_sound root₁ l ≡ link_sound r l
  unfolding link_sound names_overflow root_moved_back
  link_sizes l = refl

  abbrev target_link : ℕ
  target_link = link_of (page_of v.pages (primary_page c))

  abbrev partner_link : ℕ
  partner_link = link_of (page_of v.pages (primary_page o))

  room_sizes : (n : ℕ) → room_to_give_back root₁ n ≡ room_to_give_back r n
  unfolding room_to_give_back root_moved_back
  room_sizes n = refl

  lists_there : merged_away root₁ pages₂ (at_step 29 party₁) ≡ sound_if (room_to_give_back r (length (pages_of_both m))) (pages_of_both m)
  unfolding read_chain
  lists_there =
      let t = chain_reads r v.pages c m.target chains.target_is in
      let u = chain_reads r v.pages o m.partner chains.partner_is in
      let link : m.target.link ≡ target_link = sym (ap (λ (d : Chain). d.link) t.chain_is) in
      let olds : t.xs ≡ m.target.pages = ap (λ (d : Chain). d.pages) t.chain_is in
      let partners : u.xs ≡ m.partner.pages = ap (λ (d : Chain). d.pages) u.chain_is in
      let old_sound = sound_page_links r (page_of v.pages (primary_page c)) t.page_sound_ok in
      let partner_sound = sound_page_links r (page_of v.pages (primary_page o)) u.page_sound_ok in
      both-listed root₁ pages₂ (at_step 29 party₁) m.target.pages m.partner.pages
      (ap (link_sound root₁) link ∙ link_sizes target_link ∙ old_sound)
      (ap (page_sound root₁) partner_stays ∙ sound_sizes r root₁ sizes (page_of v.pages (primary_page o)) ∙ u.page_sound_ok)
      (ap (list_from root₁ pages₂) link ∙ list_stays target_link t.xs old_sound t.listed ∙ ap sound olds)
      (ap (λ (w : List ℕ). list_from root₁ pages₂ (link_of w)) partner_stays ∙ list_stays partner_link u.xs partner_sound u.listed ∙ ap sound partners)
      ∙ ap (λ (t : Bool). sound_if t (pages_of_both m)) (room_sizes (length (pages_of_both m)))

  pub gives_back_both : GivesBackBoth v m
  unfolding step29
  gives_back_both = record {
    gives_back = rw (is_29, lists_there) (as-guarded written_view (room_to_give_back r (length (pages_of_both m))) (pages_of_both m) (λ xs. partner_cleared written_view xs));
  }
