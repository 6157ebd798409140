-- Step 26 keeps the invariant: the records of both chains of a merge are joined in scratch, or the merge is skipped.
-- Main statements: step26-is, step26-kept.
use mathlib.Core.Path.{◌≡◌, refl, sym}
use mathlib.Core.Bool.{true, false, cond}
use mathlib.Core.List.{List, [], ◌∷◌}
use Prim.Native.Nat.{ℕ, ◌≤◌, ◌<◌}
use native.Mathlib.Omega.{arith}
use lib.ListN.{length, set}
use lib.Dec.{eqb, leb}
use Rattle.model.specs.declared.Root.{Root}
use Rattle.model.specs.declared.Party.{Party}
use Rattle.model.specs.declared.Restructuring.TheVariants as Restructuring
use Rattle.model.specs.Sizes.{page_words}
use Rattle.model.specs.Records.{idle, at_step, with_old}
use Rattle.model.specs.Addresses.{address_of, merge_partner}
use Rattle.model.specs.declared.Entry.{Entry}
use Rattle.model.specs.Entries.{has_key, joined, shares_key, key_of}
use Rattle.model.specs.Pages.{with_page, scratch_page, link_to_first}
use Rattle.model.specs.Chains.{Chain, sound}
use Rattle.model.specs.Filling.{fits_primary, primary_of}
use Rattle.model.specs.Memory.{Memory, view_of}
use Rattle.model.specs.Book.{Book}
use Rattle.model.specs.Endings.{ended_with}
use Rattle.model.specs.LockRequests.{root_exclusive}
use Rattle.model.specs.Steps.MergeLocks.{merge_locks}
use Rattle.model.specs.Steps.MergeBuild.{Pair, pair_of, joined_entries, merge_goes, combined, combine_with, step26}
use Rattle.model.specs.Steps.Dispatch.{has_step}
use Rattle.model.proofs.Laws.Lists.{Told, holds, fails, tell, cond_ind, left_or, right_or, neither_or, leb-true, eqb_same}
use Rattle.model.proofs.Laws.Filling.{length-primary_of, none_over}
use Rattle.model.proofs.Laws.Retreat.{merge_retreats, target_before}
use Rattle.model.proofs.Invariant.Ghost.{in_chain, root_extent, size, local_level}
use Rattle.model.specs.Claims.{claims}
use Rattle.model.proofs.Invariant.LockMoves.{locks_stay}
use Rattle.model.proofs.Invariant.Extents.{home_is}
use Rattle.model.proofs.Invariant.Facts.{no_pages_held}
use Rattle.model.proofs.Invariant.Statement.{restructures, live_for, low_for, Scene, NoPages, MergeChains, Joined, working}
use Rattle.model.proofs.Invariant.Turn.{Turn, before, has_step_ok, its_claims, live_now, me, note_still, row_long, uses_none}
use Rattle.model.proofs.Effects.Kept.{Kept, moved-kept}
use Rattle.model.proofs.Effects.Done.{ended-kept}
use Rattle.model.proofs.Effects.Moves.{busy_onto, same_file, extents_keep, extents_stop}
use Rattle.model.proofs.Effects.OwnRecord.{OwnChange}
use Rattle.model.proofs.Effects.ScratchPage.{scratch_same, scratch_parts}
use Rattle.model.proofs.Effects.BuiltChain.{chain_found}

-- Lists of which no key is in both.
shares-none : (xs ys : List Entry) → ((k : ℕ) → has_key k xs ≡ true → has_key k ys ≡ false) → shares_key xs ys ≡ false
unfolding shares_key has_key
shares-none [] ys f = refl
shares-none (x ∷ xs) ys f = neither_or (f (key_of x) (left_or (has_key (key_of x) xs) (eqb_same (key_of x) (key_of x) refl))) (shares-none xs ys (λ k h. f k (right_or (eqb (key_of x) k) h)))

module _ {m : Memory} {b : Book} {q : ℕ} (t : Turn m b q 26) where
  abbrev r : Root
  r = m.root

  no_pages : NoPages (before t) q
  no_pages = t.facts.settled.no_pages

  chains : MergeChains (before t) (me t)
  chains = t.facts.chains

  -- ---- The live file extends as the root says, and both chains are in it

  live-is : t.inv.ghost.live ≡ root_extent r
  unfolding live_for
  live-is = live_now t refl

  before_other : (me t).chain < (me t).other
  before_other = omega (arith, chains.target, chains.partner, target_before r.originals r.level r.next t.inv.limits.some_original t.inv.extents_ok.root_next chains.goes_on)

  pub other_live : (me t).other < size r.originals t.inv.ghost.live
  unfolding size merge_partner
  other_live =
      rw live-is
      (omega (arith, chains.partner, (merge_retreats r.originals r.level r.next t.inv.limits.some_original t.inv.extents_ok.root_next chains.goes_on).one_less))

  pub chain_live : (me t).chain < size r.originals t.inv.ghost.live
  chain_live = omega (arith, before_other, other_live)

  -- ---- Both chains looked through

  abbrev chain_at : ℕ → Chain
  chain_at c = record { level = local_level r.originals t.inv.ghost.live c; link = link_to_first (t.inv.ghost.held (in_chain c)); pages = t.inv.ghost.held (in_chain c); entries = t.inv.ghost.records c }

  abbrev pair : Pair
  pair = record { target = chain_at (me t).chain; partner = chain_at (me t).other }

  -- A key has one home.
  home : (c : ℕ) → c < size r.originals t.inv.ghost.live → (k : ℕ) → has_key k (t.inv.ghost.records c) ≡ true
      → address_of r.originals t.inv.ghost.live.level t.inv.ghost.live.next k ≡ c
  home c live k h =
      home_is r.originals t.inv.ghost.live c (local_level r.originals t.inv.ghost.live c) k t.inv.limits.some_original (omega (arith, t.inv.extents_ok.live_next))
      (record { inside = live; there = t.inv.pages_ok.homed c live k h; reach = omega arith }) refl

  none_shared : shares_key (t.inv.ghost.records (me t).chain) (t.inv.ghost.records (me t).other) ≡ false
  none_shared = shares-none (t.inv.ghost.records (me t).chain) (t.inv.ghost.records (me t).other) (λ k h. go k h (tell (has_key k (t.inv.ghost.records (me t).other))))
    where
      go : (k : ℕ) → has_key k (t.inv.ghost.records (me t).chain) ≡ true → Told (has_key k (t.inv.ghost.records (me t).other)) → has_key k (t.inv.ghost.records (me t).other) ≡ false
      go k h (fails f) = f
      go k h (holds f) = absurd (omega (arith, before_other, home (me t).chain chain_live k h, home (me t).other other_live k f))

  pair_found : pair_of r m.pages (me t).chain (me t).other ≡ sound pair
  unfolding pair_of
  pair_found = rw (chain_found m b t.inv (me t).chain chain_live, chain_found m b t.inv (me t).other other_live, none_shared) refl

  -- ---- More records than fit: the merge is skipped

  skipped : Kept m b q (ended_with (view_of m q) (merge_locks root_exclusive (me t)) Restructuring.MergeSkipped)
  unfolding restructures live_for low_for
  skipped =
      let first = before_other in
      ended-kept t
      (record {
        plain = refl;
        noted = t.facts.settled.noted;
        no_pages = no_pages;
        extents = extents_stop t idle refl refl refl refl;
        holds = refl;
        apart = ((omega arith, (omega arith, tt)), ((omega arith, tt), (tt, tt)));
        fit = (omega arith, (omega (arith, t.busy.chain_fits), (omega (arith, t.busy.other_fits), tt)));
      })
      Restructuring.MergeSkipped

  -- ---- The joined records are in scratch: on to 27

  abbrev level : ℕ
  level = local_level r.originals t.inv.ghost.live (me t).chain

  abbrev both : List Entry
  both = joined (t.inv.ghost.records (me t).chain) (t.inv.ghost.records (me t).other)

  abbrev page : List ℕ
  page = primary_of r.capacity level both []

  abbrev pages_then : List ℕ
  pages_then = with_page m.pages (scratch_page r q) page

  abbrev p_then : Party
  p_then = at_step 27 (with_old (link_to_first (t.inv.ghost.held (in_chain (me t).chain))) (me t))

  abbrev scene_then : Scene
  scene_then = record { root = r; parties = set m.parties q p_then; pages = pages_then; ghost = t.inv.ghost; entries = b.entries }

  page_long : length page ≡ page_words
  page_long = length-primary_of r.capacity level both [] t.inv.limits.keys_fit

  module _ (fits : length both ≤ r.capacity) where
    joined_then : Joined scene_then q p_then t.entered
    joined_then =
        let none = no_pages.nothing_built.no_built in
        record {
          noted = t.facts.settled.noted;
          made = t.facts.settled.made;
          joins = record { scratch_is = rw none (scratch_same m b t.inv q t.in_row page page_long); built = rw none (none_over r.capacity both fits) };
          keeps_link = refl;
          no_pages = no_pages_held (before t) scene_then q refl no_pages;
        }

    own_change : OwnChange m b t.inv q pages_then p_then b m.locks
    unfolding restructures live_for low_for claims has_step
    own_change = record {
      entries= = λ j n. refl;
      contents= = refl;
      stays = λ x e. refl;
      frees = λ d _. uses_none t refl d;
      extents = extents_keep t (same_file t) p_then refl refl refl;
      locks = locks_stay r m.parties q p_then (row_long t) (sym (its_claims t)) t.inv.locks_ok;
      self = working t.entered (busy_onto t 27 (has_step_ok t) (omega arith) scene_then refl refl (link_to_first (t.inv.ghost.held (in_chain (me t).chain))))
          (joined_then, record { target = chains.target; partner = chains.partner; goes_on = chains.goes_on });
    }

    combined-kept : Kept m b q (combined (view_of m q) pair)
    unfolding combined joined_entries
    combined-kept = moved-kept t (note_still t refl) (scratch_parts t page page_long p_then b m.locks own_change)

  -- No test fails, and the joined records decide.
  pub step26-is : step26 (view_of m q) ≡ cond (fits_primary r.capacity both) (combined (view_of m q) pair) (ended_with (view_of m q) (merge_locks root_exclusive (me t)) Restructuring.MergeSkipped)
  unfolding step26 combine_with joined_entries merge_goes
  step26-is = rw (chains.goes_on, pair_found) refl

  pub step26-kept : Kept m b q (step26 (view_of m q))
  unfolding fits_primary
  step26-kept = rw step26-is (cond_ind (Kept m b q) (leb (length both) r.capacity) _ _ (λ e. combined-kept (leb-true (length both) r.capacity e)) (λ _. skipped))
