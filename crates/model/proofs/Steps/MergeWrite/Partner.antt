-- Step 29 keeps the invariant: both chains of a merge had no overflow page, so that none is given back; the partner's primary page is zeroed.
-- Main statements: step29-is, step29-kept.
use mathlib.Core.Path.{◌≡◌, refl, sym, ap, ◌∙◌}
use mathlib.Core.Logic.{◌≢◌}
use mathlib.Core.Bool.{false}
use mathlib.Core.List.{List, [], ◌∷◌}
use Prim.Native.Nat.{ℕ, ◌+◌}
use native.Mathlib.Omega.{arith}
use lib.ListN.{set}
use Rattle.model.specs.declared.Root.{Root}
use Rattle.model.specs.declared.Party.{Party}
use Rattle.model.specs.Sizes.{lock_words}
use Rattle.model.specs.Records.{at_step}
use Rattle.model.specs.Pages.{with_page, link_sound, zero_page, link_to_first}
use Rattle.model.specs.Chains.{list_from, sound}
use Rattle.model.specs.Memory.{Memory, view_of}
use Rattle.model.specs.Book.{Book}
use Rattle.model.specs.LockRequests.{chain_exclusive, root_selective, other_exclusive}
use Rattle.model.specs.FreeList.{room_to_give_back, pages_given_back}
use Rattle.model.specs.Addresses.{count_of_chains}
use Rattle.model.specs.Steps.MergeWrite.{merged_away, partner_cleared, step29}
use Rattle.model.specs.Steps.Dispatch.{has_step}
use Rattle.model.proofs.Laws.Lists.{eqb-diff, count_nil}
use Rattle.model.proofs.Laws.Pages.{Has, length-with_page, page_same, page_other, length-zero_page}
use Rattle.model.proofs.Laws.Reading.{linked_list}
use Rattle.model.proofs.Invariant.Ghost.{free, in_chain, old_of, partner_of, size, count, Ghost}
use Rattle.model.proofs.Invariant.Owners.{kinds_apart}
use Rattle.model.specs.Claims.{claims}
use Rattle.model.proofs.Invariant.Claims.{claimed, LocksOk}
use Rattle.model.proofs.Invariant.LockMoves.{locks_root, locks_stay}
use Rattle.model.proofs.Invariant.Restructurer.{others_use_none}
use Rattle.model.proofs.Invariant.Statement.{restructures, live_for, low_for, ExtentsOk, uses, Emptying, MovedBack, working}
use Rattle.model.proofs.Invariant.Turn.{Turn, before, has_step_ok, its_claims, live_now, me, note_still, restructures-now, row_long}
use Rattle.model.proofs.Effects.Kept.{Kept, Parts, moved-kept}
use Rattle.model.proofs.Effects.Touch.{outside}
use Rattle.model.proofs.Effects.Moves.{busy_onto, extents_keep}
use Rattle.model.proofs.Effects.GivingBack.{no_reader, old_kinds, one_listed, given_ghost, given_root, given_pages, given_sizes, given_long, given_room, given-kept, no_pages_given, GivesBack, given_scene, giving_parts}
use Rattle.model.proofs.Effects.Releases.{Holds, holds_it}

module _ {m : Memory} {b : Book} {q : ℕ} (t : Turn m b q 29) where
  abbrev r : Root
  r = m.root

  emptying : Emptying (before t) q (me t) t.entered
  emptying = t.facts.0

  moved_back : MovedBack (before t) (me t)
  moved_back = t.facts.1

  -- ---- The live file extends as the root says: the partner is outside

  size_is : size r.originals t.inv.ghost.live ≡ count_of_chains r
  unfolding size live_for
  size_is = ap (size r.originals) (live_now t refl)

  -- ---- No test fails, and no page is given back

  abbrev gone : List ℕ
  gone = []

  all_mine : (x : ℕ) → count x gone ≡ count x (t.inv.ghost.held (old_of q)) + count x (t.inv.ghost.held (partner_of q))
  all_mine x = let none = emptying.settled.no_pages.nothing_old in rw (none.no_old, none.no_partner) (omega (arith, count_nil x))

  none-listed : list_from r m.pages 0 ≡ sound gone
  unfolding link_to_first
  none-listed = linked_list r m.pages [] tt (omega arith)

  found : merged_away r m.pages (me t) ≡ sound gone
  unfolding merged_away room_to_give_back link_sound
  found = rw (emptying.no_old_link, emptying.partner_sound, emptying.partner_link, none-listed, given_room t old_kinds gone all_mine) refl

  -- ---- What is left

  abbrev given : List ℕ
  given = given_pages t old_kinds gone all_mine

  abbrev root_then : Root
  root_then = given_root t old_kinds gone all_mine

  abbrev ghost_then : Ghost
  ghost_then = given_ghost t old_kinds gone all_mine

  abbrev pages_then : List ℕ
  pages_then = with_page given (me t).other zero_page

  abbrev p_then : Party
  p_then = at_step 30 (me t)

  has_other : Has given (me t).other
  has_other = record { fits = omega (arith, given_long t old_kinds gone all_mine, t.inv.pages_many, t.busy.other_fits) }

  holds_chain_lem : Holds t (chain_exclusive (me t))
  holds_chain_lem = record { word_fits = omega (arith, t.busy.chain_fits); front = root_selective ∷ []; back = other_exclusive (me t) ∷ []; has = refl }

  only_other : (d : ℕ) → d ≢ (me t).other → uses (me t) d ≡ false
  unfolding uses
  only_other d n = rw (t.is_at, eqb-diff (me t).other d (λ e. n (sym e))) refl

  gives_back : GivesBack t old_kinds gone all_mine pages_then b (me t).other
  gives_back = record {
    long = length-with_page given (me t).other zero_page has_other length-zero_page;
    off = λ x n. page_other given (me t).other zero_page has_other length-zero_page x n;
    no_overflow = λ h. absurd (omega (arith, t.busy.other_fits));
    may_touch = outside t.busy.other_fits (omega (arith, size_is, moved_back.partner)) (others_use_none m b t.inv q (restructures-now t) (me t).other);
    zeroed = λ h. page_same given (me t).other zero_page has_other length-zero_page;
    only_used = only_other;
    old_listed = one_listed t old_kinds gone all_mine;
    unread = λ x e j n k. no_reader m b t.inv q t.busy.chain_fits (holds_it t holds_chain_lem) j n k;
    entries= = λ j n. refl;
    contents= = refl;
  }

  extents_then : ExtentsOk root_then (set m.parties q p_then) ghost_then
  unfolding restructures live_for low_for
  extents_then = extents_keep t (record { sizes = given_sizes t old_kinds gone all_mine; live= = refl; low= = refl }) p_then refl refl refl

  locks_then : LocksOk (lock_words root_then) m.locks (claimed root_then (set m.parties q p_then))
  unfolding claims
  locks_then = locks_root r root_then (set m.parties q p_then) (locks_stay r m.parties q p_then (row_long t) (sym (its_claims t)) t.inv.locks_ok)

  parts_then : Parts m b t.inv q root_then m.locks pages_then p_then b ghost_then
  unfolding has_step
  parts_then =
      giving_parts t old_kinds gone all_mine pages_then p_then b (me t).other gives_back m.locks extents_then locks_then
      (working t.entered
      (busy_onto t 30 (has_step_ok t) (omega arith) (given_scene t old_kinds gone all_mine pages_then p_then b (me t).other gives_back) refl refl (me t).old) (
        record { noted = emptying.settled.noted; made = emptying.settled.made; no_pages = no_pages_given t gone all_mine emptying.settled.no_pages.nothing_built _ refl },
        record { target = moved_back.target; partner = moved_back.partner; room = moved_back.room },
        given-kept t old_kinds gone all_mine (in_chain (me t).chain) (kinds_apart (in_chain (me t).chain) free refl) (kinds_apart (in_chain (me t).chain) (old_of q) refl)
            (kinds_apart (in_chain (me t).chain) (partner_of q) refl)
            ∙ emptying.one_page,
      ))

  pub step29-is : step29 (view_of m q) ≡ partner_cleared (view_of m q) []
  unfolding step29
  step29-is = rw found refl

  pub step29-kept : Kept m b q (step29 (view_of m q))
  unfolding partner_cleared pages_given_back
  step29-kept = rw step29-is (moved-kept t (note_still t refl) parts_then)
