-- Step 27 keeps the invariant: the root moves back by one merge, before the pages do, and its lock becomes selective.
-- Main statement: step27-kept.
use mathlib.Core.Path.{◌≡◌, refl, sym, ◌∙◌, subst}
use mathlib.Core.Logic.{◌≢◌}
use mathlib.Core.Bool.{true, false, cond, not, ◌&&◌, ◌||◌, and-true, and-false, and-not_self, or-false, false≢true}
use mathlib.Core.List.{List, [], ◌∷◌}
use Prim.Native.Nat.{ℕ, ◌+◌, ◌<◌}
use native.Mathlib.Omega.{arith}
use lib.ListN.{get_or, set}
use lib.Dec.{eqb, leb}
use Rattle.model.specs.declared.Root.{Root}
use Rattle.model.specs.declared.Party.{Party}
use Rattle.model.specs.declared.Mode.{Mode}
use Rattle.model.specs.declared.Mode.TheVariants.{Read, Selective, Exclusive}
use Rattle.model.specs.Sizes.{lock_words, within}
use Rattle.model.specs.Records.{at_step, with_next, with_level}
use Rattle.model.specs.LockWords.{Claim, root_word, turned_selective}
use Rattle.model.specs.Addresses.{merge_partner, merge_level}
use Rattle.model.specs.LockRequests.{is_held, chain_exclusive, root_selective, root_exclusive, other_exclusive}
use Rattle.model.specs.Memory.{Memory, party_at, view_of}
use Rattle.model.specs.Book.{Book}
use Rattle.model.specs.Holds.{same_mode}
use Rattle.model.specs.Steps.MergeLocks.{merge_locks}
use Rattle.model.specs.Steps.MergeWrite.{root_moved_back, step27}
use Rattle.model.specs.Steps.Dispatch.{has_step}
use Rattle.model.proofs.Laws.Lists.{Cmp, same, diff, cmp, and_both, left_or, right_or, leb-true, eqb_same, eqb-diff}
use Rattle.model.proofs.Laws.Retreat.{Retreat, merge_retreats}
use Rattle.model.proofs.Laws.Structure.{same_on}
use Rattle.model.proofs.Invariant.Ghost.{owner, extent, root_extent, size, Ghost}
use Rattle.model.specs.Claims.{claims, claim_table, no_lock}
use Rattle.model.proofs.Invariant.Claims.{is_claimed, claimed, LocksOk}
use Rattle.model.proofs.Invariant.LockMoves.{exclusive_alone, locks_turned, locks_move, locks_root}
use Rattle.model.proofs.Invariant.Statement.{restructures, live_for, low_for, ExtentsOk, PagesOk, Scene, Joined, MovedBack, Busy, working}
use Rattle.model.proofs.Invariant.Frame.{SameLimits, Grows, Keeps, claims_at_lem, named}
use Rattle.model.proofs.Invariant.Facts.{no_pages_held}
use Rattle.model.proofs.Invariant.Restructurer.{all_below, all_below_lem, others_rest}
use Rattle.model.proofs.Invariant.Turn.{Turn, before, has_step_ok, its_claims, live_now, me, note_still, party_small, restructures-now, row_long, uses_none}
use Rattle.model.proofs.Effects.Kept.{Kept, extents_by_one, Parts, moved-kept}
use Rattle.model.proofs.Effects.OwnRecord.{protected_row, pages_row}
use Rattle.model.proofs.Effects.Requests.{claim_more}
use Rattle.model.proofs.Effects.Releases.{lock_held}
use Rattle.model.proofs.Effects.Moves.{busy_onto}

-- ---- A party at 3, 4 or 5 reads the root

reads_at : (p : Party) (n : ℕ) → n < 6 → (not (eqb n 3 || within 4 5 n) || is_claimed (get_or claim_table n no_lock p) root_word Read) ≡ true
unfolding all_below is_claimed same_mode
reads_at p = all_below_lem 6 (λ n. not (eqb n 3 || within 4 5 n) || is_claimed (get_or claim_table n no_lock p) root_word Read) refl

reads_root : (r : Root) (p : Party) → p.step < 6 → (eqb p.step 3 || within 4 5 p.step) ≡ true → is_claimed (claims r p) root_word Read ≡ true
unfolding claims
reads_root r p l e = rw e at (reads_at p p.step l)

-- ---- The root's lock, turned from exclusive to selective

-- The locks of the chains are none of the root's.
not_root : (p : Party) (o : Mode) → is_claimed (chain_exclusive p ∷ (other_exclusive p ∷ [])) root_word o ≡ false
unfolding is_claimed
not_root p o = rw (eqb-diff (p.chain + 1) 0 (omega arith), eqb-diff (p.other + 1) 0 (omega arith)) refl

turns : (p : Party) (w : ℕ) (o : Mode)
    → ((is_claimed (merge_locks root_exclusive p) w o && not (eqb w root_word && same_mode o Exclusive)) || (eqb w root_word && same_mode o Selective)) ≡ is_claimed (merge_locks root_selective p) w o
turns p w o = rw (claim_more root_exclusive rest w o, claim_more root_selective rest w o) (go (cmp w root_word))
  where
    rest : List Claim
    rest = chain_exclusive p ∷ (other_exclusive p ∷ [])

    go : Cmp w root_word
        → (((is_claimed rest w o || (eqb w root_word && same_mode o Exclusive)) && not (eqb w root_word && same_mode o Exclusive)) || (eqb w root_word && same_mode o Selective))
        ≡ (is_claimed rest w o || (eqb w root_word && same_mode o Selective))
    go (same e) = rw (e, not_root p o, and-not_self (same_mode o Exclusive)) refl
    go (diff n) = rw (eqb-diff w root_word n, or-false (is_claimed rest w o), and-true (is_claimed rest w o)) (or-false (is_claimed rest w o))

module _ {m : Memory} {b : Book} {q : ℕ} (t : Turn m b q 27) where
  holds_root_lem : is_claimed (claims m.root (me t)) root_word Exclusive ≡ true
  holds_root_lem = rw (its_claims t) (named (chain_exclusive (me t) ∷ (other_exclusive (me t) ∷ [])) root_word Exclusive)

  -- Nobody else reads the root.
  no_reader : (j : ℕ) → j ≢ q → is_claimed (claims m.root (party_at m.parties j)) root_word Read ≡ true → ⊥
  no_reader j n h = n (exclusive_alone (t.inv.locks_ok.each root_word (omega arith)) q j Read holds_root_lem h).0

  -- ---- What is left

  abbrev root_then : Root
  root_then = with_next (me t).chain (with_level (merge_level m.root.level m.root.next) m.root)

  abbrev locks_then : List ℕ
  locks_then = set m.locks root_word (turned_selective (get_or m.locks root_word 0) q)

  abbrev ghost_then : Ghost
  ghost_then = record { own = t.inv.ghost.own; held = t.inv.ghost.held; records = t.inv.ghost.records; live = t.inv.ghost.live; low = root_extent root_then }

  abbrev row_then : List Party
  row_then = set m.parties q (at_step 28 (me t))

  abbrev then_scene : Scene
  then_scene = record { root = root_then; parties = row_then; pages = m.pages; ghost = ghost_then; entries = b.entries }

  sizes_then : SameLimits m.root root_then
  sizes_then = record { originals= = refl; capacity= = refl; primaries= = refl; overflow= = refl; parties= = refl }

  -- The root has moved one split back.
  retreat : Retreat m.root.originals (root_extent m.root) (root_extent root_then)
  retreat =
      let r = m.root in
      let chains = t.facts.1 in
      subst (λ (x : ℕ). Retreat r.originals (root_extent r) (extent (merge_level r.level r.next) x)) (sym chains.target)
      (merge_retreats r.originals r.level r.next t.inv.limits.some_original t.inv.extents_ok.root_next chains.goes_on)

  extents_then : ExtentsOk root_then row_then ghost_then
  unfolding restructures live_for low_for
  extents_then =
      let ok = t.inv.extents_ok in
      extents_by_one t refl
      (record {
        still = refl;
        live = live_now t refl ∙ sym retreat.advances;
        low = refl;
        live_next = ok.live_next;
        live_fits = ok.live_fits;
        root_next = retreat.next_fits;
        root_fits = omega (arith, retreat.one_less, ok.root_fits);
      })

  locks_ok : LocksOk (lock_words root_then) locks_then (claimed root_then row_then)
  locks_ok =
      locks_root m.root root_then row_then
      (locks_move m.root m.parties q (at_step 28 (me t)) (row_long t)
      (locks_turned t.inv.locks_ok root_word (omega arith) q holds_root_lem (party_small t)) (λ w k o. go w k o (cmp k q)))
    where
      go : (w k : ℕ) (o : Mode) → Cmp k q
          → ((claimed m.root m.parties w k o && not (eqb w root_word && eqb k q && same_mode o Exclusive)) || (eqb w root_word && eqb k q && same_mode o Selective))
          ≡ cond (eqb k q) (is_claimed (claims m.root (at_step 28 (me t))) w o) (claimed m.root m.parties w k o)
      go w k o (same e) =
          rw (e, eqb_same q q refl, and-true (eqb w root_word), its_claims t, claims_at_lem m.root (at_step 28 (me t)) 28 refl) (turns (me t) w o)
      go w k o (diff n) = rw (eqb-diff k q n, and-false (eqb w root_word), or-false (claimed m.root m.parties w k o && true)) (and-true (claimed m.root m.parties w k o))

  pages_then : PagesOk root_then row_then m.pages ghost_then
  pages_then =
      let ok = pages_row m b t.inv q (row_long t) (at_step 28 (me t)) (λ d _. uses_none t refl d) in
      record {
        owned = ok.owned;
        kinds = ok.kinds;
        beyond = ok.beyond;
        head_is = ok.head_is;
        free_count = ok.free_count;
        free_pages_ok = ok.free_pages_ok;
        chain = ok.chain;
        ascends = ok.ascends;
        homed = ok.homed;
        dead = ok.dead;
      }

  -- ---- Others

  -- Nobody else restructures, and nobody is at 3, 4 or 5.
  grows : (j : ℕ) → j ≢ q → Grows (before t) then_scene (party_at m.parties j)
  grows j n =
      let p = party_at m.parties j in
      record {
        same_for_restructurer = λ h. absurd (false≢true (sym (others_rest m b t.inv q (restructures-now t) j n) ∙ h));
        level_rises = λ h. absurd (no_reader j n (reads_root m.root p (omega arith) (left_or (within 4 5 p.step) (eqb_same p.step 3 h))));
        low_grows = λ h. let l = leb-true p.step 5 (and_both (leb 4 p.step) (leb p.step 5) h).1 in
            absurd (no_reader j n (reads_root m.root p (omega arith) (right_or (eqb p.step 3) h)));
        live_grows = λ c o h l. (l, omega arith);
        firm = λ c o h d l. refl;
      }

  keeps : (j : ℕ) → j ≢ q → Keeps (before t) then_scene j (party_at m.parties j)
  keeps j n = record {
    sizes = sizes_then;
    grows = grows j n;
    entry= = refl;
    ours = λ k _ _. (refl, same_on m.pages m.pages (t.inv.ghost.held (owner k j)) (λ x. refl));
    scratch= = refl;
    chain= = λ c o h d l. (refl, refl);
    reading = λ x e h. (protected_row (before t) then_scene q (at_step 28 (me t)) refl refl (row_long t) (λ y o. refl) (party_at m.parties j).chain x h, refl);
    spare = λ u. refl;
  }

  -- ---- 27

  busy_then : Busy then_scene q (at_step 28 (me t)) t.entered
  unfolding has_step
  busy_then = busy_onto t 28 (has_step_ok t) (omega arith) then_scene refl refl (me t).old

  joined_then : Joined then_scene q (at_step 28 (me t)) t.entered
  joined_then =
      let h = t.facts.0 in
      record {
        noted = h.noted;
        made = h.made;
        joins = record { scratch_is = h.joins.scratch_is; built = h.joins.built };
        keeps_link = h.keeps_link;
        no_pages = no_pages_held (before t) then_scene q refl h.no_pages;
      }

  moved_back : MovedBack then_scene (at_step 28 (me t))
  unfolding size merge_partner
  moved_back = record {
    target = refl;
    partner = omega (arith, t.facts.1.partner, retreat.one_less);
    room = omega (arith, retreat.one_less, t.inv.extents_ok.root_fits);
  }

  parts_then : Parts m b t.inv q root_then locks_then m.pages (at_step 28 (me t)) b ghost_then
  parts_then = record {
    sizes = sizes_then;
    pages_many = refl;
    extents = extents_then;
    locks = locks_ok;
    pages = pages_then;
    book = record { ascends = t.inv.book_ok.ascends; same = t.inv.book_ok.same };
    self = working t.entered busy_then (joined_then, moved_back);
    others = keeps;
  }

  pub step27-kept : Kept m b q (step27 (view_of m q))
  unfolding step27 is_held root_moved_back
  step27-kept =
      rw (t.facts.1.goes_on, lock_held m.root m.parties t.inv.locks_ok q root_exclusive (omega arith) holds_root_lem) (moved-kept t (note_still t refl) parts_then)
