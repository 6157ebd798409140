-- Steps 20 and 21 keep the invariant: the root's next, then its level, come to say how far the live file extends already.
-- Main statements: step20-kept, step21-kept.
use mathlib.Core.Path.{◌≡◌, refl, sym, ap, ◌∙◌, subst}
use mathlib.Core.Logic.{◌≢◌}
use mathlib.Core.Bool.{true, cond, false≢true}
use Prim.Native.Nat.{ℕ, suc, ◌+◌, ◌≤◌, ◌<◌}
use native.Mathlib.Nat.{mod-lt, mod-eq_of_lt, mod_self}
use native.Mathlib.Omega.{arith}
use lib.ListN.{set}
use lib.Dec.{eqb}
use Rattle.model.specs.declared.Root.{Root}
use Rattle.model.specs.declared.Party.{Party}
use Rattle.model.specs.Records.{at_step, with_level, with_next}
use Rattle.model.specs.Addresses.{span, chain_count, split_next, split_level}
use Rattle.model.specs.Memory.{Memory, party_at, view_of}
use Rattle.model.specs.Book.{Book}
use Rattle.model.specs.Steps.SplitWrite.{step20, step21}
use Rattle.model.specs.Steps.Dispatch.{has_step}
use Rattle.model.specs.Outcome.{moved, with_party, with_root}
use Rattle.model.proofs.Laws.Lists.{Cmp, same, diff, cmp, cond_ind, eqb-true, eqb_same, eqb-diff, or_neither}
use Rattle.model.proofs.Laws.Addresses.{span_next, span_pos}
use Rattle.model.proofs.Laws.Structure.{same_on}
use Rattle.model.proofs.Invariant.Ghost.{owner, old_of, Extent, extent, root_extent, size, advance}
use Rattle.model.proofs.Invariant.LockMoves.{locks_root, locks_stay}
use Rattle.model.proofs.Invariant.Statement.{restructures, live_for, low_for, ExtentsOk, PagesOk, Scene, Leaving, facts_at, working}
use Rattle.model.proofs.Invariant.Frame.{SameLimits, Keeps, linked_sizes, claims_at_lem}
use Rattle.model.proofs.Invariant.Restructurer.{low_at, others_rest}
use Rattle.model.proofs.Invariant.Turn.{Plain, Turn, before, claims_at, has_step_ok, its_claims, me, note_still, notes_at, restructures-now, restructures_at, row_long, uses_at, uses_none}
use Rattle.model.proofs.Effects.Kept.{Kept, extents_by_one, moved-kept}
use Rattle.model.proofs.Effects.OwnRecord.{protected_row, pages_row}
use Rattle.model.proofs.Effects.Moves.{restructures_at_lem, busy_onto}

-- ---- The restructurer moves the root's level and next, and its own step number from k to k + 1

-- What it owes; how far the live file extends goes by its record, and stays.
pub record MovesRoot {m : Memory} {b : Book} {q k : ℕ} (t : Turn m b q k) (level next : ℕ) : Type 0 where
  pub plain : Plain k
  pub late : 12 ≤ k
  pub mine : restructures_at k ≡ true
  pub still_mine : restructures_at (suc k) ≡ true
  pub has_next : has_step (me t).operation (suc k) ≡ true
  pub same_claims : claims_at (suc k) (at_step (suc k) (me t)) ≡ claims_at k (me t)
  pub same_live : live_for (with_level level (with_next next m.root)) (at_step (suc k) (me t)) ≡ live_for m.root (me t)
  pub same_low : low_for (with_level level (with_next next m.root)) (at_step (suc k) (me t)) ≡ low_for m.root (me t)
  pub level_rises : m.root.level ≤ level
  pub next_fits : next < span m.root.originals level
  pub fits : size m.root.originals (extent level next) ≤ m.root.primaries
  pub leaving : Leaving (before t) q (me t) t.entered
  pub settles : (s : Scene) → Leaving s q (at_step (suc k) (me t)) t.entered → facts_at (suc k) s q (at_step (suc k) (me t)) t.entered

module _ {m : Memory} {b : Book} {q k : ℕ} (t : Turn m b q k) (level next : ℕ) (x : MovesRoot t level next) where
  abbrev root_then : Root
  root_then = with_level level (with_next next m.root)

  abbrev p_then : Party
  p_then = at_step (suc k) (party_at m.parties q)

  abbrev then_scene : Scene
  then_scene = record { root = root_then; parties = set m.parties q p_then; pages = m.pages; ghost = t.inv.ghost; entries = b.entries }

  same_limits_then : SameLimits m.root root_then
  same_limits_then = record { originals= = refl; capacity= = refl; primaries= = refl; overflow= = refl; parties= = refl }

  restructuring : restructures (me t) ≡ true
  restructuring = restructures-now t ∙ x.mine

  extents_then : ExtentsOk root_then (set m.parties q p_then) t.inv.ghost
  extents_then =
      let ok = t.inv.extents_ok in
      extents_by_one t x.mine
      (record {
        still = restructures_at_lem p_then (suc k) refl ∙ x.still_mine;
        live = ok.live-by q restructuring ∙ sym x.same_live;
        low = ok.low_by q restructuring ∙ sym x.same_low;
        live_next = ok.live_next;
        live_fits = ok.live_fits;
        root_next = x.next_fits;
        root_fits = x.fits;
      })

  pages_then : PagesOk root_then (set m.parties q p_then) m.pages t.inv.ghost
  pages_then =
      let ok = pages_row m b t.inv q (row_long t) p_then (λ d _. uses_none t (or_neither (notes_at k) (uses_at k) x.plain).1 d) in
      record {
        owned = ok.owned;
        kinds = ok.kinds;
        beyond = ok.beyond;
        head_is = ok.head_is;
        free_count = ok.free_count;
        free_pages_ok = ok.free_pages_ok;
        chain = ok.chain;
        ascends = ok.ascends;
        homed = ok.homed;
        dead = ok.dead;
      }

  keeps_then : (j : ℕ) → j ≢ q → Keeps (before t) then_scene j (party_at m.parties j)
  keeps_then j n = record {
    sizes = same_limits_then;
    grows = record {
      same_for_restructurer = λ h. absurd (false≢true (sym (others_rest m b t.inv q restructuring j n) ∙ h));
      level_rises = λ _. x.level_rises;
      low_grows = λ _ c l. (l, omega arith);
      live_grows = λ c o _ l. (l, omega arith);
      firm = λ c o _ _ _. refl;
    };
    entry= = refl;
    ours = λ y _ _. (refl, same_on m.pages m.pages (t.inv.ghost.held (owner y j)) (λ z. refl));
    scratch= = refl;
    chain= = λ d o h e l. (refl, refl);
    reading = λ y e h. (protected_row (before t) then_scene q p_then refl refl (row_long t) (λ z o. refl) (party_at m.parties j).chain y h, refl);
    spare = λ u. refl;
  }

  leaving_then : Leaving then_scene q p_then t.entered
  leaving_then =
      let h = x.leaving in
      record {
        noted = h.noted;
        made = h.made;
        trash = record { link = h.trash.link; linked = linked_sizes m.root root_then same_limits_then m.pages (t.inv.ghost.held (old_of q)) h.trash.linked };
        no_partner = h.no_partner;
        nothing_built = record { no_built = h.nothing_built.no_built; no_new = h.nothing_built.no_new };
      }

  root_kept : Kept m b q (moved (with_root (with_level level (with_next next m.root)) (with_party (at_step (suc k) (me t)) (view_of m q))))
  root_kept =
      moved-kept t (note_still t (or_neither (notes_at k) (uses_at k) x.plain).0)
      (record {
        sizes = same_limits_then;
        pages_many = refl;
        extents = extents_then;
        locks = locks_root m.root root_then (set m.parties q p_then)
            (locks_stay m.root m.parties q p_then (row_long t) (claims_at_lem m.root p_then (suc k) refl ∙ x.same_claims ∙ sym (its_claims t)) t.inv.locks_ok);
        pages = pages_then;
        book = record { ascends = t.inv.book_ok.ascends; same = t.inv.book_ok.same };
        self = working t.entered (busy_onto t (suc k) x.has_next x.late then_scene refl refl (me t).old) (x.settles then_scene leaving_then);
        others = keeps_then;
      })

-- ---- 20

-- (next + 1) mod (N × 2^level): 0 at the end of a round, else one more.
split_next_last : (n level next : ℕ) → next + 1 ≡ span n level → split_next n level next ≡ 0
unfolding split_next
split_next_last n level next e = rw e (mod_self (span n level))

split_next_more : (n level next : ℕ) → next + 1 < span n level → split_next n level next ≡ next + 1
unfolding split_next
split_next_more n level next h = mod-eq_of_lt h

-- Where next is then 0 the level is yet to rise: that is the extent one split further.
pub split-advances : (n level next : ℕ) → next < span n level
    → cond (eqb (split_next n level next) 0) (extent (level + 1) 0) (extent level (split_next n level next)) ≡ advance n (extent level next)
unfolding advance
split-advances n level next h = go (cmp (next + 1) (span n level))
  where
    go : Cmp (next + 1) (span n level)
        → cond (eqb (split_next n level next) 0) (extent (level + 1) 0) (extent level (split_next n level next))
        ≡ cond (eqb (next + 1) (span n level)) (extent (level + 1) 0) (extent level (next + 1))
    go (same e) = rw (split_next_last n level next e, eqb_same (next + 1) (span n level) e) refl
    go (diff d) = rw (split_next_more n level next (omega arith), eqb-diff (next + 1) 0 (omega arith), eqb-diff (next + 1) (span n level) d) refl

split_next_fits : (n level next : ℕ) → 0 < n → split_next n level next < span n level
unfolding split_next
split_next_fits n level next some = mod-lt (next + 1) (span_pos n level some)

split_next_size : (n level next : ℕ) → next < span n level → size n (extent level (split_next n level next)) ≤ size n (advance n (extent level next))
unfolding size chain_count
split_next_size n level next h =
    subst (λ (e : Extent). span n level + split_next n level next ≤ span n e.level + e.next) (split-advances n level next h)
    (cond_ind (λ (e : Extent). span n level + split_next n level next ≤ span n e.level + e.next) (eqb (split_next n level next) 0) _ _
    (λ t. omega (arith, eqb-true (split_next n level next) 0 t, span_next n level)) (λ _. omega arith))

module _ {m : Memory} {b : Book} {q : ℕ} (t : Turn m b q 20) where
  abbrev r : Root
  r = m.root

  abbrev then_next : ℕ
  then_next = split_next m.root.originals m.root.level m.root.next

  live_at_20 : live_for r (me t) ≡ advance r.originals (root_extent r)
  unfolding live_for
  live_at_20 = rw t.is_at refl

  live_20_then : live_for (with_next then_next r) (at_step 21 (me t)) ≡ live_for r (me t)
  unfolding live_for
  live_20_then = split-advances r.originals r.level r.next t.inv.extents_ok.root_next ∙ sym live_at_20

  fits_20_then : size r.originals (extent r.level then_next) ≤ r.primaries
  fits_20_then =
      let l = rw (t.inv.extents_ok.live-by q (restructures-now t) ∙ live_at_20) at t.inv.extents_ok.live_fits in
      omega (arith, split_next_size r.originals r.level r.next t.inv.extents_ok.root_next, l)

  pub step20-kept : Kept m b q (step20 (view_of m q))
  unfolding step20 has_step
  step20-kept =
      root_kept t r.level then_next
      (record {
        plain = refl;
        late = omega arith;
        mine = refl;
        still_mine = refl;
        has_next = has_step_ok t;
        same_claims = refl;
        same_live = live_20_then;
        same_low = low_at (with_next then_next r) (at_step 21 (me t)) 21 refl refl ∙ live_20_then ∙ sym (low_at r (me t) 20 t.is_at refl);
        level_rises = omega arith;
        next_fits = split_next_fits r.originals r.level r.next t.inv.limits.some_original;
        fits = fits_20_then;
        leaving = t.facts;
        settles = λ s f. f;
      })

-- ---- 21

-- The extent that the root then says.
pub level_raised : (level next : ℕ) → cond (eqb next 0) (extent (level + 1) 0) (extent level next) ≡ extent (split_level level next) next
unfolding split_level
level_raised level next = go (cmp next 0)
  where
    go : Cmp next 0 → cond (eqb next 0) (extent (level + 1) 0) (extent level next) ≡ extent (cond (eqb next 0) (level + 1) level) next
    go (same e) = rw (eqb_same next 0 e) (ap (extent (level + 1)) (sym e))
    go (diff d) = rw (eqb-diff next 0 d) refl

level_rises : (level next : ℕ) → level ≤ split_level level next
unfolding split_level
level_rises level next = cond_ind (λ (l : ℕ). level ≤ l) (eqb next 0) (level + 1) level (λ _. omega arith) (λ _. omega arith)

module _ {m : Memory} {b : Book} {q : ℕ} (t : Turn m b q 21) where
  abbrev root : Root
  root = m.root

  abbrev then_level : ℕ
  then_level = split_level m.root.level m.root.next

  live_at_21 : live_for root (me t) ≡ extent then_level root.next
  unfolding live_for
  live_at_21 = rw t.is_at (level_raised root.level root.next)

  live_21_then : live_for (with_level then_level root) (at_step 22 (me t)) ≡ live_for root (me t)
  unfolding live_for
  live_21_then = sym live_at_21

  -- The root then says how far the live file extends.
  live-is : t.inv.ghost.live ≡ extent then_level root.next
  live-is = t.inv.extents_ok.live-by q (restructures-now t) ∙ live_at_21

  pub step21-kept : Kept m b q (step21 (view_of m q))
  unfolding step21 has_step
  step21-kept =
      root_kept t then_level root.next
      (record {
        plain = refl;
        late = omega arith;
        mine = refl;
        still_mine = refl;
        has_next = has_step_ok t;
        same_claims = refl;
        same_live = live_21_then;
        same_low = low_at (with_level then_level root) (at_step 22 (me t)) 22 refl refl ∙ live_21_then ∙ sym (low_at root (me t) 21 t.is_at refl);
        level_rises = level_rises root.level root.next;
        next_fits = rw live-is at t.inv.extents_ok.live_next;
        fits = rw live-is at t.inv.extents_ok.live_fits;
        leaving = t.facts;
        settles = λ s f. f;
      })
