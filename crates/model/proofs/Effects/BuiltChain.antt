-- A live chain looked through whole, and one chain built beside the file in pages taken from the free list, its
-- primary page in scratch (step 10).
-- Main statements: chain_found; taken_one (the free list gives the pages); memory_long, built_off (the page memory
-- then); building_then, kept_by, none_new (what the party then has), Onward and built_parts (the parts of the invariant
-- after such a step).
use mathlib.Core.Path.{◌≡◌, refl, sym, ap, ◌∙◌, subst}
use mathlib.Core.Logic.{◌≢◌}
use mathlib.Core.Bool.{true, false, false≢true}
use mathlib.Core.List.{List, []}
use Prim.Native.Nat.{ℕ, ◌+◌, ◌-◌, ◌≤◌, ◌<◌}
use native.Mathlib.Nat.{add-zero}
use native.Mathlib.Omega.{arith}
use lib.ListN.{length, set, take, drop}
use lib.Dec.{eqb}
use Rattle.model.specs.declared.Root.{Root}
use Rattle.model.specs.declared.Party.{Party}
use Rattle.model.specs.Sizes.{page_words}
use Rattle.model.specs.Records.{with_free_list, at_step}
use Rattle.model.specs.declared.Entry.{Entry}
use Rattle.model.specs.Pages.{page_of, with_page, primary_page, scratch_page, link_to_first, zero_page}
use Rattle.model.specs.Chains.{chain_of, sound}
use Rattle.model.specs.Filling.{pages_for, primary_of, overflow_written}
use Rattle.model.specs.FreeList.{is_among, pages_taken}
use Rattle.model.specs.Memory.{Memory, party_at}
use Rattle.model.specs.Book.{Book}
use Rattle.model.proofs.Laws.Lists.{Told, holds, fails, tell, Cmp, same, diff, cmp, All}
use Rattle.model.proofs.Laws.Distinct.{distinct_count}
use Rattle.model.proofs.Laws.Pages.{Has, length-with_page, page_same, page_other}
use Rattle.model.proofs.Laws.Structure.{Overflow, overflow_frame}
use Rattle.model.proofs.Laws.Filling.{IsOverflow, length-primary_of, overflow_written_ok, overflow_written_other, length-overflow_written}
use Rattle.model.proofs.Laws.Reading.{held_overflow, held_length, has_overflow, absent_outside, chain_read}
use Rattle.model.proofs.Invariant.Ghost.{Owner, free, in_chain, built_by, new_by, size, local_level, count, Ghost, Owned}
use Rattle.model.proofs.Invariant.Owners.{same_from, kinds_apart, no_repeats, overflow_bounds}
use Rattle.model.proofs.Invariant.LockMoves.{locks_root, locks_stay}
use Rattle.model.proofs.Invariant.Extents.{local_most}
use Rattle.model.proofs.Invariant.Statement.{restructures, live_for, low_for, uses, Scene, NoPages, Building, PartyOk, Inv}
use Rattle.model.proofs.Invariant.Turn.{Turn, before, claims_at, its_claims, me, restructures_at, row_long, uses_none, uses_at}
use Rattle.model.proofs.Invariant.Frame.{claims_at_lem}
use Rattle.model.proofs.Effects.Kept.{row_other, Parts}
use Rattle.model.proofs.Effects.Taking.{taken_ghost, taken_is, built_many, owned_then, built_then, new_then, held_kept, built_overflow, taking_parts, Takes}
use Rattle.model.proofs.Effects.Moves.{extents_keep}

-- ---- A live chain looked through

pub chain_found : (m : Memory) (b : Book) (i : Inv m b) (c : ℕ) → c < size m.root.originals i.ghost.live
    → chain_of m.root m.pages c ≡ sound (record {
      level = local_level m.root.originals i.ghost.live c;
      link = link_to_first (i.ghost.held (in_chain c));
      pages = i.ghost.held (in_chain c);
      entries = i.ghost.records c;
    })
chain_found m b i c live =
    chain_read m.root m.pages c (local_level m.root.originals i.ghost.live c) (i.ghost.records c) (i.ghost.held (in_chain c)) (i.pages_ok.chain c live) (local_most i c)
    (held_overflow m.root i.pages_ok.owned (in_chain c)) (held_length m.root i.pages_ok.owned (in_chain c)) (i.pages_ok.ascends c live)

-- ---- One chain built: the records es, at this local level

-- The party has no pages yet, and there are enough free pages.
pub record Builds {m : Memory} {b : Book} {q k : ℕ} (t : Turn m b q k) (es : List Entry) : Type 0 where
  pub no_pages : NoPages (before t) q
  pub enough : pages_for m.root.capacity es ≤ m.root.free

module _ {m : Memory} {b : Book} {q k : ℕ} (t : Turn m b q k) (level : ℕ) (es : List Entry) (new : Builds t es) where
  abbrev r : Root
  r = m.root

  abbrev need : ℕ
  need = pages_for r.capacity es

  abbrev frees : List ℕ
  frees = t.inv.ghost.held free

  -- The laws of pages taken speak of a second run of pages, none here.
  pub want : Takes t (pages_for m.root.capacity es) 0
  want = record { enough = omega (arith, new.enough); no_pages = new.no_pages }

  -- The pages taken, the root then, and who owns what then.
  abbrev xs : List ℕ
  xs = take need frees

  root_taking : ℕ → Root
  root_taking n = with_free_list (link_to_first (drop n frees)) (r.free - n) r

  abbrev pub built_root : Root
  built_root = with_free_list (link_to_first (drop need frees)) (r.free - need) r

  abbrev pub built_ghost : Ghost
  built_ghost = taken_ghost t need 0 want

  pub taken_one : pages_taken r m.pages need ≡ sound (record { pages = take need (t.inv.ghost.held free); head = link_to_first (drop need (t.inv.ghost.held free)) })
  taken_one =
      subst (λ (n : ℕ). pages_taken r m.pages n ≡ sound (record { pages = take n frees; head = link_to_first (drop n frees) })) (add-zero need)
      (taken_is t need 0 want)

  owned : Owned r.primaries r.overflow built_ghost.own built_ghost.held
  owned = owned_then t need 0 want

  pub held_built : built_ghost.held (built_by q) ≡ take need (t.inv.ghost.held free)
  held_built = built_then t need 0 want

  pub many_built : length (built_ghost.held (built_by q)) ≡ need
  many_built = ap (λ (l : List ℕ). length l) held_built ∙ built_many t need 0 want

  pub none_new : built_ghost.held (new_by q) ≡ []
  none_new = new_then t need 0 want

  -- Every owner but the free list and what the party builds keeps its list.
  pub kept_by : (o : Owner) → eqb o.kind 1 ≡ false → eqb o.kind 5 ≡ false → eqb o.kind 6 ≡ false → built_ghost.held o ≡ t.inv.ghost.held o
  kept_by o f u n = held_kept t need 0 want o (kinds_apart o free f) (kinds_apart o (built_by q) u) (kinds_apart o (new_by q) n)

  xs_overflow : All (IsOverflow r) xs
  xs_overflow = built_overflow t need 0 want

  -- ---- The pages written

  abbrev filled : List ℕ
  filled = overflow_written r.capacity m.pages xs es

  abbrev primary : List ℕ
  primary = primary_of r.capacity level es xs

  abbrev pub built_memory : List ℕ
  built_memory = with_page filled (scratch_page r q) primary

  xs_has : All (Has m.pages) xs
  xs_has = has_overflow r m.pages xs t.inv.pages_many xs_overflow

  filled_long : length filled ≡ length m.pages
  filled_long = length-overflow_written r.capacity t.inv.limits.keys_fit m.pages xs es xs_has

  primary_long : length primary ≡ page_words
  primary_long = length-primary_of r.capacity level es xs t.inv.limits.keys_fit

  scratch_has : Has filled (scratch_page r q)
  scratch_has = record { fits = omega (arith, filled_long, t.inv.pages_many) }

  pub memory_long : length built_memory ≡ length m.pages
  memory_long = length-with_page filled (scratch_page r q) primary scratch_has primary_long ∙ filled_long

  scratch_off : (x : ℕ) → x ≢ scratch_page r q → page_of built_memory x ≡ page_of filled x
  scratch_off x n = page_other filled (scratch_page r q) primary scratch_has primary_long x n

  pub built_off : (x : ℕ) → x ≢ scratch_page r q → is_among x xs ≡ false → page_of built_memory x ≡ page_of m.pages x
  built_off x n h = scratch_off x n ∙ overflow_written_other r.capacity t.inv.limits.keys_fit m.pages xs es xs_has x (absent_outside x xs h)

  -- A page taken is an overflow page.
  bounds : (x : ℕ) → is_among x xs ≡ true → (r.primaries ≤ x) × (x < r.primaries + r.overflow)
  bounds x h = overflow_bounds owned (built_by q) x (rw held_built h)

  primary_off : (d : ℕ) → d < r.primaries → is_among d xs ≡ false
  primary_off d fits = go (tell (is_among d xs))
    where
      go : Told (is_among d xs) → is_among d xs ≡ false
      go (fails h) = h
      go (holds h) = absurd (let z = bounds d h in omega arith)

  overflow_built : Overflow r.capacity built_memory xs (drop r.capacity es)
  overflow_built =
      overflow_frame r.capacity filled built_memory xs (drop r.capacity es) (same_from filled built_memory xs (λ x h. scratch_off x (let z = bounds x h in λ e. omega arith)))
      (overflow_written_ok r.capacity t.inv.limits.keys_fit m.pages xs es t.inv.limits.some_key xs_has
      (distinct_count xs (λ x. subst (λ (l : List ℕ). count x l ≤ 1) held_built (no_repeats owned (built_by q) x))) (built_many t need 0 want))

  -- ---- A step that built this and goes on with the record p and the book c

  module _ (p : Party) (c : Book) where
    abbrev pub built_scene : Scene
    built_scene = record { root = built_root; parties = set m.parties q p; pages = built_memory; ghost = built_ghost; entries = c.entries }

    pub building_then : Building built_scene q level es
    building_then = record {
      scratch_is = page_same filled (scratch_page r q) primary scratch_has primary_long ∙ ap (primary_of r.capacity level es) (sym held_built);
      built = subst (λ (l : List ℕ). Overflow r.capacity built_memory l (drop r.capacity es)) (sym held_built) overflow_built;
    }

    -- What the step leaves besides.
    pub record Onward : Type 0 where
      pub uses_no_page : uses_at k ≡ false
      pub same_claims : claims_at p.step p ≡ claims_at k (me t)
      pub same_part : restructures p ≡ restructures_at k
      pub same_live : live_for m.root p ≡ live_for m.root (at_step k (me t))
      pub same_low : low_for m.root p ≡ low_for m.root (at_step k (me t))
      pub entries= : (j : ℕ) → j ≢ q → c.entries j ≡ b.entries j
      pub contents= : c.contents ≡ b.contents

    module _ (on : Onward) where
      dead_then : (d : ℕ) → size r.originals t.inv.ghost.live ≤ d → d < r.primaries → ((j : ℕ) → uses (party_at (set m.parties q p) j) d ≡ false) → page_of built_memory (primary_page d) ≡ zero_page
      dead_then d far fits u = built_off d (omega arith) (primary_off d fits) ∙ t.inv.pages_ok.dead d far fits (λ j. unused j (cmp j q))
        where
          unused : (j : ℕ) → Cmp j q → uses (party_at m.parties j) d ≡ false
          unused j (same e) = rw e (uses_none t on.uses_no_page d)
          unused j (diff n) = rw (row_other m.parties q j p n) at (u j)

      -- The parts of the invariant, first with the root as the laws of pages taken write it.
      parts_taking : PartyOk (record { root = root_taking (need + 0); parties = set m.parties q p; pages = built_memory; ghost = built_ghost; entries = c.entries }) q p
          → Parts m b t.inv q (root_taking (need + 0)) m.locks built_memory p c built_ghost
      unfolding root_taking is_among
      parts_taking self =
          taking_parts t need 0 want built_memory p c []
          (record {
            long = memory_long;
            off = λ x n _ h _. built_off x n h;
            touch_extra = λ x h. absurd (false≢true h);
            extra_primary = λ x h. absurd (false≢true h);
            entries= = on.entries=;
            contents= = on.contents=;
            dead = dead_then;
          })
          m.locks
          (extents_keep t
          (record {
            sizes = record { limits = record { originals= = refl; capacity= = refl; primaries= = refl; overflow= = refl; parties= = refl }; level= = refl; next= = refl };
            live= = refl;
            low= = refl;
          })
          p on.same_part on.same_live on.same_low)
          (locks_root r (root_taking (need + 0)) (set m.parties q p)
          (locks_stay r m.parties q p (row_long t) (claims_at_lem r p p.step refl ∙ on.same_claims ∙ sym (its_claims t)) t.inv.locks_ok))
          self

      pub built_parts : PartyOk built_scene q p → Parts m b t.inv q built_root m.locks built_memory p c built_ghost
      unfolding root_taking
      built_parts =
          subst (λ (n : ℕ). PartyOk (record { root = root_taking n; parties = set m.parties q p; pages = built_memory; ghost = built_ghost; entries = c.entries }) q p
          → Parts m b t.inv q (root_taking n) m.locks built_memory p c built_ghost) (add-zero need) parts_taking
