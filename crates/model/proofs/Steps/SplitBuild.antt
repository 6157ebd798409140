-- Step 17 keeps the invariant: both halves of the chain that splits are built beside the file, or the split is skipped.
-- Main statement: step17-kept.
use mathlib.Core.Path.{◌≡◌, refl, sym, ap, ◌∙◌, subst}
use mathlib.Core.Logic.{◌≢◌, ◌⊎◌, inl, inr}
use mathlib.Core.Bool.{true, false, false≢true}
use mathlib.Core.List.{List, [], ◌∷◌}
use Prim.Native.Nat.{ℕ, ◌+◌, ◌≤◌, ◌<◌}
use native.Mathlib.Omega.{arith}
use lib.ListN.{length, set, take, drop}
use lib.Dec.{eqb, ltb}
use Rattle.model.specs.declared.Root.{Root}
use Rattle.model.specs.declared.Party.{Party}
use Rattle.model.specs.declared.Restructuring.TheVariants as Restructuring
use Rattle.model.specs.Sizes.{lock_words, page_words}
use Rattle.model.specs.Records.{idle, at_step, with_old}
use Rattle.model.specs.Addresses.{chain_count, split_barred, count_of_chains}
use Rattle.model.specs.declared.Entry.{Entry}
use Rattle.model.specs.Entries.{staying, going}
use Rattle.model.specs.Pages.{page_of, with_page, primary_page, scratch_page, link_to_first, zero_page}
use Rattle.model.specs.Chains.{Chain}
use Rattle.model.specs.Filling.{pages_for, primary_of, overflow_written}
use Rattle.model.specs.FreeList.{is_among, too_few, root_after_taking}
use Rattle.model.specs.Memory.{Memory, party_at, view_of}
use Rattle.model.specs.Book.{Book}
use Rattle.model.specs.LockRequests.{chain_selective, root_selective}
use Rattle.model.specs.Endings.{ended_with}
use Rattle.model.specs.Steps.SplitBuild.{halves_of, halves_need, halves_written, divided, divide_with, step17}
use Rattle.model.specs.Steps.Dispatch.{has_step}
use Rattle.model.proofs.Laws.Lists.{cond_ind, Told, holds, fails, tell, Cmp, same, diff, cmp, eqb-diff, eqb-false, or_neither, first_or_rest, ltb-false, All}
use Rattle.model.proofs.Laws.Distinct.{distinct_count}
use Rattle.model.proofs.Laws.Pages.{Has, length-with_page, page_same, page_other}
use Rattle.model.proofs.Laws.Structure.{Overflow, ChainIs, overflow_frame}
use Rattle.model.proofs.Laws.Filling.{IsOverflow, length-primary_of, overflow_written_ok, overflow_written_other, length-overflow_written}
use Rattle.model.proofs.Laws.Reading.{has_overflow, absent_outside}
use Rattle.model.proofs.Invariant.Ghost.{Owner, free, in_chain, old_of, partner_of, built_by, new_by, root_extent, size, local_level, count, Ghost, Owned}
use Rattle.model.proofs.Invariant.Owners.{same_from, kinds_apart, no_repeats, overflow_bounds, absent_elsewhere}
use Rattle.model.specs.Claims.{claims}
use Rattle.model.proofs.Invariant.Claims.{claimed, LocksOk}
use Rattle.model.proofs.Invariant.LockMoves.{locks_root, locks_stay}
use Rattle.model.proofs.Invariant.Restructurer.{others_use_none}
use Rattle.model.proofs.Invariant.Statement.{restructures, live_for, low_for, ExtentsOk, uses, Scene, NoPages, Divided, working}
use Rattle.model.proofs.Invariant.Turn.{Turn, before, has_step_ok, its_claims, live_now, me, note_still, row_long, uses_none, restructures-now}
use Rattle.model.proofs.Effects.Kept.{Kept, row_same, row_other, Parts, moved-kept}
use Rattle.model.proofs.Effects.Touch.{Touch, outside}
use Rattle.model.proofs.Effects.Done.{ended-kept}
use Rattle.model.proofs.Effects.BuiltChain.{chain_found}
use Rattle.model.proofs.Effects.Taking.{built_pages, new_pages, taken_ghost, taken_root, taken_is, built_cut, new_cut, built_many, new_many, owned_then, built_then, new_then, held_kept, built_overflow, new_overflow, taking_parts, Takes}
use Rattle.model.proofs.Effects.Moves.{busy_onto, extents_keep, extents_stop}

module _ {m : Memory} {b : Book} {q : ℕ} (t : Turn m b q 17) where
  abbrev r : Root
  r = m.root

  no_pages : NoPages (before t) q
  no_pages = t.facts.settled.no_pages

  -- The live file extends as the root says.
  live-is : t.inv.ghost.live ≡ root_extent r
  unfolding live_for
  live-is = live_now t refl

  chain_next : (me t).chain ≡ r.next
  chain_next = t.facts.chains.old_chain

  size_is : size r.originals t.inv.ghost.live ≡ count_of_chains r
  unfolding size
  size_is = rw live-is refl

  chain_live : (me t).chain < size r.originals t.inv.ghost.live
  unfolding chain_count
  chain_live = rw size_is (omega (arith, chain_next, t.inv.extents_ok.root_next))

  abbrev olds : List ℕ
  olds = t.inv.ghost.held (in_chain (me t).chain)

  abbrev records : List Entry
  records = t.inv.ghost.records (me t).chain

  abbrev whole : Chain
  whole = record { level = local_level r.originals t.inv.ghost.live (me t).chain; link = link_to_first olds; pages = olds; entries = records }

  room : split_barred (count_of_chains r) r.primaries ≡ false
  unfolding split_barred
  room = eqb-diff (count_of_chains r) r.primaries (omega (arith, t.facts.chains.room))

  -- ---- Too few pages: the split is skipped

  skipped : Kept m b q (ended_with (view_of m q) (root_selective ∷ (chain_selective (me t) ∷ [])) Restructuring.SplitSkipped)
  unfolding restructures live_for low_for
  skipped =
      ended-kept t
      (record {
        plain = refl;
        noted = t.facts.settled.noted;
        no_pages = no_pages;
        extents = extents_stop t idle refl refl refl refl;
        holds = refl;
        apart = ((omega arith, tt), (tt, tt));
        fit = (omega arith, (omega (arith, t.busy.chain_fits), tt));
      })
      Restructuring.SplitSkipped

  -- ---- Both halves

  abbrev stay : List Entry
  stay = staying r.originals (r.level + 1) (me t).chain records

  abbrev go : List Entry
  go = going r.originals (r.level + 1) (me t).chain records

  abbrev need_stay : ℕ
  need_stay = pages_for r.capacity stay

  abbrev need_go : ℕ
  need_go = pages_for r.capacity go

  module _ (enough : need_stay + need_go ≤ r.free) where
    abbrev want : Takes t need_stay need_go
    want = record { enough = enough; no_pages = no_pages }

    -- The pages of the staying half and of the new chain, and who owns what then.
    abbrev xs : List ℕ
    xs = built_pages t need_stay need_go want

    abbrev ys : List ℕ
    ys = new_pages t need_stay need_go want

    abbrev ghost_then : Ghost
    ghost_then = taken_ghost t need_stay need_go want

    abbrev root_then : Root
    root_then = taken_root t need_stay need_go want

    owned : Owned r.primaries r.overflow ghost_then.own ghost_then.held
    owned = owned_then t need_stay need_go want

    held_stay : ghost_then.held (built_by q) ≡ xs
    held_stay = built_then t need_stay need_go want

    held_go : ghost_then.held (new_by q) ≡ ys
    held_go = new_then t need_stay need_go want

    xs_overflow : All (IsOverflow r) xs
    xs_overflow = built_overflow t need_stay need_go want

    ys_overflow : All (IsOverflow r) ys
    ys_overflow = new_overflow t need_stay need_go want

    -- ---- The pages written

    abbrev level : ℕ
    level = r.level + 1

    abbrev pages₁ : List ℕ
    pages₁ = overflow_written r.capacity m.pages xs stay

    abbrev pages₂ : List ℕ
    pages₂ = overflow_written r.capacity pages₁ ys go

    abbrev pages₃ : List ℕ
    pages₃ = with_page pages₂ (me t).other (primary_of r.capacity level go ys)

    abbrev pages_then : List ℕ
    pages_then = with_page pages₃ (scratch_page r q) (primary_of r.capacity level stay xs)

    xs_has : All (Has m.pages) xs
    xs_has = has_overflow r m.pages xs t.inv.pages_many xs_overflow

    long₁ : length pages₁ ≡ length m.pages
    long₁ = length-overflow_written r.capacity t.inv.limits.keys_fit m.pages xs stay xs_has

    ys_has : All (Has pages₁) ys
    ys_has = has_overflow r pages₁ ys (long₁ ∙ t.inv.pages_many) ys_overflow

    long₂ : length pages₂ ≡ length m.pages
    long₂ = length-overflow_written r.capacity t.inv.limits.keys_fit pages₁ ys go ys_has ∙ long₁

    page_go : length (primary_of r.capacity level go ys) ≡ page_words
    page_go = length-primary_of r.capacity level go ys t.inv.limits.keys_fit

    page_stay : length (primary_of r.capacity level stay xs) ≡ page_words
    page_stay = length-primary_of r.capacity level stay xs t.inv.limits.keys_fit

    other_has : Has pages₂ (me t).other
    other_has = record { fits = omega (arith, long₂, t.inv.pages_many, t.busy.other_fits) }

    long₃ : length pages₃ ≡ length m.pages
    long₃ = length-with_page pages₂ (me t).other (primary_of r.capacity level go ys) other_has page_go ∙ long₂

    scratch_has : Has pages₃ (scratch_page r q)
    scratch_has = record { fits = omega (arith, long₃, t.inv.pages_many) }

    long_then : length pages_then ≡ length m.pages
    long_then = length-with_page pages₃ (scratch_page r q) (primary_of r.capacity level stay xs) scratch_has page_stay ∙ long₃

    -- A page of neither half, but for the two primary pages.
    late_off : (x : ℕ) → x ≢ scratch_page r q → x ≢ (me t).other → page_of pages_then x ≡ page_of pages₂ x
    late_off x n o =
        page_other pages₃ (scratch_page r q) (primary_of r.capacity level stay xs) scratch_has page_stay x n
        ∙ page_other pages₂ (me t).other (primary_of r.capacity level go ys) other_has page_go x o

    go_off : (x : ℕ) → is_among x ys ≡ false → page_of pages₂ x ≡ page_of pages₁ x
    go_off x h = overflow_written_other r.capacity t.inv.limits.keys_fit pages₁ ys go ys_has x (absent_outside x ys h)

    stay_off : (x : ℕ) → is_among x xs ≡ false → page_of pages₁ x ≡ page_of m.pages x
    stay_off x h = overflow_written_other r.capacity t.inv.limits.keys_fit m.pages xs stay xs_has x (absent_outside x xs h)

    -- A page of a half is an overflow page.
    stay_page : (x : ℕ) → is_among x xs ≡ true → (x ≢ scratch_page r q) × (x ≢ (me t).other) × (is_among x ys ≡ false)
    stay_page x h =
        let mine : is_among x (ghost_then.held (built_by q)) ≡ true = rw held_stay h in
        let z = overflow_bounds owned (built_by q) x mine in
        ((λ e. omega arith), (λ e. omega (arith, t.busy.other_fits)), ap (is_among x) (sym held_go) ∙ absent_elsewhere owned (built_by q) (new_by q) x mine (kinds_apart (built_by q) (new_by q) refl))

    go_page : (x : ℕ) → is_among x ys ≡ true → (x ≢ scratch_page r q) × (x ≢ (me t).other)
    go_page x h =
        let mine : is_among x (ghost_then.held (new_by q)) ≡ true = rw held_go h in
        let z = overflow_bounds owned (new_by q) x mine in
        ((λ e. omega arith), (λ e. omega (arith, t.busy.other_fits)))

    stay_built : Overflow r.capacity pages_then xs (drop r.capacity stay)
    stay_built =
        overflow_frame r.capacity pages₁ pages_then xs (drop r.capacity stay)
        (same_from pages₁ pages_then xs (λ x h. let z = stay_page x h in late_off x z.0 z.1 ∙ go_off x z.2))
        (overflow_written_ok r.capacity t.inv.limits.keys_fit m.pages xs stay t.inv.limits.some_key xs_has
        (distinct_count xs (λ x. subst (λ (l : List ℕ). count x l ≤ 1) held_stay (no_repeats owned (built_by q) x))) (built_many t need_stay need_go want))

    go_built : ChainIs r.capacity pages_then (me t).other level go ys
    go_built = record {
      primary = page_other pages₃ (scratch_page r q) (primary_of r.capacity level stay xs) scratch_has page_stay (me t).other (omega (arith, t.busy.other_fits))
          ∙ page_same pages₂ (me t).other (primary_of r.capacity level go ys) other_has page_go;
      overflow = overflow_frame r.capacity pages₂ pages_then ys (drop r.capacity go)
          (same_from pages₂ pages_then ys (λ x h. let z = go_page x h in late_off x z.0 z.1))
          (overflow_written_ok r.capacity t.inv.limits.keys_fit pages₁ ys go t.inv.limits.some_key ys_has
          (distinct_count ys (λ x. subst (λ (l : List ℕ). count x l ≤ 1) held_go (no_repeats owned (new_by q) x))) (new_many t need_stay need_go want));
    }

    -- ---- What the party then knows

    abbrev p_then : Party
    p_then = at_step 18 (with_old (link_to_first olds) (me t))

    uses_then : (d : ℕ) → uses p_then d ≡ false → d ≢ (me t).other
    unfolding uses
    uses_then d h e = eqb-false (me t).other d h (sym e)

    -- The new chain's primary page is outside the live file, and nobody else uses it.
    touch_other : (x : ℕ) → is_among x ((me t).other ∷ []) ≡ true → Touch (before t) q x
    unfolding is_among
    touch_other x h = go (first_or_rest x (me t).other [] h)
      where
        go : ((me t).other ≡ x) ⊎ (is_among x [] ≡ true) → Touch (before t) q x
        go (inl e) = subst (λ (y : ℕ). Touch (before t) q y) e
            (outside t.busy.other_fits (omega (arith, size_is, t.facts.chains.new_chain)) (others_use_none m b t.inv q (restructures-now t) (me t).other))
        go (inr e) = absurd (false≢true e)

    other_primary : (x : ℕ) → is_among x ((me t).other ∷ []) ≡ true → x < r.primaries
    unfolding is_among
    other_primary x h = go (first_or_rest x (me t).other [] h)
      where
        go : ((me t).other ≡ x) ⊎ (is_among x [] ≡ true) → x < r.primaries
        go (inl e) = omega (arith, e, t.busy.other_fits)
        go (inr e) = absurd (false≢true e)

    off : (x : ℕ) → x ≢ scratch_page r q → is_among x ((me t).other ∷ []) ≡ false → is_among x xs ≡ false → is_among x ys ≡ false → page_of pages_then x ≡ page_of m.pages x
    unfolding is_among
    off x n o s g = late_off x n (λ e. eqb-false (me t).other x (or_neither (eqb (me t).other x) false o).0 (sym e)) ∙ go_off x g ∙ stay_off x s

    -- The primary pages outside the live file, but for the new chain's.
    dead_then : (d : ℕ) → size r.originals t.inv.ghost.live ≤ d → d < r.primaries → ((j : ℕ) → uses (party_at (set m.parties q p_then) j) d ≡ false) → page_of pages_then (primary_page d) ≡ zero_page
    dead_then d far fits u =
        late_off d (omega arith) (uses_then d (rw (row_same m.parties q p_then (row_long t)) at (u q)))
        ∙ go_off d (no_overflow d fits (new_by q) ys held_go) ∙ stay_off d (no_overflow d fits (built_by q) xs held_stay)
        ∙ t.inv.pages_ok.dead d far fits (λ j. unused j (cmp j q))
      where
        no_overflow : (x : ℕ) → x < r.primaries → (o : Owner) (zs : List ℕ) → ghost_then.held o ≡ zs → is_among x zs ≡ false
        no_overflow x l o zs e = go (tell (is_among x zs))
          where
            go : Told (is_among x zs) → is_among x zs ≡ false
            go (fails h) = h
            go (holds h) = absurd (let z = overflow_bounds owned o x (rw e h) in omega arith)

        unused : (j : ℕ) → Cmp j q → uses (party_at m.parties j) d ≡ false
        unused j (same e) = rw e (uses_none t refl d)
        unused j (diff n) = rw (row_other m.parties q j p_then n) at (u j)

    extents_then : ExtentsOk root_then (set m.parties q p_then) ghost_then
    unfolding restructures live_for low_for
    extents_then =
        extents_keep t
        (record {
          sizes = record { limits = record { originals= = refl; capacity= = refl; primaries= = refl; overflow= = refl; parties= = refl }; level= = refl; next= = refl };
          live= = refl;
          low= = refl;
        })
        p_then refl refl refl

    locks_then : LocksOk (lock_words root_then) m.locks (claimed root_then (set m.parties q p_then))
    unfolding claims
    locks_then = locks_root r root_then (set m.parties q p_then) (locks_stay r m.parties q p_then (row_long t) (sym (its_claims t)) t.inv.locks_ok)

    abbrev scene_then : Scene
    scene_then = record { root = root_then; parties = set m.parties q p_then; pages = pages_then; ghost = ghost_then; entries = b.entries }

    kept : (o : Owner) → eqb o.kind 1 ≡ false → eqb o.kind 5 ≡ false → eqb o.kind 6 ≡ false → ghost_then.held o ≡ t.inv.ghost.held o
    kept o f u n = held_kept t need_stay need_go want o (kinds_apart o free f) (kinds_apart o (built_by q) u) (kinds_apart o (new_by q) n)

    divided_then : Divided scene_then q p_then t.entered
    divided_then =
        let f = t.facts in
        record {
          noted = f.settled.noted;
          made = f.settled.made;
          chains = record { old_chain = f.chains.old_chain; new_chain = f.chains.new_chain; room = f.chains.room };
          stay = record {
            scratch_is = page_same pages₃ (scratch_page r q) (primary_of r.capacity level stay xs) scratch_has page_stay ∙ ap (primary_of r.capacity level stay) (sym held_stay);
            built = subst (λ (l : List ℕ). Overflow r.capacity pages_then l (drop r.capacity stay)) (sym held_stay) stay_built;
          };
          go = subst (λ (l : List ℕ). ChainIs r.capacity pages_then (me t).other level go l) (sym held_go) go_built;
          keeps_link = ap link_to_first (sym (kept (in_chain (me t).chain) refl refl refl));
          nothing_old = record { no_old = kept (old_of q) refl refl refl ∙ no_pages.nothing_old.no_old; no_partner = kept (partner_of q) refl refl refl ∙ no_pages.nothing_old.no_partner };
        }

    parts_then : Parts m b t.inv q root_then m.locks pages_then p_then b ghost_then
    unfolding has_step
    parts_then =
        taking_parts t need_stay need_go want pages_then p_then b ((me t).other ∷ [])
        (record {
          long = long_then;
          off = off;
          touch_extra = touch_other;
          extra_primary = other_primary;
          entries= = λ j n. refl;
          contents= = refl;
          dead = dead_then;
        })
        m.locks extents_then locks_then
        (working t.entered (busy_onto t 18 (has_step_ok t) (omega arith) scene_then refl refl p_then.old) divided_then)

    divided-kept : Kept m b q (divided (view_of m q) whole (halves_of (view_of m q) whole) (record { pages = take (need_stay + need_go) (t.inv.ghost.held free); head = link_to_first (drop (need_stay + need_go) (t.inv.ghost.held free)) }))
    unfolding divided halves_of halves_need halves_written root_after_taking
    divided-kept =
        rw (built_cut t need_stay need_go want, new_cut t need_stay need_go want)
        (moved-kept t (note_still t refl) parts_then)

  pub step17-kept : Kept m b q (step17 (view_of m q))
  unfolding step17 divide_with halves_of halves_need too_few
  step17-kept =
      rw (room, chain_found m b t.inv (me t).chain chain_live)
      (cond_ind (Kept m b q) (ltb r.free (need_stay + need_go)) _ _ (λ _. skipped)
      (λ e. let enough = ltb-false r.free (need_stay + need_go) e in
      rw (taken_is t need_stay need_go (record { enough = enough; no_pages = no_pages })) (divided-kept enough)))
