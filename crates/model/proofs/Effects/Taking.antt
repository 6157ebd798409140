-- Pages taken from the front of the free list for what a party builds beside the file (steps 10 and 17): the first
-- go to the chain that scratch leads to, the next to a split's new chain.
-- Main statements: Takes (what is taken), taken_is (the free list gives them), owned_then, built_then, new_then,
-- free_then, held_kept; TakesOut (what such a step leaves), touches and taking_parts (the parts of the invariant after
-- it).
use mathlib.Core.Path.{◌≡◌, refl, sym, ap, ◌∙◌}
use mathlib.Core.Logic.{◌≢◌, ◌⊎◌, inl, inr}
use mathlib.Core.Bool.{true, false}
use mathlib.Core.List.{List, [], ◌∷◌, ◌++◌}
use Prim.Native.Nat.{ℕ, ◌+◌, ◌-◌, ◌≤◌, ◌<◌}
use native.Mathlib.Omega.{arith}
use lib.ListN.{length, set, take, drop, length-drop}
use lib.Seq.{take-take, take-add, drop-drop, drop_at, length-take-le}
use lib.Dec.{eqb}
use Rattle.model.specs.declared.Root.{Root}
use Rattle.model.specs.declared.Party.{Party}
use Rattle.model.specs.Sizes.{lock_words}
use Rattle.model.specs.Records.{with_free_list}
use Rattle.model.specs.Pages.{page_of, primary_page, scratch_page, link_to_first, zero_page}
use Rattle.model.specs.Chains.{sound}
use Rattle.model.specs.FreeList.{is_among, pages_taken}
use Rattle.model.specs.Memory.{Memory, party_at}
use Rattle.model.specs.Book.{Book}
use Rattle.model.proofs.Laws.Lists.{Told, holds, fails, tell, eqb-diff, eqb-false, or_neither, or_either, first_or_rest, among_append, among_take, among_drop, count_nil, count_cut, All, all_from}
use Rattle.model.proofs.Laws.Structure.{free_frame}
use Rattle.model.proofs.Laws.Filling.{IsOverflow}
use Rattle.model.proofs.Laws.Reading.{held_overflow}
use Rattle.model.proofs.Laws.FreeList.{taken_front, free_drop}
use Rattle.model.proofs.Invariant.Ghost.{Owner, owner, Named, nobody, free, in_chain, built_by, new_by, same_owner, count, size, Ghost, Owned, own_after, held_after}
use Rattle.model.proofs.Invariant.Owners.{kinds_apart, indices_apart, own_of_member, absent_elsewhere, no_repeats, overflow_bounds, held_after_same, held_after_other, own_after_moved, own_after_other, handed, handed_front, same_from}
use Rattle.model.proofs.Invariant.Claims.{claimed, LocksOk}
use Rattle.model.proofs.Invariant.Statement.{ExtentsOk, uses, Scene, PartyOk, NoPages}
use Rattle.model.proofs.Invariant.Turn.{Turn, before, owns_no_old}
use Rattle.model.proofs.Effects.Kept.{Parts}
use Rattle.model.proofs.Effects.Touch.{Touch, free_page_ok, own_scratch, Touches, FreeAfter, keeps_touched, pages_touched, book_touched}

-- What a step takes: this many pages for the chain built and this many for a split's new chain; the party has none yet.
pub record Takes {m : Memory} {b : Book} {q k : ℕ} (t : Turn m b q k) (first second : ℕ) : Type 0 where
  pub enough : first + second ≤ m.root.free
  pub no_pages : NoPages (before t) q

module _ {m : Memory} {b : Book} {q k : ℕ} (t : Turn m b q k) (first second : ℕ) (want : Takes t first second) where
  abbrev frees : List ℕ
  frees = t.inv.ghost.held free

  -- The pages of the chain built, and of a split's new chain.
  abbrev pub built_pages : List ℕ
  built_pages = take first frees

  abbrev pub new_pages : List ℕ
  new_pages = take second (drop first frees)

  abbrev pub left : List ℕ
  left = drop (first + second) frees

  abbrev held₁ : Owner → List ℕ
  held₁ = held_after (held_after t.inv.ghost.held free (drop first frees)) (built_by q) built_pages

  abbrev pub taken_ghost : Ghost
  taken_ghost = record {
    own = own_after (own_after t.inv.ghost.own built_pages (built_by q)) new_pages (new_by q);
    held = held_after (held_after held₁ free left) (new_by q) new_pages;
    records = t.inv.ghost.records;
    live = t.inv.ghost.live;
    low = t.inv.ghost.low;
  }

  -- ---- The free list gives them

  enough_listed : first + second ≤ length frees
  enough_listed = omega (arith, t.inv.pages_ok.free_count)

  pub taken_is : pages_taken m.root m.pages (first + second) ≡ sound (record { pages = take (first + second) frees; head = link_to_first left })
  taken_is =
      taken_front m.root m.pages frees (first + second) t.inv.pages_ok.head_is t.inv.pages_ok.free_pages_ok (held_overflow m.root t.inv.pages_ok.owned free)
      (no_repeats t.inv.pages_ok.owned free) enough_listed

  pub built_cut : take first (take (first + second) frees) ≡ built_pages
  built_cut = take-take first (first + second) frees (omega arith)

  pub new_cut : drop first (take (first + second) frees) ≡ new_pages
  new_cut = ap (drop first) (take-add first second frees) ∙ drop_at built_pages new_pages first (length-take-le first frees (omega (arith, enough_listed)))

  pub built_many : length built_pages ≡ first
  built_many = length-take-le first frees (omega (arith, enough_listed))

  pub new_many : length new_pages ≡ second
  new_many = length-take-le second (drop first frees) (omega (arith, enough_listed, length-drop first frees))

  -- ---- Who owns what then

  left_is : drop second (drop first frees) ≡ left
  left_is = drop-drop second first frees

  free₁ : held₁ free ≡ drop first frees
  free₁ = held_after_other (held_after t.inv.ghost.held free (drop first frees)) (built_by q) built_pages free (kinds_apart free (built_by q) refl) ∙ held_after_same t.inv.ghost.held free (drop first frees)

  new₁ : held₁ (new_by q) ≡ []
  new₁ =
      held_after_other (held_after t.inv.ghost.held free (drop first frees)) (built_by q) built_pages (new_by q) (kinds_apart (new_by q) (built_by q) refl)
      ∙ held_after_other t.inv.ghost.held free (drop first frees) (new_by q) (kinds_apart (new_by q) free refl) ∙ want.no_pages.nothing_built.no_new

  pub owned_then : Owned m.root.primaries m.root.overflow taken_ghost.own taken_ghost.held
  owned_then =
      handed (handed_front t.inv.pages_ok.owned free (built_by q) (kinds_apart free (built_by q) refl) (kinds_apart free nobody refl) (kinds_apart (built_by q) nobody refl) first want.no_pages.nothing_built.no_built)
      free (new_by q) (kinds_apart free (new_by q) refl) (kinds_apart free nobody refl) (kinds_apart (new_by q) nobody refl) new_pages left new_pages
      (λ x. ap (count x) free₁ ∙ sym (count_cut x second (drop first frees)) ∙ ap (λ (l : List ℕ). count x new_pages + count x l) left_is)
      (λ x. omega (arith, ap (count x) new₁ ∙ count_nil x))

  pub free_then : taken_ghost.held free ≡ left
  free_then = held_after_other (held_after held₁ free left) (new_by q) new_pages free (kinds_apart free (new_by q) refl) ∙ held_after_same held₁ free left

  pub new_then : taken_ghost.held (new_by q) ≡ new_pages
  new_then = held_after_same (held_after held₁ free left) (new_by q) new_pages

  pub built_then : taken_ghost.held (built_by q) ≡ built_pages
  built_then =
      held_after_other (held_after held₁ free left) (new_by q) new_pages (built_by q) (kinds_apart (built_by q) (new_by q) refl)
      ∙ held_after_other held₁ free left (built_by q) (kinds_apart (built_by q) free refl)
      ∙ held_after_same (held_after t.inv.ghost.held free (drop first frees)) (built_by q) built_pages

  pub held_kept : (o : Owner) → same_owner o free ≡ false → same_owner o (built_by q) ≡ false → same_owner o (new_by q) ≡ false → taken_ghost.held o ≡ t.inv.ghost.held o
  held_kept o f u n =
      held_after_other (held_after held₁ free left) (new_by q) new_pages o n ∙ held_after_other held₁ free left o f
      ∙ held_after_other (held_after t.inv.ghost.held free (drop first frees)) (built_by q) built_pages o u ∙ held_after_other t.inv.ghost.held free (drop first frees) o f

  -- A page taken was free, and is an overflow page.
  built_free : (x : ℕ) → is_among x built_pages ≡ true → is_among x frees ≡ true
  built_free x h = among_take x first frees h

  new_free : (x : ℕ) → is_among x new_pages ≡ true → is_among x frees ≡ true
  new_free x h = among_drop x first frees (among_take x second (drop first frees) h)

  pub built_overflow : All (IsOverflow m.root) built_pages
  built_overflow = all_from (IsOverflow m.root) built_pages (λ x h. let z = overflow_bounds t.inv.pages_ok.owned free x (built_free x h) in record { above = z.0; below = z.1 })

  pub new_overflow : All (IsOverflow m.root) new_pages
  new_overflow = all_from (IsOverflow m.root) new_pages (λ x h. let z = overflow_bounds t.inv.pages_ok.owned free x (new_free x h) in record { above = z.0; below = z.1 })

  -- ---- The parts of the invariant, where the step wrote these pages, its scratch page and the primary pages `extra`

  abbrev pub taken_root : Root
  taken_root = with_free_list (link_to_first left) (m.root.free - (first + second)) m.root

  -- What such a step leaves: the pages ps, the record p and the book c.
  pub record TakesOut (ps : List ℕ) (p : Party) (c : Book) (extra : List ℕ) : Type 0 where
    pub long : length ps ≡ length m.pages
    pub off : (x : ℕ) → x ≢ scratch_page m.root q → is_among x extra ≡ false → is_among x built_pages ≡ false → is_among x new_pages ≡ false → page_of ps x ≡ page_of m.pages x
    pub touch_extra : (x : ℕ) → is_among x extra ≡ true → Touch (before t) q x
    pub extra_primary : (x : ℕ) → is_among x extra ≡ true → x < m.root.primaries
    pub entries= : (j : ℕ) → j ≢ q → c.entries j ≡ b.entries j
    pub contents= : c.contents ≡ b.contents
    pub dead : (d : ℕ) → size m.root.originals t.inv.ghost.live ≤ d → d < m.root.primaries → ((j : ℕ) → uses (party_at (set m.parties q p) j) d ≡ false)
        → page_of ps (primary_page d) ≡ zero_page

  module _ (ps : List ℕ) (p : Party) (c : Book) (extra : List ℕ) (g : TakesOut ps p c extra) where
    abbrev pub taken_scene : Scene
    taken_scene = record { root = taken_root; parties = set m.parties q p; pages = ps; ghost = taken_ghost; entries = c.entries }

    abbrev written : List ℕ
    written = scratch_page m.root q ∷ (extra ++ (built_pages ++ new_pages))

    -- A page that was not written.
    pub record Unwritten (x : ℕ) : Type 0 where
      pub no_scratch : x ≢ scratch_page m.root q
      pub no_extra : is_among x extra ≡ false
      pub not_built : is_among x built_pages ≡ false
      pub not_new : is_among x new_pages ≡ false

    unwritten : (x : ℕ) → is_among x written ≡ false → Unwritten x
    unfolding is_among
    unwritten x h =
        let a = or_neither (eqb (scratch_page m.root q) x) (is_among x (extra ++ (built_pages ++ new_pages))) h in
        let d = or_neither (is_among x extra) (is_among x (built_pages ++ new_pages)) (sym (among_append x extra (built_pages ++ new_pages)) ∙ a.1) in
        let e = or_neither (is_among x built_pages) (is_among x new_pages) (sym (among_append x built_pages new_pages) ∙ d.1) in
        record { no_scratch = λ s. eqb-false (scratch_page m.root q) x a.0 (sym s); no_extra = d.0; not_built = e.0; not_new = e.1 }

    written_not : (x : ℕ) → Unwritten x → is_among x written ≡ false
    unfolding is_among
    written_not x u =
        rw (eqb-diff (scratch_page m.root q) x (λ s. u.no_scratch (sym s)), among_append x extra (built_pages ++ new_pages), u.no_extra, among_append x built_pages new_pages, u.not_built, u.not_new) refl

    touch : (x : ℕ) → is_among x written ≡ true → Touch (before t) q x
    touch x h = go (first_or_rest x (scratch_page m.root q) (extra ++ (built_pages ++ new_pages)) h)
      where
        was_free : is_among x frees ≡ true → Touch (before t) q x
        was_free f = free_page_ok (own_of_member t.inv.pages_ok.owned free x f)

        taken : (is_among x built_pages ≡ true) ⊎ (is_among x new_pages ≡ true) → Touch (before t) q x
        taken (inl s) = was_free (built_free x s)
        taken (inr s) = was_free (new_free x s)

        rest : (is_among x extra ≡ true) ⊎ (is_among x (built_pages ++ new_pages) ≡ true) → Touch (before t) q x
        rest (inl s) = g.touch_extra x s
        rest (inr s) = taken (or_either (is_among x built_pages) (is_among x new_pages) (sym (among_append x built_pages new_pages) ∙ s))

        go : (scratch_page m.root q ≡ x) ⊎ (is_among x (extra ++ (built_pages ++ new_pages)) ≡ true) → Touch (before t) q x
        go (inl s) = own_scratch (sym s)
        go (inr s) = rest (or_either (is_among x extra) (is_among x (built_pages ++ new_pages)) (sym (among_append x extra (built_pages ++ new_pages)) ∙ s))

    pub touches : Touches (before t) taken_scene q p written
    touches = record {
      sizes = record { limits = record { originals= = refl; capacity= = refl; primaries= = refl; overflow= = refl; parties= = refl }; level= = refl; next= = refl };
      row= = refl;
      live= = refl;
      low= = refl;
      records= = refl;
      entries= = g.entries=;
      private= = λ k j a d n.
          held_kept (owner k j) (kinds_apart (owner k j) free (eqb-diff k 1 (omega arith))) (indices_apart (owner k j) (built_by q) n) (indices_apart (owner k j) (new_by q) n);
      chains= = λ d. held_kept (in_chain d) (kinds_apart (in_chain d) free refl) (kinds_apart (in_chain d) (built_by q) refl) (kinds_apart (in_chain d) (new_by q) refl);
      off = λ x h. let u = unwritten x h in g.off x u.no_scratch u.no_extra u.not_built u.not_new;
      own_off = λ x h.
          let u = unwritten x h in
          own_after_other (own_after t.inv.ghost.own built_pages (built_by q)) new_pages (new_by q) x u.not_new ∙ own_after_other t.inv.ghost.own built_pages (built_by q) x u.not_built;
      touch = touch;
      stays = λ x e h. absurd (owns_no_old t want.no_pages x e);
      unread = λ x e h j n k. absurd (owns_no_old t want.no_pages x e);
    }

    kinds_then : (x : ℕ) → Named (taken_ghost.own x)
    kinds_then x = go (tell (is_among x new_pages)) (tell (is_among x built_pages))
      where
        go : Told (is_among x new_pages) → Told (is_among x built_pages) → Named (taken_ghost.own x)
        go (holds h) k = rw (own_after_moved (own_after t.inv.ghost.own built_pages (built_by q)) new_pages (new_by q) x h) (omega arith)
        go (fails h) (holds k) =
            rw (own_after_other (own_after t.inv.ghost.own built_pages (built_by q)) new_pages (new_by q) x h, own_after_moved t.inv.ghost.own built_pages (built_by q) x k) (omega arith)
        go (fails h) (fails k) =
            rw (own_after_other (own_after t.inv.ghost.own built_pages (built_by q)) new_pages (new_by q) x h, own_after_other t.inv.ghost.own built_pages (built_by q) x k) (t.inv.pages_ok.kinds x)

    -- A page still free was not taken: it is once in the free list.
    left-unwritten : (x : ℕ) → is_among x left ≡ true → Unwritten x
    left-unwritten x h =
        let z = overflow_bounds owned_then free x (rw free_then h) in
        record {
          no_scratch = λ s. omega arith;
          no_extra = off_extra (tell (is_among x extra)) z;
          not_built = absent built_pages (built_by q) built_then (kinds_apart free (built_by q) refl);
          not_new = absent new_pages (new_by q) new_then (kinds_apart free (new_by q) refl);
        }
      where
        off_extra : Told (is_among x extra) → (m.root.primaries ≤ x) × (x < m.root.primaries + m.root.overflow) → is_among x extra ≡ false
        off_extra (fails k) z = k
        off_extra (holds k) z = absurd (omega (arith, g.extra_primary x k))

        absent : (xs : List ℕ) (o : Owner) → taken_ghost.held o ≡ xs → same_owner free o ≡ false → is_among x xs ≡ false
        absent xs o e n = ap (is_among x) (sym e) ∙ absent_elsewhere owned_then free o x (rw free_then h) n

    pub free_after : FreeAfter t touches
    free_after = record {
      owned = owned_then;
      kinds = kinds_then;
      head_is = ap link_to_first (sym free_then);
      free_count = omega (arith, ap (λ (l : List ℕ). length l) free_then, length-drop (first + second) frees, t.inv.pages_ok.free_count);
      free_pages_ok = rw free_then (free_frame m.pages ps left
          (same_from m.pages ps left (λ x h. let u = left-unwritten x h in g.off x u.no_scratch u.no_extra u.not_built u.not_new))
          (free_drop m.pages frees (first + second) t.inv.pages_ok.free_pages_ok));
      dead = g.dead;
    }

    pub taking_parts : (ls : List ℕ) → ExtentsOk taken_root (set m.parties q p) taken_ghost → LocksOk (lock_words taken_root) ls (claimed taken_root (set m.parties q p))
        → PartyOk taken_scene q p → Parts m b t.inv q taken_root ls ps p c taken_ghost
    taking_parts ls x l s = record {
      sizes = touches.sizes.limits;
      pages_many = g.long;
      extents = x;
      locks = l;
      pages = pages_touched t touches free_after;
      book = book_touched t touches c g.contents=;
      self = s;
      others = keeps_touched t touches;
    }
