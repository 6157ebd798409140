-- Steps that write the party's own scratch page and no other: no other party and no live chain notices. Root and ghost
-- stay.
-- Main statements: protected_bounds; scratch_same, scratch_off (the page written); scratch_parts (the parts of the
-- invariant after such a step); copied_walks (a page copied there by a find).
use mathlib.Core.Path.{◌≡◌, refl, sym, ap, ◌∙◌}
use mathlib.Core.Logic.{◌≢◌, ◌⊎◌, inl, inr}
use mathlib.Core.Bool.{true, false, false≢true}
use mathlib.Core.List.{List, [], ◌∷◌, ◌++◌}
use mathlib.Core.Option.{some}
use Prim.Native.Nat.{ℕ, ◌+◌, ◌≤◌, ◌<◌}
use native.Mathlib.Omega.{arith}
use lib.ListN.{length, set}
use lib.Dec.{eqb}
use Rattle.model.specs.declared.Party.{Party}
use Rattle.model.specs.Sizes.{page_words}
use Rattle.model.specs.Entries.{setting_in}
use Rattle.model.specs.Pages.{page_of, with_page, link_of, entries_of, page_sound, link_to_first, scratch_page}
use Rattle.model.specs.Chains.{entries_on}
use Rattle.model.specs.FreeList.{is_among}
use Rattle.model.specs.Memory.{Memory}
use Rattle.model.specs.Book.{Book, Entered}
use Rattle.model.specs.Answers.{found_or_absent}
use Rattle.model.proofs.Laws.Lists.{eqb-diff, eqb-false, or_neither, first_or_rest}
use Rattle.model.proofs.Laws.Pages.{Has, length-with_page, page_same, page_other}
use Rattle.model.proofs.Laws.Structure.{Linked, SameOn, linked_frame, free_frame}
use Rattle.model.proofs.Invariant.Ghost.{Owner, nobody, free, old_of, count}
use Rattle.model.proofs.Invariant.Owners.{overflow_bounds, member_of_own, kinds_apart, same_from}
use Rattle.model.proofs.Invariant.Statement.{Scene, NoPages, Protected, Walking, Inv, scene_of}
use Rattle.model.proofs.Invariant.Frame.{entries_frame}
use Rattle.model.proofs.Invariant.Facts.{no_pages_held}
use Rattle.model.proofs.Invariant.Ahead.{protected_overflow}
use Rattle.model.proofs.Invariant.Turn.{Turn, before, owns_no_old, row_long}
use Rattle.model.proofs.Effects.Kept.{Parts}
use Rattle.model.proofs.Effects.OwnRecord.{same_sizes, protected_row, OwnChange}
use Rattle.model.proofs.Effects.Touch.{own_scratch, Touches, FreeAfter, keeps_touched, pages_touched, book_touched, dead_kept}

module _ (m : Memory) (b : Book) (i : Inv m b) (q : ℕ) (in_row : q < m.root.parties) where
  pub has_scratch : Has m.pages (scratch_page m.root q)
  has_scratch = record { fits = omega (arith, i.pages_many) }

  -- No overflow page is a scratch page.
  owned_apart : (o : Owner) (x : ℕ) → is_among x (i.ghost.held o) ≡ true → x ≢ scratch_page m.root q
  owned_apart o x h s = let z = overflow_bounds i.pages_ok.owned o x h in omega arith

  -- A page that a reader may walk is an overflow page.
  pub protected_bounds : (d x : ℕ) → Protected (scene_of m i.ghost b) d x → (m.root.primaries ≤ x) × (x < m.root.primaries + m.root.overflow)
  protected_bounds d x h = let z = protected_overflow m b i d x h in (z.above, z.below)

  -- The scratch page is written with the words w.
  module _ (w : List ℕ) (whole : length w ≡ page_words) where
    abbrev pub scratch_written : List ℕ
    scratch_written = with_page m.pages (scratch_page m.root q) w

    pub scratch_same : page_of scratch_written (scratch_page m.root q) ≡ w
    scratch_same = page_same m.pages (scratch_page m.root q) w has_scratch whole

    pub scratch_off : (x : ℕ) → x ≢ scratch_page m.root q → page_of scratch_written x ≡ page_of m.pages x
    scratch_off x n = page_other m.pages (scratch_page m.root q) w has_scratch whole x n

-- The parts of the invariant where the record becomes p, the book c and the lock words ls.
module _ {m : Memory} {b : Book} {q k : ℕ} (t : Turn m b q k) (w : List ℕ) (whole : length w ≡ page_words) (p : Party) (c : Book) (ls : List ℕ)
    (o : OwnChange m b t.inv q (with_page m.pages (scratch_page m.root q) w) p c ls) where
  abbrev scratch_scene : Scene
  scratch_scene = record { root = m.root; parties = set m.parties q p; pages = with_page m.pages (scratch_page m.root q) w; ghost = t.inv.ghost; entries = c.entries }

  abbrev written : List ℕ
  written = scratch_page m.root q ∷ []

  only_scratch : (x : ℕ) → is_among x written ≡ false → x ≢ scratch_page m.root q
  unfolding is_among
  only_scratch x h s = eqb-false (scratch_page m.root q) x (or_neither (eqb (scratch_page m.root q) x) false h).0 (sym s)

  is_scratch : (x : ℕ) → is_among x written ≡ true → x ≡ scratch_page m.root q
  unfolding is_among
  is_scratch x h = go (first_or_rest x (scratch_page m.root q) [] h)
    where
      go : (scratch_page m.root q ≡ x) ⊎ (is_among x [] ≡ true) → x ≡ scratch_page m.root q
      go (inl s) = sym s
      go (inr s) = absurd (false≢true s)

  touches : Touches (before t) scratch_scene q p written
  touches = record {
    sizes = same_sizes m.root;
    row= = refl;
    live= = refl;
    low= = refl;
    records= = refl;
    entries= = o.entries=;
    private= = λ k j x y n. refl;
    chains= = λ d. refl;
    off = λ x h. scratch_off m b t.inv q t.in_row w whole x (only_scratch x h);
    own_off = λ x h. refl;
    touch = λ x h. own_scratch (is_scratch x h);
    stays = λ x e h. o.stays x e;
    unread = λ x e h j n k.
        absurd (owned_apart m b t.inv q t.in_row (old_of q) x (member_of_own t.inv.pages_ok.owned (old_of q) x (kinds_apart (old_of q) nobody refl) e) (is_scratch x h));
  }

  free_after : FreeAfter t touches
  unfolding is_among
  free_after =
      let ok = t.inv.pages_ok in
      record {
        owned = ok.owned;
        kinds = ok.kinds;
        head_is = ok.head_is;
        free_count = ok.free_count;
        free_pages_ok = free_frame m.pages (with_page m.pages (scratch_page m.root q) w) (t.inv.ghost.held free) (same_from m.pages (with_page m.pages (scratch_page m.root q) w) (t.inv.ghost.held free) (λ x h. scratch_off m b t.inv q t.in_row w whole x (owned_apart m b t.inv q t.in_row free x h))) ok.free_pages_ok;
        dead = λ d far fits u.
            dead_kept t touches d (rw (eqb-diff (scratch_page m.root q) d (omega arith)) refl) far fits u (o.frees d);
      }

  pub scratch_parts : Parts m b t.inv q m.root ls (with_page m.pages (scratch_page m.root q) w) p c t.inv.ghost
  scratch_parts = record {
    sizes = (same_sizes m.root).limits;
    pages_many = length-with_page m.pages (scratch_page m.root q) w (has_scratch m b t.inv q t.in_row) whole;
    extents = o.extents;
    locks = o.locks;
    pages = pages_touched t touches free_after;
    book = book_touched t touches c o.contents=;
    self = o.self;
    others = keeps_touched t touches;
  }

-- ---- A page copied to scratch

-- The page w, for a find whose record is p and whose entry is e: it leads to the pages of rest,
-- and the note says whether the key is on one of them.
pub record Leads (s : Scene) (q : ℕ) (p : Party) (e : Entered) (w rest : List ℕ) : Type 0 where
  pub sound : page_sound s.root w ≡ true
  pub link : link_of w ≡ link_to_first rest
  pub linked : Linked s.root s.pages rest
  pub once : (x : ℕ) → count x rest ≤ 1
  pub protected : (x : ℕ) → is_among x rest ≡ true → Protected s p.chain x
  pub note_is : e.note ≡ some (found_or_absent (setting_in p.key (entries_of w ++ entries_on s.pages rest)))
  pub no_pages : NoPages s q

-- The party then walks.
pub copied_walks : {m : Memory} {b : Book} {q k : ℕ} (t : Turn m b q k) (w : List ℕ) (whole : length w ≡ page_words) (p : Party) (c : Book) (e : Entered) (rest : List ℕ) → Leads (before t) q p e w rest
    → Walking (record { root = m.root; parties = set m.parties q p; pages = with_page m.pages (scratch_page m.root q) w; ghost = t.inv.ghost; entries = c.entries }) q p e
copied_walks {m} {b} {q} t w whole p c e rest x = record {
  rest = rest;
  sound = ap (page_sound m.root) there ∙ x.sound;
  link = ap link_of there ∙ x.link;
  linked = linked_frame m.root m.pages _ rest rest_off x.linked;
  once = x.once;
  protected = λ y h. protected_row (before t) _ q p refl refl (row_long t) (λ z o. absurd (owns_no_old t x.no_pages z o)) p.chain y (x.protected y h);
  note_is = rw (there, entries_frame m.pages _ rest rest_off) x.note_is;
  no_pages = no_pages_held _ _ q refl x.no_pages;
}
  where
    there : page_of (with_page m.pages (scratch_page m.root q) w) (scratch_page m.root q) ≡ w
    there = scratch_same m b t.inv q t.in_row w whole

    rest_off : SameOn m.pages (with_page m.pages (scratch_page m.root q) w) rest
    rest_off =
        same_from m.pages _ rest
        (λ y h. scratch_off m b t.inv q t.in_row w whole y (λ s. let z = protected_bounds m b t.inv q t.in_row p.chain y (x.protected y h) in omega arith))
