-- Pages given back to the free list: those that the party's old link leads to and, after a merge, those of the partner
-- (steps 14 and 29); those that it has built (withdraw).
-- Main statements: no_reader (of a chain held exclusively); Kinds (the two kinds of pages that are given back), old_kinds,
-- built_kinds; given_room (the free count stays within V), given_long, given_sizes; one_given, two_given, given-kept,
-- no_pages_given, no_pages_withdrawn (who has what then); GivesBack (what else such a call leaves), giving_parts (the
-- parts of the invariant after it).
use mathlib.Core.Path.{◌≡◌, refl, sym, ap, ◌∙◌, subst}
use mathlib.Core.Logic.{◌≢◌, ◌⊎◌, inl, inr}
use mathlib.Core.Bool.{true, false}
use mathlib.Core.List.{List, [], ◌∷◌, ◌++◌, reverse}
use Prim.Native.Nat.{ℕ, ◌+◌, ◌≤◌, ◌<◌}
use native.Mathlib.Omega.{arith}
use lib.ListN.{length, set, length-append, length-reverse}
use lib.Dec.{eqb, leb}
use Rattle.model.specs.declared.Root.{Root}
use Rattle.model.specs.declared.Party.{Party}
use Rattle.model.specs.declared.Mode.TheVariants.{Exclusive}
use Rattle.model.specs.Sizes.{lock_words}
use Rattle.model.specs.Records.{with_free_list}
use Rattle.model.specs.LockWords.{chain_word}
use Rattle.model.specs.Pages.{page_of, primary_page, link_to_first, zero_page}
use Rattle.model.specs.FreeList.{is_among, given_back}
use Rattle.model.specs.Memory.{Memory, party_at}
use Rattle.model.specs.Book.{Book}
use Rattle.model.specs.LockRequests.{mode_of}
use Rattle.model.proofs.Laws.Lists.{Told, holds, fails, tell, Cmp, same, diff, cmp, not-both, or_neither, first_or_rest, eqb-diff, eqb-false, le-leb, count_nil, count_append, count-reverse, among_count, count_among, absent_count, count_absent, All, all_from, all_append}
use Rattle.model.proofs.Laws.Pages.{Has}
use Rattle.model.proofs.Laws.Structure.{FreePages, free_frame}
use Rattle.model.proofs.Laws.Filling.{IsOverflow}
use Rattle.model.proofs.Laws.Reading.{has_overflow, held_overflow, held_apart, length_overflow}
use Rattle.model.proofs.Laws.FreeList.{given_head, given_free, given_other, length-given}
use Rattle.model.proofs.Invariant.Ghost.{Owner, owner, Named, nobody, free, in_chain, old_of, partner_of, built_by, new_by, same_owner, count, size, Ghost, Owned, own_after, held_after}
use Rattle.model.proofs.Invariant.Owners.{kinds_apart, indices_apart, own_of_member, member_of_own, overflow_bounds, held_after_same, held_after_other, own_after_moved, own_after_other, handed, handed_all_onto, same_from}
use Rattle.model.specs.Claims.{claims}
use Rattle.model.proofs.Invariant.Claims.{is_claimed, claimed, LocksOk}
use Rattle.model.proofs.Invariant.LockMoves.{exclusive_alone}
use Rattle.model.proofs.Invariant.Statement.{ExtentsOk, uses, Scene, NothingBuilt, NothingOld, NoPages, PartyOk, Inv}
use Rattle.model.proofs.Invariant.Frame.{SameSizes, claims_at_lem, named}
use Rattle.model.proofs.Invariant.Turn.{Turn, before}
use Rattle.model.proofs.Effects.Kept.{Parts}
use Rattle.model.proofs.Effects.Touch.{Touch, own_page, Touches, FreeAfter, keeps_touched, pages_touched, book_touched, dead_kept}

-- Nobody reads a chain that another party holds exclusively.
pub no_reader : (m : Memory) (b : Book) → Inv m b → (q : ℕ) → (party_at m.parties q).chain < m.root.primaries
    → is_claimed (claims m.root (party_at m.parties q)) (chain_word (party_at m.parties q).chain) Exclusive ≡ true
    → (j : ℕ) → j ≢ q → (party_at m.parties j).step ≡ 9 → (party_at m.parties j).chain ≢ (party_at m.parties q).chain
no_reader m b i q fits alone j n e same_chain =
    n (exclusive_alone (i.locks_ok.each (chain_word (party_at m.parties q).chain) (omega arith)) q j (mode_of (party_at m.parties j)) alone reads).0
  where
    reads : claimed m.root m.parties (chain_word (party_at m.parties q).chain) j (mode_of (party_at m.parties j)) ≡ true
    reads =
        subst (λ (d : ℕ). claimed m.root m.parties (chain_word d) j (mode_of (party_at m.parties j)) ≡ true) same_chain
        (rw (claims_at_lem m.root (party_at m.parties j) 9 e) (named [] (chain_word (party_at m.parties j).chain) (mode_of (party_at m.parties j))))

-- Two kinds of pages that a party has in hand, by the kinds of their owners.
pub record Kinds (one two : ℕ) : Type 0 where
  pub one_low : 3 ≤ one
  pub one_high : one ≤ 6
  pub two_low : 3 ≤ two
  pub two_high : two ≤ 6
  pub apart : one ≢ two

-- Old pages and the partner's; built pages and those of a split's new chain.
pub old_kinds : Kinds 3 4
old_kinds = record { one_low = omega arith; one_high = omega arith; two_low = omega arith; two_high = omega arith; apart = λ e. omega arith }

pub built_kinds : Kinds 5 6
built_kinds = record { one_low = omega arith; one_high = omega arith; two_low = omega arith; two_high = omega arith; apart = λ e. omega arith }

-- The pages zs are given back: all that the party has of the two kinds.
module _ {m : Memory} {b : Book} {q k : ℕ} (t : Turn m b q k) {one two : ℕ} (w : Kinds one two) (zs : List ℕ)
    (mine : (x : ℕ) → count x zs ≡ count x (t.inv.ghost.held (owner one q)) + count x (t.inv.ghost.held (owner two q))) where
  abbrev ones : List ℕ
  ones = t.inv.ghost.held (owner one q)

  abbrev twos : List ℕ
  twos = t.inv.ghost.held (owner two q)

  abbrev frees : List ℕ
  frees = t.inv.ghost.held free

  abbrev held₁ : Owner → List ℕ
  held₁ = held_after (held_after t.inv.ghost.held (owner one q) []) free (reverse ones ++ frees)

  abbrev pub given_ghost : Ghost
  given_ghost = record {
    own = own_after (own_after t.inv.ghost.own ones free) twos free;
    held = held_after (held_after held₁ (owner two q) []) free (reverse zs ++ frees);
    records = t.inv.ghost.records;
    live = t.inv.ghost.live;
    low = t.inv.ghost.low;
  }

  abbrev pub given_root : Root
  given_root = with_free_list (given_back m.pages m.root.head zs).head (m.root.free + length zs) m.root

  abbrev pub given_pages : List ℕ
  given_pages = (given_back m.pages m.root.head zs).pages

  -- The two kinds, the free list and nobody are told apart.
  one_not_free : same_owner (owner one q) free ≡ false
  one_not_free = kinds_apart (owner one q) free (eqb-diff one 1 (omega (arith, w.one_low)))

  two_not_free : same_owner (owner two q) free ≡ false
  two_not_free = kinds_apart (owner two q) free (eqb-diff two 1 (omega (arith, w.two_low)))

  one_some : same_owner (owner one q) nobody ≡ false
  one_some = kinds_apart (owner one q) nobody (eqb-diff one 0 (omega (arith, w.one_low)))

  two_some : same_owner (owner two q) nobody ≡ false
  two_some = kinds_apart (owner two q) nobody (eqb-diff two 0 (omega (arith, w.two_low)))

  one_not_two : same_owner (owner one q) (owner two q) ≡ false
  one_not_two = kinds_apart (owner one q) (owner two q) (eqb-diff one two w.apart)

  two_not_one : same_owner (owner two q) (owner one q) ≡ false
  two_not_one = kinds_apart (owner two q) (owner one q) (eqb-diff two one (λ e. w.apart (sym e)))

  pub given_sizes : SameSizes m.root given_root
  given_sizes = record { limits = record { originals= = refl; capacity= = refl; primaries= = refl; overflow= = refl; parties= = refl }; level= = refl; next= = refl }

  -- ---- The pages given back are overflow pages, each once, and none is free yet

  either : (x : ℕ) → is_among x zs ≡ true → (is_among x ones ≡ true) ⊎ (is_among x twos ≡ true)
  either x h = go (tell (is_among x ones))
    where
      go : Told (is_among x ones) → (is_among x ones ≡ true) ⊎ (is_among x twos ≡ true)
      go (holds k) = inl k
      go (fails k) = inr (count_among x twos (omega (arith, among_count x zs h, mine x, absent_count x ones k)))

  neither : (x : ℕ) → is_among x zs ≡ false → (is_among x ones ≡ false) × (is_among x twos ≡ false)
  neither x h = (count_absent x ones (omega (arith, mine x, absent_count x zs h)), count_absent x twos (omega (arith, mine x, absent_count x zs h)))

  bounds : (x : ℕ) → is_among x zs ≡ true → (m.root.primaries ≤ x) × (x < m.root.primaries + m.root.overflow)
  bounds x h = go (either x h)
    where
      go : (is_among x ones ≡ true) ⊎ (is_among x twos ≡ true) → (m.root.primaries ≤ x) × (x < m.root.primaries + m.root.overflow)
      go (inl k) = overflow_bounds t.inv.pages_ok.owned (owner one q) x k
      go (inr k) = overflow_bounds t.inv.pages_ok.owned (owner two q) x k

  zs_overflow : All (IsOverflow m.root) zs
  zs_overflow = all_from (IsOverflow m.root) zs (λ x h. let z = bounds x h in record { above = z.0; below = z.1 })

  zs_has : All (Has m.pages) zs
  zs_has = has_overflow m.root m.pages zs t.inv.pages_many zs_overflow

  pub given_long : length given_pages ≡ length m.pages
  given_long = length-given m.pages m.root.head zs zs_has

  apart_free : (y : ℕ) → count y zs + count y frees ≤ 1
  apart_free y =
      let o = t.inv.pages_ok.owned in
      omega (
        arith,
        mine y,
        held_apart m.root o (owner one q) free one_not_free y,
        held_apart m.root o (owner two q) free two_not_free y,
        held_apart m.root o (owner one q) (owner two q) one_not_two y,
      )

  pub given_room : leb (m.root.free + length zs) m.root.overflow ≡ true
  given_room =
      le-leb (m.root.free + length zs) m.root.overflow
      (omega (
        arith,
        t.inv.pages_ok.free_count,
        length-append zs frees,
        length_overflow m.root (zs ++ frees) (all_append (IsOverflow m.root) zs frees zs_overflow (held_overflow m.root t.inv.pages_ok.owned free))
            (λ y. omega (arith, count_append y zs frees, apart_free y)),
      ))

  -- ---- Who has what then

  free₁ : held₁ free ≡ reverse ones ++ frees
  free₁ = held_after_same (held_after t.inv.ghost.held (owner one q) []) free (reverse ones ++ frees)

  kept₁ : (o : Owner) → same_owner o free ≡ false → same_owner o (owner one q) ≡ false → held₁ o ≡ t.inv.ghost.held o
  kept₁ o f n = held_after_other (held_after t.inv.ghost.held (owner one q) []) free (reverse ones ++ frees) o f ∙ held_after_other t.inv.ghost.held (owner one q) [] o n

  owned_then : Owned m.root.primaries m.root.overflow given_ghost.own given_ghost.held
  owned_then =
      handed (handed_all_onto t.inv.pages_ok.owned (owner one q) free one_not_free one_some (kinds_apart free nobody refl))
      (owner two q) free two_not_free two_some (kinds_apart free nobody refl) twos [] (reverse zs ++ frees)
      (λ x. omega (arith, ap (count x) (kept₁ (owner two q) two_not_free two_not_one), count_nil x))
      (λ x. omega (
        arith,
        mine x,
        ap (count x) free₁,
        count_append x (reverse zs) frees,
        count-reverse x zs,
        count_append x (reverse ones) frees,
        count-reverse x ones,
      ))

  free_then : given_ghost.held free ≡ reverse zs ++ frees
  free_then = held_after_same (held_after held₁ (owner two q) []) free (reverse zs ++ frees)

  -- The party has nothing left to give back, and every other list but the free list stays.
  pub two_given : given_ghost.held (owner two q) ≡ []
  two_given =
      held_after_other (held_after held₁ (owner two q) []) free (reverse zs ++ frees) (owner two q) two_not_free ∙ held_after_same held₁ (owner two q) []

  pub one_given : given_ghost.held (owner one q) ≡ []
  one_given =
      held_after_other (held_after held₁ (owner two q) []) free (reverse zs ++ frees) (owner one q) one_not_free
      ∙ held_after_other held₁ (owner two q) [] (owner one q) one_not_two
      ∙ held_after_other (held_after t.inv.ghost.held (owner one q) []) free (reverse ones ++ frees) (owner one q) one_not_free
      ∙ held_after_same t.inv.ghost.held (owner one q) []

  pub given-kept : (o : Owner) → same_owner o free ≡ false → same_owner o (owner one q) ≡ false → same_owner o (owner two q) ≡ false → given_ghost.held o ≡ t.inv.ghost.held o
  given-kept o f n p =
      held_after_other (held_after held₁ (owner two q) []) free (reverse zs ++ frees) o f ∙ held_after_other held₁ (owner two q) [] o p ∙ kept₁ o f n

  -- A list that is of neither kind, and empty, stays so.
  stays_empty : (n : ℕ) → 3 ≤ n → n ≢ one → n ≢ two → t.inv.ghost.held (owner n q) ≡ [] → given_ghost.held (owner n q) ≡ []
  stays_empty n l d e none =
      given-kept (owner n q) (kinds_apart (owner n q) free (eqb-diff n 1 (omega arith))) (kinds_apart (owner n q) (owner one q) (eqb-diff n one d))
      (kinds_apart (owner n q) (owner two q) (eqb-diff n two e))
      ∙ none

  -- Every page of the first kind is given back.
  pub one_listed : (x : ℕ) → t.inv.ghost.own x ≡ owner one q → is_among x zs ≡ true
  one_listed x e = count_among x zs (omega (arith, mine x, among_count x ones (member_of_own t.inv.pages_ok.owned (owner one q) x one_some e)))

  -- ---- A step that gives them back and goes on with the record p and the book c

  -- The page memory is then ps: beside the pages given back the page `extra` alone may differ, scratch or a primary page outside the live file, which is then zero.
  -- No old page is left, and nobody reads the chain that old pages were of.
  pub record GivesBack (ps : List ℕ) (c : Book) (extra : ℕ) : Type 0 where
    pub long : length ps ≡ length given_pages
    pub off : (x : ℕ) → x ≢ extra → page_of ps x ≡ page_of given_pages x
    pub no_overflow : m.root.primaries ≤ extra → m.root.primaries + m.root.overflow ≤ extra
    pub may_touch : Touch (before t) q extra
    pub zeroed : extra < m.root.primaries → page_of ps (primary_page extra) ≡ zero_page
    pub only_used : (d : ℕ) → d ≢ extra → uses (party_at m.parties q) d ≡ false
    pub old_listed : (x : ℕ) → t.inv.ghost.own x ≡ old_of q → is_among x zs ≡ true
    pub unread : (x : ℕ) → t.inv.ghost.own x ≡ old_of q → (j : ℕ) → j ≢ q → (party_at m.parties j).step ≡ 9 → (party_at m.parties j).chain ≢ (party_at m.parties q).chain
    pub entries= : (j : ℕ) → j ≢ q → c.entries j ≡ b.entries j
    pub contents= : c.contents ≡ b.contents

  module _ (ps : List ℕ) (p : Party) (c : Book) (extra : ℕ) (g : GivesBack ps c extra) where
    abbrev pub given_scene : Scene
    given_scene = record { root = given_root; parties = set m.parties q p; pages = ps; ghost = given_ghost; entries = c.entries }

    abbrev written : List ℕ
    written = extra ∷ zs

    unwritten : (x : ℕ) → is_among x written ≡ false → (x ≢ extra) × (is_among x zs ≡ false)
    unfolding is_among
    unwritten x h = let n = or_neither (eqb extra x) (is_among x zs) h in ((λ e. eqb-false extra x n.0 (sym e)), n.1)

    touch : (x : ℕ) → is_among x written ≡ true → Touch (before t) q x
    touch x h = go (first_or_rest x extra zs h)
      where
        own : (is_among x ones ≡ true) ⊎ (is_among x twos ≡ true) → Touch (before t) q x
        own (inl k) = own_page one w.one_low w.one_high (own_of_member t.inv.pages_ok.owned (owner one q) x k)
        own (inr k) = own_page two w.two_low w.two_high (own_of_member t.inv.pages_ok.owned (owner two q) x k)

        go : (extra ≡ x) ⊎ (is_among x zs ≡ true) → Touch (before t) q x
        go (inl e) = subst (λ (y : ℕ). Touch (before t) q y) e g.may_touch
        go (inr k) = own (either x k)

    touches : Touches (before t) given_scene q p written
    touches = record {
      sizes = given_sizes;
      row= = refl;
      live= = refl;
      low= = refl;
      records= = refl;
      entries= = g.entries=;
      private= = λ k j a d n.
          given-kept (owner k j) (kinds_apart (owner k j) free (eqb-diff k 1 (omega arith))) (indices_apart (owner k j) (owner one q) n) (indices_apart (owner k j) (owner two q) n);
      chains= = λ d. given-kept (in_chain d) (kinds_apart (in_chain d) free refl) (kinds_apart (in_chain d) (owner one q) (eqb-diff 2 one (omega (arith, w.one_low)))) (kinds_apart (in_chain d) (owner two q) (eqb-diff 2 two (omega (arith, w.two_low))));
      off = λ x h. let u = unwritten x h in g.off x u.0 ∙ given_other m.pages m.root.head zs zs_has x u.1;
      own_off = λ x h.
          let u = neither x (unwritten x h).1 in
          own_after_other (own_after t.inv.ghost.own ones free) twos free x u.1 ∙ own_after_other t.inv.ghost.own ones free x u.0;
      touch = touch;
      stays = λ x e h. absurd (not-both (is_among x zs) (g.old_listed x e) (unwritten x h).1);
      unread = λ x e h j n k. g.unread x e j n k;
    }

    kinds_then : (x : ℕ) → Named (given_ghost.own x)
    kinds_then x = go (tell (is_among x twos)) (tell (is_among x ones))
      where
        own₁ : ℕ → Owner
        own₁ = own_after t.inv.ghost.own ones free

        go : Told (is_among x twos) → Told (is_among x ones) → Named (given_ghost.own x)
        go (holds h) t = rw (own_after_moved own₁ twos free x h) (omega arith)
        go (fails h) (holds k) = rw (own_after_other own₁ twos free x h, own_after_moved t.inv.ghost.own ones free x k) (omega arith)
        go (fails h) (fails k) = rw (own_after_other own₁ twos free x h, own_after_other t.inv.ghost.own ones free x k) (t.inv.pages_ok.kinds x)

    -- The primary pages outside the live file.
    untouched_primary : (d : ℕ) → d < m.root.primaries → d ≢ extra → is_among d written ≡ false
    untouched_primary d fits n = go (tell (is_among d written))
      where
        go : Told (is_among d written) → is_among d written ≡ false
        go (fails h) = h
        go (holds h) = absurd (no (first_or_rest d extra zs h))
          where
            no : (extra ≡ d) ⊎ (is_among d zs ≡ true) → ⊥
            no (inl e) = n (sym e)
            no (inr k) = let z = bounds d k in omega arith

    free_after : FreeAfter t touches
    free_after = record {
      owned = owned_then;
      kinds = kinds_then;
      head_is = ap (λ (l : ℕ). (given_back m.pages l zs).head) t.inv.pages_ok.head_is ∙ given_head m.pages frees zs ∙ ap link_to_first (sym free_then);
      free_count = omega (arith, ap (λ (l : List ℕ). length l) free_then, length-append (reverse zs) frees, length-reverse zs, t.inv.pages_ok.free_count);
      free_pages_ok = rw free_then (free_frame given_pages ps (reverse zs ++ frees) (same_from given_pages ps (reverse zs ++ frees) (λ x h. g.off x (no_extra x h))) given_pages_ok);
      dead = λ d far fits u. go d far fits u (cmp d extra);
    }
      where
        given_pages_ok : FreePages given_pages (reverse zs ++ frees)
        given_pages_ok = subst (λ (l : ℕ). FreePages (given_back m.pages l zs).pages (reverse zs ++ frees)) (sym t.inv.pages_ok.head_is)
            (given_free m.pages frees zs zs_has apart_free t.inv.pages_ok.free_pages_ok)

        no_extra : (x : ℕ) → is_among x (reverse zs ++ frees) ≡ true → x ≢ extra
        no_extra x h e =
            let z = overflow_bounds owned_then free x (rw free_then h) in
            let f = g.no_overflow (omega arith) in
            omega arith

        go : (d : ℕ) → size m.root.originals t.inv.ghost.live ≤ d → d < m.root.primaries → ((j : ℕ) → uses (party_at (set m.parties q p) j) d ≡ false) → Cmp d extra
            → page_of ps (primary_page d) ≡ zero_page
        go d far fits u (same e) = rw e (g.zeroed (omega arith))
        go d far fits u (diff n) = dead_kept t touches d (untouched_primary d fits n) far fits u (λ _. g.only_used d n)

    pub giving_parts : (ls : List ℕ) → ExtentsOk given_root (set m.parties q p) given_ghost → LocksOk (lock_words given_root) ls (claimed given_root (set m.parties q p))
        → PartyOk given_scene q p → Parts m b t.inv q given_root ls ps p c given_ghost
    giving_parts ls x l s = record {
      sizes = given_sizes.limits;
      pages_many = g.long ∙ given_long;
      extents = x;
      locks = l;
      pages = pages_touched t touches free_after;
      book = book_touched t touches c g.contents=;
      self = s;
      others = keeps_touched t touches;
    }

-- ---- The party has no pages then

-- Old pages and the partner's were all it had.
pub no_pages_given : {m : Memory} {b : Book} {q k : ℕ} (t : Turn m b q k) (zs : List ℕ)
    (mine : (x : ℕ) → count x zs ≡ count x (t.inv.ghost.held (old_of q)) + count x (t.inv.ghost.held (partner_of q)))
    → NothingBuilt (before t) q → (s : Scene) → s.ghost ≡ given_ghost t old_kinds zs mine → NoPages s q
no_pages_given t zs mine h s e = record {
  nothing_built = record {
    no_built = rw e (stays_empty t old_kinds zs mine 5 (omega arith) (omega arith) (omega arith) h.no_built);
    no_new = rw e (stays_empty t old_kinds zs mine 6 (omega arith) (omega arith) (omega arith) h.no_new);
  };
  nothing_old = record { no_old = rw e (one_given t old_kinds zs mine); no_partner = rw e (two_given t old_kinds zs mine) };
}

-- Pages built were all it had.
pub no_pages_withdrawn : {m : Memory} {b : Book} {q k : ℕ} (t : Turn m b q k) (zs : List ℕ)
    (mine : (x : ℕ) → count x zs ≡ count x (t.inv.ghost.held (built_by q)) + count x (t.inv.ghost.held (new_by q)))
    → NothingOld (before t) q → (s : Scene) → s.ghost ≡ given_ghost t built_kinds zs mine → NoPages s q
no_pages_withdrawn t zs mine h s e = record {
  nothing_built = record { no_built = rw e (one_given t built_kinds zs mine); no_new = rw e (two_given t built_kinds zs mine) };
  nothing_old = record {
    no_old = rw e (stays_empty t built_kinds zs mine 3 (omega arith) (omega arith) (omega arith) h.no_old);
    no_partner = rw e (stays_empty t built_kinds zs mine 4 (omega arith) (omega arith) (omega arith) h.no_partner);
  };
}
