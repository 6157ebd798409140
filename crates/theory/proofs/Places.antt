-- No overflow page is ever lost: each is in exactly one of the places that the memory alone tells, and no other page
-- is in any.
-- Main statements: free_listed, chain_listed, hand_counts (each place is the list of an owner, or of a party's four);
-- pages_placed (under the invariant), reached_placed (after every list of calls from formatted memory).
use mathlib.Core.Path.{◌≡◌, refl, sym, ap, ◌∙◌, subst}
use mathlib.Core.Logic.{◌≢◌}
use mathlib.Core.Bool.{Bool, true, false, cond, ◌||◌}
use mathlib.Core.List.{List, [], ◌++◌}
use Prim.Native.Nat.{ℕ, zero, suc, ◌+◌, ◌≤◌, ◌<◌}
use native.Mathlib.Omega.{arith}
use lib.ListN.{take, drop}
use lib.Seq.{take_all}
use lib.Dec.{eqb}
use Rattle.model.specs.declared.Party.{Party}
use Rattle.model.specs.declared.Entry.{Entry}
use Rattle.model.specs.Pages.{link_of, link_to_first}
use Rattle.model.specs.Chains.{chain_of, list_from, pages_in, pages_listed}
use Rattle.model.specs.Filling.{primary_of}
use Rattle.model.specs.Steps.Table.{row_at}
use Rattle.model.specs.Memory.{Memory, party_at}
use Rattle.model.specs.Book.{Book, Entered}
use Rattle.model.specs.Runs.{Call}
use Rattle.theory.specs.Demands.{Start, Reached, book_reached}
use Rattle.model.specs.Effects.{scratch_link}
use Rattle.model.specs.Consistency.{chains_with}
use Rattle.model.specs.PagePlaces.{count, pages_drawn, free_list, chained_from, hand_if, other_link_of, owes_old, has_built, in_hand, in_hands, places_of, PagesPlaced}
use Rattle.model.proofs.Laws.Lists.{Cmp, same, diff, cmp, Ord, lt, ge, ord, eqb_same, eqb-diff, count_nil, count_append, ◌▸◌, Numbered, numbered_at}
use Rattle.model.proofs.Laws.Pages.{link_filled_page}
use Rattle.model.proofs.Laws.Structure.{Linked}
use Rattle.model.proofs.Laws.Filling.{chain_link, overflow_linked}
use Rattle.model.proofs.Laws.Reading.{held_overflow, held_length, linked_list}
use Rattle.model.proofs.Laws.FreeList.{taken_front}
use Rattle.model.proofs.Invariant.Ghost.{Owner, owner, Named, nobody, free, in_chain, old_of, partner_of, built_by, new_by, same_owner, owns, size, Ghost}
use Rattle.model.proofs.Invariant.Owners.{owner_diff, kinds_apart, indices_apart, owns_self, owns_diff, owns_nothing, no_repeats}
use Rattle.model.proofs.Invariant.Statement.{Scene, NothingOld, NoPages, Building, Trash, Leaving, Written, unchanged, made_change, Divided, Emptying, Facts, facts_none, fact_table, PartyOk, resting, working, scene_of, Inv}
use Rattle.model.proofs.Effects.BuiltChain.{chain_found}
use Rattle.model.proofs.Steps.Write.GiveUp.{made_is_change}
use Rattle.theory.proofs.Reached.{reached_inv}
use Rattle.theory.proofs.Consistency.{always_consistent, reached_many}

-- ---- Lists one after the other

-- How often x is in the n lists from list c on, where it is in one of them at most.
module _ (f : ℕ → List ℕ) (run : ℕ → ℕ → List ℕ) (none : (c : ℕ) → run zero c ≡ []) (more : (n c : ℕ) → run (suc n) c ≡ f c ++ run n (c + 1)) (x : ℕ) where
  first-and_rest : (n c : ℕ) → count x (run (suc n) c) ≡ count x (f c) + count x (run n (c + 1))
  first-and_rest n c = ap (count x) (more n c) ∙ count_append x (f c) (run n (c + 1))

  run_none : (n c : ℕ) → ((d : ℕ) → c ≤ d → d < c + n → count x (f d) ≡ 0) → count x (run n c) ≡ 0
  run_none zero c off = ap (count x) (none c) ∙ count_nil x
  run_none (suc n) c off =
      omega (arith, first-and_rest n c, off c (omega arith) (omega arith), run_none n (c + 1) (λ d h l. off d (omega arith) (omega arith)))

  run_at : (n c d : ℕ) → c ≤ d → d < c + n → ((e : ℕ) → e < c + n → e ≢ d → count x (f e) ≡ 0) → count x (run n c) ≡ count x (f d)
  run_at zero c d h l off = absurd (omega arith)
  run_at (suc n) c d h l off = go (cmp c d) (λ k. run_at n (c + 1) d k (omega arith) (λ e t. off e (omega arith)))
    where
      go : Cmp c d → (c + 1 ≤ d → count x (run n (c + 1)) ≡ count x (f d)) → count x (run (suc n) c) ≡ count x (f d)
      go (same s) ih = omega (arith, first-and_rest n c, ap (λ (a : ℕ). count x (f a)) s, run_none n (c + 1) (λ e k t. off e (omega arith) (omega arith)))
      go (diff s) ih = omega (arith, first-and_rest n c, off c (omega arith) s, ih (omega arith))

-- ---- A party as owner

-- 1 where owner a is party q, by one of its four lists, else 0.
of_party : Owner → ℕ → ℕ
of_party a q = owns a (old_of q) + owns a (partner_of q) + owns a (built_by q) + owns a (new_by q)

party_other : (a : Owner) (q : ℕ) → a.index ≢ q → of_party a q ≡ 0
unfolding of_party
party_other a q n =
    omega (
      arith,
      owns_diff a (old_of q) (indices_apart a (old_of q) n),
      owns_diff a (partner_of q) (indices_apart a (partner_of q) n),
      owns_diff a (built_by q) (indices_apart a (built_by q) n),
      owns_diff a (new_by q) (indices_apart a (new_by q) n),
    )

module _ (m : Memory) (b : Book) (i : Inv m b) where
  abbrev g : Ghost
  g = i.ghost

  abbrev s : Scene
  s = scene_of m i.ghost b

  -- ---- The free list and the chains

  pub free_listed : free_list m ≡ g.held free
  unfolding free_list pages_drawn
  free_listed =
      let n = i.pages_ok.free_count in
      ap pages_drawn (taken_front m.root m.pages (g.held free) m.root.free i.pages_ok.head_is i.pages_ok.free_pages_ok (held_overflow m.root i.pages_ok.owned free)
      (no_repeats i.pages_ok.owned free) (omega arith))
      ∙ take_all m.root.free (g.held free) (omega arith)

  pub chain_listed : (c : ℕ) → c < size m.root.originals g.live → pages_in (chain_of m.root m.pages c) ≡ g.held (in_chain c)
  unfolding pages_in
  chain_listed c l = ap pages_in (chain_found m b i c l)

  -- ---- A party's hand

  module _ (q : ℕ) where
    abbrev p : Party
    p = party_at m.parties q

    -- What the party's links lead to is what it has; each of the three lists is in its hand or not.
    record Hand (old built other : Bool) : Type 0 where
      old_is : hand_if old m p.old ≡ g.held (old_of q)
      built_is : hand_if built m (scratch_link m q) ≡ g.held (built_by q)
      other_is : (x : ℕ) → count x (hand_if other m (other_link_of m q)) ≡ count x (g.held (partner_of q)) + count x (g.held (new_by q))

    -- Which are in its hand at step number n.
    abbrev HandAt : ℕ → Type 0
    HandAt n = Hand ((row_at n).old p) (row_at n).built (eqb n 18 || eqb n 29)

    -- A list that is not in its hand: the owner has no pages. One that is: the walk lists the owner's pages.
    not_listed : (o : Owner) (l : ℕ) → g.held o ≡ [] → hand_if false m l ≡ g.held o
    unfolding hand_if
    not_listed o l e = sym e

    listed : (o : Owner) (l : ℕ) → l ≡ link_to_first (g.held o) → Linked m.root m.pages (g.held o) → hand_if true m l ≡ g.held o
    unfolding hand_if pages_listed
    listed o l e h = ap pages_listed (ap (list_from m.root m.pages) e ∙ linked_list m.root m.pages (g.held o) h (held_length m.root i.pages_ok.owned o))

    nothing_other : g.held (partner_of q) ≡ [] → g.held (new_by q) ≡ [] → (x : ℕ) → count x (hand_if false m (other_link_of m q)) ≡ count x (g.held (partner_of q)) + count x (g.held (new_by q))
    unfolding hand_if
    nothing_other e f x = rw (e, f) (omega (arith, count_nil x))

    listed_built : (level : ℕ) (es : List Entry) → Building s q level es → hand_if true m (scratch_link m q) ≡ g.held (built_by q)
    unfolding primary_of
    listed_built level es h =
        listed (built_by q) (scratch_link m q) (ap link_of h.scratch_is ∙ link_filled_page level (take m.root.capacity es) (link_to_first (g.held (built_by q))))
        (overflow_linked m.root m.pages (g.held (built_by q)) (drop m.root.capacity es) (held_overflow m.root i.pages_ok.owned (built_by q)) h.built)

    listed_old : Trash s q p → hand_if true m p.old ≡ g.held (old_of q)
    listed_old h = listed (old_of q) p.old h.link h.linked

    -- At rest, at 1 to 10, 15 to 17, 23 to 28 and 30: no pages.
    hand_empty : NoPages s q → Hand false false false
    hand_empty h = record {
      old_is = not_listed (old_of q) p.old h.nothing_old.no_old;
      built_is = not_listed (built_by q) (scratch_link m q) h.nothing_built.no_built;
      other_is = nothing_other h.nothing_old.no_partner h.nothing_built.no_new;
    }

    -- 12 to 14 and 19 to 22: old pages.
    hand_leaving : (e : Entered) → Leaving s q p e → Hand true false false
    hand_leaving e h = record {
      old_is = listed_old h.trash;
      built_is = not_listed (built_by q) (scratch_link m q) h.nothing_built.no_built;
      other_is = nothing_other h.no_partner h.nothing_built.no_new;
    }

    -- 12: the answer tells whether there was a change.
    hand_written : (e : Entered) → Written s q p e → HandAt 12
    hand_written e (unchanged _ none _ h) = rw none (hand_empty h)
    hand_written e (made_change h _) = rw (made_is_change p h.made) (hand_leaving e h)

    -- 11: a chain built.
    hand_built : (level : ℕ) (es : List Entry) → Building s q level es → g.held (new_by q) ≡ [] → NothingOld s q → Hand false true false
    hand_built level es h no_new n = record {
      old_is = not_listed (old_of q) p.old n.no_old;
      built_is = listed_built level es h;
      other_is = nothing_other n.no_partner no_new;
    }

    -- 18: both halves built.
    hand_divided : (e : Entered) → Divided s q p e → Hand false true true
    hand_divided e h = record {
      old_is = not_listed (old_of q) p.old h.nothing_old.no_old;
      built_is = listed_built _ _ h.stay;
      other_is = λ x. rw (h.nothing_old.no_partner, new) (omega (arith, count_nil x));
    }
      where
        new : hand_if true m (other_link_of m q) ≡ g.held (new_by q)
        new =
            listed (new_by q) (other_link_of m q) (chain_link m.root.capacity m.pages p.other _ _ (g.held (new_by q)) h.go)
            (overflow_linked m.root m.pages (g.held (new_by q)) _ (held_overflow m.root i.pages_ok.owned (new_by q)) h.go.overflow)

    -- 29: the old pages of both chains, none.
    none-listed : hand_if true m 0 ≡ []
    unfolding hand_if pages_listed link_to_first
    none-listed = ap pages_listed (linked_list m.root m.pages [] tt (omega arith))

    hand_emptying : (e : Entered) → Emptying s q p e → Hand true false true
    hand_emptying e h =
        let none = h.settled.no_pages in
        record {
          old_is = ap (hand_if true m) h.no_old_link ∙ none-listed ∙ sym none.nothing_old.no_old;
          built_is = not_listed (built_by q) (scratch_link m q) none.nothing_built.no_built;
          other_is = λ x. rw (ap (hand_if true m) h.partner_link ∙ none-listed, none.nothing_old.no_partner, none.nothing_built.no_new) (omega (arith, count_nil x));
        }

    -- Whoever has the facts f at step number n has that in hand.
    abbrev HandBy : ℕ → Facts → Type 0
    HandBy n f = (e : Entered) → f s q p e → HandAt n

    all_hands : Numbered HandBy 0 fact_table
    all_hands =
        (λ e h. absurd h) ▸ (λ e h. hand_empty h.no_pages) ▸ (λ e h. hand_empty h.no_pages) ▸ (λ e h. hand_empty h.0.no_pages) ▸ (λ e h. hand_empty h.0.no_pages)
        ▸ (λ e h. hand_empty h.0.no_pages) ▸ (λ e h. hand_empty h.0.no_pages) ▸ (λ e h. hand_empty h.0.no_pages) ▸ (λ e h. hand_empty h.0.no_pages)
        ▸ (λ e h. hand_empty h.no_pages) ▸ (λ e h. hand_empty h.0.no_pages) ▸ (λ e h. hand_built _ _ h.building h.no_new h.nothing_old)
        ▸ hand_written ▸ (λ e h. hand_leaving e h.leaving) ▸ (λ e h. hand_leaving e h.leaving)
        ▸ (λ e h. hand_empty h.no_pages) ▸ (λ e h. hand_empty h.no_pages) ▸ (λ e h. hand_empty h.settled.no_pages) ▸ hand_divided
        ▸ hand_leaving ▸ hand_leaving ▸ hand_leaving ▸ hand_leaving ▸ (λ e h. hand_empty h.no_pages) ▸ (λ e h. hand_empty h.no_pages)
        ▸ (λ e h. hand_empty h.settled.no_pages) ▸ (λ e h. hand_empty h.settled.no_pages)
        ▸ (λ e h. hand_empty h.0.no_pages) ▸ (λ e h. hand_empty h.0.no_pages) ▸ (λ e h. hand_emptying e h.0) ▸ (λ e h. hand_empty h.0.no_pages) ▸ tt

    -- A party at rest or under way.
    party_hand : PartyOk s q p → HandAt p.step
    party_hand (resting e _ h _) = subst HandAt (sym (ap (λ (a : Party). a.step) e)) (hand_empty h)
    party_hand (working e _ h) = numbered_at HandBy facts_none (λ n e h. absurd h) fact_table all_hands p.step e h

    -- What the party has in hand is its four lists.
    hand_counts : q < m.root.parties → (x : ℕ) → count x (in_hand m q) ≡ of_party (g.own x) q
    unfolding in_hand owes_old has_built of_party
    hand_counts in_row x =
        let h = party_hand (i.parties_ok q in_row) in
        let w = i.pages_ok.owned in
        omega (
          arith,
          count_append x (hand_if (owes_old p) m p.old) (hand_if (has_built p) m (scratch_link m q) ++ hand_if (eqb p.step 18 || eqb p.step 29) m (other_link_of m q)),
          count_append x (hand_if (has_built p) m (scratch_link m q)) (hand_if (eqb p.step 18 || eqb p.step 29) m (other_link_of m q)),
          ap (count x) h.old_is,
          ap (count x) h.built_is,
          h.other_is x,
          w.once (old_of q) x (kinds_apart (old_of q) nobody refl),
          w.once (partner_of q) x (kinds_apart (partner_of q) nobody refl),
          w.once (built_by q) x (kinds_apart (built_by q) nobody refl),
          w.once (new_by q) x (kinds_apart (new_by q) nobody refl),
        )

  -- ---- A page, by its owner

  abbrev many : ℕ
  many = size m.root.originals g.live

  module _ (x : ℕ) where
    -- Whoever owns the page has pages, if it is somebody.
    has_pages : (o : Owner) → same_owner o nobody ≡ false → g.own x ≡ o → g.held o ≢ []
    has_pages o n e none = owns_nothing i.pages_ok.owned o x n none e

    -- A party past the row's end has no pages.
    of_row : (o : ℕ → Owner) (q : ℕ) → same_owner (o q) nobody ≡ false → g.own x ≡ o q → ((j : ℕ) → m.root.parties ≤ j → g.held (o j) ≡ []) → q < m.root.parties
    of_row o q n e none = go (ord q m.root.parties)
      where
        go : Ord q m.root.parties → q < m.root.parties
        go (lt h _) = h
        go (ge h _) = absurd (has_pages (o q) n e (none q h))

    -- A chain past the last live one has no pages.
    live_chain : (c : ℕ) → g.own x ≡ in_chain c → c < many
    live_chain c e = go (ord c many)
      where
        go : Ord c many → c < many
        go (lt h _) = h
        go (ge h _) = absurd (has_pages (in_chain c) (kinds_apart (in_chain c) nobody refl) e (i.pages_ok.beyond c h))

    -- How often it is in the free list, and in one live chain.
    in_free : count x (free_list m) ≡ owns (g.own x) free
    in_free = ap (count x) free_listed ∙ i.pages_ok.owned.once free x (kinds_apart free nobody refl)

    in_one : (c : ℕ) → c < many → count x (pages_in (chain_of m.root m.pages c)) ≡ owns (g.own x) (in_chain c)
    in_one c l = ap (count x) (chain_listed c l) ∙ i.pages_ok.owned.once (in_chain c) x (kinds_apart (in_chain c) nobody refl)

    -- In no chain where its owner is of another kind; else in one, once.
    not_chained : (k j : ℕ) → g.own x ≡ owner k j → eqb k 2 ≡ false → count x (chained_from m many 0) ≡ 0
    unfolding chained_from
    not_chained k j e n =
        run_none (λ c. pages_in (chain_of m.root m.pages c)) (chained_from m) (λ c. refl) (λ n c. refl) x many 0
        (λ c _ l. in_one c (omega arith) ∙ ap (λ (a : Owner). owns a (in_chain c)) e ∙ owns_diff (owner k j) (in_chain c) (kinds_apart (owner k j) (in_chain c) n))

    chained : (j : ℕ) → g.own x ≡ in_chain j → count x (chained_from m many 0) ≡ 1
    unfolding chained_from
    chained j e =
        run_at (λ c. pages_in (chain_of m.root m.pages c)) (chained_from m) (λ c. refl) (λ n c. refl) x many 0 j (omega arith) (omega (arith, live_chain j e))
        (λ c l n. in_one c (omega arith) ∙ ap (λ (a : Owner). owns a (in_chain c)) e ∙ owns_diff (in_chain j) (in_chain c) (indices_apart (in_chain j) (in_chain c) (λ s. n (sym s))))
        ∙ in_one j (live_chain j e) ∙ ap (λ (a : Owner). owns a (in_chain j)) e ∙ owns_self (in_chain j)

    -- The same of the parties' hands.
    not_in_hand : (a : Owner) → g.own x ≡ a → ((q : ℕ) → of_party a q ≡ 0) → count x (in_hands m m.root.parties 0) ≡ 0
    unfolding in_hands
    not_in_hand a e n =
        run_none (in_hand m) (in_hands m) (λ c. refl) (λ n c. refl) x m.root.parties 0 (λ q _ l. hand_counts q (omega arith) x ∙ ap (λ (o : Owner). of_party o q) e ∙ n q)

    in_hand_of : (a : Owner) → g.own x ≡ a → a.index < m.root.parties → of_party a a.index ≡ 1 → count x (in_hands m m.root.parties 0) ≡ 1
    unfolding in_hands
    in_hand_of a e l one =
        run_at (in_hand m) (in_hands m) (λ c. refl) (λ n c. refl) x m.root.parties 0 a.index (omega arith) (omega arith)
        (λ q k n. hand_counts q (omega arith) x ∙ ap (λ (o : Owner). of_party o q) e ∙ party_other a q (λ s. n (sym s)))
        ∙ hand_counts a.index l x ∙ ap (λ (o : Owner). of_party o a.index) e ∙ one

    -- All places together.
    total : (u v w : ℕ) → owns (g.own x) free ≡ u → count x (chained_from m many 0) ≡ v → count x (in_hands m m.root.parties 0) ≡ w → count x (places_of m many) ≡ u + v + w
    unfolding places_of
    total u v w a c d =
        omega (
          arith,
          count_append x (free_list m) (chained_from m many 0 ++ in_hands m m.root.parties 0),
          count_append x (chained_from m many 0) (in_hands m m.root.parties 0),
          in_free,
        )

    -- A page of a party of the row, in one of its four lists.
    with_party_ok : (k j : ℕ) → g.own x ≡ owner k j → eqb k 1 ≡ false → eqb k 2 ≡ false → j < m.root.parties → of_party (owner k j) j ≡ 1 → count x (places_of m many) ≡ 1
    with_party_ok k j e f c l one =
        total 0 0 1 (ap (λ (a : Owner). owns a free) e ∙ owns_diff (owner k j) free (kinds_apart (owner k j) free f)) (not_chained k j e c) (in_hand_of (owner k j) e l one)

    -- A page that somebody owns is in one place, once; a page of nobody's is in none.
    places : (k j : ℕ) → Named (owner k j) → g.own x ≡ owner k j → count x (places_of m many) ≡ cond (eqb k 0) 0 1
    unfolding of_party owns same_owner
    places zero j n e = total 0 0 0 (ap (λ (a : Owner). owns a free) e) (not_chained 0 j e refl) (not_in_hand (owner 0 j) e (λ q. refl))
    places (suc zero) j n e =
        total 1 0 0 (ap (λ (a : Owner). owns a free) (e ∙ ap (owner 1) (n.1 (omega arith)))) (not_chained 1 j e refl) (not_in_hand (owner 1 j) e (λ q. refl))
    places (suc (suc zero)) j n e = total 0 1 0 (ap (λ (a : Owner). owns a free) e) (chained j e) (not_in_hand (in_chain j) e (λ q. refl))
    places (suc (suc (suc zero))) j n e =
        with_party_ok 3 j e refl refl (of_row old_of j refl e (λ q h. (i.strangers q h).1.nothing_old.no_old)) (rw (eqb_same j j refl) refl)
    places (suc (suc (suc (suc zero)))) j n e =
        with_party_ok 4 j e refl refl (of_row partner_of j refl e (λ q h. (i.strangers q h).1.nothing_old.no_partner)) (rw (eqb_same j j refl) refl)
    places (suc (suc (suc (suc (suc zero))))) j n e =
        with_party_ok 5 j e refl refl (of_row built_by j refl e (λ q h. (i.strangers q h).1.nothing_built.no_built)) (rw (eqb_same j j refl) refl)
    places (suc (suc (suc (suc (suc (suc zero)))))) j n e =
        with_party_ok 6 j e refl refl (of_row new_by j refl e (λ q h. (i.strangers q h).1.nothing_built.no_new)) (rw (eqb_same j j refl) refl)
    places (suc (suc (suc (suc (suc (suc (suc k))))))) j n e = absurd (omega (arith, n.0))

    -- Its owner is one of these.
    placed : count x (places_of m many) ≡ cond (eqb (g.own x).kind 0) 0 1
    placed = places (g.own x).kind (g.own x).index (i.pages_ok.kinds x) refl

  -- THE PLACES: each overflow page is in one, once, and no other page is in any.
  pub pages_placed : PagesPlaced m (size m.root.originals i.ghost.live)
  pages_placed = record { once = one; inside = within_bounds }
    where
      -- The owner is nobody where its kind is 0.
      whose : (x : ℕ) → (g.own x).kind ≡ 0 → g.own x ≡ nobody
      whose x e = λ j. record { kind = e j; index = (i.pages_ok.kinds x).1 (omega arith) j }

      one : (x : ℕ) → m.root.primaries ≤ x → x < m.root.primaries + m.root.overflow → count x (places_of m many) ≡ 1
      one x low high = placed x ∙ rw (eqb-diff (g.own x).kind 0 (λ e. owner_diff (g.own x) nobody (i.pages_ok.owned.owned x low high) (whose x e)))

      within_bounds : (x : ℕ) → count x (places_of m many) ≢ 0 → (m.root.primaries ≤ x) × (x < m.root.primaries + m.root.overflow)
      within_bounds x n =
          i.pages_ok.owned.inside x
          (kinds_apart (g.own x) nobody (eqb-diff (g.own x).kind 0 (λ e. n (placed x ∙ rw (eqb_same (g.own x).kind 0 e)))))

-- After every list of calls from formatted memory, the chains of the file being those of always_consistent.
pub reached_placed : (s : Start) (cs : List Call) → PagesPlaced (Reached s cs) (chains_with (Reached s cs) (always_consistent s cs).split)
reached_placed s cs =
    subst (PagesPlaced (Reached s cs)) (reached_many s cs) (pages_placed (Reached s cs) (book_reached s cs) (reached_inv s cs))
