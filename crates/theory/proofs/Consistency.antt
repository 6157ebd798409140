-- What Ellis 1987 argues for in section 4, of every reachable memory. The statements are specs/Consistency.antt.
-- Main statements: always_consistent (P2 with S1 to S4, S3' and S4'), reached_many (its chains are the live ones), reached_pairs (where each record stands), search_ends, home_locked and left-to_walk (P3), same_map (P4).
use mathlib.Core.Path.{◌≡◌, refl, sym, ap, ◌∙◌}
use mathlib.Core.Bool.{Bool, true, false, cond, ◌||◌, false≢true}
use mathlib.Core.List.{List, ◌∷◌, []}
use Prim.Native.Nat.{ℕ, suc, ◌+◌, ◌≤◌, ◌<◌}
use native.Mathlib.Omega.{arith}
use lib.ListN.{get_or, get_or-eq_default}
use lib.Dec.{eqb, ltb, leb}
use Rattle.model.specs.Answers.{StepReply}
use Rattle.model.specs.declared.Root.{Root}
use Rattle.model.specs.declared.Party.{Party}
use Rattle.model.specs.Sizes.{within}
use Rattle.model.specs.Records.{idle}
use Rattle.model.specs.LockWords.{holds, chain_word}
use Rattle.model.specs.Addresses.{span, hash, chain_count}
use Rattle.model.specs.Entries.{joined_all}
use Rattle.model.specs.Pages.{page_of, link_to_first, primary_page, scratch_page}
use Rattle.model.specs.Chains.{Chain, list_from, chains_from}
use Rattle.model.specs.Outcome.{Outcome, with_party, moved}
use Rattle.model.specs.ScratchPages.{with_scratch}
use Rattle.model.specs.Memory.{Memory, party_at, view_of}
use Rattle.model.specs.Calls.{Called, stepped, step_call, called_by}
use Rattle.model.specs.Runs.{Call}
use Rattle.model.specs.Book.{Book}
use Rattle.model.specs.Effects.{record_after}
use Rattle.model.specs.LockRequests.{mode_of, chain_lock}
use Rattle.model.specs.Steps.Chase.{chase_of, arrived, chasing}
use Rattle.model.specs.Steps.Dispatch.{step_of, step_table}
use Rattle.theory.specs.Demands.{Start, Reached, book_reached}
use Rattle.theory.specs.Sequential.{map_in}
use Rattle.model.specs.Consistency.{restructures, chains_with, Consistent, PairsPlaced, HomeLocked, SearchEnds, LeftToWalk, records_in, SameMap}
use Rattle.model.proofs.Laws.Lists.{Told, fails, tell, Ord, lt, ge, ord, cond_ind, not-both, le-leb, eqb-true, all_from}
use Rattle.model.proofs.Laws.Lists as lists
use Rattle.model.proofs.Laws.Addresses.{span_next}
use Rattle.model.proofs.Laws.Pages.{page_same, length_page_of}
use Rattle.model.proofs.Laws.Filling.{IsOverflow}
use Rattle.model.proofs.Laws.Reading.{linked_list, length_overflow}
use Rattle.model.proofs.Invariant.Ghost.{Extent, extent, root_extent, size, advance, local_level, in_chain}
use Rattle.model.proofs.Invariant.Extents.{size_is, local_rest, key_home, Restructurer, somebody, nobody_does, restructurer}
use Rattle.model.proofs.Invariant.Statement.{live_for, Inv, scene_of}
use Rattle.model.specs.Claims.{claim_table, no_lock}
use Rattle.model.proofs.Invariant.Frame.{holds_chain_lem}
use Rattle.model.proofs.Invariant.Facts.{At, facts_at_lem}
use Rattle.model.proofs.Invariant.Turn.{turn_at}
use Rattle.model.proofs.Effects.Kept.{row_same}
use Rattle.model.proofs.Effects.Releases.{lock_held}
use Rattle.model.proofs.Effects.ScratchPage.{protected_bounds}
use Rattle.model.proofs.Effects.BuiltChain.{chain_found}
use Rattle.model.proofs.Steps.Chase.Copy.{step06_moves, stayed_home}
use Rattle.model.proofs.Theorems.Pairs.{pair_places}
use Rattle.theory.proofs.Alters.{Tested, turned_away, let_through, tested}
use Rattle.theory.proofs.Reached.{reached_inv}
use Rattle.theory.proofs.Singly.Files.{map_held}
use Rattle.theory.proofs.Singly.AtRest.{live_file, live_holding, chains_read}

-- ---- How far the live file extends, by Ellis's x

-- The extent e has the chains of level and x, and their local levels.
record Spread (r : Root) (e : Extent) : Type 0 where
  pub split : ℕ
  pub many : size r.originals e ≡ chain_count r.originals r.level split
  pub local : (c : ℕ) → c < size r.originals e → local_level r.originals e c ≡ cond (ltb c split || leb (span r.originals r.level) c) (r.level + 1) r.level
  pub at_least : r.next ≤ split
  pub at_most : split ≤ span r.originals r.level

-- Two tests that lead to the same are one.
either : {A : Type 0} (s t : Bool) (x y : A) → cond s x (cond t x y) ≡ cond (s || t) x y
either true t x y = refl
either false t x y = refl

spread_is : {r : Root} {e f : Extent} → e ≡ f → Spread r f → Spread r e
spread_is {r} s k = record {
  split = k.split;
  many = ap (size r.originals) s ∙ k.many;
  local = λ c h. ap (λ (d : Extent). local_level r.originals d c) s ∙ k.local c (rw (← s) h);
  at_least = k.at_least;
  at_most = k.at_most;
}

module _ (r : Root) (inside : r.next < span r.originals r.level) where
  -- In this round.
  in_round : (x : ℕ) → r.next ≤ x → x ≤ span r.originals r.level → Spread r (extent r.level x)
  unfolding size local_level
  in_round x low high = record {
    split = x;
    many = refl;
    local = λ c h. either (ltb c x) (leb (span r.originals r.level) c) (r.level + 1) r.level;
    at_least = low;
    at_most = high;
  }

  -- The round is over: every chain has split.
  round_over : Spread r (extent (r.level + 1) 0)
  unfolding chain_count
  round_over = record {
    split = span r.originals r.level;
    many = size_is r.originals (extent (r.level + 1) 0) ∙ omega (arith, span_next r.originals r.level);
    local = λ c h. local_rest r.originals (extent (r.level + 1) 0) c (omega arith) (omega (arith, size_is r.originals (extent (r.level + 1) 0))) ∙ sym (all_split c (ord c (span r.originals r.level)));
    at_least = omega arith;
    at_most = omega arith;
  }
    where
      all_split : (c : ℕ) → Ord c (span r.originals r.level) → cond (ltb c (span r.originals r.level) || leb (span r.originals r.level) c) (r.level + 1) r.level ≡ r.level + 1
      all_split c (lt h e) = rw e refl
      all_split c (ge h e) = rw (e, le-leb (span r.originals r.level) c h) refl

  own_spread : Spread r (root_extent r)
  own_spread = in_round r.next (omega arith) (omega arith)

  advanced : Spread r (advance r.originals (root_extent r))
  unfolding advance
  advanced = cond_ind (Spread r) (eqb (r.next + 1) (span r.originals r.level)) _ _ (λ _. round_over) (λ _. in_round (r.next + 1) (omega arith) (omega arith))

  -- Whatever the restructurer's step.
  live_spread : (p : Party) → Spread r (live_for r p)
  unfolding live_for
  live_spread p =
      cond_ind (Spread r) (within 19 20 p.step || eqb p.step 28) _ _ (λ _. advanced)
      (λ _. cond_ind (Spread r) (eqb p.step 21) _ _ (λ _. cond_ind (Spread r) (eqb r.next 0) _ _ (λ _. round_over) (λ _. own_spread)) (λ _. own_spread))

-- ---- P2

module _ (m : Memory) (b : Book) (i : Inv m b) where
  abbrev live : Extent
  live = i.ghost.live

  -- Outside a restructuring x is next.
  record LiveSpread : Type 0 where
    pub spread : Spread m.root live
    pub rests : ((q : ℕ) → restructures (party_at m.parties q) ≡ false) → spread.split ≡ m.root.next

  live_spreads : LiveSpread
  unfolding spread_is own_spread in_round
  live_spreads = go (restructurer m.parties)
    where
      go : Restructurer m.parties → LiveSpread
      go (somebody q e) = record {
        spread = spread_is (i.extents_ok.live-by q e) (live_spread m.root i.extents_ok.root_next (party_at m.parties q));
        rests = λ f. absurd (not-both (restructures (party_at m.parties q)) e (f q));
      }
      go (nobody_does f) = record { spread = spread_is (i.extents_ok.at_rest_lem f).0 (own_spread m.root i.extents_ok.root_next); rests = λ _. refl }

  abbrev spread : Spread m.root live
  spread = live_spreads.spread

  is_live : (c : ℕ) → c < chains_with m spread.split → c < size m.root.originals live
  is_live c h = omega (arith, spread.many)

  -- A live chain, looked through.
  abbrev chain_at_lem : ℕ → Chain
  chain_at_lem c = record {
    level = local_level m.root.originals live c;
    link = link_to_first (i.ghost.held (in_chain c));
    pages = i.ghost.held (in_chain c);
    entries = i.ghost.records c;
  }

  pub consistent : Consistent m
  unfolding chain_count
  consistent = record {
    split = spread.split;
    chain = chain_at_lem;
    reads = λ c h. chain_found m b i c (is_live c h);
    homed = λ c k h has. i.pages_ok.homed c (is_live c h) k has;
    disjoint = λ c d k hc hd has also. sym (key_home i c (is_live c hc) k has) ∙ key_home i d (is_live d hd) k also;
    levels = λ c h. spread.local c (is_live c h);
    at_least = omega (arith, spread.at_least);
    at_most = omega (arith, spread.at_most, span_next m.root.originals m.root.level);
    next_inside = i.extents_ok.root_next;
    at_rest_lem = live_spreads.rests;
  }

  -- The chains of the file are the live ones.
  live_many : size m.root.originals i.ghost.live ≡ chains_with m consistent.split
  unfolding consistent
  live_many = spread.many

  -- Where each record stands.
  pub pairs_placed : PairsPlaced m consistent
  unfolding chain_count consistent
  pairs_placed = record {
    placed = λ c j h l. pair_places m.root.capacity i.limits.some_key m.pages c _ (i.ghost.records c) (i.ghost.held (in_chain c)) (i.pages_ok.chain c (is_live c h)) j l;
  }

  -- The records of P4.
  pub map_same : SameMap m b consistent
  unfolding records_in live_file map_in
  map_same = record {
    records =
        ap (λ (n : ℕ). joined_all (chains_from m.root m.pages n 0)) (sym live_many)
        ∙ ap joined_all (chains_read m b i (size m.root.originals live) 0 (omega arith))
        ∙ map_held m.root.originals (live_file m.root.originals i.ghost) b.contents (live_holding m b i);
  }

-- ---- P3

-- A party at step number n + 1 that holds its chain alone.
module _ (m : Memory) (b : Book) (i : Inv m b) (q n : ℕ) (is_there : (party_at m.parties q).step ≡ suc n) where
  -- Only a party of the row is at a step.
  in_row : q < m.root.parties
  in_row = go (ord q m.root.parties)
    where
      go : Ord q m.root.parties → q < m.root.parties
      go (lt h _) = h
      go (ge h _) = absurd (omega (arith, sym (ap (λ (p : Party). p.step) (get_or-eq_default m.parties idle (omega (arith, i.parties_many)))) ∙ is_there))

  there : At (suc n) (scene_of m i.ghost b) q (party_at m.parties q)
  there = facts_at_lem n (scene_of m i.ghost b) q (party_at m.parties q) is_there (i.parties_ok q in_row)

  chain_locked : get_or claim_table (suc n) no_lock (party_at m.parties q) ≡ chain_lock (party_at m.parties q) ∷ []
      → holds (get_or m.locks (chain_word (party_at m.parties q).chain) 0) q (mode_of (party_at m.parties q)) ≡ true
  chain_locked c =
      lock_held m.root m.parties i.locks_ok q (chain_lock (party_at m.parties q)) (omega (arith, there.busy.chain_fits))
      (holds_chain_lem m.root (party_at m.parties q) (suc n) is_there c)

module _ (m : Memory) (b : Book) (i : Inv m b) (q : ℕ) where
  abbrev me : Party
  me = party_at m.parties q

  -- 10: the chain is the key's home.
  pub at_ten : me.step ≡ 10 → HomeLocked m q
  at_ten e =
      let home = (there m b i q 9 e).facts.1 in
      record {
        chain = chain_at_lem m b i me.chain;
        reads = chain_found m b i me.chain home.heads.inside;
        home = ap (λ (l : ℕ). hash m.root.originals l me.key) (sym home.exact) ∙ home.heads.there;
        locked = chain_locked m b i q 9 e refl;
      }

  -- 9: what is left to walk.
  pub at_nine : me.step ≡ 9 → LeftToWalk m b q
  at_nine e =
      let here = there m b i q 8 e in
      let walk = here.facts in
      let bounds = protected_bounds m b i q (in_row m b i q 8 e) me.chain in
      let over = all_from (IsOverflow m.root) walk.rest (λ x h. let o = bounds x (walk.protected x h) in record { above = o.0; below = o.1 }) in
      record {
        entered = here.entered;
        entry = here.busy.entry;
        rest = walk.rest;
        reads = ap (list_from m.root m.pages) walk.link ∙ linked_list m.root m.pages walk.rest walk.linked (length_overflow m.root walk.rest over walk.once);
        note = walk.note_is;
        locked = chain_locked m b i q 8 e refl;
      }

  -- A 6 that leads to 9 or 10.
  module _ (is_six : me.step ≡ 6) (ends : within 9 10 (record_after m q).step ≡ true) where
    abbrev page : List ℕ
    page = page_of m.pages (primary_page me.chain)

    abbrev next : Party
    next = cond (eqb (chase_of (view_of m q)).chain me.chain) (arrived (chase_of (view_of m q)) me) (chasing (chase_of (view_of m q)) me)

    here : At 6 (scene_of m i.ghost b) q me
    here = there m b i q 5 is_six

    -- The call is not refused: it leads on.
    leads_on : step_call m q ≡ stepped m q
    leads_on = go (tested m q)
      where
        go : Tested m q → step_call m q ≡ stepped m q
        go (let_through _ e) = e
        go (turned_away c e) = absurd (false≢true (ap (within 9 10) (sym is_six ∙ ap (λ (x : Called StepReply). (party_at x.memory.parties q).step) (sym e)) ∙ ends))

    leaves : (step_call m q).memory ≡ (called_by m q (moved (with_party next (with_scratch page (view_of m q))))).memory
    unfolding stepped step_of step_table
    leaves =
        ap (λ (x : Called StepReply). x.memory) leads_on ∙ ap (λ (k : ℕ). (called_by m q (step_of k (view_of m q))).memory) is_six
        ∙ ap (λ (o : Outcome). (called_by m q o).memory) (step06_moves (turn_at m b i q (in_row m b i q 5 is_six) 5 is_six))

    next_ends : within 9 10 next.step ≡ true
    next_ends =
        ap (λ (p : Party). within 9 10 p.step)
        (sym (ap (λ (x : Memory). party_at x.parties q) leaves ∙ row_same m.parties q next (omega (arith, i.parties_many, in_row m b i q 5 is_six))))
        ∙ ends

    -- The chase stayed on the chain.
    stays : (chase_of (view_of m q)).chain ≡ me.chain
    unfolding chasing
    stays = go (tell (eqb (chase_of (view_of m q)).chain me.chain))
      where
        go : Told (eqb (chase_of (view_of m q)).chain me.chain) → (chase_of (view_of m q)).chain ≡ me.chain
        go (lists.holds t) = eqb-true (chase_of (view_of m q)).chain me.chain t
        go (fails t) = absurd (false≢true (sym (rw t refl) ∙ next_ends))

    pub search_ended : SearchEnds m q
    search_ended = record {
      at_home = record {
        chain = chain_at_lem m b i me.chain;
        reads = chain_found m b i me.chain here.facts.1.inside;
        home = stayed_home (turn_at m b i q (in_row m b i q 5 is_six) 5 is_six) stays;
        locked = chain_locked m b i q 5 is_six refl;
      };
      current =
          ap (λ (x : Memory). page_of x.pages (scratch_page m.root q)) leaves
          ∙ page_same m.pages (scratch_page m.root q) page (record { fits = omega (arith, i.pages_many, in_row m b i q 5 is_six) })
          (length_page_of (record { fits = omega (arith, i.pages_many, here.busy.chain_fits) }));
    }

-- ---- Every reachable memory

-- P2 (section 4.2), S1 to S4, S3' and S4'.
pub always_consistent : (s : Start) (cs : List Call) → Consistent (Reached s cs)
always_consistent s cs = consistent (Reached s cs) (book_reached s cs) (reached_inv s cs)

pub reached_many : (s : Start) (cs : List Call) → size (Reached s cs).root.originals (reached_inv s cs).ghost.live ≡ chains_with (Reached s cs) (always_consistent s cs).split
unfolding always_consistent
reached_many s cs = live_many (Reached s cs) (book_reached s cs) (reached_inv s cs)

-- Each record stands in its place, whatever b is.
pub reached_pairs : (s : Start) (cs : List Call) → PairsPlaced (Reached s cs) (always_consistent s cs)
unfolding always_consistent
reached_pairs s cs = pairs_placed (Reached s cs) (book_reached s cs) (reached_inv s cs)

-- P3 (section 4.3): when the search stops, and later, at 10 and at 9.
pub search_ends : (s : Start) (cs : List Call) (q : ℕ) → (party_at (Reached s cs).parties q).step ≡ 6 → within 9 10 (record_after (Reached s cs) q).step ≡ true → SearchEnds (Reached s cs) q
search_ends s cs q = search_ended (Reached s cs) (book_reached s cs) (reached_inv s cs) q

pub home_locked : (s : Start) (cs : List Call) (q : ℕ) → (party_at (Reached s cs).parties q).step ≡ 10 → HomeLocked (Reached s cs) q
home_locked s cs q = at_ten (Reached s cs) (book_reached s cs) (reached_inv s cs) q

pub left-to_walk : (s : Start) (cs : List Call) (q : ℕ) → (party_at (Reached s cs).parties q).step ≡ 9 → LeftToWalk (Reached s cs) (book_reached s cs) q
left-to_walk s cs q = at_nine (Reached s cs) (book_reached s cs) (reached_inv s cs) q

-- P4 (section 4.4): the records; the answers are `answers_right` of proofs/Demands.antt.
pub same_map : (s : Start) (cs : List Call) → SameMap (Reached s cs) (book_reached s cs) (always_consistent s cs)
unfolding always_consistent
same_map s cs = map_same (Reached s cs) (book_reached s cs) (reached_inv s cs)
