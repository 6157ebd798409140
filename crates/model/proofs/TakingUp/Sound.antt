-- A file that passes take-up has the invariant, beside the book with its records and nobody under way.
-- Main statement: saved_inv; fit_at (one chain of those that fit) and each_once_at (one of the numbers that are once).
use mathlib.Core.Path.{◌≡◌, refl, sym, ap, ◌∙◌, subst}
use mathlib.Core.Bool.{Bool, true, false, cond, ◌&&◌, ◌||◌}
use mathlib.Core.List.{List, [], ◌∷◌, ◌++◌}
use Prim.Native.Nat.{ℕ, zero, suc, ◌+◌, ◌-◌, ◌≤◌, ◌<◌}
use native.Mathlib.Omega.{arith}
use lib.ListN.{length, get_or, replicate}
use lib.Dec.{eqb, leb, ltb}
use Rattle.model.specs.declared.Root.{Root}
use Rattle.model.specs.declared.Entry.{Entry}
use Rattle.model.specs.Sizes.{within_limits, lock_words, all_page_words}
use Rattle.model.specs.Records.{idle}
use Rattle.model.specs.Addresses.{span, chain_count, count_of_chains, hash, address_of}
use Rattle.model.specs.Entries.{has_key, setting_in}
use Rattle.model.specs.Pages.{page_of, link_of, link_sound, link_to_first, primary_page, scratch_page}
use Rattle.model.specs.Chains.{Checked, damaged, sound, Chain, chain_of, read_chain, list_from, pages_in, records_read, chains_from}
use Rattle.model.specs.Filling.{pages_for}
use Rattle.model.specs.FreeList.{Taken, pages_taken}
use Rattle.model.specs.Memory.{Memory, party_at}
use Rattle.model.specs.Refusals.{lengths_fit, root_sound}
use Rattle.model.specs.PagePlaces.{pages_drawn, free_list, chained_from}
use Rattle.model.specs.Claims.{claims}
use Rattle.model.specs.TakeUp.{all_idle, zero_pages, parties_rest, locks_clear, scratch_clear, level_at, all_home, packed, chain_fits, fits_if_sound, chains_fit, chains_saved, beyond_clear, all_free, free_if_sound, free_saved, each_once, pages_once, is_saved, records_saved, open_book, saved_book, row_clear}
use Rattle.model.proofs.Laws.Lists.{false≢true, Told, holds, fails, tell, Cmp, same, diff, cmp, and_both, eqb-true, ltb-true, ltb-false, leb-true, count_nil, count_append, All, all_in, count_among}
use Rattle.model.proofs.Laws.Booleans.{and_left, and_right}
use Rattle.model.proofs.Laws.Tests.{sound_page_links}
use Rattle.model.proofs.Laws.Addresses.{address_lt}
use Rattle.model.proofs.Laws.Structure.{FreePages, ChainIs}
use Rattle.model.proofs.Laws.Filling.{IsOverflow}
use Rattle.model.proofs.Laws.Walks.{chain_reads, read_ascends, walked_chained, linked_overflow}
use Rattle.model.proofs.Laws.Together.{Apart, setting_home, ascends_all, chains_at_ok, on_chain, chains_apart}
use Rattle.model.proofs.Invariant.Ghost.{old_of, partner_of, built_by, new_by, count, root_extent, size, local_level, Ghost, Owned}
use Rattle.model.proofs.Invariant.Extents.{home_is}
use Rattle.model.proofs.Invariant.Claims.{is_claimed, claimed, LocksOk}
use Rattle.model.proofs.Invariant.LockMoves.{locks_same, locks_start}
use Rattle.model.proofs.Invariant.Start.{limits_within}
use Rattle.model.proofs.Invariant.Statement.{Limits, restructures, ExtentsOk, PagesOk, BookOk, Scene, NoPages, resting, scene_of, Inv}
use Rattle.model.proofs.TakingUp.Tests.{zeros, all_idle_lem, zero_page_at, packed_chain, home_keys, TakenList, taken_list}
use Rattle.model.proofs.TakingUp.Owners.{chained, owner_in, held_in, held_free, held_chain, held_beyond, held_none, named_in, owned_once}
use Rattle.model.proofs.Laws.WaitingRow.{row_clear_lem}
use Rattle.model.specs.WaitingRow.{all_zero}

-- ---- Chains

-- A chain that passed its tests.
pub record FitChain (r : Root) (ps : List ℕ) (c : ℕ) : Type 0 where
  pub chain : Chain
  pub reads : chain_of r ps c ≡ sound chain
  pub fits : chain_fits r ps c chain ≡ true

fit_chain : (r : Root) (ps : List ℕ) (c : ℕ) → fits_if_sound r ps c (chain_of r ps c) ≡ true → FitChain r ps c
unfolding fits_if_sound
fit_chain r ps c e = go (chain_of r ps c) refl e
  where
    go : (x : Checked Chain) → chain_of r ps c ≡ x → fits_if_sound r ps c x ≡ true → FitChain r ps c
    go damaged s f = absurd (false≢true f)
    go (sound d) s f = record { chain = d; reads = s; fits = f }

pub fit_at : (r : Root) (ps : List ℕ) (n c d : ℕ) → chains_fit r ps n c ≡ true → c ≤ d → d < c + n → FitChain r ps d
unfolding chains_fit
fit_at r ps zero c d e h l = absurd (omega arith)
fit_at r ps (suc n) c d e h l =
    let f = and_both (fits_if_sound r ps c (chain_of r ps c)) (chains_fit r ps n (c + 1)) e in
    go (cmp c d) (fit_chain r ps c f.0) (λ k. fit_at r ps n (c + 1) d f.1 k (omega arith))
  where
    go : Cmp c d → FitChain r ps c → (c + 1 ≤ d → FitChain r ps d) → FitChain r ps d
    go (same s) here ih = subst (FitChain r ps) s here
    go (diff s) here ih = ih (omega arith)

-- Its overflow pages are overflow pages.
chain_overflow : (r : Root) (ps : List ℕ) (c : ℕ) (d : Chain) → chain_of r ps c ≡ sound d → All (IsOverflow r) d.pages
unfolding read_chain list_from
chain_overflow r ps c d e =
    let x = chain_reads r ps c d e in
    let w = (walked_chained r ps r.overflow (link_of (page_of ps (primary_page c))) x.xs x.listed).0 in
    let first : link_sound r (link_to_first x.xs) ≡ true = ap (link_sound r) (sym w.first) ∙ sound_page_links r (page_of ps (primary_page c)) x.page_sound_ok in
    subst (All (IsOverflow r)) (ap (λ (y : Chain). y.pages) x.chain_is) (linked_overflow r ps x.xs first w.linked)

-- ---- Pages, each once

pub each_once_at : (xs : List ℕ) (v x y : ℕ) → each_once xs v x ≡ true → x ≤ y → y < x + v → count y xs ≡ 1
unfolding each_once
each_once_at xs zero x y e h l = absurd (omega arith)
each_once_at xs (suc v) x y e h l =
    let f = and_both (eqb (count x xs) 1) (each_once xs v (x + 1)) e in
    go (cmp x y) (eqb-true (count x xs) 1 f.0) (λ k. each_once_at xs v (x + 1) y f.1 k (omega arith))
  where
    go : Cmp x y → count x xs ≡ 1 → (x + 1 ≤ y → count y xs ≡ 1) → count y xs ≡ 1
    go (same s) here ih = ap (λ (z : ℕ). count z xs) (sym s) ∙ here
    go (diff s) here ih = ih (omega arith)

-- A page in one of some lists has what all pages of the lists have.
in_chained : (P : ℕ → Type 0) (f : ℕ → List ℕ) (n c x : ℕ) → ((d : ℕ) → c ≤ d → d < c + n → All P (f d)) → 1 ≤ count x (chained f n c) → P x
unfolding chained
in_chained P f zero c x all h = absurd (omega (arith, count_nil x))
in_chained P f (suc n) c x all h = go (tell (ltb 0 (count x (f c)))) (λ k. in_chained P f n (c + 1) x (λ d a b. all d (omega arith) (omega arith)) k)
  where
    go : Told (ltb 0 (count x (f c))) → (1 ≤ count x (chained f n (c + 1)) → P x) → P x
    go (holds e) ih = all_in P x (f c) (all c (omega arith) (omega arith)) (count_among x (f c) (omega (arith, ltb-true 0 (count x (f c)) e)))
    go (fails e) ih = ih (omega (arith, count_append x (f c) (chained f n (c + 1)), ltb-false 0 (count x (f c)) e))

pub chained_same : (m : Memory) (n c : ℕ) → chained_from m n c ≡ chained (λ d. pages_in (chain_of m.root m.pages d)) n c
unfolding chained_from chained
chained_same m zero c = refl
chained_same m (suc n) c = ap (λ (l : List ℕ). pages_in (chain_of m.root m.pages c) ++ l) (chained_same m n (c + 1))

-- Two tests that lead to the same are one.
either : {A : Type 0} (s t : Bool) (x y : A) → cond s x (cond t x y) ≡ cond (s || t) x y
either true t x y = refl
either false t x y = refl

pub level_same : (r : Root) (c : ℕ) → local_level r.originals (root_extent r) c ≡ level_at r c
unfolding local_level level_at
level_same r c = either (ltb c r.next) (leb (span r.originals r.level) c) (r.level + 1) r.level

-- ---- The free list

pub record FreeAll (m : Memory) : Type 0 where
  pub frees : List ℕ
  pub listed : free_list m ≡ frees
  pub list : TakenList m.root m.pages m.root.free m.root.head frees
  pub zeroed : FreePages m.pages frees

free_all : (m : Memory) → free_saved m ≡ true → FreeAll m
unfolding free_saved free_if_sound free_list pages_drawn pages_taken
free_all m e = go (pages_taken m.root m.pages m.root.free) refl e
  where
    go : (x : Checked Taken) → pages_taken m.root m.pages m.root.free ≡ x → free_if_sound m.pages x ≡ true → FreeAll m
    go damaged s f = absurd (false≢true f)
    go (sound t) s f =
        let g = and_both (eqb t.head 0) (all_free m.pages t.pages) f in
        let ended = eqb-true t.head 0 g.0 in
        let list = taken_list m.root m.pages m.root.free m.root.head [] t.pages (s ∙ (λ i. sound (record { pages = t.pages; head = ended i }))) in
        record { frees = t.pages; listed = ap pages_drawn s; list = list; zeroed = list.free g.1 }

-- ---- The whole

module _ (m : Memory) (fits : within_limits m.root ≡ true) (lengths : lengths_fit m.root m ≡ true) (saved : is_saved m ≡ true) where
  abbrev r : Root
  r = m.root

  abbrev ps : List ℕ
  ps = m.pages

  abbrev pub n : ℕ
  n = count_of_chains m.root

  record Conditions : Type 0 where
    idle : all_idle m.parties ≡ true
    locks : all_zero m.locks ≡ true
    scratch : zero_pages ps r.parties (scratch_page r 0) ≡ true
    root : root_sound r ≡ true
    chains : chains_fit r ps n 0 ≡ true
    beyond : zero_pages ps (r.primaries - n) n ≡ true
    frees : free_saved m ≡ true
    once : each_once (free_list m ++ chained_from m n 0) r.overflow r.primaries ≡ true
    row : all_zero m.waiting ≡ true

  conditions : Conditions
  unfolding is_saved parties_rest locks_clear scratch_clear chains_saved beyond_clear pages_once row_clear
  conditions =
      record {
        idle = search (and_left, and_right) depth 10;
        locks = search (and_left, and_right) depth 10;
        scratch = search (and_left, and_right) depth 10;
        root = search (and_left, and_right) depth 10;
        chains = search (and_left, and_right) depth 10;
        beyond = search (and_left, and_right) depth 10;
        frees = search (and_left, and_right) depth 10;
        once = search (and_left, and_right) depth 10;
        row = search (and_left, and_right) depth 10;
      }

  limits : Limits m.root
  limits = limits_within m.root fits

  record Whole : Type 0 where
    next_fits : r.next < span r.originals r.level
    count_fits : chain_count r.originals r.level r.next ≤ r.primaries

  root_whole : Whole
  unfolding root_sound
  root_whole =
      let a = and_both (leb r.level 8 && ltb r.next (span r.originals r.level) && leb (chain_count r.originals r.level r.next) r.primaries) (leb r.free r.overflow) conditions.root in
      let b = and_both (leb r.level 8 && ltb r.next (span r.originals r.level)) (leb (chain_count r.originals r.level r.next) r.primaries) a.0 in
      let c = and_both (leb r.level 8) (ltb r.next (span r.originals r.level)) b.0 in
      record { next_fits = ltb-true r.next (span r.originals r.level) c.1; count_fits = leb-true (chain_count r.originals r.level r.next) r.primaries b.1 }

  record Lengths : Type 0 where
    parties_many : length m.parties ≡ r.parties
    locks_many : length m.locks ≡ lock_words r
    pages_many : length m.pages ≡ all_page_words r
    row_many : length m.waiting ≡ r.parties

  lengths_are_ok : Lengths
  unfolding lengths_fit
  lengths_are_ok =
      let z = and_both (eqb (length m.parties) r.parties && eqb (length m.locks) (lock_words r) && eqb (length m.pages) (all_page_words r)) (eqb (length m.waiting) r.parties) lengths in
      let a = and_both (eqb (length m.parties) r.parties && eqb (length m.locks) (lock_words r)) (eqb (length m.pages) (all_page_words r)) z.0 in
      let b = and_both (eqb (length m.parties) r.parties) (eqb (length m.locks) (lock_words r)) a.0 in
      record { parties_many = eqb-true _ _ b.0; locks_many = eqb-true _ _ b.1; pages_many = eqb-true _ _ a.1; row_many = eqb-true _ _ z.1 }

  pub frees_are : FreeAll m
  frees_are = free_all m conditions.frees

  abbrev pub pages_at : ℕ → List ℕ
  pages_at c = pages_in (chain_of m.root m.pages c)

  abbrev pub records_at : ℕ → List Entry
  records_at c = records_read (chain_of m.root m.pages c)

  pub idle_at : (q : ℕ) → party_at m.parties q ≡ idle
  idle_at q = all_idle_lem m.parties conditions.idle q

  fit : (c : ℕ) → c < n → FitChain m.root m.pages c
  fit c l = fit_at m.root m.pages n 0 c conditions.chains (omega arith) (omega arith)

  pages_are : (c : ℕ) (l : c < n) → pages_at c ≡ (fit c l).chain.pages
  unfolding pages_in
  pages_are c l = ap pages_in (fit c l).reads

  records_are : (c : ℕ) (l : c < n) → records_at c ≡ (fit c l).chain.entries
  unfolding records_read
  records_are c l = ap records_read (fit c l).reads

  chain_all : (c : ℕ) → c < n → All (IsOverflow m.root) (pages_at c)
  chain_all c l = subst (All (IsOverflow m.root)) (sym (pages_are c l)) (chain_overflow m.root m.pages c (fit c l).chain (fit c l).reads)

  -- ---- Owners

  abbrev pub frees : List ℕ
  frees = frees_are.frees

  counted : (x : ℕ) → count x (free_list m ++ chained_from m n 0) ≡ count x frees + count x (chained pages_at n 0)
  counted x = count_append x (free_list m) (chained_from m n 0) ∙ (λ i. count x (frees_are.listed i) + count x (chained_same m n 0 i))

  owned : Owned m.root.primaries m.root.overflow (owner_in pages_at n frees) (held_in pages_at n frees)
  owned =
      owned_once pages_at n frees m.root.primaries m.root.overflow
      (λ x h l. sym (counted x) ∙ each_once_at (free_list m ++ chained_from m n 0) r.overflow r.primaries x conditions.once h l)
      (λ x h. inside x h (tell (ltb 0 (count x frees))))
    where
      bounds : (x : ℕ) → IsOverflow m.root x → (m.root.primaries ≤ x) × (x < m.root.primaries + m.root.overflow)
      bounds x o = (o.above, o.below)

      inside : (x : ℕ) → 1 ≤ count x frees + count x (chained pages_at n 0) → Told (ltb 0 (count x frees)) → (m.root.primaries ≤ x) × (x < m.root.primaries + m.root.overflow)
      inside x h (holds e) = bounds x (all_in (IsOverflow m.root) x frees frees_are.list.overflow (count_among x frees (omega (arith, ltb-true 0 (count x frees) e))))
      inside x h (fails e) = bounds x (in_chained (IsOverflow m.root) pages_at n 0 x (λ d _ l. chain_all d (omega arith)) (omega (arith, ltb-false 0 (count x frees) e)))

  -- ---- The ghost

  abbrev pub ghost : Ghost
  ghost = record { own = owner_in pages_at n frees; held = held_in pages_at n frees; records = records_at; live = root_extent m.root; low = root_extent m.root }

  many : size m.root.originals (root_extent m.root) ≡ n
  unfolding size
  many = refl

  homed : (c : ℕ) → c < n → (k : ℕ) → has_key k (records_at c) ≡ true → hash m.root.originals (level_at m.root c) k ≡ c
  unfolding chain_fits
  homed c l k h =
      let d = (fit c l).chain in
      let f = and_both (all_home r.originals (level_at r c) c d.entries && packed r.capacity ps (level_at r c) (primary_page c ∷ d.pages) d.entries) (eqb (length d.pages) (pages_for r.capacity d.entries)) (fit c l).fits in
      let g = and_both (all_home r.originals (level_at r c) c d.entries) (packed r.capacity ps (level_at r c) (primary_page c ∷ d.pages) d.entries) f.0 in
      home_keys r.originals (level_at r c) c d.entries g.0 k (ap (has_key k) (sym (records_are c l)) ∙ h)

  chain_is : (c : ℕ) → c < n → ChainIs m.root.capacity m.pages c (level_at m.root c) (records_at c) (pages_at c)
  unfolding chain_fits
  chain_is c l =
      let d = (fit c l).chain in
      let f = and_both (all_home r.originals (level_at r c) c d.entries && packed r.capacity ps (level_at r c) (primary_page c ∷ d.pages) d.entries) (eqb (length d.pages) (pages_for r.capacity d.entries)) (fit c l).fits in
      let g = and_both (all_home r.originals (level_at r c) c d.entries) (packed r.capacity ps (level_at r c) (primary_page c ∷ d.pages) d.entries) f.0 in
      rw (records_are c l, pages_are c l)
      (packed_chain r.capacity ps c (level_at r c) d.entries d.pages (omega (arith, limits.some_key)) g.1 (eqb-true (length d.pages) (pages_for r.capacity d.entries) f.1))

  -- ---- The parts of the invariant

  extents : ExtentsOk m.root m.parties ghost
  unfolding restructures size
  extents = record {
    live-by = λ q e. absurd (false≢true (rw (idle_at q) at e));
    low_by = λ q e. absurd (false≢true (rw (idle_at q) at e));
    at_rest_lem = λ f. (refl, refl);
    live_next = root_whole.next_fits;
    live_fits = root_whole.count_fits;
    root_next = root_whole.next_fits;
    root_fits = root_whole.count_fits;
  }

  locks_ok : LocksOk (lock_words m.root) m.locks (claimed m.root m.parties)
  unfolding claims is_claimed
  locks_ok =
      subst (λ (l : List ℕ). LocksOk (lock_words m.root) l (claimed m.root m.parties))
      (sym (zeros m.locks conditions.locks ∙ ap (λ (k : ℕ). replicate k 0) lengths_are_ok.locks_many))
      (locks_same (λ i q o. rw (idle_at q)) (locks_start (lock_words m.root)))

  pages_ok : PagesOk m.root m.parties m.pages ghost
  pages_ok = record {
    owned = owned;
    kinds = λ x. named_in pages_at n frees x;
    beyond = λ c h. held_beyond pages_at n frees c (omega (arith, many));
    head_is = frees_are.list.first ∙ ap link_to_first (sym (held_free pages_at n frees));
    free_count = sym frees_are.list.as_many ∙ ap length (sym (held_free pages_at n frees));
    free_pages_ok = rw (held_free pages_at n frees) frees_are.zeroed;
    chain = λ c h. let l : c < n = omega (arith, many) in rw (level_same m.root c, held_chain pages_at n frees c l) (chain_is c l);
    ascends = λ c h. read_ascends m.root m.pages c;
    homed = λ c h k e. ap (λ (j : ℕ). hash m.root.originals j k) (level_same m.root c) ∙ homed c (omega (arith, many)) k e;
    dead = λ c h l u. zero_page_at ps (r.primaries - n) n c conditions.beyond (omega (arith, many)) (omega (arith, many));
  }

  -- A key of a chain is at home there.
  key_home : (c k : ℕ) → c < n → has_key k (records_at c) ≡ true → address_of m.root.originals m.root.level m.root.next k ≡ c
  key_home c k l h =
      home_is m.root.originals (root_extent m.root) c (local_level m.root.originals (root_extent m.root) c) k (omega (arith, limits.some_original)) (omega (arith, root_whole.next_fits))
      (record { inside = omega (arith, many); there = ap (λ (j : ℕ). hash m.root.originals j k) (level_same m.root c) ∙ homed c l k h; reach = omega arith }) refl

  -- ---- The book's map

  abbrev chains : List (List Entry)
  chains = chains_from m.root m.pages n 0

  home_at : (c k : ℕ) → has_key k (get_or chains c []) ≡ true → address_of m.root.originals m.root.level m.root.next k ≡ c
  home_at c k t = let f = on_chain m.root m.pages n c k t in key_home c k f.0 f.1

  apart : Apart chains
  apart = chains_apart m.root m.pages n (λ c d k l h t u. sym (key_home c k l t) ∙ key_home d k h u)

  pub book_ok : BookOk m.root ghost (saved_book m)
  unfolding open_book records_saved chain_count
  book_ok = record {
    ascends = ascends_all chains apart;
    same = λ k.
        let home = address_of m.root.originals m.root.level m.root.next k in
        setting_home chains apart home k (λ d t. home_at d k t)
        ∙ ap (setting_in k) (chains_at_ok m.root m.pages n home (omega (arith, address_lt m.root.originals m.root.level m.root.next k limits.some_original)));
  }

  abbrev scene : Scene
  scene = scene_of m ghost (saved_book m)

  no_pages : (q : ℕ) → NoPages scene q
  no_pages q = record {
    nothing_built = record { no_built = held_none pages_at n frees (built_by q) refl refl; no_new = held_none pages_at n frees (new_by q) refl refl };
    nothing_old = record { no_old = held_none pages_at n frees (old_of q) refl refl; no_partner = held_none pages_at n frees (partner_of q) refl refl };
  }

  pub saved_inv : Inv m (saved_book m)
  unfolding open_book
  saved_inv = record {
    ghost = ghost;
    limits = limits;
    parties_many = lengths_are_ok.parties_many;
    pages_many = lengths_are_ok.pages_many;
    extents_ok = extents;
    locks_ok = locks_ok;
    pages_ok = pages_ok;
    book_ok = book_ok;
    parties_ok = λ q h. resting (idle_at q) refl (no_pages q) (zero_page_at ps r.parties (scratch_page r 0) (scratch_page r q) conditions.scratch (omega arith) (omega arith));
    row_ok = row_clear_lem m.root m.parties m.waiting lengths_are_ok.row_many conditions.row;
    strangers = λ q h. (refl, no_pages q);
  }
