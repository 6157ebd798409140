-- What a party knows stays true while what it relies on stays: its own pages, the chains it holds, the pages it may walk, level and next.
-- Main statements: Grows, Keeps (what a party relies on), still_grows; party_frame (the frame of every party at every step number).
use mathlib.Core.Path.{◌≡◌, refl, sym, ap, ◌∙◌, subst, subst₃}
use mathlib.Core.Bool.{Bool, true, false, cond, ◌&&◌, ◌||◌, or-true, false≢true}
use mathlib.Core.List.{List, [], ◌∷◌}
use Prim.Native.Nat.{ℕ, ◌+◌, ◌≤◌, ◌<◌}
use native.Mathlib.Omega.{arith}
use lib.ListN.{get_or, drop}
use lib.Dec.{eqb}
use Rattle.model.specs.declared.Root.{Root}
use Rattle.model.specs.declared.Party.{Party}
use Rattle.model.specs.declared.Mode.{Mode}
use Rattle.model.specs.declared.Mode.TheVariants.{Read, Selective, Exclusive}
use Rattle.model.specs.LockWords.{Claim, chain_word}
use Rattle.model.specs.declared.Entry.{Entry}
use Rattle.model.specs.Entries.{staying, going, joined}
use Rattle.model.specs.Pages.{page_of, link_of, page_sound, link_sound, names_overflow, link_to_first, primary_page}
use Rattle.model.specs.Chains.{entries_on}
use Rattle.model.specs.FreeList.{is_among}
use Rattle.model.specs.LockRequests.{chain_selective, chain_exclusive, root_selective, root_exclusive, other_exclusive, mode_of, chain_lock, other_lock}
use Rattle.model.specs.Addresses.{count_of_chains}
use Rattle.model.specs.Steps.MergeLocks.{merge_locks}
use Rattle.model.specs.Book.{Entered}
use Rattle.model.specs.Holds.{same_mode}
use Rattle.model.specs.Sizes.{within}
use Rattle.model.specs.Steps.Dispatch.{has_step}
use Rattle.model.proofs.Laws.Structure.{Linked, SameOn, linked_frame, overflow_frame, chain_frame}
use Rattle.model.proofs.Laws.Lists.{◌▸◌, Numbered, numbered_at}
use Rattle.model.proofs.Invariant.Ghost.{owner, in_chain, old_of, partner_of, built_by, new_by, Extent, size, local_level}
use Rattle.model.specs.Claims.{claims, claim_table, no_lock}
use Rattle.model.proofs.Invariant.Claims.{is_claimed}
use Rattle.model.proofs.Invariant.Statement.{restructures, Scene, scratch_in, held_in, NothingBuilt, NothingOld, NoPages, Early, Heads, Chasing, Protected, Walking, AtHome, Building, Rebuilt, Trash, Leaving, Written, unchanged, made_change, Returning, Settled, SplitChains, Dividing, Divided, MergeChains, Joining, Joined, MovedBack, OnePage, Emptying, uses, Facts, facts_none, facts_early, facts_level_read, facts_located, facts_locked, facts_chasing, facts_coupled, facts_home, facts_rebuilt, facts_joined, facts_moved_back, facts_emptying, facts_merged, fact_table, Busy, PartyOk, resting, working}
use borrow.Author.Tests.{eq-eqb, eqb-true}

-- Two root records of the same sizes.
pub record SameLimits (r t : Root) : Type 0 where
  pub originals= : t.originals ≡ r.originals
  pub capacity= : t.capacity ≡ r.capacity
  pub primaries= : t.primaries ≡ r.primaries
  pub overflow= : t.overflow ≡ r.overflow
  pub parties= : t.parties ≡ r.parties

-- Root records and ghosts that say the same of how far the file extends.
pub record SameExtents (s t : Scene) : Type 0 where
  pub level= : t.root.level ≡ s.root.level
  pub next= : t.root.next ≡ s.root.next
  pub live= : t.ghost.live ≡ s.ghost.live
  pub low= : t.ghost.low ≡ s.ghost.low

-- A chain of the file at extent e is one at extent f, and its local level has not fallen.
abbrev pub StaysLive : ℕ → Extent → Extent → ℕ → Type 0
StaysLive n e f c = c < size n e → (c < size n f) × (local_level n e c ≤ local_level n f c)

-- A chain of the live file, or any chain where the party restructures: a party at 14 may hold a chain that was merged away, and rely on nothing of it.
abbrev pub LiveOrOurs : Scene → Party → ℕ → Type 0
LiveOrOurs s p c = restructures p ≡ false → c < size s.root.originals s.ghost.live

-- What party j, whose record is p, relies on of how far the file extends.
pub record Grows (s t : Scene) (p : Party) : Type 0 where
  -- The one that restructures sees no extent change.
  pub same_for_restructurer : restructures p ≡ true → SameExtents s t
  -- At 3, the level read at 2 is at most the root's.
  pub level_rises : p.step ≡ 3 → s.root.level ≤ t.root.level
  -- At 4 and 5, a chain counted on stays.
  pub low_grows : within 4 5 p.step ≡ true → (c : ℕ) → StaysLive s.root.originals s.ghost.low t.ghost.low c
  -- A chain that the party has locked stays live, and its local level does not fall.
  pub live_grows : (c : ℕ) (m : Mode) → is_claimed (claims s.root p) (chain_word c) m ≡ true → StaysLive s.root.originals s.ghost.live t.ghost.live c
  -- Locked selectively or exclusively, its local level stays.
  pub firm : (c : ℕ) (m : Mode) → is_claimed (claims s.root p) (chain_word c) m ≡ true → same_mode m Read ≡ false → LiveOrOurs s p c
      → local_level s.root.originals t.ghost.live c ≡ local_level s.root.originals s.ghost.live c

-- What party j, whose record is p, relies on from scene s to scene t.
pub record Keeps (s t : Scene) (j : ℕ) (p : Party) : Type 0 where
  -- The sizes stay.
  pub sizes : SameLimits s.root t.root
  -- The file extends as the party relies on.
  pub grows : Grows s t p
  -- Its entry in the book stays.
  pub entry= : t.entries j ≡ s.entries j
  -- Its old, partner's, built and new pages stay its own, and their words stay.
  pub ours : (k : ℕ) → 3 ≤ k → k ≤ 6 → (held_in t (owner k j) ≡ held_in s (owner k j)) × SameOn s.pages t.pages (held_in s (owner k j))
  -- Its scratch page stays.
  pub scratch= : scratch_in t j ≡ scratch_in s j
  -- A chain that it has locked selectively or exclusively keeps its records and its overflow pages.
  pub chain= : (c : ℕ) (m : Mode) → is_claimed (claims s.root p) (chain_word c) m ≡ true → same_mode m Read ≡ false → LiveOrOurs s p c
      → (t.ghost.records c ≡ s.ghost.records c) × (held_in t (in_chain c) ≡ held_in s (in_chain c))
  -- At 9, every page that it may yet walk stays protected and keeps its words.
  pub reading : (x : ℕ) → p.step ≡ 9 → Protected s p.chain x → Protected t p.chain x × (page_of t.pages x ≡ page_of s.pages x)
  -- At 18 and 29, the primary page of its other chain stays.
  pub spare : uses p p.other ≡ true → page_of t.pages (primary_page p.other) ≡ page_of s.pages (primary_page p.other)

-- ---- Where the file extends as before

-- Two root records that differ at most in the free list.
pub record SameSizes (r t : Root) : Type 0 where
  pub limits : SameLimits r t
  pub level= : t.level ≡ r.level
  pub next= : t.next ≡ r.next

pub still_grows : (s t : Scene) (p : Party) → SameExtents s t → Grows s t p
still_grows s t p e = record {
  same_for_restructurer = λ _. e;
  level_rises = λ _. omega (arith, e.level=);
  low_grows = λ _ c. rw e.low= (λ l. (l, omega arith));
  live_grows = λ c m _. rw e.live= (λ l. (l, omega arith));
  firm = λ c m _ _ _. rw e.live= refl;
}

-- A chain that a hash function leads to stays one, while it stays in the file and its local level does not fall.
pub heads_grown : (n : ℕ) (e f : Extent) (c lev k : ℕ) → StaysLive n e f c → Heads n e c lev k → Heads n f c lev k
heads_grown n e f c lev k g h =
    let l = g h.inside in
    record { inside = l.0; there = h.there; reach = omega (arith, l.1, h.reach) }

-- ---- Pages are sound by the sizes alone

pub sound_sizes : (r t : Root) → SameLimits r t → (w : List ℕ) → page_sound t w ≡ page_sound r w
unfolding page_sound link_sound names_overflow
sound_sizes r t z w = rw (z.capacity=, z.primaries=, z.overflow=) refl

pub linked_sizes : (r t : Root) → SameLimits r t → (ps xs : List ℕ) → Linked r ps xs → Linked t ps xs
linked_sizes r t z ps [] h = tt
linked_sizes r t z ps (x ∷ xs) h = (sound_sizes r t z (page_of ps x) ∙ h.0, h.1, linked_sizes r t z ps xs h.2)

-- The records on pages that stay.
pub entries_frame : (ps qs xs : List ℕ) → SameOn ps qs xs → entries_on qs xs ≡ entries_on ps xs
unfolding entries_on
entries_frame ps qs [] a = refl
entries_frame ps qs (x ∷ xs) a = rw (a.0, entries_frame ps qs xs a.1) refl

-- ---- Which locks a party holds

-- The claims of a party whose step number is known.
pub claims_at_lem : (r : Root) (p : Party) (n : ℕ) → p.step ≡ n → claims r p ≡ get_or claim_table n no_lock p
unfolding claims
claims_at_lem r p n e = rw e refl

-- A lock that a claim of the list names.
pub named : (cs : List Claim) (i : ℕ) (m : Mode) → is_claimed (record { word = i; mode = m } ∷ cs) i m ≡ true
unfolding is_claimed same_mode
named cs i Read = rw (eq-eqb i i refl) refl
named cs i Selective = rw (eq-eqb i i refl) refl
named cs i Exclusive = rw (eq-eqb i i refl) refl

pub later : (c : Claim) (cs : List Claim) (i : ℕ) (m : Mode) → is_claimed cs i m ≡ true → is_claimed (c ∷ cs) i m ≡ true
unfolding is_claimed
later c cs i m h = rw (h, or-true (eqb c.word i && same_mode c.mode m)) refl

-- ---- The frame of each fact

module _ (s t : Scene) (j : ℕ) (p : Party) (k : Keeps s t j p) where
  pub linked_kept : (xs : List ℕ) → SameOn s.pages t.pages xs → Linked s.root s.pages xs → Linked t.root t.pages xs
  linked_kept xs a h = linked_sizes s.root t.root k.sizes t.pages xs (linked_frame s.root s.pages t.pages xs a h)

  built_kept : NothingBuilt s j → NothingBuilt t j
  built_kept h = record { no_built = (k.ours 5 (omega arith) (omega arith)).0 ∙ h.no_built; no_new = (k.ours 6 (omega arith) (omega arith)).0 ∙ h.no_new }

  partner_kept : held_in s (partner_of j) ≡ [] → held_in t (partner_of j) ≡ []
  partner_kept h = (k.ours 4 (omega arith) (omega arith)).0 ∙ h

  old_kept : NothingOld s j → NothingOld t j
  old_kept h = record { no_old = (k.ours 3 (omega arith) (omega arith)).0 ∙ h.no_old; no_partner = partner_kept h.no_partner }

  pub none_kept : NoPages s j → NoPages t j
  none_kept h = record { nothing_built = built_kept h.nothing_built; nothing_old = old_kept h.nothing_old }

  early_kept : Early s j p → Early t j p
  early_kept h = record { nothing_owed = h.nothing_owed; no_pages = none_kept h.no_pages }

  heads_kept : (e f : Extent) (c lev key : ℕ) → StaysLive s.root.originals e f c → Heads s.root.originals e c lev key → Heads t.root.originals f c lev key
  heads_kept e f c lev key g h = rw k.sizes.originals= (heads_grown s.root.originals e f c lev key g h)

  chasing-kept : StaysLive s.root.originals s.ghost.live t.ghost.live p.other → Chasing s.root.originals s.ghost.live p
      → Chasing t.root.originals t.ghost.live p
  chasing-kept g h =
      let l = g h.inside in
      rw k.sizes.originals=
      (record { inside = l.0; before = h.before; lev_is = h.lev_is; from = h.from; reach = omega (arith, l.1, h.reach); there = h.there; apart = h.apart })

  -- The local level of a chain that the party holds selectively or exclusively.
  local_kept : (c : ℕ) (m : Mode) → is_claimed (claims s.root p) (chain_word c) m ≡ true → same_mode m Read ≡ false → LiveOrOurs s p c
      → local_level t.root.originals t.ghost.live c ≡ local_level s.root.originals s.ghost.live c
  local_kept c m h n l = ap (λ (x : ℕ). local_level x t.ghost.live c) k.sizes.originals= ∙ k.grows.firm c m h n l

  home_kept : is_claimed (claims s.root p) (chain_word p.chain) Selective ≡ true → AtHome s p → AtHome t p
  unfolding same_mode
  home_kept c h = record {
    heads = heads_kept s.ghost.live t.ghost.live p.chain p.lev p.key (k.grows.live_grows p.chain Selective c) h.heads;
    exact = h.exact ∙ sym (local_kept p.chain Selective c refl (λ _. h.heads.inside));
  }

  -- The pages of a walk, one by one.
  pub walk_same : p.step ≡ 9 → (xs : List ℕ) → ((x : ℕ) → is_among x xs ≡ true → Protected s p.chain x) → SameOn s.pages t.pages xs
  unfolding is_among
  walk_same e [] f = tt
  walk_same e (x ∷ xs) f = ((k.reading x e (f x (rw (eq-eqb x x refl) refl))).1, walk_same e xs (λ y h. f y (rw h (or-true (eqb x y)))))

  walking_kept : p.step ≡ 9 → (e : Entered) → Walking s j p e → Walking t j p e
  walking_kept n e h =
      let same = walk_same n h.rest h.protected in
      record {
        rest = h.rest;
        sound = sound_sizes s.root t.root k.sizes (scratch_in t j) ∙ ap (page_sound s.root) k.scratch= ∙ h.sound;
        link = ap link_of k.scratch= ∙ h.link;
        linked = linked_kept h.rest same h.linked;
        once = h.once;
        protected = λ x i. (k.reading x n (h.protected x i)).0;
        note_is = rw (k.scratch=, entries_frame s.pages t.pages h.rest same) h.note_is;
        no_pages = none_kept h.no_pages;
      }

  building_kept : (level : ℕ) (es : List Entry) → Building s j level es → Building t j level es
  building_kept level es h =
      let b = k.ours 5 (omega arith) (omega arith) in
      record {
        scratch_is = rw (k.sizes.capacity=, b.0) (k.scratch= ∙ h.scratch_is);
        built = rw (k.sizes.capacity=, b.0) (overflow_frame s.root.capacity s.pages t.pages (held_in s (built_by j)) (drop s.root.capacity es) b.1 h.built);
      }

  trash_kept : Trash s j p → Trash t j p
  trash_kept h =
      let o = k.ours 3 (omega arith) (omega arith) in
      record {
        link = rw o.0 h.link;
        linked = rw o.0 (linked_kept (held_in s (old_of j)) o.1 h.linked);
      }

  leaving-kept : (e : Entered) → Leaving s j p e → Leaving t j p e
  leaving-kept e h = record {
    noted = h.noted;
    made = h.made;
    trash = trash_kept h.trash;
    no_partner = partner_kept h.no_partner;
    nothing_built = built_kept h.nothing_built;
  }

  written_kept : (e : Entered) → Written s j p e → Written t j p e
  written_kept e (unchanged a b c d) = unchanged a b c (none_kept d)
  written_kept e (made_change a b) = made_change (leaving-kept e a) b

  returning_kept : (e : Entered) → Returning s j p e → Returning t j p e
  returning_kept e h = record { leaving = leaving-kept e h.leaving; some_old = h.some_old; owed_fits_ok = h.owed_fits_ok }

  settled_kept : (e : Entered) → Settled s j p e → Settled t j p e
  settled_kept e h = record { noted = h.noted; made = h.made; no_pages = none_kept h.no_pages }

  count_kept : SameExtents s t → count_of_chains t.root ≡ count_of_chains s.root
  count_kept x = rw (k.sizes.originals=, x.level=, x.next=) refl

  split_chains_kept : SameExtents s t → SplitChains s p → SplitChains t p
  split_chains_kept x h = record {
    old_chain = h.old_chain ∙ sym x.next=;
    new_chain = h.new_chain ∙ sym (count_kept x);
    room = rw (count_kept x, k.sizes.primaries=) h.room;
  }

  moved_back_kept : SameExtents s t → MovedBack s p → MovedBack t p
  moved_back_kept x h = record {
    target = h.target ∙ sym x.next=;
    partner = h.partner ∙ sym (count_kept x);
    room = rw (count_kept x, k.sizes.primaries=) h.room;
  }

  merge_chains_kept : SameExtents s t → MergeChains s p → MergeChains t p
  merge_chains_kept x h = record {
    target = rw (k.sizes.originals=, x.level=, x.next=) h.target;
    partner = rw (k.sizes.originals=, x.level=, x.next=) h.partner;
    goes_on = rw (k.sizes.originals=, x.level=, x.next=) h.goes_on;
  }

  rebuilt-kept : is_claimed (claims s.root p) (chain_word p.chain) Selective ≡ true → Rebuilt s j p → Rebuilt t j p
  unfolding same_mode
  rebuilt-kept c h =
      let inside : LiveOrOurs s p p.chain = λ _. h.at_home.heads.inside in
      let f = k.chain= p.chain Selective c refl inside in
      record {
        at_home = home_kept c h.at_home;
        after = h.after;
        change = rw f.0 h.change;
        building = subst (λ (l : ℕ). Building t j l h.after) (sym (local_kept p.chain Selective c refl inside)) (building_kept (local_level s.root.originals s.ghost.live p.chain) h.after h.building);
        keeps_link = h.keeps_link ∙ ap link_to_first (sym f.1);
        owed_is = rw (f.1, (k.ours 5 (omega arith) (omega arith)).0) h.owed_is;
        no_new = (k.ours 6 (omega arith) (omega arith)).0 ∙ h.no_new;
        nothing_old = old_kept h.nothing_old;
      }

  divided-kept : restructures p ≡ true → uses p p.other ≡ true → is_claimed (claims s.root p) (chain_word p.chain) Selective ≡ true → (e : Entered) → Divided s j p e → Divided t j p e
  unfolding same_mode
  divided-kept ours u c e h =
      let x = k.grows.same_for_restructurer ours in
      let f = k.chain= p.chain Selective c refl (λ n. absurd (false≢true (sym n ∙ ours))) in
      let n = k.ours 6 (omega arith) (omega arith) in
      let r = s.root in
      let es = s.ghost.records p.chain in
      let go = chain_frame r.capacity s.pages t.pages p.other (r.level + 1) (going r.originals (r.level + 1) p.chain es) (held_in s (new_by j)) (k.spare u) n.1 h.go in
      record {
        noted = h.noted;
        made = h.made;
        chains = split_chains_kept x h.chains;
        stay = subst₃ (λ (l i : ℕ) (xs : List Entry). Building t j (l + 1) (staying i (l + 1) p.chain xs)) (sym x.level=) (sym k.sizes.originals=) (sym f.0)
            (building_kept (r.level + 1) (staying r.originals (r.level + 1) p.chain es) h.stay);
        go = rw (x.level=, k.sizes.originals=, k.sizes.capacity=, f.0, n.0) go;
        keeps_link = h.keeps_link ∙ ap link_to_first (sym f.1);
        nothing_old = old_kept h.nothing_old;
      }

  joined-kept : restructures p ≡ true → is_claimed (claims s.root p) (chain_word p.chain) Exclusive ≡ true → is_claimed (claims s.root p) (chain_word p.other) Exclusive ≡ true
      → (e : Entered) → Joined s j p e → Joined t j p e
  unfolding same_mode
  joined-kept ours c o e h =
      let held : (d : ℕ) → LiveOrOurs s p d = λ d n. absurd (false≢true (sym n ∙ ours)) in
      let f = k.chain= p.chain Exclusive c refl (held p.chain) in
      let u = k.chain= p.other Exclusive o refl (held p.other) in
      record {
        noted = h.noted;
        made = h.made;
        joins = subst₃ (λ (l : ℕ) (xs ys : List Entry). Building t j l (joined xs ys)) (sym (local_kept p.chain Exclusive c refl (held p.chain))) (sym f.0) (sym u.0)
            (building_kept (local_level s.root.originals s.ghost.live p.chain) (joined (s.ghost.records p.chain) (s.ghost.records p.other)) h.joins);
        keeps_link = h.keeps_link ∙ ap link_to_first (sym f.1);
        no_pages = none_kept h.no_pages;
      }

  -- A target of one page, which the party holds exclusively beside the root and the partner.
  one_page_kept : restructures p ≡ true → claims s.root p ≡ merge_locks root_selective p → OnePage s p → OnePage t p
  unfolding same_mode
  one_page_kept ours c h =
      let held = later root_selective (chain_exclusive p ∷ (other_exclusive p ∷ [])) (chain_word p.chain) Exclusive (named (other_exclusive p ∷ []) (chain_word p.chain) Exclusive) in
      (k.chain= p.chain Exclusive (rw c held) refl (λ n. absurd (false≢true (sym n ∙ ours)))).1 ∙ h

  emptying_kept : restructures p ≡ true → claims s.root p ≡ merge_locks root_selective p → uses p p.other ≡ true → (e : Entered) → Emptying s j p e → Emptying t j p e
  emptying_kept ours c u e h = record {
    settled = settled_kept e h.settled;
    one_page = one_page_kept ours c h.one_page;
    no_old_link = h.no_old_link;
    partner_sound = sound_sizes s.root t.root k.sizes (page_of t.pages (primary_page p.other)) ∙ ap (page_sound s.root) (k.spare u) ∙ h.partner_sound;
    partner_link = ap link_of (k.spare u) ∙ h.partner_link;
  }

  dividing_kept : SameExtents s t → (e : Entered) → Dividing s j p e → Dividing t j p e
  dividing_kept x e h = record { settled = settled_kept e h.settled; chains = split_chains_kept x h.chains }

  joining_kept : SameExtents s t → (e : Entered) → Joining s j p e → Joining t j p e
  joining_kept x e h = record { settled = settled_kept e h.settled; chains = merge_chains_kept x h.chains }

  busy_kept : (e : Entered) → Busy s j p e → Busy t j p e
  busy_kept e h = record {
    entry = k.entry= ∙ h.entry;
    same_operation = h.same_operation;
    same_setting = h.same_setting;
    same_key = h.same_key;
    step_fits = h.step_fits;
    lev_fits = h.lev_fits;
    owed_fits_ok = h.owed_fits_ok;
    answer_fits = h.answer_fits;
    answer_set = h.answer_set;
    chain_fits = rw k.sizes.primaries= h.chain_fits;
    other_fits = rw k.sizes.primaries= h.other_fits;
  }

-- ---- The frame of every step number

-- Facts that stay for a party under way whose step number is n.
abbrev pub Framed : ℕ → Facts → Type 0
Framed n f = (s t : Scene) (j : ℕ) (p : Party) (e : Entered) → p.step ≡ n → Busy s j p e → Keeps s t j p → f s j p e → f t j p e

-- No facts at all stay.
framed_none : (n : ℕ) → Framed n facts_none
framed_none n s t j p e h b k x = x

-- The chain of a party that holds it alone, in the mode of its operation.
pub holds_chain_lem : (r : Root) (p : Party) (n : ℕ) → p.step ≡ n → get_or claim_table n no_lock p ≡ chain_lock p ∷ [] → is_claimed (claims r p) (chain_word p.chain) (mode_of p) ≡ true
holds_chain_lem r p n e c = rw (claims_at_lem r p n e, c) (named [] (chain_word p.chain) (mode_of p))

-- An insert or a delete locks its chain selectively.
pub changes_selectively : (p : Party) → has_step p.operation 10 ≡ true → mode_of p ≡ Selective
unfolding has_step mode_of
changes_selectively p h = go (eqb p.operation 1) refl
  where
    go : (x : Bool) → eqb p.operation 1 ≡ x → cond (eqb p.operation 1) Read Selective ≡ Selective
    go true e = absurd (false≢true (rw (eqb-true p.operation 1 e) at h))
    go false e = rw e refl

pub holds_selectively : (s : Scene) (j : ℕ) (p : Party) (e : Entered) (n : ℕ) → p.step ≡ n → Busy s j p e → ((o : ℕ) → has_step o n ≡ has_step o 10)
    → get_or claim_table n no_lock p ≡ chain_lock p ∷ [] → is_claimed (claims s.root p) (chain_word p.chain) Selective ≡ true
holds_selectively s j p e n h b alike c =
    subst (λ (m : Mode). is_claimed (claims s.root p) (chain_word p.chain) m ≡ true)
    (changes_selectively p (sym (alike p.operation) ∙ subst (λ (x : ℕ). has_step p.operation x ≡ true) h b.step_fits))
    (holds_chain_lem s.root p n h c)

uses_other : (p : Party) (n : ℕ) → p.step ≡ n → (eqb n 18 || eqb n 29) ≡ true → uses p p.other ≡ true
unfolding uses
uses_other p n e h = rw (e, h, eq-eqb p.other p.other refl) refl

-- Whether a party restructures, by its step number.
pub restructures_at_lem : (p : Party) (n : ℕ) → p.step ≡ n → restructures p ≡ (within 16 22 n || within 24 30 n)
unfolding restructures
restructures_at_lem p n e = rw e refl

same_extents : (s t : Scene) (j : ℕ) (p : Party) (n : ℕ) → p.step ≡ n → (within 16 22 n || within 24 30 n) ≡ true → Keeps s t j p → SameExtents s t
same_extents s t j p n h r k = k.grows.same_for_restructurer (restructures_at_lem p n h ∙ r)

framed_early : (n : ℕ) → Framed n facts_early
framed_early n s t j p e h b k x = early_kept s t j p k x

framed_level : Framed 3 facts_level_read
framed_level s t j p e h b k x = (early_kept s t j p k x.0, omega (arith, x.1, k.grows.level_rises h))

framed_located : (n : ℕ) → within 4 5 n ≡ true → Framed n facts_located
framed_located n l s t j p e h b k x =
    (early_kept s t j p k x.0, heads_kept s t j p k s.ghost.low t.ghost.low p.chain p.lev p.key (k.grows.low_grows (rw h l) p.chain) x.1)

framed_locked : Framed 6 facts_locked
framed_locked s t j p e h b k x = (
  early_kept s t j p k x.0,
  heads_kept s t j p k s.ghost.live t.ghost.live p.chain p.lev p.key (k.grows.live_grows p.chain (mode_of p) (holds_chain_lem s.root p 6 h refl)) x.1,
)

framed_chasing : Framed 7 facts_chasing
framed_chasing s t j p e h b k x = (
  early_kept s t j p k x.0,
  chasing-kept s t j p k (k.grows.live_grows p.other (mode_of p) (rw (claims_at_lem s.root p 7 h) (named [] (chain_word p.other) (mode_of p)))) x.1,
)

framed_coupled : Framed 8 facts_coupled
framed_coupled s t j p e h b k x = (
  early_kept s t j p k x.0,
  heads_kept s t j p k s.ghost.live t.ghost.live p.chain p.lev p.key
      (k.grows.live_grows p.chain (mode_of p) (rw (claims_at_lem s.root p 8 h) (later (other_lock p) (chain_lock p ∷ []) (chain_word p.chain) (mode_of p) (named [] (chain_word p.chain) (mode_of p))))) x.1,
  x.2,
)

framed_home : Framed 10 facts_home
framed_home s t j p e h b k x = (early_kept s t j p k x.0, home_kept s t j p k (holds_selectively s j p e 10 h b (λ o. refl) refl) x.1)

framed_walking : Framed 9 Walking
framed_walking s t j p e h b k x = walking_kept s t j p k h e x

framed_rebuilt : Framed 11 facts_rebuilt
unfolding has_step
framed_rebuilt s t j p e h b k x = rebuilt-kept s t j p k (holds_selectively s j p e 11 h b (λ o. refl) refl) x

framed_dividing : Framed 17 Dividing
framed_dividing s t j p e h b k x = dividing_kept s t j p k (same_extents s t j p 17 h refl k) e x

framed_divided : Framed 18 Divided
framed_divided s t j p e h b k x =
    divided-kept s t j p k (restructures_at_lem p 18 h) (uses_other p 18 h refl)
    (rw (claims_at_lem s.root p 18 h) (later root_selective (chain_selective p ∷ []) (chain_word p.chain) Selective (named [] (chain_word p.chain) Selective))) e x

framed_settled : (n : ℕ) → Framed n Settled
framed_settled n s t j p e h b k x = settled_kept s t j p k e x

framed_leaving : (n : ℕ) → Framed n Leaving
framed_leaving n s t j p e h b k x = leaving-kept s t j p k e x

framed_returning : (n : ℕ) → Framed n Returning
framed_returning n s t j p e h b k x = returning_kept s t j p k e x

framed_joining : (n : ℕ) → (within 16 22 n || within 24 30 n) ≡ true → Framed n Joining
framed_joining n r s t j p e h b k x = joining_kept s t j p k (same_extents s t j p n h r k) e x

-- The joined chain, where the party holds both chains exclusively beside the root.
joins : (s t : Scene) (j : ℕ) (p : Party) (e : Entered) (c : Claim) → restructures p ≡ true → claims s.root p ≡ merge_locks c p → Keeps s t j p → Joined s j p e → Joined t j p e
joins s t j p e c ours h k x =
    let both = named (other_exclusive p ∷ []) (chain_word p.chain) Exclusive in
    let second = later (chain_exclusive p) (other_exclusive p ∷ []) (chain_word p.other) Exclusive (named [] (chain_word p.other) Exclusive) in
    joined-kept s t j p k ours
    (rw h (later c (chain_exclusive p ∷ (other_exclusive p ∷ [])) (chain_word p.chain) Exclusive both))
    (rw h (later c (chain_exclusive p ∷ (other_exclusive p ∷ [])) (chain_word p.other) Exclusive second)) e x

framed_joined : Framed 27 facts_joined
framed_joined s t j p e h b k x =
    (joins s t j p e root_exclusive (restructures_at_lem p 27 h) (claims_at_lem s.root p 27 h) k x.0, merge_chains_kept s t j p k (same_extents s t j p 27 h refl k) x.1)

framed_moved_back : Framed 28 facts_moved_back
framed_moved_back s t j p e h b k x =
    (joins s t j p e root_selective (restructures_at_lem p 28 h) (claims_at_lem s.root p 28 h) k x.0, moved_back_kept s t j p k (same_extents s t j p 28 h refl k) x.1)

framed_emptying : Framed 29 facts_emptying
framed_emptying s t j p e h b k x =
    (emptying_kept s t j p k (restructures_at_lem p 29 h) (claims_at_lem s.root p 29 h) (uses_other p 29 h refl) e x.0, moved_back_kept s t j p k (same_extents s t j p 29 h refl k) x.1)

framed_merged : Framed 30 facts_merged
framed_merged s t j p e h b k x = (
  settled_kept s t j p k e x.0,
  moved_back_kept s t j p k (same_extents s t j p 30 h refl k) x.1,
  one_page_kept s t j p k (restructures_at_lem p 30 h) (claims_at_lem s.root p 30 h) x.2,
)

framed_written : Framed 12 Written
framed_written s t j p e h b k x = written_kept s t j p k e x

all_framed : Numbered Framed 0 fact_table
all_framed =
    framed_none 0 ▸ framed_early 1 ▸ framed_early 2 ▸ framed_level ▸ framed_located 4 refl ▸ framed_located 5 refl ▸ framed_locked ▸ framed_chasing ▸ framed_coupled ▸ framed_walking
    ▸ framed_home ▸ framed_rebuilt ▸ framed_written ▸ framed_returning 13 ▸ framed_returning 14 ▸ framed_settled 15 ▸ framed_settled 16 ▸ framed_dividing ▸ framed_divided
    ▸ framed_leaving 19 ▸ framed_leaving 20 ▸ framed_leaving 21 ▸ framed_leaving 22 ▸ framed_settled 23 ▸ framed_settled 24 ▸ framed_joining 25 refl ▸ framed_joining 26 refl
    ▸ framed_joined ▸ framed_moved_back ▸ framed_emptying ▸ framed_merged ▸ tt

-- THE FRAME: a party that keeps what it relies on keeps all its facts.
pub party_frame : (s t : Scene) (j : ℕ) (p : Party) → Keeps s t j p → PartyOk s j p → PartyOk t j p
party_frame s t j p k (resting a b c d) = resting a (k.entry= ∙ b) (none_kept s t j p k c) (k.scratch= ∙ d)
party_frame s t j p k (working e b f) = working e (busy_kept s t j p k e b) (numbered_at Framed facts_none framed_none fact_table all_framed p.step s t j p e refl b k f)
