-- Formatted memory has the invariant, with the empty book beside it: every run starts in a state that has it.
-- Main statements: limits_within (the test of the sizes); start_ghost (every overflow page free, no records); start_inv, with a lemma for each part of Inv.
use mathlib.Core.Path.{◌≡◌, refl, sym, ap, ◌∙◌}
use mathlib.Core.Bool.{true, false, cond, ◌&&◌}
use mathlib.Core.List.{List, []}
use mathlib.Core.Option.{none}
use Prim.Native.Nat.{ℕ, zero, suc, ◌+◌, ◌≤◌, ◌<◌}
use native.Mathlib.Omega.{arith}
use lib.ListN.{length, replicate, length-replicate}
use lib.Seq.{take-nil, drop-nil}
use lib.Dec.{leb, ltb, eqb}
use Rattle.model.specs.declared.Root.{Root}
use Rattle.model.specs.declared.Party.{Party}
use Rattle.model.specs.Sizes.{most_records, within, within_limits, lock_words}
use Rattle.model.specs.Records.{idle, root_of_sizes}
use Rattle.model.specs.Addresses.{span, chain_count}
use Rattle.model.specs.Entries.{has_key, ascending, setting_in}
use Rattle.model.specs.Pages.{page_of, zero_page, link_to_first, primary_page}
use Rattle.model.specs.Filling.{primary_of}
use Rattle.model.specs.Memory.{party_at, formatted, formatted_root, formatted_pages}
use Rattle.model.specs.Book.{empty_book}
use Rattle.model.proofs.Laws.Lists.{cond-true, cond-false, cond_ind, and_both, false≢true, leb-true, le-ltb, lt-leb}
use Rattle.model.proofs.Invariant.Ghost.{Owner, Named, nobody, free, in_chain, old_of, partner_of, built_by, new_by, same_owner, extent, size, local_level, Ghost}
use Rattle.model.proofs.Invariant.Owners.{kinds_apart, owner_self, up_from, owned-start}
use Rattle.model.proofs.Laws.Structure.{ChainIs}
use Rattle.model.specs.WaitingRow.{all_zero}
use Rattle.model.proofs.Laws.WaitingRow.{row_clear_lem}
use Rattle.model.specs.Claims.{claims}
use Rattle.model.proofs.Invariant.Claims.{is_claimed, claimed, LocksOk}
use Rattle.model.proofs.Invariant.LockMoves.{locks_same, locks_start}
use Rattle.model.proofs.Laws.Format.{length_up, first_up, length-formatted, formatted_primary, formatted_free, formatted_scratch}
use Rattle.model.proofs.Invariant.Statement.{Limits, restructures, ExtentsOk, PagesOk, BookOk, Scene, NoPages, PartyOk, resting, scene_of, Inv}

-- ---- The test of the sizes

within_both : (a e x : ℕ) → within a e x ≡ true → (a ≤ x) × (x ≤ e)
within_both a e x h = let f = and_both (leb a x) (leb x e) h in (leb-true a x f.0, leb-true x e f.1)

pub limits_within : (r : Root) → within_limits r ≡ true → Limits r
unfolding within_limits
limits_within r h =
    let originals = within 1 r.primaries r.originals in
    let chains = within 1 256 r.primaries in
    let overflow = leb r.overflow 752 in
    let parties = within 1 16 r.parties in
    let four = and_both (originals && chains && overflow && parties) (within 1 most_records r.capacity) h in
    let three = and_both (originals && chains && overflow) parties four.0 in
    let two = and_both (originals && chains) overflow three.0 in
    let one = and_both originals chains two.0 in
    let o = within_both 1 r.primaries r.originals one.0 in
    let c = within_both 1 256 r.primaries one.1 in
    let p = within_both 1 16 r.parties three.1 in
    let k = within_both 1 most_records r.capacity four.1 in
    record {
      some_original = o.0;
      originals_fit = o.1;
      chains_fit_ok = c.1;
      overflow_fits = leb-true r.overflow 752 two.1;
      some_key = k.0;
      keys_fit = k.1;
      some_party = p.0;
      parties_fit_lem = p.1;
    }

-- ---- The ghost of formatted memory

-- P chains at most, V overflow pages: all of these free, in ascending order; no records; level and next are 0.
abbrev pub start_ghost : ℕ → ℕ → Ghost
start_ghost p v = record {
  own = λ x. cond (leb p x && ltb x (p + v)) free nobody;
  held = λ o. cond (same_owner o free) (up_from p v) [];
  records = λ c. [];
  live = extent 0 0;
  low = extent 0 0;
}

module _ (p v : ℕ) where
  held_free : (start_ghost p v).held free ≡ up_from p v
  held_free = cond-true (same_owner free free) (up_from p v) [] (owner_self free)

  -- An owner of another kind has no pages.
  held_none : (o : Owner) → eqb o.kind 1 ≡ false → (start_ghost p v).held o ≡ []
  held_none o n = cond-false (same_owner o free) (up_from p v) [] (kinds_apart o free n)

-- ---- Every party is idle

pub party_idle : (n q : ℕ) → party_at (replicate n idle) q ≡ idle
party_idle zero q = refl
party_idle (suc n) zero = refl
party_idle (suc n) (suc q) = party_idle n q

-- ---- The extent at level 0, next 0

span-zero : (n : ℕ) → span n 0 ≡ n
unfolding span
span-zero n = omega arith

size_zero : (n : ℕ) → size n (extent 0 0) ≡ n
unfolding size chain_count
size_zero n = omega (arith, span-zero n)

level_zero : (n c : ℕ) → c < n → local_level n (extent 0 0) c ≡ 0
unfolding local_level
level_zero n c h = rw (le-ltb c 0 (omega arith), span-zero n, lt-leb n c h)

-- ---- Empty chains

-- A zero page is the whole of an empty chain of level 0.
chain_empty : (b : ℕ) (ps : List ℕ) (c : ℕ) → page_of ps (primary_page c) ≡ zero_page → ChainIs b ps c 0 [] []
unfolding primary_of link_to_first zero_page
chain_empty b ps c e = record { primary = e ∙ rw (take-nil b); overflow = drop-nil b }

-- ---- The parts of the invariant

module _ (n b p v q : ℕ) (fits : within_limits (root_of_sizes n b p v q) ≡ true) where
  -- The sizes given, and what format leaves: the root, the row of parties, and the ghost beside them.
  abbrev sizes : Root
  sizes = root_of_sizes n b p v q

  abbrev root : Root
  root = formatted_root sizes

  abbrev row : List Party
  row = replicate q idle

  abbrev ghost : Ghost
  ghost = start_ghost p v

  start_limits : Limits root
  unfolding formatted_root
  start_limits = let l = limits_within sizes fits in omega arith

  start_extents : ExtentsOk root row ghost
  unfolding formatted_root restructures
  start_extents = record {
    live-by = λ x e. absurd (false≢true (rw (party_idle q x) at e));
    low_by = λ x e. absurd (false≢true (rw (party_idle q x) at e));
    at_rest_lem = λ f. (refl, refl);
    live_next = omega (arith, span-zero n, start_limits.some_original);
    live_fits = omega (arith, size_zero n, start_limits.originals_fit);
    root_next = omega (arith, span-zero n, start_limits.some_original);
    root_fits = omega (arith, size_zero n, start_limits.originals_fit);
  }

  start_locks : LocksOk (lock_words root) (replicate (lock_words sizes) 0) (claimed root row)
  unfolding formatted_root claims is_claimed
  start_locks = locks_same (λ i x m. rw (party_idle q x)) (locks_start (p + 1))

  start_chain : (c : ℕ) → c < n → ChainIs b (formatted_pages sizes) c (local_level n (extent 0 0) c) [] (ghost.held (in_chain c))
  unfolding formatted_root
  start_chain c h =
      rw (level_zero n c h, held_none p v (in_chain c) refl)
      (chain_empty b (formatted_pages sizes) c (formatted_primary sizes c (omega (arith, start_limits.originals_fit))))

  start_pages : PagesOk root row (formatted_pages sizes) ghost
  unfolding formatted_root ascending has_key
  start_pages = record {
    owned = owned-start p v;
    kinds = λ x. cond_ind Named (leb p x && ltb x (p + v)) free nobody (λ e. omega arith) (λ e. omega arith);
    beyond = λ c h. held_none p v (in_chain c) refl;
    head_is = first_up p v ∙ ap link_to_first (sym (held_free p v));
    free_count = sym (ap length (held_free p v) ∙ length_up p v);
    free_pages_ok = rw (held_free p v) (formatted_free sizes);
    chain = λ c h. start_chain c (rw (size_zero n) at h);
    ascends = λ c h. refl;
    homed = λ c h k e. absurd (false≢true e);
    dead = λ c h k u. formatted_primary sizes c k;
  }

  start_book : BookOk root ghost empty_book
  unfolding ascending setting_in empty_book
  start_book = record { ascends = refl; same = λ k. refl }

  abbrev scene : Scene
  scene = scene_of (formatted sizes) ghost empty_book

  start_no_pages : (x : ℕ) → NoPages scene x
  start_no_pages x = record {
    nothing_built = record { no_built = held_none p v (built_by x) refl; no_new = held_none p v (new_by x) refl };
    nothing_old = record { no_old = held_none p v (old_of x) refl; no_partner = held_none p v (partner_of x) refl };
  }

  start_parties : (x : ℕ) → x < q → PartyOk scene x (party_at row x)
  unfolding formatted formatted_root empty_book
  start_parties x h = resting (party_idle q x) refl (start_no_pages x) (formatted_scratch sizes x h)

  start_strangers : (x : ℕ) → q ≤ x → (empty_book.entries x ≡ none) × NoPages scene x
  unfolding empty_book
  start_strangers x h = (refl, start_no_pages x)

  zeros_clear : (n : ℕ) → all_zero (replicate n 0) ≡ true
  unfolding all_zero
  zeros_clear zero = refl
  zeros_clear (suc n) = zeros_clear n

  pub start_inv : Inv (formatted (root_of_sizes n b p v q)) empty_book
  unfolding formatted formatted_root
  start_inv = record {
    ghost = ghost;
    limits = start_limits;
    parties_many = length-replicate q idle;
    pages_many = length-formatted sizes;
    extents_ok = start_extents;
    locks_ok = start_locks;
    pages_ok = start_pages;
    book_ok = start_book;
    parties_ok = start_parties;
    row_ok = row_clear_lem root row (replicate q 0) (length-replicate q 0) (zeros_clear q);
    strangers = start_strangers;
  }
