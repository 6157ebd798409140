-- Withdraw keeps the invariant: of a party whose decisive step is not taken the pages built go back, the locks are
-- given up, the record and the scratch page are zeroed, and the entry goes from the book; no test of damage fails.
-- Main statements: left_by, taken_back_is (what a withdraw leaves, part by part); undecided_early (the step numbers of
-- such a party); Undecided, undecided (what it has in hand); WithdrawKept, withdraw_kept.
use mathlib.Core.Path.{◌≡◌, refl, sym, ap, ◌∙◌, subst}
use mathlib.Core.Logic.{◌≢◌, ◌⊎◌, inl, inr}
use mathlib.Core.Bool.{true, false, ◌&&◌, ◌||◌}
use mathlib.Core.List.{List, [], reverse}
use mathlib.Core.Option.{none}
use Prim.Native.Nat.{ℕ, ◌+◌, ◌≤◌, ◌<◌}
use native.Mathlib.Omega.{arith}
use lib.ListN.{length, take, drop, set, length-reverse}
use lib.Seq.{get_or-take}
use lib.Dec.{eqb, leb}
use Rattle.std.specs.Prelude.{Ok}
use Rattle.model.specs.declared.Party.{Party}
use Rattle.model.specs.declared.Root.{Root}
use Rattle.model.specs.Sizes.{lock_words, within}
use Rattle.model.specs.Records.{idle, with_free_list}
use Rattle.model.specs.LockWords.{Claim}
use Rattle.model.specs.Pages.{page_of, with_page, scratch_page, link_of, link_to_first, page_sound, zero_page}
use Rattle.model.specs.Chains.{sound, list_from}
use Rattle.model.specs.Outcome.{View, with_party, with_locks}
use Rattle.model.specs.FreeList.{room_to_give_back, given_back, pages_given_back}
use Rattle.model.specs.LockRequests.{held_all, given_up}
use Rattle.model.specs.ScratchPages.{with_scratch}
use Rattle.model.specs.Claims.{Claims, claim_table, no_lock, claims}
use Rattle.model.specs.Withdraw.{is_decided, built_pages, taken_back, taken_back_soundly, Withdrawal, withdrawal, withdrawn}
use Rattle.model.specs.Memory.{Memory, view_of, after_step, with_waiting}
use Rattle.model.specs.Book.{Book, changed_at, with_entry}
use Rattle.model.specs.Steps.Dispatch.{has_step}
use Rattle.model.proofs.Laws.Lists.{All, Numbered, numbered_below, ◌▸◌, and_both, both-and, left_or, right_or, or_either, or_neither, and_fails, not-both, eqb_same, eqb-diff, leb-true, leb-false, count-reverse, count_nil}
use Rattle.model.proofs.Laws.Pages.{Has, length-with_page, page_same, page_other, length-zero_page}
use Rattle.model.proofs.Laws.Filling.{IsOverflow, chain_link, overflow_linked}
use Rattle.model.proofs.Laws.Reading.{held_overflow, held_length, linked_list}
use Rattle.model.proofs.Invariant.Ghost.{nobody, old_of, built_by, new_by, count, Ghost}
use Rattle.model.proofs.Invariant.Owners.{owns_nothing, kinds_apart}
use Rattle.model.proofs.Invariant.Claims.{claimed}
use Rattle.model.proofs.Invariant.LockMoves.{locks_root}
use Rattle.model.proofs.Invariant.Statement.{restructures, NothingOld, Early, resting, Inv}
use Rattle.model.proofs.Invariant.Ahead.{AheadStays}
use Rattle.model.proofs.Invariant.Turn.{Turn, before, claims_at, its_claims, me, uses_none, uses_at, restructures_at}
use Rattle.model.proofs.Effects.Kept.{assemble, ahead_stays, asks_stay, Parts}
use Rattle.model.proofs.Laws.WaitingRow.{RowOk, AskSame}
use Rattle.model.proofs.Effects.Moves.{extents_rest}
use Rattle.model.proofs.Effects.Touch.{own_scratch}
use Rattle.model.proofs.Effects.Done.{claims_claimed}
use Rattle.model.proofs.Effects.PrimaryPage.{built_sound}
use Rattle.model.proofs.Effects.GiveUps.{Apart, given_up_rest, given_up_alike, held_all_lem, release_all}
use Rattle.model.proofs.Effects.GivingBack.{built_kinds, given_ghost, given_root, given_pages, given_sizes, given_long, given_room, no_pages_withdrawn, giving_parts}

-- ---- What a withdraw leaves

-- The pages xs built, in chain order.
abbrev pub left_by : View → List ℕ → View
left_by v xs =
    let g = given_back v.pages v.root.head (reverse xs) in
    record {
      root = with_free_list g.head (v.root.free + length (reverse xs)) v.root;
      party = idle;
      number = v.number;
      locks = (given_up (claims v.root v.party) v).locks;
      pages = with_page g.pages (scratch_page v.root v.number) zero_page;
      behind = v.behind;
    }

-- The locks given up once other words have changed, the record and the scratch page zeroed: the lock words are as if
-- nothing had.
cleared_is : (cs : List Claim) (v w : View) → w.locks ≡ v.locks → w.number ≡ v.number
    → with_party idle (with_scratch zero_page (given_up cs w)) ≡ with_party idle (with_scratch zero_page (with_locks (given_up cs v).locks w))
cleared_is cs v w e n = rw (given_up_rest cs w, given_up_alike cs v w e n) refl

pub taken_back_is : (v : View) (xs : List ℕ) → taken_back v xs ≡ left_by v xs
unfolding taken_back pages_given_back
taken_back_is v xs = cleared_is (claims v.root v.party) v (pages_given_back (reverse xs) v) refl refl

-- ---- Before the decisive step

-- A step of the operation that is not behind the decisive one: 1 to 8, 10 or 11.
pub undecided_early : (p : Party) → has_step p.operation p.step ≡ true → is_decided p ≡ false → (p.step < 12) × (p.step ≢ 9)
unfolding has_step is_decided
undecided_early p has h = go (or_either (eqb o 1 && within 1 9 k || eqb o 2 && (within 1 8 k || within 10 22 k)) (eqb o 3 && (within 1 8 k || within 10 14 k || within 23 30 k)) has)
  where
    o : ℕ
    o = p.operation

    k : ℕ
    k = p.step

    neither : ((eqb o 1 && eqb k 9) ≡ false) × (((eqb o 2 || eqb o 3) && leb 12 k) ≡ false)
    neither = or_neither (eqb o 1 && eqb k 9) ((eqb o 2 || eqb o 3) && leb 12 k) h

    inside : (a e : ℕ) → within a e k ≡ true → (a ≤ k) × (k ≤ e)
    inside a e w = let x = and_both (leb a k) (leb k e) w in (leb-true a k x.0, leb-true k e x.1)

    -- No 9 of an insert or a delete.
    changes : (e : ℕ) → (within 1 8 k || within 10 e k) ≡ true → k ≢ 9
    changes e w i = pick (or_either (within 1 8 k) (within 10 e k) w)
      where
        pick : (within 1 8 k ≡ true) ⊎ (within 10 e k ≡ true) → ⊥
        pick (inl x) = omega (arith, (inside 1 8 x).1, i)
        pick (inr x) = omega (arith, (inside 10 e x).0, i)

    -- An insert or a delete is before 12.
    before_twelve : (eqb o 2 || eqb o 3) ≡ true → k < 12
    before_twelve x = pick (and_fails (eqb o 2 || eqb o 3) (leb 12 k) neither.1)
      where
        pick : ((eqb o 2 || eqb o 3) ≡ false) ⊎ (leb 12 k ≡ false) → k < 12
        pick (inl y) = absurd (not-both (eqb o 2 || eqb o 3) x y)
        pick (inr y) = leb-false 12 k y

    find : (eqb o 1 && within 1 9 k) ≡ true → (k < 12) × (k ≢ 9)
    find x =
        let y = and_both (eqb o 1) (within 1 9 k) x in
        (omega (arith, (inside 1 9 y.1).1), λ i. not-both (eqb o 1 && eqb k 9) (both-and y.0 (eqb_same k 9 i)) neither.0)

    insert : (eqb o 2 && (within 1 8 k || within 10 22 k)) ≡ true → (k < 12) × (k ≢ 9)
    insert x =
        let y = and_both (eqb o 2) (within 1 8 k || within 10 22 k) x in
        (before_twelve (left_or (eqb o 3) y.0), changes 22 y.1)

    delete : (eqb o 3 && (within 1 8 k || within 10 14 k || within 23 30 k)) ≡ true → (k < 12) × (k ≢ 9)
    delete x =
        let y = and_both (eqb o 3) (within 1 8 k || within 10 14 k || within 23 30 k) x in
        (before_twelve (right_or (eqb o 2) y.0), pick (or_either (within 1 8 k || within 10 14 k) (within 23 30 k) y.1))
      where
        pick : ((within 1 8 k || within 10 14 k) ≡ true) ⊎ (within 23 30 k ≡ true) → k ≢ 9
        pick (inl z) = changes 14 z
        pick (inr z) = λ i. omega (arith, (inside 23 30 z).0, i)

    first : ((eqb o 1 && within 1 9 k) ≡ true) ⊎ ((eqb o 2 && (within 1 8 k || within 10 22 k)) ≡ true) → (k < 12) × (k ≢ 9)
    first (inl x) = find x
    first (inr x) = insert x

    go : ((eqb o 1 && within 1 9 k || eqb o 2 && (within 1 8 k || within 10 22 k)) ≡ true) ⊎ ((eqb o 3 && (within 1 8 k || within 10 14 k || within 23 30 k)) ≡ true) → (k < 12) × (k ≢ 9)
    go (inl x) = first (or_either (eqb o 1 && within 1 9 k) (eqb o 2 && (within 1 8 k || within 10 22 k)) x)
    go (inr x) = delete x

-- What a party has in hand there, where it holds the locks cs.
pub record Undecided {m : Memory} {b : Book} {q k : ℕ} (t : Turn m b q k) (cs : List Claim) : Type 0 where
  pub built : built_pages (view_of m q) ≡ sound (t.inv.ghost.held (built_by q))
  pub no_new : t.inv.ghost.held (new_by q) ≡ []
  pub nothing_old : NothingOld (before t) q
  pub apart : Apart cs
  pub fit : All (λ c. c.word < lock_words m.root) cs
  pub rests : restructures_at k ≡ false
  pub unused : uses_at k ≡ false

module _ (m : Memory) (b : Book) (q : ℕ) where
  -- At 1 to 8 and 10 it has no pages.
  early : {k : ℕ} {cs : List Claim} (t : Turn m b q k) → eqb k 11 ≡ false → Early (before t) q (me t) → Apart cs → All (λ c. c.word < lock_words m.root) cs
      → restructures_at k ≡ false → uses_at k ≡ false → Undecided t cs
  unfolding built_pages
  early t n x apart fit rests unused = record {
    built = rw (t.is_at, n, x.no_pages.nothing_built.no_built) refl;
    no_new = x.no_pages.nothing_built.no_new;
    nothing_old = x.no_pages.nothing_old;
    apart = apart;
    fit = fit;
    rests = rests;
    unused = unused;
  }

  -- At 11 those that scratch leads to.
  rebuilt : (t : Turn m b q 11) → Undecided t (claims_at 11 (me t))
  unfolding built_pages
  rebuilt t = record {
    built = rw (t.is_at, scratch_sound, scratch_link_ok) listed;
    no_new = t.facts.no_new;
    nothing_old = t.facts.nothing_old;
    apart = (tt, tt);
    fit = (omega (arith, t.busy.chain_fits), tt);
    rests = refl;
    unused = refl;
  }
    where
      builts : List ℕ
      builts = t.inv.ghost.held (built_by q)

      overflow : All (IsOverflow m.root) builts
      overflow = held_overflow m.root t.inv.pages_ok.owned (built_by q)

      scratch_sound : page_sound m.root (page_of m.pages (scratch_page m.root q)) ≡ true
      scratch_sound = built_sound m b t.inv q _ t.facts.after t.facts.building (omega (arith, t.facts.at_home.exact, t.busy.lev_fits))

      scratch_link_ok : link_of (page_of m.pages (scratch_page m.root q)) ≡ link_to_first builts
      scratch_link_ok = chain_link m.root.capacity m.pages (scratch_page m.root q) _ t.facts.after builts (record { primary = t.facts.building.scratch_is; overflow = t.facts.building.built })

      listed : list_from m.root m.pages (link_to_first builts) ≡ sound builts
      listed =
          linked_list m.root m.pages builts (overflow_linked m.root m.pages builts (drop m.root.capacity t.facts.after) overflow t.facts.building.built)
          (held_length m.root t.inv.pages_ok.owned (built_by q))

  -- The locks of a party there, by its number.
  abbrev Handed : ℕ → Claims → Type 0
  Handed n h = (t : Turn m b q n) → n ≢ 9 → Undecided t (h (me t))

  all_handed : Numbered Handed 0 (take 12 claim_table)
  all_handed =
      (λ (t : Turn m b q 0) n. absurd t.facts)
      ▸ (λ (t : Turn m b q 1) n. early t refl t.facts tt tt refl refl)
      ▸ (λ (t : Turn m b q 2) n. early t refl t.facts (tt, tt) (omega arith, tt) refl refl)
      ▸ (λ (t : Turn m b q 3) n. early t refl t.facts.0 (tt, tt) (omega arith, tt) refl refl)
      ▸ (λ (t : Turn m b q 4) n. early t refl t.facts.0 (tt, tt) (omega arith, tt) refl refl)
      ▸ (λ (t : Turn m b q 5) n. early t refl t.facts.0 ((omega arith, tt), (tt, tt)) (omega arith, (omega (arith, t.busy.chain_fits), tt)) refl refl)
      ▸ (λ (t : Turn m b q 6) n. early t refl t.facts.0 (tt, tt) (omega (arith, t.busy.chain_fits), tt) refl refl)
      ▸ (λ (t : Turn m b q 7) n. early t refl t.facts.0 (tt, tt) (omega (arith, t.busy.other_fits), tt) refl refl)
      ▸ (λ (t : Turn m b q 8) n. early t refl t.facts.0 (((λ e. t.facts.2 (omega (arith, e))), tt), (tt, tt)) (omega (arith, t.busy.other_fits), (omega (arith, t.busy.chain_fits), tt)) refl refl)
      ▸ (λ (t : Turn m b q 9) n. absurd (n refl))
      ▸ (λ (t : Turn m b q 10) n. early t refl t.facts.0 (tt, tt) (omega (arith, t.busy.chain_fits), tt) refl refl)
      ▸ (λ (t : Turn m b q 11) n. rebuilt t)
      ▸ tt

  pub undecided : {k : ℕ} (t : Turn m b q k) → is_decided (me t) ≡ false → Undecided t (claims_at k (me t))
  undecided {k} t h =
      let early = undecided_early (me t) t.busy.step_fits h in
      let l : k < 12 = omega (arith, early.0, t.is_at) in
      subst (λ (f : Claims). Undecided t (f (me t))) (get_or-take 12 claim_table k no_lock l)
      (numbered_below Handed no_lock (take 12 claim_table) all_handed k l t (λ e. early.1 (t.is_at ∙ e)))

-- ---- The withdraw

-- What is owed of a withdraw of party q: it is accepted, and the invariant holds after it.
pub record WithdrawKept (m : Memory) (b : Book) (q : ℕ) : Type 0 where
  pub accepted : (withdrawn (view_of m q)).answer ≡ Ok tt
  -- The invariant, with any waiting row that is sound then.
  pub inv : (row : List ℕ) → RowOk (withdrawn (view_of m q)).after.root (set m.parties (withdrawn (view_of m q)).after.number (withdrawn (view_of m q)).after.party) row
      → Inv (with_waiting row (after_step m (withdrawn (view_of m q)).after)) (with_entry b q none)
  -- Another party at 9 has as many pages yet to copy.
  pub framed : AheadStays m q (withdrawn (view_of m q)).after.root (withdrawn (view_of m q)).after.pages
  -- Every other party requests what it requested.
  pub asks : AskSame m.root (withdrawn (view_of m q)).after.root m.parties (set m.parties (withdrawn (view_of m q)).after.number (withdrawn (view_of m q)).after.party) q

module _ {m : Memory} {b : Book} {q k : ℕ} (t : Turn m b q k) (x : Undecided t (claims_at k (me t))) where
  abbrev builts : List ℕ
  builts = t.inv.ghost.held (built_by q)

  abbrev its_locks : List Claim
  its_locks = claims m.root (me t)

  all_mine : (y : ℕ) → count y (reverse builts) ≡ count y builts + count y (t.inv.ghost.held (new_by q))
  all_mine y = omega (arith, count-reverse y builts, ap (count y) x.no_new, count_nil y)

  abbrev given : List ℕ
  given = given_pages t built_kinds (reverse builts) all_mine

  abbrev root_then : Root
  root_then = given_root t built_kinds (reverse builts) all_mine

  abbrev ghost_then : Ghost
  ghost_then = given_ghost t built_kinds (reverse builts) all_mine

  abbrev locks_then : List ℕ
  locks_then = (given_up its_locks (view_of m q)).locks

  abbrev pages_then : List ℕ
  pages_then = with_page given (scratch_page m.root q) zero_page

  -- ---- No test fails

  apart : Apart its_locks
  apart = subst Apart (sym (its_claims t)) x.apart

  fit : All (λ c. c.word < lock_words m.root) its_locks
  fit = subst (All (λ (c : Claim). c.word < lock_words m.root)) (sym (its_claims t)) x.fit

  claimed_all : All (λ c. claimed m.root m.parties c.word q c.mode ≡ true) its_locks
  claimed_all = claims_claimed its_locks

  held : held_all (view_of m q) its_locks ≡ true
  held = held_all_lem (view_of m q) t.inv.locks_ok its_locks fit claimed_all

  room : room_to_give_back m.root (length builts) ≡ true
  unfolding room_to_give_back
  room = ap (λ (n : ℕ). leb (m.root.free + n) m.root.overflow) (sym (length-reverse builts)) ∙ given_room t built_kinds (reverse builts) all_mine

  -- ---- What is left

  goes_ahead : withdrawn (view_of m q) ≡ withdrawal (Ok tt) (left_by (view_of m q) builts)
  unfolding withdrawn taken_back_soundly
  goes_ahead = rw (x.built, held, room, taken_back_is (view_of m q) builts) refl

  no_old : (y : ℕ) → t.inv.ghost.own y ≡ old_of q → ⊥
  no_old y e = owns_nothing t.inv.pages_ok.owned (old_of q) y (kinds_apart (old_of q) nobody refl) x.nothing_old.no_old e

  has_scratch : Has given (scratch_page m.root q)
  has_scratch = record { fits = omega (arith, given_long t built_kinds (reverse builts) all_mine, t.inv.pages_many) }

  parts_then : Parts m b t.inv q root_then locks_then pages_then idle (with_entry b q none) ghost_then
  unfolding restructures changed_at claims
  parts_then =
      giving_parts t built_kinds (reverse builts) all_mine pages_then idle (with_entry b q none) (scratch_page m.root q)
      (record {
        long = length-with_page given (scratch_page m.root q) zero_page has_scratch length-zero_page;
        off = λ y n. page_other given (scratch_page m.root q) zero_page has_scratch length-zero_page y n;
        no_overflow = λ h. omega arith;
        may_touch = own_scratch refl;
        zeroed = λ h. absurd (omega arith);
        only_used = λ d n. uses_none t x.unused d;
        old_listed = λ y e. absurd (no_old y e);
        unread = λ y e. absurd (no_old y e);
        entries= = λ j n. rw (eqb-diff j q n) refl;
        contents= = refl;
      })
      locks_then (extents_rest t (record { sizes = given_sizes t built_kinds (reverse builts) all_mine; live= = refl; low= = refl }) idle x.rests refl)
      (locks_root m.root root_then (set m.parties q idle) (release_all t idle refl its_locks refl apart fit claimed_all))
      (resting refl (rw (eqb_same q q refl) refl) (no_pages_withdrawn t (reverse builts) all_mine x.nothing_old _ refl)
      (page_same given (scratch_page m.root q) zero_page has_scratch length-zero_page))

  kept : WithdrawKept m b q
  kept = record {
    accepted = ap (λ (o : Withdrawal). o.answer) goes_ahead;
    inv = rw goes_ahead (assemble m b t.inv q t.in_row root_then locks_then pages_then idle (with_entry b q none) ghost_then parts_then);
    framed = rw goes_ahead (ahead_stays m b t.inv q t.in_row root_then locks_then pages_then idle (with_entry b q none) ghost_then parts_then);
    asks = rw goes_ahead (asks_stay m b t.inv q t.in_row root_then locks_then pages_then idle (with_entry b q none) ghost_then parts_then);
  }

pub withdraw_kept : {m : Memory} {b : Book} {q k : ℕ} (t : Turn m b q k) → is_decided (me t) ≡ false → WithdrawKept m b q
withdraw_kept {m} {b} {q} t h = kept t (undecided m b q t h)
