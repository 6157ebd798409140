-- The clock of the link rule beside a memory: when links were read and pages given back, and what a call does to both.
-- Main statements: ClockOk (every link that a party has yet to follow was read after its page was last given back);
-- fresh_now, fresh_walked (links followed); Spared, clock_moves, clock_ticks (the clock after a call).
use mathlib.Core.Path.{◌≡◌, refl, sym, ap, ◌∙◌, subst}
use mathlib.Core.Logic.{◌≢◌}
use mathlib.Core.Bool.{true, false}
use mathlib.Core.List.{List, [], ◌∷◌}
use Prim.Native.Nat.{ℕ, ◌+◌, ◌≤◌, ◌<◌}
use native.Mathlib.Omega.{arith}
use Rattle.model.specs.declared.Party.{Party}
use Rattle.model.specs.Pages.{link_of, link_to_first, linked_page}
use Rattle.model.specs.FreeList.{is_among}
use Rattle.model.specs.ScratchPages.{scratch_of}
use Rattle.model.specs.Memory.{Memory, party_at, view_of}
use Rattle.model.specs.Book.{changed_at}
use Rattle.theory.specs.Links.{Trace, no_trace, read_now, walked_from, Clock, ticked, all_fresh}
use Rattle.model.proofs.Laws.Lists.{Cmp, same, diff, cmp, cond_ind, both-and, lt-ltb, eqb_same, eqb-diff}
use Rattle.model.proofs.Exits.OpenLinks.{scratch_open, old_open}

-- ---- The clock beside a memory

-- No page was given back later than now, and every link that a party has yet to follow was read after its page was last
-- given back: the link in the scratch page of a find that walks, or of a party at 11, and an old link.
pub record ClockOk (k : Clock) (m : Memory) : Type 0 where
  pub past : (x : ℕ) → k.given_at x ≤ k.calls
  pub scratch_fresh : (q : ℕ) → q < m.root.parties → scratch_open (party_at m.parties q).step ≡ true → link_of (scratch_of (view_of m q)) ≢ 0
      → k.given_at (linked_page (link_of (scratch_of (view_of m q)))) < k.scratch_read q
  pub old_fresh : (q : ℕ) → q < m.root.parties → old_open (party_at m.parties q) ≡ true → (party_at m.parties q).old ≢ 0
      → k.given_at (linked_page (party_at m.parties q).old) < k.old_read q

-- ---- Links followed

module _ (k : Clock) where
  pub fresh_now : (t : ℕ) (xs : List ℕ) → ((x : ℕ) → k.given_at x < t) → all_fresh k (read_now t xs) ≡ true
  unfolding all_fresh
  fresh_now t [] h = refl
  fresh_now t (x ∷ xs) h = both-and (lt-ltb (k.given_at x) t (h x)) (fresh_now t xs h)

  -- A list walked by a link read earlier.
  pub fresh_walked : (s t l : ℕ) (xs : List ℕ) → l ≡ link_to_first xs → (l ≢ 0 → k.given_at (linked_page l) < s) → ((x : ℕ) → k.given_at x < t) → all_fresh k (walked_from s t xs) ≡ true
  unfolding all_fresh walked_from link_to_first
  fresh_walked s t l [] e f h = refl
  fresh_walked s t l (x ∷ xs) e f h =
      let there : linked_page l ≡ x = omega arith in
      both-and (lt-ltb (k.given_at x) s (subst (λ (y : ℕ). k.given_at y < s) there (f (omega arith)))) (fresh_now t xs h)

-- ---- The clock after a call

module _ (k : Clock) (q : ℕ) (t : Trace) where
  given_same : (x : ℕ) → is_among x t.gives ≡ false → (ticked k q t).given_at x ≡ k.given_at x
  unfolding ticked
  given_same x h = rw h refl

  pub given-none : (x : ℕ) → t.gives ≡ [] → (ticked k q t).given_at x ≡ k.given_at x
  unfolding is_among
  given-none x h = given_same x (ap (is_among x) h)

  given_past : ((x : ℕ) → k.given_at x ≤ k.calls) → (x : ℕ) → (ticked k q t).given_at x ≤ (ticked k q t).calls
  unfolding ticked
  given_past h x = cond_ind (λ (n : ℕ). n ≤ k.calls + 1) (is_among x t.gives) (k.calls + 1) (k.given_at x) (λ _. omega arith) (λ _. omega (arith, h x))

  scratch_other : (j : ℕ) → j ≢ q → (ticked k q t).scratch_read j ≡ k.scratch_read j
  unfolding ticked changed_at
  scratch_other j n = cond_ind (λ (f : ℕ → ℕ). f j ≡ k.scratch_read j) t.into_scratch _ _ (λ _. rw (eqb-diff j q n) refl) (λ _. refl)

  pub scratch_now : t.into_scratch ≡ true → (ticked k q t).scratch_read q ≡ k.calls + 1
  unfolding ticked changed_at
  scratch_now h = rw (h, eqb_same q q refl) refl

  old_other : (j : ℕ) → j ≢ q → (ticked k q t).old_read j ≡ k.old_read j
  unfolding ticked changed_at
  old_other j n = cond_ind (λ (f : ℕ → ℕ). f j ≡ k.old_read j) t.into_old _ _ (λ _. rw (eqb-diff j q n) refl) (λ _. refl)

  -- A link is not read earlier than it was.
  pub old_later : (n : ℕ) → n < k.old_read q → n ≤ k.calls → n < (ticked k q t).old_read q
  unfolding ticked changed_at
  old_later n h l = cond_ind (λ (f : ℕ → ℕ). n < f q) t.into_old _ _ (λ _. rw (eqb_same q q refl) (omega arith)) (λ _. h)

  pub old_now : t.into_old ≡ true → (ticked k q t).old_read q ≡ k.calls + 1
  unfolding ticked changed_at
  old_now h = rw (h, eqb_same q q refl) refl

-- A call of party q from memory m to memory u: the other parties keep their records and scratch pages, and none of the
-- pages they have yet to follow is given back.
pub record Spared (m u : Memory) (q : ℕ) (gives : List ℕ) : Type 0 where
  pub parties= : u.root.parties ≡ m.root.parties
  pub record= : (j : ℕ) → j ≢ q → party_at u.parties j ≡ party_at m.parties j
  pub scratch= : (j : ℕ) → j ≢ q → scratch_of (view_of u j) ≡ scratch_of (view_of m j)
  pub scratch_spared : (j : ℕ) → j < m.root.parties → j ≢ q → scratch_open (party_at m.parties j).step ≡ true → link_of (scratch_of (view_of m j)) ≢ 0
      → is_among (linked_page (link_of (scratch_of (view_of m j)))) gives ≡ false
  pub old_spared : (j : ℕ) → j < m.root.parties → j ≢ q → old_open (party_at m.parties j) ≡ true → (party_at m.parties j).old ≢ 0
      → is_among (linked_page (party_at m.parties j).old) gives ≡ false

-- Only the caller's own links are left to show.
pub clock_moves : (k : Clock) (m u : Memory) → ClockOk k m → (q : ℕ) (t : Trace) → Spared m u q t.gives
    → (q < m.root.parties → scratch_open (party_at u.parties q).step ≡ true → (ticked k q t).given_at (linked_page (link_of (scratch_of (view_of u q)))) < (ticked k q t).scratch_read q)
    → (q < m.root.parties → old_open (party_at u.parties q) ≡ true → (party_at u.parties q).old ≢ 0
    → (ticked k q t).given_at (linked_page (party_at u.parties q).old) < (ticked k q t).old_read q)
    → ClockOk (ticked k q t) u
clock_moves k m u ok q t s own_scratch own_old = record {
  past = given_past k q t ok.past;
  scratch_fresh = λ j l e n. scratch j (rw s.parties= at l) e n (cmp j q);
  old_fresh = λ j l h n. old j (rw s.parties= at l) h n (cmp j q);
}
  where
    after : Clock
    after = ticked k q t

    scratch : (j : ℕ) → j < m.root.parties → scratch_open (party_at u.parties j).step ≡ true → link_of (scratch_of (view_of u j)) ≢ 0 → Cmp j q
        → after.given_at (linked_page (link_of (scratch_of (view_of u j)))) < after.scratch_read j
    scratch j l e n (same d) =
        subst (λ (i : ℕ). after.given_at (linked_page (link_of (scratch_of (view_of u i)))) < after.scratch_read i) (sym d)
        (own_scratch (omega arith) (subst (λ (i : ℕ). scratch_open (party_at u.parties i).step ≡ true) d e))
    scratch j l e n (diff d) =
        let w = s.scratch= j d in
        let was_open : scratch_open (party_at m.parties j).step ≡ true = sym (ap (λ (p : Party). scratch_open p.step) (s.record= j d)) ∙ e in
        let some_link : link_of (scratch_of (view_of m j)) ≢ 0 = λ z. n (ap link_of w ∙ z) in
        subst (λ (x : List ℕ). after.given_at (linked_page (link_of x)) < after.scratch_read j) (sym w)
        (rw (given_same k q t (linked_page (link_of (scratch_of (view_of m j)))) (s.scratch_spared j l d was_open some_link), scratch_other k q t j d) (ok.scratch_fresh j l was_open some_link))

    old : (j : ℕ) → j < m.root.parties → old_open (party_at u.parties j) ≡ true → (party_at u.parties j).old ≢ 0 → Cmp j q
        → after.given_at (linked_page (party_at u.parties j).old) < after.old_read j
    old j l h n (same d) =
        subst (λ (i : ℕ). after.given_at (linked_page (party_at u.parties i).old) < after.old_read i) (sym d)
        (own_old (omega arith) (subst (λ (i : ℕ). old_open (party_at u.parties i) ≡ true) d h) (λ z. n (subst (λ (i : ℕ). (party_at u.parties i).old ≡ 0) (sym d) z)))
    old j l h n (diff d) =
        let p = s.record= j d in
        let was_open : old_open (party_at m.parties j) ≡ true = sym (ap old_open p) ∙ h in
        let some_link : (party_at m.parties j).old ≢ 0 = λ z. n (ap (λ (x : Party). x.old) p ∙ z) in
        subst (λ (x : Party). after.given_at (linked_page x.old) < after.old_read j) (sym p)
        (rw (given_same k q t (linked_page (party_at m.parties j).old) (s.old_spared j l d was_open some_link), old_other k q t j d) (ok.old_fresh j l was_open some_link))

-- A call that performs no step, and changes nothing.
pub clock_ticks : (k : Clock) (m : Memory) → ClockOk k m → (q : ℕ) → ClockOk (ticked k q no_trace) m
unfolding ticked is_among
clock_ticks k m ok q = record { past = λ x. omega (arith, ok.past x); scratch_fresh = ok.scratch_fresh; old_fresh = ok.old_fresh }
