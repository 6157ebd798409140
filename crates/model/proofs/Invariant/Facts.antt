-- The facts of a party whose step number is known, and facts that go by the ghost alone.
-- Main statements: At and facts_at (a party under way with its facts), used_outside (a primary page in use outside the live file), no_pages_held, still_noted (a step whose number the
-- book does not note), book_has (a key is in the book where its live home chain has it), changed_here, changed_elsewhere.
use mathlib.Core.Path.{◌≡◌, refl, sym, ap, ◌∙◌, subst}
use mathlib.Core.Logic.{◌≢◌, ◌⊎◌, inl, inr}
use mathlib.Core.Bool.{true, false, ◌||◌, false≢true}
use mathlib.Core.Option.{Option, none, some}
use Prim.Native.Nat.{ℕ, suc, ◌≤◌}
use native.Mathlib.Omega.{arith}
use lib.ListN.{get_or-eq_default}
use lib.Dec.{eqb}
use Rattle.model.specs.declared.Party.{Party}
use Rattle.model.specs.Sizes.{within}
use Rattle.model.specs.Records.{idle}
use Rattle.model.specs.Memory.{Memory, party_at}
use Rattle.model.specs.declared.Root.{Root}
use Rattle.model.specs.Entries.{has_key}
use Rattle.model.specs.Book.{Book, Entered, changed_at, note_for, note_step}
use Rattle.model.specs.Addresses.{count_of_chains, address_of}
use Rattle.model.proofs.Laws.Entries.{has_same}
use Rattle.model.proofs.Laws.Lists.{eqb-true, eqb_same, eqb-diff, Ord, lt, ge, ord, and_both, or_either}
use Rattle.model.proofs.Invariant.Ghost.{Ghost, root_extent, size}
use Rattle.model.proofs.Invariant.Statement.{restructures, live_for, uses, BookOk, Scene, NoPages, facts_at, Busy, PartyOk, resting, working, scene_of, Inv}

-- A party under way at step number n: its entry in the book, its bounds and its facts.
pub record At (n : ℕ) (s : Scene) (q : ℕ) (p : Party) : Type 0 where
  pub entered : Entered
  pub busy : Busy s q p entered
  pub facts : facts_at n s q p entered

pub facts_at_lem : (n : ℕ) (s : Scene) (q : ℕ) (p : Party) → p.step ≡ suc n → PartyOk s q p → At (suc n) s q p
facts_at_lem n s q p e (resting i x y z) = absurd (omega (arith, sym (ap (λ (r : Party). r.step) i) ∙ e))
facts_at_lem n s q p e (working x b f) = record { entered = x; busy = b; facts = subst (λ (k : ℕ). facts_at k s q p x) e f }

-- A primary page that a party uses is outside the live file: both at 18 and at 29 it is that of the chain behind the root's last, and the live file extends as the root says.
pub used_outside : (m : Memory) (b : Book) (i : Inv m b) (j d : ℕ) → uses (party_at m.parties j) d ≡ true → size m.root.originals i.ghost.live ≤ d
unfolding uses restructures live_for size
used_outside m b i j d u = go (ord j m.root.parties)
  where
    p : Party
    p = party_at m.parties j

    both : ((eqb p.step 18 || eqb p.step 29) ≡ true) × (eqb p.other d ≡ true)
    both = and_both (eqb p.step 18 || eqb p.step 29) (eqb p.other d) u

    -- the live file, at either number
    far : (n : ℕ) → p.step ≡ n → (within 16 22 n || within 24 30 n) ≡ true → (within 19 20 n || eqb n 28) ≡ false → eqb n 21 ≡ false
        → p.other ≡ count_of_chains m.root → size m.root.originals i.ghost.live ≤ d
    far n e r h k o =
        let now : i.ghost.live ≡ live_for m.root p = i.extents_ok.live-by j (rw e r) in
        let by_root_ok : live_for m.root p ≡ root_extent m.root = rw (e, h, k) refl in
        omega (arith, ap (size m.root.originals) (now ∙ by_root_ok), o, eqb-true p.other d both.1)

    go : Ord j m.root.parties → size m.root.originals i.ghost.live ≤ d
    go (ge h e) =
        let none : p ≡ idle = get_or-eq_default m.parties idle (omega (arith, i.parties_many)) in
        absurd (false≢true (subst (λ (x : Party). uses x d ≡ true) none u))
    go (lt h e) = at (or_either (eqb p.step 18) (eqb p.step 29) both.0)
      where
        ok : PartyOk (scene_of m i.ghost b) j p
        ok = i.parties_ok j h

        at : (eqb p.step 18 ≡ true) ⊎ (eqb p.step 29 ≡ true) → size m.root.originals i.ghost.live ≤ d
        at (inl t) = let s = eqb-true p.step 18 t in far 18 s refl refl refl (facts_at_lem 17 (scene_of m i.ghost b) j p s ok).facts.chains.new_chain
        at (inr t) = let s = eqb-true p.step 29 t in far 29 s refl refl refl (facts_at_lem 28 (scene_of m i.ghost b) j p s ok).facts.1.partner

-- Which pages a party has goes by the ghost's lists.
pub no_pages_held : (s t : Scene) (q : ℕ) → t.ghost.held ≡ s.ghost.held → NoPages s q → NoPages t q
no_pages_held s t q e h = record {
  nothing_built = record { no_built = rw e h.nothing_built.no_built; no_new = rw e h.nothing_built.no_new };
  nothing_old = record { no_old = rw e h.nothing_old.no_old; no_partner = rw e h.nothing_old.no_partner };
}

-- A number that the book does not note: neither 6 nor 10 nor 11.
pub still_noted : (b : Book) (q : ℕ) (x : Option Entered) (n : ℕ) → n ≢ 6 → n ≢ 10 → n ≢ 11 → note_for b q x n ≡ b
unfolding note_for note_step
still_noted b q none n x6 x10 x11 = refl
still_noted b q (some e) n x6 x10 x11 = rw (eqb-diff n 6 x6, eqb-diff n 10 x10, eqb-diff n 11 x11) refl

-- A key is in the book exactly where its live home chain has it.
pub book_has : {r : Root} {g : Ghost} {b : Book} → BookOk r g b → (k : ℕ) → has_key k b.contents ≡ has_key k (g.records (address_of r.originals g.live.level g.live.next k))
book_has {r} {g} {b} x k = has_same k k b.contents (g.records (address_of r.originals g.live.level g.live.next k)) (x.same k)

-- A function changed at one number.
pub changed_here : {A : Type 0} (f : ℕ → A) (k : ℕ) (a : A) (j : ℕ) → j ≡ k → changed_at f k a j ≡ a
unfolding changed_at
changed_here f k a j e = rw (eqb_same j k e)

pub changed_elsewhere : {A : Type 0} (f : ℕ → A) (k : ℕ) (a : A) (j : ℕ) → j ≢ k → changed_at f k a j ≡ f j
unfolding changed_at
changed_elsewhere f k a j n = rw (eqb-diff j k n)
