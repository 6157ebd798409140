-- Steps that change the party's record and lock words alone: root, pages and ghost stay.
-- Main statements: OwnChange (what such a step owes), pages_row, own_parts (the parts of the invariant after it);
-- Moves (what one owes that moves and that the book does not note), own_kept, keeping_kept.
use mathlib.Core.Path.{◌≡◌, refl, sym, ap, ◌∙◌}
use mathlib.Core.Logic.{◌≢◌}
use mathlib.Core.Bool.{false}
use mathlib.Core.List.{List}
use Prim.Native.Nat.{ℕ, ◌<◌}
use native.Mathlib.Omega.{arith}
use lib.ListN.{length, set}
use Rattle.model.specs.declared.Root.{Root}
use Rattle.model.specs.declared.Party.{Party}
use Rattle.model.specs.Sizes.{lock_words}
use Rattle.model.specs.Outcome.{with_party, with_locks, moved}
use Rattle.model.specs.Memory.{Memory, party_at, view_of}
use Rattle.model.specs.Book.{Book}
use Rattle.model.proofs.Laws.Lists.{Cmp, same, diff, cmp, or_neither}
use Rattle.model.proofs.Laws.Structure.{same_on}
use Rattle.model.proofs.Invariant.Ghost.{owner, old_of}
use Rattle.model.proofs.Invariant.Claims.{LocksOk, claimed}
use Rattle.model.proofs.Invariant.Statement.{ExtentsOk, uses, PagesOk, Scene, Protected, in_chain_ok, in_old, PartyOk, scene_of, Inv, Busy, facts_at, working}
use Rattle.model.proofs.Invariant.Frame.{SameLimits, SameSizes, Keeps, still_grows, claims_at_lem}
use Rattle.model.proofs.Invariant.Turn.{Plain, Turn, after, claims_at, its_claims, me, note_still, notes_at, uses_none, uses_at, row_long}
use Rattle.model.proofs.Invariant.LockMoves.{locks_stay}
use Rattle.model.proofs.Effects.Kept.{Kept, row_same, row_other, Parts, moved-kept}

pub same_limits : (r : Root) → SameLimits r r
same_limits r = record { originals= = refl; capacity= = refl; primaries= = refl; overflow= = refl; parties= = refl }

pub same_sizes : (r : Root) → SameSizes r r
same_sizes r = record { limits = same_limits r; level= = refl; next= = refl }

-- A page that a reader may walk stays one, where the party that has pages to give back keeps its chain.
pub protected_row : (s t : Scene) (q : ℕ) (p : Party) → t.ghost.own ≡ s.ghost.own → t.parties ≡ set s.parties q p → q < length s.parties
    → ((x : ℕ) → s.ghost.own x ≡ old_of q → p.chain ≡ (party_at s.parties q).chain) → (c x : ℕ) → Protected s c x → Protected t c x
protected_row s t q p own= row= l stays c x (in_chain_ok e) = in_chain_ok (rw own= e)
protected_row s t q p own= row= l stays c x (in_old j e n) = in_old j (rw own= e) (go (cmp j q))
  where
    go : Cmp j q → (party_at t.parties j).chain ≡ c
    go (same i) =
        let mine : s.ghost.own x ≡ old_of q = e ∙ ap old_of i in
        rw (row=, i, row_same s.parties q p l) (stays x mine ∙ ap (λ (k : ℕ). (party_at s.parties k).chain) (sym i) ∙ n)
    go (diff d) = rw (row=, row_other s.parties q j p d) n

-- What such a step owes, that leaves the record p, the book c and the lock words ls.
-- The pages are ps: where it writes pages too, none that another party or a live chain notices.
pub record OwnChange (m : Memory) (b : Book) (i : Inv m b) (q : ℕ) (ps : List ℕ) (p : Party) (c : Book) (ls : List ℕ) : Type 0 where
  pub entries= : (j : ℕ) → j ≢ q → c.entries j ≡ b.entries j
  pub contents= : c.contents ≡ b.contents
  pub stays : (x : ℕ) → i.ghost.own x ≡ old_of q → p.chain ≡ (party_at m.parties q).chain
  pub frees : (d : ℕ) → uses p d ≡ false → uses (party_at m.parties q) d ≡ false
  pub extents : ExtentsOk m.root (set m.parties q p) i.ghost
  pub locks : LocksOk (lock_words m.root) ls (claimed m.root (set m.parties q p))
  pub self : PartyOk (record { root = m.root; parties = set m.parties q p; pages = ps; ghost = i.ghost; entries = c.entries }) q p

-- The pages are in order as before, where the party frees no primary page outside the live file.
pub pages_row : (m : Memory) (b : Book) (i : Inv m b) (q : ℕ) → q < length m.parties → (p : Party) → ((d : ℕ) → uses p d ≡ false → uses (party_at m.parties q) d ≡ false)
    → PagesOk m.root (set m.parties q p) m.pages i.ghost
pages_row m b i q row_long p frees =
    let ok = i.pages_ok in
    record {
      owned = ok.owned;
      kinds = ok.kinds;
      beyond = ok.beyond;
      head_is = ok.head_is;
      free_count = ok.free_count;
      free_pages_ok = ok.free_pages_ok;
      chain = ok.chain;
      ascends = ok.ascends;
      homed = ok.homed;
      dead = λ d l r f. ok.dead d l r (λ j. unused d f j (cmp j q));
    }
  where
    unused : (d : ℕ) → ((j : ℕ) → uses (party_at (set m.parties q p) j) d ≡ false) → (j : ℕ) → Cmp j q → uses (party_at m.parties j) d ≡ false
    unused d f j (same e) = rw e (frees d (rw (row_same m.parties q p row_long) at (f q)))
    unused d f j (diff n) = rw (row_other m.parties q j p n) at (f j)

-- The parts of the invariant after such a step.
pub own_parts : (m : Memory) (b : Book) (i : Inv m b) (q : ℕ) → q < m.root.parties → (p : Party) (c : Book) (ls : List ℕ) → OwnChange m b i q m.pages p c ls
    → Parts m b i q m.root ls m.pages p c i.ghost
own_parts m b i q in_row p c ls o = record {
  sizes = same_limits m.root;
  pages_many = refl;
  extents = o.extents;
  locks = o.locks;
  pages = pages_row m b i q row_long p o.frees;
  book = record { ascends = rw o.contents= i.book_ok.ascends; same = λ k. rw o.contents= (i.book_ok.same k) };
  self = o.self;
  others = keeps;
}
  where
    row_long : q < length m.parties
    row_long = omega (arith, i.parties_many)

    then_scene : Scene
    then_scene = record { root = m.root; parties = set m.parties q p; pages = m.pages; ghost = i.ghost; entries = c.entries }

    keeps : (j : ℕ) → j ≢ q → Keeps (scene_of m i.ghost b) then_scene j (party_at m.parties j)
    keeps j n = record {
      sizes = same_limits m.root;
      grows = still_grows _ _ (party_at m.parties j) (record { level= = refl; next= = refl; live= = refl; low= = refl });
      entry= = o.entries= j n;
      ours = λ k _ _. (refl, same_on m.pages m.pages (i.ghost.held (owner k j)) (λ x. refl));
      scratch= = refl;
      chain= = λ d _ h e l. (refl, refl);
      reading = λ x e h. (protected_row (scene_of m i.ghost b) then_scene q p refl refl row_long o.stays (party_at m.parties j).chain x h, refl);
      spare = λ u. refl;
    }

-- ---- A step that moves, at a number that the book does not note

-- What a party owes whose record becomes p.
pub record Moves {m : Memory} {b : Book} {q k : ℕ} (t : Turn m b q k) (p : Party) : Type 0 where
  pub plain : Plain k
  pub stays : (x : ℕ) → t.inv.ghost.own x ≡ old_of q → p.chain ≡ (me t).chain
  pub extents : ExtentsOk m.root (set m.parties q p) t.inv.ghost
  pub busy : Busy (after t p) q p t.entered
  pub facts : facts_at p.step (after t p) q p t.entered

-- The lock words that it leaves say what its record then claims.
pub own_kept : {m : Memory} {b : Book} {q k : ℕ} (t : Turn m b q k) (p : Party) → Moves t p → (ls : List ℕ) → LocksOk (lock_words m.root) ls (claimed m.root (set m.parties q p))
    → Kept m b q (moved (with_party p (with_locks ls (view_of m q))))
own_kept {m} {b} {q} {k} t p x ls locks =
    let neither = or_neither (notes_at k) (uses_at k) x.plain in
    moved-kept t (note_still t neither.0)
    (own_parts m b t.inv q t.in_row p b ls
    (record {
      entries= = λ j n. refl;
      contents= = refl;
      stays = x.stays;
      frees = λ d _. uses_none t neither.1 d;
      extents = x.extents;
      locks = locks;
      self = working t.entered x.busy x.facts;
    }))

-- It keeps the locks that it has.
pub keeping_kept : {m : Memory} {b : Book} {q k : ℕ} (t : Turn m b q k) (p : Party) → claims_at p.step p ≡ claims_at k (me t) → Moves t p → Kept m b q (moved (with_party p (view_of m q)))
keeping_kept {m} {b} {q} t p same_claims x = own_kept t p x m.locks (locks_stay m.root m.parties q p (row_long t) (claims_at_lem m.root p p.step refl ∙ same_claims ∙ sym (its_claims t)) t.inv.locks_ok)
