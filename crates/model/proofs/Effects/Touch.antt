-- Steps that write pages: which pages they touch, and why no other party and no live chain notices.
-- Main statements: Touch (the kinds of page that a step may write), Touches; keeps_touched (every other party keeps
-- what it relies on), chain_untouched (every live chain stays).
use mathlib.Core.Path.{◌≡◌, refl, sym, ap, ◌∙◌, subst, subst₃}
use mathlib.Core.Logic.{◌≢◌}
use mathlib.Core.Bool.{true, false, false≢true}
use mathlib.Core.List.{List}
use Prim.Native.Nat.{ℕ, ◌+◌, ◌≤◌, ◌<◌}
use native.Mathlib.Omega.{arith}
use lib.ListN.{length, set, get_or-eq_default}
use lib.Dec.{eqb}
use Rattle.model.specs.declared.Party.{Party}
use Rattle.model.specs.Records.{idle}
use Rattle.model.specs.declared.Entry.{Entry}
use Rattle.model.specs.Entries.{ascending, has_key}
use Rattle.model.specs.Addresses.{hash}
use Rattle.model.specs.Pages.{page_of, primary_page, scratch_page, link_to_first, zero_page}
use Rattle.model.specs.FreeList.{is_among}
use Rattle.model.specs.Memory.{Memory, party_at}
use Rattle.model.specs.Book.{Book}
use Rattle.model.proofs.Laws.Lists.{Told, holds, fails, tell, Cmp, same, diff, cmp, Ord, lt, ge, ord, not-both, eqb-diff}
use Rattle.model.proofs.Laws.Structure.{SameOn, FreePages, ChainIs, chain_frame}
use Rattle.model.proofs.Invariant.Ghost.{Owner, owner, Named, nobody, free, in_chain, old_of, size, local_level, Owned}
use Rattle.model.proofs.Invariant.Owners.{own_of_member, kinds_apart, same_from}
use Rattle.model.proofs.Invariant.Statement.{uses, PagesOk, BookOk, Scene, held_in, Protected, in_chain_ok, in_old, PartyOk, resting, working}
use Rattle.model.proofs.Invariant.Frame.{SameSizes, Keeps, still_grows}
use Rattle.model.proofs.Invariant.Turn.{Turn, row_long, before}
use Rattle.model.proofs.Effects.Kept.{row_same, row_other}

-- A page that a step of party q may write: free, its own, its scratch page, or a primary page outside the live file that nobody else uses.
pub data Touch (s : Scene) (q x : ℕ) : Type 0 where
  free_page_ok : s.ghost.own x ≡ free → Touch s q x
  own_page : (k : ℕ) → 3 ≤ k → k ≤ 6 → s.ghost.own x ≡ owner k q → Touch s q x
  own_scratch : x ≡ scratch_page s.root q → Touch s q x
  outside : x < s.root.primaries → size s.root.originals s.ghost.live ≤ x → ((j : ℕ) → j ≢ q → uses (party_at s.parties j) x ≡ false) → Touch s q x

-- From scene s to scene t party q, whose record becomes p, wrote the pages ws, and nothing else that others rely on changed.
pub record Touches (s t : Scene) (q : ℕ) (p : Party) (ws : List ℕ) : Type 0 where
  pub sizes : SameSizes s.root t.root
  pub row= : t.parties ≡ set s.parties q p
  pub live= : t.ghost.live ≡ s.ghost.live
  pub low= : t.ghost.low ≡ s.ghost.low
  pub records= : t.ghost.records ≡ s.ghost.records
  pub entries= : (j : ℕ) → j ≢ q → t.entries j ≡ s.entries j
  pub private= : (k j : ℕ) → 3 ≤ k → k ≤ 6 → j ≢ q → held_in t (owner k j) ≡ held_in s (owner k j)
  pub chains= : (c : ℕ) → held_in t (in_chain c) ≡ held_in s (in_chain c)
  pub off : (x : ℕ) → is_among x ws ≡ false → page_of t.pages x ≡ page_of s.pages x
  pub own_off : (x : ℕ) → is_among x ws ≡ false → t.ghost.own x ≡ s.ghost.own x
  pub touch : (x : ℕ) → is_among x ws ≡ true → Touch s q x
  pub stays : (x : ℕ) → s.ghost.own x ≡ old_of q → is_among x ws ≡ false → p.chain ≡ (party_at s.parties q).chain
  pub unread : (x : ℕ) → s.ghost.own x ≡ old_of q → is_among x ws ≡ true → (j : ℕ) → j ≢ q → (party_at s.parties j).step ≡ 9
      → (party_at s.parties j).chain ≢ (party_at s.parties q).chain

-- An idle party uses none.
idle_uses : (p : Party) → p ≡ idle → (d : ℕ) → uses p d ≡ true → ⊥
unfolding uses
idle_uses p e d h = false≢true (rw e at h)

-- A party whose record says that it uses a primary page outside the live file has a chain there.
other_fits : (s : Scene) (j : ℕ) (p : Party) → PartyOk s j p → (d : ℕ) → uses p d ≡ true → p.other < s.root.primaries
other_fits s j p (resting e a b c) d h = absurd (idle_uses p e d h)
other_fits s j p (working e b f) d h = b.other_fits

module _ {m : Memory} {b : Book} {q k : ℕ} (now : Turn m b q k) {t : Scene} {p : Party} {ws : List ℕ} (w : Touches (before now) t q p ws) where
  -- A page that none of the four kinds fits is not touched.
  untouched : (x : ℕ) → (Touch (before now) q x → ⊥) → is_among x ws ≡ false
  untouched x f = go (tell (is_among x ws))
    where
      go : Told (is_among x ws) → is_among x ws ≡ false
      go (holds h) = absurd (f (w.touch x h))
      go (fails h) = h

  -- A page with an owner is an overflow page.
  inside : (x : ℕ) (o : Owner) → now.inv.ghost.own x ≡ o → eqb o.kind 0 ≡ false → (m.root.primaries ≤ x) × (x < m.root.primaries + m.root.overflow)
  inside x o e n = now.inv.pages_ok.owned.inside x (rw e (kinds_apart o nobody n))

  some_kind : (k : ℕ) → 3 ≤ k → eqb k 0 ≡ false
  some_kind k h = eqb-diff k 0 (omega arith)

  -- An overflow page with another owner than the free list and this party.
  pub untouched_owned : (x : ℕ) (o : Owner) → now.inv.ghost.own x ≡ o → eqb o.kind 0 ≡ false → o ≢ free → ((k : ℕ) → 3 ≤ k → k ≤ 6 → o ≢ owner k q) → is_among x ws ≡ false
  untouched_owned x o e some_owner n f = untouched x no
    where
      bounds : (m.root.primaries ≤ x) × (x < m.root.primaries + m.root.overflow)
      bounds = inside x o e some_owner

      no : Touch (before now) q x → ⊥
      no (free_page_ok y) = n (sym e ∙ y)
      no (own_page k a c y) = f k a c (sym e ∙ y)
      no (own_scratch y) = let z = bounds in omega arith
      no (outside y z u) = let v = bounds in omega arith

  -- A primary page that is live, or that another party uses.
  pub untouched_primary : (c : ℕ) → c < m.root.primaries
      → (size m.root.originals now.inv.ghost.live ≤ c → ((j : ℕ) → j ≢ q → uses (party_at m.parties j) c ≡ false) → ⊥) → is_among c ws ≡ false
  untouched_primary c fits f = untouched c no
    where
      no : Touch (before now) q c → ⊥
      no (free_page_ok y) = let z = inside c free y refl in omega arith
      no (own_page k a d y) = let z = inside c (owner k q) y (some_kind k a) in omega arith
      no (own_scratch y) = omega arith
      no (outside y z u) = f z u

  -- Another party's scratch page.
  pub untouched_scratch : (j : ℕ) → j ≢ q → is_among (scratch_page m.root j) ws ≡ false
  untouched_scratch j n = untouched (scratch_page m.root j) no
    where
      no : Touch (before now) q (scratch_page m.root j) → ⊥
      no (free_page_ok y) = let z = inside (scratch_page m.root j) free y refl in omega arith
      no (own_page k a d y) = let z = inside (scratch_page m.root j) (owner k q) y (some_kind k a) in omega arith
      no (own_scratch y) = n (omega arith)
      no (outside y z u) = omega arith

  -- ---- What others rely on

  same_private : (k j : ℕ) → 3 ≤ k → k ≤ 6 → j ≢ q → SameOn m.pages t.pages (now.inv.ghost.held (owner k j))
  same_private k j low high n = same_from m.pages t.pages (now.inv.ghost.held (owner k j)) (λ x h. w.off x (free_of x h))
    where
      free_of : (x : ℕ) → is_among x (now.inv.ghost.held (owner k j)) ≡ true → is_among x ws ≡ false
      free_of x h =
          untouched_owned x (owner k j) (own_of_member now.inv.pages_ok.owned (owner k j) x h) (some_kind k low)
          (λ e. let z = ap (λ (o : Owner). o.kind) e in omega arith) (λ k' a c e. n (ap (λ (o : Owner). o.index) e))

  pub chain_same : (c : ℕ) → SameOn m.pages t.pages (now.inv.ghost.held (in_chain c))
  chain_same c = same_from m.pages t.pages (now.inv.ghost.held (in_chain c)) (λ x h. w.off x (free_of x h))
    where
      free_of : (x : ℕ) → is_among x (now.inv.ghost.held (in_chain c)) ≡ true → is_among x ws ≡ false
      free_of x h =
          untouched_owned x (in_chain c) (own_of_member now.inv.pages_ok.owned (in_chain c) x h) refl
          (λ e. let z = ap (λ (o : Owner). o.kind) e in omega arith) (λ k a d e. let z = ap (λ (o : Owner). o.kind) e in omega arith)

  -- A page that a reader of another chain may walk stays, and stays protected.
  read_page : (j : ℕ) → j ≢ q → (party_at m.parties j).step ≡ 9 → (x : ℕ) → Protected (before now) (party_at m.parties j).chain x
      → Protected t (party_at m.parties j).chain x × (page_of t.pages x ≡ page_of m.pages x)
  read_page j n e x (in_chain_ok y) =
      let off = untouched_owned x (in_chain (party_at m.parties j).chain) y refl
      (λ h. let z = ap (λ (o : Owner). o.kind) h in omega arith) (λ k a d h. let z = ap (λ (o : Owner). o.kind) h in omega arith) in
      (in_chain_ok (w.own_off x off ∙ y), w.off x off)
  read_page j n e x (in_old k y z) = go (cmp k q)
    where
      go : Cmp k q → Protected t (party_at m.parties j).chain x × (page_of t.pages x ≡ page_of m.pages x)
      go (diff d) =
          let off = untouched_owned x (old_of k) y refl (λ h. let u = ap (λ (o : Owner). o.kind) h in omega arith) (λ a c f h. d (ap (λ (o : Owner). o.index) h)) in
          (in_old k (w.own_off x off ∙ y) (rw (w.row=, row_other m.parties q k p d) z), w.off x off)
      go (same d) = mine (tell (is_among x ws))
        where
          y' : now.inv.ghost.own x ≡ old_of q
          y' = y ∙ ap old_of d

          z' : (party_at m.parties q).chain ≡ (party_at m.parties j).chain
          z' = ap (λ (a : ℕ). (party_at m.parties a).chain) (sym d) ∙ z

          mine : Told (is_among x ws) → Protected t (party_at m.parties j).chain x × (page_of t.pages x ≡ page_of m.pages x)
          mine (holds h) = absurd (w.unread x y' h j n e (sym z'))
          mine (fails h) = (in_old q (w.own_off x h ∙ y') (rw (w.row=, row_same m.parties q p (row_long now)) (w.stays x y' h ∙ z')), w.off x h)

  used_other : (j : ℕ) → uses (party_at m.parties j) (party_at m.parties j).other ≡ true → (party_at m.parties j).other < m.root.primaries
  used_other j u = go (ord j m.root.parties)
    where
      go : Ord j m.root.parties → (party_at m.parties j).other < m.root.primaries
      go (lt h e) = other_fits (before now) j (party_at m.parties j) (now.inv.parties_ok j h) (party_at m.parties j).other u
      go (ge h e) = absurd (idle_uses (party_at m.parties j) (get_or-eq_default m.parties idle (omega (arith, now.inv.parties_many))) (party_at m.parties j).other u)

  pub keeps_touched : (j : ℕ) → j ≢ q → Keeps (before now) t j (party_at m.parties j)
  keeps_touched j n = record {
    sizes = w.sizes.limits;
    grows = still_grows _ _ (party_at m.parties j) (record { level= = w.sizes.level=; next= = w.sizes.next=; live= = w.live=; low= = w.low= });
    entry= = w.entries= j n;
    ours = λ k a c. (w.private= k j a c n, same_private k j a c n);
    scratch= = rw (w.sizes.limits.primaries=, w.sizes.limits.overflow=) (w.off (scratch_page m.root j) (untouched_scratch j n));
    chain= = λ c o h d l. (ap (λ (f : ℕ → List Entry). f c) w.records=, w.chains= c);
    reading = λ x e h. read_page j n e x h;
    spare = λ u.
        w.off (party_at m.parties j).other
        (untouched_primary (party_at m.parties j).other (used_other j u)
        (λ far f. not-both (uses (party_at m.parties j) (party_at m.parties j).other) u (f j n)));
  }

  -- ---- The live chains

  pub chain_untouched : (c : ℕ) → c < size m.root.originals now.inv.ghost.live
      → ChainIs m.root.capacity t.pages c (local_level m.root.originals now.inv.ghost.live c) (now.inv.ghost.records c) (now.inv.ghost.held (in_chain c))
  chain_untouched c l =
      chain_frame m.root.capacity m.pages t.pages c _ _ _
      (w.off c (untouched_primary c (omega (arith, now.inv.extents_ok.live_fits)) (λ far f. omega arith))) (chain_same c) (now.inv.pages_ok.chain c l)

  -- ---- The parts of the invariant that speak of pages and keys

  -- What is left to show of the pages after such a step.
  pub record FreeAfter : Type 0 where
    pub owned : Owned m.root.primaries m.root.overflow t.ghost.own t.ghost.held
    pub kinds : (x : ℕ) → Named (t.ghost.own x)
    pub head_is : t.root.head ≡ link_to_first (held_in t free)
    pub free_count : t.root.free ≡ length (held_in t free)
    pub free_pages_ok : FreePages t.pages (held_in t free)
    pub dead : (c : ℕ) → size m.root.originals now.inv.ghost.live ≤ c → c < m.root.primaries → ((j : ℕ) → uses (party_at (set m.parties q p) j) c ≡ false)
        → page_of t.pages (primary_page c) ≡ zero_page

  live_size : size t.root.originals t.ghost.live ≡ size m.root.originals now.inv.ghost.live
  live_size = rw (w.sizes.limits.originals=, w.live=) refl

  live_level : (c : ℕ) → local_level t.root.originals t.ghost.live c ≡ local_level m.root.originals now.inv.ghost.live c
  live_level c = rw (w.sizes.limits.originals=, w.live=) refl

  records_same : (c : ℕ) → t.ghost.records c ≡ now.inv.ghost.records c
  records_same c = ap (λ (g : ℕ → List Entry). g c) w.records=

  pub pages_touched : FreeAfter → PagesOk t.root t.parties t.pages t.ghost
  pages_touched f =
      let ok = now.inv.pages_ok in
      record {
        owned = rw (w.sizes.limits.primaries=, w.sizes.limits.overflow=) f.owned;
        kinds = f.kinds;
        beyond = λ c l. w.chains= c ∙ ok.beyond c (rw live_size at l);
        head_is = f.head_is;
        free_count = f.free_count;
        free_pages_ok = f.free_pages_ok;
        chain = λ c l.
            subst₃ (λ (k : ℕ) (es : List Entry) (xs : List ℕ). ChainIs t.root.capacity t.pages c k es xs) (sym (live_level c)) (sym (records_same c)) (sym (w.chains= c))
            (subst (λ (k : ℕ). ChainIs k t.pages c (local_level m.root.originals now.inv.ghost.live c) (now.inv.ghost.records c) (now.inv.ghost.held (in_chain c))) (sym w.sizes.limits.capacity=)
            (chain_untouched c (rw live_size at l)));
        ascends = λ c l. ap ascending (records_same c) ∙ ok.ascends c (rw live_size at l);
        homed = λ c l k h.
            ap (λ (n : ℕ). hash n (local_level t.root.originals t.ghost.live c) k) w.sizes.limits.originals= ∙ ap (λ (n : ℕ). hash m.root.originals n k) (live_level c)
            ∙ ok.homed c (rw live_size at l) k (sym (ap (has_key k) (records_same c)) ∙ h);
        dead = λ c l r u. f.dead c (rw live_size at l) (rw w.sizes.limits.primaries= at r) (λ j. sym (ap (λ (ps : List Party). uses (party_at ps j) c) w.row=) ∙ u j);
      }

  pub book_touched : (c : Book) → c.contents ≡ b.contents → BookOk t.root t.ghost c
  book_touched c e = record { ascends = rw e now.inv.book_ok.ascends; same = λ k. rw (e, w.sizes.limits.originals=, w.live=, w.records=) (now.inv.book_ok.same k) }

  -- The primary pages outside the live file, where the step left them.
  pub dead_kept : (c : ℕ) → is_among c ws ≡ false → size m.root.originals now.inv.ghost.live ≤ c → c < m.root.primaries
      → ((j : ℕ) → uses (party_at (set m.parties q p) j) c ≡ false) → (uses p c ≡ false → uses (party_at m.parties q) c ≡ false) → page_of t.pages (primary_page c) ≡ zero_page
  dead_kept c n far fits u frees = w.off c n ∙ now.inv.pages_ok.dead c far fits (λ j. before j (cmp j q))
    where
      before : (j : ℕ) → Cmp j q → uses (party_at m.parties j) c ≡ false
      before j (same e) = rw e (frees (rw (row_same m.parties q p (row_long now)) at (u q)))
      before j (diff d) = rw (row_other m.parties q j p d) at (u j)
