-- Laws of extents: local levels, what one split more leaves of every chain, and where the hash functions of a key lead.
-- Main statements: level_fits, local_most, local_fits; local_low, local_high, local_split, local_made, local_rest;
-- advance_grows, raised_grows (every chain stays and no local level falls);
-- outgrown_heads, next_heads, located_heads, chasing_heads (where the hash functions of a key lead), home_is (where they end); key_home, away_absent (a key is on its home
-- alone); restructurer; root_grows_low, low_grows_live.
use mathlib.Core.Path.{◌≡◌, refl, sym, ap, ◌∙◌, subst}
use mathlib.Core.Logic.{◌≢◌, ◌⊎◌, inl, inr}
use mathlib.Core.Bool.{true, false, cond, ◌||◌}
use mathlib.Core.List.{List, [], ◌∷◌}
use Prim.Native.Nat.{ℕ, zero, suc, ◌+◌, ◌≤◌, ◌<◌}
use native.Mathlib.Nat.{mul-le-mul_left}
use native.Mathlib.Omega.{arith}
use lib.Pow.{pow_mono}
use lib.Dec.{ltb, leb, eqb}
use Rattle.model.specs.declared.Root.{Root}
use Rattle.model.specs.declared.Party.{Party}
use Rattle.model.specs.Sizes.{within}
use Rattle.model.specs.Addresses.{span, hash, level_for, address_for, address_level, address_of, chain_count}
use Rattle.model.specs.Entries.{has_key}
use Rattle.model.specs.Pages.{most_level}
use Rattle.model.specs.Memory.{Memory, party_at}
use Rattle.model.specs.Book.{Book}
use Rattle.model.proofs.Laws.Lists.{Told, holds, fails, tell, Ord, lt, ge, ord, cond_ind, eqb-true, ltb-true, lt-ltb, le-ltb, le-leb, lt-leb}
use Rattle.model.proofs.Laws.Addresses.{span_next, span_pos, hash_lt, hash_next}
use Rattle.model.proofs.Invariant.Ghost.{Extent, extent, root_extent, size, advance, local_level, Ghost}
use Rattle.model.proofs.Invariant.Statement.{restructures, live_for, low_for, ExtentsOk, Heads, Chasing, Inv}
use Rattle.model.proofs.Invariant.Frame.{StaysLive}

-- ---- Spans and sizes

pub span_grows : (n i j : ℕ) → i ≤ j → span n i ≤ span n j
unfolding span
span_grows n i j h = mul-le-mul_left n (pow_mono h)

pub size_is : (n : ℕ) (e : Extent) → size n e ≡ span n e.level + e.next
unfolding size chain_count
size_is n e = refl

-- A file of at most 256 chains has level at most 8.
pub level_fits : (n : ℕ) (e : Extent) → 1 ≤ n → size n e ≤ 256 → e.level ≤ 8
unfolding span
level_fits n e some fits = go (ord 8 e.level)
  where
    go : Ord 8 e.level → e.level ≤ 8
    go (lt h _) = absurd (let g = span_grows n 9 e.level h in omega (arith, size_is n e))
    go (ge h _) = h

-- ---- Local levels

module _ (n : ℕ) (e : Extent) (c : ℕ) where
  -- The chains that have split in this round, those they made, and the rest.
  pub local_split : c < e.next → local_level n e c ≡ e.level + 1
  unfolding local_level
  local_split h = rw (lt-ltb c e.next h) refl

  pub local_made : span n e.level ≤ c → local_level n e c ≡ e.level + 1
  unfolding local_level
  local_made h = cond_ind (λ (l : ℕ). l ≡ e.level + 1) (ltb c e.next) _ _ (λ _. refl) (λ _. rw (le-leb (span n e.level) c h) refl)

  pub local_rest : e.next ≤ c → c < span n e.level → local_level n e c ≡ e.level
  unfolding local_level
  local_rest h l = rw (le-ltb c e.next h, lt-leb (span n e.level) c l) refl

  pub local_low : e.level ≤ local_level n e c
  unfolding local_level
  local_low =
      cond_ind (λ (l : ℕ). e.level ≤ l) (ltb c e.next) _ _ (λ _. omega arith)
      (λ _. cond_ind (λ (l : ℕ). e.level ≤ l) (leb (span n e.level) c) _ _ (λ _. omega arith) (λ _. omega arith))

  pub local_high : local_level n e c ≤ e.level + 1
  unfolding local_level
  local_high =
      cond_ind (λ (l : ℕ). l ≤ e.level + 1) (ltb c e.next) _ _ (λ _. omega arith)
      (λ _. cond_ind (λ (l : ℕ). l ≤ e.level + 1) (leb (span n e.level) c) _ _ (λ _. omega arith) (λ _. omega arith))

-- Under the invariant it is at most 9.
pub local_most : {m : Memory} {b : Book} (i : Inv m b) (c : ℕ) → local_level m.root.originals i.ghost.live c ≤ most_level
local_most {m} i c =
    omega (
      arith,
      local_high m.root.originals i.ghost.live c,
      level_fits m.root.originals i.ghost.live i.limits.some_original (omega (arith, i.extents_ok.live_fits, i.limits.chains_fit_ok)),
    )

-- Where there is room for p chains, and n doubled r times are p or more, it is at most r: a chain of local level i + 1
-- has a partner at n × 2^i or above.
pub local_fits : (n r p : ℕ) (e : Extent) (c : ℕ) → 1 ≤ n → p ≤ span n r → size n e ≤ p → c < size n e → local_level n e c ≤ r
local_fits n r p e c some room fits inside = go (ord e.level r)
  where
    -- No chain has split at the highest level.
    highest : r ≤ e.level → Ord r e.level → local_level n e c ≤ r
    highest h (lt l _) =
        absurd (omega (arith, some, span_grows n (r + 1) e.level (omega (arith, l)), span_next n r, span_pos n r some, size_is n e, room, fits))
    highest h (ge l _) =
        let k = span_grows n r e.level h in
        omega (arith, l, local_rest n e c (omega (arith, k, size_is n e, room, fits)) (omega (arith, k, size_is n e, room, fits, inside)))

    go : Ord e.level r → local_level n e c ≤ r
    go (lt h _) = omega (arith, local_high n e c)
    go (ge h _) = highest h (ord r e.level)

-- ---- An extent that grows

-- A round that ends: every chain has split, or is as if it had.
pub raised_grows : (n : ℕ) (e : Extent) → e.next ≤ span n e.level → (c : ℕ) → StaysLive n e (extent (e.level + 1) 0) c
raised_grows n e h c l =
    let further = extent (e.level + 1) 0 in
    (omega (arith, size_is n e, size_is n further, span_next n e.level), omega (arith, local_high n e c, local_low n further c))

-- One split more inside a round.
split_grows : (n : ℕ) (e : Extent) (c : ℕ) → StaysLive n e (extent e.level (e.next + 1)) c
split_grows n e c l = (omega (arith, size_is n e, size_is n (extent e.level (e.next + 1))), go (ord c (e.next + 1)) (ord c (span n e.level)))
  where
    go : Ord c (e.next + 1) → Ord c (span n e.level) → local_level n e c ≤ local_level n (extent e.level (e.next + 1)) c
    go (lt h _) o = omega (arith, local_high n e c, local_split n (extent e.level (e.next + 1)) c h)
    go (ge h _) (lt k _) = omega (arith, local_rest n e c (omega arith) k, local_low n (extent e.level (e.next + 1)) c)
    go (ge h _) (ge k _) = omega (arith, local_high n e c, local_made n (extent e.level (e.next + 1)) c k)

-- One split more: every chain stays, and no local level falls.
pub advance_grows : (n : ℕ) (e : Extent) (c : ℕ) → StaysLive n e (advance n e) c
unfolding advance
advance_grows n e c =
    cond_ind (λ (f : Extent). StaysLive n e f c) (eqb (e.next + 1) (span n e.level)) _ _
    (λ t. raised_grows n e (omega (arith, eqb-true (e.next + 1) (span n e.level) t)) c) (λ _. split_grows n e c)

-- ---- Where the hash functions of a key lead

module _ (n : ℕ) (e : Extent) (k : ℕ) (some : 0 < n) where
  -- A hash function that the file has outgrown leads to one of its chains.
  pub outgrown_heads : (j : ℕ) → j ≤ e.level → Heads n e (hash n j k) j k
  outgrown_heads j h = record {
    inside = omega (arith, size_is n e, hash_lt n j k some, span_grows n j e.level h);
    there = refl;
    reach = omega (arith, local_low n e (hash n j k));
  }

  -- From a chain that has the local level of the next hash function, that function leads to a chain that has it too.
  pub next_heads : (j : ℕ) → hash n j k < size n e → j + 1 ≤ local_level n e (hash n j k) → Heads n e (hash n (j + 1) k) (j + 1) k
  next_heads j inside reach = go (ord e.level (j + 1)) (hash_next n j k some)
    where
      -- The last hash function of the round: the chain has split.
      has_split : j ≡ e.level → hash n j k < e.next
      has_split s = apart (ord (hash n j k) e.next)
        where
          apart : Ord (hash n j k) e.next → hash n j k < e.next
          apart (lt h _) = h
          apart (ge h _) = absurd (omega (arith, local_rest n e (hash n j k) h (omega (arith, hash_lt n j k some, ap (span n) s))))

      go : Ord e.level (j + 1) → (hash n (j + 1) k ≡ hash n j k) ⊎ (hash n (j + 1) k ≡ hash n j k + span n j) → Heads n e (hash n (j + 1) k) (j + 1) k
      go (ge h _) s = outgrown_heads (j + 1) h
      go (lt h _) (inl s) = record { inside = omega arith; there = refl; reach = omega (arith, ap (local_level n e) s) }
      go (lt h _) (inr s) =
          let last : j ≡ e.level = omega (arith, local_high n e (hash n j k)) in
          let same_span = ap (span n) last in
          record {
            inside = omega (arith, has_split last, size_is n e);
            there = refl;
            reach = omega (arith, local_made n e (hash n (j + 1) k) (omega arith));
          }

  -- The address, worked out with an older level and the present next.
  pub located_heads : (lev : ℕ) → lev ≤ e.level → Heads n e (address_of n lev e.next k) (address_level n lev e.next k) k
  unfolding address_for level_for
  located_heads lev h =
      cond_ind (λ (j : ℕ). Heads n e (hash n j k) j k) (ltb (hash n lev k) e.next) _ _
      (λ t. next_heads lev (outgrown_heads lev h).inside (omega (arith, local_split n e (hash n lev k) (ltb-true (hash n lev k) e.next t)))) (λ _. outgrown_heads lev h)

-- The chain that a hash function leads to is the key's home, where its local level is that function's.
pub home_is : (n : ℕ) (e : Extent) (c lev k : ℕ) → 0 < n → e.next ≤ span n e.level → Heads n e c lev k → lev ≡ local_level n e c → address_of n e.level e.next k ≡ c
unfolding address_for level_for
home_is n e c lev k some fits h exact = go (ord c e.next) (ord c (span n e.level))
  where
    at : (l : ℕ) → local_level n e c ≡ l → hash n l k ≡ c
    at l s = ap (λ (x : ℕ). hash n x k) (sym (exact ∙ s)) ∙ h.there

    raised : hash n (e.level + 1) k ≡ c → hash n e.level k < e.next → hash n (cond (ltb (hash n e.level k) e.next) (e.level + 1) e.level) k ≡ c
    raised s l = rw (lt-ltb (hash n e.level k) e.next l) s

    -- One bit less leads to a chain that has split: this one, or the one that made it.
    split : c < e.next → hash n (e.level + 1) k ≡ c → (hash n (e.level + 1) k ≡ hash n e.level k) ⊎ (hash n (e.level + 1) k ≡ hash n e.level k + span n e.level)
        → hash n e.level k < e.next
    split l s (inl d) = omega arith
    split l s (inr d) = absurd (omega arith)

    made : span n e.level ≤ c → hash n (e.level + 1) k ≡ c
        → (hash n (e.level + 1) k ≡ hash n e.level k) ⊎ (hash n (e.level + 1) k ≡ hash n e.level k + span n e.level) → hash n e.level k < e.next
    made l s (inl d) = absurd (omega (arith, hash_lt n e.level k some))
    made l s (inr d) = omega (arith, h.inside, size_is n e)

    go : Ord c e.next → Ord c (span n e.level) → hash n (cond (ltb (hash n e.level k) e.next) (e.level + 1) e.level) k ≡ c
    go (lt l _) o = let s = at (e.level + 1) (local_split n e c l) in raised s (split l s (hash_next n e.level k some))
    go (ge l _) (ge m _) = let s = at (e.level + 1) (local_made n e c m) in raised s (made m s (hash_next n e.level k some))
    go (ge l _) (lt m _) = let s = at e.level (local_rest n e c l m) in rw (le-ltb (hash n e.level k) e.next (omega arith)) s

-- Under the invariant a key is on no chain but its home.
module _ {m : Memory} {b : Book} (i : Inv m b) where
  pub key_home : (c : ℕ) → c < size m.root.originals i.ghost.live → (k : ℕ) → has_key k (i.ghost.records c) ≡ true
      → address_of m.root.originals i.ghost.live.level i.ghost.live.next k ≡ c
  key_home c live k h =
      home_is m.root.originals i.ghost.live c (local_level m.root.originals i.ghost.live c) k i.limits.some_original (omega (arith, i.extents_ok.live_next))
      (record { inside = live; there = i.pages_ok.homed c live k h; reach = omega arith }) refl

  -- At home elsewhere, it is not there.
  pub away_absent : (c : ℕ) → c < size m.root.originals i.ghost.live → (k : ℕ)
      → address_of m.root.originals i.ghost.live.level i.ghost.live.next k ≢ c → has_key k (i.ghost.records c) ≡ false
  away_absent c live k n = go (tell (has_key k (i.ghost.records c)))
    where
      go : Told (has_key k (i.ghost.records c)) → has_key k (i.ghost.records c) ≡ false
      go (holds h) = absurd (n (key_home c live k h))
      go (fails h) = h

-- The chain wanted at 7 is live, and lev has not passed its local level.
pub chasing_heads : (n : ℕ) (e : Extent) (p : Party) → 0 < n → Chasing n e p → Heads n e p.chain p.lev p.key
chasing_heads n e p some h =
    let raised : p.lev ≡ h.before + 1 = omega (arith, h.lev_is) in
    let inside : hash n h.before p.key < size n e = rw h.from h.inside in
    let reach : h.before + 1 ≤ local_level n e (hash n h.before p.key) = rw (h.from, ← raised) h.reach in
    subst (λ (c : ℕ). Heads n e c p.lev p.key) h.there
    (subst (λ (j : ℕ). Heads n e (hash n j p.key) j p.key) (sym raised) (next_heads n e p.key some h.before inside reach))

-- ---- The extents that parties count on

-- Somebody restructures, or nobody does.
pub data Restructurer (ps : List Party) : Type 0 where
  somebody : (q : ℕ) → restructures (party_at ps q) ≡ true → Restructurer ps
  nobody_does : ((q : ℕ) → restructures (party_at ps q) ≡ false) → Restructurer ps

pub restructurer : (ps : List Party) → Restructurer ps
unfolding restructures
restructurer [] = nobody_does (λ q. refl)
restructurer (p ∷ ps) = go (tell (restructures p)) (restructurer ps)
  where
    go : Told (restructures p) → Restructurer ps → Restructurer (p ∷ ps)
    go (holds h) r = somebody 0 h
    go (fails h) (somebody q e) = somebody (suc q) e
    go (fails h) (nobody_does f) = nobody_does each
      where
        each : (q : ℕ) → restructures (party_at (p ∷ ps) q) ≡ false
        each zero = h
        each (suc q) = f q

-- A chain stays where the extent does.
stays_same : (n : ℕ) (e f : Extent) → f ≡ e → (c : ℕ) → StaysLive n e f c
stays_same n e f s c = rw s (λ l. (l, omega arith))

module _ (r : Root) (inside : r.next < span r.originals r.level) (p : Party) (c : ℕ) where
  -- The extents that a restructurer makes live are the root's own, or further.
  live_for_grows : StaysLive r.originals (root_extent r) (live_for r p) c
  unfolding live_for
  live_for_grows =
      cond_ind (λ (f : Extent). StaysLive r.originals (root_extent r) f c) (within 19 20 p.step || eqb p.step 28) _ _
      (λ _. advance_grows r.originals (root_extent r) c)
      (λ _. cond_ind (λ (f : Extent). StaysLive r.originals (root_extent r) f c) (eqb p.step 21) _ _ (λ _. raised) (λ _. stays_same r.originals (root_extent r) (root_extent r) refl c))
    where
      raised : StaysLive r.originals (root_extent r) (cond (eqb r.next 0) (extent (r.level + 1) 0) (root_extent r)) c
      raised =
          cond_ind (λ (f : Extent). StaysLive r.originals (root_extent r) f c) (eqb r.next 0) _ _
          (λ _. raised_grows r.originals (root_extent r) (omega arith) c) (λ _. stays_same r.originals (root_extent r) (root_extent r) refl c)

  low_for_grows : StaysLive r.originals (root_extent r) (low_for r p) c
  unfolding low_for
  low_for_grows =
      cond_ind (λ (f : Extent). StaysLive r.originals (root_extent r) f c) (eqb p.step 28) _ _
      (λ _. stays_same r.originals (root_extent r) (root_extent r) refl c) (λ _. live_for_grows)

  low-live_grows : StaysLive r.originals (low_for r p) (live_for r p) c
  unfolding low_for
  low-live_grows =
      cond_ind (λ (f : Extent). StaysLive r.originals f (live_for r p) c) (eqb p.step 28) _ _
      (λ _. live_for_grows) (λ _. stays_same r.originals (live_for r p) (live_for r p) refl c)

module _ (r : Root) (ps : List Party) (g : Ghost) (ok : ExtentsOk r ps g) (c : ℕ) where
  -- What a party at 4 or 5 counts on is the root's own extent, or further.
  pub root_grows_low : StaysLive r.originals (root_extent r) g.low c
  root_grows_low = go (restructurer ps)
    where
      go : Restructurer ps → StaysLive r.originals (root_extent r) g.low c
      go (nobody_does f) = stays_same r.originals (root_extent r) g.low (ok.at_rest_lem f).1 c
      go (somebody q h) = rw (ok.low_by q h) (low_for_grows r ok.root_next (party_at ps q) c)

  -- The live extent is what a party at 4 or 5 counts on, or further.
  pub low_grows_live : StaysLive r.originals g.low g.live c
  low_grows_live = go (restructurer ps)
    where
      go : Restructurer ps → StaysLive r.originals g.low g.live c
      go (nobody_does f) = stays_same r.originals g.low g.live ((ok.at_rest_lem f).0 ∙ sym (ok.at_rest_lem f).1) c
      go (somebody q h) = rw (ok.low_by q h, ok.live-by q h) (low-live_grows r ok.root_next (party_at ps q) c)
