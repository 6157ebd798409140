-- The row looked through entry by entry says where a party stands.
-- Main statements: placed_right (what is seen at the end is place_of); alone_right (where nobody waits); waits-row (in a
-- row without a gap, a party's word is there where the party waits).
use mathlib.Core.Path.{◌≡◌, refl, sym, ap, ◌∙◌}
use mathlib.Core.Logic.{◌≢◌}
use mathlib.Core.Bool.{Bool, true, false, cond, not, ◌&&◌, ◌||◌, and-false, or_assoc, and_assoc}
use mathlib.Core.List.{List, [], ◌∷◌}
use mathlib.Core.Option.{Option, none, some}
use Prim.Native.Nat.{ℕ, ◌+◌, ◌-◌, ◌≤◌, ◌<◌}
use native.Mathlib.Omega.{arith}
use Rattle.std.specs.Prelude.{Some, None, min}
use lib.Dec.{eqb, ltb, leb}
use lib.ListN.{length, take, drop, get_or, get_or-eq_default}
use Rattle.model.specs.declared.Root.{Root}
use Rattle.model.specs.declared.Party.{Party}
use Rattle.model.specs.Records.{idle}
use Rattle.model.specs.LockWords.{Claim, field_of, with_field}
use Rattle.model.specs.FreeList.{is_among}
use Rattle.model.specs.Steps.Dispatch.{has_step}
use Rattle.model.specs.WaitingRow.{requests, is_some, waiters_in, all_zero, none_twice, all_request, row_sound, conflicts, one_before, behind_for, stands_behind}
use Rattle.model.proofs.Laws.Fields.{field_same, bit_other, bit_zero}
use Rattle.model.proofs.Laws.Lists.{Cmp, same, diff, cmp, Ord, lt, ge, ord, eqb_same, eqb-diff, eqb-true, lt-ltb, le-leb, lt-leb, and_both}
use Rattle.waiting_row.specs.declared.Looking.{Looking}
use Rattle.waiting_row.specs.Requested.{request_in, asks, hindered_by}
use Rattle.waiting_row.specs.Entry.{place_of, alone, named, first_seen, damaged_by, meets, met_by, looked_at, looked_through, stands_of}
use Rattle.waiting_row.proofs.Requests.{asks_sound, none-some}

-- ---- Truth values

or_none : (a : Bool) → a ≡ (a || false)
or_none true = refl
or_none false = refl

and_all : (a : Bool) → a ≡ (a && true)
and_all true = refl
and_all false = refl

-- What is met of one entry, beside the rest.
sound_mix : (S n F R : Bool) → ((S && n) && (F && R)) ≡ (S && ((n && F) && ((true && true) && R)))
sound_mix false n F R = refl
sound_mix true false F R = refl
sound_mix true true F R = refl

sound_dead : (S X l Y : Bool) → false ≡ (S && (X && ((l && false) && Y)))
sound_dead false X l Y = refl
sound_dead true false l Y = refl
sound_dead true true false Y = refl
sound_dead true true true Y = refl

behind_mix : (B W e k H : Bool) → ((B || (not (W || e) && k)) || (not (W || e) && H)) ≡ (B || (not W && cond e false (k || H)))
behind_mix true W e k H = refl
behind_mix false true e k H = refl
behind_mix false false true k H = refl
behind_mix false false false k H = refl

behind_dead : (B W e H : Bool) → (B || (not (W || e) && H)) ≡ (B || (not W && cond e false (false || H)))
behind_dead B true e H = refl
behind_dead B false true H = refl
behind_dead B false false H = refl

eqb-sym : (a b : ℕ) → eqb a b ≡ eqb b a
eqb-sym a b = go (cmp a b)
  where
    go : Cmp a b → eqb a b ≡ eqb b a
    go (same e) = eqb_same a b e ∙ sym (eqb_same b a (sym e))
    go (diff n) = eqb-diff a b n ∙ sym (eqb-diff b a (λ e. n (sym e)))

-- ---- Requests as code has them

-- Whether a request stands in the way of another that came later.
hinders : Option Claim → Option Claim → Bool
hinders none d = false
hinders (some c) d = conflicts d c

hindered_is : (o : Option Claim) (d : Claim) → hindered_by d (request_in o) ≡ hinders o (some d)
unfolding hindered_by hinders conflicts
hindered_is none d = refl
hindered_is (some c) d = refl

-- ---- The parties met

Marks : ℕ → List ℕ → Type 0
Marks m before = (j : ℕ) → j < 16 → eqb (field_of j 1 m) 0 ≡ not (is_among j before)

marks-none : Marks 0 []
unfolding Marks is_among field_of
marks-none j h = eqb_same (field_of j 1 0) 0 (bit_zero 16 0 refl j h)

marks_more : (m : ℕ) (before : List ℕ) (i : ℕ) → Marks m before → Marks (with_field i 1 m 1) (i ∷ before)
unfolding Marks is_among
marks_more m before i k j h = go (cmp i j)
  where
    go : Cmp i j → eqb (field_of j 1 (with_field i 1 m 1)) 0 ≡ not (eqb i j || is_among j before)
    go (same e) = rw (eqb_same i j e, ← e, field_same i 1 m 1 (omega arith)) refl
    go (diff n) = rw (eqb-diff i j n, bit_other i m 1 (omega arith) j (λ e. n (sym e))) (k j h)

-- ---- Nobody twice, with those met before

fresh_from : List ℕ → List ℕ → Bool
fresh_from before [] = true
fresh_from before (x ∷ xs) = not (is_among x before) && fresh_from (x ∷ before) xs

none_of : List ℕ → List ℕ → Bool
none_of before [] = true
none_of before (x ∷ xs) = not (is_among x before) && none_of before xs

swap : (e a n i : Bool) → (not (e || a) && (n && not i)) ≡ ((not a && n) && not (e || i))
swap true a n i = sym (and-false (not a && n))
swap false true n i = refl
swap false false n i = refl

none_of_more : (x : ℕ) (before xs : List ℕ) → none_of (x ∷ before) xs ≡ (none_of before xs && not (is_among x xs))
unfolding none_of is_among
none_of_more x before [] = refl
none_of_more x before (y ∷ ys) = rw (none_of_more x before ys, eqb-sym x y) (swap (eqb y x) (is_among y before) (none_of before ys) (is_among x ys))

regroup : (a n i t : Bool) → (a && ((n && i) && t)) ≡ ((a && n) && (i && t))
regroup true true i t = refl
regroup true false i t = refl
regroup false n i t = refl

fresh_is : (before xs : List ℕ) → fresh_from before xs ≡ (none_of before xs && none_twice xs)
unfolding fresh_from none_of none_twice
fresh_is before [] = refl
fresh_is before (x ∷ xs) =
    rw (fresh_is (x ∷ before) xs, none_of_more x before xs) (regroup (not (is_among x before)) (none_of before xs) (not (is_among x xs)) (none_twice xs))

none_of_none : (xs : List ℕ) → none_of [] xs ≡ true
unfolding none_of is_among
none_of_none [] = refl
none_of_none (x ∷ xs) = none_of_none xs

fresh_twice : (xs : List ℕ) → fresh_from [] xs ≡ none_twice xs
fresh_twice xs = fresh_is [] xs ∙ rw (none_of_none xs) refl

own_word : (q w : ℕ) → w ≢ 0 → eqb w (q + 1) ≡ eqb (w - 1) q
own_word q w z = go (cmp (w - 1) q)
  where
    go : Cmp (w - 1) q → eqb w (q + 1) ≡ eqb (w - 1) q
    go (same e) = eqb_same w (q + 1) (omega (arith, z, e)) ∙ sym (eqb_same (w - 1) q e)
    go (diff n) = eqb-diff w (q + 1) (λ e. n (omega (arith, e))) ∙ sym (eqb-diff (w - 1) q n)

-- ---- Entry by entry

module _ (r : Root) (ps : List Party) (q : ℕ) where
  abbrev theirs : ℕ → Option Claim
  theirs j = requests r (get_or ps j idle)

  -- Whether one of the list hinders, up to party q itself.
  hindered : Option Claim → List ℕ → Bool
  hindered none js = false
  hindered (some c) js = one_before r ps q c js

  hindered_none : (o : Option Claim) → hindered o [] ≡ false
  unfolding hindered one_before
  hindered_none none = refl
  hindered_none (some c) = refl

  hindered_next : (o : Option Claim) (j : ℕ) (js : List ℕ) → hindered o (j ∷ js) ≡ cond (eqb j q) false (hinders o (theirs j) || hindered o js)
  unfolding hindered one_before hinders
  hindered_next none j js = go (eqb j q)
    where
      go : (t : Bool) → false ≡ cond t false false
      go true = refl
      go false = refl
  hindered_next (some c) j js = refl

  rest_sound : List ℕ → List ℕ → Bool
  rest_sound before row = let qs = waiters_in row in fresh_from before qs && all_request r ps qs

  -- What is seen at the end.
  record Seen (s t : Looking) (o : Option Claim) (before row : List ℕ) : Type 0 where
    sound= : t.sound ≡ (s.sound && rest_sound before row)
    waits= : t.waits ≡ (s.waits || is_among q (waiters_in row))
    behind= : t.behind ≡ (s.behind || (not s.waits && hindered o (waiters_in row)))

  -- The entries of the row looked at: the words before its first 0.
  abbrev last : Looking → List ℕ → Looking
  last s row = looked_through r ps q s (take (length (waiters_in row)) row)

  rest_next : (before : List ℕ) (w : ℕ) (ws : List ℕ) → w ≢ 0
      → rest_sound before (w ∷ ws) ≡ ((not (is_among (w - 1) before) && fresh_from ((w - 1) ∷ before) (waiters_in ws))
      && ((ltb (w - 1) r.parties && is_some (theirs (w - 1))) && all_request r ps (waiters_in ws)))
  unfolding rest_sound waiters_in fresh_from all_request
  rest_next before w ws z = rw (eqb-diff w 0 z) refl

  waiters_zero : (w : ℕ) (ws : List ℕ) → w ≡ 0 → waiters_in (w ∷ ws) ≡ []
  unfolding waiters_in
  waiters_zero w ws z = rw (eqb_same w 0 z) refl

  waiters_next : (w : ℕ) (ws : List ℕ) → w ≢ 0 → waiters_in (w ∷ ws) ≡ (w - 1) ∷ waiters_in ws
  unfolding waiters_in
  waiters_next w ws z = rw (eqb-diff w 0 z) refl

  waits_next : (s : Looking) (w : ℕ) (ws : List ℕ) → w ≢ 0
      → ((s.waits || eqb (w - 1) q) || is_among q (waiters_in ws)) ≡ (s.waits || is_among q (waiters_in (w ∷ ws)))
  unfolding is_among
  waits_next s w ws z = rw (waiters_next w ws z) (or_assoc s.waits (eqb (w - 1) q) (is_among q (waiters_in ws)))

  waiters_nil : Unit {0} → waiters_in [] ≡ []
  unfolding waiters_in
  waiters_nil _ = refl

  last_next : (s : Looking) (w : ℕ) (ws : List ℕ) → w ≢ 0 → last s (w ∷ ws) ≡ last (looked_at s r ps q w) ws
  unfolding looked_through
  last_next s w ws z = rw (waiters_next w ws z) refl

  idle-asks : requests r idle ≡ none
  unfolding requests has_step
  idle-asks = refl

  hinders_none : (o : Option Claim) → hinders o none ≡ false
  unfolding hinders conflicts
  hinders_none none = refl
  hinders_none (some c) = refl

  module _ (small : r.parties ≤ 16) (long : length ps ≡ r.parties) (level : r.level ≤ 8) where
    past_asks : (j : ℕ) → r.parties ≤ j → theirs j ≡ none
    past_asks j h = ap (requests r) (get_or-eq_default ps idle {n = j} (omega (arith, h, long))) ∙ idle-asks

    -- An entry more is its party's request, or damage where there is none.
    looked_is : (s : Looking) (w : ℕ) → w ≢ 0 → looked_at s r ps q w ≡ meets (eqb (w - 1) q) (w - 1) (theirs (w - 1)) s
    unfolding looked_at named
    looked_is s w z = go (ord (w - 1) r.parties)
      where
        go : Ord (w - 1) r.parties → met_by (cond (not (eqb w 0) && leb w (min (length ps) 16)) (Some (w - 1)) None) s r ps q w ≡ meets (eqb (w - 1) q) (w - 1) (theirs (w - 1)) s
        go (lt h t) =
            let told : asks r (get_or ps (w - 1) idle) ≡ theirs (w - 1) = asks_sound r (get_or ps (w - 1) idle) level in
            rw (eqb-diff w 0 z, le-leb w (min (length ps) 16) (omega (arith, h, long, small))) (ap (λ (c : Option Claim). meets (eqb (w - 1) q) (w - 1) c s) told)
        go (ge h t) =
            rw (eqb-diff w 0 z, lt-leb w (min (length ps) 16) (omega (arith, h, long, z)), past_asks (w - 1) h) (ap (λ (b : Bool). damaged_by b s) (own_word q w z))

    module _ (o : Option Claim) where
      seen_empty : (s : Looking) (before row : List ℕ) → waiters_in row ≡ [] → Seen s (last s row) o before row
      unfolding looked_through is_among rest_sound fresh_from all_request
      seen_empty s before row e = record {
        sound= = rw e (and_all s.sound);
        waits= = rw e (or_none s.waits);
        behind= = rw (e, hindered_none o, and-false (not s.waits)) (or_none s.behind);
      }

      seen : (s : Looking) (before row : List ℕ) → s.mine ≡ request_in o → Marks s.met before → Seen s (last s row) o before row
      unfolding looked_through Marks rest_sound fresh_from is_some
      seen s before [] mine k = seen_empty s before [] (waiters_nil tt)
      seen s before (w ∷ ws) mine k = go (cmp w 0) (theirs (w - 1)) refl
          (seen (damaged_by (eqb (w - 1) q) s) before ws mine k)
          (λ c. seen (meets (eqb (w - 1) q) (w - 1) (some c) s) ((w - 1) ∷ before) ws mine (marks_more s.met before (w - 1) k))
        where
          bad : Looking
          bad = damaged_by (eqb (w - 1) q) s

          good : Claim → Looking
          good c = meets (eqb (w - 1) q) (w - 1) (some c) s

          go : Cmp w 0 → (d : Option Claim) → theirs (w - 1) ≡ d
              → Seen bad (last bad ws) o before ws → ((c : Claim) → Seen (good c) (last (good c) ws) o ((w - 1) ∷ before) ws)
              → Seen s (last s (w ∷ ws)) o before (w ∷ ws)
          go (same z) d e f g = seen_empty s before (w ∷ ws) (waiters_zero w ws z)
          go (diff z) none e f g =
              let at : last s (w ∷ ws) ≡ last bad ws = last_next s w ws z
              ∙ ap (λ (x : Looking). last x ws) (looked_is s w z ∙ ap (λ (c : Option Claim). meets (eqb (w - 1) q) (w - 1) c s) e) in
              rw at (record {
                sound= = f.sound= ∙ rw (rest_next before w ws z, e)
                    (sound_dead s.sound (not (is_among (w - 1) before) && fresh_from ((w - 1) ∷ before) (waiters_in ws)) (ltb (w - 1) r.parties) (all_request r ps (waiters_in ws)));
                waits= = f.waits= ∙ waits_next s w ws z;
                behind= = f.behind= ∙ rw (waiters_next w ws z, hindered_next o (w - 1) (waiters_in ws), e, hinders_none o)
                    (behind_dead s.behind s.waits (eqb (w - 1) q) (hindered o (waiters_in ws)));
              })
          go (diff z) (some c) e f g =
              let inside : w - 1 < r.parties = within e (ord (w - 1) r.parties) in
              let at : last s (w ∷ ws) ≡ last (good c) ws = last_next s w ws z
              ∙ ap (λ (x : Looking). last x ws) (looked_is s w z ∙ ap (λ (c : Option Claim). meets (eqb (w - 1) q) (w - 1) c s) e) in
              rw at (record {
                sound= = (g c).sound= ∙ rw (rest_next before w ws z, lt-ltb (w - 1) r.parties inside, ap is_some e, k (w - 1) (omega (arith, inside, small)))
                    (sound_mix s.sound (not (is_among (w - 1) before)) (fresh_from ((w - 1) ∷ before) (waiters_in ws)) (all_request r ps (waiters_in ws)));
                waits= = (g c).waits= ∙ waits_next s w ws z;
                behind= = (g c).behind= ∙ rw (waiters_next w ws z, hindered_next o (w - 1) (waiters_in ws), mine, e, hindered_is o c)
                    (behind_mix s.behind s.waits (eqb (w - 1) q) (hinders o (some c)) (hindered o (waiters_in ws)));
              })
            where
              within : theirs (w - 1) ≡ some c → Ord (w - 1) r.parties → w - 1 < r.parties
              within e (lt h t) = h
              within e (ge h t) = absurd (none-some (sym (past_asks (w - 1) h) ∙ e))

    behind_is : (o : Option Claim) (row : List ℕ) → hindered o (waiters_in row) ≡ behind_for r ps row q o
    unfolding hindered behind_for
    behind_is none row = refl
    behind_is (some c) row = refl

    sound_is : (row : List ℕ) → (all_zero (drop (length (waiters_in row)) row) && rest_sound [] row) ≡ row_sound r ps row
    unfolding rest_sound row_sound
    sound_is row = rw (fresh_twice (waiters_in row)) (sym (and_assoc (all_zero (drop (length (waiters_in row)) row)) (none_twice (waiters_in row)) (all_request r ps (waiters_in row))))

    -- Where a party stands, as the row is looked through, is its place.
    pub placed_right : (row : List ℕ) → stands_of r ps row q ≡ place_of r ps row q
    unfolding stands_of first_seen stands_behind
    placed_right row =
        let mine : asks r (get_or ps q idle) ≡ theirs q = asks_sound r (get_or ps q idle) level in
        let start : Looking = first_seen r (get_or ps q idle) (all_zero (drop (length (waiters_in row)) row)) in
        let h = seen (theirs q) start [] row (ap request_in mine) marks-none in
        rw (h.sound= ∙ sound_is row, h.waits=, h.behind= ∙ behind_is (theirs q) row) refl

-- Where nobody waits.
zero_waiters : (row : List ℕ) → all_zero row ≡ true → waiters_in row ≡ []
unfolding all_zero waiters_in
zero_waiters [] e = refl
zero_waiters (w ∷ ws) e = rw (and_both (eqb w 0) (all_zero ws) e).0 refl

nobody_before : (r : Root) (ps : List Party) (q : ℕ) (row : List ℕ) (o : Option Claim) → all_zero row ≡ true → behind_for r ps row q o ≡ false
unfolding behind_for one_before
nobody_before r ps q row none e = refl
nobody_before r ps q row (some c) e = rw (zero_waiters row e) refl

pub alone_right : (r : Root) (ps : List Party) (q : ℕ) (row : List ℕ) → all_zero row ≡ true → alone ≡ place_of r ps row q
unfolding row_sound is_among stands_behind none_twice all_request
alone_right r ps q row e = rw (nobody_before r ps q row (requests r (get_or ps q idle)) e, zero_waiters row e, e) refl

-- In a row without a gap, a party's word is there where the party waits.
zeros_lack : (q : ℕ) (row : List ℕ) → all_zero row ≡ true → is_among (q + 1) row ≡ false
unfolding all_zero is_among
zeros_lack q [] e = refl
zeros_lack q (w ∷ ws) e =
    let b = and_both (eqb w 0) (all_zero ws) e in
    let z = eqb-true w 0 b.0 in
    rw (eqb-diff w (q + 1) (λ f. omega (arith, z, f)), zeros_lack q ws b.1) refl

pub waits-row : (q : ℕ) (row : List ℕ) → all_zero (drop (length (waiters_in row)) row) ≡ true → is_among (q + 1) row ≡ is_among q (waiters_in row)
unfolding waiters_in is_among
waits-row q [] e = refl
waits-row q (w ∷ ws) e = go (cmp w 0) (λ f. waits-row q ws f)
  where
    go : Cmp w 0 → (all_zero (drop (length (waiters_in ws)) ws) ≡ true → is_among (q + 1) ws ≡ is_among q (waiters_in ws)) → is_among (q + 1) (w ∷ ws) ≡ is_among q (waiters_in (w ∷ ws))
    go (same z) ih = zeros_lack q (w ∷ ws) (rw (eqb_same w 0 z) at e) ∙ rw (eqb_same w 0 z) refl
    go (diff z) ih = rw (eqb-diff w 0 z, ← own_word q w z, ih (rw (eqb-diff w 0 z) at e)) refl
