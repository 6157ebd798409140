-- At rest every overflow page is free or in a live chain, so the free count is what the file leaves.
-- Main statements: idle_at_rest (at rest every record is the zero record); whole_at_rest.
use mathlib.Core.Path.{◌≡◌, refl, ap, ◌∙◌}
use mathlib.Core.Logic.{◌≢◌}
use mathlib.Core.List.{List, [], ◌∷◌, ◌++◌}
use Prim.Native.Nat.{ℕ, zero, suc, ◌+◌, ◌≤◌, ◌<◌}
use native.Mathlib.Omega.{arith}
use lib.ListN.{length, length-append, get_or-eq_default}
use Rattle.model.specs.Records.{idle}
use Rattle.model.specs.Memory.{Memory, party_at}
use Rattle.model.specs.Book.{Book}
use Rattle.model.specs.Chains.{chain_of, pages_in}
use Rattle.model.specs.PagePlaces.{count, free_list, chained_from, hand_if, owes_old, has_built, in_hand, in_hands, places_of, PagesPlaced}
use Rattle.model.specs.Progress.{under_way}
use Rattle.theory.specs.Demands.{AtRest}
use Rattle.theory.specs.Sequential.{File}
use Rattle.theory.proofs.Singly.StepWords.{pages_in_use}
use Rattle.model.proofs.Laws.Lists.{Cmp, same, diff, cmp, All, all_from, among_count, not-both, eqb_same, eqb-diff, count_append, count_nil, count_cons}
use Rattle.model.proofs.Laws.Filling.{IsOverflow}
use Rattle.model.proofs.Laws.Reading.{length_overflow}
use Rattle.model.proofs.Invariant.Ghost.{root_extent, size}
use Rattle.model.proofs.Invariant.Statement.{restructures, NoPages, Inv, scene_of}
use Rattle.theory.proofs.UnderWay.{entered_under, Met, no_party, nothing-begun, under_way_lem, meets}
use Rattle.theory.proofs.Places.{free_listed, chain_listed, pages_placed}
use Rattle.model.proofs.Laws.Together.{listed}
use Rattle.theory.proofs.Singly.AtRest.{live_file, file_read, live_pages, Whole}

-- ---- Numbers counted in a list

-- How often the v numbers from p on are in a list, together.
sum_from : ℕ → ℕ → List ℕ → ℕ
sum_from p zero xs = 0
sum_from p (suc v) xs = count (p + v) xs + sum_from p v xs

sum_nil : (p v : ℕ) → sum_from p v [] ≡ 0
unfolding sum_from
sum_nil p zero = refl
sum_nil p (suc v) = omega (arith, sum_nil p v, count_nil (p + v))

sum_append : (p v : ℕ) (xs ys : List ℕ) → sum_from p v (xs ++ ys) ≡ sum_from p v xs + sum_from p v ys
unfolding sum_from
sum_append p zero xs ys = omega arith
sum_append p (suc v) xs ys = omega (arith, count_append (p + v) xs ys, sum_append p v xs ys)

-- A number is one of them at most once.
sum_off : (p v x : ℕ) → p + v ≤ x → sum_from p v (x ∷ []) ≡ 0
unfolding sum_from
sum_off p zero x h = refl
sum_off p (suc v) x h = omega (arith, sum_off p v x (omega arith), rw (eqb-diff x (p + v) (omega arith)) at (count_cons (p + v) x []), count_nil (p + v))

sum_one : (p v x : ℕ) → sum_from p v (x ∷ []) ≤ 1
unfolding sum_from
sum_one p zero x = omega arith
sum_one p (suc v) x = go (cmp x (p + v)) (sum_one p v x)
  where
    go : Cmp x (p + v) → sum_from p v (x ∷ []) ≤ 1 → count (p + v) (x ∷ []) + sum_from p v (x ∷ []) ≤ 1
    go (same s) ih = omega (arith, sum_off p v x (omega arith), rw (eqb_same x (p + v) s) at (count_cons (p + v) x []), count_nil (p + v))
    go (diff d) ih = omega (arith, rw (eqb-diff x (p + v) d) at (count_cons (p + v) x []), count_nil (p + v))

sum_few : (p v : ℕ) (xs : List ℕ) → sum_from p v xs ≤ length xs
sum_few p v [] = omega (arith, sum_nil p v)
sum_few p v (x ∷ xs) = omega (arith, sum_append p v (x ∷ []) xs, sum_one p v x, sum_few p v xs)

sum_many : (p v : ℕ) (xs : List ℕ) → ((x : ℕ) → p ≤ x → x < p + v → 1 ≤ count x xs) → v ≤ sum_from p v xs
unfolding sum_from
sum_many p zero xs f = omega arith
sum_many p (suc v) xs f = omega (arith, f (p + v) (omega arith) (omega arith), sum_many p v xs (λ x h l. f x h (omega arith)))

-- ---- At rest

module _ (m : Memory) (b : Book) (i : Inv m b) (rest : AtRest b) where
  -- Every record is the zero record, and no party has pages.
  party_rests : (q : ℕ) → (party_at m.parties q ≡ idle) × NoPages (scene_of m i.ghost b) q
  party_rests q = go (meets m b i q)
    where
      go : Met m b i q → (party_at m.parties q ≡ idle) × NoPages (scene_of m i.ghost b) q
      go (no_party h _ n _) = (get_or-eq_default m.parties idle (omega (arith, i.parties_many)), n)
      go (nothing-begun _ e _ n _) = (e, n)
      go (under_way_lem _ e k _ _) = absurd (not-both (under_way b q) (entered_under b q e k.entry) (rest q))

  pub idle_at_rest : (q : ℕ) → party_at m.parties q ≡ idle
  idle_at_rest q = (party_rests q).0

  pub no_pages_at_rest : (q : ℕ) → NoPages (scene_of m i.ghost b) q
  no_pages_at_rest q = (party_rests q).1

  pub live_at_rest : i.ghost.live ≡ root_extent m.root
  unfolding restructures
  live_at_rest = (i.extents_ok.at_rest_lem (λ q. rw (idle_at_rest q) refl)).0

  abbrev many : ℕ
  many = size m.root.originals i.ghost.live

  abbrev all : List ℕ
  all = free_list m ++ chained_from m many 0

  -- Nobody has pages in hand, so the free list and the chains are all places.
  none_in_hand : (x q : ℕ) → in_hands m x q ≡ []
  unfolding in_hands in_hand hand_if owes_old has_built
  none_in_hand zero q = refl
  none_in_hand (suc x) q = rw (idle_at_rest q, none_in_hand x (q + 1)) refl

  all_places : (x : ℕ) → count x all ≡ count x (places_of m many)
  unfolding places_of
  all_places x =
      omega (
        arith,
        count_append x (free_list m) (chained_from m many 0),
        count_append x (free_list m) (chained_from m many 0 ++ in_hands m m.root.parties 0),
        count_append x (chained_from m many 0) (in_hands m m.root.parties 0),
        ap (count x) (none_in_hand m.root.parties 0) ∙ count_nil x,
      )

  -- They have every overflow page once, and nothing else.
  placed : PagesPlaced m many
  placed = pages_placed m b i

  covered : (x : ℕ) → m.root.primaries ≤ x → x < m.root.primaries + m.root.overflow → count x all ≡ 1
  covered x low high = all_places x ∙ placed.once x low high

  bounds : (x : ℕ) → count x all ≢ 0 → (m.root.primaries ≤ x) × (x < m.root.primaries + m.root.overflow)
  bounds x n = placed.inside x (λ e. n (all_places x ∙ e))

  once_in_all : (x : ℕ) → count x all ≤ 1
  once_in_all x = go (cmp (count x all) 0)
    where
      go : Cmp (count x all) 0 → count x all ≤ 1
      go (same e) = omega arith
      go (diff n) = let h = bounds x n in omega (arith, covered x h.0 h.1)

  all_overflow : All (IsOverflow m.root) all
  all_overflow = all_from (IsOverflow m.root) all (λ x e. let h = bounds x (omega (arith, among_count x all e)) in record { above = h.0; below = h.1 })

  -- The file counts the pages of its chains.
  counted : (x c : ℕ) → c + x ≡ many → pages_in_use m.root.capacity (listed i.ghost.records x c) ≡ length (chained_from m x c)
  unfolding pages_in_use listed chained_from
  counted zero c s = refl
  counted (suc x) c s =
      omega (
        arith,
        live_pages m b i c (omega arith),
        ap length (chain_listed m b i c (omega arith)),
        counted x (c + 1) (omega arith),
        length-append (pages_in (chain_of m.root m.pages c)) (chained_from m x (c + 1)),
      )

  pub whole_at_rest : Whole m
  unfolding live_file
  whole_at_rest = record {
    all_pages = omega (
      arith,
      ap (λ (f : File). pages_in_use m.root.capacity f.chains) (file_read m b i live_at_rest),
      counted many 0 (omega arith),
      i.pages_ok.free_count,
      ap length (free_listed m b i),
      length-append (free_list m) (chained_from m many 0),
      sum_many m.root.primaries m.root.overflow all (λ x low high. omega (arith, covered x low high)),
      sum_few m.root.primaries m.root.overflow all,
      length_overflow m.root all all_overflow once_in_all,
    );
  }
