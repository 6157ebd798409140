-- In an order whose points ascend, of two operations the one with the lower point stands before the other.
-- Main statement: stands_before.
use mathlib.Core.Path.{◌≡◌, sym, ap, ◌∙◌}
use mathlib.Core.Logic.{◌⊎◌, inl, inr}
use mathlib.Core.Bool.{true}
use mathlib.Core.List.Memᴰ
use mathlib.Core.List.{List, [], ◌∷◌, ◌++◌, Memᴰ}
use Prim.Native.Nat.{ℕ, ◌+◌, ◌≤◌, ◌<◌}
use native.Mathlib.Omega.{arith}
use lib.Dec.{leb}
use Rattle.theory.specs.Linearization.{Linearized, ascending_from, StandsBefore}
use Rattle.model.proofs.Laws.Lists.{and_both, leb-true}

-- A list cut at one of its entries.
record Cut (y : Linearized) (xs : List Linearized) : Type 0 where
  front : List Linearized
  back : List Linearized
  parts : xs ≡ front ++ (y ∷ back)

cut_at : (y : Linearized) (xs : List Linearized) → Memᴰ y xs → Cut y xs
cut_at y [] m = absurd (Memᴰ.not-nil m)
cut_at y (x ∷ xs) m = go (λ t. cut_at y xs t) (Memᴰ.cases_cons m)
  where
    go : (Memᴰ y xs → Cut y xs) → (y ≡ x) ⊎ Memᴰ y xs → Cut y (x ∷ xs)
    go f (inl i) = record { front = []; back = xs; parts = ap (λ (z : Linearized). z ∷ xs) (sym i) }
    go f (inr t) = let c = f t in record { front = x ∷ c.front; back = c.back; parts = ap (λ (zs : List Linearized). x ∷ zs) c.parts }

module _ (n : ℕ) (x : Linearized) (xs : List Linearized) (up : ascending_from n (x ∷ xs) ≡ true) where
  first_late : n ≤ x.point
  unfolding ascending_from
  first_late = leb-true n x.point (and_both (leb n x.point) (ascending_from (x.point + 1) xs) up).0

  rest_ascends : ascending_from (x.point + 1) xs ≡ true
  unfolding ascending_from
  rest_ascends = (and_both (leb n x.point) (ascending_from (x.point + 1) xs) up).1

-- All points are at the bound or later.
all_late : (n : ℕ) (xs : List Linearized) → ascending_from n xs ≡ true → (y : Linearized) → Memᴰ y xs → n ≤ y.point
all_late n [] up y m = absurd (Memᴰ.not-nil m)
all_late n (x ∷ xs) up y m = go (λ t. all_late (x.point + 1) xs (rest_ascends n x xs up) y t) (Memᴰ.cases_cons m)
  where
    go : (Memᴰ y xs → x.point + 1 ≤ y.point) → (y ≡ x) ⊎ Memᴰ y xs → n ≤ y.point
    go f (inl i) = omega (arith, first_late n x xs up, ap (λ (z : Linearized). z.point) i)
    go f (inr t) = omega (arith, first_late n x xs up, f t)

pub stands_before : (n : ℕ) (xs : List Linearized) → ascending_from n xs ≡ true → (x y : Linearized) → Memᴰ x xs → Memᴰ y xs → x.point < y.point → StandsBefore x y xs
stands_before n [] up x y p q l = absurd (Memᴰ.not-nil p)
stands_before n (z ∷ zs) up x y p q l =
    go (λ s t. stands_before (z.point + 1) zs (rest_ascends n z zs up) x y s t l) (Memᴰ.cases_cons p) (Memᴰ.cases_cons q)
  where
    go : (Memᴰ x zs → Memᴰ y zs → StandsBefore x y zs) → (x ≡ z) ⊎ Memᴰ x zs → (y ≡ z) ⊎ Memᴰ y zs → StandsBefore x y (z ∷ zs)
    go f (inl i) (inl j) = absurd (omega (arith, ap (λ (w : Linearized). w.point) (i ∙ sym j)))
    go f (inl i) (inr t) =
        let c = cut_at y zs t in
        record { front = []; between = c.front; back = c.back; parts = ap (λ (w : Linearized). w ∷ zs) (sym i) ∙ ap (λ (ws : List Linearized). x ∷ ws) c.parts }
    go f (inr s) (inl j) = absurd (omega (arith, all_late (z.point + 1) zs (rest_ascends n z zs up) x s, ap (λ (w : Linearized). w.point) j))
    go f (inr s) (inr t) =
        let c = f s t in
        record { front = z ∷ c.front; between = c.between; back = c.back; parts = ap (λ (ws : List Linearized). z ∷ ws) c.parts }
