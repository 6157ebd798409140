-- Numbers that a list does not have, and lists without repeats.
-- Main definitions: Outside, Distinct.
-- Main statements: outside_count, distinct_count (from how often a number is in the list); distinct_left, distinct_right, distinct_apart (a list cut in two).
use mathlib.Core.Path.{◌≡◌, refl, sym}
use mathlib.Core.Logic.{◌≢◌}
use mathlib.Core.List.{List, [], ◌∷◌, ◌++◌}
use Prim.Native.Nat.{ℕ, ◌+◌, ◌≤◌}
use native.Mathlib.Omega.{arith}
use Rattle.model.proofs.Invariant.Ghost.{count}
use Rattle.model.proofs.Laws.Lists.{All, all_left, all_right, eqb_same, count_cons}

-- y is none of the elements.
abbrev pub Outside : ℕ → List ℕ → Type 0
Outside y xs = All (λ x. y ≢ x) xs

-- No element stands twice.
abbrev pub Distinct : List ℕ → Type 0
Distinct [] = Unit {0}
Distinct (x ∷ xs) = Outside x xs × Distinct xs

count-first : (y x : ℕ) (xs : List ℕ) → y ≡ x → count y (x ∷ xs) ≡ 1 + count y xs
count-first y x xs e = rw (count_cons y x xs, eqb_same x y (sym e))

count_rest : (y x : ℕ) (xs : List ℕ) → count y xs ≤ count y (x ∷ xs)
count_rest y x xs = omega (arith, count_cons y x xs)

pub outside_count : (y : ℕ) (xs : List ℕ) → count y xs ≡ 0 → Outside y xs
outside_count y [] z = tt
outside_count y (x ∷ xs) z = ((λ e. let h = count-first y x xs e in omega arith), outside_count y xs (let l = count_rest y x xs in omega arith))

pub distinct_count : (xs : List ℕ) → ((x : ℕ) → count x xs ≤ 1) → Distinct xs
distinct_count [] f = tt
distinct_count (x ∷ xs) f =
    let here = f x in
    let one = count-first x x xs refl in
    (outside_count x xs (omega arith), distinct_count xs (λ y. let h = f y in let l = count_rest y x xs in omega arith))

-- ---- A list cut in two

pub distinct_left : (xs ys : List ℕ) → Distinct (xs ++ ys) → Distinct xs
distinct_left [] ys d = tt
distinct_left (x ∷ xs) ys d = (all_left (λ y. x ≢ y) xs ys d.0, distinct_left xs ys d.1)

pub distinct_right : (xs ys : List ℕ) → Distinct (xs ++ ys) → Distinct ys
distinct_right [] ys d = d
distinct_right (x ∷ xs) ys d = distinct_right xs ys d.1

pub distinct_apart : (xs ys : List ℕ) → Distinct (xs ++ ys) → All (λ x. Outside x ys) xs
distinct_apart [] ys d = tt
distinct_apart (x ∷ xs) ys d = (all_right (λ y. x ≢ y) xs ys d.0, distinct_apart xs ys d.1)
