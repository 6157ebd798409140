-- Tools over tests, numbers and lists that the other proof files share: ways to branch, how often a number is in a list, whether it is,
-- and facts of every element.
-- Main statements: cmp, ord, tell (branch by data that carry the facts); cond_ind; count_append, count_cut, count-reverse; among_counts (a number is in a list
-- where its count is not 0); All, all_in, all_from; Numbered, numbered_at, numbered_below (facts of a table's entries
-- by their numbers);
-- all_pass, passed_at, passed_below (the same by computing); front_part (the front of a buffer, as it is lent).
use mathlib.Core.Path.{◌≡◌, refl, sym, ap, ◌∙◌, subst}
use mathlib.Core.Logic.{◌≢◌, ◌⊎◌, inl, inr}
use mathlib.Core.Bool.{Bool, true, false, cond, ◌&&◌, ◌||◌, or_assoc}
use mathlib.Core.List.{List, [], ◌∷◌, ◌++◌, reverse, reverse_aux}
use Prim.Native.Nat.{ℕ, zero, suc, ◌+◌, ◌-◌, ◌≤◌, ◌<◌}
use native.Mathlib.Nat.{add-zero, add-suc, suc-add, zero-add, sub-zero}
use native.Mathlib.Omega.{arith}
use lib.ListN.{length, get_or, take, drop, take-append-drop}
use lib.Dec.{eqb, ltb}
pub use mathlib.Core.Bool.{true≢false, false≢true}
pub use borrow.Author.Tests.{eqb-true, eqb-false, eq-eqb as eqb_same, ne_eqb as eqb-diff, ltb-true, ltb-false, lt-ltb, le-ltb, leb-true, leb-false, le-leb, lt-leb, not-true, not-false}
use Rattle.model.specs.FreeList.{is_among}
use Rattle.model.proofs.Invariant.Ghost.{count}

-- ---- Ways to branch

-- A test passes or fails.
pub data Told (t : Bool) : Type 0 where
  holds : t ≡ true → Told t
  fails : t ≡ false → Told t

pub tell : (t : Bool) → Told t
tell true = holds refl
tell false = fails refl

-- Two numbers are equal or not.
pub data Cmp (m n : ℕ) : Type 0 where
  same : m ≡ n → Cmp m n
  diff : m ≢ n → Cmp m n

pub cmp : (m n : ℕ) → Cmp m n
cmp m n = go (tell (eqb m n))
  where
    go : Told (eqb m n) → Cmp m n
    go (holds e) = same (eqb-true m n e)
    go (fails e) = diff (eqb-false m n e)

-- A number is below another or not, with the test's value.
pub data Ord (a b : ℕ) : Type 0 where
  lt : a < b → ltb a b ≡ true → Ord a b
  ge : b ≤ a → ltb a b ≡ false → Ord a b

pub ord : (a b : ℕ) → Ord a b
ord a b = go (tell (ltb a b))
  where
    go : Told (ltb a b) → Ord a b
    go (holds e) = lt (ltb-true a b e) e
    go (fails e) = ge (ltb-false a b e) e

-- ---- Tests

pub cond-true : {A : Type 0} (t : Bool) (x y : A) → t ≡ true → cond t x y ≡ x
cond-true t x y e = rw e

pub cond-false : {A : Type 0} (t : Bool) (x y : A) → t ≡ false → cond t x y ≡ y
cond-false t x y e = rw e

-- What holds of each arm, knowing the test, holds of the branch.
pub cond_ind : {A : Type 0} (P : A → Type 0) (t : Bool) (x y : A) → (t ≡ true → P x) → (t ≡ false → P y) → P (cond t x y)
cond_ind P true x y f g = f refl
cond_ind P false x y f g = g refl

-- A test does not both pass and fail.
pub not-both : (t : Bool) → t ≡ true → t ≡ false → ⊥
not-both t e f = true≢false (sym e ∙ f)

-- Both sides of a passed &&, and back.
pub and_both : (a b : Bool) → (a && b) ≡ true → (a ≡ true) × (b ≡ true)
and_both true b e = (refl, e)
and_both false b e = absurd (false≢true e)

pub both-and : {a b : Bool} → a ≡ true → b ≡ true → (a && b) ≡ true
both-and e f = rw (e, f)

-- A failed side fails the &&; a failed && has a failed side.
pub left_fails : {a : Bool} (b : Bool) → a ≡ false → (a && b) ≡ false
left_fails b e = rw e

pub right_fails : (a : Bool) {b : Bool} → b ≡ false → (a && b) ≡ false
right_fails true e = e
right_fails false e = refl

pub and_fails : (a b : Bool) → (a && b) ≡ false → (a ≡ false) ⊎ (b ≡ false)
and_fails true b e = inr e
and_fails false b e = inl refl

-- Neither side of a failed ||, and back.
pub or_neither : (a b : Bool) → (a || b) ≡ false → (a ≡ false) × (b ≡ false)
or_neither true b e = absurd (true≢false e)
or_neither false b e = (refl, e)

pub neither_or : {a b : Bool} → a ≡ false → b ≡ false → (a || b) ≡ false
neither_or e f = rw (e, f)

-- A passed side passes the ||; a passed || has a passed side.
pub left_or : {a : Bool} (b : Bool) → a ≡ true → (a || b) ≡ true
left_or b e = rw e

pub right_or : (a : Bool) {b : Bool} → b ≡ true → (a || b) ≡ true
right_or true e = refl
right_or false e = e

pub or_either : (a b : Bool) → (a || b) ≡ true → (a ≡ true) ⊎ (b ≡ true)
or_either true b e = inl refl
or_either false b e = inr e

-- ---- How often a number is in a list

pub count_nil : (x : ℕ) → count x [] ≡ 0
unfolding count
count_nil x = refl

pub count_cons : (x y : ℕ) (ys : List ℕ) → count x (y ∷ ys) ≡ cond (eqb y x) 1 0 + count x ys
unfolding count
count_cons x y ys = refl

pub count_append : (x : ℕ) (xs ys : List ℕ) → count x (xs ++ ys) ≡ count x xs + count x ys
unfolding count
count_append x [] ys = omega arith
count_append x (y ∷ xs) ys = omega (arith, count_append x xs ys)

-- What is taken off the front and what is left.
pub count_cut : (x k : ℕ) (xs : List ℕ) → count x (take k xs) + count x (drop k xs) ≡ count x xs
count_cut x k xs = sym (count_append x (take k xs) (drop k xs)) ∙ ap (count x) (take-append-drop k xs)

pub count-reverse_onto : (x : ℕ) (xs ys : List ℕ) → count x (reverse_aux xs ys) ≡ count x xs + count x ys
unfolding count
count-reverse_onto x [] ys = omega arith
count-reverse_onto x (y ∷ xs) ys = omega (arith, count-reverse_onto x xs (y ∷ ys))

pub count-reverse : (x : ℕ) (xs : List ℕ) → count x (reverse xs) ≡ count x xs
count-reverse x xs = omega (arith, count-reverse_onto x xs [], count_nil x)

-- ---- Whether a number is in a list

-- It is where its count is not 0.
pub among_counts : (x : ℕ) (xs : List ℕ) → is_among x xs ≡ ltb 0 (count x xs)
unfolding is_among count
among_counts x [] = refl
among_counts x (y ∷ ys) = go (cmp y x) (among_counts x ys)
  where
    go : Cmp y x → is_among x ys ≡ ltb 0 (count x ys) → (eqb y x || is_among x ys) ≡ ltb 0 (cond (eqb y x) 1 0 + count x ys)
    go (same e) ih = rw (eqb_same y x e) (sym (lt-ltb 0 (1 + count x ys) (omega arith)))
    go (diff n) ih = rw (eqb-diff y x n, zero-add) ih

pub among_count : (x : ℕ) (xs : List ℕ) → is_among x xs ≡ true → 1 ≤ count x xs
among_count x xs e = ltb-true 0 (count x xs) (sym (among_counts x xs) ∙ e)

pub count_among : (x : ℕ) (xs : List ℕ) → 1 ≤ count x xs → is_among x xs ≡ true
count_among x xs h = among_counts x xs ∙ lt-ltb 0 (count x xs) h

pub absent_count : (x : ℕ) (xs : List ℕ) → is_among x xs ≡ false → count x xs ≡ 0
absent_count x xs e = let h = ltb-false 0 (count x xs) (sym (among_counts x xs) ∙ e) in omega arith

pub count_absent : (x : ℕ) (xs : List ℕ) → count x xs ≡ 0 → is_among x xs ≡ false
count_absent x xs e = among_counts x xs ∙ le-ltb 0 (count x xs) (omega arith)

-- The first of a list is in it, and so is what is in the rest; and there is nothing else.
pub among_first : (x : ℕ) (xs : List ℕ) → is_among x (x ∷ xs) ≡ true
unfolding is_among
among_first x xs = left_or (is_among x xs) (eqb_same x x refl)

pub among_rest : (x y : ℕ) (ys : List ℕ) → is_among x ys ≡ true → is_among x (y ∷ ys) ≡ true
unfolding is_among
among_rest x y ys e = right_or (eqb y x) e

pub first_or_rest : (x y : ℕ) (ys : List ℕ) → is_among x (y ∷ ys) ≡ true → (y ≡ x) ⊎ (is_among x ys ≡ true)
unfolding is_among
first_or_rest x y ys e = go (tell (eqb y x))
  where
    go : Told (eqb y x) → (y ≡ x) ⊎ (is_among x ys ≡ true)
    go (holds f) = inl (eqb-true y x f)
    go (fails f) = inr (rw f at e)

pub among_append : (x : ℕ) (xs ys : List ℕ) → is_among x (xs ++ ys) ≡ (is_among x xs || is_among x ys)
unfolding is_among
among_append x [] ys = refl
among_append x (y ∷ xs) ys = rw (among_append x xs ys) (sym (or_assoc (eqb y x) (is_among x xs) (is_among x ys)))

-- What is in one list is in another that counts it at least as often.
pub among_more : (x : ℕ) (xs ys : List ℕ) → count x xs ≤ count x ys → is_among x xs ≡ true → is_among x ys ≡ true
among_more x xs ys h e = let k = among_count x xs e in count_among x ys (omega arith)

pub among_take : (x k : ℕ) (xs : List ℕ) → is_among x (take k xs) ≡ true → is_among x xs ≡ true
among_take x k xs = among_more x (take k xs) xs (omega (arith, count_cut x k xs))

pub among_drop : (x k : ℕ) (xs : List ℕ) → is_among x (drop k xs) ≡ true → is_among x xs ≡ true
among_drop x k xs = among_more x (drop k xs) xs (omega (arith, count_cut x k xs))

pub among_reverse : (x : ℕ) (xs : List ℕ) → is_among x (reverse xs) ≡ is_among x xs
among_reverse x xs = rw (among_counts x (reverse xs), among_counts x xs, count-reverse)

-- ---- Facts of every element

abbrev pub All : {A : Type 0} → (A → Type 0) → List A → Type 0
All P [] = Unit {0}
All P (x ∷ xs) = P x × All P xs

-- The proofs of a table, written in a row; the last is tt.
infixr 5 ◌▸◌
abbrev pub ◌▸◌ : {A B : Type 0} → A → B → A × B
a ▸ b = (a, b)

module _ {A : Type 0} where
  pub all_map : {P Q : A → Type 0} (xs : List A) → ((x : A) → P x → Q x) → All P xs → All Q xs
  all_map [] f a = tt
  all_map (x ∷ xs) f a = (f x a.0, all_map xs f a.1)

  pub all_zip : {P Q R : A → Type 0} (xs : List A) → ((x : A) → P x → Q x → R x) → All P xs → All Q xs → All R xs
  all_zip [] f a b = tt
  all_zip (x ∷ xs) f a b = (f x a.0 b.0, all_zip xs f a.1 b.1)

  pub all_append : (P : A → Type 0) (xs ys : List A) → All P xs → All P ys → All P (xs ++ ys)
  all_append P [] ys a b = b
  all_append P (x ∷ xs) ys a b = (a.0, all_append P xs ys a.1 b)

  pub all_left : (P : A → Type 0) (xs ys : List A) → All P (xs ++ ys) → All P xs
  all_left P [] ys a = tt
  all_left P (x ∷ xs) ys a = (a.0, all_left P xs ys a.1)

  pub all_right : (P : A → Type 0) (xs ys : List A) → All P (xs ++ ys) → All P ys
  all_right P [] ys a = a
  all_right P (x ∷ xs) ys a = all_right P xs ys a.1

-- What holds of every element holds of each number in the list, and back.
pub all_in : (P : ℕ → Type 0) (x : ℕ) (xs : List ℕ) → All P xs → is_among x xs ≡ true → P x
unfolding is_among
all_in P x [] a e = absurd (false≢true e)
all_in P x (y ∷ ys) a e = go (λ f. all_in P x ys a.1 f) (first_or_rest x y ys e)
  where
    go : (is_among x ys ≡ true → P x) → (y ≡ x) ⊎ (is_among x ys ≡ true) → P x
    go ih (inl f) = rw f at a.0
    go ih (inr f) = ih f

pub all_from : (P : ℕ → Type 0) (xs : List ℕ) → ((x : ℕ) → is_among x xs ≡ true → P x) → All P xs
all_from P [] f = tt
all_from P (y ∷ ys) f = (f y (among_first y ys), all_from P ys (λ x e. f x (among_rest x y ys e)))

-- ---- Facts of a table's entries by their numbers, the first under number n

abbrev pub Numbered {ℓ} : {A : Type ℓ} → (ℕ → A → Type 0) → ℕ → List A → Type 0
Numbered P n [] = Unit {0}
Numbered P n (x ∷ xs) = P n x × Numbered P (suc n) xs

numbered-from {ℓ} : {A : Type ℓ} (P : ℕ → A → Type 0) (d : A) → ((n : ℕ) → P n d) → (n : ℕ) (xs : List A) → Numbered P n xs → (i : ℕ) → P (n + i) (get_or xs i d)
numbered-from P d past n [] a i = past (n + i)
numbered-from P d past n (x ∷ xs) a zero = subst (λ (k : ℕ). P k x) (sym (add-zero n)) a.0
numbered-from P d past n (x ∷ xs) a (suc i) = subst (λ (k : ℕ). P k (get_or xs i d)) (suc-add n i ∙ sym (add-suc n i)) (numbered-from P d past (suc n) xs a.1 i)

-- From number 0 on; what holds of the default holds past the table's end.
pub numbered_at {ℓ} : {A : Type ℓ} (P : ℕ → A → Type 0) (d : A) → ((n : ℕ) → P n d) → (xs : List A) → Numbered P 0 xs → (k : ℕ) → P k (get_or xs k d)
numbered_at P d past xs a k = subst (λ (n : ℕ). P n (get_or xs k d)) (zero-add k) (numbered-from P d past 0 xs a k)

-- The same of a number below the table's length.
pub numbered_below : {A : Type 0} (P : ℕ → A → Type 0) (d : A) (xs : List A) → Numbered P 0 xs → (k : ℕ) → k < length xs → P k (get_or xs k d)
numbered_below {A} P d xs a k l = subst (λ (n : ℕ). P n (get_or xs k d)) (zero-add k) (from 0 xs a k l)
  where
    from : (n : ℕ) (ys : List A) → Numbered P n ys → (i : ℕ) → i < length ys → P (n + i) (get_or ys i d)
    from n [] b i l = absurd (omega arith)
    from n (y ∷ ys) b zero l = subst (λ (j : ℕ). P j y) (sym (add-zero n)) b.0
    from n (y ∷ ys) b (suc i) l = subst (λ (j : ℕ). P j (get_or ys i d)) (suc-add n i ∙ sym (add-suc n i)) (from (suc n) ys b.1 i (omega arith))

-- The same by computing: a test that every entry passes, and that the default passes.
abbrev pub all_pass : {A : Type 0} → (ℕ → A → Bool) → ℕ → List A → Bool
all_pass t n [] = true
all_pass t n (x ∷ xs) = t n x && all_pass t (suc n) xs

passed_each : {A : Type 0} (t : ℕ → A → Bool) (n : ℕ) (xs : List A) → all_pass t n xs ≡ true → Numbered (λ k x. t k x ≡ true) n xs
passed_each t n [] h = tt
passed_each t n (x ∷ xs) h = let f = and_both (t n x) (all_pass t (suc n) xs) h in (f.0, passed_each t (suc n) xs f.1)

pub passed_at : {A : Type 0} (t : ℕ → A → Bool) (d : A) → ((n : ℕ) → t n d ≡ true) → (xs : List A) → all_pass t 0 xs ≡ true → (k : ℕ) → t k (get_or xs k d) ≡ true
passed_at t d past xs h k = numbered_at (λ n x. t n x ≡ true) d past xs (passed_each t 0 xs h) k

-- The same of a number below the table's length.
pub passed_below : {A : Type 0} (t : ℕ → A → Bool) (d : A) (xs : List A) → all_pass t 0 xs ≡ true → (k : ℕ) → k < length xs → t k (get_or xs k d) ≡ true
passed_below t d xs h k l = numbered_below (λ n x. t n x ≡ true) d xs (passed_each t 0 xs h) k l

-- ---- The front of a buffer: its part from 0 to n, as code lends it

pub front_part : (n : ℕ) (xs : List ℕ) → take (n - 0) xs ≡ take n xs
front_part n xs = ap (λ (k : ℕ). take k xs) (sub-zero n)
