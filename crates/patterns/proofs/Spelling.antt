-- A number in decimal, and texts put into a list.
-- Main statements: width_more, width-done (how many digits); sets_part (a text copied); sets_append (texts put one after the other); decimal_last, decimal_more; Front, front_none, front_put.
use mathlib.Core.Path.{◌≡◌, refl, sym, ap, ◌∙◌}
use mathlib.Core.List.{List, [], ◌∷◌, ◌++◌, append_assoc}
use Prim.Native.Nat.{ℕ, zero, suc, ◌+◌, ◌*◌, ◌/◌, ◌%◌, ◌^◌, ◌≤◌, ◌<◌}
use native.Mathlib.Nat.{add-zero, add-suc, suc-add, pow-zero, pow-suc}
use native.Mathlib.Numerals.{add-one}
use native.Mathlib.Omega.{arith}
use Rattle.std.proofs.lemmas.Slice.{put_mid-paste}
use Rattle.std.proofs.lemmas.List.Edits.{sets-eq, paste_all}
use borrow.Rule.Slice.PartMut.{put_mid}
use lib.ListN.{length, set, take, drop, length-append}
use lib.Seq.{sets, length-sets}
use lib.Dec.{ltb}
use borrow.Author.Tests.{lt-ltb, le-ltb, ltb-true, ltb-false}
use Rattle.patterns.proofs.Tests.{Told, holds, fails, tell}
use Rattle.patterns.specs.Numbers.{digits, width, width_of, decimal}

-- ---- How many digits a number has

pub width_more : (f n : ℕ) → 0 < n → width (suc f) n ≡ suc (width f (n / 10))
unfolding width
width_more f n h = rw (lt-ltb 0 n h)

pub width-done : (f n : ℕ) → n ≤ 0 → width f n ≡ 0
unfolding width
width-done zero n h = refl
width-done (suc f) n h = rw (le-ltb 0 n h)

-- As many digits as the number has are enough.
width_enough : (f n : ℕ) → n < 10 ^ f → width (suc f) n ≡ width f n
width_enough zero n h =
    let none : n ≤ 0 = omega (arith, rw pow-zero at h) in
    width-done (suc zero) n none ∙ sym (width-done zero n none)
width_enough (suc f) n h = go (tell (ltb 0 n)) (width_enough f (n / 10))
  where
    go : Told (ltb 0 n) → (n / 10 < 10 ^ f → width (suc f) (n / 10) ≡ width f (n / 10)) → width (suc (suc f)) n ≡ width (suc f) n
    go (holds t) ih =
        let ten : n < 10 ^ f * 10 = rw pow-suc at h in
        let some = ltb-true 0 n t in
        width_more (suc f) n some ∙ ap suc (ih (omega arith)) ∙ sym (width_more f n some)
    go (fails t) ih =
        let none : n ≤ 0 = ltb-false 0 n t in
        width-done (suc (suc f)) n none ∙ sym (width-done (suc f) n none)

pub length_digits : (k n : ℕ) → length (digits k n) ≡ k
unfolding digits
length_digits zero n = refl
length_digits (suc k) n = rw (length-append, length_digits k (n / 10), add-one)

-- ---- Texts put one after the other

-- A text copied over a part of a list.
pub sets_part : (l xs ys : List ℕ) (at n : ℕ) → ys ≡ xs → at + length xs ≤ length l → n ≡ length xs → put_mid at n l ys ≡ sets l at xs
sets_part l xs ys at n same fits e = put_mid-paste at n l ys xs n same refl e ∙ paste_all l at xs n e ∙ rw e (sym (append_assoc (take at l) xs (drop (at + length xs) l)) ∙ sym (sets-eq xs l at fits))

pub sets_append : (l : List ℕ) (i : ℕ) (xs ys : List ℕ) → sets l i (xs ++ ys) ≡ sets (sets l i xs) (i + length xs) ys
sets_append l i [] ys = rw add-zero
sets_append l i (x ∷ xs) ys = sets_append (set l i x) (suc i) xs ys ∙ ap (λ (j : ℕ). sets (sets (set l i x) (suc i) xs) j ys) (suc-add i (length xs) ∙ sym (add-suc i (length xs)))

-- A number in decimal is its last digit behind the others.
pub decimal_last : (n : ℕ) → n ≤ 9 → decimal n ≡ (48 + n % 10) ∷ []
unfolding decimal width_of digits
decimal_last n h =
    let one : 1 + width 9 (n / 10) ≡ suc zero = omega (arith, width-done 9 (n / 10) (omega arith)) in
    rw one refl

pub decimal_more : (n : ℕ) → 9 < n → n < 10000000000 → decimal n ≡ decimal (n / 10) ++ ((48 + n % 10) ∷ [])
unfolding decimal width_of digits
decimal_more n some few =
    let front : width 9 (n / 10) ≡ suc (width 8 (n / 10 / 10)) = width_more 8 (n / 10) (omega arith) in
    let same : width 9 (n / 10 / 10) ≡ width 8 (n / 10 / 10) = width_enough 8 (n / 10 / 10) (omega arith) in
    let more : 1 + width 9 (n / 10) ≡ suc (1 + width 9 (n / 10 / 10)) = omega (arith, front, same) in
    rw more refl

-- Where the last digit goes, behind the others that stand in out.
pub record Front (n at last : ℕ) (first out : List ℕ) : Type 0 where
  pub place : last + 1 ≡ at + length (decimal n)
  pub long : length out ≡ length first
  pub text : set out last (48 + n % 10) ≡ sets first at (decimal n)

pub front_none : (n at : ℕ) (first : List ℕ) → n ≤ 9 → Front n at at first first
front_none n at first h =
    let one = decimal_last n h in
    record { place = omega (arith, ap length one); long = refl; text = rw one refl }

pub front_put : (n at : ℕ) (first : List ℕ) → 9 < n → n < 10000000000 → {last : ℕ} {out : List ℕ} → last ≡ at + length (decimal (n / 10)) → out ≡ sets first at (decimal (n / 10))
    → Front n at last first out
front_put n at first some few {last} {out} place text =
    let more = decimal_more n some few in
    record {
      place = omega (arith, place, simp length-append at (ap length more));
      long = ap length text ∙ length-sets first at (decimal (n / 10));
      text = rw (more, text, place) (sym (sets_append first at (decimal (n / 10)) ((48 + n % 10) ∷ [])));
    }

pub length-decimal : (n : ℕ) → length (decimal n) ≡ width_of n
unfolding decimal
length-decimal n = length_digits (width_of n) n
