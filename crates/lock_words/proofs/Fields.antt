-- Fields of a word under masks and shifts, over the place k and the width n: what a mask reads, clears, puts and tests.
-- Main laws: shifted-and-mask (read), bit_set and bit_cleared (one reader bit), field_put (a holder's field), field-some and field-none (who holds).
use mathlib.Core.Path.{◌≡◌, refl, sym, ap, ap₂, ◌∙◌}
use mathlib.Core.Logic.{◌≢◌}
use mathlib.Core.Bool.{true, false, not}
use Prim.Native.Nat.{ℕ, zero, suc, ◌+◌, ◌-◌, ◌*◌, ◌/◌, ◌%◌, ◌^◌, ◌<◌}
use native.Mathlib.Nat.{mod-lt, mod-eq_of_lt, add-mul, zero-mul, zero-add}
use native.Mathlib.Omega.{arith}
use lib.Bits.{bit_and, bit_or, and_block, or_block, and_mask, and_zero_r, or_zero_r}
use lib.Pow.{pow_pos, split, ones_split, ones_lt, shr_lt, shl_exact}
use lib.Dec.{eqb, eqb-suc-zero, lit<}
use borrow.Author.Tests.{eq-eqb, ne_eqb}
use Rattle.model.specs.LockWords.{field_of, with_field}

-- A word in three parts: above the field, the field, below it.
abbrev three : ℕ → ℕ → ℕ → ℕ → ℕ → ℕ
three k n a x r = (a * 2 ^ n + x) * 2 ^ k + r

three_parts_make_the_word : (k n w : ℕ) → three k n (w / 2 ^ k / 2 ^ n) (w / 2 ^ k % 2 ^ n) (w % 2 ^ k) ≡ w
three_parts_make_the_word k n w = ap (λ (x : ℕ). x * 2 ^ k + w % 2 ^ k) (split (w / 2 ^ k) n) ∙ split w k

field-alone : (k n v : ℕ) → v * 2 ^ k ≡ three k n 0 v 0
field-alone k n v =
    let e : 0 * 2 ^ n + v ≡ v = ap (λ (x : ℕ). x + v) (zero-mul (2 ^ n)) ∙ zero-add v in
    omega (arith, ap (λ (x : ℕ). x * 2 ^ k) e)

and-by_parts : (k n a b x y r s : ℕ) → x < 2 ^ n → y < 2 ^ n → r < 2 ^ k → s < 2 ^ k
    → bit_and (three k n a x r) (three k n b y s) ≡ three k n (bit_and a b) (bit_and x y) (bit_and r s)
and-by_parts k n a b x y r s hx hy hr hs =
    and_block k (a * 2 ^ n + x) (b * 2 ^ n + y) r s hr hs
    ∙ ap (λ (z : ℕ). z * 2 ^ k + bit_and r s) (and_block n a b x y hx hy)

or_by_parts : (k n a b x y r s : ℕ) → x < 2 ^ n → y < 2 ^ n → r < 2 ^ k → s < 2 ^ k
    → bit_or (three k n a x r) (three k n b y s) ≡ three k n (bit_or a b) (bit_or x y) (bit_or r s)
or_by_parts k n a b x y r s hx hy hr hs =
    or_block k (a * 2 ^ n + x) (b * 2 ^ n + y) r s hr hs
    ∙ ap (λ (z : ℕ). z * 2 ^ k + bit_or r s) (or_block n a b x y hx hy)

-- ---- Reading

-- `(w >> k) & ones`
pub shifted-and-mask : (k n w : ℕ) → bit_and (w / 2 ^ k) (2 ^ n - 1) ≡ field_of k n w
unfolding field_of
shifted-and-mask k n w = and_mask (w / 2 ^ k) n

-- ---- Clearing and putting

-- The complement of a field's mask, in three parts.
complement_by_parts : (j n k : ℕ) → (2 ^ (j + n + k) - 1) - (2 ^ n - 1) * 2 ^ k ≡ three k n (2 ^ j - 1) 0 (2 ^ k - 1)
complement_by_parts j n k =
    let e : 2 ^ (j + n + k) - 1 ≡ ((2 ^ j - 1) * 2 ^ n + (2 ^ n - 1)) * 2 ^ k + (2 ^ k - 1) =
    ones_split (j + n) k ∙ ap (λ (x : ℕ). x * 2 ^ k + (2 ^ k - 1)) (ones_split j n) in
    let d = add-mul ((2 ^ j - 1) * 2 ^ n) (2 ^ n - 1) (2 ^ k) in
    let z = add-mul ((2 ^ j - 1) * 2 ^ n) 0 (2 ^ k) in
    omega (arith, e, d, z, zero-mul (2 ^ k))

-- `w & !(ones << k)`
field_cleared : (j n k w : ℕ) → w < 2 ^ (j + n + k) → bit_and w ((2 ^ (j + n + k) - 1) - (2 ^ n - 1) * 2 ^ k) ≡ with_field k n w 0
unfolding with_field
field_cleared j n k w h =
    ap₂ bit_and (sym (three_parts_make_the_word k n w)) (complement_by_parts j n k)
    ∙ and-by_parts k n (w / 2 ^ k / 2 ^ n) (2 ^ j - 1) (w / 2 ^ k % 2 ^ n) 0 (w % 2 ^ k) (2 ^ k - 1)
    (mod-lt (w / 2 ^ k) (pow_pos n)) (pow_pos n) (mod-lt w (pow_pos k)) (ones_lt k)
    ∙ ap₂ (λ (x y : ℕ). (x * 2 ^ n + y) * 2 ^ k + bit_and (w % 2 ^ k) (2 ^ k - 1))
    (and_mask (w / 2 ^ k / 2 ^ n) j ∙ mod-eq_of_lt (shr_lt j n (shr_lt (j + n) k h))) (and_zero_r (w / 2 ^ k % 2 ^ n))
    ∙ ap (λ (x : ℕ). (w / 2 ^ k / 2 ^ n * 2 ^ n + 0) * 2 ^ k + x) (and_mask (w % 2 ^ k) k ∙ mod-eq_of_lt (mod-lt w (pow_pos k)))

-- `cleared | (v << k)`
cleared_then_put : (k n w v : ℕ) → v < 2 ^ n → bit_or (with_field k n w 0) (v * 2 ^ k) ≡ with_field k n w v
unfolding with_field
cleared_then_put k n w v h =
    ap (bit_or (with_field k n w 0)) (field-alone k n v)
    ∙ or_by_parts k n (w / 2 ^ k / 2 ^ n) 0 0 v (w % 2 ^ k) 0 (pow_pos n) h (mod-lt w (pow_pos k)) (pow_pos k)
    ∙ ap₂ (λ (x y : ℕ). (x * 2 ^ n + v) * 2 ^ k + y) (or_zero_r (w / 2 ^ k / 2 ^ n)) (or_zero_r (w % 2 ^ k))

-- `(w & !(ones << k)) | (v << k)` at 32 bits
pub field_put : (j n k w v : ℕ) → j + n + k ≡ 32 → w < 2 ^ 32 → v < 2 ^ n
    → bit_or (bit_and w (4294967295 - (2 ^ n - 1) * 2 ^ k)) ((v * 2 ^ k) % 4294967296) ≡ with_field k n w v
field_put j n k w v e hw hv =
    ap₂ bit_or
    (ap (λ (x : ℕ). bit_and w ((2 ^ x - 1) - (2 ^ n - 1) * 2 ^ k)) (sym e) ∙ field_cleared j n k w (rw e hw))
    (shl_exact n k 32 hv (omega arith))
    ∙ cleared_then_put k n w v hv

-- ---- One bit

-- `1 << q` at 32 bits loses no bit.
one_shifted_fits : (q : ℕ) → q < 32 → (1 * 2 ^ q) % 4294967296 ≡ 1 * 2 ^ q
one_shifted_fits q h = shl_exact {a = 1} 1 q 32 (lit< tt) (omega arith)

or_one : (x : ℕ) → x < 2 → bit_or x 1 ≡ 1
or_one zero h = refl
or_one (suc zero) h = refl
or_one (suc (suc x)) h = absurd (omega arith)

-- `w | (1 << q)` at 32 bits
pub bit_set : (q w : ℕ) → q < 32 → bit_or w ((1 * 2 ^ q) % 4294967296) ≡ with_field q 1 w 1
unfolding with_field
bit_set q w hq =
    ap₂ bit_or (sym (three_parts_make_the_word q 1 w)) (one_shifted_fits q hq ∙ field-alone q 1 1)
    ∙ or_by_parts q 1 (w / 2 ^ q / 2) 0 (w / 2 ^ q % 2) 1 (w % 2 ^ q) 0 (mod-lt (w / 2 ^ q) (pow_pos 1)) (lit< tt) (mod-lt w (pow_pos q)) (pow_pos q)
    ∙ ap₂ (λ (x y : ℕ). (x * 2 + y) * 2 ^ q + bit_or (w % 2 ^ q) 0) (or_zero_r (w / 2 ^ q / 2)) (or_one (w / 2 ^ q % 2) (mod-lt (w / 2 ^ q) (pow_pos 1)))
    ∙ ap (λ (x : ℕ). (w / 2 ^ q / 2 * 2 + 1) * 2 ^ q + x) (or_zero_r (w % 2 ^ q))

-- `w & !(1 << q)` at 32 bits
pub bit_cleared : (q w : ℕ) → q < 32 → w < 2 ^ 32 → bit_and w (4294967295 - (1 * 2 ^ q) % 4294967296) ≡ with_field q 1 w 0
bit_cleared q w hq hw =
    let e : 31 - q + 1 + q ≡ 32 = omega arith in
    ap (λ (x : ℕ). bit_and w (4294967295 - x)) (one_shifted_fits q hq)
    ∙ ap (λ (x : ℕ). bit_and w ((2 ^ x - 1) - 1 * 2 ^ q)) (sym e)
    ∙ field_cleared (31 - q) 1 q w (rw e hw)

-- ---- Testing

-- `w & (ones << k)`
masked_field : (k n w : ℕ) → bit_and w ((2 ^ n - 1) * 2 ^ k) ≡ field_of k n w * 2 ^ k
unfolding field_of
masked_field k n w =
    ap₂ bit_and (sym (three_parts_make_the_word k n w)) (field-alone k n (2 ^ n - 1))
    ∙ and-by_parts k n (w / 2 ^ k / 2 ^ n) 0 (w / 2 ^ k % 2 ^ n) (2 ^ n - 1) (w % 2 ^ k) 0
    (mod-lt (w / 2 ^ k) (pow_pos n)) (ones_lt n) (mod-lt w (pow_pos k)) (pow_pos k)
    ∙ ap₂ (λ (x y : ℕ). (x * 2 ^ n + y) * 2 ^ k + bit_and (w % 2 ^ k) 0) (and_zero_r (w / 2 ^ k / 2 ^ n))
    (and_mask (w / 2 ^ k % 2 ^ n) n ∙ mod-eq_of_lt (mod-lt (w / 2 ^ k) (pow_pos n)))
    ∙ ap (λ (x : ℕ). (0 * 2 ^ n + w / 2 ^ k % 2 ^ n) * 2 ^ k + x) (and_zero_r (w % 2 ^ k))
    ∙ sym (field-alone k n (w / 2 ^ k % 2 ^ n))

zero_product_test : (a k : ℕ) → eqb (a * 2 ^ k) 0 ≡ eqb a 0
zero_product_test zero k = eq-eqb (0 * 2 ^ k) 0 (zero-mul (2 ^ k))
zero_product_test (suc a) k =
    ne_eqb (suc a * 2 ^ k) 0 (λ e. omega (arith, add-mul a 1 (2 ^ k), pow_pos k))
    ∙ sym (eqb-suc-zero a)

masked_test : (k n w : ℕ) → eqb (bit_and w ((2 ^ n - 1) * 2 ^ k)) 0 ≡ eqb (field_of k n w) 0
masked_test k n w = ap (λ (x : ℕ). eqb x 0) (masked_field k n w) ∙ zero_product_test (field_of k n w) k

-- `w & (ones << k) != 0`: somebody is in the field.
pub field-some : (k n w : ℕ) → bit_and w ((2 ^ n - 1) * 2 ^ k) ≢ 0 → not (eqb (field_of k n w) 0) ≡ true
field-some k n w ne = ap not (sym (masked_test k n w) ∙ ne_eqb (bit_and w ((2 ^ n - 1) * 2 ^ k)) 0 ne)

-- `w & (ones << k) == 0`: nobody is.
pub field-none : (k n w : ℕ) → bit_and w ((2 ^ n - 1) * 2 ^ k) ≡ 0 → not (eqb (field_of k n w) 0) ≡ false
field-none k n w e = ap not (sym (masked_test k n w) ∙ eq-eqb (bit_and w ((2 ^ n - 1) * 2 ^ k)) 0 e)
