-- Laws of exclusive or that the library lacks: it can be regrouped, what is on both sides falls out, and shifts pass through it.
-- Main statements: xor_assoc, xor-swap; same_left_out, same_right_out; xor-shl.
use mathlib.Core.Path.{◌≡◌, refl, sym, ap, ap₂, ◌∙◌}
use Prim.Native.Nat.{ℕ, zero, suc, ◌+◌, ◌*◌, ◌/◌, ◌%◌, ◌^◌, ◌<◌}
use native.Mathlib.Nat.{add-zero, mod-lt}
use native.Mathlib.Omega.{arith}
use lib.Arith.{bin_ind, digits_div, digits_mod}
use lib.Pow.{pow_pos}
use lib.Bits.{bit_xor, differ, xor_step, xor_block, xor_comm, xor_self, xor_zero_r}

-- Digits that differ: one of two digits again, and the order of comparing does not matter.
differ_lt : (x y : ℕ) → x < 2 → y < 2 → differ x y < 2
differ_lt zero y hx hy = hy
differ_lt (suc x) zero hx hy = hx
differ_lt (suc zero) (suc zero) hx hy = omega arith
differ_lt (suc (suc x)) (suc y) hx hy = absurd (omega arith)
differ_lt (suc zero) (suc (suc y)) hx hy = absurd (omega arith)

differ_assoc : (x y z : ℕ) → x < 2 → y < 2 → z < 2 → differ (differ x y) z ≡ differ x (differ y z)
differ_assoc zero y z hx hy hz = refl
differ_assoc (suc x) zero z hx hy hz = refl
differ_assoc (suc zero) (suc zero) zero hx hy hz = refl
differ_assoc (suc zero) (suc zero) (suc zero) hx hy hz = refl
differ_assoc (suc zero) (suc zero) (suc (suc z)) hx hy hz = absurd (omega arith)
differ_assoc (suc (suc x)) (suc y) z hx hy hz = absurd (omega arith)
differ_assoc (suc zero) (suc (suc y)) z hx hy hz = absurd (omega arith)

-- The last digit and the others.
module _ (a b : ℕ) where
  last_lt : differ (a % 2) (b % 2) < 2
  last_lt = differ_lt (a % 2) (b % 2) (mod-lt a (omega arith)) (mod-lt b (omega arith))

  xor_half : bit_xor a b / 2 ≡ bit_xor (a / 2) (b / 2)
  xor_half = ap (λ (x : ℕ). x / 2) (xor_step a b) ∙ digits_div (bit_xor (a / 2) (b / 2)) last_lt

  xor_last : bit_xor a b % 2 ≡ differ (a % 2) (b % 2)
  xor_last = ap (λ (x : ℕ). x % 2) (xor_step a b) ∙ digits_mod (bit_xor (a / 2) (b / 2)) last_lt

pub xor_assoc : (a b c : ℕ) → bit_xor (bit_xor a b) c ≡ bit_xor a (bit_xor b c)
xor_assoc a =
    bin_ind (λ (n : ℕ). (b c : ℕ) → bit_xor (bit_xor n b) c ≡ bit_xor n (bit_xor b c)) (λ b c. refl)
    (λ n ih b c. xor_step (bit_xor n b) c
    ∙ ap₂ (λ (x y : ℕ). bit_xor x (c / 2) * 2 + differ y (c % 2)) (xor_half n b) (xor_last n b)
    ∙ ap₂ (λ (x y : ℕ). x * 2 + y) (ih (b / 2) (c / 2)) (digit n b c)
    ∙ sym (ap₂ (λ (x y : ℕ). bit_xor (n / 2) x * 2 + differ (n % 2) y) (xor_half b c) (xor_last b c))
    ∙ sym (xor_step n (bit_xor b c))) a
  where
    digit : (n b c : ℕ) → differ (differ (n % 2) (b % 2)) (c % 2) ≡ differ (n % 2) (differ (b % 2) (c % 2))
    digit n b c = differ_assoc (n % 2) (b % 2) (c % 2) (mod-lt n (omega arith)) (mod-lt b (omega arith)) (mod-lt c (omega arith))

-- The two in the middle change places.
pub xor-swap : (a b c d : ℕ) → bit_xor (bit_xor a b) (bit_xor c d) ≡ bit_xor (bit_xor a c) (bit_xor b d)
xor-swap a b c d =
    xor_assoc a b (bit_xor c d)
    ∙ ap (bit_xor a) (sym (xor_assoc b c d) ∙ ap (λ (x : ℕ). bit_xor x d) (xor_comm b c) ∙ xor_assoc c b d)
    ∙ sym (xor_assoc a c (bit_xor b d))

-- What stands on the same side of both falls out.
pub same_left_out : (x a b : ℕ) → bit_xor (bit_xor x a) (bit_xor x b) ≡ bit_xor a b
same_left_out x a b = xor-swap x a x b ∙ ap (λ (y : ℕ). bit_xor y (bit_xor a b)) (xor_self x)

pub same_right_out : (x a b : ℕ) → bit_xor (bit_xor a x) (bit_xor b x) ≡ bit_xor a b
same_right_out x a b = xor-swap a x b x ∙ ap (bit_xor (bit_xor a b)) (xor_self x) ∙ xor_zero_r (bit_xor a b)

-- A shift to the left passes through it.
pub xor-shl : (a b k : ℕ) → bit_xor a b * 2 ^ k ≡ bit_xor (a * 2 ^ k) (b * 2 ^ k)
xor-shl a b k =
    sym (add-zero (bit_xor a b * 2 ^ k)) ∙ sym (xor_block k a b 0 0 (pow_pos k) (pow_pos k))
    ∙ ap₂ bit_xor (add-zero (a * 2 ^ k)) (add-zero (b * 2 ^ k))
