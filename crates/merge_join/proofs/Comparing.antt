-- What a comparison of two numbers says of them.
-- Main statements: less-below, equal-same, greater-above.
use mathlib.Core.Path.{◌≡◌}
use Prim.Native.Nat.{ℕ, ◌<◌}
use native.Mathlib.Omega.{arith}
use Rattle.std.proofs.Common.{nat_cmp, Less, Equal, Greater}
use Rattle.std.proofs.lemmas.Bool.Decides.{nat_tests}

pub less-below : (x y : ℕ) → Less ≡ nat_cmp x y → x < y
less-below x y h = grind (arith, nat_tests)

pub equal-same : (x y : ℕ) → Equal ≡ nat_cmp x y → x ≡ y
equal-same x y h = grind (arith, nat_tests)

pub greater-above : (x y : ℕ) → Greater ≡ nat_cmp x y → y < x
greater-above x y h = grind (arith, nat_tests)
