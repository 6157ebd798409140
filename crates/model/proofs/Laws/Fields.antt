-- Laws of the fields of a lock word: what field_of reads after with_field wrote.
-- Main statements: field_same, field_below, field_above, bit_other (what a field is after it, or another, was
-- written); field-again (a field written twice), field_own (with its own value); field_lt, with_field_lt, with_field_26
-- (bounds); readers_zero, reader_zero (no reader bit is set where the readers are 0).
use mathlib.Core.Path.{◌≡◌, refl, sym, ap, ◌∙◌}
use mathlib.Core.Logic.{◌≢◌}
use mathlib.Core.Bool.{Bool, true, false}
use Prim.Native.Nat.{ℕ, zero, suc, ◌+◌, ◌-◌, ◌*◌, ◌/◌, ◌%◌, ◌^◌, ◌≤◌, ◌<◌}
use native.Mathlib.Nat.{mod-lt, zero-div, zero-mod}
use native.Mathlib.Omega.{arith}
use lib.Arith.{digits_lt}
use lib.Pow.{pow_pos, pow-add, split, high, low, field, mod-mod-pow, mod-pow-add, shr-shr, shr_lt}
use lib.Dec.{ltb}
use borrow.Author.Tests.{ltb-true, ltb-false}
use Rattle.model.specs.LockWords.{field_of, with_field, readers_of}

-- ---- The n bits from bit k of the word w, replaced by v

module _ (k n w v : ℕ) where
  above : with_field k n w v / 2 ^ k ≡ w / 2 ^ k / 2 ^ n * 2 ^ n + v
  unfolding with_field
  above = high (w / 2 ^ k / 2 ^ n * 2 ^ n + v) k (mod-lt w (pow_pos k))

  below : with_field k n w v % 2 ^ k ≡ w % 2 ^ k
  unfolding with_field
  below = low (w / 2 ^ k / 2 ^ n * 2 ^ n + v) k (mod-lt w (pow_pos k))

  pub field_same : v < 2 ^ n → field_of k n (with_field k n w v) ≡ v
  unfolding field_of
  field_same h = ap (λ (x : ℕ). x % 2 ^ n) above ∙ low (w / 2 ^ k / 2 ^ n) n h

  -- A field below it is kept.
  pub field_below : (k' n' : ℕ) → k' + n' ≤ k → field_of k' n' (with_field k n w v) ≡ field_of k' n' w
  unfolding field_of
  field_below k' n' h =
      let e : (k - (n' + k')) + (n' + k') ≡ k = omega arith in
      let cut : (x : ℕ) → x % 2 ^ k % 2 ^ (n' + k') / 2 ^ k' ≡ x / 2 ^ k' % 2 ^ n' =
      λ x. ap (λ (y : ℕ). x % 2 ^ y % 2 ^ (n' + k') / 2 ^ k') (sym e) ∙ ap (λ (y : ℕ). y / 2 ^ k') (mod-mod-pow x (k - (n' + k')) (n' + k')) ∙ field x n' k' in
      sym (cut (with_field k n w v)) ∙ ap (λ (y : ℕ). y % 2 ^ (n' + k') / 2 ^ k') below ∙ cut w

  -- A field above it is kept.
  pub field_above : v < 2 ^ n → (k' n' : ℕ) → k + n ≤ k' → field_of k' n' (with_field k n w v) ≡ field_of k' n' w
  unfolding field_of
  field_above hv k' n' h =
      let j = k' - (k + n) in
      let e : (k + n) + j ≡ k' = omega arith in
      let cut : (x : ℕ) → x / 2 ^ k / 2 ^ n / 2 ^ j % 2 ^ n' ≡ x / 2 ^ k' % 2 ^ n' =
      λ x. ap (λ (y : ℕ). y / 2 ^ j % 2 ^ n') (shr-shr x k n) ∙ ap (λ (y : ℕ). y % 2 ^ n') (shr-shr x (k + n) j ∙ ap (λ (y : ℕ). x / 2 ^ y) e) in
      sym (cut (with_field k n w v)) ∙ ap (λ (y : ℕ). y / 2 ^ n / 2 ^ j % 2 ^ n') above
      ∙ ap (λ (y : ℕ). y / 2 ^ j % 2 ^ n') (high (w / 2 ^ k / 2 ^ n) n hv) ∙ cut w

  -- A field written twice: the later value stands.
  pub field-again : v < 2 ^ n → (u : ℕ) → with_field k n (with_field k n w v) u ≡ with_field k n w u
  unfolding with_field
  field-again hv u =
      ap (λ (x : ℕ). (x / 2 ^ n * 2 ^ n + u) * 2 ^ k + with_field k n w v % 2 ^ k) above
      ∙ ap (λ (x : ℕ). (x * 2 ^ n + u) * 2 ^ k + with_field k n w v % 2 ^ k) (high (w / 2 ^ k / 2 ^ n) n hv)
      ∙ ap (λ (x : ℕ). (w / 2 ^ k / 2 ^ n * 2 ^ n + u) * 2 ^ k + x) below

  -- A word of j bits stays one, where the field lies inside them.
  pub with_field_lt : v < 2 ^ n → (j : ℕ) → k + n ≤ j → w < 2 ^ j → with_field k n w v < 2 ^ j
  unfolding with_field
  with_field_lt hv j h hw =
      let i = j - (k + n) in
      let e : i + (k + n) ≡ j = omega arith in
      let e' : i + n + k ≡ j = omega arith in
      let top : w / 2 ^ k / 2 ^ n < 2 ^ i = rw shr-shr (shr_lt i (k + n) (rw e hw)) in
      let mid : w / 2 ^ k / 2 ^ n * 2 ^ n + v < 2 ^ (i + n) = rw pow-add (digits_lt top hv) in
      rw (← e', pow-add 2 (i + n) k) (digits_lt mid (mod-lt w (pow_pos k)))

-- A field written with its own value.
pub field_own : (k n w : ℕ) → with_field k n w (field_of k n w) ≡ w
unfolding with_field field_of
field_own k n w = ap (λ (x : ℕ). x * 2 ^ k + w % 2 ^ k) (split (w / 2 ^ k) n) ∙ split w k

-- One bit written leaves every other bit.
pub bit_other : (k w v : ℕ) → v < 2 → (j : ℕ) → j ≢ k → field_of j 1 (with_field k 1 w v) ≡ field_of j 1 w
bit_other k w v hv j n = go (ltb j k) refl
  where
    go : (t : Bool) → ltb j k ≡ t → field_of j 1 (with_field k 1 w v) ≡ field_of j 1 w
    go true e = let h = ltb-true j k e in field_below k 1 w v j 1 (omega arith)
    go false e = let h = ltb-false j k e in field_above k 1 w v hv j 1 (omega arith)

-- ---- Bounds

pub field_lt : (k n w : ℕ) → field_of k n w < 2 ^ n
unfolding field_of
field_lt k n w = mod-lt (w / 2 ^ k) (pow_pos n)

-- The bits that a lock word uses: the readers and the two holders.
pub with_field_26 : (k n w v : ℕ) → v < 2 ^ n → k + n ≤ 26 → w < 2 ^ 26 → with_field k n w v < 2 ^ 26
with_field_26 k n w v hv h hw = with_field_lt k n w v hv 26 h hw

-- ---- The bits of the lowest field

lowest : (n w : ℕ) → field_of 0 n w ≡ w % 2 ^ n
unfolding field_of
lowest n w = ap (λ (x : ℕ). x % 2 ^ n) (omega arith)

-- The lowest n bits are 0 where each of them is.
pub bits_zero : (n w : ℕ) → ((q : ℕ) → q < n → field_of q 1 w ≡ 0) → field_of 0 n w ≡ 0
unfolding field_of
bits_zero zero w f = omega arith
bits_zero (suc n) w f =
    let rest : w % 2 ^ n ≡ 0 = sym (lowest n w) ∙ bits_zero n w (λ q h. f q (omega arith)) in
    let top = f n (omega arith) in
    lowest (suc n) w ∙ ap (λ (x : ℕ). w % 2 ^ x) (omega arith) ∙ mod-pow-add w 1 n ∙ rw (top, rest) (omega arith)

-- And each of them is 0 where they are.
pub bit_zero : (n w : ℕ) → field_of 0 n w ≡ 0 → (q : ℕ) → q < n → field_of q 1 w ≡ 0
unfolding field_of
bit_zero n w e q h =
    let i = n - (1 + q) in
    let s : i + (1 + q) ≡ n = omega arith in
    let z : w % 2 ^ (i + (1 + q)) ≡ 0 = rw s (sym (lowest n w) ∙ e) in
    sym (field w 1 q) ∙ ap (λ (x : ℕ). x / 2 ^ q) (sym (mod-mod-pow w i (1 + q)) ∙ ap (λ (x : ℕ). x % 2 ^ (1 + q)) z ∙ zero-mod (2 ^ (1 + q))) ∙ zero-div (2 ^ q)

-- No party reads where the reader bits together are 0, and the other way round.
pub readers_zero : (w : ℕ) → ((q : ℕ) → q < 16 → field_of q 1 w ≡ 0) → readers_of w ≡ 0
readers_zero w f = bits_zero 16 w f

pub reader_zero : (w : ℕ) → readers_of w ≡ 0 → (q : ℕ) → q < 16 → field_of q 1 w ≡ 0
reader_zero w e q h = bit_zero 16 w e q h
