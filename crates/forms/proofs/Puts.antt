-- Texts put at a place: room for them, and one text for another.
-- Main statements: room (a pattern filled is no longer than its longest text), put_as, put_then, put_three, room_behind, placed, put_nothing; is-given, not-given; put_there (what was put
-- stands at its place).
use mathlib.Core.Path.{◌≡◌, refl, sym, ap, ◌∙◌}
use mathlib.Core.List.{List, [], ◌++◌, append_assoc}
use Prim.Native.Nat.{ℕ, ◌+◌, ◌≤◌, ◌<◌}
use native.Mathlib.Omega.{arith}
use lib.ListN.{length, take, drop, length-append}
use lib.Seq.{sets, length-sets, sets-eq, length-take-le, take_at, drop_at}
use lib.Dec.{T, leb, leb→le}
use borrow.Author.Tests.{le-leb, lt-leb}
use Rattle.patterns.specs.Patterns.{filled}
use Rattle.patterns.proofs.Spelling.{sets_append}
use Rattle.patterns.proofs.Theorems.{longest, filled_short}
use Rattle.forms.specs.Printing.{given}

pub room : (p ns : List ℕ) (at most n : ℕ) → T (leb (longest p) most) → at + most ≤ n → at + length (filled p ns) ≤ n
room p ns at most n h fits = omega (arith, leb→le (longest p) most h, filled_short p ns)

-- What is known where a text was put at a place: the place behind it, and the bytes.
abbrev pub IsPut : ℕ → List ℕ → ℕ → List ℕ → List ℕ → Type 0
IsPut r out at first t = record { value : r ≡ at + length t; out_after : out ≡ sets first at t }

pub put_as : {r : ℕ} {out : List ℕ} (at : ℕ) (first t u : List ℕ) → t ≡ u → IsPut r out at first t → IsPut r out at first u
put_as at first t u e put = record { value = put.value ∙ ap (λ (x : List ℕ). at + length x) e; out_after = put.out_after ∙ ap (sets first at) e }

-- A text, and another behind it.
pub put_then : {r s : ℕ} {out mid : List ℕ} (at : ℕ) (first t u : List ℕ) → IsPut s mid at first t → IsPut r out s mid u
    → IsPut r out at first (t ++ u)
put_then at first t u one other =
    record { value = omega (arith, one.value, other.value, length-append t u); out_after = other.out_after ∙ rw (one.value, one.out_after) (sym (sets_append first at t u)) }

-- Three texts, one behind the other.
pub put_three : {r s k : ℕ} {out mid next : List ℕ} (at : ℕ) (first t u v : List ℕ) → IsPut s mid at first t → IsPut k next s mid u → IsPut r out k next v
    → IsPut r out at first (t ++ (u ++ v))
put_three {s = s} {mid = mid} at first t u v one two three = put_then at first t (u ++ v) one (put_then s mid u v two three)

-- Behind a text there is room for the other.
pub room_behind : {s : ℕ} {mid : List ℕ} (at : ℕ) (first t u : List ℕ) → IsPut s mid at first t → at + length (t ++ u) ≤ length first → s + length u ≤ length mid
room_behind at first t u put fits = omega (arith, put.value, ap length put.out_after, length-sets first at t, length-append t u)

-- Where a text no longer than `most` was put, its end is near and the bytes are as many.
pub placed : {s : ℕ} {mid : List ℕ} (at : ℕ) (first t : List ℕ) (most : ℕ) → IsPut s mid at first t → length t ≤ most → (s ≤ at + most) × (length mid ≡ length first)
placed at first t most put short = (omega (arith, put.value), ap length put.out_after ∙ length-sets first at t)

-- Nothing put.
pub put_nothing : (at : ℕ) (first t : List ℕ) → t ≡ [] → IsPut at first at first t
put_nothing at first t e = rw e (record { value = omega arith; out_after = refl })

-- The text is given where there is room, and only there.
pub is-given : (n at most : ℕ) (text : List ℕ) → at + most ≤ n → given n at most text ≡ text
unfolding given
is-given n at most text h = rw (le-leb (at + most) n h)

pub not-given : (n at most : ℕ) (text : List ℕ) → n < at + most → given n at most text ≡ []
unfolding given
not-given n at most text h = rw (lt-leb (at + most) n h)

-- ---- What was put stands there

-- The text from its place on, and all else as it was.
pub put_there : (at : ℕ) (first t : List ℕ) → at + length t ≤ length first → take (length t) (drop at (sets first at t)) ≡ t
put_there at first t h =
    let front : length (take at first) ≡ at = length-take-le at first (omega arith) in
    ap (λ (l : List ℕ). take (length t) (drop at l)) (sets-eq t first at h ∙ append_assoc (take at first) t (drop (at + length t) first))
    ∙ ap (take (length t)) (drop_at (take at first) (t ++ drop (at + length t) first) at front)
    ∙ take_at t (drop (at + length t) first) (length t) refl
