-- A pattern that begins with a text without holes.
-- Main statements: text_long; literal_head, literal_other.
use mathlib.Core.Path.{◌≡◌, refl, sym}
use mathlib.Core.Bool.{true, false, true≢false}
use mathlib.Core.List.{List, [], ◌∷◌, ◌++◌}
use Prim.Native.Nat.{ℕ, ◌≤◌}
use native.Mathlib.Omega.{arith}
use lib.ListN.{length, drop}
use lib.Dec.{eqb}
use borrow.Author.Tests.{eqb-true, eqb-false, eq-eqb, ne_eqb}
use Rattle.std.specs.List.{starts_with}
use Rattle.patterns.specs.Patterns.{hole, no, and_then, byte_in, symbol_in, match_from}
use Rattle.patterns.specs.Grammar.{holes}
use Rattle.patterns.proofs.Tests.{Told, holds, fails, tell, both_true}

pub text_long : (p l : List ℕ) → starts_with eqb l p ≡ true → length p ≤ length l
text_long [] l h = omega arith
text_long (b ∷ p) [] h = absurd (true≢false (sym h))
text_long (b ∷ p) (c ∷ l) h = omega (arith, text_long p l (both_true (eqb b c) (starts_with eqb l p) h).1)

no_hole : (b : ℕ) (p : List ℕ) → holes (b ∷ p) ≡ 0 → (eqb b hole ≡ false) × (holes p ≡ 0)
unfolding holes
no_hole b p h = go (tell (eqb b hole))
  where
    go : Told (eqb b hole) → (eqb b hole ≡ false) × (holes p ≡ 0)
    go (holds t) = absurd (omega (arith, rw t at h))
    go (fails t) = (t, omega (arith, rw t at h))

pub literal_head : (p q ns l : List ℕ) → holes p ≡ 0 → starts_with eqb l p ≡ true → match_from (p ++ q) ns l ≡ match_from q ns (drop (length p) l)
unfolding match_from symbol_in byte_in and_then
literal_head [] q ns l h s = refl
literal_head (b ∷ p) q ns [] h s = absurd (true≢false (sym s))
literal_head (b ∷ p) q ns (c ∷ l) h s =
    let both = both_true (eqb b c) (starts_with eqb l p) s in
    rw ((no_hole b p h).0, eq-eqb c b (sym (eqb-true b c both.0))) (literal_head p q ns l (no_hole b p h).1 both.1)

pub literal_other : (p q ns l : List ℕ) → holes p ≡ 0 → starts_with eqb l p ≡ false → match_from (p ++ q) ns l ≡ no
unfolding match_from symbol_in byte_in and_then
literal_other [] q ns l h s = absurd (true≢false s)
literal_other (b ∷ p) q ns [] h s = rw (no_hole b p h).0
literal_other (b ∷ p) q ns (c ∷ l) h s = go (tell (eqb b c)) (literal_other p q ns l (no_hole b p h).1)
  where
    go : Told (eqb b c) → (starts_with eqb l p ≡ false → match_from (p ++ q) ns l ≡ no) → match_from ((b ∷ p) ++ q) ns (c ∷ l) ≡ no
    go (holds t) ih = rw ((no_hole b p h).0, eq-eqb c b (sym (eqb-true b c t))) (ih (rw t at s))
    go (fails t) ih =
        let other : c ≡ b → ⊥ = λ e. eqb-false b c t (sym e) in
        rw ((no_hole b p h).0, ne_eqb c b other)
