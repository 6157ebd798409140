-- A pattern written byte by byte, with numbers in its holes.
-- Main statements: next_number; Put (what stands after i bytes of the pattern); hole_put, byte_put, all_put; hole_room, byte_room.
use mathlib.Core.Path.{◌≡◌, refl, sym, ap, ◌∙◌}
use mathlib.Core.List.{List, [], ◌∷◌, ◌++◌}
use Prim.Native.Nat.{ℕ, ◌+◌, ◌≤◌, ◌<◌}
use native.Mathlib.Numerals.{add-one}
use native.Mathlib.Omega.{arith}
use denote.Ref.{Bor}
use Rattle.std.specs.Prelude.{Option, None, Some}
use Rattle.std.specs.declared.slice.Iter.{Iter}
use Rattle.std.specs.Option.{unwrap_or, option_copied}
use Rattle.std.specs.Slice.Iter.{iter_rest, iter_steps}
use lib.ListN.{length, get_or, get_or-eq_default, set, drop, length-append, length-set, drop_of_length-le}
use lib.Seq.{sets, length-sets}
use borrow.Author.Tests.{eq-eqb, ne_eqb}
use Rattle.patterns.specs.Numbers.{decimal}
use Rattle.patterns.specs.Patterns.{hole, symbol_text, numbers_after, filled}
use Rattle.patterns.proofs.Tests.{next_of}
use Rattle.patterns.proofs.Spelling.{sets_append}

-- The number that an iterator over numbers gives next, 0 where none is left.
pub next_number : (s t : Iter ℕ) (r : Option (Bor ℕ)) → iter_steps s r t → unwrap_or (option_copied r) 0 ≡ get_or (iter_rest s) 0 0
next_number s t None h = sym (get_or-eq_default (iter_rest s) 0 (omega (arith, h.0)))
next_number s t (Some x) h = ap (λ (l : List ℕ). get_or l 0 0) (sym h)

-- Of pattern p with numbers ns, put into first at place `at`: i bytes are put and stand in out, up to place j, and these numbers are left.
pub record Put (p ns first : List ℕ) (at : ℕ) (out left : List ℕ) (j i : ℕ) : Type 0 where
  pub within : i ≤ length p
  pub long : length out ≡ length first
  pub place : at + length (filled p ns) ≡ j + length (filled (drop i p) left)
  pub text : sets first at (filled p ns) ≡ sets out j (filled (drop i p) left)

pub none_put : (p ns first : List ℕ) (at : ℕ) → Put p ns first at first ns at 0
none_put p ns first at = record { within = omega arith; long = refl; place = refl; text = refl }

module _ (p left : List ℕ) (i : ℕ) (more : i < length p) where
  pub filled-hole : get_or p i 0 ≡ hole → filled (drop i p) left ≡ decimal (get_or left 0 0) ++ filled (drop (i + 1) p) (drop 1 left)
  unfolding filled symbol_text numbers_after
  filled-hole e = ap (λ (q : List ℕ). filled q left) (next_of p i more) ∙ rw (eq-eqb (get_or p i 0) hole e)

  pub filled_byte : (get_or p i 0 ≡ hole → ⊥) → filled (drop i p) left ≡ get_or p i 0 ∷ filled (drop (i + 1) p) left
  unfolding filled symbol_text numbers_after
  filled_byte e = ap (λ (q : List ℕ). filled q left) (next_of p i more) ∙ rw (ne_eqb (get_or p i 0) hole e)

module _ {p ns first : List ℕ} {at : ℕ} {out left : List ℕ} {j i : ℕ} (put : Put p ns first at out left j i) where
  pub hole_put : i < length p → get_or p i 0 ≡ hole → {n : ℕ} {after rest : List ℕ} {next : ℕ} → n ≡ get_or left 0 0 → rest ≡ drop 1 left
      → after ≡ sets out j (decimal n) → next ≡ j + length (decimal n) → Put p ns first at after rest next (i + 1)
  hole_put more e {n} {after} {rest} {next} en er ea ej =
      let tail = filled (drop (i + 1) p) rest in
      let turn : filled (drop i p) left ≡ decimal n ++ tail = rw (en, er) (filled-hole p left i more e) in
      let total = ap length turn ∙ length-append (decimal n) tail in
      record {
        within = omega arith;
        long = ap length ea ∙ length-sets out j (decimal n) ∙ put.long;
        place = omega (arith, put.place, total, ej);
        text = put.text ∙ ap (sets out j) turn ∙ sets_append out j (decimal n) tail ∙ rw (ea, ej) refl;
      }

  pub hole_room : i < length p → get_or p i 0 ≡ hole → at + length (filled p ns) ≤ length first → {n : ℕ} → n ≡ get_or left 0 0 → j + length (decimal n) ≤ length out
  hole_room more e room en =
      let turn = filled-hole p left i more e in
      rw en (omega (arith, put.place, put.long, simp length-append at (ap length turn)))

  pub byte_put : i < length p → (get_or p i 0 ≡ hole → ⊥) → Put p ns first at (set out j (get_or p i 0)) left (j + 1) (i + 1)
  byte_put more e =
      let turn = filled_byte p left i more e in
      record {
        within = omega arith;
        long = length-set out j (get_or p i 0) ∙ put.long;
        place = omega (arith, put.place, ap length turn);
        text = put.text ∙ ap (sets out j) turn ∙ ap (λ (m : ℕ). sets (set out j (get_or p i 0)) m (filled (drop (i + 1) p) left)) (sym (add-one j));
      }

  pub byte_room : i < length p → (get_or p i 0 ≡ hole → ⊥) → at + length (filled p ns) ≤ length first → j < length out
  byte_room more e room = omega (arith, put.place, put.long, ap length (filled_byte p left i more e))

  pub all_put : length p ≤ i → (at + length (filled p ns) ≡ j) × (sets first at (filled p ns) ≡ out)
  unfolding filled
  all_put done =
      let over : filled (drop i p) left ≡ [] = rw (drop_of_length-le p done) refl in
      (omega (arith, put.place, ap length over), put.text ∙ ap (sets out j) over)
