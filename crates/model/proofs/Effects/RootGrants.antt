-- Steps 15 and 23: the root is granted selectively or exclusively, so nobody restructures, and the file extends as the root says.
-- Main statements: granted_rests (nobody restructures), extents_enter (a party begins to restructure).
use mathlib.Core.Path.{◌≡◌, refl, sym, ap, ◌∙◌}
use mathlib.Core.Logic.{◌⊎◌, inl, inr}
use mathlib.Core.Bool.{true, false, true≢false, false≢true}
use Prim.Native.Nat.{ℕ}
use native.Mathlib.Omega.{arith}
use lib.ListN.{get_or, set}
use Rattle.model.specs.declared.Root.{Root}
use Rattle.model.specs.declared.Party.{Party}
use Rattle.model.specs.declared.Mode.{Mode}
use Rattle.model.specs.declared.Mode.TheVariants.{Read, Selective, Exclusive}
use Rattle.model.specs.LockWords.{root_word, permits, table_one}
use Rattle.model.specs.Memory.{Memory, party_at}
use Rattle.model.specs.Book.{Book}
use Rattle.model.specs.Holds.{same_mode}
use Rattle.model.proofs.Laws.Lists.{Told, holds, fails, tell, Cmp, same, diff, cmp}
use Rattle.model.proofs.Invariant.Ghost.{Extent, root_extent}
use Rattle.model.proofs.Invariant.Claims.{claimed}
use Rattle.model.proofs.Invariant.LockMoves.{table-true}
use Rattle.model.proofs.Invariant.Statement.{restructures, live_for, low_for, ExtentsOk, Inv}
use Rattle.model.proofs.Invariant.Restructurer.{restructures_root}
use Rattle.model.proofs.Invariant.Turn.{Turn, row_long}
use Rattle.model.proofs.Effects.Kept.{row_same, row_other}

-- Table I permits nothing but a read beside a selective or an exclusive lock.
beside_none : (o : Mode) → same_mode o Read ≡ false → (table_one o Selective ≡ false) × (table_one o Exclusive ≡ false)
unfolding same_mode table_one
beside_none Read e = absurd (true≢false e)
beside_none Selective e = (refl, refl)
beside_none Exclusive e = (refl, refl)

pub granted_rests : (m : Memory) (b : Book) → Inv m b → (o : Mode) → same_mode o Read ≡ false → permits (get_or m.locks root_word 0) o ≡ true
    → (j : ℕ) → restructures (party_at m.parties j) ≡ false
granted_rests m b i o not_read permitted j = go (tell (restructures (party_at m.parties j)))
  where
    held : (x : Mode) → claimed m.root m.parties root_word j x ≡ true → table_one o x ≡ true
    held x h = table-true (i.locks_ok.each root_word (omega arith)) o permitted j x h

    none-holds : (claimed m.root m.parties root_word j Selective ≡ true) ⊎ (claimed m.root m.parties root_word j Exclusive ≡ true) → ⊥
    none-holds (inl h) = true≢false (sym (held Selective h) ∙ (beside_none o not_read).0)
    none-holds (inr h) = true≢false (sym (held Exclusive h) ∙ (beside_none o not_read).1)

    go : Told (restructures (party_at m.parties j)) → restructures (party_at m.parties j) ≡ false
    go (holds e) = absurd (none-holds (restructures_root m.root (party_at m.parties j) e))
    go (fails e) = e

-- The party whose record becomes p is then the only one that may.
pub extents_enter : {m : Memory} {b : Book} {q k : ℕ} (t : Turn m b q k) (p : Party) (o : Mode) → same_mode o Read ≡ false → permits (get_or m.locks root_word 0) o ≡ true
    → live_for m.root p ≡ root_extent m.root → low_for m.root p ≡ root_extent m.root → ExtentsOk m.root (set m.parties q p) t.inv.ghost
extents_enter {m} {b} {q} t p o not_read permitted live= low= = record {
  live-by = λ j r. by_me live_for ((ok.at_rest_lem rest).0 ∙ sym live=) j (cmp j q) r;
  low_by = λ j r. by_me low_for ((ok.at_rest_lem rest).1 ∙ sym low=) j (cmp j q) r;
  at_rest_lem = λ _. ok.at_rest_lem rest;
  live_next = ok.live_next;
  live_fits = ok.live_fits;
  root_next = ok.root_next;
  root_fits = ok.root_fits;
}
  where
    ok : ExtentsOk m.root m.parties t.inv.ghost
    ok = t.inv.extents_ok

    rest : (j : ℕ) → restructures (party_at m.parties j) ≡ false
    rest = granted_rests m b t.inv o not_read permitted

    by_me : {e : Extent} (f : Root → Party → Extent) → e ≡ f m.root p → (j : ℕ) → Cmp j q → restructures (party_at (set m.parties q p) j) ≡ true
        → e ≡ f m.root (party_at (set m.parties q p) j)
    by_me f h j (same s) r = h ∙ ap (f m.root) (sym (ap (party_at (set m.parties q p)) s ∙ row_same m.parties q p (row_long t)))
    by_me f h j (diff n) r = absurd (false≢true (sym (rest j) ∙ (rw (row_other m.parties q j p n) at r)))
