-- One entry of the row, by the party that its word names, and the row entry by entry.
-- Main statements: named-none, named-some, meets_asked (one entry, by what code tests); named_fits (who is named has a record);
-- seen_none, seen_next, stands_seen (the row entry by entry).
use mathlib.Core.Path.{◌≡◌, refl, sym}
use mathlib.Core.Bool.{Bool, true, false, not, ◌&&◌, ◌||◌}
use mathlib.Core.Option.{Option, none, some}
use mathlib.Core.List.{List, [], ◌∷◌, ◌++◌}
use Prim.Native.Nat.{ℕ, ◌+◌, ◌-◌, ◌<◌}
use native.Mathlib.Omega.{arith}
use native.Mathlib.Numerals.{add-one}
use lib.Dec.{eqb, leb}
use lib.ListN.{length, get_or, take, drop}
use lib.Seq.{take-suc}
use Rattle.std.specs.Prelude.{Some, None, min}
use Rattle.model.specs.declared.Root.{Root}
use Rattle.model.specs.declared.Party.{Party}
use Rattle.model.specs.Records.{idle}
use Rattle.model.specs.LockWords.{Claim, claim, field_of, with_field}
use Rattle.model.specs.WaitingRow.{waiters_in, all_zero}
use Rattle.model.proofs.Laws.Lists.{Told, holds, fails, tell, and_both, eqb-false, leb-true}
use Rattle.waiting_row.specs.declared.Looking.{Looking}
use Rattle.waiting_row.specs.declared.Request.{Request}
use Rattle.waiting_row.specs.Requested.{request_of, request_in, asks, hindered_by}
use Rattle.waiting_row.specs.Entry.{named, first_seen, damaged_by, meets, looked_at, looked_through, seen_at, placed_by, stands_of}

-- Who is named has a record, and a number below 16.
pub named_fits : (w n j : ℕ) → named w n ≡ Some j → (j < n) × (j < 16) × (w ≡ j + 1)
unfolding named
named_fits w n j e = go (tell (not (eqb w 0) && leb w (min n 16)))
  where
    go : Told (not (eqb w 0) && leb w (min n 16)) → (j < n) × (j < 16) × (w ≡ j + 1)
    go (holds t) =
        let b = and_both (not (eqb w 0)) (leb w (min n 16)) t in
        let some : eqb w 0 ≡ false = denied (eqb w 0) b.0 in
        let z = eqb-false w 0 some in
        let h = leb-true w (min n 16) b.1 in
        let f : Some (w - 1) ≡ Some j = rw t at e in
        let is : w - 1 ≡ j = cc in
        (omega (arith, z, h, is), omega (arith, z, h, is), omega (arith, z, is))
      where
        denied : (b : Bool) → not b ≡ true → b ≡ false
        denied true e = cc
        denied false e = refl
    go (fails t) = let f : None ≡ Some j = rw t at e in absurd cc

module _ (s : Looking) (r : Root) (ps : List Party) (q w : ℕ) where
  pub named-none : named w (length ps) ≡ None → damaged_by (eqb w (q + 1)) s ≡ looked_at s r ps q w
  unfolding looked_at
  named-none e = rw e refl

  pub named-some : (j : ℕ) → named w (length ps) ≡ Some j → meets (eqb j q) j (asks r (get_or ps j idle)) s ≡ looked_at s r ps q w
  unfolding looked_at
  named-some j e = rw e refl

-- Party j is met, which requests this.
pub meets_asked : (own : Bool) (j : ℕ) (s : Looking) (o : Option Claim) (m : Request) → Some m ≡ request_in o
    → record {
      mine = s.mine;
      met = with_field j 1 s.met 1;
      sound = s.sound && eqb (field_of j 1 s.met) 0;
      waits = s.waits || own;
      behind = s.behind || (not (s.waits || own) && hindered_by (claim m.word m.mode) s.mine);
    } ≡ meets own j o s
meets_asked own j s none m e = absurd cc
meets_asked own j s (some c) m e = let is : m ≡ request_of c = cc in rw is refl

-- ---- Entry by entry

module _ (r : Root) (ps : List Party) (q : ℕ) where
  through_snoc : (s : Looking) (ws : List ℕ) (w : ℕ) → looked_through r ps q s (ws ++ (w ∷ [])) ≡ looked_at (looked_through r ps q s ws) r ps q w
  unfolding looked_through
  through_snoc s [] w = refl
  through_snoc s (x ∷ ws) w = through_snoc (looked_at s r ps q x) ws w

  pub seen_none : (g : Bool) (ws : List ℕ) → first_seen r (get_or ps q idle) g ≡ seen_at r ps q g ws 0
  unfolding looked_through
  seen_none g ws = refl

  pub seen_next : (g : Bool) (ws : List ℕ) (i : ℕ) → i < length ws → looked_at (seen_at r ps q g ws i) r ps q (get_or ws i 0) ≡ seen_at r ps q g ws (i + 1)
  seen_next g ws i h = rw (add-one, take-suc ws i 0 h) (sym (through_snoc (first_seen r (get_or ps q idle) g) (take i ws) (get_or ws i 0)))

  pub stands_seen : (ws : List ℕ) → placed_by (seen_at r ps q (all_zero (drop (length (waiters_in ws)) ws)) ws (length (waiters_in ws))) ≡ stands_of r ps ws q
  unfolding stands_of
  stands_seen ws = refl
