-- A party that locates, at 1 to 8 but not at 6, moves on: what it then owes, whether it requests a lock, keeps the
-- locks it has, or gives one up.
-- Main statements: Locates (what it knows), locating (what it owes then).
use mathlib.Core.Path.{◌≡◌, refl}
use mathlib.Core.Bool.{true, false}
use mathlib.Core.Logic.{◌≢◌}
use Prim.Native.Nat.{ℕ, ◌≤◌, ◌<◌}
use native.Mathlib.Omega.{arith}
use Rattle.model.specs.Records.{at_step, with_lev, with_chain}
use Rattle.model.specs.Memory.{Memory}
use Rattle.model.specs.Book.{Book}
use Rattle.model.specs.Steps.Dispatch.{has_step}
use Rattle.model.proofs.Laws.Lists.{lt-leb, eqb-diff}
use Rattle.model.proofs.Invariant.Statement.{restructures, Early, facts_at}
use Rattle.model.proofs.Invariant.Facts.{no_pages_held}
use Rattle.model.proofs.Invariant.Turn.{Plain, Turn, after, before, me, owns_no_old, restructures_at}
use Rattle.model.proofs.Effects.OwnRecord.{Moves}
use Rattle.model.proofs.Effects.Moves.{extents_rest, same_file}

-- Up to 8 a party does not restructure.
early_rests : (n : ℕ) → n ≤ 8 → restructures_at n ≡ false
early_rests n h = rw (lt-leb 16 n (omega arith), lt-leb 24 n (omega arith)) refl

-- At a step number up to 8 and not 6 the book notes nothing, and the party neither restructures nor uses a page outside the live file.
early_plain : (k : ℕ) → k ≤ 8 → k ≢ 6 → Plain k × (restructures_at k ≡ false)
early_plain k h n = (
  rw (eqb-diff k 6 n, eqb-diff k 10 (omega arith), eqb-diff k 11 (omega arith), eqb-diff k 18 (omega arith), eqb-diff k 29 (omega arith)) refl,
  early_rests k h,
)

-- Party q moves on from step number k to step number n with this lev and chain.
-- Nothing is owed yet, and `knows` is what it must know besides.
pub record Locates {m : Memory} {b : Book} {q k : ℕ} (t : Turn m b q k) (n lev chain : ℕ) : Type 0 where
  pub numbers : (k ≤ 8) × (k ≢ 6) × (n ≤ 8)
  pub has_next : has_step (me t).operation n ≡ true
  pub early : Early (before t) q (me t)
  pub lev_fits : lev ≤ 9
  pub chain_fits : chain < m.root.primaries
  pub knows : Early (after t (at_step n (with_chain chain (with_lev lev (me t))))) q (at_step n (with_chain chain (with_lev lev (me t))))
      → facts_at n (after t (at_step n (with_chain chain (with_lev lev (me t))))) q (at_step n (with_chain chain (with_lev lev (me t)))) t.entered

pub locating : {m : Memory} {b : Book} {q k : ℕ} (t : Turn m b q k) (n lev chain : ℕ) → Locates t n lev chain → Moves t (at_step n (with_chain chain (with_lev lev (me t))))
unfolding restructures
locating {m} {b} {q} {k} t n lev chain x = record {
  plain = (early_plain k x.numbers.0 x.numbers.1).0;
  stays = λ y e. absurd (owns_no_old t x.early.no_pages y e);
  extents = extents_rest t (same_file t) _ (early_plain k x.numbers.0 x.numbers.1).1 (early_rests n x.numbers.2);
  busy = record {
    entry = t.busy.entry;
    same_operation = t.busy.same_operation;
    same_setting = t.busy.same_setting;
    same_key = t.busy.same_key;
    step_fits = x.has_next;
    lev_fits = x.lev_fits;
    owed_fits_ok = t.busy.owed_fits_ok;
    answer_fits = t.busy.answer_fits;
    answer_set = λ l. absurd (omega (arith, x.numbers.2));
    chain_fits = x.chain_fits;
    other_fits = t.busy.other_fits;
  };
  facts = x.knows (record { nothing_owed = x.early.nothing_owed; no_pages = no_pages_held (before t) _ q refl x.early.no_pages });
}
