-- `patterns::match_at` meets its contract.
use mathlib.Core.Path.{◌≡◌, sym, ◌∙◌}
use mathlib.Core.Logic.{◌⊎◌}
use Prim.Native.Nat.{◌<◌, ◌≤◌}
use native.Mathlib.Omega.{arith}
use borrow.Author.Rules.{rules}
use lib.ListN.{length, get_or}
use Rattle.patterns.proofs.Matching.{none_run, found, hole_run, byte_run, hole_full, hole_unread, byte_other, unread_told, no_match, all_matched}
use Rattle.patterns.proofs.match_at.Goals as goal
use Rattle.patterns.proofs.match_at.Goals.{then-b-eq-HOLE+else-found-eq-MOST_NUMBERS+in_ok-number, else-b-eq-HOLE+else-ne}

pub loop-b-init : goal.loop-b-init
loop-b-init c =
    none_run c.args.pattern.now c.args.line.now c.args.at c.requires

pub returns-then-found-eq-MOST_NUMBERS : goal.returns-then-found-eq-MOST_NUMBERS
returns-then-found-eq-MOST_NUMBERS c =
    let l = c.loop-b in
    no_match l.invariant (hole_full _ _ _ l.b-index l.next c.loop-b-test.true c.if-b-eq-HOLE.true (omega (arith, found l.invariant)))

pub returns-in_err-number : goal.returns-in_err-number
returns-in_err-number c =
    let l = c.loop-b in
    let unread = unread_told _ _ (sym c.in_err-number.ensures) in
    c.from_residual.ensures ∙ no_match l.invariant (hole_unread _ _ _ l.b-index l.next c.loop-b-test.true c.if-b-eq-HOLE.true (omega (arith, found l.invariant)) unread)

pub returns-then-ne : goal.returns-then-ne
returns-then-ne c =
    let l = c.loop-b in
    let line = c.args.line.now in
    let other : (length line ≤ l.next) ⊎ ((l.next < length line) × (get_or line l.next 0 ≡ get_or c.args.pattern.now l.b-index 0 → ⊥)) = search rules in
    no_match l.invariant (byte_other _ _ _ l.b-index l.next c.loop-b-test.true c.if-b-eq-HOLE.false other)

pub loop-b-preserved : goal.loop-b-preserved
loop-b-preserved c =
    let l = c.loop-b in
    let line = c.args.line.now in
    let more = c.loop-b-test.true in
    elim c.if-b-eq-HOLE.branch [
      | then-b-eq-HOLE+else-found-eq-MOST_NUMBERS+in_ok-number w ↦ rw (w.numbers-is, w.found-is, w.next-is) (hole_run l.invariant more w.if-b-eq-HOLE.true (omega arith) (sym w.in_ok-number.ensures))
      | else-b-eq-HOLE+else-ne w ↦
          let same : (l.next < length line) × (get_or line l.next 0 ≡ get_or c.args.pattern.now l.b-index 0) = search rules in rw (w.numbers-is, w.found-is, w.next-is) (byte_run l.invariant more w.if-b-eq-HOLE.false same.0 same.1)
    ]

pub returns : goal.returns
returns c = all_matched c.loop-b.invariant c.loop-b-test.false
