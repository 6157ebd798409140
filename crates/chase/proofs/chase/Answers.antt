-- `chase::chase` meets its contract. The loop's invariant: the chase from lev ends where the chase from the raised one does.
use mathlib.Core.Bool.{not, false≢true}
use borrow.Author.Tests.{eq-eqb, eqb-true, not-false}
use mathlib.Core.Path.{◌≡◌, sym, ap, ◌∙◌}
use Prim.Native.Nat.{ℕ, ◌+◌, ◌-◌}
use native.Mathlib.Omega.{arith}
use Rattle.model.specs.Mixing.{mixed}
use Rattle.model.specs.Steps.Chase.{chase}
use Rattle.chase.proofs.Chasing.{ended, chase_ends, chase-leaves, chase_goes_on}
use Rattle.chase.proofs.chase.Goals as goal

pub returns-then-local-lev : goal.returns-then-local-lev
returns-then-local-lev c =
    let a = c.args in
    chase_ends a.n (mixed a.key) a.chain.0 (a.local - a.lev) a.lev (omega arith)

pub loop-below-init : goal.loop-below-init
loop-below-init c =
    let a = c.args in
    ap (λ (m : ℕ). chase a.n m a.chain.0 (a.local - a.lev) a.lev) (sym c.mixed-m.ensures)

pub returns-then-ne : goal.returns-then-ne
returns-then-ne c =
    let a = c.args in
    let m = c.mixed-m.result in
    let l = c.loop-below in
    chase-leaves a.n m a.chain.0 (a.local - l.below) l.below (omega arith) c.hash-on.ensures (λ (e : c.hash-on.result.0 ≡ a.chain.0). false≢true (sym (c.ne.ensures ∙ ap not (eq-eqb c.hash-on.result.0 a.chain.0 e)) ∙ c.if-ne.true)) ∙ sym l.invariant

pub loop-below-preserved : goal.loop-below-preserved
loop-below-preserved c =
    let a = c.args in
    let m = c.mixed-m.result in
    let l = c.loop-below in
    let fewer : a.local - l.below - 1 ≡ a.local - (l.below + 1) = omega arith in
    let here : c.hash-on.result.0 ≡ a.chain.0 = eqb-true c.hash-on.result.0 a.chain.0 (not-false _ (sym c.ne.ensures ∙ c.if-ne.false)) in
    l.invariant
    ∙ chase_goes_on a.n m a.chain.0 (a.local - l.below) l.below (omega arith) c.hash-on.ensures here
    ∙ ap (λ (d : ℕ). chase a.n m a.chain.0 d (l.below + 1)) fewer

pub returns : goal.returns
returns c =
    let a = c.args in
    let m = c.mixed-m.result in
    let l = c.loop-below in
    let end : a.local ≡ l.below = omega arith in
    ap (λ (lev : ℕ). ended lev a.chain.0) end ∙ chase_ends a.n m a.chain.0 (a.local - l.below) l.below (omega arith) ∙ sym l.invariant
