-- `take_up::chains_saved` meets its contract.
use mathlib.Core.Path.{◌≡◌, sym, ap, ◌∙◌}
use mathlib.Core.Bool.{◌&&◌}
use Prim.Native.Nat.{ℕ, ◌+◌, ◌-◌}
use native.Mathlib.Omega.{arith}
use Rattle.model.specs.TakeUp.{chains_fit}
use Rattle.model.proofs.Laws.Lists.{left_fails}
use Rattle.take_up.specs.Seen.{pages_counted}
use Rattle.take_up.proofs.Chain.{facts}
use Rattle.take_up.proofs.Counting.{saved_fits, unsaved_fails, fits_next, counted_next, none_fits, chain_bounded, all_saved, some_unsaved}
use Rattle.take_up.proofs.chains_saved.Goals as goal

pub loop-c-init : goal.loop-c-init
loop-c-init c =
    let a = c.args in
    let whole : a.count ≡ a.count - 0 = omega arith in
    let counted : pages_counted a.root a.pages.now a.count 0 ≡ pages_counted a.root a.pages.now (a.count - 0) 0 = ap (λ (k : ℕ). pages_counted a.root a.pages.now k 0) whole in
    (omega arith, ap (λ (k : ℕ). chains_fit a.root a.pages.now k 0) whole, omega (arith, counted))

pub chain_saved-requires : goal.chain_saved-requires
chain_saved-requires c = let start = c in (start.requires.0, omega (arith, c.loop-c-test.true, start.requires.1))

pub returns-in_err-total : goal.returns-in_err-total
returns-in_err-total c =
    let l = c.loop-c in
    let a = c.args in
    let ps = a.pages.now in
    let more = c.loop-c-test.true in
    let bad = unsaved_fails a.root ps l.c (sym c.in_err-total.ensures) in
    c.from_residual.ensures
    ∙ some_unsaved a.root ps a.count (l.invariant.1 ∙ fits_next a.root ps (a.count - l.c) l.c (omega (arith, more)) ∙ left_fails (chains_fit a.root ps (a.count - l.c - 1) (l.c + 1)) bad)

pub overflow_add-total : goal.overflow_add-total
overflow_add-total c =
    let l = c.loop-c in
    let a = c.args in
    let ps = a.pages.now in
    let more = c.loop-c-test.true in
    let n = c.in_ok-total.field-0 in
    let f = facts a.root ps c.requires.0 in
    let one = saved_fits a.root ps l.c n (sym c.in_ok-total.ensures) in
    let few = chain_bounded a.root ps l.c in
    omega (arith, one.1, few, l.invariant.0, more, c.requires.1, f.count_fits, f.limits.chains_fit_ok, f.limits.overflow_fits)

pub loop-c-preserved : goal.loop-c-preserved
loop-c-preserved c =
    let l = c.loop-c in
    let a = c.args in
    let ps = a.pages.now in
    let more = c.loop-c-test.true in
    let n = c.in_ok-total.field-0 in
    let f = facts a.root ps c.requires.0 in
    let one = saved_fits a.root ps l.c n (sym c.in_ok-total.ensures) in
    let few = chain_bounded a.root ps l.c in
    let next : a.count - l.c - 1 ≡ a.count - (l.c + 1) = omega arith in (
      omega (arith, l.invariant.0, one.1, few, f.limits.overflow_fits),
      l.invariant.1 ∙ fits_next a.root ps (a.count - l.c) l.c (omega (arith, more)) ∙ (λ i. one.0 i && chains_fit a.root ps (next i) (l.c + 1)),
      l.invariant.2 ∙ ap (λ (k : ℕ). l.total + k) (counted_next a.root ps (a.count - l.c) l.c (omega (arith, more)) ∙ (λ i. one.1 i + pages_counted a.root ps (next i) (l.c + 1))) ∙ omega arith,
    )

pub returns : goal.returns
returns c =
    let l = c.loop-c in
    let a = c.args in
    let ps = a.pages.now in
    let none = none_fits a.root ps (a.count - l.c) l.c (omega (arith, c.loop-c-test.false)) in
    all_saved a.root ps a.count l.total (l.invariant.1 ∙ none.0) (omega (arith, l.invariant.2, none.1))
