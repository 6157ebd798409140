-- `take_up::words_saved` meets its contract.
use mathlib.Core.Path.{◌≡◌, sym, ap, ◌∙◌}
use mathlib.Core.Bool.{true}
use Prim.Native.Nat.{ℕ, ◌+◌, ◌-◌}
use native.Mathlib.Omega.{arith}
use Rattle.model.specs.Addresses.{count_of_chains}
use Rattle.model.specs.Pages.{scratch_page}
use Rattle.model.specs.Refusals.{root_sound}
use Rattle.model.specs.TakeUp.{zero_pages}
use Rattle.model.proofs.Laws.Lists.{eqb_same, eqb-diff}
use Rattle.model.proofs.Invariant.Start.{limits_within}
use Rattle.take_up.specs.Seen.{pages_counted, chains_saved, CanSurvey}
use Rattle.take_up.proofs.Chain.{facts}
use Rattle.take_up.proofs.Counting.{chains_fit_ok, chains_unfit, counted_bounded}
use Rattle.take_up.proofs.Saved.{locks_fail, scratch_fails, root_fails, chains_fail, beyond_fails, count_fails, free_decides}
use Rattle.take_up.proofs.words_saved.Goals as goal

pub returns-then-not-root_sound : goal.returns-then-not-root_sound
returns-then-not-root_sound c =
    let a = c.args in
    root_fails a.root a.locks.now a.pages.now (sym c.root_sound.ensures ∙ c.if-not-root_sound.true)

pub returns-then-not-all_zero : goal.returns-then-not-all_zero
returns-then-not-all_zero c =
    let a = c.args in
    locks_fail a.root a.locks.now a.pages.now (sym c.all_zero.ensures ∙ c.if-not-all_zero.true)

pub overflow_add-overflow : goal.overflow_add-overflow
overflow_add-overflow c =
    let a = c.args in
    let l = limits_within a.root c.requires.0 in
    omega (arith, l.chains_fit_ok, l.overflow_fits)

pub overflow_add-overflow-2 : goal.overflow_add-overflow-2
overflow_add-overflow-2 c =
    let a = c.args in
    let l = limits_within a.root c.requires.0 in
    omega (arith, l.chains_fit_ok, l.overflow_fits, l.parties_fit_lem)

pub pages_zero-requires : goal.pages_zero-requires
pages_zero-requires c =
    let a = c.args in
    let l = limits_within a.root c.requires.0 in
    (omega arith, omega (arith, c.requires.2), omega (arith, l.chains_fit_ok, l.overflow_fits, l.parties_fit_lem))

pub returns-then-not-pages_zero : goal.returns-then-not-pages_zero
returns-then-not-pages_zero c =
    let a = c.args in
    let ps = a.pages.now in
    let many : a.root.primaries + a.root.overflow + a.root.parties - (a.root.primaries + a.root.overflow) ≡ a.root.parties = omega arith in
    let from : a.root.primaries + a.root.overflow ≡ scratch_page a.root 0 = omega arith in
    scratch_fails a.root a.locks.now ps ((λ i. zero_pages ps (sym many i) (sym from i)) ∙ sym c.pages_zero.ensures ∙ c.if-not-pages_zero.true)

pub chain_count-count-requires : goal.chain_count-count-requires
chain_count-count-requires c =
    let a = c.args in
    let ps = a.pages.now in
    let root : root_sound a.root ≡ true = sym c.root_sound.ensures ∙ c.if-not-root_sound.false in
    let can : CanSurvey a.root ps = record { sizes_fit = c.requires.0; root_sound_ok = root; pages_many = c.requires.2 } in
    let f = facts a.root ps can in
    record { some_original = f.limits.some_original; originals_fit = omega (arith, f.limits.originals_fit, f.limits.chains_fit_ok); level_fits = f.level_fits; next_fits = f.next_fits }

pub pages_zero-requires-2 : goal.pages_zero-requires-2
pages_zero-requires-2 c =
    let a = c.args in
    let ps = a.pages.now in
    let root : root_sound a.root ≡ true = sym c.root_sound.ensures ∙ c.if-not-root_sound.false in
    let can : CanSurvey a.root ps = record { sizes_fit = c.requires.0; root_sound_ok = root; pages_many = c.requires.2 } in
    let f = facts a.root ps can in
    let e = c.chain_count-count.ensures in
    (omega (arith, e, f.count_fits), omega (arith, c.requires.2), omega (arith, f.limits.chains_fit_ok))

pub returns-then-not-pages_zero-2 : goal.returns-then-not-pages_zero-2
returns-then-not-pages_zero-2 c =
    let a = c.args in
    let ps = a.pages.now in
    let e = c.chain_count-count.ensures in
    beyond_fails a.root a.locks.now ps ((λ i. zero_pages ps (a.root.primaries - sym e i) (sym e i)) ∙ sym c.pages_zero-2.ensures ∙ c.if-not-pages_zero-2.true)

pub chains_saved-requires : goal.chains_saved-requires
chains_saved-requires c =
    let a = c.args in
    let ps = a.pages.now in
    let root : root_sound a.root ≡ true = sym c.root_sound.ensures ∙ c.if-not-root_sound.false in
    let can : CanSurvey a.root ps = record { sizes_fit = c.requires.0; root_sound_ok = root; pages_many = c.requires.2 } in
    let f = facts a.root ps can in
    (can, c.chain_count-count.ensures)

pub overflow_add-counted : goal.overflow_add-counted
overflow_add-counted c =
    let a = c.args in
    let ps = a.pages.now in
    let root : root_sound a.root ≡ true = sym c.root_sound.ensures ∙ c.if-not-root_sound.false in
    let can : CanSurvey a.root ps = record { sizes_fit = c.requires.0; root_sound_ok = root; pages_many = c.requires.2 } in
    let f = facts a.root ps can in
    let n = c.in-Some.n in
    let e = c.chain_count-count.ensures in
    let g = chains_fit_ok a.root ps c.chain_count-count.result n (sym c.in-Some.ensures) in
    let few = counted_bounded a.root ps f.limits.overflow_fits c.chain_count-count.result 0 in
    omega (arith, g.1, few, e, f.count_fits, f.limits.chains_fit_ok, f.free_fits, f.limits.overflow_fits)

pub returns-else-counted-root : goal.returns-else-counted-root
returns-else-counted-root c =
    let a = c.args in
    let ps = a.pages.now in
    let root : root_sound a.root ≡ true = sym c.root_sound.ensures ∙ c.if-not-root_sound.false in
    let can : CanSurvey a.root ps = record { sizes_fit = c.requires.0; root_sound_ok = root; pages_many = c.requires.2 } in
    let f = facts a.root ps can in
    let n = c.in-Some.n in
    let g = chains_fit_ok a.root ps (count_of_chains a.root) n (ap (λ (k : ℕ). chains_saved a.root ps k 0) (sym c.chain_count-count.ensures) ∙ sym c.in-Some.ensures) in
    eqb-diff (n + a.root.free) a.root.overflow c.if-counted-root.false
    ∙ count_fails a.root a.locks.now ps can g.0 (eqb-diff (pages_counted a.root ps (count_of_chains a.root) 0 + a.root.free) a.root.overflow (λ e. c.if-counted-root.false (omega (arith, e, g.1))))

pub free_saved-requires : goal.free_saved-requires
free_saved-requires c =
    let a = c.args in
    let ps = a.pages.now in
    let root : root_sound a.root ≡ true = sym c.root_sound.ensures ∙ c.if-not-root_sound.false in
    let can : CanSurvey a.root ps = record { sizes_fit = c.requires.0; root_sound_ok = root; pages_many = c.requires.2 } in
    let f = facts a.root ps can in
    (f.pages_fit, f.limits.overflow_fits)

pub returns-in_default : goal.returns-in_default
returns-in_default c =
    let a = c.args in
    let ps = a.pages.now in
    let saved = ap (λ (k : ℕ). chains_saved a.root ps k 0) (sym c.chain_count-count.ensures) ∙ sym c.in_default.ensures in
    chains_fail a.root a.locks.now ps (chains_unfit a.root ps (count_of_chains a.root) saved)

pub returns-then-counted-root : goal.returns-then-counted-root
returns-then-counted-root c =
    let a = c.args in
    let ps = a.pages.now in
    let root : root_sound a.root ≡ true = sym c.root_sound.ensures ∙ c.if-not-root_sound.false in
    let can : CanSurvey a.root ps = record { sizes_fit = c.requires.0; root_sound_ok = root; pages_many = c.requires.2 } in
    let f = facts a.root ps can in
    let n = c.in-Some.n in
    let g = chains_fit_ok a.root ps (count_of_chains a.root) n (ap (λ (k : ℕ). chains_saved a.root ps k 0) (sym c.chain_count-count.ensures) ∙ sym c.in-Some.ensures) in
    let many : a.root.primaries + a.root.overflow + a.root.parties - (a.root.primaries + a.root.overflow) ≡ a.root.parties = omega arith in
    let from : a.root.primaries + a.root.overflow ≡ scratch_page a.root 0 = omega arith in
    let e = c.chain_count-count.ensures in
    c.free_saved.ensures
    ∙ free_decides a.root a.locks.now ps can g.0 (sym c.all_zero.ensures ∙ c.if-not-all_zero.false)
    ((λ i. zero_pages ps (sym many i) (sym from i)) ∙ sym c.pages_zero.ensures ∙ c.if-not-pages_zero.false)
    ((λ i. zero_pages ps (a.root.primaries - sym e i) (sym e i)) ∙ sym c.pages_zero-2.ensures ∙ c.if-not-pages_zero-2.false)
    (eqb_same (pages_counted a.root ps (count_of_chains a.root) 0 + a.root.free) a.root.overflow (omega (arith, c.if-counted-root.true, g.1)))
