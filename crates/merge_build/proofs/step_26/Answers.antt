-- `merge_build::step_26` meets its contract: Cases has its tests.
use mathlib.Core.Path.{sym, ◌∙◌}
use Rattle.records.proofs.Told.{told}
use Rattle.chain_scan.proofs.ScannedChain.{unsound_chain}
use Rattle.merge_build.proofs.Cases.{barred_refused, target_refused, partner_refused}
use Rattle.merge_build.proofs.step_26.Goals as goal

pub returns-then-merge_barred : goal.returns-then-merge_barred
returns-then-merge_barred c =
    let a = c.args in
    barred_refused a.work.now a.locks.now a.pages.now (sym c.merge_barred.ensures ∙ c.if-merge_barred.true)

pub returns-in_err-t : goal.returns-in_err-t
returns-in_err-t c =
    let a = c.args in
    let open_to = sym c.merge_barred.ensures ∙ c.if-merge_barred.false in
    rw (told _ c.from_residual.ensures) (target_refused a.work.now a.locks.now a.pages.now open_to (unsound_chain _ 0 c.in_err-t.ensures))

pub returns-in_err-u : goal.returns-in_err-u
returns-in_err-u c =
    let a = c.args in
    let open_to = sym c.merge_barred.ensures ∙ c.if-merge_barred.false in
    rw (told _ c.from_residual-in_err-u.ensures) (partner_refused a.work.now a.locks.now a.pages.now open_to (unsound_chain _ 0 c.in_err-u.ensures))
