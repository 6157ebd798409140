-- `split_build::divide_many` meets its contract: Divided has its three ends.
use native.Mathlib.Omega.{arith}
use Rattle.records.specs.Work.{seen}
use Rattle.chain_scan.proofs.ScannedChain.{unsound_chain}
use Rattle.split_few.proofs.Cases.{chain_refused}
use Rattle.split_build.proofs.Halving.{can_divide}
use Rattle.split_build.proofs.Divided.{pages_few, can_write, skips, refuses, moves}
use Rattle.split_build.proofs.divide_many.Goals as goal

pub returns-in_err-l : goal.returns-in_err-l
returns-in_err-l c = λ ls.
    let a = c.args in
    let bad = unsound_chain _ 0 c.in_err-l.ensures in
    chain_refused (seen a.work.now ls a.pages.now) c.requires.not-barred _ c.from_residual.ensures.0 bad

pub division_of-d-requires : goal.division_of-d-requires
division_of-d-requires c =
    let a = c.args in
    let looked = c.in_ok-l.ensures in
    can_divide a.work.now a.pages.now c.requires c.in_ok-l.l looked

pub overflow_add-k : goal.overflow_add-k
overflow_add-k c =
    let a = c.args in
    let looked = c.in_ok-l.ensures in
    let d = c.division_of-d.result in
    let divides = c.division_of-d.ensures in
    let m = c.pages_for-first.result in
    let n = c.pages_for.result in
    let first = c.pages_for-first.ensures in
    let second = c.pages_for.ensures in
    let few = pages_few a.work.now a.pages.now c.requires c.in_ok-l.l looked d divides m n first second in
    record { fits = omega (arith, few) }

pub overflow_cast-k : goal.overflow_cast-k
overflow_cast-k c =
    let a = c.args in
    let looked = c.in_ok-l.ensures in
    let d = c.division_of-d.result in
    let divides = c.division_of-d.ensures in
    let m = c.pages_for-first.result in
    let n = c.pages_for.result in
    let first = c.pages_for-first.ensures in
    let second = c.pages_for.ensures in
    let few = pages_few a.work.now a.pages.now c.requires c.in_ok-l.l looked d divides m n first second in
    record { fits = omega (arith, few) }

pub returns-then-root-k : goal.returns-then-root-k
returns-then-root-k c = λ ls.
    let a = c.args in
    let looked = c.in_ok-l.ensures in
    let d = c.division_of-d.result in
    let divides = c.division_of-d.ensures in
    let m = c.pages_for-first.result in
    let n = c.pages_for.result in
    let first = c.pages_for-first.ensures in
    let second = c.pages_for.ensures in
    skips a.work.now a.pages.now c.requires c.in_ok-l.l looked d divides m n first second ls c.if-root-k.true

pub write_halves-requires : goal.write_halves-requires
write_halves-requires c =
    let a = c.args in
    let looked = c.in_ok-l.ensures in
    let d = c.division_of-d.result in
    let divides = c.division_of-d.ensures in
    let m = c.pages_for-first.result in
    let n = c.pages_for.result in
    let first = c.pages_for-first.ensures in
    let second = c.pages_for.ensures in
    let drawn = c.in_ok-head.ensures in
    rw c.scratch_page-scratch.ensures (can_write a.work.now a.pages.now c.requires c.in_ok-l.l looked d divides m n first second c.in_ok-head.head drawn)

pub returns-in_err-head : goal.returns-in_err-head
returns-in_err-head c = λ ls.
    let a = c.args in
    let looked = c.in_ok-l.ensures in
    let d = c.division_of-d.result in
    let divides = c.division_of-d.ensures in
    let m = c.pages_for-first.result in
    let n = c.pages_for.result in
    let first = c.pages_for-first.ensures in
    let second = c.pages_for.ensures in
    let bad = c.in_err-head.ensures in
    refuses a.work.now a.pages.now c.requires c.in_ok-l.l looked d divides m n first second ls c.if-root-k.false _ c.from_residual-in_err-head.ensures.0 bad

pub returns : goal.returns
returns c = λ ls.
    let a = c.args in
    let looked = c.in_ok-l.ensures in
    let d = c.division_of-d.result in
    let divides = c.division_of-d.ensures in
    let m = c.pages_for-first.result in
    let n = c.pages_for.result in
    let first = c.pages_for-first.ensures in
    let second = c.pages_for.ensures in
    let drawn = c.in_ok-head.ensures in
    moves a.work.now a.pages.now c.requires c.in_ok-l.l looked d divides m n first second ls c.if-root-k.false c.in_ok-head.head c.scratch_page-scratch.result.0 _ drawn c.scratch_page-scratch.ensures c.write_halves.ensures
