-- `split_build::step_17` meets its contract: what it writes of the records is what after_dividing says.
use mathlib.Core.Path.{sym, ap, ◌∙◌}
use mathlib.Core.List.{List}
use Rattle.model.specs.declared.Restructuring.TheVariants.{SplitSkipped}
use Rattle.model.specs.Pages.{link_of}
use Rattle.model.specs.LockWords.{Claim}
use Rattle.model.specs.Endings.{ended_with}
use Rattle.records.specs.Work.{seen}
use Rattle.records.proofs.Told.{told}
use Rattle.split_few.specs.Splitting.{after_dividing}
use Rattle.split_few.proofs.Cases.{barred_refused}
use Rattle.split_build.proofs.step_17.Goals as goal

pub returns-then-split_barred : goal.returns-then-split_barred
returns-then-split_barred c =
    barred_refused (seen c.args.work.now c.args.locks.now c.args.pages.now) (sym c.split_barred.ensures ∙ c.if-split_barred.true)

pub returns-in_err-m : goal.returns-in_err-m
unfolding after_dividing
returns-in_err-m c = rw (told _ c.from_residual.ensures) (c.in_err-m.ensures c.args.locks.now)

pub returns-in_default : goal.returns-in_default
unfolding after_dividing
returns-in_default c =
    let e = rw c.in_default.is at (c.in_ok-m.ensures c.args.locks.now) in
    c.ended_with.ensures
    ∙ ap (λ (cs : List Claim). ended_with (seen c.args.work.now c.args.locks.now c.divide.new.pages) cs SplitSkipped) c.split_locks-claimed.ensures.claims
    ∙ e

pub returns : goal.returns
unfolding after_dividing link_of
returns c =
    let e = rw c.in-Some.is at (c.in_ok-m.ensures c.args.locks.now) in
    rw c.word-link.ensures e
