-- `calls::take_up` meets its contract: a cause found before the words are looked at stands, else they decide.
use mathlib.Core.Path.{sym, ap, ◌∙◌}
use Rattle.model.specs.Calls.{called}
use Rattle.refusals.proofs.Accepted.{take_up_ready}
use Rattle.calls.specs.Lent.{lent}
use Rattle.calls.proofs.Calling.{handed_on, fits}
use Rattle.calls.proofs.TakingUp.{early_refused, words_taken, words_refused}
use Rattle.calls.proofs.take_up.Goals as goal

pub returns-in_err-take_up_cause : goal.returns-in_err-take_up_cause
returns-in_err-take_up_cause c = λ row ws e rest.
    let a = c.args in
    let cause = rw c.lengths.ensures at c.take_up_cause.ensures in
    ap (λ x. called x (lent a.root row a.locks.now a.pages.now ws)) (handed_on c.from_residual.result c.from_residual.ensures)
    ∙ early_refused a.root a.locks.now a.pages.now row ws _ (fits a.root row a.locks.now a.pages.now ws e) a.idle rest (sym cause ∙ c.in_err-take_up_cause.was)

pub words_saved-requires : goal.words_saved-requires
words_saved-requires c =
    let cause = rw c.lengths.ensures at c.take_up_cause.ensures in
    let ready = take_up_ready c.args.root c.args.idle _ (sym cause ∙ c.in_ok-take_up_cause.was) in
    (ready.0, ready.2, ready.3)

pub returns-then-not-words_saved : goal.returns-then-not-words_saved
returns-then-not-words_saved c = λ row ws e rest.
    let a = c.args in
    let cause = rw c.lengths.ensures at c.take_up_cause.ensures in
    words_refused a.root a.locks.now a.pages.now row ws _ (fits a.root row a.locks.now a.pages.now ws e) a.idle rest (sym cause ∙ c.in_ok-take_up_cause.was) (sym c.words_saved.ensures ∙ c.if-not-words_saved.true)

pub returns : goal.returns
returns c = λ row ws e rest.
    let a = c.args in
    let cause = rw c.lengths.ensures at c.take_up_cause.ensures in
    words_taken a.root a.locks.now a.pages.now row ws _ (fits a.root row a.locks.now a.pages.now ws e) a.idle rest (sym cause ∙ c.in_ok-take_up_cause.was) (sym c.words_saved.ensures ∙ c.if-not-words_saved.false)
