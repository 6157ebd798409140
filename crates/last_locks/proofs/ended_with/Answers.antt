-- `last_locks::ended_with` meets its contract: all are held, and done follows.
use mathlib.Core.Path.{ap, ◌∙◌}
use Rattle.model.specs.declared.OperationAnswer.{OperationAnswer}
use Rattle.model.specs.Answers.{answer_of}
use Rattle.model.specs.Endings.{done, ended_with}
use Rattle.records.specs.Work.{seen}
use Rattle.lock_requests.specs.Locks.{claims_of}
use Rattle.lock_requests.proofs.Releases.{held_goes_on}
use Rattle.last_locks.proofs.ended_with.Goals as goal

pub returns : goal.returns
unfolding ended_with
returns c =
    let a = c.args in
    let v = seen a.work.now a.locks.now a.pages.now in
    let w = seen a.work.now c.give_up.new.locks a.pages.now in
    c.done.ensures w.party c.give_up.new.locks
    ∙ ap (λ (o : OperationAnswer). done o a.made w) c.answer_of-answer.ensures
    ∙ held_goes_on v (claims_of a.claimed.now) (c.give_up.ensures.held a.pages.now) (c.give_up.ensures.words a.pages.now) (done (answer_of a.work.now.party.answer) a.made) c.in_ok-give_up.was
