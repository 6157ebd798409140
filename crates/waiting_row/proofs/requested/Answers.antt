-- `waiting_row::requested` meets its contract: at each step, what the step wants.
use Rattle.std.proofs.Common.{◌∙◌, sym, rules}
use Rattle.model.specs.Steps.Dispatch.{want_table}
use Rattle.waiting_row.proofs.Requests.{unasked, told, want_at, own_chain, next_wanted, target_goes, target_wanted, want_none, untold, halted}
use Rattle.waiting_row.proofs.requested.Goals as goal
use Rattle.waiting_row.proofs.requested.Goals.{then-not-has_step-via-then-not-has_step, then-not-has_step-via-else-not-has_step+then-stopped}

pub returns-then-not-has_step : goal.returns-then-not-has_step
returns-then-not-has_step c =
    elim c.then-not-has_step.branch [
      | then-not-has_step-via-then-not-has_step w ↦ unasked c.args.root c.args.party (sym c.has_step.ensures ∙ w.if-not-has_step.true)
      | then-not-has_step-via-else-not-has_step+then-stopped w ↦ halted c.args.root c.args.party (sym w.stopped.ensures ∙ w.if-stopped.true)
    ]

pub target_word-requires-clause-low : goal.target_word-requires-clause-low
target_word-requires-clause-low c = (target_goes c.args.root c.args.party c.in-24.is (sym c.stopped.ensures ∙ c.if-stopped.false)).0

pub target_word-requires-clause-goes : goal.target_word-requires-clause-goes
target_word-requires-clause-goes c = (target_goes c.args.root c.args.party c.in-24.is (sym c.stopped.ensures ∙ c.if-stopped.false)).1

pub returns-in_default : goal.returns-in_default
returns-in_default c =
    let h = sym c.has_step.ensures ∙ c.if-not-has_step.false in
    let s = sym c.stopped.ensures ∙ c.if-stopped.false in
    untold c.args.root c.args.party h s
    (want_none c.args.root c.args.party (search rules) (search rules) (search rules) (search rules) (search rules) (search rules) (search rules) (search rules) (search rules))

pub returns-in-1 : goal.returns-in-1
unfolding want_table
returns-in-1 c =
    let h = sym c.has_step.ensures ∙ c.if-not-has_step.false in
    let s = sym c.stopped.ensures ∙ c.if-stopped.false in
    told c.args.root c.args.party _ h s (want_at c.args.root c.args.party 1 c.in-1.is)

pub returns-in-4 : goal.returns-in-4
unfolding want_table
returns-in-4 c =
    let h = sym c.has_step.ensures ∙ c.if-not-has_step.false in
    let s = sym c.stopped.ensures ∙ c.if-stopped.false in
    rw (c.mode_of.ensures, c.from.ensures) (told c.args.root c.args.party _ h s (own_chain c.args.root c.args.party c.in-4.is))

pub returns-in-13 : goal.returns-in-13
unfolding want_table
returns-in-13 c =
    let h = sym c.has_step.ensures ∙ c.if-not-has_step.false in
    let s = sym c.stopped.ensures ∙ c.if-stopped.false in
    rw (c.from-in-13.ensures) (told c.args.root c.args.party _ h s (want_at c.args.root c.args.party 13 c.in-13.is))

pub returns-in-15 : goal.returns-in-15
unfolding want_table
returns-in-15 c =
    let h = sym c.has_step.ensures ∙ c.if-not-has_step.false in
    let s = sym c.stopped.ensures ∙ c.if-stopped.false in
    told c.args.root c.args.party _ h s (want_at c.args.root c.args.party 15 c.in-15.is)

pub returns-in-16 : goal.returns-in-16
unfolding want_table
returns-in-16 c =
    let h = sym c.has_step.ensures ∙ c.if-not-has_step.false in
    let s = sym c.stopped.ensures ∙ c.if-stopped.false in
    rw (c.from-in-16.ensures) (told c.args.root c.args.party _ h s (next_wanted c.args.root c.args.party c.in-16.is s))

pub returns-in-23 : goal.returns-in-23
unfolding want_table
returns-in-23 c =
    let h = sym c.has_step.ensures ∙ c.if-not-has_step.false in
    let s = sym c.stopped.ensures ∙ c.if-stopped.false in
    told c.args.root c.args.party _ h s (want_at c.args.root c.args.party 23 c.in-23.is)

pub returns-in-24 : goal.returns-in-24
unfolding want_table
returns-in-24 c =
    let h = sym c.has_step.ensures ∙ c.if-not-has_step.false in
    let s = sym c.stopped.ensures ∙ c.if-stopped.false in
    rw (c.target_word.ensures) (told c.args.root c.args.party _ h s (target_wanted c.args.root c.args.party c.in-24.is s))

pub returns-in-25 : goal.returns-in-25
unfolding want_table
returns-in-25 c =
    let h = sym c.has_step.ensures ∙ c.if-not-has_step.false in
    let s = sym c.stopped.ensures ∙ c.if-stopped.false in
    rw (c.from-in-25.ensures) (told c.args.root c.args.party _ h s (want_at c.args.root c.args.party 25 c.in-25.is))
