-- `waiting_row::Looking::looked`: the party that the word names is met, and has a record (Looks.named_fits).
use Rattle.std.proofs.Common.{◌∙◌, sym}
use Rattle.waiting_row.proofs.Looks.{named_fits, named-none, named-some}
use Rattle.waiting_row.proofs.Looking.looked.Goals as goal

pub bounds-parties-j : goal.bounds-parties-j
bounds-parties-j c = (named_fits _ _ c.in-Some.j (sym c.named_by.ensures ∙ c.in-Some.is)).0

pub meets-requires : goal.meets-requires
meets-requires c = (named_fits _ _ c.in-Some.j (sym c.named_by.ensures ∙ c.in-Some.is)).1

pub returns-in-Some : goal.returns-in-Some
returns-in-Some c =
    let a = c.args in
    c.meets.ensures ∙ named-some a.self a.root a.parties.now a.q a.word c.in-Some.j (sym c.named_by.ensures ∙ c.in-Some.is)

pub returns-in-None : goal.returns-in-None
returns-in-None c =
    let a = c.args in
    c.damaged.ensures ∙ named-none a.self a.root a.parties.now a.q a.word (sym c.named_by.ensures ∙ c.in-None.is)
