-- `waiting_row::Looking::meets` meets its contract.
use Rattle.std.proofs.Common.{◌∙◌, sym}
use Rattle.std.specs.Prelude.{eqb}
use Rattle.waiting_row.specs.Requested.{asks}
use Rattle.waiting_row.proofs.Looks.{meets_asked}
use Rattle.waiting_row.proofs.Looking.meets.Goals as goal

pub returns : goal.returns
returns c =
    let a = c.args in
    rw (c.with_reader.ensures, c.reader.ensures, c.stands_behind.ensures)
    (meets_asked (eqb a.j a.q) a.j a.self (asks a.root a.party) c.in-Some.theirs (sym c.in-Some.is ∙ c.requested.ensures))
