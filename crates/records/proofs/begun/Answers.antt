-- `records::begun` meets its contract: the words of a begun record, one after the other.
use Rattle.records.proofs.begun.Goals as goal

pub returns : goal.returns
returns c =
    let (o, (k, (s, (lev, (chain, (other, (old, (owed, (answer, x))))))))) = c.default.ensures in
    rw (c.operation_number.ensures, c.setting_given.ensures, lev, chain, other, old, owed, answer)
