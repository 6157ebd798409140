-- `refusals::place_cause` meets its contract: past the rows that every call has, the row of the party's number.
use mathlib.Core.Path.{refl}
use borrow.Author.Tests.{le-leb, lt-leb}
use Rattle.model.specs.Refusals.{first_cause}
use Rattle.refusals.proofs.Causes.{place_is}
use Rattle.refusals.proofs.place_cause.Goals as goal

pub returns-then-root-q : goal.returns-then-root-q
unfolding first_cause
returns-then-root-q c =
    rw (place_is c.args.root c.args.lengths c.args.q, ← c.in_ok-file_cause.ensures, le-leb c.args.root.parties c.args.q c.if-root-q.true) refl

pub returns : goal.returns
unfolding first_cause
returns c =
    rw (place_is c.args.root c.args.lengths c.args.q, ← c.in_ok-file_cause.ensures, lt-leb c.args.root.parties c.args.q c.if-root-q.false) refl
