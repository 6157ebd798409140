-- `key_source::next_with` meets its contract.
use Rattle.std.proofs.Common.{arith}
use Rattle.key_source.proofs.Takings.{with_given-none, with_given_before, with_given_after}
use Rattle.key_source.proofs.next_with.Goals as goal
use Rattle.key_source.proofs.next_with.Goals.{then-q-eq0-via-then-q-eq0, then-q-eq0-via-else-q-eq0+then-x-pages}

pub returns-then-q-eq0 : goal.returns-then-q-eq0
returns-then-q-eq0 c =
    let s = c.settled-q in
    let a = c.args in
    elim c.then-q-eq0.branch [
      | then-q-eq0-via-then-q-eq0 w ↦ with_given-none a.pages.now a.p s.result s.ensures.0 s.ensures.1 a.x (s.ensures.2 w.if-q-eq0.true)
      | then-q-eq0-via-else-q-eq0+then-x-pages w ↦ with_given_before a.pages.now a.p s.result s.ensures.0 s.ensures.1 a.x (omega (arith, w.if-q-eq0.false)) w.if-x-pages.true
    ]

pub returns : goal.returns
returns c =
    let s = c.settled-q in
    let a = c.args in
    rw c.entry_at.ensures (with_given_after a.pages.now a.p s.result s.ensures.0 s.ensures.1 a.x c.passed.result (omega arith) (omega arith) c.passed.ensures)
