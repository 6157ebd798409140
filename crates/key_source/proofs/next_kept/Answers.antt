-- `key_source::next_kept` meets its contract. The loop's invariant: the records chosen from the place on are the same.
use Rattle.std.proofs.Common.{◌∙◌, sym, arith}
use Rattle.key_source.proofs.Places.{onward_sits}
use Rattle.key_source.proofs.Takings.{one_fewer, some_left, kept-given, kept_passed}
use Rattle.key_source.proofs.next_kept.Goals as goal

pub entry_at-entry-requires : goal.entry_at-entry-requires
entry_at-entry-requires c =
    let l = c.loop-c in
    let s = c.settled-q in
    (s.ensures.0, some_left _ l.q s.result s.ensures.0 s.ensures.1 c.args.c c.requires.2 s.ensures.2 (rw (← l.invariant.same) c.requires.3))

pub passed-q-requires : goal.passed-q-requires
passed-q-requires c =
    let l = c.loop-c in
    let s = c.settled-q in
    let some = some_left _ l.q s.result s.ensures.0 s.ensures.1 c.args.c c.requires.2 s.ensures.2 (rw (← l.invariant.same) c.requires.3) in
    (some, omega (arith, some, s.ensures.0))

pub returns-then-keeps : goal.returns-then-keeps
returns-then-keeps c =
    let l = c.loop-c in
    let s = c.settled-q in
    let some = some_left _ l.q s.result s.ensures.0 s.ensures.1 c.args.c c.requires.2 s.ensures.2 (rw (← l.invariant.same) c.requires.3) in
    let first = rw c.entry_at-entry.ensures at (sym c.keeps.ensures ∙ c.if-keeps.true) in
    rw (l.invariant.same, c.entry_at-entry.ensures)
    (kept-given _ l.q s.result s.ensures.0 s.ensures.1 c.args.c c.requires.2 c.passed-q.result some first c.passed-q.ensures c.requires.1)

pub loop-c-smaller : goal.loop-c-smaller
loop-c-smaller c =
    let l = c.loop-c in
    let s = c.settled-q in
    let some = some_left _ l.q s.result s.ensures.0 s.ensures.1 c.args.c c.requires.2 s.ensures.2 (rw (← l.invariant.same) c.requires.3) in
    one_fewer _ l.q s.result s.ensures.0 s.ensures.1 c.passed-q.result some c.passed-q.ensures

pub loop-c-preserved : goal.loop-c-preserved
loop-c-preserved c =
    let l = c.loop-c in
    let s = c.settled-q in
    let some = some_left _ l.q s.result s.ensures.0 s.ensures.1 c.args.c c.requires.2 s.ensures.2 (rw (← l.invariant.same) c.requires.3) in
    let first = rw c.entry_at-entry.ensures at (sym c.keeps.ensures ∙ c.if-keeps.false) in
    let on = kept_passed _ l.q s.result s.ensures.0 s.ensures.1 c.args.c c.requires.2 c.passed-q.result some first c.passed-q.ensures in
    record { sits = rw c.passed-q.ensures (onward_sits _ s.result s.ensures.0 some); same = l.invariant.same ∙ on }
