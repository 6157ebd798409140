-- `merge_join::shares_key` meets its contract. The loop's invariant: a key is in both chains exactly where it is in both of
-- the rest.
use Rattle.std.proofs.Common.{◌∙◌, ap, ap₂, arith}
use Rattle.model.specs.Entries.{shares_key}
use Rattle.key_source.specs.Sources.{records_at}
use Rattle.key_source.proofs.Places.{onward_sits}
use Rattle.merge_join.proofs.Comparing.{less-below, equal-same, greater-above}
use Rattle.merge_join.proofs.Seeking.{seeking_starts, none_in_first, none_in_second, equal_keys, first_passed, second_passed}
use Rattle.merge_join.proofs.shares_key.Goals as goal

pub loop-p-init : goal.loop-p-init
loop-p-init c =
    let a = c.args in
    let f = c.settled-p in
    let s = c.settled-q in
    seeking_starts a.pages.now a.first a.second f.result s.result c.requires f.ensures.0 f.ensures.1 f.ensures.2 s.ensures.0 s.ensures.1 s.ensures.2

pub returns-in-Equal : goal.returns-in-Equal
returns-in-Equal c =
    equal_keys _ _ _ c.loop-p.p c.loop-p.q c.loop-p.invariant (omega arith) (omega arith) (equal-same _ _ c.in-Equal.ensures) ∙ ap₂ shares_key c.settled-p.ensures.1 c.settled-q.ensures.1

pub settled-p-requires-in-Less : goal.settled-p-requires-in-Less
settled-p-requires-in-Less c = rw c.passed.ensures (onward_sits _ c.loop-p.p c.loop-p.invariant.can_join.first_sits (omega arith))

pub loop-p-smaller-in-Less : goal.loop-p-smaller-in-Less
loop-p-smaller-in-Less c =
    let next = c.settled-p-in-Less in
    let on = first_passed _ _ _ c.loop-p.p c.loop-p.q c.loop-p.invariant (omega arith) (omega arith) next.result next.ensures.0 next.ensures.2
    (less-below _ _ c.in-Less.ensures) (next.ensures.1 ∙ ap (records_at _) c.passed.ensures) in
    omega (arith, on.1)

pub loop-p-preserved-in-Less : goal.loop-p-preserved-in-Less
loop-p-preserved-in-Less c =
    let next = c.settled-p-in-Less in
    (first_passed _ _ _ c.loop-p.p c.loop-p.q c.loop-p.invariant (omega arith) (omega arith) next.result next.ensures.0 next.ensures.2
    (less-below _ _ c.in-Less.ensures) (next.ensures.1 ∙ ap (records_at _) c.passed.ensures)).0

pub settled-q-requires-in-Greater : goal.settled-q-requires-in-Greater
settled-q-requires-in-Greater c = rw c.passed-in-Greater.ensures (onward_sits _ c.loop-p.q c.loop-p.invariant.can_join.second_sits (omega arith))

pub loop-p-smaller : goal.loop-p-smaller
loop-p-smaller c =
    let next = c.settled-q-in-Greater in
    let on = second_passed _ _ _ c.loop-p.p c.loop-p.q c.loop-p.invariant (omega arith) (omega arith) next.result next.ensures.0 next.ensures.2
    (greater-above _ _ c.in-Greater.ensures) (next.ensures.1 ∙ ap (records_at _) c.passed-in-Greater.ensures) in
    omega (arith, on.1)

pub loop-p-preserved : goal.loop-p-preserved
loop-p-preserved c =
    let next = c.settled-q-in-Greater in
    (second_passed _ _ _ c.loop-p.p c.loop-p.q c.loop-p.invariant (omega arith) (omega arith) next.result next.ensures.0 next.ensures.2
    (greater-above _ _ c.in-Greater.ensures) (next.ensures.1 ∙ ap (records_at _) c.passed-in-Greater.ensures)).0

pub returns-else-q-gt0 : goal.returns-else-q-gt0
returns-else-q-gt0 c = none_in_second _ _ _ c.loop-p.p c.loop-p.q c.loop-p.invariant (omega arith) ∙ ap₂ shares_key c.settled-p.ensures.1 c.settled-q.ensures.1

pub returns-after-loop-p : goal.returns-after-loop-p
returns-after-loop-p c = none_in_first _ _ _ c.loop-p.p c.loop-p.q c.loop-p.invariant (omega arith) ∙ ap₂ shares_key c.settled-p.ensures.1 c.settled-q.ensures.1
