-- `key_source::count` meets its contract. The loop's invariant: the records counted and those chosen from the place on,
-- together, stay as many; of those in addition there are as many in both.
use Rattle.std.proofs.Common.{◌≡◌, ◌∙◌, ◌+◌, ◌≤◌, refl, ap, cond, List, length, get_or, arith}
use Rattle.std.proofs.lemmas.Bool.Decides.{nat_tests}
use Rattle.model.specs.declared.Entry.{Entry}
use Rattle.key_source.specs.Sources.{records_at, chosen, kept, chosen_of}
use Rattle.key_source.proofs.Places.{onward_sits, length-records_at}
use Rattle.key_source.proofs.Choices.{few_extra, length-chosen-none, most_chosen}
use Rattle.key_source.proofs.Takings.{one_fewer, tested-counted, counted_on}
use Rattle.key_source.proofs.count.Goals as goal

pub overflow_add-sum : goal.overflow_add-sum
overflow_add-sum c =
    let l = c.loop-p in
    let a = c.args in
    let s = c.settled-p in
    let most = most_chosen a.s.choice (records_at a.pages.now s.result) in
    let all = length-records_at a.pages.now s.result s.ensures.0 in
    let one : c.from-sum.result ≤ 1 = grind (arith, nat_tests, c.from-sum.ensures) in
    omega (arith, l.invariant.counted, most, all, c.extra_records-sum.ensures, few_extra a.s.choice)

pub settled-p-requires-in-loop-p : goal.settled-p-requires-in-loop-p
settled-p-requires-in-loop-p c = rw c.passed.ensures (onward_sits c.args.pages.now c.loop-p.p c.loop-p.invariant.sits c.loop-p-test.true)

pub loop-p-smaller : goal.loop-p-smaller
loop-p-smaller c =
    let l = c.loop-p in
    let fewer = one_fewer c.args.pages.now l.p l.p l.invariant.sits refl c.passed.result c.loop-p-test.true c.passed.ensures in
    omega (arith, fewer, ap length c.settled-p-in-loop-p.ensures.1)

pub loop-p-preserved : goal.loop-p-preserved
loop-p-preserved c =
    let l = c.loop-p in
    let a = c.args in
    let next = c.settled-p-in-loop-p in
    let sum : l.sum + c.from-sum.result ≡ l.sum + cond (kept a.s.choice (get_or a.pages.now l.p.at 0)) 1 0 = rw (c.from-sum.ensures, c.keeps.ensures, tested-counted) refl in
    let on = counted_on a.pages.now l.p l.p l.invariant.sits refl a.s.choice l.sum (l.sum + c.from-sum.result) c.passed.result next.result c.loop-p-test.true sum c.passed.ensures next.ensures.1 in
    record { sits = next.ensures.0; settled = next.ensures.2; counted = on ∙ l.invariant.counted }

pub returns : goal.returns
unfolding chosen_of
returns c =
    let l = c.loop-p in
    let a = c.args in
    let s = c.settled-p in
    let none = ap (λ (es : List Entry). length (chosen a.s.choice es)) (l.invariant.settled (omega arith)) ∙ length-chosen-none a.s.choice in
    let all = ap (λ (es : List Entry). length (chosen a.s.choice es)) s.ensures.1 in
    omega (arith, l.invariant.counted, none, all, c.extra_records-sum.ensures)
