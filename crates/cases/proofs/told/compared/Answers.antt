-- `told::compared` meets its contract: the text handed on and the count are those of what `is_right` says.
use Rattle.std.proofs.Common.{◌≡◌, true, false, sym, ap, ◌∙◌}
use Rattle.cases.specs.Verdict.{is_right, verdict, tallied}
use Rattle.cases.proofs.told.compared.Goals as goal

pub say_verdict-requires : goal.say_verdict-requires
unfolding verdict
say_verdict-requires g c =
    let a = c.args in
    let right : true ≡ is_right a.call a.came a.expected = sym c.if-is_right.true ∙ c.is_right.ensures in
    ap verdict right

pub returns-then-is_right : goal.returns-then-is_right
unfolding tallied
returns-then-is_right g c =
    let a = c.args in
    let right : true ≡ is_right a.call a.came a.expected = sym c.if-is_right.true ∙ c.is_right.ensures in
    let more : c.counted.result ≡ tallied a.t true = c.counted.ensures in
    more ∙ ap (tallied a.t) right

pub say_verdict-requires-2 : goal.say_verdict-requires-2
unfolding verdict
say_verdict-requires-2 g c =
    let a = c.args in
    let wrong : false ≡ is_right a.call a.came a.expected = sym c.if-is_right.false ∙ c.is_right.ensures in
    ap verdict wrong

pub returns : goal.returns
unfolding tallied
returns g c =
    let a = c.args in
    let wrong : false ≡ is_right a.call a.came a.expected = sym c.if-is_right.false ∙ c.is_right.ensures in
    let more : c.counted-2.result ≡ tallied a.t false = c.counted-2.ensures in
    more ∙ ap (tallied a.t) wrong
