-- `index::format` meets its contract: a refused format leaves all memory as it was.
use mathlib.Core.Path.{◌≡◌, ap, ◌∙◌}
use borrow.Author.Rules.{rules}
use Rattle.std.specs.Prelude.{Err}
use Rattle.model.specs.Answers.{CallReply}
use Rattle.model.specs.Calls.{called}
use Rattle.calls.specs.Lent.{lent}
use Rattle.index.proofs.format.Goals as goal

pub returns-in_err-root : goal.returns-in_err-root
returns-in_err-root c =
    let a = c.args in
    let told : c.from_residual.result ≡ Err c.in_err-root.field-0.0 = search rules in
    ap (λ (x : CallReply). called x (lent a.root.now a.parties.now c.format.new.locks c.format.new.pages a.waiting.now)) told
    ∙ c.in_err-root.ensures a.root.now a.parties.now a.waiting.now (search rules)
