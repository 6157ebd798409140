-- `File::begin` meets its contract: a begin lent the first records and words is the form performed.
use Rattle.std.proofs.Common.{List, ℕ}
use Rattle.model.specs.declared.Party.{Party}
use Rattle.model.specs.Calls.{begin_call}
use Rattle.calls.specs.Lent.{lent}
use Rattle.forms.specs.declared.Reply.TheVariants as Reply
use Rattle.lines.specs.Held.{held_in}
use Rattle.lines.specs.Lines.{by_number, performed}
use Rattle.lines.proofs.Words.{words_left}
use Rattle.lines.proofs.File.begin.Goals as goal

pub returns-clause-reply : goal.returns-clause-reply
unfolding performed
returns-clause-reply c =
    let a = c.args in
    let r = a.self.now.root.now in
    let n = c.lent-n.ensures in
    words_left r (λ (ps : List Party) (ls gs ws : List ℕ). begin_call (lent r ps ls gs ws) a.q a.operation a.key) (λ x. Reply.Begin a.q (by_number x)) (held_in a.self.now) _ _ _ _
    n.parties n.locks n.pages n.waiting _ _ _ _ _ _ c.begin.ensures
