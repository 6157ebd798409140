-- `File::withdraw` meets its contract: a withdraw lent the first records and words is the form performed.
use Rattle.std.proofs.Common.{List, ℕ}
use Rattle.model.specs.declared.Party.{Party}
use Rattle.model.specs.Calls.{withdraw_call}
use Rattle.calls.specs.Lent.{lent}
use Rattle.forms.specs.declared.Reply.TheVariants as Reply
use Rattle.lines.specs.Held.{held_in}
use Rattle.lines.specs.Lines.{by_number, performed}
use Rattle.lines.proofs.Words.{words_left}
use Rattle.lines.proofs.File.withdraw.Goals as goal

pub returns-clause-reply : goal.returns-clause-reply
unfolding performed
returns-clause-reply c =
    let r = c.args.self.now.root.now in
    let q = c.args.q in
    let n = c.lent-n.ensures in
    words_left r (λ (ps : List Party) (ls gs ws : List ℕ). withdraw_call (lent r ps ls gs ws) q) (λ a. Reply.Withdraw q (by_number a)) (held_in c.args.self.now) _ _ _ _
    n.parties n.locks n.pages n.waiting _ _ _ _ _ _ c.withdraw.ensures
