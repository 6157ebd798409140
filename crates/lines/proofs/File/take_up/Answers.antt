-- `File::take_up` meets its contract: a take-up lent the first records and words is the form performed.
use Rattle.std.proofs.Common.{List, ℕ}
use Rattle.model.specs.declared.Party.{Party}
use Rattle.model.specs.TakeUp.{take_up_call}
use Rattle.calls.specs.Lent.{lent}
use Rattle.forms.specs.declared.Reply.TheVariants as Reply
use Rattle.lines.specs.Held.{held_in}
use Rattle.lines.specs.Lines.{by_number, performed}
use Rattle.lines.proofs.Words.{words_kept}
use Rattle.lines.proofs.File.take_up.Goals as goal

pub returns : goal.returns
unfolding performed
returns c =
    let r = c.args.self.now.root.now in
    let n = c.lent-n.ensures in
    words_kept r (λ (ps : List Party) (ls gs ws : List ℕ). take_up_call (lent r ps ls gs ws)) (λ a. Reply.TakeUp (by_number a)) (held_in c.args.self.now) _ _ _ _
    n.parties n.locks n.pages n.waiting _ _ c.take_up.ensures
