-- `File::format` meets its contract: a format lent the first records and words is the form performed.
use Rattle.std.proofs.Common.{List, ℕ}
use Rattle.model.specs.declared.Party.{Party}
use Rattle.model.specs.Records.{root_sized}
use Rattle.model.specs.Calls.{format_call}
use Rattle.calls.specs.Lent.{lent}
use Rattle.forms.specs.declared.Reply.TheVariants as Reply
use Rattle.lines.specs.Held.{held_in}
use Rattle.lines.specs.Lines.{by_number, performed}
use Rattle.lines.proofs.Words.{words_left}
use Rattle.lines.proofs.File.format.Goals as goal

pub returns-clause-reply : goal.returns-clause-reply
unfolding performed
returns-clause-reply c =
    let z = c.args.sizes in
    let n = c.lent-n.ensures in
    let r = c.root_of_sizes.ensures in
    words_left (root_sized z) (λ (ps : List Party) (ls gs ws : List ℕ). format_call (lent c.args.self.now.root.now ps ls gs ws) z.originals z.capacity z.primaries z.overflow z.parties)
    (λ a. Reply.Format (by_number a)) (held_in c.args.self.now) _ _ _ _ (rw r at n.parties) (rw r at n.locks) (rw r at n.pages) (rw r at n.waiting) _ _ _ _ _ _ c.format.ensures
