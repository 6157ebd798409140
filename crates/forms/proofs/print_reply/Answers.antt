-- `forms::print_reply` meets its contract.
use mathlib.Core.Path.{sym}
use native.Mathlib.Omega.{arith}
use lib.ListN.{length}
use Rattle.forms.specs.Replies.{reply_text}
use Rattle.forms.specs.Printing.{longest_reply}
use Rattle.forms.proofs.Puts.{put_as, put_nothing, is-given, not-given}
use Rattle.forms.proofs.print_reply.Goals as goal

pub returns-then-saturating_sub-lt-LONGEST_REPLY : goal.returns-then-saturating_sub-lt-LONGEST_REPLY
returns-then-saturating_sub-lt-LONGEST_REPLY c =
    let a = c.args in
    put_nothing a.at a.out.now _ (not-given (length a.out.now) a.at longest_reply (reply_text a.reply) (omega arith))

pub returns : goal.returns
returns c =
    let a = c.args in
    put_as _ _ _ _ (sym (is-given (length a.out.now) a.at longest_reply (reply_text a.reply) (omega arith))) c.put_reply.ensures
