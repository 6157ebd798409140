-- `forms::put_reply` meets its contract.
use mathlib.Core.Path.{sym, ap, ◌∙◌}
use native.Mathlib.Omega.{arith}
use Rattle.patterns.specs.Patterns.{filled, symbol_text, numbers_after}
use Rattle.forms.specs.declared.Reply.{Reply}
use Rattle.forms.specs.Replies.{reply_pattern, reply_numbers, reply_text}
use Rattle.forms.proofs.Puts.{put_as}
use Rattle.forms.proofs.ReplyTheorems.{reply_short}
use Rattle.forms.proofs.Words.{format_text, begin_text, withdraw_text, take_up_text}
use Rattle.forms.proofs.put_reply.Goals as goal

pub put_outcome-requires : goal.put_outcome-requires
put_outcome-requires c = rw (format_text c.in-Format.answer) (omega (arith, c.requires, reply_short (Reply.Format c.in-Format.answer)))

pub put_outcome-requires-in-Begin : goal.put_outcome-requires-in-Begin
put_outcome-requires-in-Begin c = rw (begin_text c.in-Begin.q c.in-Begin.answer) (omega (arith, c.requires, reply_short (Reply.Begin c.in-Begin.q c.in-Begin.answer)))

pub put_outcome-requires-in-Withdraw : goal.put_outcome-requires-in-Withdraw
put_outcome-requires-in-Withdraw c = rw (withdraw_text c.in-Withdraw.q c.in-Withdraw.answer) (omega (arith, c.requires, reply_short (Reply.Withdraw c.in-Withdraw.q c.in-Withdraw.answer)))

pub put_outcome-requires-in-TakeUp : goal.put_outcome-requires-in-TakeUp
put_outcome-requires-in-TakeUp c = rw (take_up_text c.in-TakeUp.answer) (omega (arith, c.requires, reply_short (Reply.TakeUp c.in-TakeUp.answer)))

pub returns-in-Format : goal.returns-in-Format
returns-in-Format c = put_as _ _ _ _ (format_text c.in-Format.answer ∙ sym (ap reply_text c.in-Format.is)) c.put_outcome.ensures

pub returns-in-Begin : goal.returns-in-Begin
returns-in-Begin c = put_as _ _ _ _ (begin_text c.in-Begin.q c.in-Begin.answer ∙ sym (ap reply_text c.in-Begin.is)) c.put_outcome-in-Begin.ensures

pub returns-in-Withdraw : goal.returns-in-Withdraw
returns-in-Withdraw c = put_as _ _ _ _ (withdraw_text c.in-Withdraw.q c.in-Withdraw.answer ∙ sym (ap reply_text c.in-Withdraw.is)) c.put_outcome-in-Withdraw.ensures

pub returns-in-TakeUp : goal.returns-in-TakeUp
returns-in-TakeUp c = put_as _ _ _ _ (take_up_text c.in-TakeUp.answer ∙ sym (ap reply_text c.in-TakeUp.is)) c.put_outcome-in-TakeUp.ensures

pub returns-in-Unread : goal.returns-in-Unread
unfolding reply_text reply_pattern reply_numbers filled symbol_text numbers_after
returns-in-Unread c = rw c.in-Unread.is c.put_text.ensures

pub returns-in-Step : goal.returns-in-Step
returns-in-Step c = rw c.in-Step.is c.put_step_reply.ensures
