-- `forms::put_step_reply` meets its contract: the pieces are those of the reply's text.
use mathlib.Core.Path.{sym, ap, ◌∙◌}
use mathlib.Core.List.{◌++◌}
use native.Mathlib.Omega.{arith}
use lib.ListN.{length}
use lib.Dec.{lit≤}
use Rattle.std.specs.Prelude.{Ok}
use Rattle.model.specs.declared.StepAnswer.{StepAnswer}
use Rattle.patterns.specs.Texts.{bytes}
use Rattle.patterns.specs.Numbers.{decimal}
use Rattle.patterns.specs.Patterns.{filled, symbol_text, numbers_after}
use Rattle.patterns.proofs.Numerals.{decimal_short}
use Rattle.patterns.proofs.Theorems.{longest}
use Rattle.forms.specs.declared.Reply.TheVariants as Reply
use Rattle.forms.specs.Replies.{StepOutcome, answer_text, restructuring_text, step_pattern, step_numbers, reply_pattern, reply_numbers, reply_text}
use Rattle.forms.proofs.Puts.{room, put_as, put_three, placed}
use Rattle.forms.proofs.StepLine.{step_text}
use Rattle.forms.proofs.Words.{answer_short, restructuring_short, done_pieces}
use Rattle.forms.proofs.put_step_reply.Goals as goal

pub fill-requires : goal.fill-requires
unfolding longest
fill-requires c = room _ _ _ _ _ tt c.requires

pub returns-in-Err : goal.returns-in-Err
unfolding reply_text reply_pattern reply_numbers step_pattern step_numbers
returns-in-Err c = rw c.in-Err.is c.fill.ensures

pub put_number-next-requires : goal.put_number-next-requires
put_number-next-requires c =
    let a = c.args in
    let text = placed a.at a.out.now step_text 6 c.put_text-next.ensures (lit≤ tt) in
    omega (arith, c.requires, text.0, text.1, decimal_short a.q)

pub put_text-requires : goal.put_text-requires
put_text-requires c =
    let a = c.args in
    let text = placed a.at a.out.now step_text 6 c.put_text-next.ensures (lit≤ tt) in
    let number = placed _ _ (decimal a.q) 10 c.put_number-next.ensures (decimal_short a.q) in
    omega (arith, c.requires, text.0, text.1, number.0, number.1)

pub put_text-requires-in-Waiting : goal.put_text-requires-in-Waiting
put_text-requires-in-Waiting c =
    let a = c.args in
    let text = placed a.at a.out.now step_text 6 c.put_text-next.ensures (lit≤ tt) in
    let number = placed _ _ (decimal a.q) 10 c.put_number-next.ensures (decimal_short a.q) in
    omega (arith, c.requires, text.0, text.1, number.0, number.1)

pub put_text-next-requires-in-Done : goal.put_text-next-requires-in-Done
put_text-next-requires-in-Done c =
    let a = c.args in
    let text = placed a.at a.out.now step_text 6 c.put_text-next.ensures (lit≤ tt) in
    let number = placed _ _ (decimal a.q) 10 c.put_number-next.ensures (decimal_short a.q) in
    omega (arith, c.requires, text.0, text.1, number.0, number.1)

pub put_answer-next-requires : goal.put_answer-next-requires
put_answer-next-requires c =
    let a = c.args in
    let text = placed a.at a.out.now step_text 6 c.put_text-next.ensures (lit≤ tt) in
    let number = placed _ _ (decimal a.q) 10 c.put_number-next.ensures (decimal_short a.q) in
    let done = placed _ _ (bytes " (done ") 7 c.put_text-next-in-Done.ensures (lit≤ tt) in
    omega (arith, c.requires, text.0, text.1, number.0, number.1, done.0, done.1)

pub put_text-requires-in-Done : goal.put_text-requires-in-Done
put_text-requires-in-Done c =
    let a = c.args in
    let text = placed a.at a.out.now step_text 6 c.put_text-next.ensures (lit≤ tt) in
    let number = placed _ _ (decimal a.q) 10 c.put_number-next.ensures (decimal_short a.q) in
    let done = placed _ _ (bytes " (done ") 7 c.put_text-next-in-Done.ensures (lit≤ tt) in
    let answer = placed _ _ (answer_text c.in-Done.answer) 19 c.put_answer-next.ensures (answer_short c.in-Done.answer) in
    let word = ap length c.restructuring_word.ensures in
    omega (arith, c.requires, text.0, text.1, number.0, number.1, done.0, done.1, answer.0, answer.1, word, restructuring_short c.in-Done.made)

pub returns-in-Moved : goal.returns-in-Moved
unfolding reply_text reply_pattern reply_numbers step_pattern step_numbers filled symbol_text numbers_after
returns-in-Moved c =
    let a = c.args in
    let whole = c.in-Ok.is ∙ ap (λ (x : StepAnswer). Ok x) c.in-Moved.is in
    put_as _ _ _ _ (sym (ap (λ (x : StepOutcome). reply_text (Reply.Step a.q x)) whole))
    (put_three a.at a.out.now step_text (decimal a.q) (bytes " moved)") c.put_text-next.ensures c.put_number-next.ensures c.put_text.ensures)

pub returns-in-Waiting : goal.returns-in-Waiting
unfolding reply_text reply_pattern reply_numbers step_pattern step_numbers filled symbol_text numbers_after
returns-in-Waiting c =
    let a = c.args in
    let whole = c.in-Ok.is ∙ ap (λ (x : StepAnswer). Ok x) c.in-Waiting.is in
    put_as _ _ _ _ (sym (ap (λ (x : StepOutcome). reply_text (Reply.Step a.q x)) whole))
    (put_three a.at a.out.now step_text (decimal a.q) (bytes " waiting)") c.put_text-next.ensures c.put_number-next.ensures c.put_text-in-Waiting.ensures)

pub returns-in-Done : goal.returns-in-Done
returns-in-Done c =
    let a = c.args in
    let answer = c.in-Done.answer in
    let made = c.in-Done.made in
    let whole = c.in-Ok.is ∙ ap (λ (x : StepAnswer). Ok x) c.in-Done.is in
    let word = put_as _ _ _ _ c.restructuring_word.ensures c.put_text-in-Done.ensures in
    let tail = put_three _ _ (bytes " (done ") (answer_text answer) (restructuring_text made) c.put_text-next-in-Done.ensures c.put_answer-next.ensures word in
    put_as _ _ _ _ (done_pieces a.q answer made ∙ sym (ap (λ (x : StepOutcome). reply_text (Reply.Step a.q x)) whole))
    (put_three a.at a.out.now step_text (decimal a.q) (bytes " (done " ++ (answer_text answer ++ restructuring_text made)) c.put_text-next.ensures c.put_number-next.ensures tail)
