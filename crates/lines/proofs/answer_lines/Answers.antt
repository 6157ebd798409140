-- `lines::answer_lines` meets its contract: a line more is answered in each turn (Going).
use Rattle.std.proofs.Common.{◌∙◌, arith}
use lib.ListN.{length-set}
use Rattle.lines.proofs.Texts.{first_newline, no_newline}
use Rattle.lines.proofs.Going.{going_on, end_below, stopped_whole}
use Rattle.lines.proofs.answer_lines.Goals as goal

pub bounds-out-end : goal.bounds-out-end
bounds-out-end c =
    let l = c.loop-length in
    let made = c.answer-end in
    let below = end_below _ _ _ _ _ _ _ c.in-Some.length l.invariant.going made.result (omega (arith, c.if-out-end.false, l.invariant.long, l.invariant.going.within)) made.ensures.end_value in
    omega (arith, below, made.auto.out, l.invariant.long)

pub overflow_add-end : goal.overflow_add-end
overflow_add-end c =
    let l = c.loop-length in
    let made = c.answer-end in
    let below = end_below _ _ _ _ _ _ _ c.in-Some.length l.invariant.going made.result (omega (arith, c.if-out-end.false, l.invariant.long, l.invariant.going.within)) made.ensures.end_value in
    record { fits = omega (arith, below, c.well_formed) }

pub loop-length-preserved : goal.loop-length-preserved
loop-length-preserved c =
    let l = c.loop-length in
    let made = c.answer-end in
    let was = l.invariant.parts in
    let is = made.ensures.parts in
    record {
      parts = (is.0 ∙ was.0, is.1 ∙ was.1, is.2 ∙ was.2, is.3 ∙ was.3, is.4 ∙ was.4);
      long = length-set made.new.out made.result 10 ∙ made.auto.out ∙ l.invariant.long;
      going =
          going_on _ _ _ _ _ _ _ c.in-Some.length l.invariant.going _ made.new.out made.result (first_newline c.args.text.now l.from c.in-Some.length c.in-Some.ensures)
          (omega (arith, c.if-out-end.false, l.invariant.long, l.invariant.going.within)) made.ensures.memory_after made.ensures.out_after made.ensures.end_value;
    }

pub returns-clause-text_value : goal.returns-clause-text_value
returns-clause-text_value c = λ z _. stopped_whole c.args.text.now c.loop-length.from (no_newline c.args.text.now c.loop-length.from c.in_default.ensures) z
