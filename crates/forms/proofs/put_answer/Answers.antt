-- `forms::put_answer` meets its contract.
use mathlib.Core.Path.{◌≡◌}
use Rattle.patterns.specs.Patterns.{filled, symbol_text, numbers_after}
use Rattle.patterns.proofs.Theorems.{longest}
use Rattle.forms.specs.Replies.{answer_numbers, answer_text}
use Rattle.forms.proofs.Puts.{room, put_as}
use Rattle.forms.proofs.put_answer.Goals as goal
use Rattle.forms.proofs.put_answer.Goals.{in-Absent, in-Inserted, in-Present, in-Deleted, in-NoPage}

pub fill-requires : goal.fill-requires
unfolding longest
fill-requires c = room _ _ _ _ _ tt c.requires

pub returns-in-Found : goal.returns-in-Found
unfolding answer_text answer_numbers
returns-in-Found c = rw c.in-Found.is c.fill.ensures

pub returns : goal.returns
unfolding answer_text answer_numbers filled symbol_text numbers_after
returns c =
    let word : c.match-answer.word.now ≡ answer_text c.args.answer =
    elim c.match-answer.branch [
      | in-Absent w ↦ rw (w.word-is, w.in-Absent.is)
      | in-Inserted w ↦ rw (w.word-is, w.in-Inserted.is)
      | in-Present w ↦ rw (w.word-is, w.in-Present.is)
      | in-Deleted w ↦ rw (w.word-is, w.in-Deleted.is)
      | in-NoPage w ↦ rw (w.word-is, w.in-NoPage.is)
    ] in
    put_as _ _ _ _ word c.put_text.ensures
