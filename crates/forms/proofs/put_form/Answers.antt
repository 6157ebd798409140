-- `forms::put_form` meets its contract.
use Rattle.patterns.specs.Patterns.{filled, symbol_text, numbers_after}
use Rattle.patterns.proofs.Theorems.{longest}
use Rattle.forms.specs.Forms.{form_pattern, size_numbers, form_numbers, form_text}
use Rattle.forms.proofs.Puts.{room}
use Rattle.forms.proofs.put_form.Goals as goal

pub fill-requires : goal.fill-requires
unfolding longest
fill-requires c = room _ _ _ _ _ tt c.requires

pub fill-requires-in-Withdraw : goal.fill-requires-in-Withdraw
unfolding longest
fill-requires-in-Withdraw c = room _ _ _ _ _ tt c.requires

pub fill-requires-in-Format : goal.fill-requires-in-Format
unfolding longest
fill-requires-in-Format c = room _ _ _ _ _ tt c.requires

pub returns-in-Step : goal.returns-in-Step
unfolding form_text form_pattern form_numbers size_numbers
returns-in-Step c = rw c.in-Step.is c.fill.ensures

pub returns-in-Withdraw : goal.returns-in-Withdraw
unfolding form_text form_pattern form_numbers size_numbers
returns-in-Withdraw c = rw c.in-Withdraw.is c.fill-in-Withdraw.ensures

pub returns-in-Format : goal.returns-in-Format
unfolding form_text form_pattern form_numbers size_numbers
returns-in-Format c = rw c.in-Format.is c.fill-in-Format.ensures

pub returns-in-Begin : goal.returns-in-Begin
returns-in-Begin c = rw c.in-Begin.is c.put_begin.ensures

pub returns-in-TakeUp : goal.returns-in-TakeUp
unfolding form_text form_pattern form_numbers filled symbol_text numbers_after
returns-in-TakeUp c = rw c.in-TakeUp.is c.put_text.ensures
