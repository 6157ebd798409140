-- `forms::put_begin` meets its contract.
use Rattle.patterns.proofs.Theorems.{longest}
use Rattle.forms.specs.Forms.{form_pattern, operation_numbers, form_numbers, form_text}
use Rattle.forms.proofs.Puts.{room}
use Rattle.forms.proofs.put_begin.Goals as goal

pub fill-requires : goal.fill-requires
unfolding longest
fill-requires c = room _ _ _ _ _ tt c.requires

pub fill-requires-in-Insert : goal.fill-requires-in-Insert
unfolding longest
fill-requires-in-Insert c = room _ _ _ _ _ tt c.requires

pub fill-requires-in-Delete : goal.fill-requires-in-Delete
unfolding longest
fill-requires-in-Delete c = room _ _ _ _ _ tt c.requires

pub returns-in-Find : goal.returns-in-Find
unfolding form_text form_pattern form_numbers operation_numbers
returns-in-Find c = rw c.in-Find.is c.fill.ensures

pub returns-in-Insert : goal.returns-in-Insert
unfolding form_text form_pattern form_numbers operation_numbers
returns-in-Insert c = rw c.in-Insert.is c.fill-in-Insert.ensures

pub returns-in-Delete : goal.returns-in-Delete
unfolding form_text form_pattern form_numbers operation_numbers
returns-in-Delete c = rw c.in-Delete.is c.fill-in-Delete.ensures
