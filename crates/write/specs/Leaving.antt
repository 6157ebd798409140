-- Where step 12 leads (document 01, "The thirty steps").
-- Main definition: after_leaving.
use Rattle.std.specs.Prelude.{cond}
use Rattle.model.specs.Outcome.{View, Outcome}
use Rattle.model.specs.Steps.Write.{is_change}
use Rattle.model.specs.Endings.{old_pages_first, onward, finished}

-- Step 12 once the chain is given up.
abbrev pub after_leaving : View → Outcome
after_leaving v = cond (is_change v.party.answer) (old_pages_first v (onward v)) (finished v)
