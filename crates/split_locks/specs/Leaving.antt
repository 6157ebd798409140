-- Where step 22 leads (document 01, "The thirty steps").
-- Main definition: split_made.
use Rattle.model.specs.Records.{with_owed}
use Rattle.model.specs.Outcome.{View, Outcome, with_party}
use Rattle.model.specs.Endings.{old_pages_first, finished}

-- Step 22 once root is given up.
abbrev pub split_made : View → Outcome
split_made v = old_pages_first (with_party (with_owed 3 v.party) v) (finished (with_party (with_owed 3 v.party) v))
