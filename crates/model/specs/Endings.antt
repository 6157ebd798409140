-- How an operation ends, and how it goes on where it does not (document 01, "The thirty steps": "done", and the steps that lead there).
-- Main definitions: done, finished (at 12, 14 and 22), ended_with (locks given up at an end); onward and old_pages_first (where 12, 14 and 22 lead).
use Rattle.std.specs.Prelude.{cond, List, eqb, Ok}
use Rattle.model.specs.declared.OperationAnswer.{OperationAnswer}
use Rattle.model.specs.declared.Restructuring.{Restructuring}
use Rattle.model.specs.declared.StepAnswer.{StepAnswer}
use Rattle.model.specs.Records.{idle, at_step, owes_split, owes_merge}
use Rattle.model.specs.Answers.{answer_of, restructuring_of}
use Rattle.model.specs.LockWords.{Claim}
use Rattle.model.specs.Pages.{zero_page}
use Rattle.model.specs.Outcome.{View, with_party, Outcome, outcome, moved, guarded}
use Rattle.model.specs.LockRequests.{held_all, given_up}
use Rattle.model.specs.ScratchPages.{with_scratch}

-- "'Done' carries the answer ... and the restructuring ..., and zeroes the party's record and scratch page."
abbrev pub done : OperationAnswer → Restructuring → View → Outcome
done a s v = outcome (Ok (StepAnswer.Done a s)) (with_party idle (with_scratch zero_page v))

-- Done at 12, 14 or 22, with the answer of the record.
unfoldable pub finished : View → Outcome
finished v = done (answer_of v.party.answer) (restructuring_of v.party.owed) v

-- The locks cs given up, and the operation done with this restructuring.
unfoldable pub ended_with : View → List Claim → Restructuring → Outcome
ended_with v cs s = guarded v (held_all v cs) (done (answer_of v.party.answer) s (given_up cs v))

-- "an owed split goes to 15 and an owed merge to 23; else the operation is done".
unfoldable pub onward : View → Outcome
onward v =
    let owed = v.party.owed in
    let rest = cond (eqb owed owes_merge) (moved (with_party (at_step 23 v.party) v)) (finished v) in
    cond (eqb owed owes_split) (moved (with_party (at_step 15 v.party) v)) rest

-- To 13 where there are old pages, else as the last argument says.
unfoldable pub old_pages_first : View → Outcome → Outcome
old_pages_first v o = cond (eqb v.party.old 0) o (moved (with_party (at_step 13 v.party) v))
