-- The two sides of a step function's equation, over the copies that a call works on and the lent words.
-- Main definitions: seen and left (the two sides), AtHand (what it may take for granted).
use Rattle.std.specs.Prelude.{List, ℕ}
use Rattle.model.specs.Answers.{StepReply}
use Rattle.model.specs.Outcome.{View, Outcome, outcome}
use Rattle.model.specs.Ready.{Ready, viewing}
use Rattle.records.specs.declared.Working.{Working}

-- The view that a step function is lent: root and record by value, the party's number, lock words and page words.
abbrev pub seen : Working → List ℕ → List ℕ → View
seen w ls ps = viewing w.root w.party w.number ls ps

-- The outcome that its answer, the copies and the words that it left make.
abbrev pub left : StepReply → Working → List ℕ → List ℕ → Outcome
left a w ls ps = outcome a (seen w ls ps)

-- What holds once the refusal table's tests have passed.
abbrev pub AtHand : Working → List ℕ → List ℕ → Type 0
AtHand w ls ps = Ready (seen w ls ps)
