-- What a step leaves whose party stands behind another (document 02, change 7).
-- Main definitions: held_answer, held_back. That this is the step's own outcome: proofs/HeldBack.antt.
use Rattle.std.specs.Prelude.{cond, not, ◌&&◌, eqb, Ok, Err}
use Rattle.model.specs.declared.Root.{Root}
use Rattle.model.specs.declared.Party.{Party}
use Rattle.model.specs.declared.StepAnswer.{StepAnswer}
use Rattle.model.specs.declared.Refusal.{Refusal}
use Rattle.model.specs.Answers.{StepReply}
use Rattle.model.specs.Pages.{names_overflow}
use Rattle.model.specs.Outcome.{View, Outcome, outcome}

-- The party waits; but at 13 the old link is tested first, and damage goes before waiting.
unfoldable pub held_answer : Root → Party → StepReply
held_answer r p =
    cond (eqb p.step 13 && not (names_overflow r p.old)) (Err Refusal.Damage) (Ok StepAnswer.Waiting)

-- Nothing but the waiting row is altered.
abbrev pub held_back : View → Outcome
held_back v = outcome (held_answer v.root v.party) v
