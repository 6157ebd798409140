-- What the two sides of a step function's equation are made of.
-- Main statements: seen_whole, left_whole (each part of the copies and of the lent words is in them).
use mathlib.Core.Path.{◌≡◌, refl}
use mathlib.Core.List.{List}
use Prim.Native.Nat.{ℕ}
use Rattle.model.specs.Answers.{StepReply}
use Rattle.model.specs.Outcome.{View, Outcome}
use Rattle.records.specs.declared.Working.{Working}
use Rattle.records.specs.Work.{seen, left}

module _ (w : Working) (ls ps : List ℕ) where
  -- What is seen is of this record, these words and nothing else.
  abbrev pub Whole : View → Type 0
  Whole v = (v.root ≡ w.root) × (v.party ≡ w.party) × (v.number ≡ w.number) × (v.locks ≡ ls) × (v.pages ≡ ps)

  pub seen_whole : Whole (seen w ls ps)
  seen_whole = (refl, refl, refl, refl, refl)

  pub left_whole : (a : StepReply) → ((left a w ls ps).answer ≡ a) × Whole (left a w ls ps).after
  left_whole a = (refl, seen_whole)
