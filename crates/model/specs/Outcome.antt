-- What a step sees and what it leaves (document 01, "The thirty steps").
-- Main definitions: View (the memory as one party's step is lent it), Outcome; refuse, waits, moved; guarded and checked (tests before an outcome).
use Rattle.std.specs.Prelude.{Bool, true, false, List, ℕ, Ok, Err}
use Rattle.model.specs.declared.Refusal.{Refusal}
use Rattle.model.specs.Answers.{StepReply}
use Rattle.model.specs.declared.Party.{Party}
use Rattle.model.specs.declared.Root.{Root}
use Rattle.model.specs.declared.StepAnswer.{StepAnswer}
use Rattle.model.specs.Chains.{Checked, damaged, sound}

-- The root, one party's record and number, the lock words and the page words.
pub record View : Type 0 where
  pub root : Root
  pub party : Party
  pub number : ℕ
  pub locks : List ℕ
  pub pages : List ℕ
  -- Whether an earlier waiting request for the lock that it requests conflicts (change 7).
  pub behind : Bool

abbrev pub with_root : Root → View → View
with_root r v = record { root = r; party = v.party; number = v.number; locks = v.locks; pages = v.pages; behind = v.behind }

abbrev pub with_party : Party → View → View
with_party p v = record { root = v.root; party = p; number = v.number; locks = v.locks; pages = v.pages; behind = v.behind }

abbrev pub with_locks : List ℕ → View → View
with_locks ls v = record { root = v.root; party = v.party; number = v.number; locks = ls; pages = v.pages; behind = v.behind }

abbrev pub with_pages : List ℕ → View → View
with_pages ps v = record { root = v.root; party = v.party; number = v.number; locks = v.locks; pages = ps; behind = v.behind }

-- The answer, and what the memory then is.
pub record Outcome : Type 0 where
  pub answer : StepReply
  pub after : View

abbrev pub outcome : StepReply → View → Outcome
outcome a v = record { answer = a; after = v }

-- A refused call leaves all lent memory.
abbrev pub refuse : Refusal → View → Outcome
refuse c v = outcome (Err c) v

-- "waiting (no word changes)".
abbrev pub waits : View → Outcome
waits v = outcome (Ok StepAnswer.Waiting) v

abbrev pub moved : View → Outcome
moved v = outcome (Ok StepAnswer.Moved) v

-- The outcome where the tests hold; else the call is refused and leaves the view as it was found.
abbrev pub guarded : View → Bool → Outcome → Outcome
guarded v true o = o
guarded v false o = refuse Refusal.Damage v

abbrev pub checked : {A : Type 0} → View → Checked A → (A → Outcome) → Outcome
checked v damaged f = refuse Refusal.Damage v
checked v (sound a) f = f a
