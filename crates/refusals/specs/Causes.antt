-- The first cause of refusal of each call, by the lent lengths (document 01, "Refused calls").
-- Main definitions: format_cause, begin_cause, step_cause, withdraw_cause, take_up_cause; place_cause (the rows that begin,
-- step and withdraw share); lengths_of and lengths_lent (the
-- lengths of a memory, and of what is lent).
-- proofs/Accepted.antt shows that each is the model's first cause of the call's rows, for every memory of these
-- lengths.
use Rattle.std.specs.Prelude.{Bool, not, ◌&&◌, List, [], ◌∷◌, ◌++◌, ℕ, eqb, length}
use Rattle.model.specs.declared.Refusal.{Refusal}
use Rattle.model.specs.declared.Root.{Root}
use Rattle.model.specs.declared.Party.{Party}
use Rattle.model.specs.Answers.{CallReply}
use Rattle.model.specs.Memory.{Memory}
use Rattle.model.specs.Sizes.{lock_words, all_page_words}
use Rattle.model.specs.Refusals.{Row, row, first_cause, size_row, party_row, busy_row, idle_row, decided_row, damage_row}
use Rattle.model.specs.TakeUp.{unsaved_row}
use Rattle.refusals.specs.declared.Lengths.{Lengths}

-- The lengths of a memory.
abbrev pub lengths_of : Memory → Lengths
lengths_of m = record {
  parties = length m.parties;
  locks = length m.locks;
  pages = length m.pages;
  waiting = length m.waiting;
}

-- The lengths of so many records, these words, and so many words of the waiting row.
abbrev pub lengths_lent : ℕ → List ℕ → List ℕ → ℕ → Lengths
lengths_lent parties ls ps waiting = record { parties = parties; locks = length ls; pages = length ps; waiting = waiting }

-- "a lent length other than Q records, P+1 lock words or 16 × (P+V+Q) page words", and Q words of the waiting row: the
-- lengths in this order.
unfoldable pub lengths_are : Root → Lengths → Bool
lengths_are r l = eqb l.parties r.parties && eqb l.locks (lock_words r) && eqb l.pages (all_page_words r) && eqb l.waiting r.parties

-- The rows that every call has: sizes, then lengths.
abbrev pub file_rows : Root → Lengths → List Row
file_rows r l = size_row r ∷ (row (not (lengths_are r l)) Refusal.Length ∷ [])

-- The rows that begin, step and withdraw share, for party q.
abbrev pub place_rows : Root → Lengths → ℕ → List Row
place_rows r l q = file_rows r l ++ (party_row r q ∷ [])

-- Format: the sizes given, and the lengths against them.
unfoldable pub format_cause : Root → Lengths → CallReply
format_cause r l = first_cause (file_rows r l)

-- Begin, step and withdraw, before a party's record is looked at.
unfoldable pub place_cause : Root → Lengths → ℕ → CallReply
place_cause r l q = first_cause (place_rows r l q)

-- Begin for party q, whose record is p.
unfoldable pub begin_cause : Root → Party → Lengths → ℕ → CallReply
begin_cause r p l q = first_cause (place_rows r l q ++ (busy_row p ∷ []))

-- The waiting row is sound or not.
abbrev pub sound_row : Bool → Row
sound_row sound = row (not sound) Refusal.Damage

-- Step for party q, whose record is p.
unfoldable pub step_cause : Root → Party → Lengths → ℕ → Bool → CallReply
step_cause r p l q sound = first_cause (place_rows r l q ++ (idle_row p ∷ (damage_row r p ∷ (sound_row sound ∷ []))))

-- Withdraw for party q, whose record is p.
unfoldable pub withdraw_cause : Root → Party → Lengths → ℕ → Bool → CallReply
withdraw_cause r p l q sound = first_cause (place_rows r l q ++ (idle_row p ∷ (decided_row p ∷ (damage_row r p ∷ (sound_row sound ∷ [])))))

-- Take-up of a file that is saved or not.
unfoldable pub take_up_cause : Root → Bool → Lengths → CallReply
take_up_cause r saved l = first_cause (file_rows r l ++ (unsaved_row saved ∷ []))
