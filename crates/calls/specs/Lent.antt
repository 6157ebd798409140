-- The whole lent memory around a call over values: what the caller lends, and what its result and the lent words make
-- of it.
-- Main definitions: lent; rows_of; left_by_format, left_by_begin, left_by_step, left_by_withdraw (the answer, and all
-- memory afterwards).
use Rattle.std.specs.Prelude.{◌≡◌, List, ℕ, ◌<◌, ◌≤◌, length, replicate, set, Result, Ok, Err}
use Rattle.model.specs.declared.Root.{Root}
use Rattle.model.specs.declared.Party.{Party}
use Rattle.model.specs.declared.Refusal.{Refusal}
use Rattle.model.specs.declared.Stepped.{Stepped}
use Rattle.model.specs.Answers.{StepReply, CallReply}
use Rattle.model.specs.Records.{idle}
use Rattle.model.specs.Memory.{Memory}
use Rattle.model.specs.WaitingRow.{row_after, row_left}
use Rattle.model.specs.Calls.{Called, called}
use Rattle.records.specs.declared.Working.{Working}
use Rattle.waiting_row.specs.declared.Place.{Place}
use Rattle.waiting_row.specs.Entry.{place_of}
use Rattle.calls.specs.declared.Rows.{Rows}

-- The memory of this root, row of records, lock words, page words and waiting row.
abbrev pub lent : Root → List Party → List ℕ → List ℕ → List ℕ → Memory
lent r row ls ps ws = record { root = r; parties = row; locks = ls; pages = ps; waiting = ws }

-- How long a row of records and a waiting row are.
abbrev pub rows_of : List Party → List ℕ → Rows
rows_of row ws = record { parties = length row; waiting = length ws }

-- The place is the party's, where it can be told: the party has a record, there are at most sixteen, as many as the
-- root says, and the level is sound. (What places::placing ensures.)
abbrev pub PlaceRight : Root → List Party → List ℕ → ℕ → Place → Type 0
PlaceRight r row ws q at = q < length row → r.parties ≤ 16 → length row ≡ r.parties → r.level ≤ 8 → at ≡ place_of r row ws q

-- Format's answer, and the memory it leaves: the root record made, every party's record zero, and every word of the
-- waiting row; or all as it was.
abbrev pub left_by_format : Result Root Refusal → Root → List Party → List ℕ → List ℕ → List ℕ → Called CallReply
left_by_format (Ok made) r row ls ps ws = called (Ok tt) (lent made (replicate (length row) idle) ls ps (replicate (length ws) 0))
left_by_format (Err c) r row ls ps ws = called (Err c) (lent r row ls ps ws)

-- Begin's: only party q's record is written.
abbrev pub left_by_begin : Result Party Refusal → Root → List Party → ℕ → List ℕ → List ℕ → List ℕ → Called CallReply
left_by_begin (Ok p) r row q ls ps ws = called (Ok tt) (lent r (set row q p) ls ps ws)
left_by_begin (Err c) r row q ls ps ws = called (Err c) (lent r row ls ps ws)

-- A step's, of the party whose number the copies have.
abbrev pub left_in_place : StepReply → Working → List Party → List ℕ → List ℕ → List ℕ → Called StepReply
left_in_place a w row ls ps ws = called a (lent w.root (set row w.number w.party) ls ps (row_after w.number ws a))

abbrev pub left_by_step : Stepped → List Party → ℕ → List ℕ → List ℕ → List ℕ → Called StepReply
left_by_step s row q ls ps ws = called s.answer (lent s.root (set row q s.party) ls ps (row_after q ws s.answer))

-- A withdraw's: both records and the waiting row are written, or all is as it was.
abbrev pub left_by_withdraw : Result (Root × Party) Refusal → Root → List Party → ℕ → List ℕ → List ℕ → List ℕ → Called CallReply
left_by_withdraw (Ok (s, p)) r row q ls ps ws = called (Ok tt) (lent s (set row q p) ls ps (row_left q ws (Ok tt)))
left_by_withdraw (Err c) r row q ls ps ws = called (Err c) (lent r row ls ps ws)
