-- The row looked at entry by entry, the place of a party in it, and the row's words.
-- Main definitions: place_of (where a party stands); looked_at (one entry more), looked_through (all of them), stands_of
-- (what is seen at the end); row_by (the row after a step).
use Rattle.std.specs.Prelude.{Bool, true, false, cond, not, ◌&&◌, ◌||◌, List, [], ◌∷◌, ℕ, ◌+◌, ◌-◌, eqb, ltb, leb, min, length, get_or, take, drop}
use Rattle.std.specs.Prelude.{Option as Maybe, Some, None, Ok, Err}
use Rattle.std.proofs.Math.Option.{Option, none, some}
use Rattle.model.specs.declared.Root.{Root}
use Rattle.model.specs.declared.Party.{Party}
use Rattle.model.specs.declared.StepAnswer.{StepAnswer}
use Rattle.model.specs.Answers.{StepReply}
use Rattle.model.specs.Records.{idle}
use Rattle.model.specs.LockWords.{Claim, field_of, with_field}
use Rattle.model.specs.FreeList.{is_among}
use Rattle.model.specs.WaitingRow.{waiters_in, all_zero, row_sound, stands_behind, appended, row_without}
use Rattle.waiting_row.specs.declared.Looking.{Looking}
use Rattle.waiting_row.specs.declared.Place.{Place}
use Rattle.waiting_row.specs.Requested.{request_in, asks, hindered_by}

-- Where party q stands, of these records and this row.
abbrev pub place_of : Root → List Party → List ℕ → ℕ → Place
place_of r ps row q = record {
  waits = is_among q (waiters_in row);
  apart = not (row_sound r ps row) || stands_behind r ps row q;
  sound = row_sound r ps row;
  behind = stands_behind r ps row q;
}

-- Where nobody waits.
abbrev pub alone : Place
alone = record { waits = false; apart = false; sound = true; behind = false }

-- Before the first entry.
unfoldable pub first_seen : Root → Party → Bool → Looking
first_seen r p gapless = record {
  mine = request_in (asks r p);
  met = 0;
  sound = gapless;
  waits = false;
  behind = false;
}

abbrev pub placed_by : Looking → Place
placed_by s = record { waits = s.waits; apart = not s.sound || s.behind; sound = s.sound; behind = s.behind }

-- ---- One entry

-- The party that a word names, "party number plus one", where it is one of n, of 16 at most.
unfoldable pub named : ℕ → ℕ → Maybe ℕ
named w n = cond (not (eqb w 0) && leb w (min n 16)) (Some (w - 1)) None

-- The word names no party, or one that requests nothing.
abbrev pub damaged_by : Bool → Looking → Looking
damaged_by own s = record {
  mine = s.mine;
  met = s.met;
  sound = false;
  waits = s.waits || own;
  behind = s.behind;
}

-- Party j, which requests this or nothing, is met.
abbrev pub meets : Bool → ℕ → Option Claim → Looking → Looking
meets own j none s = damaged_by own s
meets own j (some c) s = record {
  mine = s.mine;
  met = with_field j 1 s.met 1;
  sound = s.sound && eqb (field_of j 1 s.met) 0;
  waits = s.waits || own;
  behind = s.behind || (not (s.waits || own) && hindered_by c s.mine);
}

-- One entry more, by the party that it names.
abbrev pub met_by : Maybe ℕ → Looking → Root → List Party → ℕ → ℕ → Looking
met_by None s r ps q w = damaged_by (eqb w (q + 1)) s
met_by (Some j) s r ps q w = meets (eqb j q) j (asks r (get_or ps j idle)) s

unfoldable pub looked_at : Looking → Root → List Party → ℕ → ℕ → Looking
looked_at s r ps q w = met_by (named w (length ps)) s r ps q w

-- ---- All of them

unfoldable pub looked_through : Root → List Party → ℕ → Looking → List ℕ → Looking
looked_through r ps q s [] = s
looked_through r ps q s (w ∷ ws) = looked_through r ps q (looked_at s r ps q w) ws

-- What is seen once n entries are looked at.
abbrev pub seen_at : Root → List Party → ℕ → Bool → List ℕ → ℕ → Looking
seen_at r ps q gapless row n = looked_through r ps q (first_seen r (get_or ps q idle) gapless) (take n row)

-- Where party q stands, as the row is looked through.
unfoldable pub stands_of : Root → List Party → List ℕ → ℕ → Place
stands_of r ps row q =
    let n = length (waiters_in row) in
    placed_by (seen_at r ps q (all_zero (drop n row)) row n)

-- ---- The row after a step

-- After a step of a party that waits or not. No number above 15 is a party's.
unfoldable pub row_by : Bool → ℕ → List ℕ → StepReply → List ℕ
row_by waits q row (Ok StepAnswer.Waiting) = cond (not waits && ltb q 16) (appended (q + 1) row) row
row_by waits q row (Ok StepAnswer.Moved) = cond waits (row_without q row) row
row_by waits q row (Ok (StepAnswer.Done a s)) = row
row_by waits q row (Err c) = row
