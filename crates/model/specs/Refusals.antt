-- The refusal table and the damage tests that every step makes (document 01, "Refused calls").
-- Main definitions: Row, first_cause (tests run in the table's order); lengths_fit; record_sound (the tests of damage on root and record); the rows of each call.
use Rattle.std.specs.Prelude.{Bool, cond, not, ◌&&◌, ◌||◌, List, [], ◌∷◌, ℕ, length, ltb, leb, eqb, Ok, Err}
use Rattle.model.specs.declared.Refusal.{Refusal}
use Rattle.model.specs.declared.Root.{Root}
use Rattle.model.specs.declared.Party.{Party}
use Rattle.model.specs.Answers.{CallReply}
use Rattle.model.specs.Records.{idle_operation, delete_operation, split_made}
use Rattle.model.specs.Sizes.{within_limits, lock_words, all_page_words}
use Rattle.model.specs.Addresses.{span, chain_count}
use Rattle.model.specs.Memory.{Memory, party_at}
use Rattle.model.specs.Steps.Dispatch.{has_step}
use Rattle.model.specs.Withdraw.{is_decided}
use Rattle.model.specs.WaitingRow.{row_sound}

-- One row of the table: whether its cause is met, and the cause.
pub record Row : Type 0 where
  pub met : Bool
  pub cause : Refusal

abbrev pub row : Bool → Refusal → Row
row b c = record { met = b; cause = c }

-- "Tests run in the table's order": the refusal of the first cause met, if there is one.
unfoldable pub first_cause : List Row → CallReply
first_cause [] = Ok tt
first_cause (x ∷ xs) = cond x.met (Err x.cause) (first_cause xs)

-- "a lent length other than Q records, P+1 lock words or 16 × (P+V+Q) page words".
unfoldable pub lengths_fit : Root → Memory → Bool
lengths_fit r m = eqb (length m.parties) r.parties && eqb (length m.locks) (lock_words r) && eqb (length m.pages) (all_page_words r) && eqb (length m.waiting) r.parties

-- The rows, each with the causes in document 01's words.
abbrev pub size_row : Root → Row
size_row r = row (not (within_limits r)) Refusal.Size

abbrev pub length_row : Root → Memory → Row
length_row r m = row (not (lengths_fit r m)) Refusal.Length

abbrev pub party_row : Root → ℕ → Row
party_row r q = row (leb r.parties q) Refusal.Party

abbrev pub is_idle : Party → Bool
is_idle p = eqb p.operation idle_operation

abbrev pub busy_row : Party → Row
busy_row p = row (not (is_idle p)) Refusal.Busy

abbrev pub idle_row : Party → Row
idle_row p = row (is_idle p) Refusal.Idle

-- "7 when the decisive step has been taken" (document 02, change 2).
abbrev pub decided_row : Party → Row
decided_row p = row (is_decided p) Refusal.Decided

-- ---- Damage, on the root and the party's record

-- "level above 8, next not below N × 2^level, n above P, or free count above V".
unfoldable pub root_sound : Root → Bool
root_sound r =
    leb r.level 8 && ltb r.next (span r.originals r.level) && leb (chain_count r.originals r.level r.next) r.primaries
    && leb r.free r.overflow

-- "operation above 3; a step the operation lacks; lev above 9; owed above 3; an answer above 5, or 0 from step 12 on; a chain or other chain at or above P".
unfoldable pub party_sound : Root → Party → Bool
party_sound r p =
    leb p.operation delete_operation && has_step p.operation p.step && leb p.lev 9 && leb p.owed split_made
    && leb p.answer 5 && (ltb p.step 12 || not (eqb p.answer 0)) && ltb p.chain r.primaries && ltb p.other r.primaries

unfoldable pub record_sound : Root → Party → Bool
record_sound r p = root_sound r && party_sound r p

abbrev pub damage_row : Root → Party → Row
damage_row r p = row (not (record_sound r p)) Refusal.Damage

-- The waiting row is damaged (document 02, change 7).
abbrev pub waiting_row : Memory → Row
waiting_row m = row (not (row_sound m.root m.parties m.waiting)) Refusal.Damage

-- ---- The rows of each call

-- Format: the sizes given, and the lengths against them.
unfoldable pub format_rows : Root → Memory → List Row
format_rows r m = size_row r ∷ (length_row r m ∷ [])

-- Begin, for party q.
unfoldable pub begin_rows : Memory → ℕ → List Row
begin_rows m q = size_row m.root ∷ (length_row m.root m ∷ (party_row m.root q ∷ (busy_row (party_at m.parties q) ∷ [])))

-- Step, for party q; the tests of damage that go by the step number are the step's own.
unfoldable pub step_rows : Memory → ℕ → List Row
step_rows m q =
    size_row m.root
    ∷ (length_row m.root m ∷ (party_row m.root q ∷ (idle_row (party_at m.parties q) ∷ (damage_row m.root (party_at m.parties q) ∷ (waiting_row m ∷ [])))))

-- Withdraw, for party q: 7 is "tested after 5 (the party is idle) and before 6"; the tests of damage that go by the step number are its own.
unfoldable pub withdraw_rows : Memory → ℕ → List Row
withdraw_rows m q =
    size_row m.root
    ∷ (length_row m.root m ∷ (party_row m.root q
    ∷ (idle_row (party_at m.parties q) ∷ (decided_row (party_at m.parties q) ∷ (damage_row m.root (party_at m.parties q) ∷ (waiting_row m ∷ []))))))
