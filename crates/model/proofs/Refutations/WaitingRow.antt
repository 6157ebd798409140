-- The waiting row on made-up records: what the definitions call right, beside what differs from it in one place.
-- Main statements: asks-idle to asks-merging (what a party's next step requests); row_sound_lem, row_gap, row_twice,
-- row_above, row-idle (damage); reads_together to no_request (which requests conflict); second_behind to idle_behind
-- (who stands behind somebody); joins_last to leaves_none (the row after a call); granted_free, granted_held,
-- granted_behind, damage-first (a request); format_clears, length_told, saved_clear, saved_waiting (the other calls);
-- row_passes_lem, row_refused (where the row is tested); moved-first to moved_elsewhere (a grant, by the ledgers);
-- enters_last to kept_in (the ledger of waits).
use mathlib.Core.Path.{◌≡◌, refl}
use mathlib.Core.Bool.{Bool, true, false, ◌&&◌}
use mathlib.Core.List.{List, [], ◌∷◌}
use mathlib.Core.Option.{none, some}
use Prim.Native.Nat.{ℕ}
use lib.ListN.{replicate}
use Rattle.std.specs.Prelude.{Ok, Err}
use Rattle.model.specs.declared.Refusal.{Refusal}
use Rattle.model.specs.Answers.{StepReply, CallReply}
use Rattle.model.specs.declared.Root.{Root}
use Rattle.model.specs.declared.Party.{Party}
use Rattle.model.specs.declared.Mode.TheVariants.{Read, Selective, Exclusive}
use Rattle.model.specs.declared.StepAnswer.{StepAnswer}
use Rattle.model.specs.declared.OperationAnswer.TheVariants as OperationAnswer
use Rattle.model.specs.declared.Restructuring.TheVariants as Restructuring
use Rattle.model.specs.Records.{root_of_sizes, with_next, idle, begun, at_step, with_chain, with_old, find_operation, insert_operation, delete_operation}
use Rattle.model.specs.LockWords.{claim}
use Rattle.model.specs.Outcome.{View, refuse}
use Rattle.model.specs.LockRequests.{is_granted}
use Rattle.model.specs.Steps.OldPages.{step13}
use Rattle.model.specs.WaitingRow.{requests, all_zero, row_sound, conflicts, stands_behind, row_with, row_without, row_after, row_left}
use Rattle.model.specs.Memory.{Memory, view_of, with_waiting, formatted}
use Rattle.model.specs.Refusals.{first_cause, lengths_fit, root_sound, step_rows, withdraw_rows}
use Rattle.model.specs.TakeUp.{parties_rest, locks_clear, scratch_clear, chains_saved, beyond_clear, free_saved, pages_once, row_clear, is_saved}
use Rattle.model.specs.Holds.{Hold, hold, waits_after_step, waits_after_withdraw, answer_right}
use Rattle.model.proofs.Laws.Booleans.{and_right}
use Rattle.model.proofs.Refutations.Opened.{opened}

-- ---- Records

-- N = 2, b = 1, P chains, one overflow page, four parties; next chains are split, at level 0.
abbrev root_with : ℕ → ℕ → Root
root_with p next = with_next next (root_of_sizes 2 1 p 1 4)

abbrev root : Root
root = root_with 4 1

-- An operation on key 7 at step k, on chain c.
abbrev at : ℕ → ℕ → ℕ → Party
at o k c = with_chain c (at_step k (begun o 7 0))

-- Party 0 inserts and party 1 deletes, both before they lock chain 1; party 2 finds, before it locks chain 0; party 3
-- rests.
abbrev parties : List Party
parties = at insert_operation 4 1 ∷ at delete_operation 4 1 ∷ at find_operation 4 0 ∷ idle ∷ []

-- A row of two words and two zeros.
abbrev row_of : ℕ → ℕ → List ℕ
row_of x y = x ∷ y ∷ 0 ∷ 0 ∷ []

-- ---- What a party's next step requests

asks-idle : requests root idle ≡ none
unfolding opened
asks-idle = refl

asks_chain : requests root (at insert_operation 4 1) ≡ some (claim 2 Selective)
unfolding opened
asks_chain = refl

-- A find has no 13.
asks_lacking : requests root (at find_operation 13 1) ≡ none
unfolding opened
asks_lacking = refl

asks_old : requests root (at insert_operation 13 1) ≡ some (claim 2 Exclusive)
unfolding opened
asks_old = refl

-- 16 with n = P, and with a chain to come.
asks-barred : requests (root_with 3 1) (at insert_operation 16 0) ≡ none
unfolding opened
asks-barred = refl

asks-splitting : requests root (at insert_operation 16 0) ≡ some (claim 2 Selective)
unfolding opened
asks-splitting = refl

-- 24 with n = N, and with a chain more.
asks_last : requests (root_with 4 0) (at delete_operation 24 0) ≡ none
unfolding opened
asks_last = refl

asks-merging : requests root (at delete_operation 24 1) ≡ some (claim 1 Exclusive)
unfolding opened
asks-merging = refl

-- ---- Damage

abbrev sound_row : List ℕ → Bool
sound_row row = row_sound root parties row

row_sound_lem : sound_row (row_of 2 1) ≡ true
unfolding opened
row_sound_lem = refl

row_gap : sound_row (2 ∷ 0 ∷ 1 ∷ 0 ∷ []) ≡ false
unfolding opened
row_gap = refl

row_twice : sound_row (row_of 2 2) ≡ false
unfolding opened
row_twice = refl

row_above : sound_row (row_of 2 5) ≡ false
unfolding opened
row_above = refl

row-idle : sound_row (row_of 2 4) ≡ false
unfolding opened
row-idle = refl

-- ---- Which requests conflict

reads_together : conflicts (some (claim 2 Read)) (claim 2 Read) ≡ false
unfolding opened
reads_together = refl

reads_apart : conflicts (some (claim 2 Exclusive)) (claim 2 Read) ≡ true
unfolding opened
reads_apart = refl

other_word : conflicts (some (claim 1 Exclusive)) (claim 2 Read) ≡ false
unfolding opened
other_word = refl

no_request : conflicts none (claim 2 Read) ≡ false
unfolding opened
no_request = refl

-- ---- Who stands behind somebody

abbrev behind : List ℕ → ℕ → Bool
behind row q = stands_behind root parties row q

-- The first does not stand behind itself, nor behind the second.
second_behind : behind (row_of 1 2) 1 ≡ true
unfolding opened
second_behind = refl

first_behind : behind (row_of 1 2) 0 ≡ false
unfolding opened
first_behind = refl

-- Who does not wait comes after all who do.
newcomer_behind : behind (row_of 1 0) 1 ≡ true
unfolding opened
newcomer_behind = refl

elsewhere_behind : behind (row_of 1 0) 2 ≡ false
unfolding opened
elsewhere_behind = refl

idle_behind : behind (row_of 1 0) 3 ≡ false
unfolding opened
idle_behind = refl

-- ---- The row after a call

joins_last : row_with 2 (row_of 2 0) ≡ row_of 2 3
unfolding opened
joins_last = refl

joins_once : row_with 1 (row_of 2 3) ≡ row_of 2 3
unfolding opened
joins_once = refl

-- Those behind move up.
leaves-first : row_without 1 (row_of 2 3) ≡ row_of 3 0
unfolding opened
leaves-first = refl

leaves_none : row_without 0 (row_of 2 3) ≡ row_of 2 3
unfolding opened
leaves_none = refl

after_waiting : row_after 2 (row_of 2 0) (Ok StepAnswer.Waiting) ≡ row_of 2 3
unfolding opened
after_waiting = refl

after_moving : row_after 1 (row_of 2 3) (Ok StepAnswer.Moved) ≡ row_of 3 0
unfolding opened
after_moving = refl

after_done : row_after 1 (row_of 2 3) (Ok (StepAnswer.Done OperationAnswer.Absent Restructuring.None)) ≡ row_of 2 3
unfolding opened
after_done = refl

after_refused : row_after 1 (row_of 2 3) (Err Refusal.Damage) ≡ row_of 2 3
unfolding opened
after_refused = refl

after_withdrawn : row_left 1 (row_of 2 3) (Ok tt) ≡ row_of 3 0
unfolding opened
after_withdrawn = refl

after_kept : row_left 1 (row_of 2 3) (Err Refusal.Decided) ≡ row_of 2 3
unfolding opened
after_kept = refl

-- ---- A request

-- The view of party 0, all lock words being w, with this waiting row and old link.
abbrev seen : ℕ → List ℕ → ℕ → View
seen w row o =
    view_of (record { root = root; parties = with_old o (at insert_operation 13 1) ∷ parties; locks = replicate 5 w; pages = []; waiting = row }) 0

abbrev granted : ℕ → List ℕ → Bool
granted w row = is_granted (seen w row 5) (claim 2 Exclusive)

granted_free : granted 0 (row_of 0 0) ≡ true
unfolding opened
granted_free = refl

granted_held : granted 2 (row_of 0 0) ≡ false
unfolding opened
granted_held = refl

-- Party 1, who inserts too, came before.
granted_behind : granted 0 (row_of 2 0) ≡ false
unfolding opened
granted_behind = refl

-- Damage goes before waiting: at 13 the old link is tested first.
damage-first : step13 (seen 0 (row_of 2 0) 0) ≡ refuse Refusal.Damage (seen 0 (row_of 2 0) 0)
unfolding opened
damage-first = refl

-- ---- Format, take-up, the lengths

abbrev fresh : Memory
fresh = formatted (root_of_sizes 2 1 3 0 4)

format_clears : fresh.waiting ≡ row_of 0 0
unfolding opened
format_clears = refl

length_right : lengths_fit fresh.root fresh ≡ true
unfolding opened
length_right = refl

length_told : lengths_fit fresh.root (with_waiting (0 ∷ 0 ∷ 0 ∷ []) fresh) ≡ false
unfolding opened
length_told = refl

-- Take-up wants the row zero, whatever else the memory is.
saved_clear : (m : Memory) → is_saved m ≡ true → all_zero m.waiting ≡ true
unfolding is_saved row_clear
saved_clear m h =
    and_right (parties_rest m && locks_clear m && scratch_clear m && root_sound m.root && chains_saved m && beyond_clear m && free_saved m && pages_once m) (all_zero m.waiting) h

saved_waiting : row_clear (with_waiting (row_of 0 1) fresh) ≡ false
unfolding opened
saved_waiting = refl

-- ---- Where the row is tested

-- Everybody before its 4, no page; the row given.
abbrev waiting_with : List ℕ → Memory
waiting_with row = record { root = root; parties = parties; locks = replicate 5 0; pages = replicate 144 0; waiting = row }

abbrev causes : List ℕ → List CallReply
causes row = first_cause (step_rows (waiting_with row) 0) ∷ first_cause (withdraw_rows (waiting_with row) 0) ∷ []

-- By step and withdraw alike, and as damage.
row_passes_lem : causes (row_of 2 1) ≡ Ok tt ∷ Ok tt ∷ []
unfolding opened
row_passes_lem = refl

row_refused : causes (row_of 2 2) ≡ Err Refusal.Damage ∷ Err Refusal.Damage ∷ []
unfolding opened
row_refused = refl

-- ---- Grants, by the ledgers

-- Party q waits for chain 1, selectively.
abbrev waiter : ℕ → Hold
waiter q = hold q (claim 2 Selective)

abbrev rightly : List Hold → StepReply → Bool
rightly ws a = answer_right [] ws 0 (some (claim 2 Selective)) a

-- Nobody holds a lock. Party 0's request is granted where nobody waits, where it came first, or where who came first
-- waits for another lock; else it waits.
moved-first : rightly [] (Ok StepAnswer.Moved) ≡ true
unfolding opened
moved-first = refl

waits-first : rightly [] (Ok StepAnswer.Waiting) ≡ false
unfolding opened
waits-first = refl

moved_behind : rightly (waiter 1 ∷ []) (Ok StepAnswer.Moved) ≡ false
unfolding opened
moved_behind = refl

waits_behind : rightly (waiter 1 ∷ waiter 0 ∷ []) (Ok StepAnswer.Waiting) ≡ true
unfolding opened
waits_behind = refl

moved_ahead : rightly (waiter 0 ∷ waiter 1 ∷ []) (Ok StepAnswer.Moved) ≡ true
unfolding opened
moved_ahead = refl

moved_elsewhere : rightly (hold 1 (claim 3 Selective) ∷ hold 1 (claim 2 Read) ∷ []) (Ok StepAnswer.Moved) ≡ true
unfolding opened
moved_elsewhere = refl

-- The ledger: a wait comes last and once, a move, an end or a withdraw takes it out, a refusal does not.
enters_last : waits_after_step (waiter 1 ∷ []) 0 (some (claim 2 Selective)) (Ok StepAnswer.Waiting) ≡ waiter 1 ∷ waiter 0 ∷ []
unfolding opened
enters_last = refl

enters_once : waits_after_step (waiter 0 ∷ waiter 1 ∷ []) 0 (some (claim 2 Selective)) (Ok StepAnswer.Waiting) ≡ waiter 0 ∷ waiter 1 ∷ []
unfolding opened
enters_once = refl

moved_out : waits_after_step (waiter 0 ∷ waiter 1 ∷ []) 0 (some (claim 2 Selective)) (Ok StepAnswer.Moved) ≡ waiter 1 ∷ []
unfolding opened
moved_out = refl

done_out : waits_after_step (waiter 0 ∷ []) 0 none (Ok (StepAnswer.Done OperationAnswer.Absent Restructuring.None)) ≡ []
unfolding opened
done_out = refl

refused_in : waits_after_step (waiter 0 ∷ []) 0 none (Err Refusal.Damage) ≡ waiter 0 ∷ []
unfolding opened
refused_in = refl

withdrawn_out : waits_after_withdraw (waiter 1 ∷ waiter 0 ∷ []) 0 (Ok tt) ≡ waiter 1 ∷ []
unfolding opened
withdrawn_out = refl

kept_in : waits_after_withdraw (waiter 1 ∷ waiter 0 ∷ []) 0 (Err Refusal.Decided) ≡ waiter 1 ∷ waiter 0 ∷ []
unfolding opened
kept_in = refl
