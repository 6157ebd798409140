-- Locks held, derived from the calls made and not from the lock words (demand 2): each grant adds a lock, each give-up takes it away.
-- Sizes are those of a root record z, given to format; who is under way goes by the calls (the book's entries).
-- Beside them the ledger of who waits, likewise by the calls and their answers alone.
-- Main definitions: Hold, permitted; gives_up (what each step gives up), holds_after; waits_after (who waits, first come
-- first), waits_before; grant_right, step_right, begin_right, withdraw_right (one answer); grants_right (over a whole list).
use Rattle.std.specs.Prelude.{Bool, true, false, cond, not, ◌&&◌, ◌||◌, List, [], ◌∷◌, ◌++◌, ℕ, get_or, eqb, leb, Ok, Err, Result, is_ok}
use Rattle.std.proofs.Math.Option.{Option, none, some}
use Rattle.model.specs.declared.Refusal.{Refusal}
use Rattle.model.specs.declared.Root.{Root}
use Rattle.model.specs.declared.Party.{Party}
use Rattle.model.specs.declared.Mode.{Mode}
use Rattle.model.specs.declared.Mode.TheVariants.{Read, Selective, Exclusive}
use Rattle.model.specs.declared.StepAnswer.{StepAnswer}
use Rattle.model.specs.LockWords.{Claim, table_one}
use Rattle.model.specs.Memory.{Memory, party_at}
use Rattle.model.specs.GivenSizes.{sized_root}
use Rattle.model.specs.Calls.{begin_call, step_call, withdraw_call}
use Rattle.model.specs.Runs.{Call, begin_for, step_for, withdraw_for, after_call}
use Rattle.model.specs.Book.{Book}
use Rattle.model.specs.Answers.{is_moved, StepReply, CallReply, cause_number}
use Rattle.model.specs.Progress.{under_way, book_after_call}
use Rattle.model.specs.Steps.Table.{row_at}
use Rattle.model.specs.Steps.Dispatch.{wants}
use Rattle.model.specs.Claims.{no_lock, claim_table, claims}
use Rattle.model.specs.Withdraw.{is_decided}

-- A lock held: by which party, and which lock.
pub record Hold : Type 0 where
  pub party : ℕ
  pub claim : Claim

abbrev pub hold : ℕ → Claim → Hold
hold q c = record { party = q; claim = c }

-- Whether Table I permits a lock against the locks held on its word, the party's own among them.
unfoldable pub permitted : List Hold → Claim → Bool
permitted [] c = true
permitted (h ∷ hs) c = (not (eqb h.claim.word c.word) || table_one c.mode h.claim.mode) && permitted hs c

-- ---- What a call grants and gives up

unfoldable pub same_mode : Mode → Mode → Bool
same_mode Read Read = true
same_mode Read Selective = false
same_mode Read Exclusive = false
same_mode Selective Read = false
same_mode Selective Selective = true
same_mode Selective Exclusive = false
same_mode Exclusive Read = false
same_mode Exclusive Selective = false
same_mode Exclusive Exclusive = true

unfoldable pub is_hold : ℕ → Claim → Hold → Bool
is_hold q c h = eqb h.party q && eqb h.claim.word c.word && same_mode h.claim.mode c.mode

-- The holds without party q's hold of this lock, or of all these.
unfoldable pub without_one : List Hold → ℕ → Claim → List Hold
without_one [] q c = []
without_one (h ∷ hs) q c = cond (is_hold q c h) hs (h ∷ without_one hs q c)

unfoldable pub without_all : List Hold → ℕ → List Claim → List Hold
without_all hs q [] = hs
without_all hs q (c ∷ cs) = without_all (without_one hs q c) q cs

-- The locks that step k of a party gives up where it moves; where it is done, all that it holds.
unfoldable pub gives_up_moving : ℕ → Party → List Claim
gives_up_moving k p = (row_at k).gives p

unfoldable pub gives_up : ℕ → Party → StepReply → List Claim
gives_up k p (Ok StepAnswer.Waiting) = []
gives_up k p (Ok StepAnswer.Moved) = gives_up_moving k p
gives_up k p (Ok (StepAnswer.Done a s)) = get_or claim_table k no_lock p
gives_up k p (Err c) = []

-- The lock that a step is granted: what it requested, where it moves; and at 27 root selectively, turned from exclusive.
unfoldable pub requested : ℕ → Option Claim → Option Claim
requested k none = (row_at k).turns
requested k (some c) = some c

unfoldable pub with_held : List Hold → ℕ → Option Claim → List Hold
with_held hs q none = hs
with_held hs q (some c) = hold q c ∷ hs

-- The lock that party q's next step requests, or none.
abbrev pub wanted_by : Root → Memory → ℕ → Option Claim
wanted_by z m q = wants (sized_root z m.root) (party_at m.parties q)

-- The holds after a step of party q.
unfoldable pub holds_after_step : Root → List Hold → Memory → ℕ → List Hold
holds_after_step z hs m q =
    let p = party_at m.parties q in
    let a = (step_call m q).answer in
    let left = without_all hs q (gives_up p.step p a) in
    cond (is_moved a) (with_held left q (requested p.step (wanted_by z m q))) left

-- The locks that a withdraw of a party with record p gives up: those that its step number claims.
unfoldable pub gives_up_withdrawn : Root → Party → CallReply → List Claim
gives_up_withdrawn z p (Ok _) = claims z p
gives_up_withdrawn z p (Err c) = []

-- The holds after a withdraw of party q.
unfoldable pub holds_after_withdraw : Root → List Hold → Memory → ℕ → List Hold
holds_after_withdraw z hs m q = without_all hs q (gives_up_withdrawn (sized_root z m.root) (party_at m.parties q) (withdraw_call m q).answer)

unfoldable pub holds_after : Root → List Hold → Memory → Call → List Hold
holds_after z hs m (begin_for q o k) = hs
holds_after z hs m (step_for q) = holds_after_step z hs m q
holds_after z hs m (withdraw_for q) = holds_after_withdraw z hs m q

-- ---- Who waits, by the calls and their answers alone: party and wanted lock, first come first

-- Whether party q has an entry.
unfoldable pub waits_in : List Hold → ℕ → Bool
waits_in [] q = false
waits_in (w ∷ ws) q = eqb w.party q || waits_in ws q

-- A party that waits comes last, with the lock that it wants, unless it has an entry.
unfoldable pub joins : List Hold → ℕ → Option Claim → List Hold
joins ws q none = ws
joins ws q (some c) = cond (waits_in ws q) ws (ws ++ (hold q c ∷ []))

-- The ledger without party q's entry.
unfoldable pub leaves : List Hold → ℕ → List Hold
leaves [] q = []
leaves (w ∷ ws) q = let rest = leaves ws q in cond (eqb w.party q) ws (w ∷ rest)

-- After a step of party q that wants o, by its answer: who is moved or done waits no longer.
unfoldable pub waits_after_step : List Hold → ℕ → Option Claim → StepReply → List Hold
waits_after_step ws q o (Ok StepAnswer.Waiting) = joins ws q o
waits_after_step ws q o (Ok StepAnswer.Moved) = leaves ws q
waits_after_step ws q o (Ok (StepAnswer.Done a s)) = leaves ws q
waits_after_step ws q o (Err c) = ws

-- After a withdraw, by its answer.
unfoldable pub waits_after_withdraw : List Hold → ℕ → CallReply → List Hold
waits_after_withdraw ws q (Ok _) = leaves ws q
waits_after_withdraw ws q (Err c) = ws

-- After a call.
unfoldable pub waits_after : Root → List Hold → Memory → Call → List Hold
waits_after z ws m (begin_for q o k) = ws
waits_after z ws m (step_for q) = waits_after_step ws q (wanted_by z m q) (step_call m q).answer
waits_after z ws m (withdraw_for q) = waits_after_withdraw ws q (withdraw_call m q).answer

-- Whether an entry before party q's own (any entry, where it has none) conflicts with its request c.
unfoldable pub waits_before : List Hold → ℕ → Claim → Bool
waits_before [] q c = false
waits_before (w ∷ ws) q c =
    let further = waits_before ws q c in
    cond (eqb w.party q) false ((eqb w.claim.word c.word && not (table_one c.mode w.claim.mode)) || further)

-- ---- Grants

-- Whether an answer to a request is right: moved where the lock is permitted, waiting where it is not, and never a refusal.
unfoldable pub grant_right : Bool → StepReply → Bool
grant_right may (Ok StepAnswer.Waiting) = not may
grant_right may (Ok StepAnswer.Moved) = may
grant_right may (Ok (StepAnswer.Done a s)) = false
grant_right may (Err c) = false

-- A step that requests nothing never waits, and is not refused.
unfoldable pub never_waits : StepReply → Bool
never_waits (Ok StepAnswer.Waiting) = false
never_waits (Ok StepAnswer.Moved) = true
never_waits (Ok (StepAnswer.Done a s)) = true
never_waits (Err c) = false

-- Whether an answer is right for an operation under way.
unfoldable pub answer_right : List Hold → List Hold → ℕ → Option Claim → StepReply → Bool
answer_right hs ws q none a = never_waits a
answer_right hs ws q (some c) a = grant_right (permitted hs c && not (waits_before ws q c)) a

-- ---- Refusals

-- Whether a call is refused with this number.
unfoldable pub refused_with : {A : Type 0} → ℕ → Result A Refusal → Bool
refused_with k (Ok a) = false
refused_with k (Err c) = eqb (cause_number c) k

-- A step of a party that has nothing under way is refused: 3 where there is no such party, else 5.
unfoldable pub idle_right : ℕ → ℕ → StepReply → Bool
idle_right parties q a = refused_with (cond (leb parties q) 3 5) a

-- A begin is refused 3 where there is no such party, 4 where it has an operation under way, and is else accepted.
unfoldable pub begin_right : ℕ → ℕ → Bool → CallReply → Bool
begin_right parties q busy a =
    let there = cond busy (refused_with 4 a) (is_ok a) in
    cond (leb parties q) (refused_with 3 a) there

-- A withdraw is refused 3 where there is no such party, 5 where it has nothing under way, 7 where the decisive step is taken, and is else accepted: it never waits.
unfoldable pub withdraw_right : ℕ → ℕ → Bool → Bool → CallReply → Bool
withdraw_right parties q busy decided a =
    let there = cond busy (cond decided (refused_with 7 a) (is_ok a)) (refused_with 5 a) in
    cond (leb parties q) (refused_with 3 a) there

-- ---- Over a list of calls

-- Whether a step of party q is answered rightly.
unfoldable pub step_right : Root → Book → List Hold → List Hold → Memory → ℕ → Bool
step_right z b hs ws m q =
    let a = (step_call m q).answer in
    cond (under_way b q) (answer_right hs ws q (wanted_by z m q) a) (idle_right z.parties q a)

-- Whether a call is.
unfoldable pub call_right : Root → Book → List Hold → List Hold → Memory → Call → Bool
call_right z b hs ws m (begin_for q o k) = begin_right z.parties q (under_way b q) (begin_call m q o k).answer
call_right z b hs ws m (step_for q) = step_right z b hs ws m q
call_right z b hs ws m (withdraw_for q) = withdraw_right z.parties q (under_way b q) (is_decided (party_at m.parties q)) (withdraw_call m q).answer

-- A requesting step is granted exactly where Table I permits it against the locks held and no earlier waiting request
-- conflicts, else it waits; no step of an operation under way is refused, and every other call as the table of refusals
-- has it.
unfoldable pub grants_right : Root → Book → List Hold → List Hold → Memory → List Call → Bool
grants_right z b hs ws m [] = true
grants_right z b hs ws m (c ∷ cs) =
    call_right z b hs ws m c && grants_right z (book_after_call b m c) (holds_after z hs m c) (waits_after z ws m c) (after_call m c) cs
