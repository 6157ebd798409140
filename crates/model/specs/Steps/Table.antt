-- The steps as one table, a line a step: its number, what it runs, the operations that have it, the locks held before
-- it, the lock that it requests, what it gives up, where it leads, what it writes, and the pages that its party has
-- in hand.
-- Main definitions: StepRow, row_table, row_at. What goes by a column is read off it: step_table, want_table, is_next and
-- writes (Steps/Dispatch.antt), claim_table (Claims.antt), gives_up_moving and requested (Holds.antt), owes_old and
-- has_built (PagePlaces.antt). That the columns are true of the steps: proofs/Laws/StepTable.antt (number, who),
-- proofs/Exits.antt (locks, next, writes), proofs/Exits/Exact.antt (no successor and no word too many);
-- crates/theory/proofs/Places.antt (old, built).
use Rattle.std.specs.Prelude.{Bool, true, false, cond, ◌||◌, List, [], ◌∷◌, ℕ, get_or}
use Rattle.std.proofs.Math.Option.{Option, none, some}
use Rattle.model.specs.declared.Refusal.{Refusal}
use Rattle.model.specs.declared.Root.{Root}
use Rattle.model.specs.declared.Party.{Party}
use Rattle.model.specs.LockWords.{Claim}
use Rattle.model.specs.Addresses.{split_barred, count_of_chains}
use Rattle.model.specs.Outcome.{View, Outcome, refuse}
use Rattle.model.specs.LockRequests.{root_read, chain_lock, other_lock, chain_selective, chain_exclusive, root_selective, root_exclusive, other_exclusive}
use Rattle.model.specs.Steps.Locate.{step01, step02, step03, step04, step05}
use Rattle.model.specs.Steps.Chase.{step06, step07, step08}
use Rattle.model.specs.Steps.Find.{step09}
use Rattle.model.specs.Steps.Rebuild.{step10}
use Rattle.model.specs.Steps.Write.{is_change, step11, step12}
use Rattle.model.specs.Steps.OldPages.{step13, step14}
use Rattle.model.specs.Steps.SplitLocks.{next_selective, step15, step16, step19, step22}
use Rattle.model.specs.Steps.SplitBuild.{step17}
use Rattle.model.specs.Steps.SplitWrite.{step18, step20, step21}
use Rattle.model.specs.Steps.MergeLocks.{target_exclusive, merge_stops, merge_locks, step23, step24, step25, step30}
use Rattle.model.specs.Steps.MergeBuild.{step26}
use Rattle.model.specs.Steps.MergeWrite.{step27, step28, step29}

-- ---- The locks that a party holds

-- Locks, by the party's record.
abbrev pub Claims : Type 0
Claims = Party → List Claim

abbrev pub no_lock : Claims
no_lock p = []

abbrev pub on_root : Claim → Claims
on_root c p = c ∷ []

abbrev pub on_root_and_chain : Claims
on_root_and_chain p = root_read ∷ (chain_lock p ∷ [])

abbrev pub on_chain : Claims
on_chain p = chain_lock p ∷ []

abbrev pub on_other : Claims
on_other p = other_lock p ∷ []

abbrev pub on_both : Claims
on_both p = other_lock p ∷ (chain_lock p ∷ [])

abbrev pub on_chain_exclusive : Claims
on_chain_exclusive p = chain_exclusive p ∷ []

abbrev pub splitting : Claims
splitting p = root_selective ∷ (chain_selective p ∷ [])

abbrev pub merging_target : Claims
merging_target p = root_exclusive ∷ (chain_exclusive p ∷ [])

abbrev pub merging : Claim → Claims
merging c p = merge_locks c p

-- ---- The lock that a step requests

-- One lock or none, by the root and the party's record.
abbrev pub Want : Type 0
Want = Root → Party → Option Claim

abbrev pub wants_none : Want
wants_none r p = none

abbrev pub wants_root : Claim → Want
wants_root c r p = some c

abbrev pub wants_chain : Want
wants_chain r p = some (chain_lock p)

abbrev pub wants_chain_exclusive : Want
wants_chain_exclusive r p = some (chain_exclusive p)

abbrev pub wants_next : Want
wants_next r p = cond (split_barred (count_of_chains r) r.primaries) none (some (next_selective r))

abbrev pub wants_target : Want
wants_target r p = cond (merge_stops r) none (some (target_exclusive r))

abbrev pub wants_other : Want
wants_other r p = some (other_exclusive p)

-- ---- The words that a step writes

-- Numbers for words of the party's record and of the root record, and one for all page words. Chain and other have one
-- number, and so have head and free.
abbrev pub answer_word : ℕ
answer_word = 0

abbrev pub lev_word : ℕ
lev_word = 1

abbrev pub chains_word : ℕ
chains_word = 2

abbrev pub old_word : ℕ
old_word = 3

abbrev pub owed_word : ℕ
owed_word = 4

abbrev pub level_word : ℕ
level_word = 5

abbrev pub next_word : ℕ
next_word = 6

abbrev pub free_word : ℕ
free_word = 7

abbrev pub page_word : ℕ
page_word = 8

-- ---- The other columns

-- A number that names no step.
abbrev pub no_step : View → Outcome
no_step v = refuse Refusal.Damage v

-- Which operations have a step: given whether the operation is a find, an insert, a delete.
abbrev pub Who : Type 0
Who = Bool → Bool → Bool → Bool

abbrev nobody : Who
nobody f i d = false

abbrev everybody : Who
everybody f i d = f || (i || d)

abbrev finds : Who
finds f i d = f

abbrev changes : Who
changes f i d = i || d

abbrev inserts : Who
inserts f i d = i

abbrev deletes : Who
deletes f i d = d

-- The steps that a step may lead to, 0 where it may be done, given whether the operation is a find.
abbrev Next : Type 0
Next = Bool → List ℕ

abbrev to : List ℕ → Next
to ns find = ns

-- From 6 a find goes on to 9, a change to 10.
abbrev to_seven_or_on : Next
to_seven_or_on find = 7 ∷ cond find 9 10 ∷ []

-- Whether old pages are yet to be given back before a step.
abbrev OwesOld : Type 0
OwesOld = Party → Bool

abbrev owes : OwesOld
owes p = true

abbrev owes_not : OwesOld
owes_not p = false

abbrev owes_changed : OwesOld
owes_changed p = is_change p.answer

-- ---- The table

-- What is said of one step.
pub record StepRow : Type 0 where
  pub number : ℕ
  pub runs : View → Outcome
  pub who : Who
  -- The locks held before it; the lock that it requests.
  pub holds : Claims
  pub wants : Want
  -- The locks given up where it moves, and what one of them is turned into. Where it is done all are given up.
  pub gives : Claims
  pub turns : Option Claim
  pub next : Next
  -- The words that it may write before it is done.
  pub writes : List ℕ
  -- Before it: whether old pages are owed, and whether a chain is built and not in the file.
  pub old : OwesOld
  pub built : Bool

-- A row by its columns, in this order.
abbrev row : ℕ → (View → Outcome) → Who → Claims → Want → Claims → Option Claim → Next → List ℕ → OwesOld → Bool → StepRow
row k f o h w g t n s p b = record { number = k; runs = f; who = o; holds = h; wants = w; gives = g; turns = t; next = n; writes = s; old = p; built = b }

-- The row of a number that names no step.
abbrev pub no_row : StepRow
no_row = row 0 no_step nobody no_lock wants_none no_lock none (to []) [] owes_not false

-- By step number, from 0: number, runs, who, holds, wants, gives, turns, next, writes, old, built.
abbrev pub row_table : List StepRow
row_table =
    no_row
    ∷ row 1 step01 everybody no_lock (wants_root root_read) no_lock none (to (2 ∷ [])) [] owes_not false
    ∷ row 2 step02 everybody (on_root root_read) wants_none no_lock none (to (3 ∷ [])) (lev_word ∷ []) owes_not false
    ∷ row 3 step03 everybody (on_root root_read) wants_none no_lock none (to (4 ∷ [])) (lev_word ∷ chains_word ∷ []) owes_not false
    ∷ row 4 step04 everybody (on_root root_read) wants_chain no_lock none (to (5 ∷ [])) [] owes_not false
    ∷ row 5 step05 everybody on_root_and_chain wants_none (on_root root_read) none (to (6 ∷ [])) [] owes_not false
    ∷ row 6 step06 everybody on_chain wants_none no_lock none to_seven_or_on (lev_word ∷ chains_word ∷ page_word ∷ []) owes_not false
    ∷ row 7 step07 everybody on_other wants_chain no_lock none (to (8 ∷ [])) [] owes_not false
    ∷ row 8 step08 everybody on_both wants_none on_other none (to (6 ∷ [])) [] owes_not false
    ∷ row 9 step09 finds on_chain wants_none no_lock none (to (9 ∷ 0 ∷ [])) (page_word ∷ []) owes_not false
    ∷ row 10 step10 changes on_chain wants_none no_lock none (to (11 ∷ 12 ∷ [])) (answer_word ∷ old_word ∷ owed_word ∷ free_word ∷ page_word ∷ []) owes_not false
    ∷ row 11 step11 changes on_chain wants_none no_lock none (to (12 ∷ [])) (page_word ∷ []) owes_not true
    ∷ row 12 step12 changes on_chain wants_none (λ p. chain_selective p ∷ []) none (to (13 ∷ 15 ∷ 23 ∷ 0 ∷ [])) [] owes_changed false
    ∷ row 13 step13 changes no_lock wants_chain_exclusive no_lock none (to (14 ∷ [])) [] owes false
    ∷ row 14 step14 changes on_chain_exclusive wants_none on_chain_exclusive none (to (15 ∷ 23 ∷ 0 ∷ [])) (old_word ∷ free_word ∷ page_word ∷ []) owes false
    ∷ row 15 step15 inserts no_lock (wants_root root_selective) no_lock none (to (16 ∷ [])) [] owes_not false
    ∷ row 16 step16 inserts (on_root root_selective) wants_next no_lock none (to (17 ∷ 0 ∷ [])) (chains_word ∷ []) owes_not false
    ∷ row 17 step17 inserts splitting wants_none no_lock none (to (18 ∷ 0 ∷ [])) (old_word ∷ free_word ∷ page_word ∷ []) owes_not false
    ∷ row 18 step18 inserts splitting wants_none no_lock none (to (19 ∷ [])) (page_word ∷ []) owes_not true
    ∷ row 19 step19 inserts splitting wants_none (λ p. chain_selective p ∷ []) none (to (20 ∷ [])) [] owes false
    ∷ row 20 step20 inserts (on_root root_selective) wants_none no_lock none (to (21 ∷ [])) (next_word ∷ []) owes false
    ∷ row 21 step21 inserts (on_root root_selective) wants_none no_lock none (to (22 ∷ [])) (level_word ∷ []) owes false
    ∷ row 22 step22 inserts (on_root root_selective) wants_none (on_root root_selective) none (to (13 ∷ 0 ∷ [])) (owed_word ∷ []) owes false
    ∷ row 23 step23 deletes no_lock (wants_root root_exclusive) no_lock none (to (24 ∷ [])) [] owes_not false
    ∷ row 24 step24 deletes (on_root root_exclusive) wants_target no_lock none (to (25 ∷ 0 ∷ [])) (chains_word ∷ []) owes_not false
    ∷ row 25 step25 deletes merging_target wants_other no_lock none (to (26 ∷ [])) [] owes_not false
    ∷ row 26 step26 deletes (merging root_exclusive) wants_none no_lock none (to (27 ∷ 0 ∷ [])) (old_word ∷ page_word ∷ []) owes_not false
    ∷ row 27 step27 deletes (merging root_exclusive) wants_none (on_root root_exclusive) (some root_selective) (to (28 ∷ [])) (level_word ∷ next_word ∷ []) owes_not false
    ∷ row 28 step28 deletes (merging root_selective) wants_none no_lock none (to (29 ∷ [])) (page_word ∷ []) owes_not false
    ∷ row 29 step29 deletes (merging root_selective) wants_none no_lock none (to (30 ∷ [])) (free_word ∷ page_word ∷ []) owes false
    ∷ row 30 step30 deletes (merging root_selective) wants_none no_lock none (to (0 ∷ [])) [] owes_not false ∷ []

-- The row of step number k.
abbrev pub row_at : ℕ → StepRow
row_at k = get_or row_table k no_row
