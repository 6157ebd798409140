-- Definitions that only forbid, or that stand as a premise, said once more: a wider one would make a statement weaker
-- and every proof of it would still stand.
-- Main statements: answers_allowed (what a plain map may answer, as a table), plain_setting, plain_ascends (what it
-- leaves of each key), other_replies_refused, lengths_agree;
-- clock_starts_at_zero, read_before_given (the link rule); accepted_replies, unanswered_comes_after_all;
-- begins_write_none, steps_write_eleven, withdraws_write_none, withdrawn_wrote_none (what alters the map). Merges has
-- those of merges that fit, Maps those of maps.
pub mod Merges
pub mod Maps
use mathlib.Core.Path.{◌≡◌, refl, sym, ap, ◌∙◌}
use mathlib.Core.Bool.{Bool, true, false, cond, ◌&&◌, or-false}
use mathlib.Core.List.{List, [], ◌∷◌, map}
use mathlib.Core.Option.{Option, none, some}
use Prim.Native.Nat.{ℕ}
use lib.Dec.{eqb, ltb}
use Rattle.std.specs.Prelude.{Ok, Err}
use Rattle.model.specs.declared.Refusal.{Refusal}
use Rattle.model.specs.declared.Operation.{Operation}
use Rattle.model.specs.declared.Operation.TheVariants as Operation
use Rattle.model.specs.declared.OperationAnswer.{OperationAnswer}
use Rattle.model.specs.declared.OperationAnswer.TheVariants as OperationAnswer
use Rattle.model.specs.declared.Restructuring.{Restructuring}
use Rattle.model.specs.declared.StepAnswer.{StepAnswer}
use Rattle.model.specs.declared.StepAnswer.TheVariants as StepAnswer
use Rattle.model.specs.Answers.{answer_number, found_or_absent, performs, setting_found, same_answer, StepReply}
use Rattle.model.specs.Runs.{begin_for, step_for, withdraw_for, Reply, to_step, to_withdraw}
use Rattle.model.specs.Book.{Value, contents_at_eleven}
use Rattle.model.specs.Entries.{setting_in, ascending}
use Rattle.theory.specs.PlainMap.{PlainMap, plain_answer, plain_after, may_lack_pages, is_no_page, answers_as_map}
use Rattle.theory.specs.Links.{Clock, clock_start, follow, all_fresh}
use Rattle.theory.specs.Singly.{Wanted, answers_as_maps}
use Rattle.theory.specs.Linearization.{is_before}
use Rattle.theory.specs.Reads.{is_accepted}
use Rattle.theory.specs.NoPage.{is_writing}
use Rattle.theory.specs.Withdrawals.{writes_map, unwritten}
use Rattle.model.proofs.Laws.Entries.{is_in, has_setting}
use Rattle.model.proofs.Laws.Changes.{setting_after, setting_eleven, ascends_eleven}

-- The six answers, in the order of their numbers, found with the setting y.
abbrev pub answers_with : Value → List OperationAnswer
answers_with y = OperationAnswer.Inserted ∷ OperationAnswer.Present ∷ OperationAnswer.Deleted ∷ OperationAnswer.Absent ∷ OperationAnswer.NoPage ∷ OperationAnswer.Found y ∷ []

-- Which of them a plain map may give to an operation, by the setting that it has for the key: found with that setting
-- alone.
abbrev pub allowed : Operation → Option Value → Value → List Bool
allowed Operation.Find (some x) y = false ∷ false ∷ false ∷ false ∷ false ∷ eqb y x ∷ []
allowed Operation.Find none y = false ∷ false ∷ false ∷ true ∷ false ∷ false ∷ []
allowed (Operation.Insert z) (some x) y = false ∷ true ∷ false ∷ false ∷ false ∷ false ∷ []
allowed (Operation.Insert z) none y = true ∷ false ∷ false ∷ false ∷ true ∷ false ∷ []
allowed Operation.Delete (some x) y = false ∷ false ∷ true ∷ false ∷ true ∷ false ∷ []
allowed Operation.Delete none y = false ∷ false ∷ false ∷ true ∷ false ∷ false ∷ []

pub answers_allowed : (s : PlainMap) (o : Operation) (k : ℕ) (there : Option Value) (y : Value) → setting_in k s ≡ there → map (answers_as_map s o k) (answers_with y) ≡ allowed o there y
unfolding answers_as_map plain_answer may_lack_pages is_no_page same_answer found_or_absent answer_number setting_found
answers_allowed s Operation.Find k (some x) y e = rw e (ap (λ b. false ∷ false ∷ false ∷ false ∷ false ∷ b ∷ []) (or-false (eqb y x)))
answers_allowed s Operation.Find k none y e = rw e refl
answers_allowed s (Operation.Insert z) k (some x) y e = rw (sym (has_setting k s) ∙ ap is_in e) refl
answers_allowed s (Operation.Insert z) k none y e = rw (sym (has_setting k s) ∙ ap is_in e) refl
answers_allowed s Operation.Delete k (some x) y e = rw (sym (has_setting k s) ∙ ap is_in e) refl
answers_allowed s Operation.Delete k none y e = rw (sym (has_setting k s) ∙ ap is_in e) refl

-- What an operation leaves: it is what the book's 11 makes of its map. Its own key keeps the setting that is there, or
-- an insert adds its own, or a delete takes it (setting_after); every other key has what it had; and the keys still
-- ascend.
pub plain_eleven : (s : PlainMap) (o : Operation) (k : ℕ) → plain_after s o k ≡ contents_at_eleven o k s
unfolding plain_after contents_at_eleven
plain_eleven s Operation.Find k = refl
plain_eleven s (Operation.Insert x) k = refl
plain_eleven s Operation.Delete k = refl

pub plain_setting : (s : PlainMap) (o : Operation) (k j : ℕ) → setting_in j (plain_after s o k) ≡ cond (eqb j k) (setting_after o (setting_in k s)) (setting_in j s)
plain_setting s o k j = ap (setting_in j) (plain_eleven s o k) ∙ setting_eleven o k s j

pub plain_ascends : (s : PlainMap) (o : Operation) (k : ℕ) → ascending s ≡ true → ascending (plain_after s o k) ≡ true
plain_ascends s o k a = rw (plain_eleven s o k) (ascends_eleven o k s a)

-- An operation run singly ends done: any other last reply is no answer of a plain map.
pub other_replies_refused :
    (s : PlainMap) (x : Wanted) (xs : List Wanted) (rest : List StepReply) (n : Refusal)
    → map (λ a. answers_as_maps s (x ∷ xs) (a ∷ rest)) (Ok StepAnswer.Waiting ∷ Ok StepAnswer.Moved ∷ Err n ∷ []) ≡ false ∷ false ∷ false ∷ []
unfolding answers_as_maps
other_replies_refused s x xs rest n = refl

-- There are as many answers as operations.
pub lengths_agree : (s : PlainMap) (x : Wanted) (xs : List Wanted) (a : StepReply) (rest : List StepReply) → (answers_as_maps s (x ∷ xs) [] ≡ false) × (answers_as_maps s [] (a ∷ rest) ≡ false)
unfolding answers_as_maps
lengths_agree s x xs a rest = (refl, refl)

-- At first no link is read and no page given back.
pub clock_starts_at_zero :
    (n : ℕ) → clock_start.calls ∷ clock_start.scratch_read n ∷ clock_start.old_read n ∷ clock_start.given_at n ∷ [] ≡ 0 ∷ 0 ∷ 0 ∷ 0 ∷ []
unfolding clock_start
clock_starts_at_zero n = refl

-- A link to a page that was given back in the call that read it, or later, is stale.
pub read_before_given : (k : Clock) (t x : ℕ) → ltb (k.given_at x) t ≡ false → all_fresh k (follow t x ∷ []) ≡ false
unfolding all_fresh
read_before_given k t x h = rw h refl

-- A reply is accepted if it is no refusal.
pub accepted_replies :
    (a : OperationAnswer) (r : Restructuring) (n : Refusal)
    → map is_accepted (Ok StepAnswer.Waiting ∷ Ok StepAnswer.Moved ∷ Ok (StepAnswer.Done a r) ∷ Err n ∷ []) ≡ true ∷ true ∷ true ∷ false ∷ []
unfolding is_accepted
accepted_replies a r n = refl

-- Every call comes before an end that has not come.
pub unanswered_comes_after_all : (j : ℕ) → is_before j none ≡ true
unfolding is_before
unanswered_comes_after_all j = refl

-- No begin alters the map, and no withdraw; a step does where it is an 11 performed, and then only.
pub begins_write_none : (q : ℕ) (o : Operation) (k number : ℕ) (r : Reply) → writes_map (begin_for q o k) number r ≡ false
unfolding writes_map
begins_write_none q o k number r = refl

pub steps_write_eleven : (q number : ℕ) (a : StepReply) → writes_map (step_for q) number (to_step a) ≡ (performs a && eqb number 11)
unfolding writes_map is_writing
steps_write_eleven q number a = refl

pub withdraws_write_none : (q number : ℕ) (r : Reply) → writes_map (withdraw_for q) number r ≡ false
unfolding writes_map
withdraws_write_none q number r = refl

-- An operation that has performed an 11 is not withdrawn.
pub withdrawn_wrote_none : (w : ℕ → Bool) (q : ℕ) → w q ≡ true → unwritten w (withdraw_for q) (to_withdraw (Ok tt)) ≡ false
unfolding unwritten
withdrawn_wrote_none w q h = rw h refl
