-- Definitions that the demands could lose unseen, said once more in other words: parts of the book and of the link rule that only forbid, what steps and yardstick share, the record's words,
-- and numbers of answers.
-- Main statements: unentered_refused, unnoted_refused (the book); grown_owes, not_grown_owes-none, emptied_owes (what is owed); few_fit, more_do_not_fit (a merge); idle-zero, begun_zeroes,
-- update_alone (a party's record); find_given, insert_given, delete_given, found_carries, others_carry_none (settings); begin_by_cause, format_by_cause, withdraw_by_cause (what refused calls
-- answer); numbers_of_causes, refused_number, accepted_number, damage_is_six, restructurings_in_order (numbers of answers); decided_find, decided_insert, decided_delete (the decisive step taken).
use mathlib.Core.Path.{◌≡◌, refl, sym}
use mathlib.Core.Bool.{true, false, or-false}
use mathlib.Core.List.{List, [], ◌∷◌, ◌++◌, map}
use mathlib.Core.Option.{none}
use Prim.Native.Nat.{ℕ, ◌≤◌, ◌<◌}
use native.Mathlib.Omega.{arith}
use lib.ListN.{length, replicate, set}
use lib.Dec.{eqb, leb}
use borrow.Author.Tests.{ne_eqb, lt-ltb, le-ltb, le-leb, lt-leb}
use Rattle.std.specs.Prelude.{Ok, Err}
use Rattle.model.specs.declared.Refusal.{Refusal}
use Rattle.model.specs.declared.Party.{Party}
use Rattle.model.specs.declared.OperationAnswer.{OperationAnswer}
use Rattle.model.specs.declared.Operation.{Operation}
use Rattle.model.specs.declared.Restructuring.TheVariants as Restructuring
use Rattle.model.specs.Records.{root_of_sizes, idle, begun, at_step, with_lev, with_chain, with_other, with_old, with_owed, with_answer}
use Rattle.model.specs.Answers.{answer_of, setting_given, setting_found, restructuring_number, CallReply, cause_number, is_damage, refusal_number}
use Rattle.model.specs.declared.Entry.{Entry}
use Rattle.model.specs.Entries.{is_empty}
use Rattle.model.specs.Filling.{fits_primary}
use Rattle.model.specs.Steps.Rebuild.{split_owed, merge_owed}
use Rattle.model.specs.Memory.{Memory, formatted}
use Rattle.model.specs.Refusals.{first_cause, format_rows, begin_rows, withdraw_rows}
use Rattle.model.specs.Withdraw.{is_decided}
use Rattle.model.specs.Calls.{called, unless_refused, with_begun, format_call, begin_call, withdraw_call}
use Rattle.model.specs.Book.{is_note, is_note_of}
use Rattle.model.proofs.Laws.Lists.{cond_ind, Numbered, ◌▸◌}

-- An answer to an operation that was not entered, or that has no note yet, does not agree.
pub unentered_refused : (a : OperationAnswer) → is_note_of a none ≡ false
unfolding is_note_of
unentered_refused a = refl

pub unnoted_refused : (a : OperationAnswer) → is_note a none ≡ false
unfolding is_note
unnoted_refused a = refl

-- A split is owed exactly where there are more overflow pages than before.
pub grown_owes : (before after : ℕ) → before < after → split_owed before after ≡ true
unfolding split_owed
grown_owes before after h = lt-ltb before after h

pub not_grown_owes-none : (before after : ℕ) → after ≤ before → split_owed before after ≡ false
unfolding split_owed
not_grown_owes-none before after h = le-ltb before after h

-- A merge is owed exactly where no record is left.
pub emptied_owes : (es : List Entry) → merge_owed es ≡ eqb (length es) 0
unfolding merge_owed is_empty
emptied_owes [] = refl
emptied_owes (e ∷ es) = sym (ne_eqb (length (e ∷ es)) 0 (λ z. omega arith))

-- Records fit the primary page exactly where there are no more than b.
pub few_fit : (b : ℕ) (es : List Entry) → length es ≤ b → fits_primary b es ≡ true
unfolding fits_primary
few_fit b es h = le-leb (length es) b h

pub more_do_not_fit : (b : ℕ) (es : List Entry) → b < length es → fits_primary b es ≡ false
unfolding fits_primary
more_do_not_fit b es h = lt-leb (length es) b h

-- The ten words of a party's record: all zero where nobody is under way; operation, key, step 1, six zeros and the setting where an operation has begun.
abbrev pub words : Party → List ℕ
words p = p.operation ∷ p.key ∷ p.step ∷ p.lev ∷ p.chain ∷ p.other ∷ p.old ∷ p.owed ∷ p.answer ∷ p.setting ∷ []

pub idle-zero : words idle ≡ replicate 10 0
idle-zero = refl

pub begun_zeroes : (operation key setting : ℕ) → words (begun operation key setting) ≡ operation ∷ key ∷ 1 ∷ (replicate 6 0 ++ (setting ∷ []))
begun_zeroes operation key setting = refl

-- A find and a delete have setting 0, an insert the one given: what a begin puts into the record's last word.
pub find_given : setting_given Operation.Find ≡ 0
unfolding setting_given
find_given = refl

pub insert_given : (x : ℕ) → setting_given (Operation.Insert x) ≡ x
unfolding setting_given
insert_given x = refl

pub delete_given : setting_given Operation.Delete ≡ 0
unfolding setting_given
delete_given = refl

-- No answer that a record may hold carries a setting; found carries its own.
pub found_carries : (x : ℕ) → setting_found (OperationAnswer.Found x) ≡ x
unfolding setting_found
found_carries x = refl

pub others_carry_none : (n : ℕ) → setting_found (answer_of n) ≡ 0
unfolding setting_found answer_of
others_carry_none n =
    cond_ind (λ (a : OperationAnswer). setting_found a ≡ 0) (eqb n 1) _ _ (λ _. refl)
    (λ _. cond_ind (λ (a : OperationAnswer). setting_found a ≡ 0) (eqb n 2) _ _ (λ _. refl)
    (λ _. cond_ind (λ (a : OperationAnswer). setting_found a ≡ 0) (eqb n 3) _ _ (λ _. refl)
    (λ _. cond_ind (λ (a : OperationAnswer). setting_found a ≡ 0) (eqb n 4) _ _ (λ _. refl) (λ _. refl))))

-- Each update of a record alters its own word alone, from the third word to the ninth.
pub update_alone :
    Numbered (λ n f. (x : ℕ) (p : Party) → words (f x p) ≡ set (words p) n x) 2 (at_step ∷ with_lev ∷ with_chain ∷ with_other ∷ with_old ∷ with_owed ∷ with_answer ∷ [])
update_alone = (λ x p. refl) ▸ (λ x p. refl) ▸ (λ x p. refl) ▸ (λ x p. refl) ▸ (λ x p. refl) ▸ (λ x p. refl) ▸ (λ x p. refl) ▸ tt

-- What a call that its first cause refuses, or lets through, answers.
unless_by_cause : (m : Memory) (x : CallReply) (then : Memory) → (unless_refused m x (called (Ok tt) then)).answer ≡ x
unless_by_cause m (Ok _) then = refl
unless_by_cause m (Err c) then = refl

-- A begin and a format answer the first cause that they meet, or that they meet none.
pub begin_by_cause : (m : Memory) (q : ℕ) (o : Operation) (k : ℕ) → (begin_call m q o k).answer ≡ first_cause (begin_rows m q)
unfolding begin_call
begin_by_cause m q o k = unless_by_cause m (first_cause (begin_rows m q)) (with_begun m q o k)

pub format_by_cause : (m : Memory) (n b p v q : ℕ) → (format_call m n b p v q).answer ≡ first_cause (format_rows (root_of_sizes n b p v q) m)
unfolding format_call
format_by_cause m n b p v q = unless_by_cause m (first_cause (format_rows (root_of_sizes n b p v q) m)) (formatted (root_of_sizes n b p v q))

-- A withdraw that meets a cause answers the first; one that meets none may still find damage of its own.
pub withdraw_by_cause : (m : Memory) (q : ℕ) (c : Refusal) → first_cause (withdraw_rows m q) ≡ Err c → (withdraw_call m q).answer ≡ Err c
unfolding withdraw_call
withdraw_by_cause m q c e = rw e refl

-- The number of each cause, and of a call: 0 where it is not refused.
pub numbers_of_causes :
    map cause_number (Refusal.Length ∷ Refusal.Size ∷ Refusal.Party ∷ Refusal.Busy ∷ Refusal.Idle ∷ Refusal.Damage ∷ Refusal.Decided ∷ Refusal.Unsaved ∷ [])
    ≡ 1 ∷ 2 ∷ 3 ∷ 4 ∷ 5 ∷ 6 ∷ 7 ∷ 8 ∷ []
unfolding cause_number
numbers_of_causes = refl

pub refused_number : (A : Type 0) (c : Refusal) → refusal_number {A = A} (Err c) ≡ cause_number c
unfolding refusal_number
refused_number A c = refl

pub accepted_number : {A : Type 0} (a : A) → refusal_number (Ok a) ≡ 0
unfolding refusal_number
accepted_number a = refl

-- Damage is the cause with number 6, and no other.
pub damage_is_six : (c : Refusal) → is_damage c ≡ eqb (cause_number c) 6
unfolding is_damage cause_number
damage_is_six Refusal.Size = refl
damage_is_six Refusal.Length = refl
damage_is_six Refusal.Unsaved = refl
damage_is_six Refusal.Party = refl
damage_is_six Refusal.Busy = refl
damage_is_six Refusal.Idle = refl
damage_is_six Refusal.Decided = refl
damage_is_six Refusal.Damage = refl

-- The decisive step is taken: "a find at 9, a change at 12 or later".
pub decided_find : (p : Party) → p.operation ≡ 1 → is_decided p ≡ eqb p.step 9
unfolding is_decided
decided_find p e = rw (e, or-false (eqb p.step 9)) refl

pub decided_insert : (p : Party) → p.operation ≡ 2 → is_decided p ≡ leb 12 p.step
unfolding is_decided
decided_insert p e = rw e refl

pub decided_delete : (p : Party) → p.operation ≡ 3 → is_decided p ≡ leb 12 p.step
unfolding is_decided
decided_delete p e = rw e refl

-- The restructurings are numbered from 0, in this order.
pub restructurings_in_order :
    map restructuring_number (Restructuring.None ∷ Restructuring.Split ∷ Restructuring.SplitSkipped ∷ Restructuring.Merged ∷ Restructuring.MergeSkipped ∷ []) ≡ 0 ∷ 1 ∷ 2 ∷ 3 ∷ 4 ∷ []
unfolding restructuring_number
restructurings_in_order = refl
