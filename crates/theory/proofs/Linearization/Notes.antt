-- The book's notes at 6, 10 and 11 are answers of the plain map that its contents are, and the contents after them are
-- what that map becomes.
-- Main statements: map_of; six_plain, six_left, ten_plain, ten_left, eleven_plain, eleven_left; ten_decides, eleven_decides
-- (the decisive step); noted_elsewhere, noted_contents, noted_own (what a note leaves); after_six, after_ten, after_eleven
-- (the book then); note_is_answer.
use mathlib.Core.Path.{◌≡◌, refl, sym, ap, subst}
use mathlib.Core.Logic.{◌≢◌}
use mathlib.Core.Bool.{Bool, true, false, false≢true}
use mathlib.Core.Option.{Option, none, some}
use Prim.Native.Nat.{ℕ}
use lib.Dec.{eqb}
use Rattle.model.specs.declared.Operation.{Operation}
use Rattle.model.specs.declared.OperationAnswer.{OperationAnswer}
use Rattle.model.specs.Answers.{answer_number, found_or_absent, same_answer, setting_found}
use Rattle.model.specs.Entries.{has_key, setting_in}
use Rattle.model.specs.Book.{Value, Entered, Book, changed_at, with_entry, with_contents, noted, note_at_six, note_at_ten, note_at_eleven, contents_at_eleven, noted_if_find, note_step, note_for, is_note}
use Rattle.theory.specs.PlainMap.{PlainMap, plain_answer, plain_after, may_lack_pages, is_no_page, answers_as_map, map_left_by}
use Rattle.model.specs.Steps.Write.{is_change}
use Rattle.theory.specs.Linearization.{decisive_step}
use Rattle.model.proofs.Laws.Lists.{cond_ind, eqb-diff, left_or}
use Rattle.model.proofs.Invariant.Facts.{changed_here, changed_elsewhere}
use Rattle.model.proofs.Laws.Answers.{same_answer_lem, answers_same}
use Rattle.model.proofs.Laws.Changes.{removed_absent}

-- The book's map.
abbrev pub map_of : Book → PlainMap
map_of b = b.contents

-- ---- 6 of a find

pub six_plain : (s : PlainMap) (k : ℕ) → answers_as_map s Operation.Find k (found_or_absent (setting_in k s)) ≡ true
unfolding answers_as_map plain_answer
six_plain s k = left_or _ (same_answer_lem (found_or_absent (setting_in k s)))

pub six_left : (s : PlainMap) (k : ℕ) (x : Option Value) → map_left_by s Operation.Find k (found_or_absent x) ≡ s
unfolding map_left_by plain_after is_no_page answer_number found_or_absent
six_left s k none = refl
six_left s k (some x) = refl

-- ---- 10

pub ten_plain : (s : PlainMap) (o : Operation) (k : ℕ) (t : Bool) → o ≢ Operation.Find → has_key k s ≡ t → answers_as_map s o k (note_at_ten o t) ≡ true
unfolding answers_as_map plain_answer may_lack_pages is_no_page note_at_ten same_answer answer_number setting_found
ten_plain s Operation.Find k t n h = absurd (n refl)
ten_plain s (Operation.Insert x) k true n h = rw h refl
ten_plain s (Operation.Insert x) k false n h = rw h refl
ten_plain s Operation.Delete k true n h = rw h refl
ten_plain s Operation.Delete k false n h = rw h refl

pub ten_left : (s : PlainMap) (o : Operation) (k : ℕ) (t : Bool) → o ≢ Operation.Find → has_key k s ≡ t → s ≡ map_left_by s o k (note_at_ten o t)
unfolding map_left_by plain_after is_no_page note_at_ten answer_number
ten_left s Operation.Find k t n h = absurd (n refl)
ten_left s (Operation.Insert x) k true n h = rw h refl
ten_left s (Operation.Insert x) k false n h = refl
ten_left s Operation.Delete k true n h = refl
ten_left s Operation.Delete k false n h = sym (removed_absent k s h)

pub ten_decides : (o : Operation) (t : Bool) → o ≢ Operation.Find → decisive_step o (note_at_ten o t) ≡ 10
unfolding decisive_step note_at_ten is_change answer_number
ten_decides Operation.Find t n = absurd (n refl)
ten_decides (Operation.Insert x) true n = refl
ten_decides (Operation.Insert x) false n = refl
ten_decides Operation.Delete true n = refl
ten_decides Operation.Delete false n = refl

-- ---- 11

pub eleven_plain : (s : PlainMap) (o : Operation) (k : ℕ) (t : Bool) → o ≢ Operation.Find → has_key k s ≡ t → answers_as_map s o k (note_at_eleven o t) ≡ true
unfolding answers_as_map plain_answer note_at_eleven same_answer answer_number setting_found
eleven_plain s Operation.Find k t n h = absurd (n refl)
eleven_plain s (Operation.Insert x) k true n h = rw h refl
eleven_plain s (Operation.Insert x) k false n h = rw h refl
eleven_plain s Operation.Delete k true n h = rw h refl
eleven_plain s Operation.Delete k false n h = rw h refl

-- What the book has after 11 is what a plain map has.
pub eleven_left : (s : PlainMap) (k : ℕ) (o : Operation) (t : Bool) → o ≢ Operation.Find → contents_at_eleven o k s ≡ map_left_by s o k (note_at_eleven o t)
unfolding map_left_by plain_after is_no_page note_at_eleven contents_at_eleven answer_number
eleven_left s k Operation.Find t n = absurd (n refl)
eleven_left s k (Operation.Insert x) true n = refl
eleven_left s k (Operation.Insert x) false n = refl
eleven_left s k Operation.Delete true n = refl
eleven_left s k Operation.Delete false n = refl

-- An insert's or delete's note at 11, where it is a change made, is decided there.
pub eleven_decides : (o : Operation) (a : OperationAnswer) → o ≢ Operation.Find → is_change (answer_number a) ≡ true → decisive_step o a ≡ 11
unfolding decisive_step
eleven_decides Operation.Find a n h = absurd (n refl)
eleven_decides (Operation.Insert x) a n h = rw h refl
eleven_decides Operation.Delete a n h = rw h refl

-- ---- What a step leaves of the book

module _ (b : Book) (q : ℕ) where
  noted_at_six : (e : Entered) (x : Option OperationAnswer) (p : ℕ) → p ≢ q → (noted_if_find b q e x).entries p ≡ b.entries p
  unfolding noted_if_find
  noted_at_six e none p d = refl
  noted_at_six e (some a) p d = changed_elsewhere b.entries q _ p d

  six_contents : (e : Entered) (x : Option OperationAnswer) → (noted_if_find b q e x).contents ≡ b.contents
  unfolding noted_if_find
  six_contents e none = refl
  six_contents e (some a) = refl

  -- Other parties' entries stay.
  pub noted_elsewhere : (x : Option Entered) (n p : ℕ) → p ≢ q → (note_for b q x n).entries p ≡ b.entries p
  unfolding note_for note_step
  noted_elsewhere none n p d = refl
  noted_elsewhere (some e) n p d =
      cond_ind (λ (c : Book). c.entries p ≡ b.entries p) (eqb n 6) _ _ (λ _. noted_at_six e _ p d)
      (λ _. cond_ind (λ (c : Book). c.entries p ≡ b.entries p) (eqb n 10) _ _ (λ _. changed_elsewhere b.entries q _ p d)
      (λ _. cond_ind (λ (c : Book). c.entries p ≡ b.entries p) (eqb n 11) _ _ (λ _. changed_elsewhere b.entries q _ p d) (λ _. refl)))

  -- So does the map, but at 11.
  pub noted_contents : (x : Option Entered) (n : ℕ) → n ≢ 11 → (note_for b q x n).contents ≡ b.contents
  unfolding note_for note_step
  noted_contents none n h = refl
  noted_contents (some e) n h =
      rw (eqb-diff n 11 h)
      (cond_ind (λ (c : Book). c.contents ≡ b.contents) (eqb n 6) _ _ (λ _. six_contents e _)
      (λ _. cond_ind (λ (c : Book). c.contents ≡ b.contents) (eqb n 10) _ _ (λ _. refl) (λ _. refl)))

  module _ (e : Entered) (entry : b.entries q ≡ some e) where
    -- The party's own entry keeps operation and key.
    pub record Kind (x : Option Entered) : Type 0 where
      pub entered : Entered
      pub is : x ≡ some entered
      pub operation= : entered.operation ≡ e.operation
      pub key= : entered.key ≡ e.key

    noted_kind : (a : OperationAnswer) → Kind (changed_at b.entries q (some (noted e a)) q)
    noted_kind a = record { entered = noted e a; is = changed_here b.entries q (some (noted e a)) q refl; operation= = refl; key= = refl }

    six_kind : (x : Option OperationAnswer) → Kind ((noted_if_find b q e x).entries q)
    unfolding noted_if_find
    six_kind none = record { entered = e; is = entry; operation= = refl; key= = refl }
    six_kind (some a) = noted_kind a

    step_kind : (n : ℕ) → Kind ((note_step b q e n).entries q)
    unfolding note_step
    step_kind n =
        cond_ind (λ (c : Book). Kind (c.entries q)) (eqb n 6) _ _ (λ _. six_kind _)
        (λ _. cond_ind (λ (c : Book). Kind (c.entries q)) (eqb n 10) _ _ (λ _. noted_kind _)
        (λ _. cond_ind (λ (c : Book). Kind (c.entries q)) (eqb n 11) _ _ (λ _. noted_kind _)
        (λ _. record { entered = e; is = entry; operation= = refl; key= = refl })))

    pub noted_own : (n : ℕ) → Kind ((note_for b q (b.entries q) n).entries q)
    unfolding note_for
    noted_own n = subst (λ (x : Option Entered). Kind ((note_for b q x n).entries q)) (sym entry) (step_kind n)

    abbrev there : Bool
    there = has_key e.key b.contents

    -- The books after 6 of a find, 10 and 11.
    pub after_six : e.operation ≡ Operation.Find
        → note_for b q (b.entries q) 6 ≡ with_entry b q (some (noted e (found_or_absent (setting_in e.key b.contents))))
    unfolding note_for note_step noted_if_find note_at_six
    after_six h = rw (entry, h) refl

    pub after_ten : note_for b q (b.entries q) 10 ≡ with_entry b q (some (noted e (note_at_ten e.operation there)))
    unfolding note_for note_step
    after_ten = rw entry refl

    pub after_eleven : note_for b q (b.entries q) 11
        ≡ with_contents (with_entry b q (some (noted e (note_at_eleven e.operation there)))) (contents_at_eleven e.operation e.key b.contents)
    unfolding note_for note_step
    after_eleven = rw entry refl

-- The note that an answer was compared with is the answer.
pub note_is_answer : (a : OperationAnswer) (x : Option OperationAnswer) → is_note a x ≡ true → x ≡ some a
unfolding is_note
note_is_answer a none h = absurd (false≢true h)
note_is_answer a (some n) h = ap some (sym (answers_same a n h))
