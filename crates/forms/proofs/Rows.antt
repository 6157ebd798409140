-- A row of the table tried: its pattern matched, or the next row goes on.
-- Main statements: no_row, row_taken (rows without numbers); no_match, answer_taken, answer_told; done_taken, done_left.
use mathlib.Core.Path.{◌≡◌, refl, sym, ap, ◌∙◌}
use mathlib.Core.Bool.{true, false}
use mathlib.Core.List.{List, []}
use Prim.Native.Nat.{ℕ, ◌-◌, ◌≤◌}
use native.Mathlib.Omega.{arith}
use lib.ListN.{length, get_or, drop}
use Rattle.model.specs.declared.OperationAnswer.{OperationAnswer}
use Rattle.patterns.specs.declared.Match.{Match}
use Rattle.patterns.specs.Patterns.{Matching, no, yes, matched, padded, match_from}
use Rattle.patterns.proofs.Matching.{EndOf, match_rest_lem, end_from, end_later}
use Rattle.std.specs.Prelude.{Option, None, Some, is_some}
use Rattle.forms.specs.Replies.{step_done, found_answer, answer_pattern}
use Rattle.forms.specs.Reading.{or_else, AnswerAt, none, at, or_next, answer_in, found_in, read_answer, answer_read, done_from, done_after, read_done}

-- A row without numbers: it is left where there are none, else it is taken.
pub no_row : {o r : Option (List ℕ)} → r ≡ o → false ≡ is_some r → o ≡ None
no_row {r = None} e t = sym e
no_row {r = Some ns} e t = cc

pub row_taken : {A : Type 0} {o r : Option (List ℕ)} (x other : A) → r ≡ o → true ≡ is_some r → x ≡ or_else o (λ ns. x) other
unfolding or_else
row_taken {r = None} x other e t = cc
row_taken {r = Some ns} x other e t = rw (sym e)

-- ---- A step that is done, in parts

pub no_match : (n : ℕ) (m : Matching) → None ≡ matched n m → m ≡ no
unfolding matched
no_match n no e = refl
no_match n (yes ns rest) e = cc

pub answer_taken : (n : ℕ) (m : Matching) (f : List ℕ → OperationAnswer) (other : AnswerAt) {found : Match} → Some found ≡ matched n m
    → Some (f found.numbers, found.next) ≡ answer_read n (or_next m f other)
unfolding or_next answer_read matched
answer_taken n no f other e = cc
answer_taken n (yes ns rest) f other {found} e =
    let numbers : found.numbers ≡ padded ns = cc in
    let next : found.next ≡ n - length rest = cc in
    rw (numbers, next)

-- What an answer leaves is the end of the line.
answer_rest_lem : (p : List ℕ) (f : List ℕ → OperationAnswer) (l : List ℕ) (other : AnswerAt) (b : OperationAnswer) (rest : List ℕ) → (other ≡ at b rest → EndOf l rest)
    → or_next (match_from p [] l) f other ≡ at b rest → EndOf l rest
unfolding or_next
answer_rest_lem p f l other b rest next = go (match_from p [] l) refl
  where
    go : (mm : Matching) → match_from p [] l ≡ mm → or_next mm f other ≡ at b rest → EndOf l rest
    go no q e = next e
    go (yes ns r) q e = match_rest_lem p [] l ns rest (q ∙ cc)

pub read_answer_rest : (l : List ℕ) (b : OperationAnswer) (rest : List ℕ) → read_answer l ≡ at b rest → EndOf l rest
unfolding read_answer found_in answer_in
read_answer_rest l b rest =
    answer_rest_lem found_answer _ l _ b rest
    (answer_rest_lem (answer_pattern OperationAnswer.Absent) _ l _ b rest
    (answer_rest_lem (answer_pattern OperationAnswer.Inserted) _ l _ b rest
    (answer_rest_lem (answer_pattern OperationAnswer.Present) _ l _ b rest
    (answer_rest_lem (answer_pattern OperationAnswer.Deleted) _ l _ b rest
    (answer_rest_lem (answer_pattern OperationAnswer.NoPage) _ l none b rest (λ e. absurd (let z : ◌≡◌ {A = ℕ} 0 1 = cc in omega arith)))))))

told_answer : (n : ℕ) (s : AnswerAt) (a : OperationAnswer) (next : ℕ) → Some (a, next) ≡ answer_read n s → (rest : List ℕ) × (s ≡ at a rest) × (next ≡ n - length rest)
unfolding answer_read
told_answer n none a next e = cc
told_answer n (at b rest) a next e =
    let same : (a, next) ≡ (b, n - length rest) = cc in
    (rest, ap (λ (p : OperationAnswer × ℕ). at p.0 rest) (sym same), ap (λ (p : OperationAnswer × ℕ). p.1) same)

-- The code's answer tells the answer at place j and the place behind it.
pub answer_told : (l : List ℕ) (j : ℕ) (a : OperationAnswer) (next : ℕ) → j ≤ length l → Some (a, next) ≡ answer_read (length l) (read_answer (drop j l))
    → (read_answer (drop j l) ≡ at a (drop next l)) × (next ≤ length l)
answer_told l j a next h e =
    let told = told_answer (length l) (read_answer (drop j l)) a next e in
    let left = end_from l told.0 (end_later l told.0 j h (read_answer_rest (drop j l) a told.0 told.1)) in
    let same : drop next l ≡ told.0 = ap (λ (m : ℕ). drop m l) told.2 ∙ left.0 in
    (rw same told.1, omega (arith, told.2))

pub no_answer_told : (n : ℕ) (s : AnswerAt) → None ≡ answer_read n s → s ≡ none
unfolding answer_read
no_answer_told n none e = refl
no_answer_told n (at b rest) e = cc

-- The part before the answer.
pub done_left : (l : List ℕ) → None ≡ matched (length l) (match_from step_done [] l) → read_done l ≡ None
unfolding read_done done_after
done_left l e = rw (no_match (length l) (match_from step_done [] l) e)

pub done_taken : (l : List ℕ) {found : Match} → Some found ≡ matched (length l) (match_from step_done [] l)
    → (read_done l ≡ done_from (get_or found.numbers 0 0) (read_answer (drop found.next l))) × (found.next ≤ length l)
unfolding read_done done_after matched
done_taken l {found} e = go (match_from step_done [] l) refl e
  where
    go : (mm : Matching) → match_from step_done [] l ≡ mm → Some found ≡ matched (length l) mm → (done_after mm ≡ done_from (get_or found.numbers 0 0) (read_answer (drop found.next l))) × (found.next ≤ length l)
    go no p q = cc
    go (yes ns rest) p q =
        let left = end_from l rest (match_rest_lem step_done [] l ns rest p) in
        let next : found.next ≡ length l - length rest = cc in
        let there : drop found.next l ≡ rest = ap (λ (k : ℕ). drop k l) next ∙ left.0 in
        let numbers : found.numbers ≡ padded ns = cc in
        (rw (there, numbers) refl, omega (arith, next))
