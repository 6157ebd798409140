-- The words for an operation's answer and for a restructuring: found has its setting, no number is in the others; they are short and no digit begins them.
-- Main statements: answer_short, restructuring_short, tail_holes, tail_plain, restructuring_stops; done_text, done_pieces (a step that is done, printed in parts);
-- format_text, begin_text, withdraw_text, take_up_text (other replies in parts);
-- answer_complete, answer_sound, restructuring_complete, restructuring_sound (the words are read as they are derived, and nothing else is).
use mathlib.Core.Path.{◌≡◌, refl, sym, ap, ◌∙◌, subst}
use mathlib.Core.Bool.{Bool, true, false}
use mathlib.Core.List.{List, [], ◌∷◌, ◌++◌, append_assoc, append-nil}
use Prim.Native.Nat.{ℕ, ◌+◌, ◌≤◌}
use native.Mathlib.Omega.{arith}
use lib.ListN.{length, get_or}
use lib.Dec.{lit≤}
use Rattle.model.specs.declared.OperationAnswer.{OperationAnswer}
use Rattle.model.specs.declared.Restructuring.{Restructuring}
use Rattle.model.specs.declared.StepAnswer.TheVariants as StepAnswer
use Rattle.std.specs.Prelude.{Option, None, Some, Ok, Err}
use Rattle.patterns.specs.Texts.{bytes}
use Rattle.patterns.specs.Numbers.{is_digit, decimal}
use Rattle.patterns.specs.Patterns.{Matching, no, yes, and_then, byte_in, symbol_in, match_from, to_end, padded, filled, symbol_text, numbers_after}
use Rattle.patterns.specs.Grammar.{Derives, holes, plain}
use Rattle.patterns.proofs.Numerals.{stops}
use Rattle.patterns.proofs.Theorems.{filled_append, filled_literal, filled_short, longest, literal_line, match_complete, match_sound, derives_holes}
use Rattle.forms.specs.declared.Reply.TheVariants as Reply
use Rattle.forms.specs.Replies.{step_done, found_answer, answer_pattern, answer_numbers, answer_text, restructuring_text, Outcome, format_pattern, begin_pattern, withdraw_pattern, take_up_pattern, outcome_numbers, outcome_text, step_pattern, step_numbers, reply_pattern, reply_numbers, reply_text}
use Rattle.forms.specs.Reading.{or_else, wholly, numbers_of, AnswerAt, none, at, or_next, answer_in, found_in, read_answer, restructuring_in, read_restructuring}
use Rattle.forms.proofs.StepLine.{step_text}
use Rattle.forms.proofs.Table.{row_sound_lem, no_number, one_number}

-- ---- How long the words are, and their numbers

pub answer_short : (a : OperationAnswer) → length (answer_text a) ≤ 19
unfolding answer_text longest
answer_short (OperationAnswer.Found x) = filled_short found_answer (answer_numbers (OperationAnswer.Found x))
answer_short OperationAnswer.Absent = omega (arith, filled_short (answer_pattern OperationAnswer.Absent) (answer_numbers OperationAnswer.Absent))
answer_short OperationAnswer.Inserted = omega (arith, filled_short (answer_pattern OperationAnswer.Inserted) (answer_numbers OperationAnswer.Inserted))
answer_short OperationAnswer.Present = omega (arith, filled_short (answer_pattern OperationAnswer.Present) (answer_numbers OperationAnswer.Present))
answer_short OperationAnswer.Deleted = omega (arith, filled_short (answer_pattern OperationAnswer.Deleted) (answer_numbers OperationAnswer.Deleted))
answer_short OperationAnswer.NoPage = omega (arith, filled_short (answer_pattern OperationAnswer.NoPage) (answer_numbers OperationAnswer.NoPage))

pub restructuring_short : (r : Restructuring) → length (restructuring_text r) ≤ 15
restructuring_short Restructuring.None = lit≤ tt
restructuring_short Restructuring.Split = lit≤ tt
restructuring_short Restructuring.SplitSkipped = lit≤ tt
restructuring_short Restructuring.Merged = lit≤ tt
restructuring_short Restructuring.MergeSkipped = lit≤ tt

pub restructuring_literal : (r : Restructuring) → holes (restructuring_text r) ≡ 0
unfolding holes
restructuring_literal Restructuring.None = refl
restructuring_literal Restructuring.Split = refl
restructuring_literal Restructuring.SplitSkipped = refl
restructuring_literal Restructuring.Merged = refl
restructuring_literal Restructuring.MergeSkipped = refl

answer_holes : (a : OperationAnswer) → length (answer_numbers a) ≡ holes (answer_pattern a)
unfolding answer_numbers holes
answer_holes (OperationAnswer.Found x) = refl
answer_holes OperationAnswer.Absent = refl
answer_holes OperationAnswer.Inserted = refl
answer_holes OperationAnswer.Present = refl
answer_holes OperationAnswer.Deleted = refl
answer_holes OperationAnswer.NoPage = refl

pub answer_few : (a : OperationAnswer) → length (answer_numbers a) ≤ 1
unfolding answer_numbers
answer_few (OperationAnswer.Found x) = lit≤ tt
answer_few OperationAnswer.Absent = lit≤ tt
answer_few OperationAnswer.Inserted = lit≤ tt
answer_few OperationAnswer.Present = lit≤ tt
answer_few OperationAnswer.Deleted = lit≤ tt
answer_few OperationAnswer.NoPage = lit≤ tt

pub holes_append : (p q : List ℕ) → holes (p ++ q) ≡ holes p + holes q
unfolding holes
holes_append [] q = omega arith
holes_append (b ∷ p) q = omega (arith, holes_append p q)

-- What stands behind the party's number asks for the answer's numbers.
pub tail_holes : (a : OperationAnswer) (r : Restructuring) → length (answer_numbers a) ≡ holes (answer_pattern a ++ restructuring_text r)
tail_holes a r = omega (arith, answer_holes a, holes_append (answer_pattern a) (restructuring_text r), restructuring_literal r)

done-hole : 1 ≡ holes step_done
unfolding holes
done-hole = refl

-- A text put in parts is the reply's.
pub done_text : (q : ℕ) (a : OperationAnswer) (r : Restructuring)
    → filled step_done (q ∷ []) ++ (answer_text a ++ restructuring_text r) ≡ reply_text (Reply.Step q (Ok (StepAnswer.Done a r)))
unfolding reply_text reply_pattern reply_numbers step_pattern step_numbers answer_text
done_text q a r =
    let tail = answer_pattern a ++ restructuring_text r in
    let behind : filled tail (answer_numbers a) ≡ answer_text a ++ restructuring_text r =
    ap (filled tail) (sym (append-nil (answer_numbers a)))
    ∙ filled_append (answer_pattern a) (restructuring_text r) (answer_numbers a) [] (answer_holes a)
    ∙ ap (λ (x : List ℕ). answer_text a ++ x) (filled_literal (restructuring_text r) [] (restructuring_literal r)) in
    ap (λ (x : List ℕ). filled step_done (q ∷ []) ++ x) (sym behind) ∙ sym (filled_append step_done tail (q ∷ []) (answer_numbers a) done-hole)

pub done_pieces : (q : ℕ) (a : OperationAnswer) (r : Restructuring)
    → step_text ++ (decimal q ++ (bytes " (done " ++ (answer_text a ++ restructuring_text r))) ≡ reply_text (Reply.Step q (Ok (StepAnswer.Done a r)))
unfolding filled symbol_text numbers_after
done_pieces q a r = ap (λ (x : List ℕ). step_text ++ x) (sym (append_assoc (decimal q) (bytes " (done ") (answer_text a ++ restructuring_text r))) ∙ done_text q a r

-- What a call answers that is no step, in parts.
pub format_text : (a : Outcome) → filled (bytes "(format ") [] ++ outcome_text a ≡ reply_text (Reply.Format a)
unfolding reply_text reply_pattern reply_numbers format_pattern outcome_numbers outcome_text filled symbol_text numbers_after
format_text (Ok a) = refl
format_text (Err n) = refl

pub begin_text : (q : ℕ) (a : Outcome) → filled (bytes "(begin # ") (q ∷ []) ++ outcome_text a ≡ reply_text (Reply.Begin q a)
unfolding reply_text reply_pattern reply_numbers begin_pattern outcome_numbers outcome_text holes filled symbol_text numbers_after
begin_text q (Ok a) = sym (filled_append (bytes "(begin # ") (bytes "ok)") (q ∷ []) [] refl)
begin_text q (Err n) = sym (filled_append (bytes "(begin # ") (bytes "(refused #))") (q ∷ []) (n ∷ []) refl)

pub withdraw_text : (q : ℕ) (a : Outcome) → filled (bytes "(withdraw # ") (q ∷ []) ++ outcome_text a ≡ reply_text (Reply.Withdraw q a)
unfolding reply_text reply_pattern reply_numbers withdraw_pattern outcome_numbers outcome_text holes filled symbol_text numbers_after
withdraw_text q (Ok a) = sym (filled_append (bytes "(withdraw # ") (bytes "ok)") (q ∷ []) [] refl)
withdraw_text q (Err n) = sym (filled_append (bytes "(withdraw # ") (bytes "(refused #))") (q ∷ []) (n ∷ []) refl)

pub take_up_text : (a : Outcome) → filled (bytes "(take-up ") [] ++ outcome_text a ≡ reply_text (Reply.TakeUp a)
unfolding reply_text reply_pattern reply_numbers take_up_pattern outcome_numbers outcome_text filled symbol_text numbers_after
take_up_text (Ok a) = refl
take_up_text (Err n) = refl

restructuring_plain : (r : Restructuring) → plain false (restructuring_text r) ≡ true
unfolding plain is_digit
restructuring_plain Restructuring.None = refl
restructuring_plain Restructuring.Split = refl
restructuring_plain Restructuring.SplitSkipped = refl
restructuring_plain Restructuring.Merged = refl
restructuring_plain Restructuring.MergeSkipped = refl

-- Whether or not a hole stands before it.
pub tail_plain : (after : Bool) (a : OperationAnswer) (r : Restructuring) → plain after (answer_pattern a ++ restructuring_text r) ≡ true
unfolding plain is_digit
tail_plain after (OperationAnswer.Found x) r = restructuring_plain r
tail_plain after OperationAnswer.Absent r = restructuring_plain r
tail_plain after OperationAnswer.Inserted r = restructuring_plain r
tail_plain after OperationAnswer.Present r = restructuring_plain r
tail_plain after OperationAnswer.Deleted r = restructuring_plain r
tail_plain after OperationAnswer.NoPage r = restructuring_plain r

pub restructuring_stops : (r : Restructuring) → stops (restructuring_text r) ≡ true
unfolding is_digit
restructuring_stops Restructuring.None = refl
restructuring_stops Restructuring.Split = refl
restructuring_stops Restructuring.SplitSkipped = refl
restructuring_stops Restructuring.Merged = refl
restructuring_stops Restructuring.MergeSkipped = refl

-- ---- The words are read as they are derived

found_plain : plain false found_answer ≡ true
unfolding plain is_digit
found_plain = refl

found_complete : (x : ℕ) (text rest : List ℕ) → Derives found_answer (x ∷ []) text → stops rest ≡ true → read_answer (text ++ rest) ≡ at (OperationAnswer.Found x) rest
unfolding read_answer found_in or_next padded
found_complete x text rest d s = rw (match_complete false found_plain d [] rest s (lit≤ tt)) refl

-- An answer without a number.
word_complete : (a : OperationAnswer) (text rest : List ℕ) → Derives (answer_pattern a) [] text → read_answer (answer_pattern a ++ rest) ≡ at a rest → read_answer (text ++ rest) ≡ at a rest
word_complete a text rest d e = rw (literal_line d (sym (derives_holes d))).0 e

pub answer_complete : (a : OperationAnswer) (text rest : List ℕ) → Derives (answer_pattern a) (answer_numbers a) text → stops rest ≡ true → read_answer (text ++ rest) ≡ at a rest
unfolding answer_numbers read_answer found_in answer_in or_next match_from symbol_in byte_in and_then
answer_complete (OperationAnswer.Found x) text rest d s = found_complete x text rest d s
answer_complete OperationAnswer.Absent text rest d s = word_complete OperationAnswer.Absent text rest d refl
answer_complete OperationAnswer.Inserted text rest d s = word_complete OperationAnswer.Inserted text rest d refl
answer_complete OperationAnswer.Present text rest d s = word_complete OperationAnswer.Present text rest d refl
answer_complete OperationAnswer.Deleted text rest d s = word_complete OperationAnswer.Deleted text rest d refl
answer_complete OperationAnswer.NoPage text rest d s = word_complete OperationAnswer.NoPage text rest d refl

pub restructuring_complete : (r : Restructuring) → read_restructuring (restructuring_text r) ≡ Some r
unfolding read_restructuring restructuring_in or_else numbers_of wholly to_end match_from symbol_in byte_in and_then
restructuring_complete Restructuring.None = refl
restructuring_complete Restructuring.Split = refl
restructuring_complete Restructuring.SplitSkipped = refl
restructuring_complete Restructuring.Merged = refl
restructuring_complete Restructuring.MergeSkipped = refl

-- ---- What is read is such a word

-- An answer at the head of a line.
pub record Headed (a : OperationAnswer) (l rest : List ℕ) : Type 0 where
  pub text : List ℕ
  pub whole : l ≡ text ++ rest
  pub derived : Derives (answer_pattern a) (answer_numbers a) text

answer_row : (p : List ℕ) (f : List ℕ → OperationAnswer) (l : List ℕ) (other : AnswerAt) (b : OperationAnswer) (rest : List ℕ)
    → ((ns text : List ℕ) → length ns ≡ holes p → Derives p ns text → Derives (answer_pattern (f (padded ns))) (answer_numbers (f (padded ns))) text)
    → (other ≡ at b rest → Headed b l rest) → or_next (match_from p [] l) f other ≡ at b rest → Headed b l rest
unfolding or_next
answer_row p f l other b rest fits next = go (match_from p [] l) refl
  where
    go : (m : Matching) → match_from p [] l ≡ m → or_next m f other ≡ at b rest → Headed b l rest
    go no q e = next e
    go (yes ns r) q e =
        let d = match_sound p [] l ns r q in
        let here : Derives p ns d.text = subst (λ (x : List ℕ). Derives p x d.text) (sym d.all) d.derived in
        let same : f (padded ns) ≡ b = cc in
        let left : r ≡ rest = cc in
        record {
          text = d.text;
          whole = d.whole ∙ ap (λ (x : List ℕ). d.text ++ x) left;
          derived = subst (λ (x : OperationAnswer). Derives (answer_pattern x) (answer_numbers x) d.text) same (fits ns d.text (derives_holes here) here);
        }

found_row : (l : List ℕ) (other : AnswerAt) (b : OperationAnswer) (rest : List ℕ) → (other ≡ at b rest → Headed b l rest) → found_in l other ≡ at b rest → Headed b l rest
unfolding found_in answer_numbers holes
found_row l other b rest =
    answer_row found_answer (λ ns. OperationAnswer.Found (get_or ns 0 0)) l other b rest
    (λ ns text long d. subst (λ (x : List ℕ). Derives found_answer x text) (sym (one_number ns long)) d)

-- An answer without a number.
word_row : (a : OperationAnswer) → answer_numbers a ≡ [] → (l : List ℕ) (other : AnswerAt) (b : OperationAnswer) (rest : List ℕ) → (other ≡ at b rest → Headed b l rest)
    → answer_in a l other ≡ at b rest → Headed b l rest
unfolding answer_in
word_row a bare l other b rest =
    answer_row (answer_pattern a) (λ ns. a) l other b rest
    (λ ns text long d.
    let empty : length ns ≡ 0 = long ∙ sym (answer_holes a) ∙ ap length bare in
    subst (λ (x : List ℕ). Derives (answer_pattern a) x text) (sym (no_number ns empty) ∙ sym bare) d)

pub answer_sound : (l : List ℕ) (b : OperationAnswer) (rest : List ℕ) → read_answer l ≡ at b rest → Headed b l rest
unfolding read_answer answer_numbers
answer_sound l b rest =
    found_row l _ b rest
    (word_row OperationAnswer.Absent refl l _ b rest
    (word_row OperationAnswer.Inserted refl l _ b rest
    (word_row OperationAnswer.Present refl l _ b rest
    (word_row OperationAnswer.Deleted refl l _ b rest
    (word_row OperationAnswer.NoPage refl l none b rest (λ e. cc))))))

restructuring_row : (r : Restructuring) (l : List ℕ) (other : Option Restructuring) (m : Restructuring) → (other ≡ Some m → l ≡ restructuring_text m)
    → restructuring_in r l other ≡ Some m → l ≡ restructuring_text m
unfolding restructuring_in
restructuring_row r l other m next =
    row_sound_lem (restructuring_text r) l (λ ns. Some r) other
    (λ ns long d e. let same : r ≡ m = cc in (literal_line d (restructuring_literal r)).0 ∙ ap restructuring_text same)
    next

pub restructuring_sound : (l : List ℕ) (m : Restructuring) → read_restructuring l ≡ Some m → l ≡ restructuring_text m
unfolding read_restructuring
restructuring_sound l m =
    restructuring_row Restructuring.None l _ m
    (restructuring_row Restructuring.Split l _ m
    (restructuring_row Restructuring.SplitSkipped l _ m
    (restructuring_row Restructuring.Merged l _ m
    (restructuring_row Restructuring.MergeSkipped l None m (λ e. cc)))))
