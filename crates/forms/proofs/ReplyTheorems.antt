-- Replies: a line is read exactly where the grammar derives it, as the one reply that it is; reading what was printed
-- gives the reply again.
-- Main statements: reply_read, read_reply_lem; one_reply; unread_reply_lem; printed_reply_read, printed_reply_there;
-- reply_short.
use mathlib.Core.Path.{◌≡◌, refl, sym, ap, ◌∙◌, subst, subst₂}
use mathlib.Core.Bool.{true, false}
use mathlib.Core.List.{List, [], ◌∷◌, ◌++◌, append-nil}
use Prim.Native.Nat.{ℕ, ◌+◌, ◌≤◌}
use native.Mathlib.Omega.{arith}
use lib.ListN.{length, get_or, take, drop, length-append}
use lib.Seq.{sets}
use lib.Dec.{lit≤}
use Rattle.model.specs.declared.OperationAnswer.{OperationAnswer}
use Rattle.model.specs.declared.Restructuring.{Restructuring}
use Rattle.model.specs.declared.StepAnswer.{StepAnswer}
use Rattle.std.specs.Prelude.{Option, None, Some, Ok, Err}
use Rattle.patterns.specs.Numbers.{is_digit}
use Rattle.patterns.specs.Patterns.{Matching, no, yes, match_from, padded, filled}
use Rattle.patterns.specs.Grammar.{Derives, plain, holes, Plain}
use Rattle.patterns.proofs.Numerals.{stops}
use Rattle.patterns.proofs.Theorems.{Small, stops_derived, match_complete, match_sound, derives_holes, derives_append, derives_split, literal_line, literal_derived, filled_derived, longest, filled_short}
use Rattle.forms.specs.declared.Reply.{Reply}
use Rattle.forms.specs.Replies.{
  unread_reply,
  format_ok,
  format_refused,
  begin_ok,
  begin_refused,
  withdraw_ok,
  withdraw_refused,
  take_up_ok,
  take_up_refused,
  step_moved,
  step_waiting,
  step_refused,
  step_done,
  answer_pattern,
  answer_numbers,
  answer_text,
  restructuring_text,
  format_pattern,
  begin_pattern,
  withdraw_pattern,
  take_up_pattern,
  step_pattern,
  reply_pattern,
  outcome_numbers,
  Outcome,
  StepOutcome,
  step_numbers,
  reply_numbers,
  ReplyLine,
  reply_text,
}
use Rattle.forms.specs.Reading.{AnswerAt, none, at, read_answer, read_restructuring, done_as, done_from, done_after, read_done, read_step_reply, read_take_up_reply, read_withdraw_reply, read_begin_reply, read_reply}
use Rattle.forms.specs.Printing.{longest_reply, given}
use Rattle.forms.proofs.Puts.{is-given, put_there}
use Rattle.forms.proofs.Table.{alike, take_row, skip_row, row_sound_lem, no_number, one_number, two_numbers}
use Rattle.forms.proofs.Words.{
  answer_short,
  restructuring_short,
  restructuring_literal,
  answer_few,
  tail_holes,
  tail_plain,
  restructuring_stops,
  done_text,
  Headed,
  answer_complete,
  answer_sound,
  restructuring_complete,
  restructuring_sound,
}

-- ---- The patterns

plain_unread : Plain unread_reply
unfolding plain holes is_digit
plain_unread = record { parted = refl; held = lit≤ tt }

plain_format : (a : Outcome) → Plain (format_pattern a)
unfolding format_pattern plain holes is_digit
plain_format (Ok tt) = record { parted = refl; held = lit≤ tt }
plain_format (Err n) = record { parted = refl; held = lit≤ tt }

plain_begin : (a : Outcome) → Plain (begin_pattern a)
unfolding begin_pattern plain holes is_digit
plain_begin (Ok tt) = record { parted = refl; held = lit≤ tt }
plain_begin (Err n) = record { parted = refl; held = lit≤ tt }

plain_withdraw : (a : Outcome) → Plain (withdraw_pattern a)
unfolding withdraw_pattern plain holes is_digit
plain_withdraw (Ok tt) = record { parted = refl; held = lit≤ tt }
plain_withdraw (Err n) = record { parted = refl; held = lit≤ tt }

plain-take_up : (a : Outcome) → Plain (take_up_pattern a)
unfolding take_up_pattern plain holes is_digit
plain-take_up (Ok tt) = record { parted = refl; held = lit≤ tt }
plain-take_up (Err n) = record { parted = refl; held = lit≤ tt }

plain_head : plain false step_done ≡ true
unfolding plain is_digit
plain_head = refl

nothing_stops : stops [] ≡ true
unfolding is_digit
nothing_stops = refl

plain_step : (a : StepOutcome) → Plain (step_pattern a)
unfolding step_pattern plain holes is_digit
plain_step (Ok StepAnswer.Waiting) = record { parted = refl; held = lit≤ tt }
plain_step (Ok StepAnswer.Moved) = record { parted = refl; held = lit≤ tt }
plain_step (Ok (StepAnswer.Done a r)) = record { parted = tail_plain false a r; held = omega (arith, tail_holes a r, answer_few a) }
plain_step (Err n) = record { parted = refl; held = lit≤ tt }

plain-format_ok : Plain format_ok
unfolding format_pattern
plain-format_ok = plain_format (Ok tt)

plain-format_refused : Plain format_refused
unfolding format_pattern
plain-format_refused = plain_format (Err 0)

plain-begin_ok : Plain begin_ok
unfolding begin_pattern
plain-begin_ok = plain_begin (Ok tt)

plain-begin_refused : Plain begin_refused
unfolding begin_pattern
plain-begin_refused = plain_begin (Err 0)

plain-withdraw_ok : Plain withdraw_ok
unfolding withdraw_pattern
plain-withdraw_ok = plain_withdraw (Ok tt)

plain-withdraw_refused : Plain withdraw_refused
unfolding withdraw_pattern
plain-withdraw_refused = plain_withdraw (Err 0)

plain-take_up_ok : Plain take_up_ok
unfolding take_up_pattern
plain-take_up_ok = plain-take_up (Ok tt)

plain-take_up_refused : Plain take_up_refused
unfolding take_up_pattern
plain-take_up_refused = plain-take_up (Err 0)

plain_moved : Plain step_moved
unfolding step_pattern
plain_moved = plain_step (Ok StepAnswer.Moved)

plain_waiting : Plain step_waiting
unfolding step_pattern
plain_waiting = plain_step (Ok StepAnswer.Waiting)

plain_refused : Plain step_refused
unfolding step_pattern
plain_refused = plain_step (Err 0)

-- ---- A line that the grammar derives is read

-- Rows that are skipped.
module _ {p ns line : List ℕ} (h : Plain p) (d : Derives p ns line) where
  past_format : alike p unread_reply ≡ false → alike p format_ok ≡ false → alike p format_refused ≡ false → read_reply line ≡ read_begin_reply line
  unfolding read_reply
  past_format u o r = skip_row unread_reply _ _ h plain_unread u d ∙ skip_row format_ok _ _ h plain-format_ok o d ∙ skip_row format_refused _ _ h plain-format_refused r d

  past_begin : alike p begin_ok ≡ false → alike p begin_refused ≡ false → read_begin_reply line ≡ read_withdraw_reply line
  unfolding read_begin_reply
  past_begin o r = skip_row begin_ok _ _ h plain-begin_ok o d ∙ skip_row begin_refused _ _ h plain-begin_refused r d

  past_withdraw : alike p withdraw_ok ≡ false → alike p withdraw_refused ≡ false → read_withdraw_reply line ≡ read_take_up_reply line
  unfolding read_withdraw_reply
  past_withdraw o r = skip_row withdraw_ok _ _ h plain-withdraw_ok o d ∙ skip_row withdraw_refused _ _ h plain-withdraw_refused r d

  past_take_up : alike p take_up_ok ≡ false → alike p take_up_refused ≡ false → read_take_up_reply line ≡ read_step_reply line
  unfolding read_take_up_reply
  past_take_up o r = skip_row take_up_ok _ _ h plain-take_up_ok o d ∙ skip_row take_up_refused _ _ h plain-take_up_refused r d

  past_step : alike p step_moved ≡ false → alike p step_waiting ≡ false → alike p step_refused ≡ false → read_step_reply line ≡ read_done line
  unfolding read_step_reply
  past_step m w r = skip_row step_moved _ _ h plain_moved m d ∙ skip_row step_waiting _ _ h plain_waiting w d ∙ skip_row step_refused _ _ h plain_refused r d

-- The party's number stands first, the answer's behind it.
party_first : (q : ℕ) (ms ns others : List ℕ) → length ns ≡ 1 → q ∷ ms ≡ ns ++ others → (ns ≡ q ∷ []) × (others ≡ ms)
party_first q ms [] others long e = absurd (omega arith)
party_first q ms (a ∷ []) others long e = (cc, cc)
party_first q ms (a ∷ (b ∷ ns)) others long e = absurd (omega arith)

tail_read : (q : ℕ) (a : OperationAnswer) (r : Restructuring) (line : List ℕ) → Derives (answer_pattern a ++ restructuring_text r) (answer_numbers a) line
    → done_from q (read_answer line) ≡ Some (Reply.Step q (Ok (StepAnswer.Done a r)))
unfolding done_from done_as
tail_read q a r line d =
    let s = derives_split (answer_pattern a) (restructuring_text r) (answer_numbers a) line d in
    let word = literal_line s.other (restructuring_literal r) in
    let numbers : s.numbers ≡ answer_numbers a = sym (s.all ∙ ap (λ (x : List ℕ). s.numbers ++ x) word.1 ∙ append-nil s.numbers) in
    let whole : line ≡ s.front ++ restructuring_text r = s.whole ∙ ap (λ (x : List ℕ). s.front ++ x) word.0 in
    let answer : Derives (answer_pattern a) (answer_numbers a) s.front = subst (λ (x : List ℕ). Derives (answer_pattern a) x s.front) numbers s.one in
    ap (λ (x : List ℕ). done_from q (read_answer x)) whole
    ∙ ap (done_from q) (answer_complete a s.front (restructuring_text r) answer (restructuring_stops r))
    ∙ ap (done_as q a) (restructuring_complete r)

done_read : (q : ℕ) (a : OperationAnswer) (r : Restructuring) (line : List ℕ) → Derives (step_done ++ (answer_pattern a ++ restructuring_text r)) (q ∷ answer_numbers a) line
    → read_done line ≡ Some (Reply.Step q (Ok (StepAnswer.Done a r)))
unfolding read_done done_after padded holes
done_read q a r line d =
    let tail = answer_pattern a ++ restructuring_text r in
    let s = derives_split step_done tail (q ∷ answer_numbers a) line d in
    let parts = party_first q (answer_numbers a) s.numbers s.others (derives_holes s.one) s.all in
    let behind : Derives tail (answer_numbers a) s.rest = subst (λ (x : List ℕ). Derives tail x s.rest) parts.1 s.other in
    let stop : stops s.rest ≡ true = ap stops (sym (append-nil s.rest)) ∙ stops_derived (tail_plain true a r) behind [] nothing_stops in
    let few : 0 + length s.numbers ≤ 5 = rw parts.0 (lit≤ tt) in
    let head : match_from step_done [] line ≡ yes (q ∷ []) s.rest =
    ap (match_from step_done []) s.whole ∙ match_complete false plain_head s.one [] s.rest stop few ∙ ap (λ (x : List ℕ). yes x s.rest) parts.0 in
    ap done_after head ∙ tail_read q a r s.rest behind

format_read : (a : Outcome) (line : List ℕ) → Derives (format_pattern a) (outcome_numbers a) line → read_reply line ≡ Some (Reply.Format a)
unfolding read_reply format_pattern outcome_numbers alike padded
format_read (Ok tt) line d = skip_row unread_reply _ _ plain-format_ok plain_unread refl d ∙ take_row _ _ plain-format_ok d
format_read (Err n) line d =
    skip_row unread_reply _ _ plain-format_refused plain_unread refl d ∙ skip_row format_ok _ _ plain-format_refused plain-format_ok refl d ∙ take_row _ _ plain-format_refused d

begin_read : (q : ℕ) (a : Outcome) (line : List ℕ) → Derives (begin_pattern a) (q ∷ outcome_numbers a) line → read_reply line ≡ Some (Reply.Begin q a)
unfolding read_begin_reply begin_pattern outcome_numbers alike padded
begin_read q (Ok tt) line d = past_format plain-begin_ok d refl refl refl ∙ take_row _ _ plain-begin_ok d
begin_read q (Err n) line d =
    past_format plain-begin_refused d refl refl refl ∙ skip_row begin_ok _ _ plain-begin_refused plain-begin_ok refl d ∙ take_row _ _ plain-begin_refused d

withdraw_read : (q : ℕ) (a : Outcome) (line : List ℕ) → Derives (withdraw_pattern a) (q ∷ outcome_numbers a) line → read_reply line ≡ Some (Reply.Withdraw q a)
unfolding read_withdraw_reply withdraw_pattern outcome_numbers alike padded
withdraw_read q (Ok tt) line d =
    past_format plain-withdraw_ok d refl refl refl ∙ past_begin plain-withdraw_ok d refl refl ∙ take_row _ _ plain-withdraw_ok d
withdraw_read q (Err n) line d =
    past_format plain-withdraw_refused d refl refl refl
    ∙ past_begin plain-withdraw_refused d refl refl
    ∙ skip_row withdraw_ok _ _ plain-withdraw_refused plain-withdraw_ok refl d
    ∙ take_row _ _ plain-withdraw_refused d

take_up_read : (a : Outcome) (line : List ℕ) → Derives (take_up_pattern a) (outcome_numbers a) line → read_reply line ≡ Some (Reply.TakeUp a)
unfolding read_take_up_reply take_up_pattern outcome_numbers alike padded
take_up_read (Ok tt) line d =
    past_format plain-take_up_ok d refl refl refl
    ∙ past_begin plain-take_up_ok d refl refl
    ∙ past_withdraw plain-take_up_ok d refl refl
    ∙ take_row _ _ plain-take_up_ok d
take_up_read (Err n) line d =
    past_format plain-take_up_refused d refl refl refl
    ∙ past_begin plain-take_up_refused d refl refl
    ∙ past_withdraw plain-take_up_refused d refl refl
    ∙ skip_row take_up_ok _ _ plain-take_up_refused plain-take_up_ok refl d
    ∙ take_row _ _ plain-take_up_refused d

-- The rows of every other call are skipped.
past_others : (a : StepOutcome) {ns line : List ℕ} → Derives (step_pattern a) ns line → read_reply line ≡ read_step_reply line
unfolding step_pattern alike
past_others (Ok StepAnswer.Waiting) d = past_format plain_waiting d refl refl refl ∙ past_begin plain_waiting d refl refl ∙ past_withdraw plain_waiting d refl refl ∙ past_take_up plain_waiting d refl refl
past_others (Ok StepAnswer.Moved) d = past_format plain_moved d refl refl refl ∙ past_begin plain_moved d refl refl ∙ past_withdraw plain_moved d refl refl ∙ past_take_up plain_moved d refl refl
past_others (Err n) d = past_format plain_refused d refl refl refl ∙ past_begin plain_refused d refl refl ∙ past_withdraw plain_refused d refl refl ∙ past_take_up plain_refused d refl refl
past_others (Ok (StepAnswer.Done a r)) d =
    let p = plain_step (Ok (StepAnswer.Done a r)) in
    past_format p d refl refl refl ∙ past_begin p d refl refl ∙ past_withdraw p d refl refl ∙ past_take_up p d refl refl

step_read : (q : ℕ) (a : StepOutcome) (line : List ℕ) → Derives (step_pattern a) (q ∷ step_numbers a) line → read_reply line ≡ Some (Reply.Step q a)
unfolding read_step_reply step_pattern step_numbers alike padded
step_read q (Ok StepAnswer.Moved) line d = past_others (Ok StepAnswer.Moved) d ∙ take_row _ _ plain_moved d
step_read q (Ok StepAnswer.Waiting) line d = past_others (Ok StepAnswer.Waiting) d ∙ skip_row step_moved _ _ plain_waiting plain_moved refl d ∙ take_row _ _ plain_waiting d
step_read q (Err n) line d =
    past_others (Err n) d
    ∙ skip_row step_moved _ _ plain_refused plain_moved refl d
    ∙ skip_row step_waiting _ _ plain_refused plain_waiting refl d
    ∙ take_row _ _ plain_refused d
step_read q (Ok (StepAnswer.Done a r)) line d = past_others (Ok (StepAnswer.Done a r)) d ∙ past_step (plain_step (Ok (StepAnswer.Done a r))) d refl refl refl ∙ done_read q a r line d

pub reply_read : (r : Reply) (line : List ℕ) → ReplyLine r line → read_reply line ≡ Some r
unfolding ReplyLine reply_pattern reply_numbers read_reply
reply_read Reply.Unread line d = take_row _ _ plain_unread d
reply_read (Reply.Format a) line d = format_read a line d
reply_read (Reply.Begin q a) line d = begin_read q a line d
reply_read (Reply.Step q a) line d = step_read q a line d
reply_read (Reply.Withdraw q a) line d = withdraw_read q a line d
reply_read (Reply.TakeUp a) line d = take_up_read a line d

-- ---- A line that is read is derived by the grammar

-- A row's reply is read as itself.
row_reply : (r g : Reply) (ns line : List ℕ) → reply_numbers g ≡ ns → Derives (reply_pattern g) ns line → Some g ≡ Some r → ReplyLine r line
unfolding ReplyLine
row_reply r g ns line same d e =
    let equal : g ≡ r = cc in
    let derived : Derives (reply_pattern g) (reply_numbers g) line = rw same d in
    subst (λ (x : Reply). Derives (reply_pattern x) (reply_numbers x) line) equal derived

done_derived : (r : Reply) (line ns rest : List ℕ) (a : OperationAnswer) (m : Restructuring) → match_from step_done [] line ≡ yes ns rest → Headed a rest (restructuring_text m)
    → Some (Reply.Step (get_or (padded ns) 0 0) (Ok (StepAnswer.Done a m))) ≡ Some r → ReplyLine r line
unfolding reply_pattern reply_numbers step_pattern step_numbers holes
done_derived r line ns rest a m q answer e =
    let word = restructuring_text m in
    let pattern = step_done ++ (answer_pattern a ++ word) in
    let party = get_or (padded ns) 0 0 in
    let d = match_sound step_done [] line ns rest q in
    let long : length ns ≡ 1 = ap length d.all ∙ derives_holes d.derived in
    let both = derives_append d.derived (derives_append answer.derived (literal_derived word (restructuring_literal m))) in
    let numbers : d.found ++ (answer_numbers a ++ []) ≡ party ∷ answer_numbers a =
    ap (λ (x : List ℕ). x ++ (answer_numbers a ++ [])) (sym (one_number ns long ∙ d.all)) ∙ ap (λ (x : List ℕ). party ∷ x) (append-nil (answer_numbers a)) in
    let whole : d.text ++ (answer.text ++ word) ≡ line = sym (d.whole ∙ ap (λ (x : List ℕ). d.text ++ x) answer.whole) in
    let derived : Derives pattern (party ∷ answer_numbers a) line = subst₂ (λ (x y : List ℕ). Derives pattern x y) numbers whole both in
    row_reply r (Reply.Step party (Ok (StepAnswer.Done a m))) (party ∷ answer_numbers a) line refl derived e

done_sound : (r : Reply) (line : List ℕ) → read_done line ≡ Some r → ReplyLine r line
unfolding read_done done_after done_from done_as
done_sound r line = go (match_from step_done [] line) refl
  where
    third : (ns rest : List ℕ) → match_from step_done [] line ≡ yes ns rest → (a : OperationAnswer) (left : List ℕ) → read_answer rest ≡ at a left → (m : Option Restructuring) → read_restructuring left ≡ m
        → done_as (get_or (padded ns) 0 0) a m ≡ Some r → ReplyLine r line
    third ns rest q a left w None v e = cc
    third ns rest q a left w (Some m) v e =
        done_derived r line ns rest a m q (subst (λ (x : List ℕ). Headed a rest x) (restructuring_sound left m v) (answer_sound rest a left w)) e

    second : (ns rest : List ℕ) → match_from step_done [] line ≡ yes ns rest → (s : AnswerAt) → read_answer rest ≡ s → done_from (get_or (padded ns) 0 0) s ≡ Some r → ReplyLine r line
    second ns rest q none w e = cc
    second ns rest q (at a left) w e = third ns rest q a left w (read_restructuring left) refl e

    go : (m : Matching) → match_from step_done [] line ≡ m → done_after m ≡ Some r → ReplyLine r line
    go no q e = cc
    go (yes ns rest) q e = second ns rest q (read_answer rest) refl e

step_sound : (r : Reply) (line : List ℕ) → read_step_reply line ≡ Some r → ReplyLine r line
unfolding read_step_reply reply_pattern reply_numbers step_pattern step_numbers holes
step_sound r line =
    row_sound_lem step_moved line _ _ (λ ns long d e. row_reply r (Reply.Step (get_or (padded ns) 0 0) (Ok StepAnswer.Moved)) ns line (one_number ns long) d e)
    (row_sound_lem step_waiting line _ _ (λ ns long d e. row_reply r (Reply.Step (get_or (padded ns) 0 0) (Ok StepAnswer.Waiting)) ns line (one_number ns long) d e)
    (row_sound_lem step_refused line _ _ (λ ns long d e. row_reply r (Reply.Step (get_or (padded ns) 0 0) (Err (get_or (padded ns) 1 0))) ns line (two_numbers ns long) d e) (done_sound r line)))

take_up_sound : (r : Reply) (line : List ℕ) → read_take_up_reply line ≡ Some r → ReplyLine r line
unfolding read_take_up_reply reply_pattern reply_numbers take_up_pattern outcome_numbers holes
take_up_sound r line =
    row_sound_lem take_up_ok line _ _ (λ ns long d e. row_reply r (Reply.TakeUp (Ok tt)) ns line (no_number ns long) d e)
    (row_sound_lem take_up_refused line _ _ (λ ns long d e. row_reply r (Reply.TakeUp (Err (get_or (padded ns) 0 0))) ns line (one_number ns long) d e) (step_sound r line))

withdraw_sound : (r : Reply) (line : List ℕ) → read_withdraw_reply line ≡ Some r → ReplyLine r line
unfolding read_withdraw_reply reply_pattern reply_numbers withdraw_pattern outcome_numbers holes
withdraw_sound r line =
    row_sound_lem withdraw_ok line _ _ (λ ns long d e. row_reply r (Reply.Withdraw (get_or (padded ns) 0 0) (Ok tt)) ns line (one_number ns long) d e)
    (row_sound_lem withdraw_refused line _ _ (λ ns long d e. row_reply r (Reply.Withdraw (get_or (padded ns) 0 0) (Err (get_or (padded ns) 1 0))) ns line (two_numbers ns long) d e) (take_up_sound r line))

begin_sound : (r : Reply) (line : List ℕ) → read_begin_reply line ≡ Some r → ReplyLine r line
unfolding read_begin_reply reply_pattern reply_numbers begin_pattern outcome_numbers holes
begin_sound r line =
    row_sound_lem begin_ok line _ _ (λ ns long d e. row_reply r (Reply.Begin (get_or (padded ns) 0 0) (Ok tt)) ns line (one_number ns long) d e)
    (row_sound_lem begin_refused line _ _ (λ ns long d e. row_reply r (Reply.Begin (get_or (padded ns) 0 0) (Err (get_or (padded ns) 1 0))) ns line (two_numbers ns long) d e) (withdraw_sound r line))

pub read_reply_lem : (r : Reply) (line : List ℕ) → read_reply line ≡ Some r → ReplyLine r line
unfolding read_reply reply_pattern reply_numbers format_pattern outcome_numbers holes
read_reply_lem r line =
    row_sound_lem unread_reply line _ _ (λ ns long d e. row_reply r Reply.Unread ns line (no_number ns long) d e)
    (row_sound_lem format_ok line _ _ (λ ns long d e. row_reply r (Reply.Format (Ok tt)) ns line (no_number ns long) d e)
    (row_sound_lem format_refused line _ _ (λ ns long d e. row_reply r (Reply.Format (Err (get_or (padded ns) 0 0))) ns line (one_number ns long) d e) (begin_sound r line)))

-- ---- What follows

-- A line is at most one reply.
pub one_reply : (r s : Reply) (line : List ℕ) → ReplyLine r line → ReplyLine s line → r ≡ s
one_reply r s line d e =
    let as_r = reply_read r line d in
    let as_s = reply_read s line e in
    cc

-- A line that is unread is no reply.
pub unread_reply_lem : (line : List ℕ) → read_reply line ≡ None → (r : Reply) → ReplyLine r line → ⊥
unread_reply_lem line e r d =
    let as_r = reply_read r line d in
    cc

-- The numbers of a reply fit 32 bits, as those of the code do.
unfoldable pub ReplyFits : Reply → Type 0
ReplyFits r = Small (reply_numbers r)

reply_holes : (r : Reply) → length (reply_numbers r) ≡ holes (reply_pattern r)
unfolding reply_numbers reply_pattern outcome_numbers format_pattern begin_pattern withdraw_pattern take_up_pattern step_numbers step_pattern holes
reply_holes Reply.Unread = refl
reply_holes (Reply.Format (Ok tt)) = refl
reply_holes (Reply.Format (Err n)) = refl
reply_holes (Reply.Begin q (Ok tt)) = refl
reply_holes (Reply.Begin q (Err n)) = refl
reply_holes (Reply.Step q (Ok StepAnswer.Waiting)) = refl
reply_holes (Reply.Step q (Ok StepAnswer.Moved)) = refl
reply_holes (Reply.Step q (Ok (StepAnswer.Done a r))) = omega (arith, tail_holes a r)
reply_holes (Reply.Step q (Err n)) = refl
reply_holes (Reply.Withdraw q (Ok tt)) = refl
reply_holes (Reply.Withdraw q (Err n)) = refl
reply_holes (Reply.TakeUp (Ok tt)) = refl
reply_holes (Reply.TakeUp (Err n)) = refl

pub printed_reply_read : (r : Reply) → ReplyFits r → read_reply (reply_text r) ≡ Some r
unfolding ReplyFits ReplyLine reply_text
printed_reply_read r small = reply_read r (reply_text r) (filled_derived (reply_pattern r) (reply_numbers r) (reply_holes r) small)

-- ---- How long a reply is

done_short : (q : ℕ) (a : OperationAnswer) (r : Restructuring) → length (reply_text (Reply.Step q (Ok (StepAnswer.Done a r)))) ≤ longest_reply
unfolding longest
done_short q a r =
    let ns = q ∷ [] in
    let words = length-append (answer_text a) (restructuring_text r) in
    let whole = length-append (filled step_done ns) (answer_text a ++ restructuring_text r) in
    omega (arith, ap length (done_text q a r), whole, words, filled_short step_done ns, answer_short a, restructuring_short r)

pub reply_short : (r : Reply) → length (reply_text r) ≤ longest_reply
unfolding reply_text reply_pattern format_pattern begin_pattern withdraw_pattern take_up_pattern step_pattern longest
reply_short Reply.Unread = omega (arith, filled_short unread_reply (reply_numbers Reply.Unread))
reply_short (Reply.Format (Ok tt)) = omega (arith, filled_short format_ok (reply_numbers (Reply.Format (Ok tt))))
reply_short (Reply.Format (Err n)) = omega (arith, filled_short format_refused (reply_numbers (Reply.Format (Err n))))
reply_short (Reply.Begin q (Ok tt)) = omega (arith, filled_short begin_ok (reply_numbers (Reply.Begin q (Ok tt))))
reply_short (Reply.Begin q (Err n)) = omega (arith, filled_short begin_refused (reply_numbers (Reply.Begin q (Err n))))
reply_short (Reply.Step q (Ok StepAnswer.Waiting)) = omega (arith, filled_short step_waiting (reply_numbers (Reply.Step q (Ok StepAnswer.Waiting))))
reply_short (Reply.Step q (Ok StepAnswer.Moved)) = omega (arith, filled_short step_moved (reply_numbers (Reply.Step q (Ok StepAnswer.Moved))))
reply_short (Reply.Step q (Ok (StepAnswer.Done a r))) = done_short q a r
reply_short (Reply.Step q (Err n)) = omega (arith, filled_short step_refused (reply_numbers (Reply.Step q (Err n))))
reply_short (Reply.Withdraw q (Ok tt)) = omega (arith, filled_short withdraw_ok (reply_numbers (Reply.Withdraw q (Ok tt))))
reply_short (Reply.Withdraw q (Err n)) = omega (arith, filled_short withdraw_refused (reply_numbers (Reply.Withdraw q (Err n))))
reply_short (Reply.TakeUp (Ok tt)) = omega (arith, filled_short take_up_ok (reply_numbers (Reply.TakeUp (Ok tt))))
reply_short (Reply.TakeUp (Err n)) = omega (arith, filled_short take_up_refused (reply_numbers (Reply.TakeUp (Err n))))

-- A reply that is printed stands at its place and is read again from there.
pub printed_reply_there : (r : Reply) (out : List ℕ) (place : ℕ) → ReplyFits r → place + longest_reply ≤ length out
    → read_reply (take (length (reply_text r)) (drop place (sets out place (given (length out) place longest_reply (reply_text r))))) ≡ Some r
printed_reply_there r out place small room =
    let text : given (length out) place longest_reply (reply_text r) ≡ reply_text r = is-given (length out) place longest_reply (reply_text r) room in
    rw (text, put_there place out (reply_text r) (omega (arith, reply_short r))) (printed_reply_read r small)
