-- Forms: a line is read exactly where the grammar derives it, as the one form that it is; reading what was printed
-- gives the form again.
-- Main statements: form_read, read_form_lem; one_form; unread_form; printed_form_read, printed_form_there; form_short.
use mathlib.Core.Path.{◌≡◌, refl, ◌∙◌, subst}
use mathlib.Core.Bool.{false}
use mathlib.Core.List.{List, [], ◌∷◌}
use Prim.Native.Nat.{ℕ, ◌+◌, ◌≤◌}
use native.Mathlib.Omega.{arith}
use lib.ListN.{length, get_or, take, drop}
use lib.Seq.{sets}
use lib.Dec.{lit≤}
use Rattle.model.specs.declared.FileSizes.{FileSizes}
use Rattle.model.specs.declared.Operation.{Operation}
use Rattle.patterns.specs.Numbers.{is_digit}
use Rattle.patterns.specs.Patterns.{padded}
use Rattle.patterns.specs.Grammar.{Derives, plain, holes, Plain}
use Rattle.patterns.proofs.Theorems.{Small, filled_derived, longest, filled_short}
use Rattle.forms.specs.declared.Form.{Form}
use Rattle.std.specs.Prelude.{None, Some}
use Rattle.forms.specs.Forms.{step_form, withdraw_form, take_up_form, format_form, find_form, insert_form, delete_form, begin_form, form_pattern, size_numbers, operation_numbers, form_numbers, FormLine, form_text}
use Rattle.forms.specs.Reading.{as_step, as_begin, as_insert, as_withdraw, as_format, as_take_up, read_take_up, read_format, read_withdraw, read_begin, read_form}
use Rattle.forms.specs.Printing.{longest_form, given}
use Rattle.forms.proofs.Puts.{is-given, put_there}
use Rattle.forms.proofs.Table.{alike, take_row, skip_row, row_sound_lem, no_number, one_number, two_numbers, three_numbers, five_numbers}

-- ---- The patterns

plain_step : Plain step_form
unfolding plain holes is_digit
plain_step = record { parted = refl; held = lit≤ tt }

plain_withdraw : Plain withdraw_form
unfolding plain holes is_digit
plain_withdraw = record { parted = refl; held = lit≤ tt }

plain-take_up : Plain take_up_form
unfolding plain holes is_digit
plain-take_up = record { parted = refl; held = lit≤ tt }

plain_format : Plain format_form
unfolding plain holes is_digit
plain_format = record { parted = refl; held = lit≤ tt }

plain_find : Plain find_form
unfolding plain holes is_digit
plain_find = record { parted = refl; held = lit≤ tt }

plain_insert : Plain insert_form
unfolding plain holes is_digit
plain_insert = record { parted = refl; held = lit≤ tt }

plain_delete : Plain delete_form
unfolding plain holes is_digit
plain_delete = record { parted = refl; held = lit≤ tt }

-- ---- A line that the grammar derives is read

begin_read : (q : ℕ) (o : Operation) (k : ℕ) (line : List ℕ) → Derives (begin_form o) (q ∷ operation_numbers o k) line → read_form line ≡ Some (Form.Begin q o k)
unfolding read_form read_begin operation_numbers alike padded
begin_read q Operation.Find k line d =
    skip_row step_form as_step _ plain_find plain_step refl d ∙ take_row (as_begin Operation.Find) _ plain_find d
begin_read q (Operation.Insert x) k line d =
    skip_row step_form as_step _ plain_insert plain_step refl d
    ∙ skip_row find_form (as_begin Operation.Find) _ plain_insert plain_find refl d
    ∙ take_row as_insert _ plain_insert d
begin_read q Operation.Delete k line d =
    skip_row step_form as_step _ plain_delete plain_step refl d
    ∙ skip_row find_form (as_begin Operation.Find) _ plain_delete plain_find refl d
    ∙ skip_row insert_form as_insert _ plain_delete plain_insert refl d
    ∙ take_row (as_begin Operation.Delete) _ plain_delete d

-- The rows of a step and of begins are skipped.
past_begin : {p ns line : List ℕ} → Plain p → Derives p ns line → alike p step_form ≡ false → alike p find_form ≡ false → alike p insert_form ≡ false → alike p delete_form ≡ false
    → read_form line ≡ read_withdraw line
unfolding read_form read_begin
past_begin h d s f i e =
    skip_row step_form as_step _ h plain_step s d
    ∙ skip_row find_form (as_begin Operation.Find) _ h plain_find f d
    ∙ skip_row insert_form as_insert _ h plain_insert i d
    ∙ skip_row delete_form (as_begin Operation.Delete) _ h plain_delete e d

withdraw_read : (q : ℕ) (line : List ℕ) → Derives withdraw_form (q ∷ []) line → read_form line ≡ Some (Form.Withdraw q)
unfolding read_withdraw alike padded
withdraw_read q line d = past_begin plain_withdraw d refl refl refl refl ∙ take_row as_withdraw _ plain_withdraw d

format_read : (s : FileSizes) (line : List ℕ) → Derives format_form (size_numbers s) line → read_form line ≡ Some (Form.Format s)
unfolding read_withdraw read_format alike padded size_numbers
format_read s line d =
    past_begin plain_format d refl refl refl refl ∙ skip_row withdraw_form as_withdraw _ plain_format plain_withdraw refl d ∙ take_row as_format _ plain_format d

take_up_read : (line : List ℕ) → Derives take_up_form [] line → read_form line ≡ Some Form.TakeUp
unfolding read_withdraw read_format read_take_up alike padded
take_up_read line d =
    past_begin plain-take_up d refl refl refl refl
    ∙ skip_row withdraw_form as_withdraw _ plain-take_up plain_withdraw refl d
    ∙ skip_row format_form as_format _ plain-take_up plain_format refl d
    ∙ take_row as_take_up _ plain-take_up d

pub form_read : (f : Form) (line : List ℕ) → FormLine f line → read_form line ≡ Some f
unfolding FormLine form_pattern form_numbers read_form padded
form_read (Form.Format s) line d = format_read s line d
form_read (Form.Begin q o k) line d = begin_read q o k line d
form_read (Form.Step q) line d = take_row as_step _ plain_step d
form_read (Form.Withdraw q) line d = withdraw_read q line d
form_read Form.TakeUp line d = take_up_read line d

-- ---- A line that is read is derived by the grammar

-- A row's form is read as itself.
row_form : (f g : Form) (ns line : List ℕ) → form_numbers g ≡ ns → Derives (form_pattern g) ns line → Some g ≡ Some f → FormLine f line
unfolding FormLine
row_form f g ns line same d e =
    let equal : g ≡ f = cc in
    let derived : Derives (form_pattern g) (form_numbers g) line = rw same d in
    subst (λ (x : Form). Derives (form_pattern x) (form_numbers x) line) equal derived

find_row : (f : Form) (line ns : List ℕ) → length ns ≡ 2 → Derives find_form ns line → as_begin Operation.Find (padded ns) ≡ Some f → FormLine f line
unfolding form_pattern form_numbers operation_numbers
find_row f line ns long d e = row_form f (Form.Begin (get_or (padded ns) 0 0) Operation.Find (get_or (padded ns) 1 0)) ns line (two_numbers ns long) d e

insert_row : (f : Form) (line ns : List ℕ) → length ns ≡ 3 → Derives insert_form ns line → as_insert (padded ns) ≡ Some f → FormLine f line
unfolding form_pattern form_numbers operation_numbers
insert_row f line ns long d e =
    row_form f (Form.Begin (get_or (padded ns) 0 0) (Operation.Insert (get_or (padded ns) 2 0)) (get_or (padded ns) 1 0)) ns line (three_numbers ns long) d e

delete_row : (f : Form) (line ns : List ℕ) → length ns ≡ 2 → Derives delete_form ns line → as_begin Operation.Delete (padded ns) ≡ Some f → FormLine f line
unfolding form_pattern form_numbers operation_numbers
delete_row f line ns long d e = row_form f (Form.Begin (get_or (padded ns) 0 0) Operation.Delete (get_or (padded ns) 1 0)) ns line (two_numbers ns long) d e

take_up_row : (f : Form) (line : List ℕ) → read_take_up line ≡ Some f → FormLine f line
unfolding read_take_up form_pattern form_numbers holes
take_up_row f line =
    row_sound_lem take_up_form line as_take_up None (λ ns long d e. row_form f Form.TakeUp ns line (no_number ns long) d e)
    (λ e. cc)

format_row : (f : Form) (line : List ℕ) → read_format line ≡ Some f → FormLine f line
unfolding read_format form_pattern form_numbers size_numbers holes
format_row f line =
    row_sound_lem format_form line as_format (read_take_up line)
    (λ ns long d e. row_form f (Form.Format (record { originals = get_or (padded ns) 0 0; capacity = get_or (padded ns) 1 0; primaries = get_or (padded ns) 2 0; overflow = get_or (padded ns) 3 0; parties = get_or (padded ns) 4 0 })) ns line (five_numbers ns long) d e)
    (take_up_row f line)

withdraw_row : (f : Form) (line : List ℕ) → read_withdraw line ≡ Some f → FormLine f line
unfolding read_withdraw form_pattern form_numbers holes
withdraw_row f line =
    row_sound_lem withdraw_form line as_withdraw (read_format line) (λ ns long d e. row_form f (Form.Withdraw (get_or (padded ns) 0 0)) ns line (one_number ns long) d e) (format_row f line)

pub read_form_lem : (f : Form) (line : List ℕ) → read_form line ≡ Some f → FormLine f line
unfolding read_form read_begin form_pattern form_numbers holes
read_form_lem f line =
    row_sound_lem step_form line as_step (read_begin line) (λ ns long d e. row_form f (Form.Step (get_or (padded ns) 0 0)) ns line (one_number ns long) d e)
    (row_sound_lem find_form line (as_begin Operation.Find) _ (find_row f line)
    (row_sound_lem insert_form line as_insert _ (insert_row f line)
    (row_sound_lem delete_form line (as_begin Operation.Delete) _ (delete_row f line) (withdraw_row f line))))

-- ---- What follows

-- A line is at most one form.
pub one_form : (f g : Form) (line : List ℕ) → FormLine f line → FormLine g line → f ≡ g
one_form f g line d e =
    let as_f = form_read f line d in
    let as_g = form_read g line e in
    cc

-- A line that is unread is no form.
pub unread_form : (line : List ℕ) → read_form line ≡ None → (f : Form) → FormLine f line → ⊥
unread_form line e f d =
    let as_f = form_read f line d in
    cc

-- The numbers of a form fit 32 bits, as those of the code do.
unfoldable pub FormFits : Form → Type 0
FormFits f = Small (form_numbers f)

form_holes : (f : Form) → length (form_numbers f) ≡ holes (form_pattern f)
unfolding form_numbers form_pattern size_numbers operation_numbers holes
form_holes (Form.Format s) = refl
form_holes (Form.Begin q Operation.Find k) = refl
form_holes (Form.Begin q (Operation.Insert x) k) = refl
form_holes (Form.Begin q Operation.Delete k) = refl
form_holes (Form.Step q) = refl
form_holes (Form.Withdraw q) = refl
form_holes Form.TakeUp = refl

pub printed_form_read : (f : Form) → FormFits f → read_form (form_text f) ≡ Some f
unfolding FormFits FormLine form_text
printed_form_read f small = form_read f (form_text f) (filled_derived (form_pattern f) (form_numbers f) (form_holes f) small)

-- ---- How long a form is

pub form_short : (f : Form) → length (form_text f) ≤ longest_form
unfolding form_text form_pattern longest
form_short (Form.Format s) = filled_short format_form (form_numbers (Form.Format s))
form_short (Form.Begin q Operation.Find k) = omega (arith, filled_short find_form (form_numbers (Form.Begin q Operation.Find k)))
form_short (Form.Begin q (Operation.Insert x) k) = omega (arith, filled_short insert_form (form_numbers (Form.Begin q (Operation.Insert x) k)))
form_short (Form.Begin q Operation.Delete k) = omega (arith, filled_short delete_form (form_numbers (Form.Begin q Operation.Delete k)))
form_short (Form.Step q) = omega (arith, filled_short step_form (form_numbers (Form.Step q)))
form_short (Form.Withdraw q) = omega (arith, filled_short withdraw_form (form_numbers (Form.Withdraw q)))
form_short Form.TakeUp = omega (arith, filled_short take_up_form (form_numbers Form.TakeUp))

-- A form that is printed stands at its place and is read again from there.
pub printed_form_there : (f : Form) (out : List ℕ) (at : ℕ) → FormFits f → at + longest_form ≤ length out
    → read_form (take (length (form_text f)) (drop at (sets out at (given (length out) at longest_form (form_text f))))) ≡ Some f
printed_form_there f out at small room =
    let text : given (length out) at longest_form (form_text f) ≡ form_text f = is-given (length out) at longest_form (form_text f) room in
    rw (text, put_there at out (form_text f) (omega (arith, form_short f))) (printed_form_read f small)
