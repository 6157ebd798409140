-- The forms that turns reads (document 01, "The turns program"; document 02, changes 2 and 6): each has a pattern and
-- the numbers in it.
-- Main definitions: form_pattern and form_numbers, a row for each form; FormLine (the lines that the grammar derives
-- for a form); form_text (as it is printed).
use Rattle.std.specs.Prelude.{List, [], ◌∷◌, ℕ}
use Rattle.model.specs.declared.FileSizes.{FileSizes}
use Rattle.model.specs.declared.Operation.{Operation}
use Rattle.patterns.specs.Texts.{bytes}
use Rattle.patterns.specs.Patterns.{filled}
use Rattle.patterns.specs.Grammar.{Derives}
use Rattle.forms.specs.declared.Form.{Form}

abbrev pub step_form : List ℕ
step_form = bytes "(step #)"

abbrev pub withdraw_form : List ℕ
withdraw_form = bytes "(withdraw #)"

abbrev pub take_up_form : List ℕ
take_up_form = bytes "(take-up)"

abbrev pub format_form : List ℕ
format_form = bytes "(format # # # # #)"

abbrev pub find_form : List ℕ
find_form = bytes "(begin # (find #))"

abbrev pub insert_form : List ℕ
insert_form = bytes "(begin # (insert # #))"

abbrev pub delete_form : List ℕ
delete_form = bytes "(begin # (delete #))"

abbrev pub begin_form : Operation → List ℕ
begin_form Operation.Find = find_form
begin_form (Operation.Insert x) = insert_form
begin_form Operation.Delete = delete_form

unfoldable pub form_pattern : Form → List ℕ
form_pattern (Form.Format s) = format_form
form_pattern (Form.Begin q o k) = begin_form o
form_pattern (Form.Step q) = step_form
form_pattern (Form.Withdraw q) = withdraw_form
form_pattern Form.TakeUp = take_up_form

-- "(format N b P V Q)".
unfoldable pub size_numbers : FileSizes → List ℕ
size_numbers s = s.originals ∷ (s.capacity ∷ (s.primaries ∷ (s.overflow ∷ (s.parties ∷ []))))

-- "(insert 7 5)": the key, then the setting; a find and a delete have the key alone.
unfoldable pub operation_numbers : Operation → ℕ → List ℕ
operation_numbers Operation.Find k = k ∷ []
operation_numbers (Operation.Insert x) k = k ∷ (x ∷ [])
operation_numbers Operation.Delete k = k ∷ []

unfoldable pub form_numbers : Form → List ℕ
form_numbers (Form.Format s) = size_numbers s
form_numbers (Form.Begin q o k) = q ∷ operation_numbers o k
form_numbers (Form.Step q) = q ∷ []
form_numbers (Form.Withdraw q) = q ∷ []
form_numbers Form.TakeUp = []

-- The lines that are this form: numbers of one to ten digits, single spaces, nothing before or after.
unfoldable pub FormLine : Form → List ℕ → Type 0
FormLine f line = Derives (form_pattern f) (form_numbers f) line

-- A form as it is printed, its numbers without leading zeros.
unfoldable pub form_text : Form → List ℕ
form_text f = filled (form_pattern f) (form_numbers f)
