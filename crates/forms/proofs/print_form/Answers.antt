-- `forms::print_form` meets its contract.
use mathlib.Core.Path.{sym}
use native.Mathlib.Omega.{arith}
use lib.ListN.{length}
use Rattle.forms.specs.Forms.{form_text}
use Rattle.forms.specs.Printing.{longest_form}
use Rattle.forms.proofs.Puts.{put_as, put_nothing, is-given, not-given}
use Rattle.forms.proofs.print_form.Goals as goal

pub returns-then-saturating_sub-lt-LONGEST_FORM : goal.returns-then-saturating_sub-lt-LONGEST_FORM
returns-then-saturating_sub-lt-LONGEST_FORM c =
    let a = c.args in
    put_nothing a.at a.out.now _ (not-given (length a.out.now) a.at longest_form (form_text a.form) (omega arith))

pub returns : goal.returns
returns c =
    let a = c.args in
    put_as _ _ _ _ (sym (is-given (length a.out.now) a.at longest_form (form_text a.form) (omega arith))) c.put_form.ensures
