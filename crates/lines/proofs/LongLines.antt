-- Lines longer than every form: they are not read, so that of an unfinished one no more than a form's bytes and one
-- has to be kept.
-- Main statements: form_line_short, long_unread, long_alike (which long line is under way makes no difference),
-- cut_alike (a long line cut).
use mathlib.Core.Path.{◌≡◌, refl, sym, ◌∙◌, ap}
use mathlib.Core.Bool.{Bool, true, false, cond}
use mathlib.Core.List.{List, [], ◌∷◌, ◌++◌}
use Prim.Native.Nat.{ℕ, ◌+◌, ◌<◌, ◌≤◌}
use native.Mathlib.Nat.{lt_irrefl}
use native.Mathlib.Omega.{arith}
use lib.ListN.{length, take, length-append}
use lib.Seq.{length-take-le}
use lib.Dec.{eqb}
use Rattle.std.specs.Prelude.{Option, None, Some}
use Rattle.model.specs.declared.Operation.TheVariants as Operation
use Rattle.model.specs.Memory.{Memory}
use Rattle.model.specs.Calls.{Called, called}
use Rattle.model.proofs.Laws.Lists.{eqb_same, eqb-diff}
use Rattle.patterns.specs.Patterns.{hole}
use Rattle.patterns.specs.Grammar.{Derives, end, byte, number}
use Rattle.patterns.proofs.Theorems.{longest}
use Rattle.forms.specs.declared.Form.{Form}
use Rattle.forms.specs.declared.Reply.{Reply}
use Rattle.forms.specs.Forms.{form_pattern, FormLine}
use Rattle.forms.specs.Reading.{read_form}
use Rattle.forms.specs.Printing.{longest_form}
use Rattle.forms.proofs.FormTheorems.{read_form_lem}
use Rattle.lines.specs.Lines.{answered_as, line_answered}
use Rattle.lines.specs.Texts.{newline, printed_before, reply_line, text_answered}

-- No line that a pattern derives is longer than the pattern's longest.
derived_short : {p ns l : List ℕ} → Derives p ns l → length l ≤ longest p
unfolding longest
derived_short end = omega arith
derived_short (byte {b} {p} {ns} {l} n d) = rw (eqb-diff b hole n) (omega (arith, derived_short d))
derived_short (number {b} {v} {p} {ns} {ds} {l} h x d) = rw (eqb_same b hole h, length-append ds l) (omega (arith, x.few, derived_short d))

pub form_line_short : (f : Form) (line : List ℕ) → FormLine f line → length line ≤ longest_form
unfolding FormLine form_pattern longest
form_line_short (Form.Format s) line d = derived_short d
form_line_short (Form.Begin q Operation.Find k) line d = omega (arith, derived_short d)
form_line_short (Form.Begin q (Operation.Insert x) k) line d = omega (arith, derived_short d)
form_line_short (Form.Begin q Operation.Delete k) line d = omega (arith, derived_short d)
form_line_short (Form.Step q) line d = omega (arith, derived_short d)
form_line_short (Form.Withdraw q) line d = omega (arith, derived_short d)
form_line_short Form.TakeUp line d = omega (arith, derived_short d)

pub long_unread : (line : List ℕ) → longest_form < length line → read_form line ≡ None
long_unread line h = go (read_form line) refl
  where
    go : (r : Option Form) → read_form line ≡ r → r ≡ None
    go None e = refl
    go (Some f) e = let short = form_line_short f line (read_form_lem f line e) in absurd (lt_irrefl 0 (omega (arith, h, short)))

-- A long line is answered unread, and alters nothing.
long_answered : (line : List ℕ) (m : Memory) → longest_form < length line → line_answered line m ≡ called Reply.Unread m
unfolding line_answered answered_as
long_answered line m h = rw (long_unread line h) refl

-- What follows is answered the same after any two long lines.
pub long_alike : (t l k : List ℕ) (m : Memory) → longest_form < length l → longest_form < length k → text_answered l t m ≡ text_answered k t m
unfolding text_answered
long_alike [] l k m hl hk = refl
long_alike (b ∷ t) l k m hl hk =
    go (eqb b newline) (long_alike t (l ++ (b ∷ [])) (k ++ (b ∷ [])) m (rw (length-append l (b ∷ [])) (omega (arith, hl))) (rw (length-append k (b ∷ [])) (omega (arith, hk))))
  where
    answered : Called Reply → Called (List ℕ)
    answered c = printed_before (reply_line c.answer) (text_answered [] t c.memory)

    go : (x : Bool) → text_answered (l ++ (b ∷ [])) t m ≡ text_answered (k ++ (b ∷ [])) t m
        → cond x (answered (line_answered l m)) (text_answered (l ++ (b ∷ [])) t m) ≡ cond x (answered (line_answered k m)) (text_answered (k ++ (b ∷ [])) t m)
    go true later = ap answered (long_answered l m hl ∙ sym (long_answered k m hk))
    go false later = later

-- A long line under way may be cut, as turns cuts it, to one byte more than a form has.
pub cut_alike : (l t : List ℕ) (m : Memory) → longest_form < length l → text_answered (take (longest_form + 1) l) t m ≡ text_answered l t m
cut_alike l t m h = long_alike t (take (longest_form + 1) l) l m (rw (length-take-le (longest_form + 1) l (omega (arith, h))) (omega arith)) h
