-- A step that gives locks up: refused where one is not held, and what follows where all are.
-- Main statements: unheld_refused and held_goes_on, whatever follows, over what `give_up` ensures.
use mathlib.Core.Path.{◌≡◌, refl, ap, ◌∙◌, sym}
use mathlib.Core.Bool.{Bool, true, false, false≢true}
use mathlib.Core.List.{List}
use Rattle.std.specs.Prelude.{Result, Ok, Err, is_err, ⊤}
use Rattle.model.specs.declared.Damaged.{Damaged}
use Rattle.model.specs.declared.Refusal.{Refusal}
use Rattle.model.specs.LockWords.{Claim}
use Rattle.model.specs.Answers.{StepReply}
use Rattle.model.specs.Outcome.{View, Outcome, outcome, guarded}
use Rattle.model.specs.LockRequests.{held_all, given_up}
use Rattle.lock_requests.specs.Locks.{held_or_damaged, after_giving_up}

is_unheld : (b : Bool) {r : Result ⊤ Damaged} {d : Damaged} → r ≡ held_or_damaged b → r ≡ Err d → b ≡ false
is_unheld true t e = absurd (false≢true (ap is_err (sym t ∙ e)))
is_unheld false t e = refl

is_held : (b : Bool) {r : Result ⊤ Damaged} {u : ⊤} → r ≡ held_or_damaged b → r ≡ Ok u → b ≡ true
is_held true t e = refl
is_held false t e = absurd (false≢true (ap is_err (sym e ∙ t)))

-- r is what `give_up` answered, w the view that it left.
module _ (v : View) (cs : List Claim) {r : Result ⊤ Damaged} {w : View} (told : r ≡ held_or_damaged (held_all v cs)) (left : w ≡ after_giving_up cs v) where
  pub unheld_refused : {a : StepReply} (o : Outcome) {d : Damaged} → r ≡ Err d → a ≡ Err Refusal.Damage → outcome a w ≡ guarded v (held_all v cs) o
  unheld_refused o e ea = rw (left, ea, is_unheld (held_all v cs) told e)

  pub held_goes_on : (f : View → Outcome) {u : ⊤} → r ≡ Ok u → f w ≡ guarded v (held_all v cs) (f (given_up cs v))
  held_goes_on f e = rw (left, is_held (held_all v cs) told e)
