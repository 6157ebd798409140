-- A begin by its number, where the number is an operation's, and where it is none.
-- Main statements: begun_by_number, no_operation.
use mathlib.Core.Path.{◌≡◌, refl, sym, ap, ◌∙◌}
use mathlib.Core.Bool.{Bool, true, false, cond}
use Prim.Native.Nat.{ℕ}
use Rattle.std.specs.Prelude.{Option, Some, None}
use Rattle.model.specs.declared.Operation.{Operation}
use Rattle.model.specs.Answers.{CallReply, refusal_number}
use Rattle.model.specs.Memory.{Memory}
use Rattle.model.specs.Calls.{Called, called, begin_call}
use Rattle.bead.specs.Numbers.{is_operation, operation_of, operation_named, numbered, begin_numbered}

module _ (m : Memory) (q n k x : ℕ) where
  -- What is begun, by the operation that the number names.
  abbrev made : Option Operation → Called ℕ
  made (Some o) = numbered refusal_number (begin_call m q o k)
  made None = called 255 m

  begin_by : made (operation_named n x) ≡ begin_numbered m q n k x
  unfolding begin_numbered
  begin_by = go (is_operation n)
    where
      go : (t : Bool) → made (cond t (Some (operation_of n x)) None) ≡ cond t (numbered refusal_number (begin_call m q (operation_of n x) k)) (called 255 m)
      go true = refl
      go false = refl

  pub begun_by_number : {o : Operation} {a : CallReply} {y : ℕ} {m' : Memory} → operation_named n x ≡ Some o → y ≡ refusal_number a → called a m' ≡ begin_call m q o k → called y m' ≡ begin_numbered m q n k x
  begun_by_number {m' = m'} named number said =
      ap (λ (z : ℕ). called z m') number ∙ ap (numbered refusal_number) said ∙ ap made (sym named) ∙ begin_by

  pub no_operation : operation_named n x ≡ None → called 255 m ≡ begin_numbered m q n k x
  no_operation named = ap made (sym named) ∙ begin_by
