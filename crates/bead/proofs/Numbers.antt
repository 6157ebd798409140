-- The numbers of operations, there and back.
-- Main statements: operation_of_number (each operation is that of its number and its setting), is_operation_number
-- (that number is an operation's).
use mathlib.Core.Path.{◌≡◌, refl}
use mathlib.Core.Bool.{true}
use Rattle.model.specs.declared.Operation.{Operation}
use Rattle.model.specs.Answers.{operation_number, setting_given}
use Rattle.bead.specs.Numbers.{is_operation, operation_of}

pub operation_of_number : (o : Operation) → operation_of (operation_number o) (setting_given o) ≡ o
unfolding operation_of operation_number setting_given
operation_of_number Operation.Find = refl
operation_of_number (Operation.Insert x) = refl
operation_of_number Operation.Delete = refl

pub is_operation_number : (o : Operation) → is_operation (operation_number o) ≡ true
unfolding is_operation operation_number
is_operation_number Operation.Find = refl
is_operation_number (Operation.Insert x) = refl
is_operation_number Operation.Delete = refl
