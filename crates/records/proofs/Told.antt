-- What `?` hands on of a damaged number: the refusal for damage.
-- Main statement: told.
use mathlib.Core.Path.{◌≡◌, ap}
use Rattle.std.specs.Prelude.{Result, Ok, Err, IsErr, IsErrAnd}
use Rattle.model.specs.declared.Refusal.{Refusal}

pub told : {A : Type 0} (r : Result A Refusal) → IsErr r × IsErrAnd r (λ c. c ≡ Refusal.Damage) → r ≡ Err Refusal.Damage
told (Ok a) e = absurd e.1
told (Err c) e = ap Err e.1
