-- `merge_write::lowered` meets its contract: a page has a first word.
use mathlib.Core.Path.{◌≡◌, refl, ap, ◌∙◌}
use mathlib.Core.List.{List, [], ◌∷◌}
use Prim.Native.Nat.{ℕ, ◌-◌, ◌<◌}
use native.Mathlib.Omega.{arith}
use lib.ListN.{length, set, drop}
use borrow.Author.Rules.{rules}
use Rattle.model.specs.Pages.{with_local_level}
use Rattle.merge_write.proofs.lowered.Goals as goal

set_first : (w : List ℕ) (x : ℕ) → 0 < length w → set w 0 x ≡ x ∷ drop 1 w
set_first [] x h = absurd (omega arith)
set_first (y ∷ w) x h = refl

pub returns : goal.returns
unfolding with_local_level
returns c =
    let w = c.args.w in
    let sixteen : length w ≡ 16 = search rules in
    set_first w (c.level_of.result - 1) (omega arith) ∙ ap (λ (n : ℕ). (n - 1) ∷ drop 1 w) c.level_of.ensures
