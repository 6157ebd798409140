-- `take_up::pages_zero` meets its contract.
use mathlib.Core.Path.{◌≡◌, ap, ◌∙◌}
use Prim.Native.Nat.{ℕ, ◌-◌, ◌*◌}
use native.Mathlib.Omega.{arith}
use lib.ListN.{take, drop}
use Rattle.model.specs.Sizes.{page_words}
use Rattle.model.specs.WaitingRow.{all_zero}
use Rattle.take_up.proofs.Words.{pages_words}
use Rattle.take_up.proofs.pages_zero.Goals as goal

pub returns : goal.returns
returns c =
    let a = c.args in
    let ps = a.pages.now in
    let long : a.to * page_words - a.from * page_words ≡ (a.to - a.from) * page_words = omega arith in
    c.all_zero.ensures ∙ ap (λ (k : ℕ). all_zero (take k (drop (a.from * page_words) ps))) long ∙ pages_words ps (a.to - a.from) a.from (omega (arith, c.requires.0, c.requires.1))
