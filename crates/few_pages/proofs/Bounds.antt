-- How many new pages a chain of few pages needs.
-- Main statements: few_pages_lem (8 * b + 1 records need eight overflow pages at most); front_many, front_need (the
-- number and the need of the records at the front of words).
use mathlib.Core.Path.{◌≡◌, sym, ap, ◌∙◌}
use mathlib.Core.List.{List}
use Prim.Native.Nat.{ℕ, ◌+◌, ◌*◌, ◌≤◌, ◌<◌}
use native.Mathlib.Nat.{lt_of_mul-lt-mul_right}
use native.Mathlib.Omega.{arith}
use lib.ListN.{length, take}
use lib.Seq.{length-take-le}
use Rattle.model.specs.Sizes.{record_words}
use Rattle.model.specs.Pages.{records_in}
use Rattle.model.specs.Filling.{overflow_needed, pages_for}
use Rattle.model.proofs.Laws.Filling.{needed_exact}
use Rattle.model.proofs.Laws.RecordWords.{length_records}

pub few_pages_lem : (b m : ℕ) → 1 ≤ b → m ≤ 8 * b + 1 → overflow_needed b m ≤ 8
few_pages_lem b m some few =
    let k = overflow_needed b m in
    let less : k * b < 9 * b = omega (arith, (needed_exact b m (omega arith)).none_empty) in
    let fewer : k < 9 = lt_of_mul-lt-mul_right b less in
    omega arith

-- The m records at the front of words that have them.
module _ (m : ℕ) (words : List ℕ) (fits : m * record_words ≤ length words) where
  pub front_many : length (take m (records_in words)) ≡ m
  front_many = length-take-le m (records_in words) (omega (arith, length_records words))

  pub front_need : (b : ℕ) {k : ℕ} → k ≡ overflow_needed b m → k ≡ pages_for b (take m (records_in words))
  unfolding pages_for
  front_need b e = e ∙ ap (overflow_needed b) (sym front_many)
