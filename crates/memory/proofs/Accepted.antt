-- What holds of the sizes and the lent lengths once format meets no cause of refusal.
-- Main statements: can_format (what format_words asks), row_fits and waiting_fits (as many records, and as
-- many words of the waiting row, as the sizes ask for).
use mathlib.Core.Path.{◌≡◌}
use mathlib.Core.Bool.{true, false}
use Rattle.std.specs.Prelude.{Ok}
use borrow.Author.Tests.{eqb-true, not-false}
use Rattle.model.specs.declared.Root.{Root}
use Rattle.model.specs.Sizes.{within_limits, lock_words, all_page_words}
use Rattle.model.proofs.Laws.Lists.{All}
use Rattle.model.proofs.Laws.Booleans.{and_left, and_right}
use Rattle.model.proofs.Theorems.Gate.{none_met}
use Rattle.model.proofs.Invariant.Start.{limits_within}
use Rattle.refusals.specs.declared.Lengths.{Lengths}
use Rattle.refusals.specs.Causes.{lengths_are, file_rows, format_cause}
use Rattle.memory.specs.Lent.{CanFormat}

module _ (r : Root) (l : Lengths) (none : format_cause r l ≡ Ok tt) where
  unmet : All (λ x. x.met ≡ false) (file_rows r l)
  unfolding format_cause
  unmet = none_met (file_rows r l) none

  lengths : lengths_are r l ≡ true
  lengths = not-false (lengths_are r l) unmet.1.0

  pub can_format : CanFormat r l.locks l.pages
  unfolding lengths_are
  can_format =
      let limits = limits_within r (not-false (within_limits r) unmet.0) in
      let are = lengths in
      record {
        sizes_fit = record { chains_fit_ok = limits.chains_fit_ok; overflow_fits = limits.overflow_fits };
        locks_fit = eqb-true l.locks (lock_words r) (search (and_left, and_right));
        pages_fit = eqb-true l.pages (all_page_words r) (search (and_left, and_right));
      }

  pub row_fits : l.parties ≡ r.parties
  unfolding lengths_are
  row_fits = let are = lengths in eqb-true l.parties r.parties (search (and_left, and_right))

  pub waiting_fits : l.waiting ≡ r.parties
  unfolding lengths_are
  waiting_fits = let are = lengths in eqb-true l.waiting r.parties (search (and_left, and_right))
