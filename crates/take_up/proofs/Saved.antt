-- The conditions together: a file with a row of zero records passes exactly where its words do.
-- Main statements: locks_fail, scratch_fails, root_fails, beyond_fails, chains_fail, count_fails (a condition that
-- does not hold); free_decides (where all others hold).
use mathlib.Core.Path.{◌≡◌, refl, sym, ◌∙◌}
use mathlib.Core.Bool.{Bool, true, false, ◌&&◌}
use mathlib.Core.List.{List}
use Prim.Native.Nat.{ℕ, zero, suc, ◌+◌, ◌-◌}
use lib.ListN.{replicate}
use lib.Dec.{eqb}
use Rattle.model.specs.declared.Root.{Root}
use Rattle.model.specs.Records.{idle}
use Rattle.model.specs.Addresses.{count_of_chains}
use Rattle.model.specs.Pages.{scratch_page}
use Rattle.model.specs.FreeList.{pages_taken}
use Rattle.model.specs.Memory.{Memory}
use Rattle.model.specs.Refusals.{root_sound}
use Rattle.model.specs.WaitingRow.{all_zero}
use Rattle.model.specs.TakeUp.{zero_pages, is_zero_record, all_idle, parties_rest, locks_clear, scratch_clear, chains_fit, chains_saved, beyond_clear, free_if_sound, free_saved, pages_once, row_clear, is_saved}
use Rattle.model.proofs.Laws.Lists.{Told, holds, fails, tell, and_both, both-and, left_fails, right_fails}
use Rattle.take_up.specs.Seen.{pages_counted, at_rest, CanSurvey}
use Rattle.take_up.proofs.Records.{same_test}
use Rattle.take_up.proofs.Chain.{facts}
use Rattle.take_up.proofs.Once.{counted_once}

all_rest : (q : ℕ) → all_idle (replicate q idle) ≡ true
unfolding all_idle is_zero_record all_zero
all_rest zero = refl
all_rest (suc q) = all_rest q

row_rests : (q : ℕ) → all_zero (replicate q 0) ≡ true
unfolding all_zero
row_rests zero = refl
row_rests (suc q) = row_rests q

module _ (r : Root) (ls ps : List ℕ) where
  abbrev m : Memory
  m = at_rest r ls ps

  abbrev n : ℕ
  n = count_of_chains r

  pub locks_fail : all_zero ls ≡ false → false ≡ is_saved m
  unfolding is_saved locks_clear
  locks_fail e = sym (left_fails _ (left_fails _ (left_fails _ (left_fails _ (left_fails _ (left_fails _ (left_fails _ (right_fails (parties_rest m) e))))))))

  pub scratch_fails : zero_pages ps r.parties (scratch_page r 0) ≡ false → false ≡ is_saved m
  unfolding is_saved scratch_clear
  scratch_fails e = sym (left_fails _ (left_fails _ (left_fails _ (left_fails _ (left_fails _ (left_fails _ (right_fails (parties_rest m && locks_clear m) e)))))))

  pub root_fails : root_sound r ≡ false → false ≡ is_saved m
  unfolding is_saved
  root_fails e = sym (left_fails _ (left_fails _ (left_fails _ (left_fails _ (left_fails _ (right_fails (parties_rest m && locks_clear m && scratch_clear m) e))))))

  pub chains_fail : chains_fit r ps n 0 ≡ false → false ≡ is_saved m
  unfolding is_saved chains_saved
  chains_fail e = sym (left_fails _ (left_fails _ (left_fails _ (left_fails _ (right_fails (parties_rest m && locks_clear m && scratch_clear m && root_sound r) e)))))

  pub beyond_fails : zero_pages ps (r.primaries - n) n ≡ false → false ≡ is_saved m
  unfolding is_saved beyond_clear
  beyond_fails e = sym (left_fails _ (left_fails _ (left_fails _ (right_fails (parties_rest m && locks_clear m && scratch_clear m && root_sound r && chains_saved m) e))))

  abbrev before : Bool
  before = parties_rest m && locks_clear m && scratch_clear m && root_sound r && chains_saved m && beyond_clear m

  module _ (can : CanSurvey r ps) (chains : chains_fit r ps n 0 ≡ true) where
    pub count_fails : eqb (pages_counted r ps n 0 + r.free) r.overflow ≡ false → false ≡ is_saved m
    unfolding is_saved free_saved pages_once
    count_fails e = go (tell (free_if_sound ps (pages_taken r ps r.free)))
      where
        go : Told (free_if_sound ps (pages_taken r ps r.free)) → false ≡ is_saved m
        go (holds t) = sym (left_fails _ (right_fails (before && free_saved m) (sym (counted_once r ls ps (facts r ps can) chains t) ∙ e)))
        go (fails t) = sym (left_fails _ (left_fails _ (right_fails before t)))

    pub free_decides : all_zero ls ≡ true → zero_pages ps r.parties (scratch_page r 0) ≡ true → zero_pages ps (r.primaries - n) n ≡ true
        → eqb (pages_counted r ps n 0 + r.free) r.overflow ≡ true → free_if_sound ps (pages_taken r ps r.free) ≡ is_saved m
    unfolding is_saved parties_rest locks_clear scratch_clear chains_saved beyond_clear free_saved pages_once row_clear
    free_decides locks scratch beyond counts =
        same_test (free_if_sound ps (pages_taken r ps r.free)) (is_saved m)
        (λ t.
        both-and
        (both-and (both-and (both-and (both-and (both-and (both-and (both-and (all_rest r.parties) locks) scratch) can.root_sound_ok) chains) beyond) t)
        (sym (counted_once r ls ps (facts r ps can) chains t) ∙ counts))
        (row_rests r.parties))
        (λ t.
        (and_both before (free_saved m)
        (and_both (before && free_saved m) (pages_once m) (and_both (before && free_saved m && pages_once m) (row_clear m) t).0).0).1)
