-- Pages drawn from the free list can be filled.
-- Main statement: drawn_fills.
use Prim.Native.Nat.{ℕ, ◌+◌, ◌*◌, ◌≤◌}
use mathlib.Core.List.{List}
use native.Mathlib.Omega.{arith}
use lib.ListN.{length}
use Rattle.model.specs.declared.Root.{Root}
use Rattle.model.specs.Sizes.{page_words}
use Rattle.model.proofs.Laws.Filling.{IsOverflow}
use Rattle.chains.specs.Links.{LeadsApart}
use Rattle.chains.proofs.Links.{leads_map}
use Rattle.chain_writer.specs.Writing.{CanFill}

pub drawn_fills : (r : Root) (ps : List ℕ) (k l : ℕ) → page_words * (r.primaries + r.overflow) ≤ length ps → LeadsApart (IsOverflow r) ps k l → CanFill ps k l
drawn_fills r ps k l fits f = record { leads = leads_map ps (λ x o. record { fits = omega (arith, o.below, fits) }) f.leads; distinct = f.distinct }
