-- A root record whose sizes, level and next are within their limits (document 01, "What it covers" and "Refused calls").
-- Main definition: RootFits. Every view that is Ready has such a root.
use Rattle.std.specs.Prelude.{◌≤◌, ◌<◌}
use Rattle.model.specs.declared.Root.{Root}
use Rattle.model.specs.Addresses.{span}

-- N is 1 to 256, level at most 8, next below N × 2^level.
pub record RootFits (r : Root) : Type 0 where
  pub some_original : 1 ≤ r.originals
  pub originals_fit : r.originals ≤ 256
  pub level_fits : r.level ≤ 8
  pub next_fits : r.next < span r.originals r.level
