-- Where a party's scratch page is found.
-- Main statements: ready_has_scratch (for every view that is Ready), still_has_scratch (after the root record and the page words changed).
use mathlib.Core.Path.{◌≡◌}
use mathlib.Core.List.{List}
use Prim.Native.Nat.{ℕ}
use native.Mathlib.Omega.{arith}
use lib.ListN.{length}
use Rattle.model.specs.declared.Root.{Root}
use Rattle.model.specs.Outcome.{View}
use Rattle.model.specs.Ready.{Ready}
use Rattle.endings.specs.Scratch.{HasScratch}

pub ready_has_scratch : (v : View) → Ready v → HasScratch v.root v.number v.pages
ready_has_scratch v ready = record { number_fits = omega arith; page_fits = omega arith }

-- The sizes and the length of the page memory decide.
pub still_has_scratch : (r r' : Root) (q : ℕ) (ps ps' : List ℕ) → r'.primaries ≡ r.primaries → r'.overflow ≡ r.overflow → length ps' ≡ length ps
    → HasScratch r q ps → HasScratch r' q ps'
still_has_scratch r r' q ps ps' c o l h = record { number_fits = omega arith; page_fits = omega arith }
