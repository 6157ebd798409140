-- The invariant holds of every reachable memory.
-- Main statements: started_inv, reached_inv; final_append (one list of calls after another).
use mathlib.Core.Path.{◌≡◌, refl}
use mathlib.Core.List.{List, [], ◌∷◌, ◌++◌}
use Prim.Native.Nat.{ℕ}
use Rattle.model.specs.Records.{idle}
use Rattle.model.specs.Memory.{Memory, party_at}
use Rattle.model.specs.Runs.{Call, after_call, final_memory}
use Rattle.theory.specs.Demands.{Start, start, Reached, book_reached, book_start}
use Rattle.model.proofs.Invariant.Statement.{Inv}
use Rattle.model.proofs.TakingUp.Sound.{saved_inv, idle_at}
use Rattle.model.proofs.Theorems.Calls.{run_inv}
use Rattle.model.proofs.Theorems.AllSteps.{steps_kept}

-- Memory that passes take-up has the invariant.
pub started_inv : (s : Start) → Inv (start s) (book_start s)
started_inv s = saved_inv s.memory s.sizes_fit s.lengths_fit_ok s.saved

-- Everybody is idle at the start.
pub started-idle : (s : Start) (q : ℕ) → party_at (start s).parties q ≡ idle
started-idle s q = idle_at s.memory s.sizes_fit s.lengths_fit_ok s.saved q

-- Every reachable memory has the invariant, beside the book that its list of calls makes.
pub reached_inv : (s : Start) (cs : List Call) → Inv (Reached s cs) (book_reached s cs)
reached_inv s cs = run_inv steps_kept (start s) (book_start s) (started_inv s) cs

-- The memory after two lists of calls, one after the other.
pub final_append : (m : Memory) (cs ds : List Call) → final_memory m (cs ++ ds) ≡ final_memory (final_memory m cs) ds
unfolding final_memory
final_append m [] ds = refl
final_append m (c ∷ cs) ds = final_append (after_call m c) cs ds
