-- No call changes a size.
-- Main statements: call_limits (one call, on any memory), run_limits (a list); sizes_stay (from formatted memory); sized_root_lem, sized_same (a memory read with the sizes given is that memory).
use mathlib.Core.Path.{◌≡◌, refl, sym, ap, ◌∙◌}
use mathlib.Core.List.{List, [], ◌∷◌}
use Prim.Native.Nat.{ℕ}
use Rattle.model.proofs.Laws.Answers.{Caused, no_cause, caused_by, caused}
use Rattle.model.specs.Answers.{StepReply, CallReply}
use Rattle.model.specs.declared.Root.{Root}
use Rattle.model.specs.declared.Operation.{Operation}
use Rattle.model.specs.Records.{root_of_sizes}
use Rattle.model.specs.Outcome.{View, Outcome}
use Rattle.model.specs.Memory.{Memory, party_at, view_of, formatted, formatted_root}
use Rattle.model.specs.GivenSizes.{sized_root, sized_memory}
use Rattle.model.specs.Refusals.{first_cause, begin_rows, step_rows}
use Rattle.model.specs.Calls.{Called, with_begun, begin_call, stepped, step_call, withdraw_call}
use Rattle.model.specs.Runs.{Call, begin_for, step_for, withdraw_for, after_call, final_memory}
use Rattle.theory.specs.Demands.{Start, sizes_of, start, Reached, SizesStay}
use Rattle.model.specs.Steps.Dispatch.{step_of}
use Rattle.model.proofs.Invariant.Frame.{SameLimits}
use Rattle.model.proofs.Effects.OwnRecord.{same_limits}
use Rattle.model.proofs.Theorems.RefusalOrder.{begin_refused_ok, begin_accepted, step_refused_ok, step-accepted}
use Rattle.model.proofs.Theorems.Gate.{ready}
use Rattle.theory.proofs.Traces.{Traced, stays, goes, step_traced}
use Rattle.theory.proofs.Withdraws.{WithdrawTested, turned_away, let_through, withdraw_tested}

pub limits_on : (r s t : Root) → SameLimits r s → SameLimits s t → SameLimits r t
limits_on r s t x y = record {
  originals= = y.originals= ∙ x.originals=;
  capacity= = y.capacity= ∙ x.capacity=;
  primaries= = y.primaries= ∙ x.primaries=;
  overflow= = y.overflow= ∙ x.overflow=;
  parties= = y.parties= ∙ x.parties=;
}

limits_is : (r t : Root) → t ≡ r → SameLimits r t
limits_is r t e = rw e (same_limits r)

-- The sizes of a root record alone, and that they are the same.
abbrev pub sizes_in : Root → Root
sizes_in r = root_of_sizes r.originals r.capacity r.primaries r.overflow r.parties

pub sizes_same : (r t : Root) → SameLimits r t → sizes_in t ≡ sizes_in r
sizes_same r t l = λ i. root_of_sizes (l.originals= i) (l.capacity= i) (l.primaries= i) (l.overflow= i) (l.parties= i)

-- ---- One call

step_limits : (m : Memory) (q : ℕ) → SameLimits m.root (step_call m q).memory.root
unfolding stepped
step_limits m q = go (caused (first_cause (step_rows m q)))
  where
    traced : (o : Outcome) → Traced (party_at m.parties q).step (view_of m q) o → SameLimits m.root o.after.root
    traced o (stays _ e) = limits_is m.root o.after.root (ap (λ (v : View). v.root) e)
    traced o (goes _ l _) = l.sizes

    go : Caused (first_cause (step_rows m q)) → SameLimits m.root (step_call m q).memory.root
    go (no_cause e) =
        rw (step-accepted m q e) (traced (step_of (party_at m.parties q).step (view_of m q)) (step_traced (view_of m q) (ready m q e)))
    go (caused_by c y) =
        limits_is m.root (step_call m q).memory.root (ap (λ (c : Called StepReply). c.memory.root) (step_refused_ok m c q y))

begin_limits : (m : Memory) (q : ℕ) (o : Operation) (k : ℕ) → SameLimits m.root (begin_call m q o k).memory.root
unfolding with_begun
begin_limits m q o k = limits_is m.root (begin_call m q o k).memory.root (go (caused (first_cause (begin_rows m q))))
  where
    go : Caused (first_cause (begin_rows m q)) → (begin_call m q o k).memory.root ≡ m.root
    go (no_cause e) = ap (λ (c : Called CallReply). c.memory.root) (begin_accepted m q o k e)
    go (caused_by c y) = ap (λ (c : Called CallReply). c.memory.root) (begin_refused_ok m c q o k y)

-- A withdraw changes of the root its free list alone.
withdraw_limits : (m : Memory) (q : ℕ) → SameLimits m.root (withdraw_call m q).memory.root
withdraw_limits m q = go (withdraw_tested m q)
  where
    go : WithdrawTested m q → SameLimits m.root (withdraw_call m q).memory.root
    go (turned_away n e) = limits_is m.root (withdraw_call m q).memory.root (ap (λ (c : Called CallReply). c.memory.root) e)
    go (let_through xs _ _ _ _ e) = rw e (record { originals= = refl; capacity= = refl; primaries= = refl; overflow= = refl; parties= = refl })

pub call_limits : (m : Memory) (c : Call) → SameLimits m.root (after_call m c).root
unfolding after_call
call_limits m (begin_for q o k) = begin_limits m q o k
call_limits m (step_for q) = step_limits m q
call_limits m (withdraw_for q) = withdraw_limits m q

-- ---- A list of calls

pub run_limits : (m : Memory) (cs : List Call) → SameLimits m.root (final_memory m cs).root
unfolding final_memory
run_limits m [] = same_limits m.root
run_limits m (c ∷ cs) = limits_on m.root (after_call m c).root (final_memory (after_call m c) cs).root (call_limits m c) (run_limits (after_call m c) cs)

-- Format leaves the sizes given.
pub start_limits : (s : Start) → SameLimits (sizes_of s) (start s).root
unfolding formatted formatted_root
start_limits s = record { originals= = refl; capacity= = refl; primaries= = refl; overflow= = refl; parties= = refl }

pub reached_limits : (s : Start) (cs : List Call) → SameLimits (sizes_of s) (Reached s cs).root
reached_limits s cs = limits_on (sizes_of s) (start s).root (Reached s cs).root (start_limits s) (run_limits (start s) cs)

pub sizes_stay : (s : Start) (cs : List Call) → SizesStay s cs
sizes_stay s cs =
    let l = reached_limits s cs in
    record { originals = l.originals=; capacity = l.capacity=; primaries = l.primaries=; overflow = l.overflow=; parties = l.parties= }

-- ---- A memory read with the sizes given

pub sized_root_lem : (z r : Root) → SameLimits z r → sized_root z r ≡ r
sized_root_lem z r l = sym (λ i. record {
  originals = l.originals= i;
  capacity = l.capacity= i;
  primaries = l.primaries= i;
  overflow = l.overflow= i;
  parties = l.parties= i;
  level = r.level;
  next = r.next;
  head = r.head;
  free = r.free;
})

pub sized_same : (z : Root) (m : Memory) → SameLimits z m.root → sized_memory z m ≡ m
sized_same z m l = λ i. record { root = sized_root_lem z m.root l i; parties = m.parties; locks = m.locks; pages = m.pages; waiting = m.waiting }
