-- A trace is what the call does: of every memory, and every call of step that moves or is done.
-- So the times by which the link rule (specs/Links.antt) compares are those at which links were read and pages given back.
-- Main statement: true-trace.
use mathlib.Core.Path.{◌≡◌, sym, ap, ◌∙◌}
use mathlib.Core.Bool.{true, false≢true}
use Prim.Native.Nat.{ℕ, ◌+◌}
use native.Mathlib.Omega.{arith}
use lib.ListN.{set}
use Rattle.std.specs.Prelude.{Ok}
use Rattle.model.specs.declared.Party.{Party}
use Rattle.model.specs.Outcome.{View, Outcome}
use Rattle.model.specs.Memory.{Memory, party_at, view_of}
use Rattle.model.specs.Refusals.{first_cause, step_rows}
use Rattle.model.specs.Calls.{Called, stepped, step_call, called_by}
use Rattle.theory.specs.Links.{Trace, trace_of, Clock, trace_of_step}
use Rattle.model.specs.Answers.{performs, StepReply}
use Rattle.model.specs.Effects.{record_after}
use Rattle.theory.specs.Reads.{taken_by, step_after, ScratchTold, copied, made, TraceTrue}
use Rattle.model.specs.Steps.Dispatch.{step_of}
use Rattle.model.proofs.Effects.Kept.{row_same}
use Rattle.model.proofs.Theorems.Gate.{ready, row_fits}
use Rattle.model.proofs.Exits.OpenLinks.{scratch_open}
use Rattle.theory.proofs.Traces.{Traced, stays, goes, step_traced}
use Rattle.theory.proofs.Alters.{Tested, turned_away, let_through, tested}
use Rattle.theory.proofs.StepReads.Known.{ScratchLink, copied_link, made_link}
use Rattle.theory.proofs.StepReads.StepTraces.{Truth, step_tells}

module _ (k : Clock) (m : Memory) (q : ℕ) (performed : performs (step_call m q).answer ≡ true) (none : first_cause (step_rows m q) ≡ Ok tt) (accepted : step_call m q ≡ stepped m q) where
  -- What the step meets, and its outcome.
  abbrev view : View
  view = view_of m q

  abbrev number : ℕ
  number = (party_at m.parties q).step

  abbrev out : Outcome
  out = step_of number view

  now : step_call m q ≡ called_by m q out
  unfolding stepped
  now = accepted

  step-performs : performs out.answer ≡ true
  step-performs = sym (ap (λ (c : Called StepReply). performs c.answer) now) ∙ performed

  memory_then : step_after m q ≡ (called_by m q out).memory
  memory_then = ap (λ (c : Called StepReply). c.memory) now

  -- The party's own record.
  number_kept : out.after.number ≡ q
  number_kept = go (step_traced view (ready m q none))
    where
      go : Traced number view out → out.after.number ≡ q
      go (stays f _) = absurd (false≢true (sym f ∙ step-performs))
      go (goes _ l _) = l.number=

  record_then : record_after m q ≡ out.after.party
  record_then =
      ap (λ (a : Memory). party_at a.parties q) memory_then ∙ ap (λ (j : ℕ). party_at (set m.parties j out.after.party) q) number_kept
      ∙ row_same m.parties q out.after.party (omega (arith, row_fits m q none, (ready m q none).number_fits))

  trace_then_ok : trace_of_step k m q ≡ trace_of (k.calls + 1) number view out.answer out.after.party.step (k.scratch_read q) (k.old_read q)
  unfolding trace_of_step
  trace_then_ok = rw (performed, ap (λ (c : Called StepReply). c.answer) now, ap (λ (p : Party). p.step) record_then)

  told : Truth (k.calls + 1) (k.scratch_read q) (k.old_read q) view out (trace_of (k.calls + 1) number view out.answer out.after.party.step (k.scratch_read q) (k.old_read q))
  told = (step_tells number (k.calls + 1) (k.scratch_read q) (k.old_read q) view (ready m q none)).go step-performs

  -- The link in scratch.
  link_then : ScratchLink view out → ScratchTold m q
  unfolding taken_by
  link_then (copied_link c) = copied (rw memory_then c)
  link_then (made_link s e) = made (ap (λ (p : Party). p.step) record_then ∙ s) (rw memory_then e)

  trace-true : TraceTrue k m q
  trace-true =
      let into_old_ok = ap (λ (t : Trace). t.into_old) trace_then_ok in
      let into_scratch_ok = ap (λ (t : Trace). t.into_scratch) trace_then_ok in
      let old_then = ap (λ (p : Party). p.old) record_then in
      record {
        known = rw trace_then_ok told.known;
        old_read_ok = λ h. old_then ∙ told.old_read_ok (sym into_old_ok ∙ h);
        old_kept = λ h d. old_then ∙ told.old_kept (sym into_old_ok ∙ h) (λ z. d (old_then ∙ z));
        scratch_now = λ h. into_scratch_ok ∙ told.scratch_now (sym (ap (λ (p : Party). scratch_open p.step) record_then) ∙ ap scratch_open h);
        scratch_built = λ h. into_scratch_ok ∙ told.scratch_now (sym (ap (λ (p : Party). scratch_open p.step) record_then) ∙ ap scratch_open h);
        scratch_read_ok = λ h. link_then (told.scratch_read_ok (sym into_scratch_ok ∙ h));
        given = rw (trace_then_ok, memory_then) told.given;
        freed = λ x h. rw memory_then (told.freed x (rw trace_then_ok at h));
      }

pub true-trace : (k : Clock) (m : Memory) (q : ℕ) → performs (step_call m q).answer ≡ true → TraceTrue k m q
unfolding performs
true-trace k m q performed = go (tested m q)
  where
    go : Tested m q → TraceTrue k m q
    go (turned_away c e) = absurd (false≢true (sym (ap (λ (c : Called StepReply). performs c.answer) e) ∙ performed))
    go (let_through z e) = trace-true k m q performed z e
