-- The equation of a step's call, where of both records only the words are stored that the step's mark names, and the
-- waiting row is changed by the answer and by whether the party waits.
-- Main statement: step_stored.
use mathlib.Core.Path.{◌≡◌, refl, sym, ap, ◌∙◌, subst}
use mathlib.Core.List.{List}
use Prim.Native.Nat.{ℕ, ◌<◌}
use lib.ListN.{length, set}
use Rattle.model.specs.declared.Root.{Root}
use Rattle.model.specs.declared.Party.{Party}
use Rattle.model.specs.Answers.{StepReply}
use Rattle.model.specs.declared.Stepped.{Stepped}
use Rattle.model.specs.Steps.Dispatch.{step_of}
use Rattle.model.specs.Memory.{Memory, party_at, view_of}
use Rattle.model.specs.Calls.{Called, called, stepped, step_call}
use Rattle.model.proofs.Effects.Kept.{row_same}
use Rattle.theory.proofs.Alters.{Tested, turned_away, let_through, tested}
use Rattle.waiting_row.specs.declared.Place.{Place}
use Rattle.waiting_row.specs.Entry.{row_by}
use Rattle.calls.specs.Lent.{lent, PlaceRight, left_by_step}
use Rattle.calls.proofs.Waiting.{after_step_ok}
use Rattle.marks.specs.declared.Mark.{Mark}
use Rattle.marks.specs.Marks.{mark_of, root_by, party_by}
use Rattle.marks.proofs.Marks.{Leaves, step_marked}

module _ (r : Root) (ps : List Party) (ls gs ws : List ℕ) (q : ℕ) (inside : q < length ps) (l : Place) (right : PlaceRight r ps ws q l) (x : Stepped) (ls' gs' : List ℕ)
    (said : left_by_step x ps q ls' gs' ws ≡ step_call (lent r ps ls gs ws) q) where
  abbrev m : Memory
  m = lent r ps ls gs ws

  abbrev p : Party
  p = party_at ps q

  abbrev Left : Root → List Party → List ℕ → Called StepReply
  Left r' ps' ws' = called x.answer (lent r' ps' ls' gs' ws')

  -- What the call over values left of both records, from what the call comes to.
  core_marked : Leaves r p p.step x.answer x.root x.party
  unfolding stepped
  core_marked = go (tested m q)
    where
      carried : (c : Called StepReply) → step_call m q ≡ c → (p' : Party) → party_at c.memory.parties q ≡ p'
          → Leaves r p p.step c.answer c.memory.root p' → Leaves r p p.step x.answer x.root x.party
      carried c e p' has leaves =
          let left = said ∙ e in
          let party = sym (row_same ps q x.party inside) ∙ ap (λ (y : Called StepReply). party_at y.memory.parties q) left ∙ has in
          rw (ap (λ (y : Called StepReply). y.answer) left, ap (λ (y : Called StepReply). y.memory.root) left, party) leaves

      go : Tested m q → Leaves r p p.step x.answer x.root x.party
      go (turned_away n e) = carried _ e p refl (record { root= = refl; party= = refl })
      go (let_through _ e) =
          let marked = step_marked p.step (view_of m q) in
          let p' = (step_of p.step (view_of m q)).after.party in
          carried _ e p' (subst (λ (i : ℕ). party_at (set ps i p') q ≡ p') (sym marked.number=) (row_same ps q p' inside)) marked.leaves

  answered : x.answer ≡ (step_call m q).answer
  answered = ap (λ (c : Called StepReply). c.answer) said

  pub step_stored : (k : Mark) → k ≡ mark_of p.step x.answer → {r' : Root} {ps' : List Party} {ws' : List ℕ} → r' ≡ root_by k r x.root
      → ps' ≡ set ps q (party_by k (party_at ps q) x.party) → ws' ≡ row_by l.waits q ws x.answer
      → called x.answer (lent r' ps' ls' gs' ws') ≡ step_call (lent r ps ls gs ws) q
  step_stored k told {r'} {ps'} {ws'} er ep ew =
      ap (λ (y : Root). Left y ps' ws') (er ∙ ap (λ (j : Mark). root_by j r x.root) told ∙ core_marked.root=)
      ∙ ap (λ (y : List Party). Left x.root y ws') (ep ∙ ap (λ (j : Mark). set ps q (party_by j p x.party)) told ∙ ap (set ps q) core_marked.party=)
      ∙ ap (Left x.root (set ps q x.party)) (ew ∙ after_step_ok m q l right x.answer answered) ∙ said
