-- `index::step`: of both records the words are stored that the mark names (Stored).
use mathlib.Core.Path.{◌≡◌, sym, ap, ◌∙◌}
use Prim.Native.Nat.{◌<◌}
use lib.ListN.{length}
use Rattle.std.proofs.Common.{rules, tests}
use Rattle.model.specs.declared.Party.{Party}
use Rattle.model.specs.Memory.{party_at}
use Rattle.marks.specs.Marks.{mark_of}
use Rattle.index.proofs.Stored.{step_stored}
use Rattle.index.proofs.step.Goals as goal

pub returns : goal.returns
returns c =
    let a = c.args in
    let s = c.step-stepped in
    let inside : a.q < length a.parties.now = search (rules, tests) in
    let here : party_at a.parties.now a.q ≡ c.in-Some.party = search (rules, tests) in
    let said = s.ensures a.parties.now a.waiting.now (sym c.of-rows.ensures) (λ _. here) c.placing-place.ensures in
    let marked = c.marked-mark.ensures ∙ ap (λ (p : Party). mark_of p.step s.result.answer) (sym here) in
    step_stored a.root.now a.parties.now a.locks.now a.pages.now a.waiting.now a.q inside c.placing-place.result c.placing-place.ensures s.result s.new.locks s.new.pages said
    c.marked-mark.result marked c.put_root.ensures c.put_party.ensures c.after_step.ensures
