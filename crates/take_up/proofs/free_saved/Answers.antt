-- `take_up::free_saved` meets its contract.
use mathlib.Core.Path.{refl, sym, ap, ◌∙◌}
use native.Mathlib.Omega.{arith}
use Rattle.model.specs.TakeUp.{free_if_sound}
use Rattle.model.proofs.Laws.Lists.{eqb_same, eqb-diff}
use Rattle.chains.proofs.Links.{leads_map}
use Rattle.free_list.proofs.Linked.{taken_drawn, head_drawn, damage-drawn}
use Rattle.take_up.proofs.free_saved.Goals as goal

pub all_free-requires : goal.all_free-requires
all_free-requires c =
    let a = c.args in
    let ps = a.pages.now in
    let drawn = head_drawn a.root ps a.root.free c.in-Ok.l c.in-Ok.ensures in
    leads_map ps (λ x o. record { fits = omega (arith, o.below, c.requires.0) }) (taken_drawn a.root ps a.root.free _ drawn).can.leads

pub returns-then-l-eq0 : goal.returns-then-l-eq0
unfolding free_if_sound
returns-then-l-eq0 c =
    let a = c.args in
    let ps = a.pages.now in
    let h = c.in-Ok.l in
    let drawn = head_drawn a.root ps a.root.free h c.in-Ok.ensures in
    c.all_free.ensures ∙ sym (ap (free_if_sound ps) drawn ∙ rw (eqb_same h 0 c.if-l-eq0.true) refl)

pub returns-else-l-eq0 : goal.returns-else-l-eq0
unfolding free_if_sound
returns-else-l-eq0 c =
    let a = c.args in
    let ps = a.pages.now in
    let h = c.in-Ok.l in
    let drawn = head_drawn a.root ps a.root.free h c.in-Ok.ensures in
    let other = eqb-diff h 0 c.if-l-eq0.false in
    other ∙ sym (ap (free_if_sound ps) drawn ∙ rw other refl)

pub returns-in_default : goal.returns-in_default
unfolding free_if_sound
returns-in_default c =
    let a = c.args in
    sym (ap (free_if_sound a.pages.now) (damage-drawn a.root a.pages.now a.root.free c.in_default.ensures))
