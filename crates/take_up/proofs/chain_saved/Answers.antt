-- `take_up::chain_saved` meets its contract.
use mathlib.Core.Path.{◌≡◌, sym, ◌∙◌}
use mathlib.Core.Bool.{Bool, true, false}
use Prim.Native.Nat.{◌<◌}
use native.Mathlib.Omega.{arith}
use Rattle.std.specs.Prelude.{Ok}
use Rattle.chains.specs.Walks.{counted}
use Rattle.chain_keys.specs.Gathering.{overflow_of}
use Rattle.take_up.specs.declared.Home.{Home}
use Rattle.take_up.specs.Seen.{HomeFits, pages_seen}
use Rattle.take_up.proofs.Chain.{facts, level_small, home_of, walked_chain, chain_saved_ok, chain_unsaved, chain_unwalked}
use Rattle.take_up.proofs.chain_saved.Goals as goal

pub walk-requires : goal.walk-requires
walk-requires c =
    let f = facts c.args.root c.args.pages.now c.requires.0 in
    record { chain_fits = omega (arith, f.count_fits, c.requires.1); pages_fit = f.pages_fit }

pub level_at-requires : goal.level_at-requires
level_at-requires c =
    let f = facts c.args.root c.args.pages.now c.requires.0 in
    record { some_original = f.limits.some_original; originals_fit = omega (arith, f.limits.originals_fit, f.limits.chains_fit_ok); level_fits = f.level_fits; next_fits = f.next_fits }

pub pages_saved-requires : goal.pages_saved-requires
pages_saved-requires c =
    let a = c.args in
    let ps = a.pages.now in
    let f = facts a.root ps c.requires.0 in
    let n = c.in-Ok.n in
    let walked : counted (overflow_of a.root ps a.c) ≡ Ok n = sym c.in-Ok.ensures in
    let w = walked_chain a.root ps a.c n f walked in
    let inside : a.c < a.root.primaries = omega (arith, f.count_fits, c.requires.1) in
    let small = level_small a.root a.c f.level_fits in
    let level = c.level_at.ensures in
    let home : HomeFits (record { originals = a.root.originals; level = c.level_at.result; chain = a.c }) = record {
      some_original = f.limits.some_original;
      originals_fit = omega (arith, f.limits.originals_fit, f.limits.chains_fit_ok);
      level_fits = omega (arith, small, level);
    } in
    (home, omega (arith, f.pages_fit, inside), w.few, w.followed)

pub returns-in_default : goal.returns-in_default
returns-in_default c =
    let a = c.args in
    chain_unwalked a.root a.pages.now a.c c.in_default.ensures

pub returns-then-pages_saved : goal.returns-then-pages_saved
returns-then-pages_saved c =
    let a = c.args in
    let ps = a.pages.now in
    let f = facts a.root ps c.requires.0 in
    let n = c.in-Ok.n in
    let walked : counted (overflow_of a.root ps a.c) ≡ Ok n = sym c.in-Ok.ensures in
    let w = walked_chain a.root ps a.c n f walked in
    let inside : a.c < a.root.primaries = omega (arith, f.count_fits, c.requires.1) in
    let home : Home → Bool = λ k. pages_seen a.root k n ps in
    let level = c.level_at.ensures in
    let seen : pages_seen a.root (home_of a.root a.c) n ps ≡ true
    = (λ i. home (record { originals = a.root.originals; level = sym level i; chain = a.c })) ∙ sym c.pages_saved.ensures ∙ c.if-pages_saved.true in
    chain_saved_ok a.root ps f a.c n inside w seen

pub returns-else-pages_saved : goal.returns-else-pages_saved
returns-else-pages_saved c =
    let a = c.args in
    let ps = a.pages.now in
    let f = facts a.root ps c.requires.0 in
    let n = c.in-Ok.n in
    let walked : counted (overflow_of a.root ps a.c) ≡ Ok n = sym c.in-Ok.ensures in
    let w = walked_chain a.root ps a.c n f walked in
    let inside : a.c < a.root.primaries = omega (arith, f.count_fits, c.requires.1) in
    let home : Home → Bool = λ k. pages_seen a.root k n ps in
    let level = c.level_at.ensures in
    let seen : pages_seen a.root (home_of a.root a.c) n ps ≡ false
    = (λ i. home (record { originals = a.root.originals; level = sym level i; chain = a.c })) ∙ sym c.pages_saved.ensures ∙ c.if-pages_saved.false in
    chain_unsaved a.root ps f a.c n inside w seen
