-- What a party wants stays while others step: only 16 and 24 read the root for it, and there the party restructures.
-- Main statements: wants_same, requests_same (by what the party relies on).
use mathlib.Core.Path.{◌≡◌, refl, ap}
use mathlib.Core.Bool.{true, cond, ◌||◌}
use mathlib.Core.Option.{Option, none}
use Prim.Native.Nat.{ℕ}
use Rattle.model.specs.declared.Party.{Party}
use Rattle.model.specs.LockWords.{Claim}
use Rattle.model.specs.Sizes.{within}
use Rattle.model.specs.Steps.Dispatch.{Want, wants_none, want_table, wants, has_step}
use Rattle.model.specs.WaitingRow.{requests}
use Rattle.model.proofs.Laws.Lists.{Numbered, numbered_at, ◌▸◌}
use Rattle.model.proofs.Invariant.Statement.{Scene, restructures}
use Rattle.model.proofs.Invariant.Frame.{SameExtents, Keeps}

module _ (s t : Scene) (j : ℕ) (p : Party) (k : Keeps s t j p) where
  abbrev WantSame : ℕ → Want → Type 0
  WantSame n f = p.step ≡ n → f t.root p ≡ f s.root p

  extents_at : (n : ℕ) → p.step ≡ n → (within 16 22 n || within 24 30 n) ≡ true → SameExtents s t
  unfolding restructures
  extents_at n e h = k.grows.same_for_restructurer (rw e h)

  all_same : Numbered WantSame 0 want_table
  unfolding want_table
  all_same =
      (λ e. refl) ▸ (λ e. refl) ▸ (λ e. refl) ▸ (λ e. refl) ▸ (λ e. refl) ▸ (λ e. refl) ▸ (λ e. refl) ▸ (λ e. refl) ▸ (λ e. refl) ▸ (λ e. refl)
      ▸ (λ e. refl) ▸ (λ e. refl) ▸ (λ e. refl) ▸ (λ e. refl) ▸ (λ e. refl) ▸ (λ e. refl)
      ▸ (λ e. let x = extents_at 16 e refl in rw (k.sizes.originals=, k.sizes.primaries=, x.level=, x.next=) refl)
      ▸ (λ e. refl) ▸ (λ e. refl) ▸ (λ e. refl) ▸ (λ e. refl) ▸ (λ e. refl) ▸ (λ e. refl) ▸ (λ e. refl)
      ▸ (λ e. let x = extents_at 24 e refl in rw (k.sizes.originals=, x.level=, x.next=) refl)
      ▸ (λ e. refl) ▸ (λ e. refl) ▸ (λ e. refl) ▸ (λ e. refl) ▸ (λ e. refl) ▸ (λ e. refl) ▸ tt

  pub wants_same : wants t.root p ≡ wants s.root p
  unfolding wants
  wants_same = numbered_at WantSame wants_none (λ n e. refl) want_table all_same p.step refl

  pub requests_same : requests t.root p ≡ requests s.root p
  unfolding requests
  requests_same = ap (λ (o : Option Claim). cond (has_step p.operation p.step) o none) wants_same
