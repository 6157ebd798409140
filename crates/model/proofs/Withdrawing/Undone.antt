-- The memory that a withdraw leaves, as a function of every view.
-- Main definitions and statements: undone; undone_built, undone_number (its parts);
-- undone_early, undone_alike (before step 11, when no pages are built); decided_late, decided_ninth.
use mathlib.Core.Path.{◌≡◌, refl, sym, ap, ◌∙◌}
use mathlib.Core.Logic.{◌≢◌}
use mathlib.Core.Bool.{Bool, true, false}
use mathlib.Core.List.{List, []}
use Prim.Native.Nat.{ℕ, ◌≤◌, ◌<◌}
use native.Mathlib.Omega.{arith}
use lib.Dec.{eqb}
use Rattle.model.specs.declared.Party.{Party}
use Rattle.model.specs.Pages.{with_page, scratch_page, zero_page}
use Rattle.model.specs.Chains.{Checked, sound, pages_listed}
use Rattle.model.specs.Outcome.{View}
use Rattle.model.specs.FreeList.{given_back}
use Rattle.model.specs.LockRequests.{given_up}
use Rattle.model.specs.Claims.{claims}
use Rattle.model.specs.Steps.Dispatch.{has_step}
use Rattle.model.specs.Withdraw.{is_decided, built_pages, taken_back}
use Rattle.model.proofs.Laws.Lists.{Told, holds, fails, tell}
use Rattle.model.proofs.Effects.GiveUps.{given_up_alike}
use Rattle.model.proofs.Steps.Withdraw.{left_by, taken_back_is, undecided_early}

-- The view with the party's operation taken back, no test made.
unfoldable pub undone : View → View
undone v = taken_back v (pages_listed (built_pages v))

-- In parts, where the pages xs are built.
pub undone_built : (v : View) (xs : List ℕ) → built_pages v ≡ sound xs → undone v ≡ left_by v xs
unfolding undone pages_listed
undone_built v xs e = ap (λ (c : Checked (List ℕ)). taken_back v (pages_listed c)) e ∙ taken_back_is v xs

-- It is of the same party.
pub undone_number : (v : View) → (undone v).number ≡ v.number
unfolding undone
undone_number v = ap (λ (u : View). u.number) (taken_back_is v (pages_listed (built_pages v)))

-- ---- Whether it stands behind others is not looked at

abbrev pub with_behind : Bool → View → View
with_behind x v = record { root = v.root; party = v.party; number = v.number; locks = v.locks; pages = v.pages; behind = x }

left_behind : (x : Bool) (v : View) (xs : List ℕ) → left_by (with_behind x v) xs ≡ with_behind x (left_by v xs)
left_behind x v xs = rw (given_up_alike (claims v.root v.party) v (with_behind x v) refl refl) refl

pub undone_behind : (x : Bool) (v : View) → undone (with_behind x v) ≡ with_behind x (undone v)
unfolding undone built_pages
undone_behind x v =
    let xs = pages_listed (built_pages v) in
    taken_back_is (with_behind x v) xs ∙ left_behind x v xs ∙ ap (with_behind x) (sym (taken_back_is v xs))

-- ---- Before step 11

-- No pages are built.
pub undone_early : (v : View) → eqb v.party.step 11 ≡ false → undone v ≡ left_by v []
unfolding built_pages
undone_early v h = undone_built v [] (rw h refl)

-- Two views that the same is left of.
pub undone_alike : (v w : View) → eqb v.party.step 11 ≡ false → eqb w.party.step 11 ≡ false → w.root ≡ v.root → w.number ≡ v.number → w.behind ≡ v.behind
    → (given_up (claims w.root w.party) w).locks ≡ (given_up (claims v.root v.party) v).locks
    → with_page w.pages (scratch_page v.root v.number) zero_page ≡ with_page v.pages (scratch_page v.root v.number) zero_page → undone w ≡ undone v
unfolding given_back
undone_alike v w early early' root= number= behind= locks= pages= =
    undone_early w early' ∙ rw (locks=, root=, number=, behind=, pages=) refl ∙ sym (undone_early v early)

-- ---- Whether the decisive step is taken, by the step number

decided_unless : (p : Party) → ((p.step < 12) × (p.step ≢ 9) → ⊥) → has_step p.operation p.step ≡ true → is_decided p ≡ true
decided_unless p past has = go (tell (is_decided p))
  where
    go : Told (is_decided p) → is_decided p ≡ true
    go (holds h) = h
    go (fails h) = absurd (past (undecided_early p has h))

pub decided_late : (p : Party) → has_step p.operation p.step ≡ true → 12 ≤ p.step → is_decided p ≡ true
decided_late p has late = decided_unless p (λ e. omega (arith, late, e.0)) has

pub decided_ninth : (p : Party) → has_step p.operation p.step ≡ true → p.step ≡ 9 → is_decided p ≡ true
decided_ninth p has nine = decided_unless p (λ e. e.1 nine) has
