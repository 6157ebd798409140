-- A step that requests a lock for which its party stands behind another: it waits, but at 13 damage goes before waiting.
-- Main statements: held_back_lem (what code answers without running the step); behind_asks (who stands behind another
-- requests a lock).
use mathlib.Core.Path.{◌≡◌, refl, sym, ap, ◌∙◌}
use mathlib.Core.Bool.{Bool, true, false, cond, not, ◌&&◌, and-false, false≢true}
use mathlib.Core.List.{List, [], ◌∷◌}
use mathlib.Core.Option.{Option, none, some}
use Prim.Native.Nat.{ℕ}
use lib.Dec.{eqb}
use lib.ListN.{get_or, get_or-map}
use Rattle.model.specs.declared.Root.{Root}
use Rattle.model.specs.declared.Party.{Party}
use Rattle.std.specs.Prelude.{Ok, Err}
use Rattle.model.specs.declared.StepAnswer.TheVariants as StepAnswer
use Rattle.model.specs.declared.Refusal.TheVariants as Refusal
use Rattle.model.specs.LockWords.{Claim, permits}
use Rattle.model.specs.Addresses.{split_barred, count_of_chains}
use Rattle.model.specs.Pages.{names_overflow}
use Rattle.model.specs.declared.Restructuring.TheVariants as Restructuring
use Rattle.model.specs.Records.{idle, at_step}
use Rattle.model.specs.Outcome.{View, outcome, guarded, waits}
use Rattle.model.specs.Endings.{ended_with}
use Rattle.model.specs.LockRequests.{root_selective, root_exclusive, chain_exclusive, is_granted, request, lock_word}
use Rattle.model.specs.Steps.Locate.{step01, step04}
use Rattle.model.specs.Steps.Chase.{step07}
use Rattle.model.specs.Steps.OldPages.{step13}
use Rattle.model.specs.Steps.SplitLocks.{next_selective, splitting, step15, step16}
use Rattle.model.specs.Steps.MergeLocks.{merge_stops, target_exclusive, merging, step23, step24, step25}
use Rattle.model.specs.Steps.Table.{StepRow, no_row, row_table}
use Rattle.model.specs.Steps.Dispatch.{has_step, wants_none, step_table, step_of, want_table, wants}
use Rattle.model.proofs.Laws.Lists.{Numbered, numbered_at, eqb_same}
use Rattle.model.specs.WaitingRow.{requests, behind_for, stands_behind}
use Rattle.waiting_row.specs.HeldBack.{held_answer, held_back}
use Rattle.waiting_row.proofs.Requests.{none-some}

module _ (v : View) (c : Claim) (behind : v.behind ≡ true) where
  -- Who stands behind another is not granted.
  request-waits : (d : Claim) (p : Party) → request v d p ≡ waits v
  unfolding request is_granted
  request-waits d p = rw (behind, and-false (permits (lock_word v d.word) d.mode)) refl

  abbrev Held : ℕ → StepRow → Type 0
  Held k x = v.party.step ≡ k → x.wants v.root v.party ≡ some c → x.runs v ≡ held_back v

  other_waits : (k : ℕ) → eqb k 13 ≡ false → v.party.step ≡ k → waits v ≡ held_back v
  unfolding held_answer
  other_waits k n e = rw (ap (λ (i : ℕ). eqb i 13) e ∙ n) refl

  held13 : v.party.step ≡ 13 → step13 v ≡ held_back v
  unfolding step13 held_answer
  held13 e = rw (eqb_same v.party.step 13 e) (go (names_overflow v.root v.party.old))
    where
      go : (b : Bool) → guarded v b (request v (chain_exclusive v.party) (at_step 14 v.party))
          ≡ outcome (cond (true && not b) (Err Refusal.Damage) (Ok StepAnswer.Waiting)) v
      go true = request-waits (chain_exclusive v.party) (at_step 14 v.party)
      go false = refl

  held16 : v.party.step ≡ 16 → cond (split_barred (count_of_chains v.root) v.root.primaries) none (some (next_selective v.root)) ≡ some c → step16 v ≡ held_back v
  unfolding step16
  held16 e w = go (split_barred (count_of_chains v.root) v.root.primaries) w ∙ other_waits 16 refl e
    where
      go : (b : Bool) → cond b none (some (next_selective v.root)) ≡ some c
          → cond b (ended_with v (root_selective ∷ []) Restructuring.SplitSkipped) (request v (next_selective v.root) (splitting v.root v.party)) ≡ waits v
      go true f = absurd (none-some f)
      go false f = request-waits (next_selective v.root) (splitting v.root v.party)

  held24 : v.party.step ≡ 24 → cond (merge_stops v.root) none (some (target_exclusive v.root)) ≡ some c → step24 v ≡ held_back v
  unfolding step24
  held24 e w = go (merge_stops v.root) w ∙ other_waits 24 refl e
    where
      go : (b : Bool) → cond b none (some (target_exclusive v.root)) ≡ some c
          → cond b (ended_with v (root_exclusive ∷ []) Restructuring.MergeSkipped) (request v (target_exclusive v.root) (merging v.root v.party)) ≡ waits v
      go true f = absurd (none-some f)
      go false f = request-waits (target_exclusive v.root) (merging v.root v.party)

  held_rows : Numbered Held 0 row_table
  unfolding step01 step04 step07 step15 step23 step25
  held_rows = ((λ e w. absurd (none-some w)), ((λ e w. request-waits _ _ ∙ other_waits 1 refl e), ((λ e w. absurd (none-some w)), ((λ e w. absurd (none-some w)), ((λ e w. request-waits _ _ ∙ other_waits 4 refl e), ((λ e w. absurd (none-some w)), ((λ e w. absurd (none-some w)), ((λ e w. request-waits _ _ ∙ other_waits 7 refl e), ((λ e w. absurd (none-some w)), ((λ e w. absurd (none-some w)), ((λ e w. absurd (none-some w)), ((λ e w. absurd (none-some w)), ((λ e w. absurd (none-some w)), ((λ e w. held13 e), ((λ e w. absurd (none-some w)), ((λ e w. request-waits _ _ ∙ other_waits 15 refl e), ((λ e w. held16 e w), ((λ e w. absurd (none-some w)), ((λ e w. absurd (none-some w)), ((λ e w. absurd (none-some w)), ((λ e w. absurd (none-some w)), ((λ e w. absurd (none-some w)), ((λ e w. absurd (none-some w)), ((λ e w. request-waits _ _ ∙ other_waits 23 refl e), ((λ e w. held24 e w), ((λ e w. request-waits _ _ ∙ other_waits 25 refl e), ((λ e w. absurd (none-some w)), ((λ e w. absurd (none-some w)), ((λ e w. absurd (none-some w)), ((λ e w. absurd (none-some w)), ((λ e w. absurd (none-some w)), tt)))))))))))))))))))))))))))))))

  -- What the step does then.
  pub held_back_lem : wants v.root v.party ≡ some c → step_of v.party.step v ≡ held_back v
  unfolding step_of step_table wants want_table
  held_back_lem w = row_of v.party.step ∙ at_row v.party.step refl (sym (want_of v.party.step) ∙ w)
    where
      at_row : (k : ℕ) → v.party.step ≡ k → (get_or row_table k no_row).wants v.root v.party ≡ some c → (get_or row_table k no_row).runs v ≡ held_back v
      at_row k = numbered_at Held no_row (λ n e w. absurd (none-some w)) row_table held_rows k

      row_of : (k : ℕ) → step_of k v ≡ (get_or row_table k no_row).runs v
      row_of k = ap (λ f. f v) (get_or-map (λ (x : StepRow). x.runs) row_table k no_row)

      want_of : (k : ℕ) → get_or want_table k wants_none v.root v.party ≡ (get_or row_table k no_row).wants v.root v.party
      want_of k = ap (λ f. f v.root v.party) (get_or-map (λ (x : StepRow). x.wants) row_table k no_row)

-- Who stands behind another requests a lock.
pub behind_asks : (r : Root) (ps : List Party) (row : List ℕ) (q : ℕ) → stands_behind r ps row q ≡ true
    → (c : Claim) × (requests r (get_or ps q idle) ≡ some c)
unfolding stands_behind behind_for
behind_asks r ps row q b = go (requests r (get_or ps q idle)) refl b
  where
    go : (o : Option Claim) → requests r (get_or ps q idle) ≡ o → behind_for r ps row q o ≡ true → (c : Claim) × (requests r (get_or ps q idle) ≡ some c)
    go none e f = absurd (false≢true f)
    go (some c) e f = (c, e)

-- And its step wants it.
pub requests-wants : (r : Root) (p : Party) (c : Claim) → requests r p ≡ some c → wants r p ≡ some c
unfolding requests
requests-wants r p c e = go (has_step p.operation p.step) e
  where
    go : (b : Bool) → cond b (wants r p) none ≡ some c → wants r p ≡ some c
    go true f = f
    go false f = absurd (none-some f)
