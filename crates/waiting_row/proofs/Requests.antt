-- What a party requests, as code has it.
-- Main statements: asked (at a step that its operation has, and whose request is not stopped, a party asks for what the
-- step wants), unasked and halted (else for nothing); want_none (the steps that want nothing); target_after,
-- target_before (24's word); asks_sound.
use mathlib.Core.Path.{◌≡◌, refl, sym, ap, ◌∙◌}
use mathlib.Core.Logic.{◌≢◌, ◌⊎◌, inl, inr}
use mathlib.Core.Bool.{Bool, true, false, cond, ◌&&◌, ◌||◌, false≢true}
use mathlib.Core.Option.{none, some}
use Prim.Native.Nat.{ℕ, zero, suc, ◌+◌, ◌-◌, ◌*◌, ◌^◌, ◌≤◌}
use native.Mathlib.Omega.{arith}
use lib.Dec.{eqb, ltb}
use lib.ListN.{get_or}
use Rattle.std.specs.Prelude.{Some, None}
use Rattle.model.specs.declared.Root.{Root}
use Rattle.model.specs.declared.Party.{Party}
use Rattle.model.specs.LockWords.{Claim}
use Rattle.model.specs.LockRequests.{chain_lock}
use Rattle.model.specs.Steps.SplitLocks.{next_selective}
use Rattle.model.specs.Addresses.{span, chain_count, merge_barred, merge_target}
use Rattle.model.specs.Steps.MergeLocks.{merge_stops, target_exclusive}
use Rattle.model.specs.Steps.Dispatch.{Want, wants_none, want_table, wants, has_step}
use Rattle.model.specs.WaitingRow.{is_some, requests}
use Rattle.model.proofs.Laws.Addresses.{span_pos}
use Rattle.model.proofs.Laws.Lists.{Numbered, numbered_at, Told, holds, fails, tell, eqb_same, eqb-diff, eqb-false, eqb-true, le-ltb, ltb-false, and_both, or_neither}
use Rattle.waiting_row.specs.Requested.{request_of, request_in, by_root, asks, barred, stops}

pub none-some : {c : Claim} → none ≡ some c → ⊥
unfolding is_some
none-some e = false≢true (ap is_some e)

module _ (r : Root) (p : Party) where
  -- A step that the operation lacks requests nothing.
  pub unasked : has_step p.operation p.step ≡ false → None ≡ request_in (asks r p)
  unfolding asks requests
  unasked e = rw e (go (ltb 8 r.level && by_root p.step))
    where
      go : (t : Bool) → None ≡ request_in (cond t none none)
      go true = refl
      go false = refl

  -- Any other that is not stopped asks for what it wants.
  asked : has_step p.operation p.step ≡ true → (by_root p.step && stops r p.step) ≡ false → asks r p ≡ wants r p
  unfolding asks requests stops
  asked h s = rw h (go (ltb 8 r.level) (by_root p.step) s)
    where
      go : (a b : Bool) → (b && (a || barred r p.step)) ≡ false → cond (a && b) none (wants r p) ≡ wants r p
      go true true e = absurd (false≢true (sym e))
      go true false e = refl
      go false b e = refl

  pub told : (c : Claim) → has_step p.operation p.step ≡ true → (by_root p.step && stops r p.step) ≡ false → wants r p ≡ some c
      → Some (request_of c) ≡ request_in (asks r p)
  told c h s e = rw (asked h s, e) refl

  pub want_at : (k : ℕ) → p.step ≡ k → wants r p ≡ get_or want_table k wants_none r p
  unfolding wants
  want_at k e = ap (λ (i : ℕ). get_or want_table i wants_none r p) e

  pub own_chain : (p.step ≡ 4) ⊎ (p.step ≡ 7) → wants r p ≡ some (chain_lock p)
  unfolding want_table
  own_chain (inl e) = want_at 4 e
  own_chain (inr e) = want_at 7 e

  -- 16 and 24 want a lock where they are not stopped, and the level is sound then.
  pub not_stopped : (k : ℕ) → p.step ≡ k → by_root k ≡ true → (by_root p.step && stops r p.step) ≡ false
      → (r.level ≤ 8) × (barred r k ≡ false)
  unfolding stops
  not_stopped k e b s =
      let at : stops r k ≡ false = ap (λ (t : Bool). t && stops r k) (sym b) ∙ ap (λ (i : ℕ). by_root i && stops r i) (sym e) ∙ s in
      let neither = or_neither (ltb 8 r.level) (barred r k) at in
      (ltb-false 8 r.level neither.0, neither.1)

  pub next_wanted : p.step ≡ 16 → (by_root p.step && stops r p.step) ≡ false → wants r p ≡ some (next_selective r)
  unfolding by_root barred want_table
  next_wanted e s = want_at 16 e ∙ rw (not_stopped 16 e refl s).1 refl

  pub target_goes : p.step ≡ 24 → (by_root p.step && stops r p.step) ≡ false → (r.level ≤ 8) × (merge_stops r ≡ false)
  unfolding by_root barred
  target_goes e s = not_stopped 24 e refl s

  pub target_wanted : p.step ≡ 24 → (by_root p.step && stops r p.step) ≡ false → wants r p ≡ some (target_exclusive r)
  unfolding want_table
  target_wanted e s = want_at 24 e ∙ rw (target_goes e s).1 refl

  abbrev WantsNone : ℕ → Want → Type 0
  WantsNone k w = k ≢ 1 → k ≢ 4 → k ≢ 7 → k ≢ 13 → k ≢ 15 → k ≢ 16 → k ≢ 23 → k ≢ 24 → k ≢ 25 → w r p ≡ none

  rest : Numbered WantsNone 0 want_table
  unfolding want_table
  rest = ((λ _ _ _ _ _ _ _ _ _. refl), ((λ n _ _ _ _ _ _ _ _. absurd (n refl)), ((λ _ _ _ _ _ _ _ _ _. refl), ((λ _ _ _ _ _ _ _ _ _. refl), ((λ _ n _ _ _ _ _ _ _. absurd (n refl)), ((λ _ _ _ _ _ _ _ _ _. refl), ((λ _ _ _ _ _ _ _ _ _. refl), ((λ _ _ n _ _ _ _ _ _. absurd (n refl)), ((λ _ _ _ _ _ _ _ _ _. refl), ((λ _ _ _ _ _ _ _ _ _. refl), ((λ _ _ _ _ _ _ _ _ _. refl), ((λ _ _ _ _ _ _ _ _ _. refl), ((λ _ _ _ _ _ _ _ _ _. refl), ((λ _ _ _ n _ _ _ _ _. absurd (n refl)), ((λ _ _ _ _ _ _ _ _ _. refl), ((λ _ _ _ _ n _ _ _ _. absurd (n refl)), ((λ _ _ _ _ _ n _ _ _. absurd (n refl)), ((λ _ _ _ _ _ _ _ _ _. refl), ((λ _ _ _ _ _ _ _ _ _. refl), ((λ _ _ _ _ _ _ _ _ _. refl), ((λ _ _ _ _ _ _ _ _ _. refl), ((λ _ _ _ _ _ _ _ _ _. refl), ((λ _ _ _ _ _ _ _ _ _. refl), ((λ _ _ _ _ _ _ n _ _. absurd (n refl)), ((λ _ _ _ _ _ _ _ n _. absurd (n refl)), ((λ _ _ _ _ _ _ _ _ n. absurd (n refl)), ((λ _ _ _ _ _ _ _ _ _. refl), ((λ _ _ _ _ _ _ _ _ _. refl), ((λ _ _ _ _ _ _ _ _ _. refl), ((λ _ _ _ _ _ _ _ _ _. refl), ((λ _ _ _ _ _ _ _ _ _. refl), tt)))))))))))))))))))))))))))))))

  -- The other steps want nothing.
  pub want_none : WantsNone p.step (λ _ _. wants r p)
  unfolding wants
  want_none = numbered_at WantsNone wants_none (λ n _ _ _ _ _ _ _ _ _. refl) want_table rest p.step

  pub untold : has_step p.operation p.step ≡ true → (by_root p.step && stops r p.step) ≡ false → wants r p ≡ none → None ≡ request_in (asks r p)
  untold h s e = rw (asked h s, e) refl

  -- A request that is stopped is not told.
  silent : by_root p.step ≡ true → barred r p.step ≡ true → wants r p ≡ none
  unfolding by_root barred want_table
  silent b e = go (tell (eqb p.step 16))
    where
      go : Told (eqb p.step 16) → wants r p ≡ none
      go (holds t) = want_at 16 (eqb-true p.step 16 t) ∙ rw (rw t at e) refl
      go (fails f) = want_at 24 (eqb-true p.step 24 (rw f at b)) ∙ rw (rw f at e) refl

  pub halted : (by_root p.step && stops r p.step) ≡ true → None ≡ request_in (asks r p)
  unfolding asks requests stops
  halted s = go (tell (ltb 8 r.level))
    where
      both : (by_root p.step ≡ true) × (stops r p.step ≡ true)
      both = and_both (by_root p.step) (stops r p.step) s

      none_told : (b : Bool) → None ≡ request_in (cond b none none)
      none_told true = refl
      none_told false = refl

      go : Told (ltb 8 r.level) → None ≡ request_in (cond (ltb 8 r.level && by_root p.step) none (cond (has_step p.operation p.step) (wants r p) none))
      go (holds a) = rw (a, both.0) refl
      go (fails f) = rw (f, silent both.0 (rw f at both.1)) (none_told (has_step p.operation p.step))

-- ---- 24's word

-- With level 0 and next 0 there are N chains, and a merge is barred; so too where N and next are 0.
pub has_level : (n level next : ℕ) → merge_barred (chain_count n level next) n ≡ false → next ≡ 0 → 1 ≤ level
unfolding merge_barred chain_count span
has_level n zero next e z = absurd (eqb-false (n * 2 ^ 0 + next) n e (omega arith))
has_level n (suc level) next e z = omega arith

has_original : (n level next : ℕ) → merge_barred (chain_count n level next) n ≡ false → next ≡ 0 → 1 ≤ n
unfolding merge_barred chain_count span
has_original zero level next e z = absurd (eqb-false (zero * 2 ^ level + next) zero e (omega arith))
has_original (suc n) level next e z = omega arith

pub target_after : (n level next : ℕ) → merge_barred (chain_count n level next) n ≡ false → next ≡ 0
    → span n (level - 1) ≡ merge_target n level next + 1
unfolding merge_target
target_after n level next e z =
    rw (eqb_same next 0 z) (let h = span_pos n (level - 1) (has_original n level next e z) in omega arith)

pub target_before : (n level next : ℕ) → next ≢ 0 → next ≡ merge_target n level next + 1
unfolding merge_target
target_before n level next z = rw (eqb-diff next 0 z) (omega (arith, z))

pub asks_sound : (r : Root) (p : Party) → r.level ≤ 8 → asks r p ≡ requests r p
unfolding asks
asks_sound r p h = rw (le-ltb 8 r.level h) refl
