-- Who owns each overflow page of a saved file: the free list or a chain, found by looking for the page; where each
-- page is once in them, these are owners as the invariant has them.
-- Main statements: owner_in, held_in; owned_once.
use mathlib.Core.Path.{◌≡◌, refl, sym, ap, ◌∙◌, subst}
use mathlib.Core.Bool.{false, cond, ◌&&◌}
use mathlib.Core.List.{List, [], ◌++◌}
use Prim.Native.Nat.{ℕ, zero, suc, ◌+◌, ◌≤◌, ◌<◌}
use native.Mathlib.Omega.{arith}
use lib.Dec.{eqb, ltb}
use Rattle.model.specs.FreeList.{is_among}
use Rattle.model.proofs.Laws.Lists.{Told, holds, fails, tell, Cmp, same, diff, cmp, cond-true, cond-false, cond_ind, and_both, eqb-true, ltb-true, ltb-false, lt-ltb, count_nil, count_append, among_count, absent_count}
use Rattle.model.proofs.Invariant.Ghost.{Owner, Named, nobody, free, in_chain, count, same_owner, owns, Owned}
use Rattle.model.proofs.Invariant.Owners.{owner_same, owner_self, owner_diff, diff_swap, kinds_apart, indices_apart, owns_self, owns_diff}

-- The pages of n chains from chain c on, one after the other: f has each chain's.
module _ (f : ℕ → List ℕ) where
  unfoldable pub chained : ℕ → ℕ → List ℕ
  chained zero c = []
  chained (suc n) c = f c ++ chained n (c + 1)

  -- The first chain that has page x.
  unfoldable pub owner_from : ℕ → ℕ → ℕ → Owner
  owner_from zero c x = nobody
  owner_from (suc n) c x = cond (is_among x (f c)) (in_chain c) (owner_from n (c + 1) x)

  count_chained : (n c x : ℕ) → count x (chained (suc n) c) ≡ count x (f c) + count x (chained n (c + 1))
  unfolding chained
  count_chained n c x = count_append x (f c) (chained n (c + 1))

  part_count : (n c d x : ℕ) → c ≤ d → d < c + n → count x (f d) ≤ count x (chained n c)
  part_count zero c d x h l = absurd (omega arith)
  part_count (suc n) c d x h l = go (cmp c d) (λ k. part_count n (c + 1) d x k (omega arith))
    where
      go : Cmp c d → (c + 1 ≤ d → count x (f d) ≤ count x (chained n (c + 1))) → count x (f d) ≤ count x (chained (suc n) c)
      go (same e) ih = rw (← e) (omega (arith, count_chained n c x))
      go (diff e) ih = omega (arith, count_chained n c x, ih (omega arith))

  -- A chain outside these owns nothing.
  owner_outside : (n c d x : ℕ) → (c ≤ d → d < c + n → ⊥) → owns (owner_from n c x) (in_chain d) ≡ 0
  unfolding owner_from
  owner_outside zero c d x out = owns_diff nobody (in_chain d) (kinds_apart nobody (in_chain d) refl)
  owner_outside (suc n) c d x out =
      cond_ind (λ o. owns o (in_chain d) ≡ 0) (is_among x (f c)) (in_chain c) (owner_from n (c + 1) x)
      (λ _. owns_diff (in_chain c) (in_chain d) (indices_apart (in_chain c) (in_chain d) (λ e. out (omega arith) (omega arith))))
      (λ _. owner_outside n (c + 1) d x (λ h l. out (omega arith) (omega arith)))

  -- An owner of another kind owns nothing, but nobody.
  owner_other : (n c x : ℕ) (o : Owner) → same_owner o nobody ≡ false → eqb o.kind 2 ≡ false → owns (owner_from n c x) o ≡ 0
  unfolding owner_from
  owner_other zero c x o s k = owns_diff nobody o (diff_swap o nobody s)
  owner_other (suc n) c x o s k =
      cond_ind (λ a. owns a o ≡ 0) (is_among x (f c)) (in_chain c) (owner_from n (c + 1) x)
      (λ _. owns_diff (in_chain c) o (diff_swap o (in_chain c) (kinds_apart o (in_chain c) k)))
      (λ _. owner_other n (c + 1) x o s k)

  -- Where x is in these lists once at most, it is in its owner's.
  owner_once : (n c d x : ℕ) → c ≤ d → d < c + n → count x (chained n c) ≤ 1 → count x (f d) ≡ owns (owner_from n c x) (in_chain d)
  unfolding owner_from
  owner_once zero c d x h l m = absurd (omega arith)
  owner_once (suc n) c d x h l m = go (tell (is_among x (f c))) (cmp c d) (λ k s. owner_once n (c + 1) d x k (omega arith) s)
    where
      go : Told (is_among x (f c)) → Cmp c d → (c + 1 ≤ d → count x (chained n (c + 1)) ≤ 1 → count x (f d) ≡ owns (owner_from n (c + 1) x) (in_chain d))
          → count x (f d) ≡ owns (cond (is_among x (f c)) (in_chain c) (owner_from n (c + 1) x)) (in_chain d)
      go (holds a) (same e) ih = rw (a, ← e) (omega (arith, among_count x (f c) a, count_chained n c x, m, owns_self (in_chain c)))
      go (holds a) (diff e) ih =
          rw a
          (omega (arith, among_count x (f c) a, count_chained n c x, m, part_count n (c + 1) d x (omega arith) (omega arith), owns_diff (in_chain c) (in_chain d) (indices_apart (in_chain c) (in_chain d) e)))
      go (fails a) (same e) ih =
          rw (a, ← e) (absent_count x (f c) a ∙ sym (owner_outside n (c + 1) c x (λ p _. omega arith)))
      go (fails a) (diff e) ih = rw a (ih (omega arith) (omega (arith, count_chained n c x, m)))

  -- Somebody has a page that is in them.
  owner_found : (n c x : ℕ) → 1 ≤ count x (chained n c) → same_owner (owner_from n c x) nobody ≡ false
  unfolding owner_from chained
  owner_found zero c x h = absurd (omega (arith, count_nil x))
  owner_found (suc n) c x h = go (tell (is_among x (f c))) (λ s. owner_found n (c + 1) x s)
    where
      go : Told (is_among x (f c)) → (1 ≤ count x (chained n (c + 1)) → same_owner (owner_from n (c + 1) x) nobody ≡ false)
          → same_owner (cond (is_among x (f c)) (in_chain c) (owner_from n (c + 1) x)) nobody ≡ false
      go (holds a) ih = rw a (kinds_apart (in_chain c) nobody refl)
      go (fails a) ih = rw a (ih (omega (arith, count_append x (f c) (chained n (c + 1)), absent_count x (f c) a)))

  owner_none : (n c x : ℕ) → count x (chained n c) ≡ 0 → owner_from n c x ≡ nobody
  unfolding owner_from chained
  owner_none zero c x h = refl
  owner_none (suc n) c x h = go (tell (is_among x (f c))) (λ s. owner_none n (c + 1) x s)
    where
      go : Told (is_among x (f c)) → (count x (chained n (c + 1)) ≡ 0 → owner_from n (c + 1) x ≡ nobody) → cond (is_among x (f c)) (in_chain c) (owner_from n (c + 1) x) ≡ nobody
      go (holds a) ih = absurd (omega (arith, among_count x (f c) a, count_append x (f c) (chained n (c + 1))))
      go (fails a) ih = rw a (ih (omega (arith, count_append x (f c) (chained n (c + 1)))))

  -- ---- With the free list

  module _ (n : ℕ) (frees : List ℕ) where
    unfoldable pub owner_in : ℕ → Owner
    owner_in x = cond (is_among x frees) free (owner_from n 0 x)

    unfoldable pub held_in : Owner → List ℕ
    held_in o = cond (same_owner o free) frees (cond (eqb o.kind 2 && ltb o.index n) (f o.index) [])

    pub held_free : held_in free ≡ frees
    unfolding held_in
    held_free = cond-true (same_owner free free) frees _ (owner_self free)

    pub held_chain : (c : ℕ) → c < n → held_in (in_chain c) ≡ f c
    unfolding held_in
    held_chain c l = cond-false (same_owner (in_chain c) free) frees _ (kinds_apart (in_chain c) free refl) ∙ cond-true (ltb c n) (f c) [] (lt-ltb c n l)

    pub held_beyond : (c : ℕ) → n ≤ c → held_in (in_chain c) ≡ []
    unfolding held_in
    held_beyond c l =
        cond-false (same_owner (in_chain c) free) frees _ (kinds_apart (in_chain c) free refl)
        ∙ cond_ind (λ (u : List ℕ). u ≡ []) (ltb c n) (f c) [] (λ e. absurd (omega (arith, ltb-true c n e))) (λ _. refl)

    pub held_none : (o : Owner) → eqb o.kind 1 ≡ false → eqb o.kind 2 ≡ false → held_in o ≡ []
    unfolding held_in
    held_none o k l = cond-false (same_owner o free) frees _ (kinds_apart o free k) ∙ rw l refl

    pub named_in : (x : ℕ) → Named (owner_in x)
    unfolding owner_in owner_from
    named_in x = cond_ind Named (is_among x frees) free (owner_from n 0 x) (λ _. omega arith) (λ _. from n 0)
      where
        from : (k c : ℕ) → Named (owner_from k c x)
        from zero c = omega arith
        from (suc k) c = cond_ind Named (is_among x (f c)) (in_chain c) (owner_from k (c + 1) x) (λ _. omega arith) (λ _. from k (c + 1))

    module _ (p v : ℕ) (once : (x : ℕ) → p ≤ x → x < p + v → count x frees + count x (chained n 0) ≡ 1)
        (inside : (x : ℕ) → 1 ≤ count x frees + count x (chained n 0) → (p ≤ x) × (x < p + v)) where
      at_most : (x : ℕ) → count x frees + count x (chained n 0) ≤ 1
      at_most x = go (tell (ltb 0 (count x frees + count x (chained n 0))))
        where
          go : Told (ltb 0 (count x frees + count x (chained n 0))) → count x frees + count x (chained n 0) ≤ 1
          go (holds e) = let i = inside x (omega (arith, ltb-true 0 (count x frees + count x (chained n 0)) e)) in omega (arith, once x i.0 i.1)
          go (fails e) = omega (arith, ltb-false 0 (count x frees + count x (chained n 0)) e)

      free_once : (x : ℕ) → count x frees ≡ owns (owner_in x) free
      unfolding owner_in
      free_once x = go (tell (is_among x frees))
        where
          go : Told (is_among x frees) → count x frees ≡ owns (cond (is_among x frees) free (owner_from n 0 x)) free
          go (holds a) = rw a (omega (arith, among_count x frees a, at_most x, owns_self free))
          go (fails a) = rw a (absent_count x frees a ∙ sym (owner_other n 0 x free (kinds_apart free nobody refl) refl))

      chain_once : (c x : ℕ) → c < n → count x (f c) ≡ owns (owner_in x) (in_chain c)
      unfolding owner_in
      chain_once c x l = go (tell (is_among x frees))
        where
          go : Told (is_among x frees) → count x (f c) ≡ owns (cond (is_among x frees) free (owner_from n 0 x)) (in_chain c)
          go (holds a) =
              rw a
              (omega (arith, among_count x frees a, at_most x, part_count n 0 c x (omega arith) (omega arith), owns_diff free (in_chain c) (kinds_apart free (in_chain c) refl)))
          go (fails a) = rw a (owner_once n 0 c x (omega arith) (omega arith) (omega (arith, at_most x)))

      nothing_once : (o : Owner) (x : ℕ) → same_owner o nobody ≡ false → same_owner o free ≡ false → (eqb o.kind 2 && ltb o.index n) ≡ false → owns (owner_in x) o ≡ 0
      unfolding owner_in
      nothing_once o x s k t =
          cond_ind (λ a. owns a o ≡ 0) (is_among x frees) free (owner_from n 0 x) (λ _. owns_diff free o (diff_swap o free k)) (λ _. go (tell (eqb o.kind 2)))
        where
          go : Told (eqb o.kind 2) → owns (owner_from n 0 x) o ≡ 0
          go (fails e) = owner_other n 0 x o s e
          go (holds e) =
              let beyond : ltb o.index n ≡ false = rw e at t in
              let chain : in_chain o.index ≡ o = λ i. record { kind = sym (eqb-true o.kind 2 e) i; index = o.index } in
              subst (λ (a : Owner). owns (owner_from n 0 x) a ≡ 0) chain (owner_outside n 0 o.index x (λ _ l. omega (arith, ltb-false o.index n beyond)))

      pub owned_once : Owned p v owner_in held_in
      unfolding held_in owner_in
      owned_once = record {
        once = λ o x s. each o x s (tell (same_owner o free)) (tell (eqb o.kind 2 && ltb o.index n));
        none_of_nobody = held_none nobody refl refl;
        owned = λ x h l. somebody x h l (tell (is_among x frees));
        inside = λ x s. inside x (found x s (tell (is_among x frees)));
      }
        where
          each : (o : Owner) (x : ℕ) → same_owner o nobody ≡ false → Told (same_owner o free) → Told (eqb o.kind 2 && ltb o.index n) → count x (held_in o) ≡ owns (owner_in x) o
          each o x s (holds e) t = subst (λ (a : Owner). count x (held_in a) ≡ owns (owner_in x) a) (sym (owner_same o free e)) (ap (count x) held_free ∙ free_once x)
          each o x s (fails e) (holds t) =
              let k = and_both (eqb o.kind 2) (ltb o.index n) t in
              let chain : in_chain o.index ≡ o = λ i. record { kind = sym (eqb-true o.kind 2 k.0) i; index = o.index } in
              let l = ltb-true o.index n k.1 in
              subst (λ (a : Owner). count x (held_in a) ≡ owns (owner_in x) a) chain (ap (count x) (held_chain o.index l) ∙ chain_once o.index x l)
          each o x s (fails e) (fails t) = rw (e, t) (count_nil x ∙ sym (nothing_once o x s e t))

          somebody : (x : ℕ) → p ≤ x → x < p + v → Told (is_among x frees) → same_owner (owner_in x) nobody ≡ false
          somebody x h l (holds a) = rw a (kinds_apart free nobody refl)
          somebody x h l (fails a) = rw a (owner_found n 0 x (omega (arith, once x h l, absent_count x frees a)))

          found : (x : ℕ) → same_owner (owner_in x) nobody ≡ false → Told (is_among x frees) → 1 ≤ count x frees + count x (chained n 0)
          found x s (holds a) = omega (arith, among_count x frees a)
          found x s (fails a) = go (tell (ltb 0 (count x (chained n 0))))
            where
              go : Told (ltb 0 (count x (chained n 0))) → 1 ≤ count x frees + count x (chained n 0)
              go (holds e) = omega (arith, ltb-true 0 (count x (chained n 0)) e)
              go (fails e) =
                  absurd (owner_diff (owner_from n 0 x) nobody (rw a at s) (owner_none n 0 x (omega (arith, ltb-false 0 (count x (chained n 0)) e))))
