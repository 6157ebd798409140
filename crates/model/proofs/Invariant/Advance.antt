-- One split more, exactly: one chain more, the local levels of the chain that splits and of the new one, and every key's home.
-- Main statements: advance_size, advance_fits; advance_other, advance_split, advance_made (local levels); split-hash (where a key of the splitting chain goes), hash_back,
-- hash_back_made (whence the keys of the two came);
-- address_local, home_inside, home_leads, home_splits (a key's home before); home_other, home_split, home_made (afterwards).
use mathlib.Core.Path.{◌≡◌, sym, ap, ◌∙◌}
use mathlib.Core.Logic.{◌≢◌, ◌⊎◌, inl, inr}
use mathlib.Core.Bool.{true, false}
use Prim.Native.Nat.{ℕ, suc, ◌+◌, ◌<◌}
use native.Mathlib.Omega.{arith}
use lib.Dec.{ltb, eqb}
use Rattle.model.specs.Addresses.{span, hash, level_for, address_for, address_level, address_of}
use Rattle.model.proofs.Laws.Lists.{Ord, lt, ge, ord, cond_ind, eqb-true, eqb-false, ltb-true, ltb-false}
use Rattle.model.proofs.Laws.Addresses.{span_next, hash_lt, hash_next, address_lt}
use Rattle.model.proofs.Invariant.Ghost.{Extent, extent, size, advance, local_level}
use Rattle.model.proofs.Invariant.Extents.{size_is, local_split, local_made, local_rest, home_is}

module _ (n : ℕ) (e : Extent) (fits : e.next < span n e.level) where
  abbrev wider : Extent
  wider = extent e.level (e.next + 1)

  abbrev raised : Extent
  raised = extent (e.level + 1) 0

  -- What holds inside a round and at its end holds of one split more.
  advance_ind : (P : Extent → Type 0) → (e.next + 1 ≡ span n e.level → P raised) → (e.next + 1 < span n e.level → P wider) → P (advance n e)
  unfolding advance
  advance_ind P f g =
      cond_ind P (eqb (e.next + 1) (span n e.level)) raised wider (λ t. f (eqb-true (e.next + 1) (span n e.level) t))
      (λ t. let d = eqb-false (e.next + 1) (span n e.level) t in g (omega arith))

  pub advance_size : size n (advance n e) ≡ suc (size n e)
  advance_size =
      advance_ind (λ f. size n f ≡ suc (size n e)) (λ s. omega (arith, size_is n e, size_is n raised, span_next n e.level))
      (λ s. omega (arith, size_is n e, size_is n wider))

  pub advance_fits : (advance n e).next < span n (advance n e).level
  advance_fits = advance_ind (λ f. f.next < span n f.level) (λ s. omega (arith, span_next n e.level)) (λ s. s)

  -- ---- Local levels

  pub advance_other : (c : ℕ) → c ≢ e.next → c < size n e → local_level n (advance n e) c ≡ local_level n e c
  advance_other c d l =
      advance_ind (λ f. local_level n f c ≡ local_level n e c)
      (λ s. local_rest n raised c (omega arith) (omega (arith, size_is n e, span_next n e.level)) ∙ sym (over s (ord c e.next)))
      (λ s. inside (ord c e.next) (ord c (span n e.level)))
    where
      over : e.next + 1 ≡ span n e.level → Ord c e.next → local_level n e c ≡ e.level + 1
      over s (lt h _) = local_split n e c h
      over s (ge h _) = local_made n e c (omega arith)

      inside : Ord c e.next → Ord c (span n e.level) → local_level n wider c ≡ local_level n e c
      inside (lt h _) o = local_split n wider c (omega arith) ∙ sym (local_split n e c h)
      inside (ge h _) (lt k _) = local_rest n wider c (omega arith) k ∙ sym (local_rest n e c h k)
      inside (ge h _) (ge k _) = local_made n wider c k ∙ sym (local_made n e c k)

  pub advance_split : local_level n (advance n e) e.next ≡ e.level + 1
  advance_split =
      advance_ind (λ f. local_level n f e.next ≡ e.level + 1) (λ s. local_rest n raised e.next (omega arith) (omega (arith, span_next n e.level)))
      (λ s. local_split n wider e.next (omega arith))

  pub advance_made : local_level n (advance n e) (size n e) ≡ e.level + 1
  advance_made =
      advance_ind (λ f. local_level n f (size n e) ≡ e.level + 1)
      (λ s. local_rest n raised (size n e) (omega arith) (omega (arith, size_is n e, span_next n e.level))) (λ s. local_made n wider (size n e) (omega (arith, size_is n e)))

  -- ---- Keys

  module _ (some : 0 < n) (k : ℕ) where
    abbrev home : ℕ
    home = address_of n e.level e.next k

    -- A key of the chain that splits stays there, or goes to the new chain.
    pub split-hash : hash n e.level k ≡ e.next → hash n (e.level + 1) k ≢ e.next → hash n (e.level + 1) k ≡ size n e
    split-hash s d = go (hash_next n e.level k some)
      where
        go : (hash n (e.level + 1) k ≡ hash n e.level k) ⊎ (hash n (e.level + 1) k ≡ hash n e.level k + span n e.level) → hash n (e.level + 1) k ≡ size n e
        go (inl x) = absurd (d (x ∙ s))
        go (inr x) = omega (arith, size_is n e)

    -- One bit less leads a key of either chain to the one that splits.
    pub hash_back : hash n (e.level + 1) k ≡ e.next → hash n e.level k ≡ e.next
    hash_back s = go (hash_next n e.level k some)
      where
        go : (hash n (e.level + 1) k ≡ hash n e.level k) ⊎ (hash n (e.level + 1) k ≡ hash n e.level k + span n e.level) → hash n e.level k ≡ e.next
        go (inl x) = sym x ∙ s
        go (inr x) = absurd (omega (arith, fits))

    pub hash_back_made : hash n (e.level + 1) k ≡ size n e → hash n e.level k ≡ e.next
    hash_back_made s = go (hash_next n e.level k some)
      where
        go : (hash n (e.level + 1) k ≡ hash n e.level k) ⊎ (hash n (e.level + 1) k ≡ hash n e.level k + span n e.level) → hash n e.level k ≡ e.next
        go (inl x) = absurd (omega (arith, size_is n e, hash_lt n e.level k some))
        go (inr x) = omega (arith, size_is n e)

    -- The hash function that leads a key home is that of its home's local level.
    pub address_local : local_level n e (address_of n e.level e.next k) ≡ address_level n e.level e.next k
    unfolding address_for level_for
    address_local = cond_ind (λ (j : ℕ). local_level n e (hash n j k) ≡ j) (ltb (hash n e.level k) e.next) (e.level + 1) e.level up level
      where
        up : ltb (hash n e.level k) e.next ≡ true → local_level n e (hash n (e.level + 1) k) ≡ e.level + 1
        up t = go (ltb-true (hash n e.level k) e.next t) (hash_next n e.level k some)
          where
            go : hash n e.level k < e.next
                → (hash n (e.level + 1) k ≡ hash n e.level k) ⊎ (hash n (e.level + 1) k ≡ hash n e.level k + span n e.level) → local_level n e (hash n (e.level + 1) k) ≡ e.level + 1
            go l (inl x) = local_split n e (hash n (e.level + 1) k) (omega arith)
            go l (inr x) = local_made n e (hash n (e.level + 1) k) (omega arith)

        level : ltb (hash n e.level k) e.next ≡ false → local_level n e (hash n e.level k) ≡ e.level
        level t = local_rest n e (hash n e.level k) (ltb-false (hash n e.level k) e.next t) (hash_lt n e.level k some)

    pub home_inside : home < size n e
    unfolding size
    home_inside = address_lt n e.level e.next k some

    pub home_leads : hash n (local_level n e home) k ≡ home
    unfolding address_for
    home_leads = ap (λ (j : ℕ). hash n j k) address_local

    -- Only a key that h_level leads to the chain that splits is at home there.
    pub home_splits : home ≡ e.next → hash n e.level k ≡ e.next
    home_splits s = ap (λ (j : ℕ). hash n j k) (sym (local_rest n e e.next (omega arith) fits) ∙ ap (local_level n e) (sym s)) ∙ home_leads ∙ s

    -- ---- Homes afterwards

    led_home : (c l : ℕ) → c < size n (advance n e) → local_level n (advance n e) c ≡ l → hash n l k ≡ c → address_of n (advance n e).level (advance n e).next k ≡ c
    led_home c l inside s there =
        home_is n (advance n e) c l k some (omega (arith, advance_fits)) (record { inside = inside; there = there; reach = omega arith }) (sym s)

    pub home_other : home ≢ e.next → address_of n (advance n e).level (advance n e).next k ≡ home
    home_other d =
        led_home home (local_level n e home) (omega (arith, advance_size, home_inside)) (advance_other home d home_inside) home_leads

    pub home_split : hash n (e.level + 1) k ≡ e.next → address_of n (advance n e).level (advance n e).next k ≡ e.next
    home_split s = led_home e.next (e.level + 1) (omega (arith, advance_size, size_is n e)) advance_split s

    pub home_made : hash n (e.level + 1) k ≡ size n e → address_of n (advance n e).level (advance n e).next k ≡ size n e
    home_made s = led_home (size n e) (e.level + 1) (omega (arith, advance_size)) advance_made s
