-- The chains one after the other, their overflow pages counted.
-- Main statements: saved_fits, unsaved_fails (what the answer of one chain says); fits_next, counted_next (one chain
-- more); chain_bounded, counted_bounded; all_saved, some_unsaved, chains_fit_ok, chains_unfit (the answer of all chains).
use mathlib.Core.Path.{◌≡◌, refl, sym, ap}
use mathlib.Core.Bool.{Bool, true, false, cond, ◌&&◌}
use mathlib.Core.List.{List}
use Prim.Native.Nat.{ℕ, zero, suc, ◌+◌, ◌-◌, ◌*◌, ◌≤◌, ◌<◌}
use native.Mathlib.Omega.{arith}
use lib.ListN.{length}
use Rattle.std.specs.Prelude.{Some, None}
use Rattle.model.specs.declared.Root.{Root}
use Rattle.model.specs.Pages.{page_of, link_of, primary_page}
use Rattle.model.specs.Chains.{Checked, damaged, sound, list_from, Chain, read_chain, chain_of, pages_in}
use Rattle.model.specs.TakeUp.{fits_if_sound, chains_fit}
use Rattle.model.proofs.Laws.Walks.{walked_chained, chain_reads}
use Rattle.take_up.specs.Seen.{chain_saved, pages_counted, chains_saved}

module _ (r : Root) (ps : List ℕ) where
  pub saved_fits : (c n : ℕ) → chain_saved r ps c ≡ Some n → (fits_if_sound r ps c (chain_of r ps c) ≡ true) × (length (pages_in (chain_of r ps c)) ≡ n)
  unfolding chain_saved
  saved_fits c n e = go (fits_if_sound r ps c (chain_of r ps c)) e
    where
      go : (t : Bool) → cond t (Some (length (pages_in (chain_of r ps c)))) None ≡ Some n → (t ≡ true) × (length (pages_in (chain_of r ps c)) ≡ n)
      go true e = (refl, cc)
      go false e = cc

  pub unsaved_fails : (c : ℕ) → chain_saved r ps c ≡ None → fits_if_sound r ps c (chain_of r ps c) ≡ false
  unfolding chain_saved
  unsaved_fails c e = go (fits_if_sound r ps c (chain_of r ps c)) e
    where
      go : (t : Bool) → cond t (Some (length (pages_in (chain_of r ps c)))) None ≡ None → t ≡ false
      go true e = cc
      go false e = refl

  pub fits_next : (n c : ℕ) → 0 < n → chains_fit r ps n c ≡ (fits_if_sound r ps c (chain_of r ps c) && chains_fit r ps (n - 1) (c + 1))
  unfolding chains_fit
  fits_next zero c some = absurd (omega arith)
  fits_next (suc n) c some = let less : n ≡ suc n - 1 = omega arith in ap (λ (k : ℕ). fits_if_sound r ps c (chain_of r ps c) && chains_fit r ps k (c + 1)) less

  pub counted_next : (n c : ℕ) → 0 < n → pages_counted r ps n c ≡ length (pages_in (chain_of r ps c)) + pages_counted r ps (n - 1) (c + 1)
  unfolding pages_counted
  counted_next zero c some = absurd (omega arith)
  counted_next (suc n) c some = let less : n ≡ suc n - 1 = omega arith in ap (λ (k : ℕ). length (pages_in (chain_of r ps c)) + pages_counted r ps k (c + 1)) less

  pub none_fits : (n c : ℕ) → n ≤ 0 → (chains_fit r ps n c ≡ true) × (pages_counted r ps n c ≡ 0)
  unfolding chains_fit pages_counted
  none_fits zero c h = (refl, refl)
  none_fits (suc n) c h = absurd (omega arith)

  -- A chain has at most V overflow pages.
  pub chain_bounded : (c : ℕ) → length (pages_in (chain_of r ps c)) ≤ r.overflow
  unfolding pages_in read_chain list_from
  chain_bounded c = go (chain_of r ps c) refl
    where
      go : (x : Checked Chain) → chain_of r ps c ≡ x → length (pages_in x) ≤ r.overflow
      go damaged e = omega arith
      go (sound d) e =
          let x = chain_reads r ps c d e in
          let few = (walked_chained r ps r.overflow (link_of (page_of ps (primary_page c))) x.xs x.listed).1 in
          let same : length d.pages ≡ length x.xs = ap (λ (y : Chain). length y.pages) (sym x.chain_is) in
          omega (arith, few, same)

  pub counted_bounded : r.overflow ≤ 752 → (n c : ℕ) → pages_counted r ps n c ≤ n * 752
  unfolding pages_counted
  counted_bounded h zero c = omega arith
  counted_bounded h (suc n) c = omega (arith, h, chain_bounded c, counted_bounded h n (c + 1))

  pub all_saved : (n total : ℕ) → chains_fit r ps n 0 ≡ true → pages_counted r ps n 0 ≡ total → Some total ≡ chains_saved r ps n 0
  unfolding chains_saved
  all_saved n total e f = rw (e, f) refl

  pub some_unsaved : (n : ℕ) → chains_fit r ps n 0 ≡ false → None ≡ chains_saved r ps n 0
  unfolding chains_saved
  some_unsaved n e = rw e refl

  pub chains_fit_ok : (n t : ℕ) → chains_saved r ps n 0 ≡ Some t → (chains_fit r ps n 0 ≡ true) × (pages_counted r ps n 0 ≡ t)
  unfolding chains_saved
  chains_fit_ok n t e = go (chains_fit r ps n 0) e
    where
      go : (b : Bool) → cond b (Some (pages_counted r ps n 0)) None ≡ Some t → (b ≡ true) × (pages_counted r ps n 0 ≡ t)
      go true e = (refl, cc)
      go false e = cc

  pub chains_unfit : (n : ℕ) → chains_saved r ps n 0 ≡ None → chains_fit r ps n 0 ≡ false
  unfolding chains_saved
  chains_unfit n e = go (chains_fit r ps n 0) e
    where
      go : (b : Bool) → cond b (Some (pages_counted r ps n 0)) None ≡ None → b ≡ false
      go true e = cc
      go false e = refl
