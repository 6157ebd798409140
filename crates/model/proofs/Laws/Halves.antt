-- The two halves of a chain that splits: which keys stay and which go, and that both halves ascend.
-- Main statements: has_staying, has_going (the keys of each half); setting_staying, setting_going (their settings); ascends_staying, ascends_going.
use mathlib.Core.Path.{◌≡◌, refl, sym, ap, ◌∙◌}
use mathlib.Core.Bool.{Bool, true, false, cond, not, ◌&&◌, ◌||◌, and-false}
use mathlib.Core.List.{List, [], ◌∷◌}
use mathlib.Core.Option.{Option, none, some}
use Prim.Native.Nat.{ℕ}
use native.Mathlib.Omega.{arith}
use lib.Dec.{eqb}
use Rattle.model.specs.Addresses.{hash}
use Rattle.model.specs.declared.Entry.{Entry}
use Rattle.model.specs.Entries.{key_of, setting_of, has_key, setting_in, below_first, ascending, staying, going}
use Rattle.model.proofs.Laws.Lists.{cond_ind, Cmp, same, diff, cmp, and_both, both-and, eqb_same, eqb-diff, ltb-true, lt-ltb}

-- ---- The records whose keys pass a test

unfoldable pub passing : (ℕ → Bool) → List Entry → List Entry
passing f [] = []
passing f (e ∷ es) = cond (f (key_of e)) (e ∷ passing f es) (passing f es)

module _ (f : ℕ → Bool) where
  pub has_passing : (k : ℕ) (es : List Entry) → has_key k (passing f es) ≡ (has_key k es && f k)
  unfolding has_key passing
  has_passing k [] = refl
  has_passing k (e ∷ es) = go (cmp (key_of e) k) (has_passing k es)
    where
      -- the record has key k
      here : (t : Bool) → has_key k (passing f es) ≡ (has_key k es && t) → eqb (key_of e) k ≡ true → has_key k (cond t (e ∷ passing f es) (passing f es)) ≡ t
      here true ih s = rw s refl
      here false ih s = ih ∙ and-false (has_key k es)

      -- it has another
      there : (t : Bool) → eqb (key_of e) k ≡ false → has_key k (cond t (e ∷ passing f es) (passing f es)) ≡ has_key k (passing f es)
      there true s = rw s refl
      there false s = refl

      go : Cmp (key_of e) k → has_key k (passing f es) ≡ (has_key k es && f k)
          → has_key k (cond (f (key_of e)) (e ∷ passing f es) (passing f es)) ≡ ((eqb (key_of e) k || has_key k es) && f k)
      go (same s) ih =
          let y = eqb_same (key_of e) k s in
          here (f (key_of e)) (ih ∙ ap (λ (x : ℕ). has_key k es && f x) (sym s)) y ∙ ap f s ∙ sym (ap (λ (t : Bool). (t || has_key k es) && f k) y)
      go (diff n) ih =
          let y = eqb-diff (key_of e) k n in
          there (f (key_of e)) y ∙ ih ∙ sym (ap (λ (t : Bool). (t || has_key k es) && f k) y)

  pub setting_passing : (k : ℕ) (es : List Entry) → setting_in k (passing f es) ≡ cond (f k) (setting_in k es) none
  unfolding setting_in passing
  setting_passing k [] = cond_ind (λ (l : Option ℕ). none ≡ l) (f k) none none (λ _. refl) (λ _. refl)
  setting_passing k (e ∷ es) = go (cmp (key_of e) k) (setting_passing k es)
    where
      -- the record has key k
      here : (t : Bool) → setting_in k (passing f es) ≡ cond t (setting_in k es) none → eqb (key_of e) k ≡ true
          → setting_in k (cond t (e ∷ passing f es) (passing f es)) ≡ cond t (some (setting_of e)) none
      here true ih s = rw s refl
      here false ih s = ih

      -- it has another
      there : (t : Bool) → eqb (key_of e) k ≡ false → setting_in k (cond t (e ∷ passing f es) (passing f es)) ≡ setting_in k (passing f es)
      there true s = rw s refl
      there false s = refl

      go : Cmp (key_of e) k → setting_in k (passing f es) ≡ cond (f k) (setting_in k es) none
          → setting_in k (cond (f (key_of e)) (e ∷ passing f es) (passing f es)) ≡ cond (f k) (cond (eqb (key_of e) k) (some (setting_of e)) (setting_in k es)) none
      go (same s) ih =
          let y = eqb_same (key_of e) k s in
          here (f (key_of e)) (ih ∙ ap (λ (x : ℕ). cond (f x) (setting_in k es) none) (sym s)) y
          ∙ ap (λ (x : ℕ). cond (f x) (some (setting_of e)) none) s ∙ sym (ap (λ (t : Bool). cond (f k) (cond t (some (setting_of e)) (setting_in k es)) none) y)
      go (diff n) ih =
          let y = eqb-diff (key_of e) k n in
          there (f (key_of e)) y ∙ ih ∙ sym (ap (λ (t : Bool). cond (f k) (cond t (some (setting_of e)) (setting_in k es)) none) y)

  -- A number below the first key is below the first that passes.
  below_passing : (k : ℕ) (es : List Entry) → ascending es ≡ true → below_first k es ≡ true → below_first k (passing f es) ≡ true
  unfolding below_first ascending passing
  below_passing k [] a b = refl
  below_passing k (e ∷ es) a b =
      let d = and_both (below_first (key_of e) es) (ascending es) a in
      cond_ind (λ (l : List Entry). below_first k l ≡ true) (f (key_of e)) (e ∷ passing f es) (passing f es) (λ _. b)
      (λ _. below_passing k es d.1 (lower es d.0))
    where
      lower : (xs : List Entry) → below_first (key_of e) xs ≡ true → below_first k xs ≡ true
      lower [] c = refl
      lower (x ∷ xs) c = let h = ltb-true k (key_of e) b in let l = ltb-true (key_of e) (key_of x) c in lt-ltb k (key_of x) (omega arith)

  pub ascends_passing : (es : List Entry) → ascending es ≡ true → ascending (passing f es) ≡ true
  unfolding ascending passing
  ascends_passing [] a = refl
  ascends_passing (e ∷ es) a =
      let d = and_both (below_first (key_of e) es) (ascending es) a in
      let ih = ascends_passing es d.1 in
      cond_ind (λ (l : List Entry). ascending l ≡ true) (f (key_of e)) (e ∷ passing f es) (passing f es) (λ _. both-and (below_passing (key_of e) es d.1 d.0) ih) (λ _. ih)

-- ---- The halves

module _ (n i c : ℕ) where
  staying-passing : (es : List Entry) → staying n i c es ≡ passing (λ k. eqb (hash n i k) c) es
  unfolding staying passing
  staying-passing [] = refl
  staying-passing (e ∷ es) = rw (staying-passing es) refl

  going-passing : (es : List Entry) → going n i c es ≡ passing (λ k. not (eqb (hash n i k) c)) es
  unfolding going passing
  going-passing [] = refl
  going-passing (e ∷ es) = rw (going-passing es) (swap (eqb (hash n i (key_of e)) c))
    where
      swap : (t : Bool) → cond t (passing (λ k. not (eqb (hash n i k) c)) es) (e ∷ passing (λ k. not (eqb (hash n i k) c)) es)
          ≡ cond (not t) (e ∷ passing (λ k. not (eqb (hash n i k) c)) es) (passing (λ k. not (eqb (hash n i k) c)) es)
      swap true = refl
      swap false = refl

  pub has_staying : (k : ℕ) (es : List Entry) → has_key k (staying n i c es) ≡ (has_key k es && eqb (hash n i k) c)
  has_staying k es = ap (has_key k) (staying-passing es) ∙ has_passing (λ x. eqb (hash n i x) c) k es

  pub has_going : (k : ℕ) (es : List Entry) → has_key k (going n i c es) ≡ (has_key k es && not (eqb (hash n i k) c))
  has_going k es = ap (has_key k) (going-passing es) ∙ has_passing (λ x. not (eqb (hash n i x) c)) k es

  pub setting_staying : (k : ℕ) (es : List Entry) → setting_in k (staying n i c es) ≡ cond (eqb (hash n i k) c) (setting_in k es) none
  setting_staying k es = ap (setting_in k) (staying-passing es) ∙ setting_passing (λ x. eqb (hash n i x) c) k es

  pub setting_going : (k : ℕ) (es : List Entry) → setting_in k (going n i c es) ≡ cond (not (eqb (hash n i k) c)) (setting_in k es) none
  setting_going k es = ap (setting_in k) (going-passing es) ∙ setting_passing (λ x. not (eqb (hash n i x) c)) k es

  pub ascends_staying : (es : List Entry) → ascending es ≡ true → ascending (staying n i c es) ≡ true
  ascends_staying es a = ap ascending (staying-passing es) ∙ ascends_passing (λ k. eqb (hash n i k) c) es a

  pub ascends_going : (es : List Entry) → ascending es ≡ true → ascending (going n i c es) ≡ true
  ascends_going es a = ap ascending (going-passing es) ∙ ascends_passing (λ k. not (eqb (hash n i k) c)) es a
