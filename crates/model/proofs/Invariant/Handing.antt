-- A chain written anew while all pages of one more owner go to another: those of the new chain at a split (step 18), those of the partner at a merge (step 28).
-- Main statements: Beside (an owner that a chain written anew leaves alone) with beside_chain, beside_party, beside_kind; own_also, held_also, Also (the side conditions);
-- also_to, also_from, also_chain, also_old, also_built, also_other (each list afterwards); owned_also; own_also_old, own_also_other, kinds_also.
use mathlib.Core.Path.{◌≡◌, refl, sym, ◌∙◌}
use mathlib.Core.Logic.{◌≢◌}
use mathlib.Core.Bool.{false}
use mathlib.Core.List.{List, []}
use Prim.Native.Nat.{ℕ, ◌≤◌}
use native.Mathlib.Omega.{arith}
use lib.Dec.{eqb}
use Rattle.model.specs.FreeList.{is_among}
use Rattle.model.proofs.Laws.Lists.{Told, holds, fails, tell, eqb-diff}
use Rattle.model.proofs.Invariant.Ghost.{Owner, owner, Named, nobody, in_chain, old_of, built_by, same_owner, Owned, own_after, held_after}
use Rattle.model.proofs.Invariant.Owners.{diff_swap, owner_diff, kinds_apart, indices_apart, own_of_member, held_after_same, held_after_other, own_after_moved, own_after_other, handed_all, own_anew, held_anew, anew_chain, anew_old, anew_built, anew_other, owned_anew, own_anew_old, own_anew_other, kinds_anew}

-- ---- Owners that a chain written anew leaves alone

-- Where party q writes chain c anew, owner o is neither the chain nor the party's old or built pages.
pub record Beside (c q : ℕ) (o : Owner) : Type 0 where
  pub not_chain : same_owner o (in_chain c) ≡ false
  pub not_old : same_owner o (old_of q) ≡ false
  pub not_built : same_owner o (built_by q) ≡ false

module _ (c q : ℕ) where
  -- Another chain, another party, another kind.
  pub beside_chain : (d : ℕ) → d ≢ c → Beside c q (in_chain d)
  beside_chain d n = record {
    not_chain = indices_apart (in_chain d) (in_chain c) n;
    not_old = kinds_apart (in_chain d) (old_of q) refl;
    not_built = kinds_apart (in_chain d) (built_by q) refl;
  }

  pub beside_party : (k j : ℕ) → 3 ≤ k → j ≢ q → Beside c q (owner k j)
  beside_party k j l n = record {
    not_chain = kinds_apart (owner k j) (in_chain c) (eqb-diff k 2 (omega arith));
    not_old = indices_apart (owner k j) (old_of q) n;
    not_built = indices_apart (owner k j) (built_by q) n;
  }

  pub beside_kind : (o : Owner) → eqb o.kind 2 ≡ false → eqb o.kind 3 ≡ false → eqb o.kind 5 ≡ false → Beside c q o
  beside_kind o x y z = record { not_chain = kinds_apart o (in_chain c) x; not_old = kinds_apart o (old_of q) y; not_built = kinds_apart o (built_by q) z }

-- ---- Both at once

-- Party q writes chain c anew, and all pages of owner a become those of owner o.
unfoldable pub own_also : (ℕ → Owner) → (Owner → List ℕ) → ℕ → ℕ → Owner → Owner → ℕ → Owner
own_also own held c q a o = own_after (own_anew own held c q) (held_anew held c q a) o

unfoldable pub held_also : (Owner → List ℕ) → ℕ → ℕ → Owner → Owner → Owner → List ℕ
held_also held c q a o = held_after (held_after (held_anew held c q) a []) o (held_anew held c q a)

-- Both are beside the chain, and two; the party has no old pages yet, and owner o no pages.
pub record Also (held : Owner → List ℕ) (c q : ℕ) (a o : Owner) : Type 0 where
  pub from : Beside c q a
  pub to : Beside c q o
  pub two : same_owner a o ≡ false
  pub from_some : same_owner a nobody ≡ false
  pub to_some : same_owner o nobody ≡ false
  pub to_kind : Named o
  pub no_old : held (old_of q) ≡ []
  pub to_none : held o ≡ []

module _ {held : Owner → List ℕ} {c q : ℕ} {a o : Owner} (h : Also held c q a o) where
  anew_beside : (x : Owner) → Beside c q x → held_anew held c q x ≡ held x
  anew_beside x f = anew_other held c q x f.not_chain f.not_old f.not_built

  -- ---- The lists

  pub also_to : held_also held c q a o o ≡ held a
  unfolding held_also
  also_to = held_after_same (held_after (held_anew held c q) a []) o (held_anew held c q a) ∙ anew_beside a h.from

  pub also_from : held_also held c q a o a ≡ []
  unfolding held_also
  also_from = held_after_other (held_after (held_anew held c q) a []) o (held_anew held c q a) a h.two ∙ held_after_same (held_anew held c q) a []

  also_rest : (x : Owner) → same_owner x a ≡ false → same_owner x o ≡ false → held_also held c q a o x ≡ held_anew held c q x
  unfolding held_also
  also_rest x d e = held_after_other (held_after (held_anew held c q) a []) o (held_anew held c q a) x e ∙ held_after_other (held_anew held c q) a [] x d

  pub also_other : (x : Owner) → Beside c q x → same_owner x a ≡ false → same_owner x o ≡ false → held_also held c q a o x ≡ held x
  also_other x f d e = also_rest x d e ∙ anew_beside x f

  pub also_chain : held_also held c q a o (in_chain c) ≡ held (built_by q)
  also_chain = also_rest (in_chain c) (diff_swap a (in_chain c) h.from.not_chain) (diff_swap o (in_chain c) h.to.not_chain) ∙ anew_chain held c q

  pub also_old : held_also held c q a o (old_of q) ≡ held (in_chain c)
  also_old = also_rest (old_of q) (diff_swap a (old_of q) h.from.not_old) (diff_swap o (old_of q) h.to.not_old) ∙ anew_old held c q

  pub also_built : held_also held c q a o (built_by q) ≡ []
  also_built = also_rest (built_by q) (diff_swap a (built_by q) h.from.not_built) (diff_swap o (built_by q) h.to.not_built) ∙ anew_built held c q

  -- ---- The owners

  module _ {p v : ℕ} {own : ℕ → Owner} (w : Owned p v own held) where
    anew : Owned p v (own_anew own held c q) (held_anew held c q)
    anew = owned_anew w c q h.no_old

    pub owned_also : Owned p v (own_also own held c q a o) (held_also held c q a o)
    unfolding own_also held_also
    owned_also = handed_all anew a o h.two h.from_some h.to_some (anew_beside o h.to ∙ h.to_none)

    -- A page that the chain written anew gives to another owner than a.
    own_also_rest : (x : ℕ) (y : Owner) → own_anew own held c q x ≡ y → same_owner y a ≡ false → own_also own held c q a o x ≡ y
    unfolding own_also
    own_also_rest x y e d = own_after_other (own_anew own held c q) (held_anew held c q a) o x (go (tell (is_among x (held_anew held c q a)))) ∙ e
      where
        go : Told (is_among x (held_anew held c q a)) → is_among x (held_anew held c q a) ≡ false
        go (holds t) = absurd (owner_diff y a d (sym e ∙ own_of_member anew a x t))
        go (fails t) = t

    pub own_also_old : (x : ℕ) → own x ≡ in_chain c → own_also own held c q a o x ≡ old_of q
    own_also_old x e = own_also_rest x (old_of q) (own_anew_old w c q x e) (diff_swap a (old_of q) h.from.not_old)

    -- Any other page keeps its owner.
    pub own_also_other : (x : ℕ) (y : Owner) → same_owner y (in_chain c) ≡ false → same_owner y (built_by q) ≡ false → same_owner y a ≡ false → own x ≡ y → own_also own held c q a o x ≡ y
    own_also_other x y d f g e = own_also_rest x y (own_anew_other w c q x (rw e d) (rw e f) ∙ e) g

    pub kinds_also : (x : ℕ) → Named (own x) → Named (own_also own held c q a o x)
    unfolding own_also
    kinds_also x l = go (tell (is_among x (held_anew held c q a)))
      where
        go : Told (is_among x (held_anew held c q a)) → Named (own_after (own_anew own held c q) (held_anew held c q a) o x)
        go (holds t) = rw (own_after_moved (own_anew own held c q) (held_anew held c q a) o x t) h.to_kind
        go (fails t) = rw (own_after_other (own_anew own held c q) (held_anew held c q a) o x t) (kinds_anew w c q x l)
