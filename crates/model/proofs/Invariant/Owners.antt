-- Page owners: how owners are told apart, what ownership says of pages and lists, how pages change hands, and which pages a write leaves alone.
-- Main statements: kinds_apart, indices_apart; own_of_member, member_of_own, no_repeats, apart, overflow_bounds; handed with handed_front, handed_all and handed_all_onto;
-- owned_anew (a chain written anew); same_off and same_held (frames); owned-start (all pages free).
use mathlib.Core.Path.{◌≡◌, refl, sym, ap, ◌∙◌, subst}
use mathlib.Core.Logic.{◌≢◌, ◌⊎◌, inl, inr}
use mathlib.Core.Bool.{true, false, cond, ◌&&◌, false≢true}
use mathlib.Core.List.{List, [], ◌∷◌, ◌++◌, reverse}
use Prim.Native.Nat.{ℕ, zero, suc, ◌+◌, ◌≤◌, ◌<◌}
use native.Mathlib.Omega.{arith}
use lib.ListN.{take, drop}
use lib.Dec.{eqb, ltb, leb}
use Rattle.model.specs.Pages.{page_of}
use Rattle.model.specs.FreeList.{is_among}
use Rattle.model.proofs.Laws.Structure.{SameOn}
use Rattle.model.proofs.Invariant.Ghost.{Owner, Named, nobody, free, in_chain, old_of, built_by, same_owner, owns, count, Owned, own_after, held_after}
use Rattle.model.proofs.Laws.Lists.{Told, holds, fails, tell, Cmp, same, diff, cmp, cond-true, cond-false, not-both, and_both, both-and, and_fails, left_fails, right_fails, eqb-true, eqb_same, eqb-diff, leb-true, leb-false, ltb-true, ltb-false, le-leb, lt-ltb, count_nil, count_append, count_cut, count-reverse, among_count, count_among, absent_count, among_first, among_rest}

-- ---- Owners told apart

pub owner_same : (a b : Owner) → same_owner a b ≡ true → a ≡ b
unfolding same_owner
owner_same a b e = let f = and_both (eqb a.kind b.kind) (eqb a.index b.index) e in
    λ i. record { kind = eqb-true a.kind b.kind f.0 i; index = eqb-true a.index b.index f.1 i }

pub same_owner_lem : (a b : Owner) → a ≡ b → same_owner a b ≡ true
unfolding same_owner
same_owner_lem a b e = both-and (eqb_same a.kind b.kind (ap (λ (o : Owner). o.kind) e)) (eqb_same a.index b.index (ap (λ (o : Owner). o.index) e))

pub owner_self : (a : Owner) → same_owner a a ≡ true
owner_self a = same_owner_lem a a refl

pub owner_diff : (a b : Owner) → same_owner a b ≡ false → a ≢ b
owner_diff a b n e = not-both (same_owner a b) (same_owner_lem a b e) n

pub diff_owner : (a b : Owner) → a ≢ b → same_owner a b ≡ false
diff_owner a b n = go (tell (same_owner a b))
  where
    go : Told (same_owner a b) → same_owner a b ≡ false
    go (holds e) = absurd (n (owner_same a b e))
    go (fails e) = e

pub diff_swap : (a b : Owner) → same_owner a b ≡ false → same_owner b a ≡ false
diff_swap a b n = diff_owner b a (λ e. owner_diff a b n (sym e))

-- Owners of two kinds: for named ones the test computes, so its proof is refl.
pub kinds_apart : (a b : Owner) → eqb a.kind b.kind ≡ false → same_owner a b ≡ false
unfolding same_owner
kinds_apart a b n = left_fails (eqb a.index b.index) n

-- Owners of two chains, or of two parties.
pub indices_apart : (a b : Owner) → a.index ≢ b.index → same_owner a b ≡ false
unfolding same_owner
indices_apart a b n = right_fails (eqb a.kind b.kind) (eqb-diff a.index b.index n)

pub owns_same : (a b : Owner) → same_owner a b ≡ true → owns a b ≡ 1
unfolding owns
owns_same a b e = rw e

pub owns_diff : (a b : Owner) → same_owner a b ≡ false → owns a b ≡ 0
unfolding owns
owns_diff a b e = rw e

pub owns_self : (a : Owner) → owns a a ≡ 1
owns_self a = owns_same a a (owner_self a)

-- It is at most 1, and where it is 1 the owners are the same.
pub owns_most : (a b : Owner) → owns a b ≤ 1
owns_most a b = go (tell (same_owner a b))
  where
    go : Told (same_owner a b) → owns a b ≤ 1
    go (holds e) = omega (arith, owns_same a b e)
    go (fails e) = omega (arith, owns_diff a b e)

pub owner_owns : (a b : Owner) → 1 ≤ owns a b → a ≡ b
owner_owns a b h = go (tell (same_owner a b))
  where
    go : Told (same_owner a b) → a ≡ b
    go (holds e) = owner_same a b e
    go (fails e) = absurd (omega (arith, owns_diff a b e))

-- ---- What ownership says

module _ {p v : ℕ} {own : ℕ → Owner} {held : Owner → List ℕ} (w : Owned p v own held) where
  -- A list has only its owner's pages: nobody's has none.
  pub count_held : (o : Owner) (x : ℕ) → count x (held o) ≤ owns (own x) o
  count_held o x = go (tell (same_owner o nobody))
    where
      go : Told (same_owner o nobody) → count x (held o) ≤ owns (own x) o
      go (holds e) = rw (owner_same o nobody e, w.none_of_nobody, count_nil) (omega arith)
      go (fails e) = omega (arith, w.once o x e)

  pub no_repeats : (o : Owner) (x : ℕ) → count x (held o) ≤ 1
  no_repeats o x = omega (arith, count_held o x, owns_most (own x) o)

  pub own_of_member : (o : Owner) (x : ℕ) → is_among x (held o) ≡ true → own x ≡ o
  own_of_member o x e = owner_owns (own x) o (omega (arith, among_count x (held o) e, count_held o x))

  pub member_of_own : (o : Owner) (x : ℕ) → same_owner o nobody ≡ false → own x ≡ o → is_among x (held o) ≡ true
  member_of_own o x n e = count_among x (held o) (omega (arith, w.once o x n, owns_same (own x) o (same_owner_lem (own x) o e)))

  -- An owner without pages owns no page.
  pub owns_nothing : (o : Owner) (x : ℕ) → same_owner o nobody ≡ false → held o ≡ [] → own x ≢ o
  unfolding is_among
  owns_nothing o x n none e = false≢true (subst (λ (xs : List ℕ). is_among x xs ≡ true) none (member_of_own o x n e))

  -- An overflow page is in its owner's list.
  pub member_of_owner : (x : ℕ) → p ≤ x → x < p + v → is_among x (held (own x)) ≡ true
  member_of_owner x h k = member_of_own (own x) x (w.owned x h k) refl

  -- A page of one owner is not in the list of another, and is another page than any there.
  pub absent_elsewhere : (a b : Owner) (x : ℕ) → is_among x (held a) ≡ true → same_owner a b ≡ false → is_among x (held b) ≡ false
  absent_elsewhere a b x e n = go (tell (is_among x (held b)))
    where
      go : Told (is_among x (held b)) → is_among x (held b) ≡ false
      go (holds f) = absurd (owner_diff a b n (sym (own_of_member a x e) ∙ own_of_member b x f))
      go (fails f) = f

  pub apart : (a b : Owner) (x y : ℕ) → is_among x (held a) ≡ true → is_among y (held b) ≡ true → same_owner a b ≡ false → x ≢ y
  apart a b x y e f n q = owner_diff a b n (sym (own_of_member a x e) ∙ ap own q ∙ own_of_member b y f)

  -- An owner of a page is somebody, and the page is an overflow page.
  pub owner_of_member : (o : Owner) (x : ℕ) → is_among x (held o) ≡ true → same_owner o nobody ≡ false
  owner_of_member o x e = diff_owner o nobody (λ q. absurd (omega (arith, among_count x (held o) e, nothing q)))
    where
      nothing : o ≡ nobody → count x (held o) ≡ 0
      nothing q = rw (q, w.none_of_nobody) (count_nil x)

  pub overflow_bounds : (o : Owner) (x : ℕ) → is_among x (held o) ≡ true → (p ≤ x) × (x < p + v)
  overflow_bounds o x e = w.inside x (rw (own_of_member o x e) (owner_of_member o x e))

  -- Any other page is nobody's.
  pub own_of_other : (x : ℕ) → (p ≤ x → x < p + v → ⊥) → own x ≡ nobody
  own_of_other x n = go (tell (same_owner (own x) nobody))
    where
      go : Told (same_owner (own x) nobody) → own x ≡ nobody
      go (holds e) = owner_same (own x) nobody e
      go (fails e) = let h = w.inside x e in absurd (n h.0 h.1)

-- ---- Pages that change hands

pub held_after_same : (held : Owner → List ℕ) (o : Owner) (l : List ℕ) → held_after held o l o ≡ l
unfolding held_after
held_after_same held o l = cond-true (same_owner o o) l (held o) (owner_self o)

pub held_after_other : (held : Owner → List ℕ) (o : Owner) (l : List ℕ) (a : Owner) → same_owner a o ≡ false → held_after held o l a ≡ held a
unfolding held_after
held_after_other held o l a n = cond-false (same_owner a o) l (held a) n

pub own_after_moved : (own : ℕ → Owner) (ys : List ℕ) (o : Owner) (x : ℕ) → is_among x ys ≡ true → own_after own ys o x ≡ o
unfolding own_after
own_after_moved own ys o x e = cond-true (is_among x ys) o (own x) e

pub own_after_other : (own : ℕ → Owner) (ys : List ℕ) (o : Owner) (x : ℕ) → is_among x ys ≡ false → own_after own ys o x ≡ own x
unfolding own_after
own_after_other own ys o x e = cond-false (is_among x ys) o (own x) e

module _ {p v : ℕ} {own : ℕ → Owner} {held : Owner → List ℕ} (w : Owned p v own held) (o₁ o₂ : Owner) (n : same_owner o₁ o₂ ≡ false)
    (n₁ : same_owner o₁ nobody ≡ false) (n₂ : same_owner o₂ nobody ≡ false) where
  -- The pages ys go from o₁, which is left with l₁, to o₂, which then has l₂.
  pub handed : (ys l₁ l₂ : List ℕ) → ((x : ℕ) → count x (held o₁) ≡ count x ys + count x l₁) → ((x : ℕ) → count x l₂ ≡ count x ys + count x (held o₂))
      → Owned p v (own_after own ys o₂) (held_after (held_after held o₁ l₁) o₂ l₂)
  handed ys l₁ l₂ c₁ c₂ = record {
    once = λ o x m. counts o x m (tell (same_owner o o₂)) (tell (same_owner o o₁)) (tell (is_among x ys));
    none_of_nobody = after_nobody ∙ w.none_of_nobody;
    owned = λ x h k. somebody x h k (tell (is_among x ys));
    inside = λ x e. within x e (tell (is_among x ys));
  }
    where
      own' : ℕ → Owner
      own' = own_after own ys o₂

      held' : Owner → List ℕ
      held' = held_after (held_after held o₁ l₁) o₂ l₂

      at_o₂ : (o : Owner) → same_owner o o₂ ≡ true → held' o ≡ l₂
      at_o₂ o e = rw (owner_same o o₂ e) (held_after_same (held_after held o₁ l₁) o₂ l₂)

      at_o₁ : (o : Owner) → same_owner o o₂ ≡ false → same_owner o o₁ ≡ true → held' o ≡ l₁
      at_o₁ o d e = held_after_other (held_after held o₁ l₁) o₂ l₂ o d ∙ (rw (owner_same o o₁ e) (held_after_same held o₁ l₁))

      elsewhere : (o : Owner) → same_owner o o₂ ≡ false → same_owner o o₁ ≡ false → held' o ≡ held o
      elsewhere o d e = held_after_other (held_after held o₁ l₁) o₂ l₂ o d ∙ held_after_other held o₁ l₁ o e

      after_nobody : held' nobody ≡ held nobody
      after_nobody = elsewhere nobody (diff_swap o₂ nobody n₂) (diff_swap o₁ nobody n₁)

      -- what moves was o₁'s
      was : (x : ℕ) → is_among x ys ≡ true → is_among x (held o₁) ≡ true
      was x e = count_among x (held o₁) (omega (arith, among_count x ys e, c₁ x))

      counts : (o : Owner) (x : ℕ) → same_owner o nobody ≡ false → Told (same_owner o o₂) → Told (same_owner o o₁) → Told (is_among x ys)
          → count x (held' o) ≡ owns (own' x) o
      counts o x m (holds d) t (holds a) =
          rw (at_o₂ o d, own_after_moved own ys o₂ x a)
          (omega (arith, c₁ x, c₂ x, among_count x ys a, no_repeats w o₁ x, absent_count x (held o₂) (absent_elsewhere w o₁ o₂ x (was x a) n), owns_same o₂ o (same_owner_lem o₂ o (sym (owner_same o o₂ d)))))
      counts o x m (holds d) t (fails a) =
          rw (at_o₂ o d, own_after_other own ys o₂ x a) (omega (arith, c₂ x, absent_count x ys a, w.once o₂ x n₂, ap (owns (own x)) (owner_same o o₂ d)))
      counts o x m (fails d) (holds e) (holds a) =
          rw (at_o₁ o d e, own_after_moved own ys o₂ x a) (omega (arith, c₁ x, among_count x ys a, no_repeats w o₁ x, owns_diff o₂ o (diff_swap o o₂ d)))
      counts o x m (fails d) (holds e) (fails a) =
          rw (at_o₁ o d e, own_after_other own ys o₂ x a) (omega (arith, c₁ x, absent_count x ys a, w.once o₁ x n₁, ap (owns (own x)) (owner_same o o₁ e)))
      counts o x m (fails d) (fails e) (holds a) =
          rw (elsewhere o d e, own_after_moved own ys o₂ x a)
          (omega (arith, absent_count x (held o) (absent_elsewhere w o₁ o x (was x a) (diff_swap o o₁ e)), owns_diff o₂ o (diff_swap o o₂ d)))
      counts o x m (fails d) (fails e) (fails a) = rw (elsewhere o d e, own_after_other own ys o₂ x a) (w.once o x m)

      somebody : (x : ℕ) → p ≤ x → x < p + v → Told (is_among x ys) → same_owner (own' x) nobody ≡ false
      somebody x h k (holds a) = rw (own_after_moved own ys o₂ x a) n₂
      somebody x h k (fails a) = rw (own_after_other own ys o₂ x a) (w.owned x h k)

      within : (x : ℕ) → same_owner (own' x) nobody ≡ false → Told (is_among x ys) → (p ≤ x) × (x < p + v)
      within x e (holds a) = overflow_bounds w o₁ x (was x a)
      within x e (fails a) = w.inside x (rw (own_after_other own ys o₂ x a) at e)

  -- The first k pages go to an owner that has none, in their order.
  pub handed_front : (k : ℕ) → held o₂ ≡ []
      → Owned p v (own_after own (take k (held o₁)) o₂) (held_after (held_after held o₁ (drop k (held o₁))) o₂ (take k (held o₁)))
  handed_front k e =
      handed (take k (held o₁)) (drop k (held o₁)) (take k (held o₁)) (λ x. sym (count_cut x k (held o₁)))
      (λ x. omega (arith, ap (count x) e ∙ count_nil x))

  -- All pages go to an owner that has none, in their order.
  pub handed_all : held o₂ ≡ [] → Owned p v (own_after own (held o₁) o₂) (held_after (held_after held o₁ []) o₂ (held o₁))
  handed_all e = handed (held o₁) [] (held o₁) (λ x. omega (arith, count_nil x)) (λ x. omega (arith, ap (count x) e ∙ count_nil x))

  -- All pages go, one after the other, each to the front.
  pub handed_all_onto : Owned p v (own_after own (held o₁) o₂) (held_after (held_after held o₁ []) o₂ (reverse (held o₁) ++ held o₂))
  handed_all_onto =
      handed (held o₁) [] (reverse (held o₁) ++ held o₂) (λ x. omega (arith, count_nil x))
      (λ x. omega (arith, count_append x (reverse (held o₁)) (held o₂), count-reverse x (held o₁)))

-- ---- A chain written anew

-- Party q writes chain c anew: the chain's pages become old pages of q, of which it had none, and those that q built become the chain's.
unfoldable pub own_anew : (ℕ → Owner) → (Owner → List ℕ) → ℕ → ℕ → ℕ → Owner
own_anew own held c q = own_after (own_after own (held (in_chain c)) (old_of q)) (held (built_by q)) (in_chain c)

unfoldable pub held_anew : (Owner → List ℕ) → ℕ → ℕ → Owner → List ℕ
held_anew held c q = held_after (held_after (held_after (held_after held (in_chain c) []) (old_of q) (held (in_chain c))) (built_by q) []) (in_chain c) (held (built_by q))

module _ (held : Owner → List ℕ) (c q : ℕ) where
  abbrev handed_once : Owner → List ℕ
  handed_once = held_after (held_after held (in_chain c) []) (old_of q) (held (in_chain c))

  abbrev without_built : Owner → List ℕ
  without_built = held_after handed_once (built_by q) []

  pub anew_chain : held_anew held c q (in_chain c) ≡ held (built_by q)
  unfolding held_anew
  anew_chain = held_after_same without_built (in_chain c) (held (built_by q))

  pub anew_old : held_anew held c q (old_of q) ≡ held (in_chain c)
  unfolding held_anew
  anew_old =
      held_after_other without_built (in_chain c) (held (built_by q)) (old_of q) (kinds_apart (old_of q) (in_chain c) refl)
      ∙ held_after_other handed_once (built_by q) [] (old_of q) (kinds_apart (old_of q) (built_by q) refl)
      ∙ held_after_same (held_after held (in_chain c) []) (old_of q) (held (in_chain c))

  pub anew_built : held_anew held c q (built_by q) ≡ []
  unfolding held_anew
  anew_built =
      held_after_other without_built (in_chain c) (held (built_by q)) (built_by q) (kinds_apart (built_by q) (in_chain c) refl)
      ∙ held_after_same handed_once (built_by q) []

  once_other : (o : Owner) → same_owner o (in_chain c) ≡ false → same_owner o (old_of q) ≡ false → handed_once o ≡ held o
  once_other o a d =
      held_after_other (held_after held (in_chain c) []) (old_of q) (held (in_chain c)) o d
      ∙ held_after_other held (in_chain c) [] o a

  pub anew_other : (o : Owner) → same_owner o (in_chain c) ≡ false → same_owner o (old_of q) ≡ false → same_owner o (built_by q) ≡ false → held_anew held c q o ≡ held o
  unfolding held_anew
  anew_other o a d e =
      held_after_other without_built (in_chain c) (held (built_by q)) o a ∙ held_after_other handed_once (built_by q) [] o e ∙ once_other o a d

module _ {p v : ℕ} {own : ℕ → Owner} {held : Owner → List ℕ} (w : Owned p v own held) (c q : ℕ) where
  pub owned_anew : held (old_of q) ≡ [] → Owned p v (own_anew own held c q) (held_anew held c q)
  unfolding own_anew held_anew
  owned_anew none =
      let once = handed_all w (in_chain c) (old_of q) (kinds_apart (in_chain c) (old_of q) refl) (kinds_apart (in_chain c) nobody refl) (kinds_apart (old_of q) nobody refl) none in
      let empty = held_after_other (held_after held (in_chain c) []) (old_of q) (held (in_chain c)) (in_chain c) (kinds_apart (in_chain c) (old_of q) refl) ∙ held_after_same held (in_chain c) [] in
      rw (once_other held c q (built_by q) (kinds_apart (built_by q) (in_chain c) refl) (kinds_apart (built_by q) (old_of q) refl))
      at (handed_all once (built_by q) (in_chain c) (kinds_apart (built_by q) (in_chain c) refl) (kinds_apart (built_by q) nobody refl) (kinds_apart (in_chain c) nobody refl) empty)

  -- The owner of each page afterwards.
  pub own_anew_old : (x : ℕ) → own x ≡ in_chain c → own_anew own held c q x ≡ old_of q
  unfolding own_anew
  own_anew_old x e =
      let here = member_of_own w (in_chain c) x (kinds_apart (in_chain c) nobody refl) e in
      own_after_other (own_after own (held (in_chain c)) (old_of q)) (held (built_by q)) (in_chain c) x (absent_elsewhere w (in_chain c) (built_by q) x here (kinds_apart (in_chain c) (built_by q) refl))
      ∙ own_after_moved own (held (in_chain c)) (old_of q) x here

  pub own_anew_other : (x : ℕ) → same_owner (own x) (in_chain c) ≡ false → same_owner (own x) (built_by q) ≡ false → own_anew own held c q x ≡ own x
  unfolding own_anew
  own_anew_other x a d =
      own_after_other (own_after own (held (in_chain c)) (old_of q)) (held (built_by q)) (in_chain c) x (elsewhere (built_by q) d)
      ∙ own_after_other own (held (in_chain c)) (old_of q) x (elsewhere (in_chain c) a)
    where
      elsewhere : (o : Owner) → same_owner (own x) o ≡ false → is_among x (held o) ≡ false
      elsewhere o n = go (tell (is_among x (held o)))
        where
          go : Told (is_among x (held o)) → is_among x (held o) ≡ false
          go (holds h) = absurd (owner_diff (own x) o n (own_of_member w o x h))
          go (fails h) = h

  pub kinds_anew : (x : ℕ) → Named (own x) → Named (own_anew own held c q x)
  unfolding own_anew
  kinds_anew x h = go (tell (is_among x (held (built_by q)))) (tell (is_among x (held (in_chain c))))
    where
      go : Told (is_among x (held (built_by q))) → Told (is_among x (held (in_chain c))) → Named (own_after (own_after own (held (in_chain c)) (old_of q)) (held (built_by q)) (in_chain c) x)
      go (holds a) t = rw (own_after_moved (own_after own (held (in_chain c)) (old_of q)) (held (built_by q)) (in_chain c) x a) (omega arith)
      go (fails a) (holds d) =
          rw (own_after_other (own_after own (held (in_chain c)) (old_of q)) (held (built_by q)) (in_chain c) x a, own_after_moved own (held (in_chain c)) (old_of q) x d) (omega arith)
      go (fails a) (fails d) =
          rw (own_after_other (own_after own (held (in_chain c)) (old_of q)) (held (built_by q)) (in_chain c) x a, own_after_other own (held (in_chain c)) (old_of q) x d) h

-- ---- Pages that a write leaves alone

-- Memories that agree on each page of a list agree on the list.
pub same_from : (ps qs xs : List ℕ) → ((x : ℕ) → is_among x xs ≡ true → page_of qs x ≡ page_of ps x) → SameOn ps qs xs
same_from ps qs [] f = tt
same_from ps qs (y ∷ ys) f = (f y (among_first y ys), same_from ps qs ys (λ x e. f x (among_rest x y ys e)))

-- Only pages of ws are written, and xs has none of them.
pub same_off : (ps qs ws xs : List ℕ) → ((x : ℕ) → is_among x ws ≡ false → page_of qs x ≡ page_of ps x)
    → ((x : ℕ) → is_among x xs ≡ true → is_among x ws ≡ false) → SameOn ps qs xs
same_off ps qs ws xs f d = same_from ps qs xs (λ x e. f x (d x e))

-- Only pages of ws are written, and those of them that are overflow pages have another owner than a.
pub same_held : {p v : ℕ} {own : ℕ → Owner} {held : Owner → List ℕ} → Owned p v own held → (a : Owner) (ps qs ws : List ℕ)
    → ((x : ℕ) → is_among x ws ≡ false → page_of qs x ≡ page_of ps x) → ((x : ℕ) → is_among x ws ≡ true → p ≤ x → x < p + v → same_owner (own x) a ≡ false)
    → SameOn ps qs (held a)
same_held {own} {held} w a ps qs ws f d = same_off ps qs ws (held a) f (λ x e. go x e (tell (is_among x ws)))
  where
    go : (x : ℕ) → is_among x (held a) ≡ true → Told (is_among x ws) → is_among x ws ≡ false
    go x e (holds g) =
        let b = overflow_bounds w a x e in absurd (owner_diff (own x) a (d x g b.0 b.1) (own_of_member w a x e))
    go x e (fails g) = g

-- ---- All pages free

-- The n numbers from p on.
unfoldable pub up_from : ℕ → ℕ → List ℕ
up_from p zero = []
up_from p (suc n) = p ∷ up_from (p + 1) n

up_none : (p n x : ℕ) → ((y : ℕ) → p ≤ y → y < p + n → y ≢ x) → count x (up_from p n) ≡ 0
unfolding up_from count
up_none p zero x d = refl
up_none p (suc n) x d =
    rw (eqb-diff p x (d p (omega arith) (omega arith)), up_none (p + 1) n x (λ y h k. d y (omega arith) (omega arith)))

up_within : (p n x : ℕ) → p ≤ x → x < p + n → count x (up_from p n) ≡ 1
unfolding up_from count
up_within p zero x h k = absurd (omega arith)
up_within p (suc n) x h k = go (cmp p x) (λ d. up_within (p + 1) n x (omega arith) (omega arith))
  where
    go : Cmp p x → (p ≢ x → count x (up_from (p + 1) n) ≡ 1) → cond (eqb p x) 1 0 + count x (up_from (p + 1) n) ≡ 1
    go (same e) ih = rw (eqb_same p x e, up_none (p + 1) n x (λ y h k. omega arith))
    go (diff d) ih = rw (eqb-diff p x d, ih d)

pub count_up : (p n x : ℕ) → count x (up_from p n) ≡ cond (leb p x && ltb x (p + n)) 1 0
count_up p n x = go (tell (leb p x && ltb x (p + n)))
  where
    out : (leb p x ≡ false) ⊎ (ltb x (p + n) ≡ false) → count x (up_from p n) ≡ 0
    out (inl e) = let l = leb-false p x e in up_none p n x (λ y h k. omega arith)
    out (inr e) = let l = ltb-false x (p + n) e in up_none p n x (λ y h k. omega arith)

    go : Told (leb p x && ltb x (p + n)) → count x (up_from p n) ≡ cond (leb p x && ltb x (p + n)) 1 0
    go (holds e) = let f = and_both (leb p x) (ltb x (p + n)) e in
        rw e (up_within p n x (leb-true p x f.0) (ltb-true x (p + n) f.1))
    go (fails e) = rw e (out (and_fails (leb p x) (ltb x (p + n)) e))

pub owned-start : (p v : ℕ) → Owned p v (λ x. cond (leb p x && ltb x (p + v)) free nobody) (λ o. cond (same_owner o free) (up_from p v) [])
owned-start p v = record {
  once = λ o x n. counts o x n (tell (same_owner o free)) (tell (leb p x && ltb x (p + v)));
  none_of_nobody = cond-false (same_owner nobody free) (up_from p v) [] (kinds_apart nobody free refl);
  owned = λ x h k. rw (both-and (le-leb p x h) (lt-ltb x (p + v) k)) (kinds_apart free nobody refl);
  inside = λ x n. within x n (tell (leb p x && ltb x (p + v)));
}
  where
    counts : (o : Owner) (x : ℕ) → same_owner o nobody ≡ false → Told (same_owner o free) → Told (leb p x && ltb x (p + v))
        → count x (cond (same_owner o free) (up_from p v) []) ≡ owns (cond (leb p x && ltb x (p + v)) free nobody) o
    counts o x n (holds d) (holds e) = rw (d, e) ((rw e at (count_up p v x)) ∙ sym (owns_same free o (same_owner_lem free o (sym (owner_same o free d)))))
    counts o x n (holds d) (fails e) = rw (d, e) ((rw e at (count_up p v x)) ∙ sym (owns_diff nobody o (diff_swap o nobody n)))
    counts o x n (fails d) (holds e) = rw (d, e) (count_nil x ∙ sym (owns_diff free o (diff_swap o free d)))
    counts o x n (fails d) (fails e) = rw (d, e) (count_nil x ∙ sym (owns_diff nobody o (diff_swap o nobody n)))

    within : (x : ℕ) → same_owner (cond (leb p x && ltb x (p + v)) free nobody) nobody ≡ false → Told (leb p x && ltb x (p + v)) → (p ≤ x) × (x < p + v)
    within x n (holds e) = let f = and_both (leb p x) (ltb x (p + v)) e in (leb-true p x f.0, ltb-true x (p + v) f.1)
    within x n (fails e) = absurd (owner_diff nobody nobody (rw e at n) refl)
