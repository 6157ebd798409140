-- A reading goes by the pages that it lists: what was read of one page memory is read of every other that agrees with it on those pages.
-- Main statements: if_known, then_known, from_sound (readings that met no damage); list_alike, chain_alike, pair_alike, merged_alike (links followed), taken_alike (free pages taken).
use mathlib.Core.Path.{◌≡◌, refl}
use mathlib.Core.Bool.{Bool, true, false, not, ◌&&◌}
use mathlib.Core.List.{List, [], ◌∷◌, ◌++◌}
use Prim.Native.Nat.{ℕ, zero, suc}
use lib.ListN.{length}
use lib.Dec.{eqb}
use Rattle.model.specs.declared.Root.{Root}
use Rattle.model.specs.declared.Party.{Party}
use Rattle.model.specs.Entries.{ascending, shares_key}
use Rattle.model.specs.Pages.{page_of, link_of, page_sound, link_sound, names_overflow, primary_page, linked_page}
use Rattle.model.specs.Chains.{Checked, damaged, sound, sound_if, and_then, overflow_from, list_from, entries_on, Chain, read_chain, ascending_chain, chain_of}
use Rattle.model.specs.FreeList.{is_among, Taken, also_taken, taken_from, pages_taken, room_to_give_back}
use Rattle.model.specs.Steps.MergeBuild.{Pair, pair_of}
use Rattle.model.specs.Steps.MergeWrite.{merged_away}
use Rattle.model.proofs.Laws.Lists.{cond_ind}
use Rattle.model.proofs.Laws.Structure.{SameOn}
use Rattle.model.proofs.Exits.Scratches.{IfSound, if_then}

-- ---- Readings that met no damage

-- What holds where the test passed.
pub if_known : {A : Type 0} (P : A → Type 0) (t : Bool) (a : A) → (t ≡ true → P a) → IfSound P (sound_if t a)
if_known P true a h = h refl
if_known P false a h = tt

-- What holds of a second reading, knowing the first.
pub then_known : {A B : Type 0} (Q : B → Type 0) (x : Checked A) (f : A → Checked B) → ((a : A) → x ≡ sound a → IfSound Q (f a)) → IfSound Q (and_then x f)
then_known Q damaged f g = tt
then_known Q (sound a) f g = g a refl

-- What holds of a reading holds of what was read.
pub from_sound : {A : Type 0} (P : A → Type 0) (x : Checked A) → IfSound P x → (a : A) → x ≡ sound a → P a
from_sound P x h a e = rw e at h

-- ---- Agreement on pages

module _ (ps qs : List ℕ) where
  pub same_left : (xs ys : List ℕ) → SameOn ps qs (xs ++ ys) → SameOn ps qs xs
  same_left [] ys s = tt
  same_left (x ∷ xs) ys s = (s.0, same_left xs ys s.1)

  pub same_right : (xs ys : List ℕ) → SameOn ps qs (xs ++ ys) → SameOn ps qs ys
  same_right [] ys s = s
  same_right (x ∷ xs) ys s = same_right xs ys s.1

  -- The records on the pages.
  entries_alike : (xs : List ℕ) → SameOn ps qs xs → entries_on qs xs ≡ entries_on ps xs
  unfolding entries_on
  entries_alike [] s = refl
  entries_alike (x ∷ xs) s = rw (s.0, entries_alike xs s.1)

  read_alike : (c : ℕ) (xs : List ℕ) → page_of qs (primary_page c) ≡ page_of ps (primary_page c) → SameOn ps qs xs → read_chain qs c xs ≡ read_chain ps c xs
  unfolding read_chain
  read_alike c xs e s = rw (e, entries_alike (primary_page c ∷ xs) (e, s))

-- ---- Links followed

module _ (r : Root) (ps qs : List ℕ) where
  -- What was read of ps is read of qs, if qs has its pages: a list, a chain, two chains, the pages to give back at 29, pages taken.
  abbrev pub ListRead : ℕ → List ℕ → Type 0
  ListRead l xs = SameOn ps qs xs → list_from r qs l ≡ sound xs

  abbrev pub ChainRead : ℕ → Chain → Type 0
  ChainRead c h = SameOn ps qs h.pages → chain_of r qs c ≡ sound h

  abbrev pub PairRead : ℕ → ℕ → Pair → Type 0
  PairRead c o m = SameOn ps qs m.target.pages → SameOn ps qs m.partner.pages → pair_of r qs c o ≡ sound m

  abbrev pub MergedRead : Party → List ℕ → Type 0
  MergedRead p xs = SameOn ps qs xs → merged_away r qs p ≡ sound xs

  abbrev pub TakenRead : ℕ → Taken → Type 0
  TakenRead k t = SameOn ps qs t.pages → pages_taken r qs k ≡ sound t

  -- A walk of at most n pages.
  abbrev WalkRead : ℕ → ℕ → List ℕ → Type 0
  WalkRead n l xs = SameOn ps qs xs → overflow_from r qs n l ≡ sound xs

  walk_alike : (n l : ℕ) → IfSound (WalkRead n l) (overflow_from r ps n l)
  unfolding overflow_from
  walk_alike zero l = if_known (WalkRead zero l) (eqb l 0) [] (λ e s. rw e)
  walk_alike (suc n) l =
      let x = linked_page l in
      let w = page_of ps x in
      cond_ind (IfSound (WalkRead (suc n) l)) (eqb l 0) (sound []) _ (λ e s. rw e)
      (λ d. cond_ind (IfSound (WalkRead (suc n) l)) (page_sound r w) _ damaged
      (λ e. if_then (WalkRead n (link_of w)) (WalkRead (suc n) l) (overflow_from r ps n (link_of w)) _ (walk_alike n (link_of w))
      (λ xs more s. rw (d, s.0, e, more s.1)))
      (λ _. tt))

  pub list_alike : (l : ℕ) → IfSound (ListRead l) (list_from r ps l)
  unfolding list_from
  list_alike l = walk_alike r.overflow l

  pages_read : (c : ℕ) (xs : List ℕ) → SameOn ps qs (read_chain ps c xs).pages → SameOn ps qs xs
  unfolding read_chain
  pages_read c xs s = s

  pub chain_alike : (c : ℕ) → page_of qs (primary_page c) ≡ page_of ps (primary_page c) → IfSound (ChainRead c) (chain_of r ps c)
  unfolding chain_of ascending_chain
  chain_alike c e =
      let w = page_of ps (primary_page c) in
      cond_ind (IfSound (ChainRead c)) (page_sound r w) _ damaged
      (λ t. if_then (ListRead (link_of w)) (ChainRead c) (list_from r ps (link_of w)) _ (list_alike (link_of w))
      (λ xs listed. if_known (ChainRead c) (ascending (read_chain ps c xs).entries) (read_chain ps c xs)
      (λ u s. let same = pages_read c xs s in rw (e, t, listed same, read_alike ps qs c xs e same, u))))
      (λ _. tt)

  pub pair_alike : (c o : ℕ) → page_of qs (primary_page c) ≡ page_of ps (primary_page c) → page_of qs (primary_page o) ≡ page_of ps (primary_page o)
      → IfSound (PairRead c o) (pair_of r ps c o)
  unfolding pair_of
  pair_alike c o e f =
      if_then (ChainRead c) (PairRead c o) (chain_of r ps c) _ (chain_alike c e)
      (λ t target. if_then (ChainRead o) (PairRead c o) (chain_of r ps o) _ (chain_alike o f)
      (λ u partner. if_known (PairRead c o) (not (shares_key t.entries u.entries)) (record { target = t; partner = u })
      (λ k s z. rw (target s, partner z, k))))

  pub merged_alike : (p : Party) → page_of qs (primary_page p.other) ≡ page_of ps (primary_page p.other) → IfSound (MergedRead p) (merged_away r ps p)
  unfolding merged_away
  merged_alike p e =
      let w = page_of ps (primary_page p.other) in
      cond_ind (IfSound (MergedRead p)) (link_sound r p.old && page_sound r w) _ damaged
      (λ t. if_then (ListRead p.old) (MergedRead p) (list_from r ps p.old) _ (list_alike p.old)
      (λ xs old. if_then (ListRead (link_of w)) (MergedRead p) (list_from r ps (link_of w)) _ (list_alike (link_of w))
      (λ ys partner. if_known (MergedRead p) (room_to_give_back r (length (xs ++ ys))) (xs ++ ys)
      (λ u s. rw (e, t, old (same_left ps qs xs ys s), partner (same_right ps qs xs ys s), u)))))
      (λ _. tt)

  -- ---- Free pages taken

  -- Pages taken from a link on.
  abbrev FromRead : ℕ → ℕ → List ℕ → Taken → Type 0
  FromRead k l before t = SameOn ps qs t.pages → taken_from r qs k l before ≡ sound t

  from_alike : (k l : ℕ) (before : List ℕ) → IfSound (FromRead k l before) (taken_from r ps k l before)
  unfolding taken_from also_taken
  from_alike zero l before = λ s. refl
  from_alike (suc k) l before =
      let x = linked_page l in
      let w = page_of ps x in
      cond_ind (IfSound (FromRead (suc k) l before)) (names_overflow r l && not (is_among x before)) _ damaged
      (λ e. if_then (FromRead k (link_of w) (x ∷ before)) (FromRead (suc k) l before) (taken_from r ps k (link_of w) (x ∷ before)) _ (from_alike k (link_of w) (x ∷ before))
      (λ t more s. rw (e, s.0, more s.1)))
      (λ _. tt)

  pub taken_alike : (k : ℕ) → IfSound (TakenRead k) (pages_taken r ps k)
  unfolding pages_taken
  taken_alike k = from_alike k r.head []
