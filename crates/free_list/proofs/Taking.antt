-- Pages taken from the free list one by one: one turn, over the model's taken_from.
-- Main statements: none_taken (the start), none_new_ends and one_taken (a turn), all_taken (the end);
-- front_whole and damage_drawn_as (what is answered); taken_overflow (what holds of pages taken).
-- The code marks the overflow pages taken, a bit each; Marked says that the marks are those pages.
use mathlib.Core.Path.{◌≡◌, refl, sym, ap, ◌∙◌}
use mathlib.Core.Logic.{◌≢◌}
use mathlib.Core.Bool.{not, ◌&&◌, ◌||◌}
use mathlib.Core.List.{List, [], ◌∷◌, ◌++◌, append-nil}
use Prim.Native.Nat.{ℕ, zero, suc, ◌+◌, ◌-◌, ◌*◌, ◌≤◌, ◌<◌}
use native.Mathlib.Nat.{sub-zero}
use native.Mathlib.Omega.{arith}
use lib.ListN.{length, take, replicate}
use lib.Seq.{append_snoc, take_all}
use Rattle.std.proofs.lemmas.List.{take_at}
use lib.Dec.{eqb}
use Rattle.std.specs.Prelude.{Result, Ok, Err, IsErr}
use Rattle.model.specs.declared.Damaged.{Damaged}
use Rattle.model.specs.declared.Root.{Root}
use Rattle.model.specs.Pages.{page_of, link_of, names_overflow}
use Rattle.model.specs.Chains.{Checked, damaged, sound, and_then}
use Rattle.model.specs.FreeList.{Taken, is_among, also_taken, taken_from, pages_taken}
use Rattle.model.proofs.Laws.Lists.{Told, holds, fails, tell, Cmp, same, diff, cmp, eqb_same, eqb-diff}
use Rattle.model.proofs.Laws.Tests.{named-within}
use Rattle.free_list.specs.Taking.{drawn_as}
use Rattle.free_list.specs.Marks.{is_marked, with_mark, names_new, marks_with, followed}
pub use Rattle.free_list.proofs.Linked.{taken_drawn as taken_overflow}
use Rattle.free_list.proofs.Marks.{none_marked, marked_same, marked_other, new_within, new_marks_with, followed_err, followed_ok}

-- An overflow page is marked where it is among those taken before.
pub record Marked (r : Root) (marks before : List ℕ) : Type 0 where
  pub means : (x : ℕ) → r.primaries ≤ x → x < r.primaries + r.overflow → is_among x before ≡ is_marked marks (x - r.primaries)

nothing_marked : (r : Root) → r.overflow ≤ 752 → Marked r (replicate 24 0) []
unfolding is_among
nothing_marked r h = record { means = λ x low high. sym (none_marked 24 (x - r.primaries) (omega arith)) }

one_marked : (r : Root) (marks before : List ℕ) (x : ℕ) → r.primaries ≤ x → x < r.primaries + r.overflow → r.overflow ≤ 32 * length marks → Marked r marks before
    → Marked r (with_mark marks (x - r.primaries)) (x ∷ before)
unfolding is_among
one_marked r marks before x low high long m = record { means = λ y l h. go y l h (cmp x y) }
  where
    go : (y : ℕ) → r.primaries ≤ y → y < r.primaries + r.overflow → Cmp x y → (eqb x y || is_among y before) ≡ is_marked (with_mark marks (x - r.primaries)) (y - r.primaries)
    go y l h (same e) = rw (← e, eqb_same x x refl, marked_same marks (x - r.primaries) (omega arith)) refl
    go y l h (diff n) =
        let other : y - r.primaries ≢ x - r.primaries = λ e. n (omega (arith, e)) in
        rw (eqb-diff x y n, marked_other marks (x - r.primaries) (omega arith) (y - r.primaries) other) (m.means y l h)

-- Pages in front of those taken.
unfoldable pub after : List ℕ → Taken → Taken
after xs t = record { pages = xs ++ t.pages; head = t.head }

-- The i pages in front are taken and marked; the rest is still to be taken from link l on.
pub record Taking (r : Root) (ps : List ℕ) (k : ℕ) (marks front : List ℕ) (l i : ℕ) : Type 0 where
  pub before : List ℕ
  pub marked : Marked r marks before
  pub rest : pages_taken r ps k ≡ and_then (taken_from r ps (k - i) l before) (λ t. sound (after front t))

pub none_taken : (r : Root) (ps : List ℕ) (k : ℕ) → r.overflow ≤ 752 → Taking r ps k (replicate 24 0) [] r.head 0
unfolding pages_taken after
none_taken r ps k h = record {
  before = [];
  marked = nothing_marked r h;
  rest = whole (taken_from r ps k r.head []) ∙ ap (λ (n : ℕ). and_then (taken_from r ps n r.head []) (λ t. sound (after [] t))) (sym (sub-zero k));
}
  where
    whole : (x : Checked Taken) → x ≡ and_then x (λ t. sound (after [] t))
    whole damaged = refl
    whole (sound t) = refl

module _ (r : Root) (ps : List ℕ) (k : ℕ) (marks front : List ℕ) (l i : ℕ) (g : Taking r ps k marks front l i) where
  -- The test by marks is the test by pages taken before.
  same_test : names_new r marks l ≡ (names_overflow r l && not (is_among (l - 1) g.before))
  unfolding names_new
  same_test = go (tell (names_overflow r l))
    where
      go : Told (names_overflow r l) → (names_overflow r l && not (is_marked marks (l - 1 - r.primaries))) ≡ (names_overflow r l && not (is_among (l - 1) g.before))
      go (holds e) = let w = named-within r l e in rw (e, g.marked.means (l - 1) (omega (arith, w.0)) (omega (arith, w.0, w.1))) refl
      go (fails e) = rw e refl

  module _ (more : i < k) where
    fewer : k - i ≡ suc (k - (i + 1))
    fewer = omega arith

    pub none_new_ends : {e : Damaged} → Err e ≡ followed r marks ps l → pages_taken r ps k ≡ damaged
    unfolding taken_from
    none_new_ends e = let stops = sym same_test ∙ followed_err r marks l ps e in g.rest ∙ rw (fewer, taken_from, stops) refl

    pub one_taken : {next : ℕ} {marks' : List ℕ} → Ok next ≡ followed r marks ps l → marks' ≡ marks_with r marks l → r.overflow ≤ 32 * length marks
        → Taking r ps k marks' (front ++ ((l - 1) ∷ [])) next (i + 1)
    unfolding taken_from after also_taken
    one_taken e set long =
        let read = followed_ok r marks l ps e in
        let new = sym same_test ∙ read.0 in
        let w = new_within r marks l read.0 in
        record {
          before = (l - 1) ∷ g.before;
          marked = rw (set, new_marks_with r marks l read.0) (one_marked r marks g.before (l - 1) (omega (arith, w.0)) (omega (arith, w.0, w.1)) long g.marked);
          rest = rw read.1 (g.rest ∙ ap (λ (n : ℕ). and_then (taken_from r ps n l g.before) (λ t. sound (after front t))) fewer ∙ rw new (go (taken_from r ps (k - (i + 1)) (link_of (page_of ps (l - 1))) ((l - 1) ∷ g.before))));
        }
      where
        go : (x : Checked Taken) → and_then (and_then x (λ t. sound (also_taken (l - 1) t))) (λ t. sound (after front t))
            ≡ and_then x (λ t. sound (after (front ++ ((l - 1) ∷ [])) t))
        go damaged = refl
        go (sound t) = ap (λ (xs : List ℕ). sound (record { pages = xs; head = t.head })) (sym (append_snoc front (l - 1) t.pages))

  -- None is left to take.
  pub all_taken : k ≤ i → sound (record { pages = front; head = l }) ≡ pages_taken r ps k
  unfolding taken_from after
  all_taken h =
      let none : k - i ≡ zero = omega arith in
      sym (g.rest ∙ rw (none, taken_from) (ap (λ (xs : List ℕ). sound (record { pages = xs; head = l })) (append-nil front)))

-- The pages taken are not recorded.
pub record Drawing (r : Root) (ps : List ℕ) (k : ℕ) (marks : List ℕ) (l i : ℕ) : Type 0 where
  pub front : List ℕ
  pub taking : Taking r ps k marks front l i

-- Once all k places of the buffer's front are recorded, the front is what was recorded.
pub front_whole : (items rest : List ℕ) (k i : ℕ) → length items ≡ k → i ≡ k → take k (items ++ rest) ≡ take i items
front_whole items rest k i long e = rw (e, take_at items rest k long) (sym (take_all k items (omega arith)))

-- An error says damage.
pub damage_drawn_as : (a : Result ℕ Damaged) (xs : List ℕ) → IsErr a → drawn_as a xs ≡ damaged
damage_drawn_as (Ok h) xs e = cc
damage_drawn_as (Err d) xs e = refl
