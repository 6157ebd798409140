-- Marks: none is set at first, setting one leaves every other; a link followed.
-- Main statements: none_marked, marked_same, marked_other; unnamed_old, mark_decides, new_within (whether a link names a
-- new page), new_marks_with, old_marks_with; old_followed, new_followed, followed_err, followed_ok (what the link after it says).
use mathlib.Core.Path.{◌≡◌, refl, ap, ◌∙◌}
use mathlib.Core.Logic.{◌≢◌}
use mathlib.Core.Bool.{Bool, true, false, not}
use mathlib.Core.List.{List}
use Prim.Native.Nat.{ℕ, ◌+◌, ◌-◌, ◌*◌, ◌/◌, ◌%◌, ◌^◌, ◌≤◌, ◌<◌}
use native.Mathlib.Nat.{zero-div, zero-mod}
use native.Mathlib.Omega.{arith}
use lib.ListN.{length, get_or, replicate, get_or-replicate}
use lib.Seq.{get_or-set_same, get_or-set_other}
use lib.Dec.{lit<}
use Rattle.std.specs.Prelude.{Ok, Err}
use Rattle.model.specs.declared.Damaged.{Damaged}
use Rattle.model.specs.declared.Root.{Root}
use Rattle.model.specs.LockWords.{field_of}
use Rattle.model.specs.Pages.{page_of, link_of, names_overflow}
use Rattle.model.proofs.Laws.Lists.{Told, holds, fails, tell, Cmp, same, diff, cmp, and_both}
use Rattle.model.proofs.Laws.Fields.{field_same, bit_other}
use Rattle.model.proofs.Laws.Tests.{named-within}
use Rattle.free_list.specs.Marks.{is_marked, with_mark, names_new, marks_with, followed}

-- No bit of 0 is set.
zero_field : (k n : ℕ) → field_of k n 0 ≡ 0
unfolding field_of
zero_field k n = ap (λ (x : ℕ). x % 2 ^ n) (zero-div (2 ^ k)) ∙ zero-mod (2 ^ n)

pub none_marked : (n v : ℕ) → v < 32 * n → is_marked (replicate n 0) v ≡ false
unfolding is_marked
none_marked n v h = rw (get_or-replicate {A = ℕ} n (v / 32) 0 0 (omega arith), zero_field (v % 32) 1) refl

module _ (marks : List ℕ) (v : ℕ) (h : v < 32 * length marks) where
  pub marked_same : is_marked (with_mark marks v) v ≡ true
  unfolding is_marked with_mark
  marked_same = rw (get_or-set_same marks (v / 32) _ 0 (omega arith), field_same (v % 32) 1 (get_or marks (v / 32) 0) 1 (lit< tt)) refl

  -- Another number has its bit in another word, or at another place of the same word.
  pub marked_other : (u : ℕ) → u ≢ v → is_marked (with_mark marks v) u ≡ is_marked marks u
  unfolding is_marked with_mark
  marked_other u n = go (cmp (u / 32) (v / 32))
    where
      go : Cmp (u / 32) (v / 32) → is_marked (with_mark marks v) u ≡ is_marked marks u
      go (same e) =
          let place : u % 32 ≢ v % 32 = λ f. n (omega (arith, e, f)) in
          rw (e, get_or-set_same marks (v / 32) _ 0 (omega arith), bit_other (v % 32) (get_or marks (v / 32) 0) 1 (lit< tt) (u % 32) place) refl
      go (diff d) = rw (get_or-set_other marks (v / 32) (u / 32) _ 0 d) refl

-- ---- A link followed

module _ (r : Root) (marks : List ℕ) (l : ℕ) where
  pub unnamed_old : names_overflow r l ≡ false → names_new r marks l ≡ false
  unfolding names_new
  unnamed_old e = rw e refl

  -- Of a link that names an overflow page, the mark decides.
  pub mark_decides : names_overflow r l ≡ true → (t : Bool) → is_marked marks (l - 1 - r.primaries) ≡ t → names_new r marks l ≡ not t
  unfolding names_new
  mark_decides e t m = rw (e, m) refl

  pub new_within : names_new r marks l ≡ true → (r.primaries < l) × (l ≤ r.primaries + r.overflow)
  unfolding names_new
  new_within e = named-within r l (and_both (names_overflow r l) (not (is_marked marks (l - 1 - r.primaries))) e).0

  pub new_marks_with : names_new r marks l ≡ true → marks_with r marks l ≡ with_mark marks (l - 1 - r.primaries)
  unfolding marks_with
  new_marks_with e = rw e refl

  pub old_marks_with : names_new r marks l ≡ false → marks_with r marks l ≡ marks
  unfolding marks_with
  old_marks_with e = rw e refl

  module _ (ps : List ℕ) where
    pub old_followed : names_new r marks l ≡ false → followed r marks ps l ≡ Err (record {})
    unfolding followed
    old_followed e = rw e refl

    pub new_followed : names_new r marks l ≡ true → followed r marks ps l ≡ Ok (link_of (page_of ps (l - 1)))
    unfolding followed
    new_followed e = rw e refl

    pub followed_err : {e : Damaged} → Err e ≡ followed r marks ps l → names_new r marks l ≡ false
    followed_err e = go (tell (names_new r marks l)) e
      where
        go : Told (names_new r marks l) → {e : Damaged} → Err e ≡ followed r marks ps l → names_new r marks l ≡ false
        go (holds t) e = cc (new_followed t)
        go (fails t) e = t

    pub followed_ok : {next : ℕ} → Ok next ≡ followed r marks ps l → (names_new r marks l ≡ true) × (next ≡ link_of (page_of ps (l - 1)))
    followed_ok e = go (tell (names_new r marks l)) e
      where
        go : Told (names_new r marks l) → {next : ℕ} → Ok next ≡ followed r marks ps l → (names_new r marks l ≡ true) × (next ≡ link_of (page_of ps (l - 1)))
        go (holds t) e = (t, cc (new_followed t))
        go (fails t) e = cc (old_followed t)

    pub followed_linked : {next : ℕ} → Ok next ≡ followed r marks ps l → 1 ≤ l
    followed_linked e = omega (arith, (new_within (followed_ok e).0).0)
