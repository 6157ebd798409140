-- What a step leaves of the other parties' scratch pages: it writes its own scratch page, primary pages, and overflow
-- pages that were taken or are given back.
-- Main statements: IfSound (what holds of a reading that met no damage); taken_overflow, list_overflow_ok (pages taken or
-- walked through are overflow pages); Writable (a page that a step may write); Spares (a page memory in which the other
-- parties' scratch pages are as they were) with spares_written, spares_filled, spares_given; Leaves (the sizes and the
-- other parties' scratch pages stay); built_spares, halves_spares (chains built).
use mathlib.Core.Path.{◌≡◌, refl, ◌∙◌}
use mathlib.Core.Logic.{◌≢◌}
use mathlib.Core.Bool.{Bool, true, false, not, ◌&&◌}
use mathlib.Core.List.{List, [], ◌∷◌, ◌++◌}
use Prim.Native.Nat.{ℕ, zero, suc, ◌+◌, ◌<◌}
use native.Mathlib.Omega.{arith}
use lib.ListN.{length, take, drop}
use lib.Dec.{eqb, ltb, leb}
use Rattle.model.specs.declared.Root.{Root}
use Rattle.model.specs.declared.Party.{Party}
use Rattle.model.specs.Sizes.{page_words}
use Rattle.model.specs.declared.Entry.{Entry}
use Rattle.model.specs.Pages.{page_of, with_page, level_of, count_of, link_of, names_overflow, link_sound, most_level, page_sound, primary_page, scratch_page, linked_page}
use Rattle.model.specs.Chains.{Checked, damaged, sound, sound_if, and_then, overflow_from, list_from}
use Rattle.model.specs.Filling.{pages_for, primary_of, overflow_written}
use Rattle.model.specs.FreeList.{is_among, Taken, also_taken, taken_from, pages_taken, given_back, room_to_give_back}
use Rattle.model.specs.Outcome.{View}
use Rattle.model.specs.ScratchPages.{scratch_of}
use Rattle.model.specs.Steps.SplitBuild.{Halves, halves_written}
use Rattle.model.specs.Steps.MergeWrite.{merged_away}
use Rattle.model.specs.Ready.{Ready}
use Rattle.model.proofs.Laws.Lists.{cond_ind, and_both, right_or, ltb-true, leb-true, All, all_append, all_from, all_in, among_take, among_drop}
use Rattle.model.proofs.Laws.Pages.{Has, length_page_of, length-with_page, page_other}
use Rattle.model.proofs.Laws.Filling.{IsOverflow, length-primary_of, length-overflow_written, overflow_written_other}
use Rattle.model.proofs.Laws.Reading.{has_overflow, scratch_outside, outside_absent}
use Rattle.model.proofs.Laws.FreeList.{length-given, given_other}
use Rattle.model.proofs.Invariant.Frame.{SameLimits}

-- ---- Readings that met no damage

-- What was read has P, unless a number was damaged.
abbrev pub IfSound : {A : Type 0} → (A → Type 0) → Checked A → Type 0
IfSound P damaged = Unit {0}
IfSound P (sound a) = P a

pub if_sound : {A : Type 0} (P : A → Type 0) (t : Bool) (a : A) → P a → IfSound P (sound_if t a)
if_sound P true a h = h
if_sound P false a h = tt

pub if_then : {A B : Type 0} (P : A → Type 0) (Q : B → Type 0) (x : Checked A) (f : A → Checked B) → IfSound P x → ((a : A) → P a → IfSound Q (f a)) → IfSound Q (and_then x f)
if_then P Q damaged f h g = tt
if_then P Q (sound a) f h g = g a h

-- ---- Link words that were tested

pub names_page : (r : Root) (l : ℕ) → names_overflow r l ≡ true → IsOverflow r (linked_page l)
unfolding names_overflow
names_page r l h =
    let t = and_both (ltb r.primaries l) (leb l (r.primaries + r.overflow)) h in
    let above = ltb-true r.primaries l t.0 in
    let below = leb-true l (r.primaries + r.overflow) t.1 in
    record { above = omega arith; below = omega arith }

pub names_linked : (r : Root) (l : ℕ) → link_sound r l ≡ true → eqb l 0 ≡ false → names_overflow r l ≡ true
unfolding link_sound
names_linked r l h n = rw n at h

pub sound_link : (r : Root) (w : List ℕ) → page_sound r w ≡ true → link_sound r (link_of w) ≡ true
unfolding page_sound
sound_link r w h = (and_both (leb (count_of w) r.capacity && leb (level_of w) most_level) (link_sound r (link_of w)) h).1

-- ---- Pages taken, and pages walked through

module _ (r : Root) (ps : List ℕ) where
  from_overflow : (k l : ℕ) (before : List ℕ) → IfSound (λ (t : Taken). All (IsOverflow r) t.pages) (taken_from r ps k l before)
  unfolding taken_from also_taken
  from_overflow zero l before = tt
  from_overflow (suc k) l before =
      let x = linked_page l in
      let more = from_overflow k (link_of (page_of ps x)) (x ∷ before) in
      cond_ind (IfSound (λ (t : Taken). All (IsOverflow r) t.pages)) (names_overflow r l && not (is_among x before)) _ damaged
      (λ e. if_then (λ (t : Taken). All (IsOverflow r) t.pages) (λ (t : Taken). All (IsOverflow r) t.pages) (taken_from r ps k (link_of (page_of ps x)) (x ∷ before)) _ more
      (λ t a. (names_page r l (and_both (names_overflow r l) (not (is_among x before)) e).0, a)))
      (λ _. tt)

  pub taken_overflow : (k : ℕ) → IfSound (λ (t : Taken). All (IsOverflow r) t.pages) (pages_taken r ps k)
  unfolding pages_taken
  taken_overflow k = from_overflow k r.head []

  walked_overflow : (n l : ℕ) → link_sound r l ≡ true → IfSound (All (IsOverflow r)) (overflow_from r ps n l)
  unfolding overflow_from
  walked_overflow zero l h = if_sound (All (IsOverflow r)) (eqb l 0) [] tt
  walked_overflow (suc n) l h =
      let x = linked_page l in
      let more : page_sound r (page_of ps x) ≡ true → IfSound (All (IsOverflow r)) (overflow_from r ps n (link_of (page_of ps x))) =
      λ e. walked_overflow n (link_of (page_of ps x)) (sound_link r (page_of ps x) e) in
      cond_ind (IfSound (All (IsOverflow r))) (eqb l 0) (sound []) _ (λ _. tt)
      (λ d. cond_ind (IfSound (All (IsOverflow r))) (page_sound r (page_of ps x)) _ damaged
      (λ e. if_then (All (IsOverflow r)) (All (IsOverflow r)) (overflow_from r ps n (link_of (page_of ps x))) _ (more e)
      (λ xs a. (names_page r l (names_linked r l h d), a)))
      (λ _. tt))

  pub list_overflow_ok : (l : ℕ) → link_sound r l ≡ true → IfSound (All (IsOverflow r)) (list_from r ps l)
  unfolding list_from
  list_overflow_ok l h = walked_overflow r.overflow l h

-- ---- The pages that a step writes

-- A page of the memory that is no other party's scratch page.
pub record Writable (v : View) (x : ℕ) : Type 0 where
  pub inside : x < v.root.primaries + v.root.overflow + v.root.parties
  pub apart : (j : ℕ) → j ≢ v.number → scratch_page v.root j ≢ x

-- The other parties' scratch pages are as they were.
pub record Spares (v : View) (ps : List ℕ) : Type 0 where
  pub long : length ps ≡ length v.pages
  pub others : (j : ℕ) → j ≢ v.number → page_of ps (scratch_page v.root j) ≡ page_of v.pages (scratch_page v.root j)

pub spares_all : (v : View) → Spares v v.pages
spares_all v = record { long = refl; others = λ j n. refl }

module _ (v : View) (ready : Ready v) where
  pub scratch_writable : (x : ℕ) → x ≡ scratch_page v.root v.number → Writable v x
  scratch_writable x e = record { inside = omega (arith, ready.number_fits); apart = λ j n s. n (omega arith) }

  pub primary_writable : (c : ℕ) → c < v.root.primaries → Writable v (primary_page c)
  primary_writable c h = record { inside = omega arith; apart = λ j n s. omega arith }

  pub has_page : (ps : List ℕ) (x : ℕ) → length ps ≡ length v.pages → x < v.root.primaries + v.root.overflow + v.root.parties → Has ps x
  has_page ps x e h = record { fits = omega (arith, ready.pages_fit) }

  pub spares_written : (ps : List ℕ) → Spares v ps → (x : ℕ) (w : List ℕ) → Writable v x → length w ≡ page_words → Spares v (with_page ps x w)
  spares_written ps s x w a whole =
      let has = has_page ps x s.long a.inside in
      record {
        long = length-with_page ps x w has whole ∙ s.long;
        others = λ j n. page_other ps x w has whole (scratch_page v.root j) (a.apart j n) ∙ s.others j n;
      }

  pub spares_filled : (ps : List ℕ) → Spares v ps → (xs : List ℕ) (es : List Entry) → All (IsOverflow v.root) xs → Spares v (overflow_written v.root.capacity ps xs es)
  spares_filled ps s xs es a =
      let has = has_overflow v.root ps xs (s.long ∙ ready.pages_fit) a in
      record {
        long = length-overflow_written v.root.capacity ready.keys_fit ps xs es has ∙ s.long;
        others = λ j n.
            overflow_written_other v.root.capacity ready.keys_fit ps xs es has (scratch_page v.root j) (scratch_outside v.root j xs a) ∙ s.others j n;
      }

  pub spares_given : (ps : List ℕ) → Spares v ps → (l : ℕ) (xs : List ℕ) → All (IsOverflow v.root) xs → Spares v (given_back ps l xs).pages
  spares_given ps s l xs a =
      let has = has_overflow v.root ps xs (s.long ∙ ready.pages_fit) a in
      record {
        long = length-given ps l xs has ∙ s.long;
        others = λ j n. given_other ps l xs has (scratch_page v.root j) (outside_absent (scratch_page v.root j) xs (scratch_outside v.root j xs a)) ∙ s.others j n;
      }

-- ---- What a step leaves

-- The sizes and the other parties' scratch pages stay.
pub record Leaves (v u : View) : Type 0 where
  pub number= : u.number ≡ v.number
  pub sizes : SameLimits v.root u.root
  pub spares : Spares v u.pages

pub scratch_long : (v : View) → Ready v → length (scratch_of v) ≡ page_words
scratch_long v ready = length_page_of (has_page v ready v.pages (scratch_page v.root v.number) refl (omega (arith, ready.number_fits)))

-- ---- Pages built, and pages given back

-- One chain built in pages taken from the free list, its primary page in scratch.
pub built_spares : (v : View) → Ready v → (level : ℕ) (es : List Entry) (xs : List ℕ) → All (IsOverflow v.root) xs
    → Spares v (with_page (overflow_written v.root.capacity v.pages xs es) (scratch_page v.root v.number) (primary_of v.root.capacity level es xs))
built_spares v ready level es xs a =
    spares_written v ready (overflow_written v.root.capacity v.pages xs es) (spares_filled v ready v.pages (spares_all v) xs es a) (scratch_page v.root v.number)
    (primary_of v.root.capacity level es xs) (scratch_writable v ready (scratch_page v.root v.number) refl) (length-primary_of v.root.capacity level es xs ready.keys_fit)

pub all_taken : (r : Root) (k : ℕ) (xs : List ℕ) → All (IsOverflow r) xs → All (IsOverflow r) (take k xs)
all_taken r k xs a = all_from (IsOverflow r) (take k xs) (λ x h. all_in (IsOverflow r) x xs a (among_take x k xs h))

pub all_left : (r : Root) (k : ℕ) (xs : List ℕ) → All (IsOverflow r) xs → All (IsOverflow r) (drop k xs)
all_left r k xs a = all_from (IsOverflow r) (drop k xs) (λ x h. all_in (IsOverflow r) x xs a (among_drop x k xs h))

pub halves_spares : (v : View) → Ready v → (h : Halves) (xs : List ℕ) → All (IsOverflow v.root) xs → Spares v (halves_written v h xs)
unfolding halves_written
halves_spares v ready h xs a =
    let b = v.root.capacity in
    let k = pages_for b h.stay in
    let ps = overflow_written b v.pages (take k xs) h.stay in
    let first = spares_filled v ready v.pages (spares_all v) (take k xs) h.stay (all_taken v.root k xs a) in
    spares_written v ready (overflow_written b ps (drop k xs) h.go) (spares_filled v ready ps first (drop k xs) h.go (all_left v.root k xs a)) (primary_page v.party.other)
    (primary_of b (v.root.level + 1) h.go (drop k xs)) (primary_writable v ready v.party.other ready.other_fits)
    (length-primary_of b (v.root.level + 1) h.go (drop k xs) ready.keys_fit)

pub names_sound : (r : Root) (l : ℕ) → names_overflow r l ≡ true → link_sound r l ≡ true
unfolding link_sound
names_sound r l h = right_or (eqb l 0) h

-- The pages to give back at 29.
pub merged_overflow : (r : Root) (ps : List ℕ) (p : Party) → IfSound (All (IsOverflow r)) (merged_away r ps p)
unfolding merged_away
merged_overflow r ps p =
    let w = page_of ps (primary_page p.other) in
    cond_ind (IfSound (All (IsOverflow r))) (link_sound r p.old && page_sound r w) _ damaged
    (λ h. let t = and_both (link_sound r p.old) (page_sound r w) h in
    if_then (All (IsOverflow r)) (All (IsOverflow r)) (list_from r ps p.old) _ (list_overflow_ok r ps p.old t.0)
    (λ xs a. if_then (All (IsOverflow r)) (All (IsOverflow r)) (list_from r ps (link_of w)) _ (list_overflow_ok r ps (link_of w) (sound_link r w t.1))
    (λ ys b. if_sound (All (IsOverflow r)) (room_to_give_back r (length (xs ++ ys))) (xs ++ ys) (all_append (IsOverflow r) xs ys a b))))
    (λ _. tt)
