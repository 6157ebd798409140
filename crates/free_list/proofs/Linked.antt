-- Pages taken from the free list are those that its links lead to: for those who follow the links again.
-- Main statements: taken_drawn (what holds of pages taken), head_drawn and damage-drawn (what the answer of `draw` says of them).
use mathlib.Core.Path.{◌≡◌, refl, sym, ◌∙◌}
use mathlib.Core.Bool.{Bool, true, false, cond, not, ◌&&◌}
use mathlib.Core.List.{List, [], ◌∷◌}
use Prim.Native.Nat.{ℕ, zero, suc}
use native.Mathlib.Omega.{arith}
use lib.Dec.{eqb}
use Rattle.model.specs.declared.Root.{Root}
use Rattle.model.specs.Pages.{linked_page, names_overflow}
use Rattle.model.specs.Chains.{Checked, damaged, sound, and_then}
use Rattle.model.specs.FreeList.{Taken, is_among, also_taken, taken_from, pages_taken}
use Rattle.model.proofs.Laws.Lists.{All, all_map, or_neither, eqb-false}
use Rattle.model.proofs.Laws.Distinct.{Outside}
use Rattle.model.proofs.Laws.Filling.{IsOverflow}
use Rattle.model.proofs.Laws.Tests.{named-within}
use Rattle.std.specs.Prelude.{Ok, Err}
use Rattle.model.specs.declared.Damaged.{Damaged}
use Rattle.chains.proofs.Answered.{ReadAs, answered_damaged, answered_sound}
use Rattle.chains.specs.Links.{next_link, linked_pages, none, also, LeadsApart}
use Rattle.chains.proofs.Links.{leads_all}
use Rattle.free_list.specs.Taking.{drawn}

-- k pages taken from link l on, none of them among those before.
record TakenFrom (r : Root) (ps : List ℕ) (k l : ℕ) (before : List ℕ) (t : Taken) : Type 0 where
  pages : t.pages ≡ linked_pages ps k l
  apart : All (λ x. is_among x before ≡ false) (linked_pages ps k l)
  can : LeadsApart (IsOverflow r) ps k l

-- x is none of the pages that are apart from it and others.
first_apart : (x : ℕ) (before xs : List ℕ) → All (λ y. is_among y (x ∷ before) ≡ false) xs → Outside x xs
unfolding is_among
first_apart x before xs a = all_map xs (λ y n. eqb-false x y (or_neither (eqb x y) (is_among y before) n).0) a

rest_apart : (x : ℕ) (before xs : List ℕ) → All (λ y. is_among y (x ∷ before) ≡ false) xs → All (λ y. is_among y before ≡ false) xs
unfolding is_among
rest_apart x before xs a = all_map xs (λ y n. (or_neither (eqb x y) (is_among y before) n).1) a

taken_from_lem : (r : Root) (ps : List ℕ) (k l : ℕ) (before : List ℕ) (t : Taken) → taken_from r ps k l before ≡ sound t → TakenFrom r ps k l before t
unfolding taken_from also_taken linked_pages
taken_from_lem r ps zero l before t e = record { pages = cc; apart = tt; can = record { leads = none; distinct = tt } }
taken_from_lem r ps (suc k) l before t e =
    go (names_overflow r l) (is_among (linked_page l) before) (taken_from r ps k (next_link ps l) (linked_page l ∷ before)) refl refl
    (λ u f. taken_from_lem r ps k (next_link ps l) (linked_page l ∷ before) u f) e
  where
    go : (b d : Bool) (rest : Checked Taken) → b ≡ names_overflow r l → d ≡ is_among (linked_page l) before
        → ((u : Taken) → rest ≡ sound u → TakenFrom r ps k (next_link ps l) (linked_page l ∷ before) u)
        → cond (b && not d) (and_then rest (λ u. sound (also_taken (linked_page l) u))) damaged ≡ sound t → TakenFrom r ps (suc k) l before t
    go false d rest eb ed ih e = absurd (let z : ◌≡◌ {A = ℕ} 0 1 = cc in omega arith)
    go true true rest eb ed ih e = absurd (let z : ◌≡◌ {A = ℕ} 0 1 = cc in omega arith)
    go true false damaged eb ed ih e = absurd (let z : ◌≡◌ {A = ℕ} 0 1 = cc in omega arith)
    go true false (sound u) eb ed ih e =
        let f = ih u refl in
        let ys = linked_pages ps k (next_link ps l) in
        let named = named-within r l (sym eb) in
        record {
          pages = cc;
          apart = (sym ed, rest_apart (linked_page l) before ys f.apart);
          can = record {
            leads = also {l = l} (omega (arith, named.0)) (record { above = omega (arith, named.0); below = omega (arith, named.0, named.1) }) f.can.leads;
            distinct = (first_apart (linked_page l) before ys f.apart, f.can.distinct);
          };
        }

-- What holds of k pages taken from the head of the free list.
pub record DrawnPages (r : Root) (ps : List ℕ) (k : ℕ) (t : Taken) : Type 0 where
  pub pages : t.pages ≡ linked_pages ps k r.head
  pub overflow : All (IsOverflow r) t.pages
  pub can : LeadsApart (IsOverflow r) ps k r.head

pub taken_drawn : (r : Root) (ps : List ℕ) (k : ℕ) (t : Taken) → pages_taken r ps k ≡ sound t → DrawnPages r ps k t
unfolding pages_taken
taken_drawn r ps k t e =
    let f = taken_from_lem r ps k r.head [] t e in
    record { pages = f.pages; overflow = rw f.pages (leads_all ps f.can.leads); can = f.can }

-- What the answer of `draw` says of pages taken.
module _ (r : Root) (ps : List ℕ) (k : ℕ) where
  pub head_drawn : (h : ℕ) → Ok h ≡ drawn (pages_taken r ps k) → pages_taken r ps k ≡ sound (record { pages = linked_pages ps k r.head; head = h })
  head_drawn h e = go (answered_sound (λ (t : Taken). t.head) (pages_taken r ps k) e)
    where
      go : ReadAs (λ t. t.head) (pages_taken r ps k) h → pages_taken r ps k ≡ sound (record { pages = linked_pages ps k r.head; head = h })
      go read = read.is_sound ∙ rw (← (taken_drawn r ps k read.value read.is_sound).pages, ← read.answer) refl

  pub damage-drawn : {e : Damaged} → Err e ≡ drawn (pages_taken r ps k) → pages_taken r ps k ≡ damaged
  damage-drawn e = answered_damaged (λ (t : Taken). t.head) (pages_taken r ps k) e
