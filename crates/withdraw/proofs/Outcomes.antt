-- A withdraw by its cases: which test refuses it, and what it leaves where none does.
-- Main statements: no_room_refused, unheld_refused, all_taken_back (once the pages built are known); nothing_built,
-- unsound_refused, damaged_refused, walked_taken_back (whether there are such pages).
use mathlib.Core.Path.{◌≡◌, refl, ap, ◌∙◌, sym}
use mathlib.Core.Logic.{◌≢◌}
use mathlib.Core.Bool.{Bool, true, false, false≢true, ◌&&◌, and-false}
use mathlib.Core.List.{List, [], ◌∷◌, reverse}
use Prim.Native.Nat.{ℕ, zero, suc, ◌+◌, ◌≤◌, ◌<◌}
use native.Mathlib.Omega.{arith}
use lib.ListN.{length}
use Rattle.std.specs.Prelude.{Result, Ok, Err, is_err, ⊤}
use borrow.Author.Tests.{le-leb, lt-leb, eq-eqb, ne_eqb}
use Rattle.model.specs.declared.Root.{Root}
use Rattle.model.specs.declared.Party.{Party}
use Rattle.model.specs.declared.Refusal.{Refusal}
use Rattle.model.specs.Pages.{page_of, scratch_page, link_of, link_sound, page_sound}
use Rattle.model.specs.Chains.{Checked, damaged, sound, and_then, sound_if, overflow_from, list_from}
use Rattle.model.specs.Outcome.{View}
use Rattle.model.specs.FreeList.{room_to_give_back, pages_given_back}
use Rattle.model.specs.declared.Damaged.{Damaged}
use Rattle.model.specs.LockWords.{Claim}
use Rattle.model.specs.LockRequests.{held_all, given_up, without_hold}
use Rattle.model.specs.Claims.{claims}
use Rattle.model.specs.Ready.{viewing}
use Rattle.model.specs.Withdraw.{withdrawal, withdrawn_to, built_pages, taken_back, taken_back_soundly, withdrawn}
use Rattle.chains.specs.Walks.{counted}
use Rattle.free_list.specs.Giving.{listed, Returned, returned, after_giving}
use Rattle.endings.specs.Scratch.{cleared}
use Rattle.lock_requests.specs.Locks.{held_or_damaged, after_giving_up}
use Rattle.withdraw.specs.TakingBack.{withdrawn_with}

-- ---- The pages built are known

-- The lock words that giving up leaves do not depend on the root record and the page words.
words_given : (r s : Root) (p : Party) (q : ℕ) (ls ps gs : List ℕ) (cs : List Claim) → given_up cs (viewing s p q ls gs) ≡ viewing s p q (given_up cs (viewing r p q ls ps)).locks gs
unfolding given_up without_hold
words_given r s p q ls ps gs [] = refl
words_given r s p q ls ps gs (c ∷ cs) = words_given r s p q (without_hold c (viewing r p q ls ps)).locks ps gs cs

module _ (r : Root) (p : Party) (q : ℕ) (ls ps xs : List ℕ) where
  pub no_room_refused : r.overflow < r.free + length xs → withdrawal (Err Refusal.Damage) (viewing r p q ls ps) ≡ withdrawn_with (viewing r p q ls ps) xs
  unfolding room_to_give_back
  no_room_refused h = rw (lt-leb (r.free + length xs) r.overflow h, and-false) refl

  -- What giving up the locks answered and left: r' and ps' are the root record and the page words once the pages are
  -- given back, ls' the lock words once the locks are given up.
  module _ {told : Result ⊤ Damaged} {ls' : List ℕ} (is : told ≡ held_or_damaged (held_all (viewing r p q ls ps) (claims r p))) (left : viewing r p q ls' ps ≡ after_giving_up (claims r p) (viewing r p q ls ps)) where
    pub unheld_refused : {d : Damaged} → told ≡ Err d → withdrawal (Err Refusal.Damage) (viewing r p q ls' ps) ≡ withdrawn_with (viewing r p q ls ps) xs
    unheld_refused e = go (held_all (viewing r p q ls ps) (claims r p)) refl
      where
        go : (b : Bool) → b ≡ held_all (viewing r p q ls ps) (claims r p) → withdrawal (Err Refusal.Damage) (viewing r p q ls' ps) ≡ withdrawn_with (viewing r p q ls ps) xs
        go true t = absurd (false≢true (ap is_err (sym (is ∙ ap held_or_damaged (sym t)) ∙ e)))
        go false t = rw (left, ← t) refl

    pub all_taken_back : {u : ⊤} {r' : Root} {ps' : List ℕ} → told ≡ Ok u → r.free + length xs ≤ r.overflow → returned r' ps' ≡ after_giving r ps (reverse xs)
        → withdrawal (Ok tt) (cleared (viewing r' p q ls' ps')) ≡ withdrawn_with (viewing r p q ls ps) xs
    unfolding room_to_give_back taken_back pages_given_back
    all_taken_back {u} {r'} {ps'} e room given = go (held_all (viewing r p q ls ps) (claims r p)) refl
      where
        go : (b : Bool) → b ≡ held_all (viewing r p q ls ps) (claims r p) → withdrawal (Ok tt) (cleared (viewing r' p q ls' ps')) ≡ withdrawn_with (viewing r p q ls ps) xs
        go false t = absurd (false≢true (ap is_err (sym e ∙ is ∙ ap held_or_damaged (sym t))))
        go true t =
            let words = ap (λ (v : View). v.locks) (rw (← t) at left) in
            let there = ap (λ (l : List ℕ). viewing r' p q l ps') words ∙ sym (words_given r r' p q ls ps ps' (claims r p)) in
            let back = ap (λ (x : Returned). given_up (claims r p) (viewing x.root p q ls x.pages)) given in
            rw (le-leb (r.free + length xs) r.overflow room, ← t) (ap (λ (v : View). withdrawal (Ok tt) (cleared v)) (there ∙ back))

-- ---- The pages built are looked for

-- Link 0 is sound, and leads to no page.
pub none_linked : (r : Root) → link_sound r 0 ≡ true
unfolding link_sound
none_linked r = refl

pub none-listed : (r : Root) (ps : List ℕ) → list_from r ps 0 ≡ sound []
unfolding list_from overflow_from
none-listed r ps = go r.overflow
  where
    go : (n : ℕ) → overflow_from r ps n 0 ≡ sound []
    go zero = refl
    go (suc n) = refl

-- What is made of a list that was walked, to its end or to damage.
made_of_listed : (v : View) (f : List ℕ → Checked View) (n : ℕ) (x : Checked (List ℕ)) → counted x ≡ Ok n → withdrawn_to v (f (listed x)) ≡ withdrawn_to v (and_then x f)
made_of_listed v f n damaged e = absurd (let z : ◌≡◌ {A = ℕ} 0 1 = cc in omega arith)
made_of_listed v f n (sound xs) e = refl

made_of_damaged : (v : View) (f : List ℕ → Checked View) (x : Checked (List ℕ)) → {d : Damaged} → counted x ≡ Err d → withdrawal (Err Refusal.Damage) v ≡ withdrawn_to v (and_then x f)
made_of_damaged v f damaged e = refl
made_of_damaged v f (sound xs) e = absurd (let z : ◌≡◌ {A = ℕ} 0 1 = cc in omega arith)

-- The withdraw, if these are the pages built.
abbrev made_of : View → List ℕ → Checked View
made_of v xs = sound_if (held_all v (claims v.root v.party) && room_to_give_back v.root (length xs)) (taken_back v xs)

module _ (r : Root) (p : Party) (q : ℕ) (ls ps : List ℕ) where
  pub nothing_built : p.step ≢ 11 → withdrawn_with (viewing r p q ls ps) (listed (list_from r ps 0)) ≡ withdrawn (viewing r p q ls ps)
  unfolding withdrawn taken_back_soundly built_pages
  nothing_built n = rw (none-listed r ps, ne_eqb p.step 11 n) refl

  module _ (eleven : p.step ≡ 11) where
    pub unsound_refused : page_sound r (page_of ps (scratch_page r q)) ≡ false → withdrawal (Err Refusal.Damage) (viewing r p q ls ps) ≡ withdrawn (viewing r p q ls ps)
    unfolding withdrawn taken_back_soundly built_pages
    unsound_refused e = rw (eq-eqb p.step 11 eleven, e) refl

    module _ (scratch : page_sound r (page_of ps (scratch_page r q)) ≡ true) where
      pub damaged_refused : {d : Damaged} → counted (list_from r ps (link_of (page_of ps (scratch_page r q)))) ≡ Err d
          → withdrawal (Err Refusal.Damage) (viewing r p q ls ps) ≡ withdrawn (viewing r p q ls ps)
      unfolding withdrawn taken_back_soundly built_pages
      damaged_refused e =
          let v = viewing r p q ls ps in
          rw (eq-eqb p.step 11 eleven, scratch) (made_of_damaged v (made_of v) (list_from r ps (link_of (page_of ps (scratch_page r q)))) e)

      pub walked_taken_back : (n : ℕ) → counted (list_from r ps (link_of (page_of ps (scratch_page r q)))) ≡ Ok n
          → withdrawn_with (viewing r p q ls ps) (listed (list_from r ps (link_of (page_of ps (scratch_page r q))))) ≡ withdrawn (viewing r p q ls ps)
      unfolding withdrawn taken_back_soundly built_pages
      walked_taken_back n d =
          let v = viewing r p q ls ps in
          rw (eq-eqb p.step 11 eleven, scratch) (made_of_listed v (made_of v) n (list_from r ps (link_of (page_of ps (scratch_page r q)))) d)
