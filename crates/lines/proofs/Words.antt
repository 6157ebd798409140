-- The first records and words alone, as many as are asked for, or all.
-- Main statements: first_of_lem, rest_of; words_left (what a call leaves that was lent the first of the records, locks,
-- pages and waiting row).
use mathlib.Core.Path.{◌≡◌, sym, ◌∙◌, ap}
use mathlib.Core.List.{List, ◌++◌}
use Prim.Native.Nat.{ℕ, min}
use native.Mathlib.Nat.{min-eq_left, min-eq_right}
use native.Mathlib.Omega.{arith}
use lib.ListN.{length, take, drop, take-append-drop, drop_of_length-le}
use lib.Seq.{take_all, take-length, drop-length}
use Rattle.model.specs.declared.Root.{Root}
use Rattle.model.specs.declared.Party.{Party}
use Rattle.model.specs.Sizes.{lock_words, all_page_words}
use Rattle.model.specs.Memory.{Memory}
use Rattle.model.specs.Calls.{Called, called}
use Rattle.model.proofs.Laws.Lists.{Ord, lt, ge, ord}
use Rattle.calls.specs.Lent.{lent}
use Rattle.forms.specs.declared.Reply.{Reply}
use Rattle.lines.specs.Held.{with_rest}
use Rattle.lines.specs.Lines.{words_for, with_words}

pub first_of_lem : {A : Type 0} (n k : ℕ) (xs : List A) → k ≡ min n (length xs) → take k xs ≡ take n xs
first_of_lem {A} n k xs e = ap (λ (j : ℕ). take j xs) e ∙ go (ord n (length xs))
  where
    go : Ord n (length xs) → take (min n (length xs)) xs ≡ take n xs
    go (lt h t) = ap (λ (j : ℕ). take j xs) (min-eq_left {m = length xs} (omega (arith, h)))
    go (ge h t) = ap (λ (j : ℕ). take j xs) (min-eq_right {m = n} h) ∙ take-length xs ∙ sym (take_all n xs h)

pub rest_of : {A : Type 0} (n k : ℕ) (xs : List A) → k ≡ min n (length xs) → drop k xs ≡ drop n xs
rest_of {A} n k xs e = ap (λ (j : ℕ). drop j xs) e ∙ go (ord n (length xs))
  where
    go : Ord n (length xs) → drop (min n (length xs)) xs ≡ drop n xs
    go (lt h t) = ap (λ (j : ℕ). drop j xs) (min-eq_left {m = length xs} (omega (arith, h)))
    go (ge h t) = ap (λ (j : ℕ). drop j xs) (min-eq_right {m = n} h) ∙ drop-length xs ∙ sym (drop_of_length-le xs h)

-- What a call left, its answer made a reply and these records and words put after those it was lent.
abbrev before : {A : Type 0} → (A → Reply) → List Party → List ℕ → List ℕ → List ℕ → Called A → Called Reply
before f ps ls gs ws c =
    called (f c.answer) (lent c.memory.root (c.memory.parties ++ ps) (c.memory.locks ++ ls) (c.memory.pages ++ gs) (c.memory.waiting ++ ws))

-- A call was lent the first n of the records, l of the lock words, g of the page words and w of the waiting row: as
-- many as the sizes in a root record ask for, or all.
pub words_left : {A : Type 0} (r : Root) (call : List Party → List ℕ → List ℕ → List ℕ → Called A) (f : A → Reply) (m : Memory) (n l g w : ℕ)
    → n ≡ min r.parties (length m.parties) → l ≡ min (lock_words r) (length m.locks) → g ≡ min (all_page_words r) (length m.pages) → w ≡ min r.parties (length m.waiting)
    → (a : A) (x : Root) (row : List Party) (ls gs ws : List ℕ) → called a (lent x row ls gs ws) ≡ call (take n m.parties) (take l m.locks) (take g m.pages) (take w m.waiting)
    → called (f a) (lent x (row ++ drop n m.parties) (ls ++ drop l m.locks) (gs ++ drop g m.pages) (ws ++ drop w m.waiting))
    ≡ with_words r m f (with_rest r.parties (words_for r m) (call (take r.parties m.parties) (take (lock_words r) m.locks) (take (all_page_words r) m.pages) (take r.parties m.waiting)))
words_left r call f m n l g w en el eg ew a x row ls gs ws said =
    ap (before f (drop n m.parties) (drop l m.locks) (drop g m.pages) (drop w m.waiting)) said
    ∙ (λ i. before f (rest_of r.parties n m.parties en i) (rest_of (lock_words r) l m.locks el i) (rest_of (all_page_words r) g m.pages eg i) (rest_of r.parties w m.waiting ew i)
    (call (first_of_lem r.parties n m.parties en i) (first_of_lem (lock_words r) l m.locks el i) (first_of_lem (all_page_words r) g m.pages eg i)
    (first_of_lem r.parties w m.waiting ew i)))

-- The same of a call that alters nothing.
pub words_kept : {A : Type 0} (r : Root) (call : List Party → List ℕ → List ℕ → List ℕ → Called A) (f : A → Reply) (m : Memory) (n l g w : ℕ)
    → n ≡ min r.parties (length m.parties) → l ≡ min (lock_words r) (length m.locks) → g ≡ min (all_page_words r) (length m.pages) → w ≡ min r.parties (length m.waiting)
    → (a : A) (x : Root)
    → called a (lent x (take n m.parties) (take l m.locks) (take g m.pages) (take w m.waiting)) ≡ call (take n m.parties) (take l m.locks) (take g m.pages) (take w m.waiting)
    → called (f a) (lent x m.parties m.locks m.pages m.waiting)
    ≡ with_words r m f (with_rest r.parties (words_for r m) (call (take r.parties m.parties) (take (lock_words r) m.locks) (take (all_page_words r) m.pages) (take r.parties m.waiting)))
words_kept r call f m n l g w en el eg ew a x said =
    (λ i. called (f a) (lent x (sym (take-append-drop n m.parties) i) (sym (take-append-drop l m.locks) i) (sym (take-append-drop g m.pages) i) (sym (take-append-drop w m.waiting) i)))
    ∙ words_left r call f m n l g w en el eg ew a x (take n m.parties) (take l m.locks) (take g m.pages) (take w m.waiting) said
