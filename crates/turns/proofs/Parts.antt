-- Text in a buffer: parts of it, and the start of an unfinished line, which is moved to the front and may be cut.
-- Main statements: drop-take, part-drop, part_length, part_front, part_none, part_byte;
-- cut_kept (an unfinished line may be cut).
use mathlib.Core.Path.{◌≡◌, refl, sym, ◌∙◌, ap}
use mathlib.Core.Bool.{Bool, true, false, cond}
use mathlib.Core.List.{List, [], ◌∷◌, ◌++◌, append-nil}
use Prim.Native.Nat.{ℕ, zero, suc, ◌+◌, ◌-◌, ◌<◌, ◌≤◌, suc-le-suc}
use native.Mathlib.Nat.{le_of_suc-le-suc, not-suc-le-zero}
use native.Mathlib.Omega.{arith}
use lib.ListN.{length, take, drop, set, length-drop}
use lib.Seq.{length-take-le, append_snoc, take-nil, take_all, drop-drop}
use lib.Dec.{eqb}
use Rattle.model.specs.Memory.{Memory}
use Rattle.model.proofs.Laws.Lists.{Ord, lt, ge, ord}
use Rattle.lines.specs.Texts.{newline, line_length, text_answered}
use Rattle.lines.proofs.LongLines.{cut_alike}
use Rattle.turns.specs.Turned.{part, most_kept}

pub drop-take : (j k : ℕ) (xs : List ℕ) → drop j (take k xs) ≡ take (k - j) (drop j xs)
drop-take zero k xs = let same : k ≡ k - 0 = omega arith in ap (λ (n : ℕ). take n xs) same
drop-take (suc j) zero xs = let none : 0 ≡ 0 - suc j = omega arith in ap (λ (n : ℕ). take n (drop (suc j) xs)) none
drop-take (suc j) (suc k) [] = sym (take-nil (suc k - suc j))
drop-take (suc j) (suc k) (x ∷ xs) = let same : k - j ≡ suc k - suc j = omega arith in drop-take j k xs ∙ ap (λ (n : ℕ). take n (drop j xs)) same

pub part-drop : (b : List ℕ) (from j to : ℕ) → drop j (part b from to) ≡ part b (from + j) to
part-drop b from j to =
    let less : to - from - j ≡ to - (from + j) = omega arith in
    drop-take j (to - from) (drop from b) ∙ ap (λ (n : ℕ). take n (drop j (drop from b))) less ∙ ap (λ (l : List ℕ). take (to - (from + j)) l) (drop-drop j from b)

pub part_length : (b : List ℕ) (from to : ℕ) → from ≤ to → to ≤ length b → length (part b from to) ≡ to - from
part_length b from to h l = let left = length-drop from b in length-take-le (to - from) (drop from b) (omega (arith, left, h, l))

pub part_front : (b : List ℕ) (to : ℕ) → part b 0 to ≡ take to b
part_front b to = let same : to - 0 ≡ to = omega arith in ap (λ (n : ℕ). take n b) same

pub part_none : (b : List ℕ) (to : ℕ) → part b to to ≡ []
part_none b to = let none : to - to ≡ 0 = omega arith in ap (λ (n : ℕ). take n (drop to b)) none

-- A byte put at a place stands there.
byte_there : (b : List ℕ) (k x : ℕ) → k < length b → take 1 (drop k (set b k x)) ≡ x ∷ []
byte_there [] k x h = absurd (not-suc-le-zero h)
byte_there (y ∷ b) zero x h = refl
byte_there (y ∷ b) (suc k) x h = byte_there b k x (le_of_suc-le-suc h)

pub part_byte : (b : List ℕ) (k x : ℕ) → k < length b → part (set b k x) k (k + 1) ≡ x ∷ []
part_byte b k x h = let one : k + 1 - k ≡ 1 = omega arith in ap (λ (n : ℕ). take n (drop k (set b k x))) one ∙ byte_there b k x h

-- ---- An unfinished line

-- A text without a newline becomes part of the line under way.
under_way_lem : (line u t : List ℕ) (m : Memory) → length u ≤ line_length u → text_answered line (u ++ t) m ≡ text_answered (line ++ u) t m
unfolding line_length text_answered
under_way_lem line [] t m h = ap (λ (l : List ℕ). text_answered l t m) (sym (append-nil line))
under_way_lem line (b ∷ u) t m h = go (eqb b newline) refl (λ below. under_way_lem (line ++ (b ∷ [])) u t m below)
  where
    go : (x : Bool) → eqb b newline ≡ x → (length u ≤ line_length u → text_answered (line ++ (b ∷ [])) (u ++ t) m ≡ text_answered ((line ++ (b ∷ [])) ++ u) t m)
        → text_answered line (b ∷ (u ++ t)) m ≡ text_answered (line ++ (b ∷ u)) t m
    go true e later = let none : suc (length u) ≤ 0 = rw e at h in absurd (not-suc-le-zero none)
    go false e later =
        let below : suc (length u) ≤ suc (line_length u) = rw e at h in
        rw e (later (le_of_suc-le-suc below) ∙ ap (λ (l : List ℕ). text_answered l t m) (append_snoc line b u))

-- Its start has none either.
front_whole : (k : ℕ) (u : List ℕ) → length u ≤ line_length u → length (take k u) ≤ line_length (take k u)
unfolding line_length
front_whole zero u h = omega arith
front_whole (suc k) [] h = omega arith
front_whole (suc k) (b ∷ u) h = go (eqb b newline) refl (front_whole k u)
  where
    go : (x : Bool) → eqb b newline ≡ x → (length u ≤ line_length u → length (take k u) ≤ line_length (take k u)) → suc (length (take k u)) ≤ cond (eqb b newline) 0 (suc (line_length (take k u)))
    go true e later = let none : suc (length u) ≤ 0 = rw e at h in absurd (not-suc-le-zero none)
    go false e later =
        let below : suc (length u) ≤ suc (line_length u) = rw e at h in
        rw e (suc-le-suc (later (le_of_suc-le-suc below)))

-- Of an unfinished line so much has to be kept.
pub cut_kept : (u t : List ℕ) (m : Memory) → length u ≤ line_length u → text_answered [] (take most_kept u ++ t) m ≡ text_answered [] (u ++ t) m
cut_kept u t m h = go (ord (length u) most_kept)
  where
    go : Ord (length u) most_kept → text_answered [] (take most_kept u ++ t) m ≡ text_answered [] (u ++ t) m
    go (lt l e) = ap (λ (x : List ℕ). text_answered [] (x ++ t) m) (take_all most_kept u (omega (arith, l)))
    go (ge l e) = under_way_lem [] (take most_kept u) t m (front_whole most_kept u h) ∙ cut_alike u t m (omega (arith, l)) ∙ sym (under_way_lem [] u t m h)
