-- Table I and the strongest lock held (document 02, change 5).
-- Main statements: table_symmetric; table_monotone (what is granted beside a lock is granted beside a weaker one); strongest-is (what the strongest lock held means);
-- beside_each and each_beside (the strongest decides for every lock held); word_judged (every lock word permits what Table I has beside the strongest lock held).
use mathlib.Core.Path.{◌≡◌, refl, sym, ap, ◌∙◌}
use mathlib.Core.Bool.{Bool, true, false, cond, not, ◌&&◌, true≢false}
use mathlib.Core.Option.{Option, none, some}
use Prim.Native.Nat.{ℕ, ◌+◌, ◌≤◌}
use native.Mathlib.Nat.{add_comm}
use native.Mathlib.Omega.{arith}
use lib.Dec.{eqb, ltb}
use Rattle.model.specs.declared.Mode.{Mode}
use Rattle.model.specs.declared.Mode.TheVariants.{Read, Selective, Exclusive}
use Rattle.model.specs.LockWords.{readers_of, selective_of, exclusive_of, permits, table_one}
use Rattle.model.specs.GrantTable.{rank, held_in, strongest, StrongestIs, nobody, holder, granted_beside}
use Rattle.model.proofs.Laws.Lists.{Told, holds, fails, tell, ltb-true, lt-ltb}

-- ---- The table

-- Table I in numbers: granted where the ranks of the two locks add up to less than 2.
ranks_tell : (a b : Mode) → table_one a b ≡ ltb (rank a + rank b) 2
unfolding table_one rank
ranks_tell Read Read = refl
ranks_tell Read Selective = refl
ranks_tell Read Exclusive = refl
ranks_tell Selective Read = refl
ranks_tell Selective Selective = refl
ranks_tell Selective Exclusive = refl
ranks_tell Exclusive Read = refl
ranks_tell Exclusive Selective = refl
ranks_tell Exclusive Exclusive = refl

-- Of two locks, either is granted beside the other, or neither is.
pub table_symmetric : (a b : Mode) → table_one a b ≡ table_one b a
table_symmetric a b = ranks_tell a b ∙ ap (λ (x : ℕ). ltb x 2) (add_comm (rank a) (rank b)) ∙ sym (ranks_tell b a)

-- Each row is monotone: what is granted beside a lock is granted beside every weaker one.
pub table_monotone : (m a b : Mode) → rank a ≤ rank b → table_one m b ≡ true → table_one m a ≡ true
table_monotone m a b l e =
    let few = ltb-true (rank m + rank b) 2 (sym (ranks_tell m b) ∙ e) in
    ranks_tell m a ∙ lt-ltb (rank m + rank a) 2 (omega (arith, l, few))

-- ---- The strongest lock held

-- Once the stronger modes are not held, none that is held is stronger.
below_exclusive : (a : Mode) → rank a ≤ rank Exclusive
unfolding rank
below_exclusive Read = omega arith
below_exclusive Selective = omega arith
below_exclusive Exclusive = omega arith

module _ (h : Mode → Bool) where
  below_selective : h Exclusive ≡ false → (a : Mode) → h a ≡ true → rank a ≤ rank Selective
  unfolding rank
  below_selective x Read e = omega arith
  below_selective x Selective e = omega arith
  below_selective x Exclusive e = absurd (true≢false (sym e ∙ x))

  only_read : h Exclusive ≡ false → h Selective ≡ false → (a : Mode) → h a ≡ true → rank a ≤ rank Read
  only_read x s Read e = omega arith
  only_read x s Selective e = absurd (true≢false (sym e ∙ s))
  only_read x s Exclusive e = absurd (true≢false (sym e ∙ x))

  not_one : h Exclusive ≡ false → h Selective ≡ false → h Read ≡ false → (a : Mode) → h a ≡ false
  not_one x s r Read = r
  not_one x s r Selective = s
  not_one x s r Exclusive = x

  -- The strongest lock held is what its name says.
  pub strongest-is : StrongestIs h (strongest h)
  unfolding strongest
  strongest-is = go (tell (h Exclusive)) (tell (h Selective)) (tell (h Read))
    where
      go : Told (h Exclusive) → Told (h Selective) → Told (h Read) → StrongestIs h (strongest h)
      go (holds x) s r = rw x (holder Exclusive x (λ a e. below_exclusive a))
      go (fails x) (holds s) r = rw (x, s) (holder Selective s (below_selective x))
      go (fails x) (fails s) (holds r) = rw (x, s, r) (holder Read r (only_read x s))
      go (fails x) (fails s) (fails r) = rw (x, s, r) (nobody (not_one x s r))

  -- What is granted beside the strongest lock held is granted beside every lock held, and the other way about.
  pub beside_each : (m : Mode) → granted_beside m (strongest h) ≡ true → (a : Mode) → h a ≡ true → table_one m a ≡ true
  unfolding granted_beside
  beside_each m g a e = go strongest-is g
    where
      go : {o : Option Mode} → StrongestIs h o → granted_beside m o ≡ true → table_one m a ≡ true
      go (nobody n) t = absurd (true≢false (sym e ∙ n a))
      go (holder s y most) t = table_monotone m a s (most a e) t

  pub each_beside : (m : Mode) → ((a : Mode) → h a ≡ true → table_one m a ≡ true) → granted_beside m (strongest h) ≡ true
  unfolding granted_beside
  each_beside m f = go strongest-is
    where
      go : {o : Option Mode} → StrongestIs h o → granted_beside m o ≡ true
      go (nobody n) = refl
      go (holder s y most) = f s y

-- ---- Lock words

-- The strongest lock held, where the three fields of a word are zero or not.
abbrev top : Bool → Bool → Bool → Option Mode
top r s x = cond (not x) (some Exclusive) (cond (not s) (some Selective) (cond (not r) (some Read) none))

read_judged : (r s x : Bool) → x ≡ granted_beside Read (top r s x)
unfolding granted_beside table_one
read_judged r s false = refl
read_judged r false true = refl
read_judged false true true = refl
read_judged true true true = refl

selective_judged : (r s x : Bool) → (s && x) ≡ granted_beside Selective (top r s x)
unfolding granted_beside table_one
selective_judged r false false = refl
selective_judged r true false = refl
selective_judged r false true = refl
selective_judged false true true = refl
selective_judged true true true = refl

exclusive_judged : (r s x : Bool) → (r && s && x) ≡ granted_beside Exclusive (top r s x)
unfolding granted_beside table_one
exclusive_judged false s false = refl
exclusive_judged true false false = refl
exclusive_judged true true false = refl
exclusive_judged false false true = refl
exclusive_judged true false true = refl
exclusive_judged false true true = refl
exclusive_judged true true true = refl

-- Every lock word permits what Table I has beside the strongest lock held on it, and every request where none is held.
pub word_judged : (w : ℕ) (m : Mode) → permits w m ≡ granted_beside m (strongest (held_in w))
unfolding permits held_in strongest
word_judged w Read = read_judged (eqb (readers_of w) 0) (eqb (selective_of w) 0) (eqb (exclusive_of w) 0)
word_judged w Selective = selective_judged (eqb (readers_of w) 0) (eqb (selective_of w) 0) (eqb (exclusive_of w) 0)
word_judged w Exclusive = exclusive_judged (eqb (readers_of w) 0) (eqb (selective_of w) 0) (eqb (exclusive_of w) 0)
