-- How lock words follow the locks held: a grant, a give-up, step 27's turn, and a party's record that changes.
-- Main statements, of one word: held_true, holds_held (what the word says is what is held); table-true, permits-true (a
-- request is permitted where Table I permits it beside every lock held); exclusive_alone, selective_one; word_granted,
-- word_released, word_restored (a grant given up at once), word_turned.
-- Of all words: locks_granted, locks_released, locks_turned, locks_same, locks_start. Of the parties' row: claimed_set,
-- locks_move, locks_stay.
use mathlib.Core.Path.{◌≡◌, refl, sym, ap, ◌∙◌, subst, fun_ext}
use mathlib.Core.Logic.{◌≢◌}
use mathlib.Core.Bool.{Bool, true, false, cond, not, ◌&&◌, ◌||◌, true≢false, false≢true, and-true, and-false, or-true, or-false}
use mathlib.Core.List.{List}
use Prim.Native.Nat.{ℕ, zero, suc, ◌+◌, ◌^◌, ◌≤◌, ◌<◌}
use native.Mathlib.Nat.{zero-div, zero-mod}
use native.Mathlib.Decide.{ℕ_discrete, dec_lt}
use native.Mathlib.Omega.{arith}
use lib.ListN.{length, get_or, set, replicate, length-set, length-replicate, get_or-replicate}
use lib.Seq.{get_or-set_same, get_or-set_other}
use lib.Dec.{eqb}
use borrow.Author.Tests.{eqb-true, eq-eqb, ne_eqb}
use Rattle.model.specs.declared.Root.{Root}
use Rattle.model.specs.declared.Party.{Party}
use Rattle.model.specs.declared.Mode.{Mode}
use Rattle.model.specs.declared.Mode.TheVariants.{Read, Selective, Exclusive}
use Rattle.model.specs.LockWords.{field_of, with_field, readers_of, selective_of, exclusive_of, permits, holds, granted_word, released_word, turned_selective, table_one}
use Rattle.model.specs.Holds.{same_mode}
use Rattle.model.specs.Records.{idle}
use Rattle.model.specs.Claims.{claims}
use Rattle.model.proofs.Invariant.Claims.{is_claimed, claimed, bit, HolderIs, WordOk, LocksOk}
use Rattle.model.proofs.Laws.Booleans.{and_left, and_right}
use Rattle.model.proofs.Laws.Fields.{field_same, field-again, field_own, field_below, field_above, bit_other, with_field_26, readers_zero, reader_zero}

-- ---- Tests

not-true : (b : Bool) → b ≢ true → b ≡ false
not-true true n = absurd (n refl)
not-true false n = refl

-- ---- Holder fields

module _ {f : ℕ} {g : ℕ → Bool} (ok : HolderIs f g) where
  holder_zero : ((q : ℕ) → g q ≢ true) → f ≡ 0
  holder_zero n = go f refl
    where
      go : (x : ℕ) → f ≡ x → f ≡ 0
      go zero e = e
      go (suc q) e = absurd (n q (ok.named q e))

  holder_one : (q q' : ℕ) → g q ≡ true → g q' ≡ true → q' ≡ q
  holder_one q q' e e' = omega (arith, ok.claims_it q e, ok.claims_it q' e')

  holder_kept : (f' : ℕ) (g' : ℕ → Bool) → f' ≡ f → ((q : ℕ) → g' q ≡ g q) → HolderIs f' g'
  holder_kept f' g' e same = record {
    named = λ q x. same q ∙ ok.named q (sym e ∙ x);
    claims_it = λ q x. e ∙ ok.claims_it q (sym (same q) ∙ x);
  }

-- ---- What a lock word says of the locks held

-- The field of the holders in a mode.
unfoldable field_for : ℕ → Mode → ℕ
field_for w Read = readers_of w
field_for w Selective = selective_of w
field_for w Exclusive = exclusive_of w

module _ {w : ℕ} {h : ℕ → Mode → Bool} (ok : WordOk w h) where
  pub reader_lt : (q : ℕ) → h q Read ≡ true → q < 16
  reader_lt q e = go (dec_lt q 16)
    where
      go : Dec (q < 16) → q < 16
      go (yes l) = l
      go (no n) = absurd (true≢false (sym e ∙ ok.no_other_reader q (omega arith)))

  none_held : (m : Mode) → field_for w m ≡ 0 → (q : ℕ) → h q m ≢ true
  unfolding field_for
  none_held Read z q e =
      let l = reader_lt q e in
      let one : field_of q 1 w ≡ 1 = ok.readers q l ∙ ap bit e in
      omega (arith, one, reader_zero w z q l)
  none_held Selective z q e = omega (arith, z, ok.selective.claims_it q e)
  none_held Exclusive z q e = omega (arith, z, ok.exclusive.claims_it q e)

  field-zero : (m : Mode) → ((q : ℕ) → h q m ≢ true) → field_for w m ≡ 0
  unfolding field_for
  field-zero Read n = readers_zero w (λ q l. ok.readers q l ∙ ap bit (not-true (h q Read) (n q)))
  field-zero Selective n = holder_zero ok.selective n
  field-zero Exclusive n = holder_zero ok.exclusive n

  -- Whoever holds the lock is found in the word, and whoever is found there holds it.
  pub held_true : (q : ℕ) (m : Mode) → h q m ≡ true → holds w q m ≡ true
  unfolding holds
  held_true q Read e = eq-eqb (field_of q 1 w) 1 (ok.readers q (reader_lt q e) ∙ ap bit e)
  held_true q Selective e = eq-eqb (selective_of w) (q + 1) (omega (arith, ok.selective.claims_it q e))
  held_true q Exclusive e = eq-eqb (exclusive_of w) (q + 1) (omega (arith, ok.exclusive.claims_it q e))

  pub holds_held : (q : ℕ) (m : Mode) → q < 16 → holds w q m ≡ true → h q m ≡ true
  unfolding holds
  holds_held q Read l e = go (h q Read) (sym (ok.readers q l) ∙ eqb-true (field_of q 1 w) 1 e)
    where
      go : (b : Bool) → bit b ≡ 1 → b ≡ true
      go true x = refl
      go false x = absurd (omega (arith, x))
  holds_held q Selective l e = ok.selective.named q (eqb-true (selective_of w) (q + 1) e ∙ omega arith)
  holds_held q Exclusive l e = ok.exclusive.named q (eqb-true (exclusive_of w) (q + 1) e ∙ omega arith)

-- ---- Table I

-- A request in mode m beside what a word says of mode m'.
abbrev beside : ℕ → Mode → Mode → Bool
beside w m m' = table_one m m' || eqb (field_for w m') 0

permits-is : (w : ℕ) (m : Mode) → permits w m ≡ (beside w m Read && beside w m Selective && beside w m Exclusive)
unfolding permits table_one field_for
permits-is w Read = refl
permits-is w Selective = refl
permits-is w Exclusive = refl

beside_true : (w : ℕ) (m m' : Mode) → permits w m ≡ true → beside w m m' ≡ true
beside_true w m m' p = go m'
  where
    all : (beside w m Read && beside w m Selective && beside w m Exclusive) ≡ true
    all = sym (permits-is w m) ∙ p

    two : (beside w m Read && beside w m Selective) ≡ true
    two = and_left (beside w m Read && beside w m Selective) (beside w m Exclusive) all

    go : (x : Mode) → beside w m x ≡ true
    go Read = and_left (beside w m Read) (beside w m Selective) two
    go Selective = and_right (beside w m Read) (beside w m Selective) two
    go Exclusive = and_right (beside w m Read && beside w m Selective) (beside w m Exclusive) all

permits-zero : (w : ℕ) (m m' : Mode) → permits w m ≡ true → table_one m m' ≡ false → field_for w m' ≡ 0
permits-zero w m m' p t = eqb-true (field_for w m') 0 (rw t at (beside_true w m m' p))

module _ {w : ℕ} {h : ℕ → Mode → Bool} (ok : WordOk w h) where
  -- A word permits what Table I permits beside every lock held, and nothing else.
  pub table-true : (m : Mode) → permits w m ≡ true → (q' : ℕ) (m' : Mode) → h q' m' ≡ true → table_one m m' ≡ true
  table-true m p q' m' e = go (table_one m m') refl
    where
      go : (b : Bool) → table_one m m' ≡ b → table_one m m' ≡ true
      go true t = t
      go false t = absurd (none_held ok m' (permits-zero w m m' p t) q' e)

  pub permits-true : (m : Mode) → ((q' : ℕ) (m' : Mode) → h q' m' ≡ true → table_one m m' ≡ true) → permits w m ≡ true
  permits-true m f = rw (permits-is, each Read, each Selective, each Exclusive)
    where
      each : (m' : Mode) → beside w m m' ≡ true
      each m' = go (table_one m m') refl
        where
          go : (b : Bool) → table_one m m' ≡ b → beside w m m' ≡ true
          go true t = rw t
          go false t = rw t (eq-eqb (field_for w m') 0 (field-zero ok m' (λ q e. true≢false (sym (f q m' e) ∙ t))))

  -- An exclusive holder is alone with that one lock; there is one selective holder.
  exclusive_mode : (q q' : ℕ) (m : Mode) → h q Exclusive ≡ true → h q' m ≡ true → same_mode m Exclusive ≡ true
  unfolding same_mode field_for
  exclusive_mode q q' m e e' = go m e'
    where
      rest : (readers_of w ≡ 0) × (selective_of w ≡ 0)
      rest = ok.alone (λ z. none_held ok Exclusive z q e)

      go : (x : Mode) → h q' x ≡ true → same_mode x Exclusive ≡ true
      go Read x = absurd (none_held ok Read rest.0 q' x)
      go Selective x = absurd (none_held ok Selective rest.1 q' x)
      go Exclusive x = refl

  pub exclusive_alone : (q q' : ℕ) (m : Mode) → h q Exclusive ≡ true → h q' m ≡ true → (q' ≡ q) × (same_mode m Exclusive ≡ true)
  unfolding same_mode
  exclusive_alone q q' Read e e' = absurd (false≢true (exclusive_mode q q' Read e e'))
  exclusive_alone q q' Selective e e' = absurd (false≢true (exclusive_mode q q' Selective e e'))
  exclusive_alone q q' Exclusive e e' = (holder_one ok.exclusive q q' e e', refl)

  pub selective_one : (q q' : ℕ) → h q Selective ≡ true → h q' Selective ≡ true → q' ≡ q
  selective_one q q' e e' = holder_one ok.selective q q' e e'

-- ---- One lock taken or given up

pub mode_same : (m : Mode) → same_mode m m ≡ true
unfolding same_mode
mode_same Read = refl
mode_same Selective = refl
mode_same Exclusive = refl

-- The locks held, with party q's lock in mode m held or not.
abbrev setting : (ℕ → Mode → Bool) → ℕ → Mode → Bool → ℕ → Mode → Bool
setting h q m b q' m' = cond (eqb q' q && same_mode m' m) b (h q' m')

module _ (h : ℕ → Mode → Bool) (q : ℕ) (m : Mode) (b : Bool) where
  setting_same : setting h q m b q m ≡ b
  setting_same = rw (eq-eqb q q refl, mode_same m)

  setting_party : (q' : ℕ) (m' : Mode) → q' ≢ q → setting h q m b q' m' ≡ h q' m'
  setting_party q' m' n = rw (ne_eqb q' q n)

  setting_mode : (q' : ℕ) (m' : Mode) → same_mode m' m ≡ false → setting h q m b q' m' ≡ h q' m'
  setting_mode q' m' e = rw (e, and-false (eqb q' q))

or_cond : (t a : Bool) → (a || t) ≡ cond t true a
or_cond true a = or-true a
or_cond false a = or-false a

and-not-cond : (t a : Bool) → (a && not t) ≡ cond t false a
and-not-cond true a = and-false a
and-not-cond false a = and-true a

-- A holder field: party q plus one, or none.
abbrev holder : Bool → ℕ → ℕ
holder true q = q + 1
holder false q = 0

holder_lt : (b : Bool) (q : ℕ) → q < 16 → holder b q < 2 ^ 5
holder_lt true q l = omega arith
holder_lt false q l = omega arith

bit_lt : (b : Bool) → bit b < 2
bit_lt true = omega arith
bit_lt false = omega arith

-- No party but q held it: the field that names q, or none, is right.
holder_set : (g g' : ℕ → Bool) (q : ℕ) (b : Bool) → g' q ≡ b → ((q' : ℕ) → q' ≢ q → g' q' ≡ g q') → ((q' : ℕ) → q' ≢ q → g q' ≢ true) → HolderIs (holder b q) g'
holder_set g g' q b own same none = record { named = λ q' e. named b own q' e; claims_it = λ q' e. claims_it (ℕ_discrete q' q) e }
  where
    named : (x : Bool) → g' q ≡ x → (q' : ℕ) → holder x q ≡ suc q' → g' q' ≡ true
    named true o q' e = let s : q' ≡ q = omega arith in rw s o
    named false o q' e = absurd (omega (arith, e))

    claims_it : {q' : ℕ} → Dec (q' ≡ q) → g' q' ≡ true → holder b q ≡ suc q'
    claims_it (yes s) e = let o : b ≡ true = sym own ∙ ap g' (sym s) ∙ e in rw (o, s) (omega arith)
    claims_it (no n) e = absurd (none _ n (sym (same _ n) ∙ e))

pub word_same : {w : ℕ} {h h' : ℕ → Mode → Bool} → ((q : ℕ) (m : Mode) → h' q m ≡ h q m) → WordOk w h → WordOk w h'
word_same {w} e ok = subst (λ g. WordOk w g) (sym (fun_ext λ q. fun_ext λ m. e q m)) ok

module _ {w : ℕ} {h : ℕ → Mode → Bool} (ok : WordOk w h) (q : ℕ) (b : Bool) (l : q < 16) where
  -- What the holder field becomes.
  abbrev v : ℕ
  v = holder b q

  v_lt : v < 2 ^ 5
  v_lt = holder_lt b q l

  -- A field above the readers leaves them.
  readers_kept : (k n x : ℕ) → 16 ≤ k → (q' : ℕ) → q' < 16 → field_of q' 1 (with_field k n w x) ≡ bit (h q' Read)
  readers_kept k n x k16 q' l' = field_below k n w x q' 1 (omega arith) ∙ ok.readers q' l'

  read_set : (b ≡ true → exclusive_of w ≡ 0) → WordOk (with_field q 1 w (bit b)) (setting h q Read b)
  unfolding same_mode
  read_set free = record {
    small = with_field_26 q 1 w (bit b) (bit_lt b) (omega arith) ok.small;
    readers = λ q' l'. reader (ℕ_discrete q' q) l';
    no_other_reader = λ q' g. setting_party h q Read b q' Read (omega arith) ∙ ok.no_other_reader q' g;
    selective = holder_kept ok.selective _ _ (higher 16 (omega arith)) (λ q'. setting_mode h q Read b q' Selective refl);
    exclusive = holder_kept ok.exclusive _ _ (higher 21 (omega arith)) (λ q'. setting_mode h q Read b q' Exclusive refl);
    alone = λ n. let rest = ok.alone (λ z. n (higher 21 (omega arith) ∙ z)) in
        (readers_zero _ (λ q' l'. cleared b refl n (ℕ_discrete q' q) (reader_zero w rest.0 q' l')), higher 16 (omega arith) ∙ rest.1);
  }
    where
      higher : (k : ℕ) → 16 ≤ k → field_of k 5 (with_field q 1 w (bit b)) ≡ field_of k 5 w
      higher k g = field_above q 1 w (bit b) (bit_lt b) k 5 (omega arith)

      reader : {q' : ℕ} → Dec (q' ≡ q) → q' < 16 → field_of q' 1 (with_field q 1 w (bit b)) ≡ bit (setting h q Read b q' Read)
      reader (yes s) l' = rw (s, setting_same h q Read b) (field_same q 1 w (bit b) (bit_lt b))
      reader {q'} (no n) l' = bit_other q w (bit b) (bit_lt b) q' n ∙ ok.readers q' l' ∙ ap bit (sym (setting_party h q Read b q' Read n))

      cleared : (x : Bool) → b ≡ x → exclusive_of (with_field q 1 w (bit b)) ≢ 0 → {q' : ℕ} → Dec (q' ≡ q) → field_of q' 1 w ≡ 0 → field_of q' 1 (with_field q 1 w (bit b)) ≡ 0
      cleared true e n d z = absurd (n (higher 21 (omega arith) ∙ free e))
      cleared false e n (yes s) z = rw (s, e) (field_same q 1 w 0 (omega arith))
      cleared false e n {q'} (no d) z = bit_other q w (bit b) (bit_lt b) q' d ∙ z

  selective_set : ((q' : ℕ) → q' ≢ q → h q' Selective ≢ true) → (b ≡ true → exclusive_of w ≡ 0) → WordOk (with_field 16 5 w v) (setting h q Selective b)
  unfolding same_mode
  selective_set none free = record {
    small = with_field_26 16 5 w v v_lt (omega arith) ok.small;
    readers = λ q' l'. readers_kept 16 5 v (omega arith) q' l' ∙ ap bit (sym (setting_mode h q Selective b q' Read refl));
    no_other_reader = λ q' g. setting_mode h q Selective b q' Read refl ∙ ok.no_other_reader q' g;
    selective = rw (field_same 16 5 w v v_lt) (holder_set (λ q'. h q' Selective) _ q b (setting_same h q Selective b) (λ q' n. setting_party h q Selective b q' Selective n) none);
    exclusive = holder_kept ok.exclusive _ _ higher (λ q'. setting_mode h q Selective b q' Exclusive refl);
    alone = λ n. (field_below 16 5 w v 0 16 (omega arith) ∙ (ok.alone (λ z. n (higher ∙ z))).0, field_same 16 5 w v v_lt ∙ cleared b refl n);
  }
    where
      higher : exclusive_of (with_field 16 5 w v) ≡ exclusive_of w
      higher = field_above 16 5 w v v_lt 21 5 (omega arith)

      cleared : (x : Bool) → b ≡ x → exclusive_of (with_field 16 5 w v) ≢ 0 → v ≡ 0
      cleared true e n = absurd (n (higher ∙ free e))
      cleared false e n = rw e

  exclusive_set : ((q' : ℕ) → q' ≢ q → h q' Exclusive ≢ true) → (b ≡ true → (readers_of w ≡ 0) × (selective_of w ≡ 0))
      → WordOk (with_field 21 5 w v) (setting h q Exclusive b)
  unfolding same_mode
  exclusive_set none free = record {
    small = with_field_26 21 5 w v v_lt (omega arith) ok.small;
    readers = λ q' l'. readers_kept 21 5 v (omega arith) q' l' ∙ ap bit (sym (setting_mode h q Exclusive b q' Read refl));
    no_other_reader = λ q' g. setting_mode h q Exclusive b q' Read refl ∙ ok.no_other_reader q' g;
    selective = holder_kept ok.selective _ _ (field_below 21 5 w v 16 5 (omega arith)) (λ q'. setting_mode h q Exclusive b q' Selective refl);
    exclusive = rw (field_same 21 5 w v v_lt) (holder_set (λ q'. h q' Exclusive) _ q b (setting_same h q Exclusive b) (λ q' n. setting_party h q Exclusive b q' Exclusive n) none);
    alone = λ n. let rest = free (taken b refl (λ z. n (field_same 21 5 w v v_lt ∙ z))) in
        (field_below 21 5 w v 0 16 (omega arith) ∙ rest.0, field_below 21 5 w v 16 5 (omega arith) ∙ rest.1);
  }
    where
      taken : (x : Bool) → b ≡ x → v ≢ 0 → b ≡ true
      taken true e n = e
      taken false e n = absurd (n (rw e))

module _ {w : ℕ} {h : ℕ → Mode → Bool} (ok : WordOk w h) where
  pub word_granted : (q : ℕ) (m : Mode) → permits w m ≡ true → q < 16 → WordOk (granted_word w q m) (λ q' m'. h q' m' || (eqb q' q && same_mode m' m))
  unfolding granted_word table_one field_for
  word_granted q m p l = word_same (λ q' m'. or_cond (eqb q' q && same_mode m' m) (h q' m')) (go m p)
    where
      go : (x : Mode) → permits w x ≡ true → WordOk (granted_word w q x) (setting h q x true)
      go Read y = read_set ok q true l (λ _. permits-zero w Read Exclusive y refl)
      go Selective y =
          selective_set ok q true l (λ q' _. none_held ok Selective (permits-zero w Selective Selective y refl) q')
          (λ _. permits-zero w Selective Exclusive y refl)
      go Exclusive y =
          exclusive_set ok q true l (λ q' _. none_held ok Exclusive (permits-zero w Exclusive Exclusive y refl) q')
          (λ _. (permits-zero w Exclusive Read y refl, permits-zero w Exclusive Selective y refl))

  pub word_released : (q : ℕ) (m : Mode) → h q m ≡ true → q < 16 → WordOk (released_word w q m) (λ q' m'. h q' m' && not (eqb q' q && same_mode m' m))
  unfolding released_word
  word_released q m e l = word_same (λ q' m'. and-not-cond (eqb q' q && same_mode m' m) (h q' m')) (go m e)
    where
      go : (x : Mode) → h q x ≡ true → WordOk (released_word w q x) (setting h q x false)
      go Read y = read_set ok q false l (λ z. absurd (false≢true z))
      go Selective y = selective_set ok q false l (λ q' n z. n (holder_one ok.selective q q' y z)) (λ z. absurd (false≢true z))
      go Exclusive y = exclusive_set ok q false l (λ q' n z. n (holder_one ok.exclusive q q' y z)) (λ z. absurd (false≢true z))

  -- A lock granted and given up: the word is what it was before.
  pub word_restored : (q : ℕ) (m : Mode) → permits w m ≡ true → h q m ≡ false → q < 16 → released_word (granted_word w q m) q m ≡ w
  unfolding granted_word released_word table_one field_for
  word_restored q Read p n l = field-again q 1 w 1 (omega arith) 0 ∙ ap (with_field q 1 w) (sym (ok.readers q l ∙ ap bit n)) ∙ field_own q 1 w
  word_restored q Selective p n l =
      field-again 16 5 w (q + 1) (omega arith) 0 ∙ ap (with_field 16 5 w) (sym (permits-zero w Selective Selective p refl)) ∙ field_own 16 5 w
  word_restored q Exclusive p n l =
      field-again 21 5 w (q + 1) (omega arith) 0 ∙ ap (with_field 21 5 w) (sym (permits-zero w Exclusive Exclusive p refl)) ∙ field_own 21 5 w

-- Step 27: after the exclusive lock is given up nothing is held, so the selective one is permitted.
pub word_turned : {w : ℕ} {h : ℕ → Mode → Bool} → WordOk w h → (q : ℕ) → h q Exclusive ≡ true → q < 16
    → WordOk (turned_selective w q) (λ q' m'. (h q' m' && not (eqb q' q && same_mode m' Exclusive)) || (eqb q' q && same_mode m' Selective))
unfolding turned_selective
word_turned {w} {h} ok q e l = word_granted after q Selective (permits-true after Selective (λ q' m' x. absurd (nothing q' m' x))) l
  where
    after : WordOk (released_word w q Exclusive) (λ q' m'. h q' m' && not (eqb q' q && same_mode m' Exclusive))
    after = word_released ok q Exclusive e l

    nothing : (q' : ℕ) (m' : Mode) → (h q' m' && not (eqb q' q && same_mode m' Exclusive)) ≢ true
    nothing q' m' x =
        let only = exclusive_alone ok q q' m' e (and_left (h q' m') (not (eqb q' q && same_mode m' Exclusive)) x) in
        let off = and_right (h q' m') (not (eqb q' q && same_mode m' Exclusive)) x in
        false≢true (rw (eq-eqb q' q only.0, only.1) at off)

-- ---- All lock words

pub locks_same : {n : ℕ} {locks : List ℕ} {h h' : ℕ → ℕ → Mode → Bool} → ((i q : ℕ) (m : Mode) → h' i q m ≡ h i q m) → LocksOk n locks h → LocksOk n locks h'
locks_same e ok = record { as_many = ok.as_many; each = λ i l. word_same (e i) (ok.each i l) }

word_zero : WordOk 0 (λ q m. false)
unfolding field_of
word_zero = record {
  small = omega arith;
  readers = λ q l. zeroes q 1;
  no_other_reader = λ q g. refl;
  selective = holder_none (zeroes 16 5);
  exclusive = holder_none (zeroes 21 5);
  alone = λ n. (zeroes 0 16, zeroes 16 5);
}
  where
    zeroes : (k n : ℕ) → field_of k n 0 ≡ 0
    zeroes k n = rw (zero-div (2 ^ k)) (zero-mod (2 ^ n))

    holder_none : {f : ℕ} → f ≡ 0 → HolderIs f (λ q. false)
    holder_none z = record { named = λ q e. absurd (omega arith); claims_it = λ q e. absurd (false≢true e) }

pub locks_start : (n : ℕ) → LocksOk n (replicate n 0) (λ i q m. false)
locks_start n = record { as_many = length-replicate n 0; each = λ i l. rw (get_or-replicate {A = ℕ} n i 0 0 l) word_zero }

module _ {n : ℕ} {locks : List ℕ} {h : ℕ → ℕ → Mode → Bool} (ok : LocksOk n locks h) (i : ℕ) (l : i < n) where
  -- One word is written, and what is held of the others is as before.
  pub locks_set : (w : ℕ) (h' : ℕ → ℕ → Mode → Bool) → WordOk w (h' i) → ((i' : ℕ) → i' ≢ i → (q : ℕ) (m : Mode) → h' i' q m ≡ h i' q m)
      → LocksOk n (set locks i w) h'
  locks_set w h' at rest = record { as_many = length-set locks i w ∙ ok.as_many; each = λ i' l'. word (ℕ_discrete i' i) l' }
    where
      word : {i' : ℕ} → Dec (i' ≡ i) → i' < n → WordOk (get_or (set locks i w) i' 0) (h' i')
      word (yes s) l' = rw (s, get_or-set_same locks i w 0 (rw ok.as_many l)) at
      word {i'} (no d) l' = rw (get_or-set_other locks i i' w 0 d) (word_same (rest i' d) (ok.each i' l'))

  pub locks_granted : (q : ℕ) (m : Mode) → permits (get_or locks i 0) m ≡ true → q < 16
      → LocksOk n (set locks i (granted_word (get_or locks i 0) q m)) (λ i' q' m'. h i' q' m' || (eqb i' i && eqb q' q && same_mode m' m))
  locks_granted q m p k =
      locks_set _ _ (word_same (λ q' m'. rw (eq-eqb i i refl)) (word_granted (ok.each i l) q m p k)) (λ i' d q' m'. rw (ne_eqb i' i d) (or-false _))

  pub locks_released : (q : ℕ) (m : Mode) → h i q m ≡ true → q < 16
      → LocksOk n (set locks i (released_word (get_or locks i 0) q m)) (λ i' q' m'. h i' q' m' && not (eqb i' i && eqb q' q && same_mode m' m))
  locks_released q m e k =
      locks_set _ _ (word_same (λ q' m'. rw (eq-eqb i i refl)) (word_released (ok.each i l) q m e k)) (λ i' d q' m'. rw (ne_eqb i' i d) (and-true _))

  pub locks_turned : (q : ℕ) → h i q Exclusive ≡ true → q < 16
      → LocksOk n (set locks i (turned_selective (get_or locks i 0) q))
      (λ i' q' m'. (h i' q' m' && not (eqb i' i && eqb q' q && same_mode m' Exclusive)) || (eqb i' i && eqb q' q && same_mode m' Selective))
  locks_turned q e k =
      locks_set _ _ (word_same (λ q' m'. rw (eq-eqb i i refl)) (word_turned (ok.each i l) q e k))
      (λ i' d q' m'. rw (ne_eqb i' i d) (or-false _ ∙ and-true _))

-- ---- The claims of a row of parties

-- A record that changes changes the claims of its party and of no other.
pub claimed_set : (r : Root) (ps : List Party) (q : ℕ) (p : Party) → q < length ps → (i q' : ℕ) (m : Mode)
    → claimed r (set ps q p) i q' m ≡ cond (eqb q' q) (is_claimed (claims r p) i m) (claimed r ps i q' m)
claimed_set r ps q p l i q' m = go (ℕ_discrete q' q)
  where
    go : Dec (q' ≡ q) → claimed r (set ps q p) i q' m ≡ cond (eqb q' q) (is_claimed (claims r p) i m) (claimed r ps i q' m)
    go (yes s) = rw (s, eq-eqb q q refl, get_or-set_same ps q p idle l)
    go (no d) = rw (ne_eqb q' q d, get_or-set_other ps q q' p idle d)

-- The locks held do not depend on the root.
pub claims_root : (r r' : Root) (p : Party) → claims r' p ≡ claims r p
unfolding claims
claims_root r r' p = refl

pub claimed_root : (r r' : Root) (ps : List Party) (i q : ℕ) (m : Mode) → claimed r' ps i q m ≡ claimed r ps i q m
claimed_root r r' ps i q m = rw (claims_root r r' (get_or ps q idle))

pub locks_root : {n : ℕ} {locks : List ℕ} (r r' : Root) (ps : List Party) → LocksOk n locks (claimed r ps) → LocksOk n locks (claimed r' ps)
locks_root r r' ps ok = locks_same (claimed_root r r' ps) ok

-- Words that say what the other parties hold and what party q's new record says.
pub locks_move : {n : ℕ} {locks : List ℕ} {h : ℕ → ℕ → Mode → Bool} (r : Root) (ps : List Party) (q : ℕ) (p : Party) → q < length ps → LocksOk n locks h
    → ((i q' : ℕ) (m : Mode) → h i q' m ≡ cond (eqb q' q) (is_claimed (claims r p) i m) (claimed r ps i q' m)) → LocksOk n locks (claimed r (set ps q p))
locks_move r ps q p l ok e = locks_same (λ i q' m. claimed_set r ps q p l i q' m ∙ sym (e i q' m)) ok

-- Words that stay, where the record changes and its claims do not.
pub locks_stay : {n : ℕ} {locks : List ℕ} (r : Root) (ps : List Party) (q : ℕ) (p : Party) → q < length ps → claims r p ≡ claims r (get_or ps q idle)
    → LocksOk n locks (claimed r ps) → LocksOk n locks (claimed r (set ps q p))
locks_stay r ps q p l e ok = locks_move r ps q p l ok (λ i q' m. go i q' m (ℕ_discrete q' q))
  where
    go : (i q' : ℕ) (m : Mode) → Dec (q' ≡ q) → claimed r ps i q' m ≡ cond (eqb q' q) (is_claimed (claims r p) i m) (claimed r ps i q' m)
    go i q' m (yes s) = rw (s, eq-eqb q q refl, e)
    go i q' m (no d) = rw (ne_eqb q' q d)
