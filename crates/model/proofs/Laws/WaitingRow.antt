-- Laws of the waiting row.
-- Main statements: Front, front (of those who wait for a lock, the first stands behind nobody); RowIs (a row as its
-- parties, each plus one, and zeros) with row-joins, row-leaves, row_unique; RowOk (what the invariant says of the row)
-- with row-waits, row_moves, row_stays (the row after a call); below_many (distinct numbers below n are at most n).
use mathlib.Core.Path.{◌≡◌, refl, sym, ap, ◌∙◌, subst}
use mathlib.Core.Logic.{◌≢◌, ◌⊎◌, inl, inr}
use mathlib.Core.Bool.{Bool, true, false, cond, not, ◌&&◌, ◌||◌}
use mathlib.Core.List.{List, [], ◌∷◌, ◌++◌}
use mathlib.Core.Option.{Option, none, some}
use Prim.Native.Nat.{ℕ, zero, suc, ◌+◌, ◌-◌, ◌≤◌, ◌<◌}
use native.Mathlib.Omega.{arith}
use lib.ListN.{length, drop, get_or}
use lib.Dec.{eqb, ltb}
use Rattle.model.specs.declared.Root.{Root}
use Rattle.model.specs.declared.Party.{Party}
use Rattle.model.specs.Records.{idle}
use Rattle.model.specs.LockWords.{Claim, table_one}
use Rattle.model.specs.FreeList.{is_among}
use Rattle.model.specs.Steps.Dispatch.{has_step}
use Rattle.model.specs.WaitingRow.{requests, is_some, waiters_in, all_zero, none_twice, all_request, row_sound, conflicts, one_before, behind_for, stands_behind, appended, row_with, row_without}
use Rattle.model.proofs.Laws.Lists.{Told, holds, fails, tell, Cmp, same, diff, cmp, cond_ind, and_both, left_fails, or_either, or_neither, left_or, right_or, both-and, neither_or, cond-true, cond-false, not-true, not-both, among_append, false≢true, eqb-true, eqb-false, eqb_same, eqb-diff, ltb-true, lt-ltb}

-- ---- The first who waits for a lock

module _ (r : Root) (ps : List Party) where
  abbrev asked : ℕ → Option Claim
  asked j = requests r (get_or ps j idle)

  -- One of the list requests a lock on the word, and no conflicting request of the list came before its own.
  pub record Front (w : ℕ) (qs : List ℕ) : Type 0 where
    pub number : ℕ
    pub waits : is_among number qs ≡ true
    pub lock : Claim
    pub wanted : asked number ≡ some lock
    pub word= : lock.word ≡ w
    pub unhindered : one_before r ps number lock qs ≡ false

  -- A request for another word conflicts with none.
  other_word : (d c : Claim) → d.word ≢ c.word → conflicts (some d) c ≡ false
  unfolding conflicts
  other_word d c n = left_fails (not (table_one c.mode d.mode)) (eqb-diff d.word c.word n)

  -- One in front of a list that does not conflict.
  past : (w j : ℕ) (js : List ℕ) (f : Front w js) → conflicts (asked j) f.lock ≡ false → Front w (j ∷ js)
  unfolding one_before is_among
  past w j js f n = record {
    number = f.number;
    waits = right_or (eqb j f.number) f.waits;
    lock = f.lock;
    wanted = f.wanted;
    word= = f.word=;
    unhindered = cond_ind (λ (t : Bool). t ≡ false) (eqb j f.number) _ _ (λ _. refl) (λ _. rw (n, f.unhindered) refl);
  }

  conflicts_word : (d c : Claim) → conflicts (some d) c ≡ true → d.word ≡ c.word
  unfolding conflicts
  conflicts_word d c e = eqb-true d.word c.word (and_both (eqb d.word c.word) (not (table_one c.mode d.mode)) e).0

  pub front : (q : ℕ) (c : Claim) (qs : List ℕ) → one_before r ps q c qs ≡ true → Front c.word qs
  unfolding one_before is_among conflicts
  front q c [] e = absurd (false≢true e)
  front q c (j ∷ js) e = go (tell (eqb j q)) (λ h. front q c js h)
    where
      here : (d : Claim) → asked j ≡ some d → d.word ≡ c.word → Front c.word (j ∷ js)
      here d a w = record {
        number = j;
        waits = left_or (is_among j js) (eqb_same j j refl);
        lock = d;
        wanted = a;
        word= = w;
        unhindered = rw (eqb_same j j refl) refl;
      }

      by_want : (o : Option Claim) → asked j ≡ o → (conflicts o c ≡ true) ⊎ (one_before r ps q c js ≡ true) → (one_before r ps q c js ≡ true → Front c.word js) → Front c.word (j ∷ js)
      by_want none a (inl h) ih = absurd (false≢true h)
      by_want none a (inr h) ih = let f = ih h in past c.word j js f (rw a refl)
      by_want (some d) a (inl h) ih = here d a (conflicts_word d c h)
      by_want (some d) a (inr h) ih = pick (cmp d.word c.word)
        where
          pick : Cmp d.word c.word → Front c.word (j ∷ js)
          pick (same w) = here d a w
          pick (diff n) = let f = ih h in past c.word j js f (rw a (other_word d f.lock (λ s. n (s ∙ f.word=))))

      go : Told (eqb j q) → (one_before r ps q c js ≡ true → Front c.word js) → Front c.word (j ∷ js)
      go (holds t) ih = absurd (false≢true (rw t at e))
      go (fails t) ih = by_want (asked j) refl (or_either (conflicts (asked j) c) (one_before r ps q c js) (rw t at e)) ih

-- ---- A row as its parties

-- The row has the parties qs, each plus one, and then zeros alone.
abbrev pub RowIs : List ℕ → List ℕ → Type 0
RowIs row [] = all_zero row ≡ true
RowIs [] (q ∷ qs) = ⊥
RowIs (x ∷ xs) (q ∷ qs) = (x ≡ q + 1) × RowIs xs qs

zero-first : (x : ℕ) (xs : List ℕ) → all_zero (x ∷ xs) ≡ true → (eqb x 0 ≡ true) × (all_zero xs ≡ true)
unfolding all_zero
zero-first x xs z = and_both (eqb x 0) (all_zero xs) z

-- A word that is a party plus one is no zero, and the other way round.
no_zero : (x q : ℕ) → x ≡ q + 1 → eqb x 0 ≡ false
no_zero x q e = eqb-diff x 0 (λ h. omega arith)

no_party : (x q : ℕ) → eqb x 0 ≡ true → eqb x (q + 1) ≡ false
no_party x q e = eqb-diff x (q + 1) (λ h. omega (arith, eqb-true x 0 e))

pub row_reads : (row qs : List ℕ) → RowIs row qs → waiters_in row ≡ qs
unfolding waiters_in
row_reads [] [] h = refl
row_reads (x ∷ xs) [] h = cond-true (eqb x 0) [] ((x - 1) ∷ waiters_in xs) (zero-first x xs h).0
row_reads [] (q ∷ qs) h = absurd h
row_reads (x ∷ xs) (q ∷ qs) h =
    let less : x - 1 ≡ q = omega (arith, h.0) in
    cond-false (eqb x 0) [] ((x - 1) ∷ waiters_in xs) (no_zero x q h.0)
    ∙ ap (λ (n : ℕ). n ∷ waiters_in xs) less ∙ ap (λ (ys : List ℕ). q ∷ ys) (row_reads xs qs h.1)

row_zeros : (row qs : List ℕ) → RowIs row qs → all_zero (drop (length qs) row) ≡ true
row_zeros row [] h = h
row_zeros [] (q ∷ qs) h = absurd h
row_zeros (x ∷ xs) (q ∷ qs) h = row_zeros xs qs h.1

pub is_row : (row : List ℕ) → all_zero (drop (length (waiters_in row)) row) ≡ true → RowIs row (waiters_in row)
unfolding waiters_in
is_row [] z = z
is_row (x ∷ xs) z = go (cmp x 0) (λ h. is_row xs h)
  where
    go : Cmp x 0 → (all_zero (drop (length (waiters_in xs)) xs) ≡ true → RowIs xs (waiters_in xs)) → RowIs (x ∷ xs) (waiters_in (x ∷ xs))
    go (same e) ih =
        let w : waiters_in (x ∷ xs) ≡ [] = cond-true (eqb x 0) [] ((x - 1) ∷ waiters_in xs) (eqb_same x 0 e) in
        let z' : all_zero (x ∷ xs) ≡ true = subst (λ (qs : List ℕ). all_zero (drop (length qs) (x ∷ xs)) ≡ true) w z in
        subst (RowIs (x ∷ xs)) (sym w) z'
    go (diff n) ih =
        let w : waiters_in (x ∷ xs) ≡ (x - 1) ∷ waiters_in xs = cond-false (eqb x 0) [] ((x - 1) ∷ waiters_in xs) (eqb-diff x 0 n) in
        let z' : all_zero (drop (length (waiters_in xs)) xs) ≡ true = subst (λ (qs : List ℕ). all_zero (drop (length qs) (x ∷ xs)) ≡ true) w z in
        let e : x ≡ x - 1 + 1 = omega (arith, n) in
        subst (RowIs (x ∷ xs)) (sym w) (e, ih z')

-- Two rows of the same parties and the same length are one.
pub row_unique : (row other qs : List ℕ) → RowIs row qs → RowIs other qs → length row ≡ length other → row ≡ other
row_unique [] [] qs h k l = refl
row_unique [] (y ∷ ys) qs h k l = absurd (omega (arith, l))
row_unique (x ∷ xs) [] qs h k l = absurd (omega (arith, l))
row_unique (x ∷ xs) (y ∷ ys) [] h k l =
    let a = zero-first x xs h in
    let b = zero-first y ys k in
    let e : x ≡ y = omega (arith, eqb-true x 0 a.0, eqb-true y 0 b.0) in
    ap (λ (n : ℕ). n ∷ xs) e ∙ ap (λ (zs : List ℕ). y ∷ zs) (row_unique xs ys [] a.1 b.1 (omega (arith, l)))
row_unique (x ∷ xs) (y ∷ ys) (q ∷ qs) h k l =
    ap (λ (n : ℕ). n ∷ xs) (h.0 ∙ sym k.0) ∙ ap (λ (zs : List ℕ). y ∷ zs) (row_unique xs ys qs h.1 k.1 (omega (arith, l)))

-- A party is in the row where it is among the parties.
pub row_among : (q : ℕ) (row qs : List ℕ) → RowIs row qs → is_among (q + 1) row ≡ is_among q qs
unfolding is_among
row_among q [] [] h = refl
row_among q (x ∷ xs) [] h = let z = zero-first x xs h in rw (no_party x q z.0) (row_among q xs [] z.1)
row_among q [] (p ∷ qs) h = absurd h
row_among q (x ∷ xs) (p ∷ qs) h = go (cmp p q) (row_among q xs qs h.1)
  where
    go : Cmp p q → is_among (q + 1) xs ≡ is_among q qs → (eqb x (q + 1) || is_among (q + 1) xs) ≡ (eqb p q || is_among q qs)
    go (same e) ih = rw (eqb_same x (q + 1) (omega (arith, h.0, e)), eqb_same p q e) refl
    go (diff n) ih = rw (eqb-diff x (q + 1) (λ e. n (omega (arith, h.0, e))), eqb-diff p q n) ih

-- ---- A party joins

pub row-joins : (q : ℕ) (row qs : List ℕ) → RowIs row qs → length qs < length row → RowIs (appended (q + 1) row) (qs ++ (q ∷ []))
unfolding appended
row-joins q [] [] h l = absurd (omega (arith, l))
row-joins q (x ∷ xs) [] h l = let z = zero-first x xs h in rw z.0 (refl, z.1)
row-joins q [] (p ∷ qs) h l = absurd h
row-joins q (x ∷ xs) (p ∷ qs) h l = rw (no_zero x p h.0) (h.0, row-joins q xs qs h.1 (omega (arith, l)))

length-appended : (w : ℕ) (row : List ℕ) → length (appended w row) ≡ length row
unfolding appended
length-appended w [] = refl
length-appended w (x ∷ xs) = go (eqb x 0) (length-appended w xs)
  where
    go : (t : Bool) → length (appended w xs) ≡ length xs → length (cond t (w ∷ xs) (x ∷ appended w xs)) ≡ length (x ∷ xs)
    go true ih = refl
    go false ih = ap suc ih

-- ---- A party leaves

-- The parties without q.
unfoldable pub left_of : ℕ → List ℕ → List ℕ
left_of q [] = []
left_of q (x ∷ xs) = let rest = left_of q xs in cond (eqb x q) xs (x ∷ rest)

zero_last : (row qs : List ℕ) → RowIs row qs → RowIs (row ++ (0 ∷ [])) qs
unfolding all_zero
zero_last [] [] h = refl
zero_last (x ∷ xs) [] h = let z = zero-first x xs h in both-and z.0 (zero_last xs [] z.1)
zero_last [] (q ∷ qs) h = absurd h
zero_last (x ∷ xs) (q ∷ qs) h = (h.0, zero_last xs qs h.1)

pub row-leaves : (q : ℕ) (row qs : List ℕ) → RowIs row qs → RowIs (row_without q row) (left_of q qs)
unfolding row_without left_of all_zero
row-leaves q [] [] h = refl
row-leaves q (x ∷ xs) [] h = let z = zero-first x xs h in rw (no_party x q z.0) (both-and z.0 (row-leaves q xs [] z.1))
row-leaves q [] (p ∷ qs) h = absurd h
row-leaves q (x ∷ xs) (p ∷ qs) h = go (cmp p q) (row-leaves q xs qs h.1)
  where
    go : Cmp p q → RowIs (row_without q xs) (left_of q qs) → RowIs (cond (eqb x (q + 1)) (xs ++ (0 ∷ [])) (x ∷ row_without q xs)) (cond (eqb p q) qs (p ∷ left_of q qs))
    go (same e) ih = rw (eqb_same x (q + 1) (omega (arith, h.0, e)), eqb_same p q e) (zero_last xs qs h.1)
    go (diff n) ih = rw (eqb-diff x (q + 1) (λ e. n (omega (arith, h.0, e))), eqb-diff p q n) (h.0, ih)

length-zero_last : (row : List ℕ) → length (row ++ (0 ∷ [])) ≡ suc (length row)
length-zero_last [] = refl
length-zero_last (x ∷ xs) = ap suc (length-zero_last xs)

pub length_without : (q : ℕ) (row : List ℕ) → length (row_without q row) ≡ length row
unfolding row_without
length_without q [] = refl
length_without q (x ∷ xs) = go (eqb x (q + 1)) (length_without q xs)
  where
    go : (t : Bool) → length (row_without q xs) ≡ length xs → length (cond t (xs ++ (0 ∷ [])) (x ∷ row_without q xs)) ≡ length (x ∷ xs)
    go true ih = length-zero_last xs
    go false ih = ap suc ih

-- ---- Lists without repeats

once_cons : (x : ℕ) (xs : List ℕ) → none_twice (x ∷ xs) ≡ true → (is_among x xs ≡ false) × (none_twice xs ≡ true)
unfolding none_twice
once_cons x xs h = let k = and_both (not (is_among x xs)) (none_twice xs) h in (not-true (is_among x xs) k.0, k.1)

cons_once : (x : ℕ) (xs : List ℕ) → is_among x xs ≡ false → none_twice xs ≡ true → none_twice (x ∷ xs) ≡ true
unfolding none_twice
cons_once x xs a h = both-and (ap not a) h

pub left_absent : (q : ℕ) (qs : List ℕ) → is_among q qs ≡ false → left_of q qs ≡ qs
unfolding left_of is_among
left_absent q [] n = refl
left_absent q (x ∷ xs) n =
    let k = or_neither (eqb x q) (is_among q xs) n in
    cond-false (eqb x q) xs (x ∷ left_of q xs) k.0 ∙ ap (λ (ys : List ℕ). x ∷ ys) (left_absent q xs k.1)

pub left_gone : (q : ℕ) (qs : List ℕ) → none_twice qs ≡ true → is_among q (left_of q qs) ≡ false
unfolding left_of is_among
left_gone q [] h = refl
left_gone q (x ∷ xs) h = go (cmp x q) (once_cons x xs h) (λ k. left_gone q xs k)
  where
    go : Cmp x q → (is_among x xs ≡ false) × (none_twice xs ≡ true) → (none_twice xs ≡ true → is_among q (left_of q xs) ≡ false) → is_among q (cond (eqb x q) xs (x ∷ left_of q xs)) ≡ false
    go (same e) k ih = rw (eqb_same x q e) (subst (λ (y : ℕ). is_among y xs ≡ false) e k.0)
    go (diff n) k ih = rw (eqb-diff x q n) (neither_or (eqb-diff x q n) (ih k.1))

pub left_other : (q j : ℕ) (qs : List ℕ) → j ≢ q → is_among j (left_of q qs) ≡ is_among j qs
unfolding left_of is_among
left_other q j [] n = refl
left_other q j (x ∷ xs) n = go (cmp x q) (left_other q j xs n)
  where
    go : Cmp x q → is_among j (left_of q xs) ≡ is_among j xs → is_among j (cond (eqb x q) xs (x ∷ left_of q xs)) ≡ (eqb x j || is_among j xs)
    go (same e) ih = rw (eqb_same x q e, eqb-diff x j (λ h. n (sym h ∙ e))) refl
    go (diff d) ih = rw (eqb-diff x q d) (ap (λ (t : Bool). eqb x j || t) ih)

pub left_among : (q j : ℕ) (qs : List ℕ) → is_among j (left_of q qs) ≡ true → is_among j qs ≡ true
unfolding left_of is_among
left_among q j [] h = h
left_among q j (x ∷ xs) h = go (tell (eqb x q)) (λ k. left_among q j xs k)
  where
    from : (eqb x j ≡ true) ⊎ (is_among j (left_of q xs) ≡ true) → (is_among j (left_of q xs) ≡ true → is_among j xs ≡ true) → (eqb x j || is_among j xs) ≡ true
    from (inl e) ih = left_or (is_among j xs) e
    from (inr e) ih = right_or (eqb x j) (ih e)

    go : Told (eqb x q) → (is_among j (left_of q xs) ≡ true → is_among j xs ≡ true) → (eqb x j || is_among j xs) ≡ true
    go (holds t) ih = right_or (eqb x j) (rw t at h)
    go (fails t) ih = from (or_either (eqb x j) (is_among j (left_of q xs)) (rw t at h)) ih

pub once_left : (q : ℕ) (qs : List ℕ) → none_twice qs ≡ true → none_twice (left_of q qs) ≡ true
unfolding left_of
once_left q [] h = h
once_left q (x ∷ xs) h = go (tell (eqb x q)) (once_cons x xs h) (λ k. once_left q xs k)
  where
    absent : is_among x xs ≡ false → Told (is_among x (left_of q xs)) → is_among x (left_of q xs) ≡ false
    absent a (holds t) = absurd (not-both (is_among x xs) (left_among q x xs t) a)
    absent a (fails t) = t

    go : Told (eqb x q) → (is_among x xs ≡ false) × (none_twice xs ≡ true) → (none_twice xs ≡ true → none_twice (left_of q xs) ≡ true) → none_twice (cond (eqb x q) xs (x ∷ left_of q xs)) ≡ true
    go (holds t) k ih = rw t k.1
    go (fails t) k ih = rw t (cons_once x (left_of q xs) (absent k.0 (tell (is_among x (left_of q xs)))) (ih k.1))

pub once_joined : (q : ℕ) (qs : List ℕ) → is_among q qs ≡ false → none_twice qs ≡ true → none_twice (qs ++ (q ∷ [])) ≡ true
unfolding is_among none_twice
once_joined q [] a h = refl
once_joined q (x ∷ xs) a h =
    let k = once_cons x xs h in
    let n = or_neither (eqb x q) (is_among q xs) a in
    cons_once x (xs ++ (q ∷ [])) (among_append x xs (q ∷ []) ∙ neither_or k.0 (neither_or (eqb-diff q x (λ e. eqb-false x q n.0 (sym e))) refl)) (once_joined q xs n.1 k.1)

pub joined_among : (q j : ℕ) (qs : List ℕ) → is_among j (qs ++ (q ∷ [])) ≡ true → (is_among j qs ≡ true) ⊎ (j ≡ q)
unfolding is_among
joined_among q j qs h = go (or_either (is_among j qs) (is_among j (q ∷ [])) (sym (among_append j qs (q ∷ [])) ∙ h))
  where
    from : (eqb q j ≡ true) ⊎ (◌≡◌ {A = Bool} false true) → (is_among j qs ≡ true) ⊎ (j ≡ q)
    from (inl e) = inr (sym (eqb-true q j e))
    from (inr e) = absurd (false≢true e)

    go : (is_among j qs ≡ true) ⊎ (is_among j (q ∷ []) ≡ true) → (is_among j qs ≡ true) ⊎ (j ≡ q)
    go (inl e) = inl e
    go (inr e) = from (or_either (eqb q j) false e)

pub joined-left : (q : ℕ) (qs : List ℕ) → is_among q qs ≡ false → left_of q (qs ++ (q ∷ [])) ≡ qs
unfolding left_of is_among
joined-left q [] a = cond-true (eqb q q) [] (q ∷ []) (eqb_same q q refl)
joined-left q (x ∷ xs) a =
    let n = or_neither (eqb x q) (is_among q xs) a in
    cond-false (eqb x q) (xs ++ (q ∷ [])) (x ∷ left_of q (xs ++ (q ∷ []))) n.0 ∙ ap (λ (ys : List ℕ). x ∷ ys) (joined-left q xs n.1)

-- Distinct numbers below n are at most n.
length-left : (q : ℕ) (qs : List ℕ) → is_among q qs ≡ true → suc (length (left_of q qs)) ≡ length qs
unfolding left_of is_among
length-left q [] h = absurd (false≢true h)
length-left q (x ∷ xs) h = go (tell (eqb x q)) (λ k. length-left q xs k)
  where
    go : Told (eqb x q) → (is_among q xs ≡ true → suc (length (left_of q xs)) ≡ length xs) → suc (length (cond (eqb x q) xs (x ∷ left_of q xs))) ≡ length (x ∷ xs)
    go (holds t) ih = rw t refl
    go (fails t) ih = rw t (ap suc (ih (rw t at h)))

pub below_many : (n : ℕ) (qs : List ℕ) → none_twice qs ≡ true → ((j : ℕ) → is_among j qs ≡ true → j < n) → length qs ≤ n
unfolding is_among
below_many zero [] once below = omega arith
below_many zero (x ∷ xs) once below = let l = below x (left_or (is_among x xs) (eqb_same x x refl)) in absurd (omega (arith, l))
below_many (suc n) qs once below = go (tell (is_among n qs)) (λ xs o b. below_many n xs o b)
  where
    go : Told (is_among n qs) → ((xs : List ℕ) → none_twice xs ≡ true → ((j : ℕ) → is_among j xs ≡ true → j < n) → length xs ≤ n) → length qs ≤ suc n
    go (holds t) ih =
        let l = ih (left_of n qs) (once_left n qs once)
        (λ j h. let a = below j (left_among n j qs h) in
        let d : j ≢ n = λ e. not-both (is_among j (left_of n qs)) h (subst (λ (y : ℕ). is_among y (left_of n qs) ≡ false) (sym e) (left_gone n qs once)) in
        omega (arith, a, d)) in
        omega (arith, l, length-left n qs t)
    go (fails t) ih =
        let l = ih qs once
        (λ j h. let a = below j h in
        let d : j ≢ n = λ e. not-both (is_among j qs) h (subst (λ (y : ℕ). is_among y qs ≡ false) (sym e) t) in
        omega (arith, a, d)) in
        omega (arith, l)

-- ---- All of them request a lock

pub record Asking (r : Root) (ps : List Party) (q : ℕ) : Type 0 where
  pub there : q < r.parties
  pub asks : is_some (requests r (get_or ps q idle)) ≡ true

module _ (r : Root) (ps : List Party) where
  pub asking_in : (qs : List ℕ) → all_request r ps qs ≡ true → (q : ℕ) → is_among q qs ≡ true → Asking r ps q
  unfolding all_request is_among
  asking_in [] a q h = absurd (false≢true h)
  asking_in (x ∷ xs) a q h = go (or_either (eqb x q) (is_among q xs) h) (λ k. asking_in xs two.1 q k)
    where
      two : (ltb x r.parties && is_some (requests r (get_or ps x idle)) ≡ true) × (all_request r ps xs ≡ true)
      two = and_both (ltb x r.parties && is_some (requests r (get_or ps x idle))) (all_request r ps xs) a

      one : (ltb x r.parties ≡ true) × (is_some (requests r (get_or ps x idle)) ≡ true)
      one = and_both (ltb x r.parties) (is_some (requests r (get_or ps x idle))) two.0

      go : (eqb x q ≡ true) ⊎ (is_among q xs ≡ true) → (is_among q xs ≡ true → Asking r ps q) → Asking r ps q
      go (inl e) ih = subst (Asking r ps) (eqb-true x q e) (record { there = ltb-true x r.parties one.0; asks = one.1 })
      go (inr e) ih = ih e

  pub asking_all : (qs : List ℕ) → ((q : ℕ) → is_among q qs ≡ true → Asking r ps q) → all_request r ps qs ≡ true
  unfolding all_request is_among
  asking_all [] f = refl
  asking_all (x ∷ xs) f =
      let k = f x (left_or (is_among x xs) (eqb_same x x refl)) in
      both-and (both-and (lt-ltb x r.parties k.there) k.asks) (asking_all xs (λ q h. f q (right_or (eqb x q) h)))

-- ---- What the invariant says of the row

pub record RowOk (r : Root) (ps : List Party) (row : List ℕ) : Type 0 where
  pub long : length row ≡ r.parties
  pub sound : row_sound r ps row ≡ true

-- The same, in its parts, with the parties qs.
pub record RowFor (r : Root) (ps : List Party) (row qs : List ℕ) : Type 0 where
  pub long : length row ≡ r.parties
  pub is : RowIs row qs
  pub once : none_twice qs ≡ true
  pub asking : (q : ℕ) → is_among q qs ≡ true → Asking r ps q

pub row_for : (r : Root) (ps : List Party) (row : List ℕ) → RowOk r ps row → RowFor r ps row (waiters_in row)
unfolding row_sound
row_for r ps row ok =
    let qs = waiters_in row in
    let two = and_both (all_zero (drop (length qs) row) && none_twice qs) (all_request r ps qs) ok.sound in
    let one = and_both (all_zero (drop (length qs) row)) (none_twice qs) two.0 in
    record { long = ok.long; is = is_row row one.0; once = one.1; asking = asking_in r ps qs two.1 }

pub row_ok : (r : Root) (ps : List Party) (row qs : List ℕ) → RowFor r ps row qs → RowOk r ps row
unfolding row_sound
row_ok r ps row qs f = record {
  long = f.long;
  sound = rw (row_reads row qs f.is) (both-and (both-and (row_zeros row qs f.is) f.once) (asking_all r ps qs f.asking));
}

-- ---- The row after a call

-- From root r and records ps to t and us: every party but q requests what it requested.
pub record AskSame (r t : Root) (ps us : List Party) (q : ℕ) : Type 0 where
  pub as_many : t.parties ≡ r.parties
  pub same_ask : (j : ℕ) → j ≢ q → j < r.parties → requests t (get_or us j idle) ≡ requests r (get_or ps j idle)

asking_same : (r t : Root) (ps us : List Party) (q : ℕ) → AskSame r t ps us q → (j : ℕ) → j ≢ q → Asking r ps j → Asking t us j
asking_same r t ps us q x j n a = record { there = subst (λ (k : ℕ). j < k) (sym x.as_many) a.there; asks = ap is_some (x.same_ask j n a.there) ∙ a.asks }

-- A party that requests a lock and waits: it joins, unless it is there.
pub waits_for : (r : Root) (ps : List Party) (row qs : List ℕ) (q : ℕ) → RowFor r ps row qs → is_among q qs ≡ false → Asking r ps q → RowFor r ps (appended (q + 1) row) (qs ++ (q ∷ []))
unfolding is_among
waits_for r ps row qs q f a k = record {
  long = length-appended (q + 1) row ∙ f.long;
  is = row-joins q row qs f.is room;
  once = once_joined q qs a f.once;
  asking = λ j h. go j (joined_among q j qs h);
}
  where
    go : (j : ℕ) → (is_among j qs ≡ true) ⊎ (j ≡ q) → Asking r ps j
    go j (inl e) = f.asking j e
    go j (inr e) = subst (Asking r ps) (sym e) k

    in_front_ok : (j : ℕ) → (eqb q j ≡ true) ⊎ (is_among j qs ≡ true) → j < r.parties
    in_front_ok j (inl e) = subst (λ (i : ℕ). i < r.parties) (eqb-true q j e) k.there
    in_front_ok j (inr e) = (f.asking j e).there

    room : length qs < length row
    room =
        let l = below_many r.parties (q ∷ qs) (cons_once q qs a f.once) (λ j h. in_front_ok j (or_either (eqb q j) (is_among j qs) h)) in
        omega (arith, l, f.long)

-- A party that joins or stays: the parties of the row then.
unfoldable pub joined_to : ℕ → List ℕ → List ℕ
joined_to q qs = cond (is_among q qs) qs (qs ++ (q ∷ []))

pub row_with_lem : (r : Root) (ps : List Party) (row qs : List ℕ) (q : ℕ) → RowFor r ps row qs → Asking r ps q → RowFor r ps (row_with q row) (joined_to q qs)
unfolding row_with joined_to
row_with_lem r ps row qs q f k = rw (row_among q row qs f.is) (go (tell (is_among q qs)))
  where
    go : Told (is_among q qs) → RowFor r ps (cond (is_among q qs) row (appended (q + 1) row)) (cond (is_among q qs) qs (qs ++ (q ∷ [])))
    go (holds t) = rw t f
    go (fails t) = rw t (waits_for r ps row qs q f t k)

pub row-waits : (r : Root) (ps : List Party) (row : List ℕ) (q : ℕ) → RowOk r ps row → Asking r ps q → RowOk r ps (row_with q row)
row-waits r ps row q ok k = row_ok r ps (row_with q row) (joined_to q (waiters_in row)) (row_with_lem r ps row (waiters_in row) q (row_for r ps row ok) k)

-- A party that leaves.
pub row_without_lem : (r t : Root) (ps us : List Party) (row qs : List ℕ) (q : ℕ) → RowFor r ps row qs → AskSame r t ps us q → RowFor t us (row_without q row) (left_of q qs)
row_without_lem r t ps us row qs q f x = record {
  long = length_without q row ∙ f.long ∙ sym x.as_many;
  is = row-leaves q row qs f.is;
  once = once_left q qs f.once;
  asking = λ j h. asking_same r t ps us q x j (λ e. not-both (is_among j (left_of q qs)) h (subst (λ (y : ℕ). is_among y (left_of q qs) ≡ false) (sym e) (left_gone q qs f.once))) (f.asking j (left_among q j qs h));
}

pub row_moves : (r t : Root) (ps us : List Party) (row : List ℕ) (q : ℕ) → RowOk r ps row → AskSame r t ps us q → RowOk t us (row_without q row)
row_moves r t ps us row q ok x = row_ok t us (row_without q row) (left_of q (waiters_in row)) (row_without_lem r t ps us row (waiters_in row) q (row_for r ps row ok) x)

-- A party that is not in the row.
pub row_kept : (r t : Root) (ps us : List Party) (row qs : List ℕ) (q : ℕ) → RowFor r ps row qs → is_among q qs ≡ false → AskSame r t ps us q → RowFor t us row qs
row_kept r t ps us row qs q f a x = record {
  long = f.long ∙ sym x.as_many;
  is = f.is;
  once = f.once;
  asking = λ j h. asking_same r t ps us q x j (λ e. not-both (is_among j qs) h (subst (λ (y : ℕ). is_among y qs ≡ false) (sym e) a)) (f.asking j h);
}

pub row_stays : (r t : Root) (ps us : List Party) (row : List ℕ) (q : ℕ) → RowOk r ps row → is_some (requests r (get_or ps q idle)) ≡ false → AskSame r t ps us q → RowOk t us row
row_stays r t ps us row q ok n x = row_ok t us row (waiters_in row) (row_kept r t ps us row (waiters_in row) q f (absent (tell (is_among q (waiters_in row)))) x)
  where
    f : RowFor r ps row (waiters_in row)
    f = row_for r ps row ok

    absent : Told (is_among q (waiters_in row)) → is_among q (waiters_in row) ≡ false
    absent (holds h) = absurd (not-both (is_some (requests r (get_or ps q idle))) (f.asking q h).asks n)
    absent (fails h) = h

-- ---- A row of zeros

pub row_clear_lem : (r : Root) (ps : List Party) (row : List ℕ) → length row ≡ r.parties → all_zero row ≡ true → RowOk r ps row
unfolding none_twice is_among
row_clear_lem r ps row l z = row_ok r ps row [] (record { long = l; is = z; once = refl; asking = λ q h. absurd (false≢true h) })

-- A party that joined and left leaves the row as one that left.
pub with_without : (r : Root) (ps : List Party) (row : List ℕ) (q : ℕ) → RowOk r ps row → Asking r ps q → row_without q (row_with q row) ≡ row_without q row
unfolding joined_to
with_without r ps row q ok k =
    let qs = waiters_in row in
    let f = row_for r ps row ok in
    let g = row_with_lem r ps row qs q f k in
    row_unique (row_without q (row_with q row)) (row_without q row) (left_of q qs)
    (subst (RowIs (row_without q (row_with q row))) (same_left (tell (is_among q qs))) (row-leaves q (row_with q row) (joined_to q qs) g.is))
    (row-leaves q row qs f.is)
    (length_without q (row_with q row) ∙ g.long ∙ sym f.long ∙ sym (length_without q row))
  where
    same_left : Told (is_among q (waiters_in row)) → left_of q (joined_to q (waiters_in row)) ≡ left_of q (waiters_in row)
    same_left (holds t) = rw t refl
    same_left (fails t) = rw t (joined-left q (waiters_in row) t ∙ sym (left_absent q (waiters_in row) t))

-- One that has left leaves it.
pub without_absent : (q : ℕ) (row qs : List ℕ) → RowIs row qs → is_among q qs ≡ false → row_without q row ≡ row
without_absent q row qs h a =
    row_unique (row_without q row) row qs (subst (RowIs (row_without q row)) (left_absent q qs a) (row-leaves q row qs h)) h (length_without q row)

pub without_twice : (r : Root) (ps : List Party) (row : List ℕ) (q : ℕ) → RowOk r ps row → row_without q (row_without q row) ≡ row_without q row
without_twice r ps row q ok =
    let f = row_for r ps row ok in
    without_absent q (row_without q row) (left_of q (waiters_in row)) (row-leaves q row (waiters_in row) f.is) (left_gone q (waiters_in row) f.once)

-- One that requests nothing is not in the row.
pub without_idle : (r : Root) (ps : List Party) (row : List ℕ) (q : ℕ) → RowOk r ps row → is_some (requests r (get_or ps q idle)) ≡ false → row_without q row ≡ row
without_idle r ps row q ok n = without_absent q row (waiters_in row) f.is (absent (tell (is_among q (waiters_in row))))
  where
    f : RowFor r ps row (waiters_in row)
    f = row_for r ps row ok

    absent : Told (is_among q (waiters_in row)) → is_among q (waiters_in row) ≡ false
    absent (holds h) = absurd (not-both (is_some (requests r (get_or ps q idle))) (f.asking q h).asks n)
    absent (fails h) = h

-- Where nobody requests a lock, the row is zero.
pub row_at_rest : (r : Root) (ps : List Party) (row : List ℕ) → RowOk r ps row → ((q : ℕ) → is_some (requests r (get_or ps q idle)) ≡ false) → all_zero row ≡ true
unfolding is_among
row_at_rest r ps row ok rests = go (waiters_in row) (row_for r ps row ok)
  where
    go : (qs : List ℕ) → RowFor r ps row qs → all_zero row ≡ true
    go [] f = f.is
    go (q ∷ qs) f = absurd (not-both (is_some (requests r (get_or ps q idle))) (f.asking q (left_or (is_among q qs) (eqb_same q q refl))).asks (rests q))

pub idle-asks-none : (r : Root) (p : Party) → p ≡ idle → is_some (requests r p) ≡ false
unfolding requests has_step is_some
idle-asks-none r p e = rw e refl

-- Where nobody else requests a lock, a party stands behind nobody.
pub alone_before_all : (r : Root) (ps : List Party) (row : List ℕ) (q : ℕ) → RowOk r ps row → ((j : ℕ) → j ≢ q → is_some (requests r (get_or ps j idle)) ≡ false) → stands_behind r ps row q ≡ false
unfolding stands_behind behind_for one_before is_among
alone_before_all r ps row q ok rests = go (requests r (get_or ps q idle))
  where
    from : (c : Claim) (qs : List ℕ) → RowFor r ps row qs → one_before r ps q c qs ≡ false
    from c [] f = refl
    from c (j ∷ js) f = by (cmp j q)
      where
        by : Cmp j q → one_before r ps q c (j ∷ js) ≡ false
        by (same e) = rw (eqb_same j q e) refl
        by (diff n) = absurd (not-both (is_some (requests r (get_or ps j idle))) (f.asking j (left_or (is_among j js) (eqb_same j j refl))).asks (rests j n))

    go : (o : Option Claim) → behind_for r ps row q o ≡ false
    go none = refl
    go (some c) = from c (waiters_in row) (row_for r ps row ok)
