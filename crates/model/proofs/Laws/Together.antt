-- Lists of records, no key in two of them, joined into one.
-- Main statements: listed, listed_at, chains_listed (the records of a run of chains); Apart; setting_all (a key has in
-- the joined list what the list that has it says), setting_home, found_all;
-- ascends_all; chains_at_ok, on_chain, chains_apart (the chains of a file).
use mathlib.Core.Path.{◌≡◌, refl, sym, ap, ◌∙◌}
use mathlib.Core.Bool.{Bool, true, false, cond, false≢true}
use mathlib.Core.List.{List, [], ◌∷◌}
use mathlib.Core.Option.{some}
use Prim.Native.Nat.{ℕ, zero, suc, ◌+◌, ◌≤◌, ◌<◌}
use native.Mathlib.Omega.{arith}
use lib.ListN.{length, get_or, get_or-eq_default}
use Rattle.model.specs.declared.Root.{Root}
use Rattle.model.specs.declared.Entry.{Entry}
use Rattle.model.specs.Entries.{has_key, setting_in, ascending, joined_all}
use Rattle.model.specs.Chains.{chain_of, records_read, chains_from}
use Rattle.model.proofs.Laws.Lists.{Told, holds, fails, tell, Ord, lt, ge, ord, neither_or}
use Rattle.model.proofs.Laws.Entries.{setting_absent}
use Rattle.model.proofs.Laws.Joins.{has_joined, setting_joined, ascends_joined}
use Rattle.model.proofs.Laws.Walks.{read_ascends}

-- ---- The records of a run of chains

-- Those of the n chains from chain c on.
unfoldable pub listed : (ℕ → List Entry) → ℕ → ℕ → List (List Entry)
listed f zero c = []
listed f (suc n) c = f c ∷ listed f n (c + 1)

pub length-listed : (f : ℕ → List Entry) (n c : ℕ) → length (listed f n c) ≡ n
unfolding listed
length-listed f zero c = refl
length-listed f (suc n) c = ap suc (length-listed f n (c + 1))

pub listed_at : (f : ℕ → List Entry) (n c x : ℕ) → x < n → get_or (listed f n c) x [] ≡ f (c + x)
unfolding listed
listed_at f zero c x l = absurd (omega arith)
listed_at f (suc n) c zero l = ap f (omega arith)
listed_at f (suc n) c (suc x) l = listed_at f n (c + 1) x (omega arith) ∙ ap f (omega arith)

pub chains_listed : (r : Root) (ps : List ℕ) (n c : ℕ) → chains_from r ps n c ≡ listed (λ d. records_read (chain_of r ps d)) n c
unfolding chains_from listed
chains_listed r ps zero c = refl
chains_listed r ps (suc n) c = ap (λ (l : List (List Entry)). records_read (chain_of r ps c) ∷ l) (chains_listed r ps n (c + 1))

-- ---- No key in two of them

pub record Apart (ess : List (List Entry)) : Type 0 where
  pub ascends : (c : ℕ) → ascending (get_or ess c []) ≡ true
  pub once : (c d k : ℕ) → has_key k (get_or ess c []) ≡ true → has_key k (get_or ess d []) ≡ true → c ≡ d

apart_rest : (es : List Entry) (rest : List (List Entry)) → Apart (es ∷ rest) → Apart rest
apart_rest es rest a = record { ascends = λ c. a.ascends (suc c); once = λ c d k h j. let e = a.once (suc c) (suc d) k h j in omega (arith, e) }

-- A key that none of them has is not in the joined list.
pub none_all : (k : ℕ) (ess : List (List Entry)) → ((c : ℕ) → has_key k (get_or ess c []) ≡ false) → has_key k (joined_all ess) ≡ false
unfolding joined_all has_key
none_all k [] f = refl
none_all k (es ∷ rest) f = has_joined k es (joined_all rest) ∙ neither_or (f 0) (none_all k rest (λ c. f (suc c)))

first_apart : (es : List Entry) (rest : List (List Entry)) → Apart (es ∷ rest) → (k : ℕ) → has_key k es ≡ true → has_key k (joined_all rest) ≡ false
first_apart es rest a k h = none_all k rest (λ c. go c (tell (has_key k (get_or rest c []))))
  where
    go : (c : ℕ) → Told (has_key k (get_or rest c [])) → has_key k (get_or rest c []) ≡ false
    go c (holds t) = absurd (omega (arith, a.once 0 (suc c) k h t))
    go c (fails t) = t

first_or_rest : (es : List Entry) (rest : List (List Entry)) → Apart (es ∷ rest) → (k : ℕ)
    → setting_in k (joined_all (es ∷ rest)) ≡ cond (has_key k es) (setting_in k es) (setting_in k (joined_all rest))
unfolding joined_all
first_or_rest es rest a k = setting_joined k es (joined_all rest) (a.ascends 0) (first_apart es rest a)

-- A key has in the joined list what the list that has it says.
pub setting_all : (ess : List (List Entry)) → Apart ess → (c k : ℕ) → has_key k (get_or ess c []) ≡ true → setting_in k (joined_all ess) ≡ setting_in k (get_or ess c [])
unfolding has_key
setting_all [] a c k h = absurd (false≢true h)
setting_all (es ∷ rest) a zero k h = first_or_rest es rest a k ∙ rw h refl
setting_all (es ∷ rest) a (suc c) k h = first_or_rest es rest a k ∙ go (tell (has_key k es)) (setting_all rest (apart_rest es rest a) c k h)
  where
    go : Told (has_key k es) → setting_in k (joined_all rest) ≡ setting_in k (get_or rest c [])
        → cond (has_key k es) (setting_in k es) (setting_in k (joined_all rest)) ≡ setting_in k (get_or rest c [])
    go (holds t) ih = absurd (omega (arith, a.once 0 (suc c) k t h))
    go (fails t) ih = rw t ih

-- Where only list c can have a key, it has in the joined list what list c says.
pub setting_home : (ess : List (List Entry)) → Apart ess → (c k : ℕ) → ((d : ℕ) → has_key k (get_or ess d []) ≡ true → c ≡ d)
    → setting_in k (joined_all ess) ≡ setting_in k (get_or ess c [])
setting_home ess a c k home = go (tell (has_key k (get_or ess c [])))
  where
    other : has_key k (get_or ess c []) ≡ false → (d : ℕ) → Told (has_key k (get_or ess d [])) → has_key k (get_or ess d []) ≡ false
    other h d (holds t) = ap (λ (x : ℕ). has_key k (get_or ess x [])) (sym (home d t)) ∙ h
    other h d (fails t) = t

    go : Told (has_key k (get_or ess c [])) → setting_in k (joined_all ess) ≡ setting_in k (get_or ess c [])
    go (holds h) = setting_all ess a c k h
    go (fails h) = setting_absent k (joined_all ess) (none_all k ess (λ d. other h d (tell (has_key k (get_or ess d []))))) ∙ sym (setting_absent k (get_or ess c []) h)

-- A setting of the joined list is that of one of them.
pub record FoundAt (ess : List (List Entry)) (k x : ℕ) : Type 0 where
  pub number : ℕ
  pub inside : number < length ess
  pub has : setting_in k (get_or ess number []) ≡ some x

pub found_all : (ess : List (List Entry)) → Apart ess → (k x : ℕ) → setting_in k (joined_all ess) ≡ some x → FoundAt ess k x
unfolding joined_all setting_in
found_all [] a k x h = let z : ◌≡◌ {A = ℕ} 0 1 = cc in absurd (omega arith)
found_all (es ∷ rest) a k x h = go (tell (has_key k es)) (found_all rest (apart_rest es rest a) k x)
  where
    go : Told (has_key k es) → (setting_in k (joined_all rest) ≡ some x → FoundAt rest k x) → FoundAt (es ∷ rest) k x
    go (holds t) ih = record { number = 0; inside = omega arith; has = sym (setting_all (es ∷ rest) a 0 k t) ∙ h }
    go (fails t) ih =
        let f = ih (sym (ap (λ (u : Bool). cond u (setting_in k es) (setting_in k (joined_all rest))) t) ∙ sym (first_or_rest es rest a k) ∙ h) in
        record { number = suc f.number; inside = let l = f.inside in omega (arith, l); has = f.has }

-- The joined list ascends.
pub ascends_all : (ess : List (List Entry)) → Apart ess → ascending (joined_all ess) ≡ true
unfolding joined_all ascending
ascends_all [] a = refl
ascends_all (es ∷ rest) a = ascends_joined es (joined_all rest) (a.ascends 0) (ascends_all rest (apart_rest es rest a)) (first_apart es rest a)

-- ---- The chains of a file

module _ (r : Root) (ps : List ℕ) (n : ℕ) where
  pub chains_at_ok : (c : ℕ) → c < n → get_or (chains_from r ps n 0) c [] ≡ records_read (chain_of r ps c)
  chains_at_ok c l =
      ap (λ (x : List (List Entry)). get_or x c []) (chains_listed r ps n 0) ∙ listed_at (λ d. records_read (chain_of r ps d)) n 0 c l
      ∙ ap (λ (d : ℕ). records_read (chain_of r ps d)) (omega arith)

  pub length_chains : length (chains_from r ps n 0) ≡ n
  length_chains = ap length (chains_listed r ps n 0) ∙ length-listed (λ d. records_read (chain_of r ps d)) n 0

  beyond_chains : (c : ℕ) → n ≤ c → get_or (chains_from r ps n 0) c [] ≡ []
  beyond_chains c h = get_or-eq_default (chains_from r ps n 0) [] (omega (arith, length_chains))

  -- A key of one of the lists is on that chain.
  pub on_chain : (c k : ℕ) → has_key k (get_or (chains_from r ps n 0) c []) ≡ true → (c < n) × (has_key k (records_read (chain_of r ps c)) ≡ true)
  unfolding has_key
  on_chain c k t = go (ord c n)
    where
      go : Ord c n → (c < n) × (has_key k (records_read (chain_of r ps c)) ≡ true)
      go (lt l _) = (l, rw (chains_at_ok c l) at t)
      go (ge h _) = absurd (false≢true (rw (beyond_chains c h) at t))

  chain_ascends : (c : ℕ) → Ord c n → ascending (get_or (chains_from r ps n 0) c []) ≡ true
  unfolding ascending
  chain_ascends c (lt l _) = rw (chains_at_ok c l) (read_ascends r ps c)
  chain_ascends c (ge h _) = rw (beyond_chains c h) refl

  pub chains_apart :
      ((c d k : ℕ) → c < n → d < n → has_key k (records_read (chain_of r ps c)) ≡ true → has_key k (records_read (chain_of r ps d)) ≡ true → c ≡ d) → Apart (chains_from r ps n 0)
  chains_apart once = record {
    ascends = λ c. chain_ascends c (ord c n);
    once = λ c d k t u. let f = on_chain c k t in let g = on_chain d k u in once c d k f.0 g.0 f.1 g.1;
  }
