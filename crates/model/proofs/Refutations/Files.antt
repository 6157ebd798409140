-- Files that are not consistent, on made-up memory: a chain that does not read as sound, a record in another chain than
-- its key's, a key in two chains, a local level that is not the chain's.
-- Main statements: unsound_file, strayed_record, doubled_key, raised_level.
use mathlib.Core.Path.{◌≡◌, refl, sym, ap, ◌∙◌}
use mathlib.Core.Bool.{Bool, true, false, cond, ◌||◌, false≢true}
use mathlib.Core.List.{List, [], ◌∷◌}
use Prim.Native.Nat.{ℕ, ◌+◌, ◌<◌}
use native.Mathlib.Omega.{arith}
use lib.Dec.{ltb, leb}
use Rattle.model.specs.Entries.{has_key}
use Rattle.model.specs.Addresses.{hash}
use Rattle.model.specs.Chains.{Checked, damaged, sound, Chain}
use Rattle.model.specs.Memory.{Memory}
use Rattle.model.specs.Consistency.{chains_with, Consistent}
use Rattle.model.proofs.Refutations.Memories.{root_of, bare}
use Rattle.model.proofs.Refutations.Opened.{opened}

-- A page with two records, at this local level.
abbrev pair : ℕ → ℕ → ℕ → List ℕ → List ℕ
pair level j k rest = level ∷ 2 ∷ 0 ∷ j ∷ 0 ∷ k ∷ 0 ∷ 0 ∷ 0 ∷ 0 ∷ 0 ∷ 0 ∷ 0 ∷ 0 ∷ 0 ∷ 0 ∷ rest

-- N = 2, b = 2, P = 2, no overflow page, one party at rest: two chains with two keys each. The mixed keys of 3 and 12
-- are even, those of 8 and 19 odd.
abbrev two : List ℕ → Memory
two ps = record { root = root_of 2 2 2 0 1 0 0 0 0; parties = []; locks = 0 ∷ 0 ∷ 0 ∷ []; pages = ps; waiting = 0 ∷ [] }

-- There are two chains at least, whatever x is.
first_inside : (ps : List ℕ) (f : Consistent (two ps)) → 0 < chains_with (two ps) f.split
unfolding opened
first_inside ps f = let two_more : 0 < 2 + f.split = omega arith in two_more

second_inside : (ps : List ℕ) (f : Consistent (two ps)) → 1 < chains_with (two ps) f.split
unfolding opened
second_inside ps f = let two_more : 1 < 2 + f.split = omega arith in two_more

-- What was read, where it was sound.
or_else : Chain → Checked Chain → Chain
or_else d damaged = d
or_else d (sound c) = c

is_sound : Checked Chain → Bool
is_sound damaged = false
is_sound (sound c) = true

-- Keys that do not ascend.
unsound_file : Consistent (two (pair 0 12 3 (pair 0 8 19 (bare [])))) → ⊥
unfolding opened is_sound
unsound_file f = false≢true (ap is_sound (f.reads 0 (first_inside _ f)))

-- 8 in chain 0.
strayed_record : Consistent (two (pair 0 3 8 (pair 0 12 19 (bare [])))) → ⊥
unfolding opened or_else
strayed_record f =
    let r = f.reads 0 (first_inside _ f) in
    let is = ap (or_else (f.chain 0)) r in
    let has : has_key 8 (f.chain 0).entries ≡ true = ap (λ (c : Chain). has_key 8 c.entries) (sym is) in
    let home : hash 2 (f.chain 0).level 8 ≡ 0 = f.homed 0 8 (first_inside _ f) has in
    let at : hash 2 0 8 ≡ 0 = ap (λ (c : Chain). hash 2 c.level 8) is ∙ home in
    let odd : ◌≡◌ {A = ℕ} 1 0 = at in omega arith

-- 3 in both.
doubled_key : Consistent (two (pair 0 3 12 (pair 0 3 19 (bare [])))) → ⊥
unfolding opened or_else
doubled_key f =
    let h = first_inside _ f in
    let l = second_inside _ f in
    let here : has_key 3 (f.chain 0).entries ≡ true = ap (λ (c : Chain). has_key 3 c.entries) (sym (ap (or_else (f.chain 0)) (f.reads 0 h))) in
    let there : has_key 3 (f.chain 1).entries ≡ true = ap (λ (c : Chain). has_key 3 c.entries) (sym (ap (or_else (f.chain 1)) (f.reads 1 l))) in
    let e : ◌≡◌ {A = ℕ} 0 1 = f.disjoint 0 1 3 h l here there in omega arith

-- Local level 1 on chain 1, at level 0 and next 0 with nobody restructuring.
raised_level : Consistent (two (pair 0 3 12 (pair 1 8 19 (bare [])))) → ⊥
unfolding opened or_else
raised_level f =
    let l = second_inside _ f in
    let none : f.split ≡ 0 = f.at_rest_lem (λ q. refl) in
    let is = ap (λ (c : Chain). c.level) (ap (or_else (f.chain 1)) (f.reads 1 l)) in
    let low : ◌≡◌ {A = ℕ} (cond (ltb 1 f.split || leb 2 1) 1 0) 0 = rw none refl in
    let e : ◌≡◌ {A = ℕ} 1 0 = is ∙ f.levels 1 l ∙ low in omega arith
