-- The ledger of locks held, which specs/Holds.antt derives from the calls, beside the locks that the parties' records
-- claim.
-- Main statements: hold_count (how often a lock stands in a ledger); count_without_all, count_with (a ledger after
-- locks are given up, after one is granted); LedgerOk (by the ledger each party holds what its record claims);
-- permitted-is (Table I against the ledger is Table I against the lock word).
use mathlib.Core.Path.{◌≡◌, refl, sym, ap, ◌∙◌}
use mathlib.Core.Logic.{◌≢◌}
use mathlib.Core.Bool.{Bool, true, false, cond, not, ◌&&◌, ◌||◌}
use mathlib.Core.List.{List, [], ◌∷◌}
use mathlib.Core.Option.{Option, none, some}
use Prim.Native.Nat.{ℕ, ◌+◌, ◌-◌, ◌≤◌, ◌<◌}
use native.Mathlib.Omega.{arith}
use lib.ListN.{length, get_or, set}
use lib.Dec.{eqb}
use Rattle.model.specs.declared.Root.{Root}
use Rattle.model.specs.declared.Party.{Party}
use Rattle.model.specs.declared.Mode.{Mode}
use Rattle.model.specs.declared.Mode.TheVariants.{Read, Selective, Exclusive}
use Rattle.model.specs.LockWords.{Claim, claim, permits, table_one}
use Rattle.model.specs.Memory.{party_at}
use Rattle.model.specs.Holds.{Hold, hold, permitted, same_mode, is_hold, without_one, without_all, with_held}
use Rattle.model.proofs.Laws.Lists.{cond_ind, Told, holds, fails, tell, Cmp, same, diff, cmp, and_both, both-and, left_or, right_or, false≢true, eqb-true, eqb_same, eqb-diff}
use Rattle.model.proofs.Laws.Booleans.{eq_of_iff}
use Rattle.model.specs.Claims.{claims}
use Rattle.model.proofs.Invariant.Claims.{is_claimed, claimed, bit, LocksOk}
use Rattle.model.proofs.Invariant.LockMoves.{mode_same, claims_root, table-true, permits-true}
use Rattle.model.proofs.Effects.Kept.{row_same, row_other}
use Rattle.model.proofs.Exits.Trades.{is_claim, claim_count, listed}

-- ---- One lock, one hold

same_mode_lem : (a b : Mode) → same_mode a b ≡ true → a ≡ b
unfolding same_mode
same_mode_lem Read Read e = refl
same_mode_lem Read Selective e = absurd (false≢true e)
same_mode_lem Read Exclusive e = absurd (false≢true e)
same_mode_lem Selective Read e = absurd (false≢true e)
same_mode_lem Selective Selective e = refl
same_mode_lem Selective Exclusive e = absurd (false≢true e)
same_mode_lem Exclusive Read e = absurd (false≢true e)
same_mode_lem Exclusive Selective e = absurd (false≢true e)
same_mode_lem Exclusive Exclusive e = refl

-- The hold that a passed test names, and back.
is-hold : (q : ℕ) (c : Claim) (h : Hold) → is_hold q c h ≡ true → h ≡ hold q c
unfolding is_hold
is-hold q c h e =
    let two = and_both (eqb h.party q && eqb h.claim.word c.word) (same_mode h.claim.mode c.mode) e in
    let one = and_both (eqb h.party q) (eqb h.claim.word c.word) two.0 in
    let p = eqb-true h.party q one.0 in
    let w = eqb-true h.claim.word c.word one.1 in
    let o = same_mode_lem h.claim.mode c.mode two.1 in
    λ i. record { party = p i; claim = record { word = w i; mode = o i } }

hold_self : (q : ℕ) (c : Claim) → is_hold q c (hold q c) ≡ true
unfolding is_hold
hold_self q c = rw (eqb_same q q refl, eqb_same c.word c.word refl, mode_same c.mode) refl

-- ---- How often

-- How often party q's hold of lock c stands in a ledger.
unfoldable pub hold_count : List Hold → ℕ → Claim → ℕ
hold_count [] q c = 0
hold_count (h ∷ hs) q c = bit (is_hold q c h) + hold_count hs q c

-- What a list of party q's locks says of party j.
abbrev pub count_for : ℕ → List Claim → ℕ → Claim → ℕ
count_for q cs j c = cond (eqb q j) (claim_count cs c) 0

count-hold : (q : ℕ) (c : Claim) (cs : List Claim) (j : ℕ) (d : Claim) → count_for q (c ∷ cs) j d ≡ bit (is_hold j d (hold q c)) + count_for q cs j d
unfolding claim_count is_hold is_claim
count-hold q c cs j d = go (eqb q j)
  where
    go : (t : Bool) → cond t (claim_count (c ∷ cs) d) 0 ≡ bit (t && eqb c.word d.word && same_mode c.mode d.mode) + cond t (claim_count cs d) 0
    go true = refl
    go false = refl

pub count_none : (q j : ℕ) (d : Claim) → count_for q [] j d ≡ 0
unfolding claim_count
count_none q j d = cond_ind (λ (n : ℕ). n ≡ 0) (eqb q j) 0 0 (λ _. refl) (λ _. refl)

-- Party q itself, and any other party.
pub count_own : (q : ℕ) (cs : List Claim) (d : Claim) → count_for q cs q d ≡ claim_count cs d
count_own q cs d = rw (eqb_same q q refl) refl

pub count_other : (q : ℕ) (cs : List Claim) (j : ℕ) (d : Claim) → j ≢ q → count_for q cs j d ≡ 0
count_other q cs j d n = rw (eqb-diff q j (λ e. n (sym e))) refl

-- One hold taken out, where it is there.
count_without : (hs : List Hold) (q : ℕ) (c : Claim) (j : ℕ) (d : Claim) → hold_count (without_one hs q c) j d ≡ hold_count hs j d - bit (is_hold j d (hold q c))
unfolding hold_count without_one
count_without [] q c j d = omega arith
count_without (h ∷ hs) q c j d = go (tell (is_hold q c h)) (tell (is_hold j d (hold q c))) (count_without hs q c j d)
  where
    go : Told (is_hold q c h) → Told (is_hold j d (hold q c)) → hold_count (without_one hs q c) j d ≡ hold_count hs j d - bit (is_hold j d (hold q c))
        → hold_count (cond (is_hold q c h) hs (h ∷ without_one hs q c)) j d ≡ bit (is_hold j d h) + hold_count hs j d - bit (is_hold j d (hold q c))
    go (holds e) t ih = rw (e, is-hold q c h e) (omega arith)
    go (fails e) (fails f) ih = rw (e, f) (omega (arith, rw f at ih))
    go (fails e) (holds f) ih =
        let other : is_hold j d h ≡ false = ap (λ (x : Hold). is_hold x.party x.claim h) (sym (is-hold j d (hold q c) f)) ∙ e in
        rw (e, other) (omega (arith, ih))

-- All of a list taken out.
pub count_without_all : (hs : List Hold) (q : ℕ) (cs : List Claim) (j : ℕ) (d : Claim) → hold_count (without_all hs q cs) j d ≡ hold_count hs j d - count_for q cs j d
unfolding without_all
count_without_all hs q [] j d = omega (arith, count_none q j d)
count_without_all hs q (c ∷ cs) j d = omega (arith, count_without_all (without_one hs q c) q cs j d, count_without hs q c j d, count-hold q c cs j d)

-- One hold more.
pub count_with : (hs : List Hold) (q : ℕ) (w : Option Claim) (j : ℕ) (d : Claim) → hold_count (with_held hs q w) j d ≡ hold_count hs j d + count_for q (listed w) j d
unfolding with_held hold_count
count_with hs q none j d = omega (arith, count_none q j d)
count_with hs q (some c) j d = omega (arith, count-hold q c [] j d, count_none q j d)

-- A list claims the locks that stand in it.
counted_claimed : (cs : List Claim) (i : ℕ) (o : Mode) → 1 ≤ claim_count cs (claim i o) → is_claimed cs i o ≡ true
unfolding claim_count is_claimed is_claim
counted_claimed [] i o l = absurd (omega arith)
counted_claimed (c ∷ cs) i o l = go (tell (eqb c.word i && same_mode c.mode o)) (counted_claimed cs i o)
  where
    go : Told (eqb c.word i && same_mode c.mode o) → (1 ≤ claim_count cs (claim i o) → is_claimed cs i o ≡ true) → is_claimed (c ∷ cs) i o ≡ true
    go (holds e) ih = left_or (is_claimed cs i o) e
    go (fails e) ih = right_or (eqb c.word i && same_mode c.mode o) (ih (let l' = rw e at l in omega arith))

claimed_counted : (cs : List Claim) (i : ℕ) (o : Mode) → is_claimed cs i o ≡ true → 1 ≤ claim_count cs (claim i o)
unfolding claim_count is_claimed is_claim
claimed_counted [] i o h = absurd (false≢true h)
claimed_counted (c ∷ cs) i o h = go (tell (eqb c.word i && same_mode c.mode o)) (claimed_counted cs i o)
  where
    go : Told (eqb c.word i && same_mode c.mode o) → (is_claimed cs i o ≡ true → 1 ≤ claim_count cs (claim i o))
        → 1 ≤ bit (eqb c.word i && same_mode c.mode o) + claim_count cs (claim i o)
    go (holds e) ih = rw e (omega arith)
    go (fails e) ih = rw e (let l = ih (rw e at h) in omega arith)

-- ---- The ledger and the records

-- By the ledger each party holds the locks that its record claims, each as often as the record claims it, and no others.
pub record LedgerOk (r : Root) (ps : List Party) (hs : List Hold) : Type 0 where
  pub agrees : (q : ℕ) (c : Claim) → hold_count hs q c ≡ claim_count (claims r (party_at ps q)) c

-- One record changes, and the ledger for its party alone.
pub ledger_set : (r t : Root) (ps : List Party) (q : ℕ) (p : Party) (hs then : List Hold) → q < length ps → LedgerOk r ps hs
    → ((d : Claim) → hold_count then q d ≡ claim_count (claims t p) d) → ((j : ℕ) (d : Claim) → j ≢ q → hold_count then j d ≡ hold_count hs j d) → LedgerOk t (set ps q p) then
ledger_set r t ps q p hs then in_row ok own others = record { agrees = λ j d. go j d (cmp j q) }
  where
    go : (j : ℕ) (d : Claim) → Cmp j q → hold_count then j d ≡ claim_count (claims t (party_at (set ps q p) j)) d
    go j d (same e) = rw (e, row_same ps q p in_row) (own d)
    go j d (diff n) = others j d n ∙ ok.agrees j d ∙ ap (λ (cs : List Claim). claim_count cs d) (claims_root t r (party_at ps j) ∙ sym (ap (claims t) (row_other ps q j p n)))

-- ---- Table I

-- Where the ledger permits a lock, Table I does beside every hold on its word; and back.
permitted-table : (hs : List Hold) (c : Claim) → permitted hs c ≡ true → (q : ℕ) (o : Mode) → 1 ≤ hold_count hs q (claim c.word o) → table_one c.mode o ≡ true
unfolding hold_count permitted
permitted-table [] c e q o l = absurd (omega arith)
permitted-table (h ∷ hs) c e q o l = go (tell (is_hold q (claim c.word o) h)) (permitted-table hs c two.1 q o)
  where
    two : ((not (eqb h.claim.word c.word) || table_one c.mode h.claim.mode) ≡ true) × (permitted hs c ≡ true)
    two = and_both (not (eqb h.claim.word c.word) || table_one c.mode h.claim.mode) (permitted hs c) e

    go : Told (is_hold q (claim c.word o) h) → (1 ≤ hold_count hs q (claim c.word o) → table_one c.mode o ≡ true) → table_one c.mode o ≡ true
    go (holds f) ih = rw (is-hold q (claim c.word o) h f, eqb_same c.word c.word refl) at two.0
    go (fails f) ih = ih (let l' = rw f at l in omega arith)

table-permitted : (hs : List Hold) (c : Claim) → ((q : ℕ) (o : Mode) → 1 ≤ hold_count hs q (claim c.word o) → table_one c.mode o ≡ true) → permitted hs c ≡ true
unfolding hold_count permitted
table-permitted [] c f = refl
table-permitted (h ∷ hs) c f = both-and (go (cmp h.claim.word c.word)) (table-permitted hs c (λ q o l. f q o (omega arith)))
  where
    go : Cmp h.claim.word c.word → (not (eqb h.claim.word c.word) || table_one c.mode h.claim.mode) ≡ true
    go (same e) =
        let here : is_hold h.party (claim c.word h.claim.mode) h ≡ true = rw (← e) (hold_self h.party h.claim) in
        right_or (not (eqb h.claim.word c.word)) (f h.party h.claim.mode (rw here (omega arith)))
    go (diff n) = left_or (table_one c.mode h.claim.mode) (ap not (eqb-diff h.claim.word c.word n))

pub permitted-is : (r : Root) (ps : List Party) (hs : List Hold) → LedgerOk r ps hs → {n : ℕ} {locks : List ℕ} → LocksOk n locks (claimed r ps) → (c : Claim) → c.word < n
    → permitted hs c ≡ permits (get_or locks c.word 0) c.mode
permitted-is r ps hs ok {n} {locks} words c l = eq_of_iff to from
  where
    to : permitted hs c ≡ true → permits (get_or locks c.word 0) c.mode ≡ true
    to e =
        permits-true (words.each c.word l) c.mode
        (λ q o h. permitted-table hs c e q o (let k = claimed_counted (claims r (party_at ps q)) c.word o h in omega (arith, ok.agrees q (claim c.word o))))

    from : permits (get_or locks c.word 0) c.mode ≡ true → permitted hs c ≡ true
    from e =
        table-permitted hs c
        (λ q o h. table-true (words.each c.word l) c.mode e q o (counted_claimed (claims r (party_at ps q)) c.word o (omega (arith, ok.agrees q (claim c.word o)))))
