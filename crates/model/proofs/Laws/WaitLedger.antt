-- The ledger of waits, which specs/Holds.antt derives from the calls, beside the waiting row.
-- Main statements: parties_in, WaitsOk (the row's parties are the ledger's, and each requests what it is entered with);
-- behind_is (who stands behind somebody by the row does so by the ledger); waits-join, waits_leave, waits_stay (what
-- becomes of both where a party waits, leaves, or is not in the row).
use mathlib.Core.Path.{◌≡◌, refl, sym, ap, ◌∙◌, subst}
use mathlib.Core.Bool.{Bool, true, false, cond, ◌||◌}
use mathlib.Core.List.{List, [], ◌∷◌, ◌++◌}
use mathlib.Core.Option.{some}
use Prim.Native.Nat.{ℕ, ◌<◌}
use lib.Dec.{eqb}
use Rattle.model.specs.declared.Root.{Root}
use Rattle.model.specs.declared.Party.{Party}
use Rattle.model.specs.LockWords.{Claim}
use Rattle.model.specs.FreeList.{is_among}
use Rattle.model.specs.Memory.{party_at}
use Rattle.model.specs.WaitingRow.{requests, is_some, waiters_in, conflicts, one_before, behind_for, stands_behind, row_with, row_without}
use Rattle.model.specs.Holds.{Hold, hold, waits_in, joins, leaves, waits_before}
use Rattle.model.proofs.Laws.Lists.{Told, holds, fails, tell, All, cond-false, not-both, or_neither, left_or, right_or, eqb_same}
use Rattle.model.proofs.Laws.WaitingRow.{RowOk, RowFor, row_for, row_reads, row_with_lem, row_without_lem, joined_to, left_of, left_gone, AskSame}

-- ---- The parties of a ledger

abbrev pub parties_in : List Hold → List ℕ
parties_in [] = []
parties_in (w ∷ ws) = w.party ∷ parties_in ws

pub waits_among : (ws : List Hold) (q : ℕ) → waits_in ws q ≡ is_among q (parties_in ws)
unfolding waits_in is_among
waits_among [] q = refl
waits_among (w ∷ ws) q = ap (λ (t : Bool). eqb w.party q || t) (waits_among ws q)

pub parties_leave : (ws : List Hold) (q : ℕ) → parties_in (leaves ws q) ≡ left_of q (parties_in ws)
unfolding leaves left_of
parties_leave [] q = refl
parties_leave (w ∷ ws) q = go (eqb w.party q) (parties_leave ws q)
  where
    go : (t : Bool) → parties_in (leaves ws q) ≡ left_of q (parties_in ws) → parties_in (cond t ws (w ∷ leaves ws q)) ≡ cond t (parties_in ws) (w.party ∷ left_of q (parties_in ws))
    go true ih = refl
    go false ih = ap (λ (ys : List ℕ). w.party ∷ ys) ih

pub parties_append : (ws : List Hold) (q : ℕ) (c : Claim) → parties_in (ws ++ (hold q c ∷ [])) ≡ parties_in ws ++ (q ∷ [])
parties_append [] q c = refl
parties_append (w ∷ ws) q c = ap (λ (ys : List ℕ). w.party ∷ ys) (parties_append ws q c)

parties_join : (ws : List Hold) (q : ℕ) (c : Claim) → parties_in (joins ws q (some c)) ≡ joined_to q (parties_in ws)
unfolding joins joined_to
parties_join ws q c = go (tell (waits_in ws q))
  where
    go : Told (waits_in ws q) → parties_in (cond (waits_in ws q) ws (ws ++ (hold q c ∷ []))) ≡ cond (is_among q (parties_in ws)) (parties_in ws) (parties_in ws ++ (q ∷ []))
    go (holds t) = rw (t, sym (waits_among ws q) ∙ t) refl
    go (fails t) = rw (t, sym (waits_among ws q) ∙ t) (parties_append ws q c)

pub leaves_absent : (ws : List Hold) (q : ℕ) → is_among q (parties_in ws) ≡ false → leaves ws q ≡ ws
unfolding leaves is_among
leaves_absent [] q n = refl
leaves_absent (w ∷ ws) q n =
    let k = or_neither (eqb w.party q) (is_among q (parties_in ws)) n in
    cond-false (eqb w.party q) ws (w ∷ leaves ws q) k.0 ∙ ap (λ (ys : List Hold). w ∷ ys) (leaves_absent ws q k.1)

-- ---- The row and the ledger

-- Each entry's party requests what it is entered with.
abbrev pub Asked : Root → List Party → List Hold → Type 0
Asked r ps ws = All (λ w. requests r (party_at ps w.party) ≡ some w.claim) ws

pub record WaitsOk (r : Root) (ps : List Party) (row : List ℕ) (ws : List Hold) : Type 0 where
  pub parties= : waiters_in row ≡ parties_in ws
  pub entered : Asked r ps ws

-- Who stands behind somebody by the row does so by the ledger.
before_is : (r : Root) (ps : List Party) (q : ℕ) (c : Claim) (ws : List Hold) → Asked r ps ws → one_before r ps q c (parties_in ws) ≡ waits_before ws q c
unfolding one_before waits_before conflicts
before_is r ps q c [] a = refl
before_is r ps q c (w ∷ ws) a = rw (a.0, before_is r ps q c ws a.1) refl

pub behind_is : (r : Root) (ps : List Party) (row : List ℕ) (ws : List Hold) → WaitsOk r ps row ws → (q : ℕ) (c : Claim) → requests r (party_at ps q) ≡ some c → stands_behind r ps row q ≡ waits_before ws q c
unfolding stands_behind behind_for
behind_is r ps row ws ok q c e = ap (behind_for r ps row q) e ∙ ap (one_before r ps q c) ok.parties= ∙ before_is r ps q c ws ok.entered

-- ---- What becomes of the entries

module _ (r t : Root) (ps us : List Party) (q : ℕ) (x : AskSame r t ps us q) where
  asked_same : (ws : List Hold) → Asked r ps ws → is_among q (parties_in ws) ≡ false → ((j : ℕ) → is_among j (parties_in ws) ≡ true → j < r.parties) → Asked t us ws
  unfolding is_among
  asked_same [] a n f = tt
  asked_same (w ∷ ws) a n f =
      let k = or_neither (eqb w.party q) (is_among q (parties_in ws)) n in (
        x.same_ask w.party (λ e. not-both (eqb w.party q) (eqb_same w.party q e) k.0) (f w.party (left_or (is_among w.party (parties_in ws)) (eqb_same w.party w.party refl))) ∙ a.0,
        asked_same ws a.1 k.1 (λ j h. f j (right_or (eqb w.party j) h)),
      )

asked_left : (r : Root) (ps : List Party) (q : ℕ) (ws : List Hold) → Asked r ps ws → Asked r ps (leaves ws q)
unfolding leaves
asked_left r ps q [] a = tt
asked_left r ps q (w ∷ ws) a = go (eqb w.party q) (asked_left r ps q ws a.1)
  where
    go : (t : Bool) → Asked r ps (leaves ws q) → Asked r ps (cond t ws (w ∷ leaves ws q))
    go true ih = a.1
    go false ih = (a.0, ih)

asked_append : (r : Root) (ps : List Party) (q : ℕ) (c : Claim) (ws : List Hold) → requests r (party_at ps q) ≡ some c → Asked r ps ws → Asked r ps (ws ++ (hold q c ∷ []))
asked_append r ps q c [] e a = (e, tt)
asked_append r ps q c (w ∷ ws) e a = (a.0, asked_append r ps q c ws e a.1)

-- ---- The three ways of a call

module _ (r : Root) (ps : List Party) (row : List ℕ) (ok : RowOk r ps row) (ws : List Hold) (w : WaitsOk r ps row ws) (q : ℕ) where
  f : RowFor r ps row (parties_in ws)
  f = subst (RowFor r ps row) w.parties= (row_for r ps row ok)

  -- It waits.
  pub waits-join : (c : Claim) → q < r.parties → requests r (party_at ps q) ≡ some c → WaitsOk r ps (row_with q row) (joins ws q (some c))
  unfolding is_some joins
  waits-join c there e = record {
    parties= = row_reads (row_with q row) (joined_to q (parties_in ws)) (row_with_lem r ps row (parties_in ws) q f (record { there = there; asks = ap is_some e })).is ∙ sym (parties_join ws q c);
    entered = go (waits_in ws q);
  }
    where
      go : (t : Bool) → Asked r ps (cond t ws (ws ++ (hold q c ∷ [])))
      go true = w.entered
      go false = asked_append r ps q c ws e w.entered

  -- It leaves the row.
  pub waits_leave : (t : Root) (us : List Party) → AskSame r t ps us q → WaitsOk t us (row_without q row) (leaves ws q)
  waits_leave t us x = record {
    parties= = row_reads (row_without q row) (left_of q (parties_in ws)) (row_without_lem r t ps us row (parties_in ws) q f x).is ∙ sym (parties_leave ws q);
    entered = asked_same r t ps us q x (leaves ws q) (asked_left r ps q ws w.entered)
        (ap (is_among q) (parties_leave ws q) ∙ left_gone q (parties_in ws) f.once)
        (λ j h. subst (λ (n : ℕ). j < n) x.as_many ((row_without_lem r t ps us row (parties_in ws) q f x).asking j (ap (is_among j) (sym (parties_leave ws q)) ∙ h)).there);
  }

  -- It is not in the row, for it requests nothing.
  pub waits_absent : is_some (requests r (party_at ps q)) ≡ false → is_among q (parties_in ws) ≡ false
  waits_absent n = go (tell (is_among q (parties_in ws)))
    where
      go : Told (is_among q (parties_in ws)) → is_among q (parties_in ws) ≡ false
      go (holds h) = absurd (not-both (is_some (requests r (party_at ps q))) (f.asking q h).asks n)
      go (fails h) = h

  pub waits_stay : (t : Root) (us : List Party) → AskSame r t ps us q → is_some (requests r (party_at ps q)) ≡ false → WaitsOk t us row ws
  waits_stay t us x n = record { parties= = w.parties=; entered = asked_same r t ps us q x ws w.entered (waits_absent n) (λ j h. (f.asking j h).there) }
