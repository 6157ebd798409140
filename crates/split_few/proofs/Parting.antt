-- Records parted in place, one after the other: those that stay go to the front of the buffer that they stand in, the
-- others to the front of another.
-- Main statements: Parting (the records before i are parted, those from i on stand as they stood); none-parted (the
-- start), one_parted (a turn).
use mathlib.Core.Path.{◌≡◌, refl, sym, ap, ◌∙◌}
use mathlib.Core.Bool.{Bool, true, false, cond}
use mathlib.Core.List.{List, [], ◌∷◌, ◌++◌, append-nil}
use Prim.Native.Nat.{ℕ, ◌+◌, ◌-◌, ◌≤◌, ◌<◌}
use native.Mathlib.Numerals.{add-one}
use native.Mathlib.Omega.{arith}
use lib.ListN.{length, set, take, drop, length-set}
use lib.Dec.{eqb}
use mir.Val.{bool_byte}
use lib.Seq.{take-suc, take-suc-set, take-set-le, drop-set-lt}
use Rattle.model.specs.declared.Entry.{Entry}
use Rattle.model.specs.Addresses.{hash}
use Rattle.model.specs.Entries.{key_of, entry_of, staying, going}
use Rattle.model.specs.Filling.{record_at}
use Rattle.key_source.specs.declared.Halving.{Halving}
use Rattle.entries.proofs.Scanning.{next_of}

module _ (h : Halving) where
  -- Of some records, those that stay and those that go; whether a record stays.
  abbrev pub staying_of : List Entry → List Entry
  staying_of es = staying h.originals h.level h.chain.0 es

  abbrev pub going_of : List Entry → List Entry
  going_of es = going h.originals h.level h.chain.0 es

  abbrev pub is_staying : Entry → Bool
  is_staying e = eqb (hash h.originals h.level (key_of e)) h.chain.0

  -- One record more at the end.
  staying_last : (es : List Entry) (e : Entry) → staying_of (es ++ (e ∷ [])) ≡ staying_of es ++ cond (is_staying e) (e ∷ []) []
  unfolding staying
  staying_last [] e = refl
  staying_last (x ∷ xs) e = rw (staying_last xs e) (go (is_staying x))
    where
      go : (b : Bool) → cond b (x ∷ (staying_of xs ++ cond (is_staying e) (e ∷ []) [])) (staying_of xs ++ cond (is_staying e) (e ∷ []) []) ≡ cond b (x ∷ staying_of xs) (staying_of xs) ++ cond (is_staying e) (e ∷ []) []
      go true = refl
      go false = refl

  going_last : (es : List Entry) (e : Entry) → going_of (es ++ (e ∷ [])) ≡ going_of es ++ cond (is_staying e) [] (e ∷ [])
  unfolding going
  going_last [] e = refl
  going_last (x ∷ xs) e = rw (going_last xs e) (go (is_staying x))
    where
      go : (b : Bool) → cond b (going_of xs ++ cond (is_staying e) [] (e ∷ [])) (x ∷ (going_of xs ++ cond (is_staying e) [] (e ∷ []))) ≡ cond b (going_of xs) (x ∷ going_of xs) ++ cond (is_staying e) [] (e ∷ [])
      go true = refl
      go false = refl

  -- Of the records es, the first i are parted: n of them stay, at the front of `front`, the others are at the front of
  -- `back`; those from i on are where they were.
  pub record Parting (es : List Entry) (i n : ℕ) (front back : List Entry) : Type 0 where
    pub some : n ≤ i
    pub stay : take n front ≡ staying_of (take i es)
    pub go : take (i - n) back ≡ going_of (take i es)
    pub rest : drop i front ≡ drop i es
    pub long : length front ≡ length es

  pub none-parted : (es back : List Entry) → Parting es 0 0 es back
  unfolding staying going
  none-parted es back = record { some = omega arith; stay = refl; go = refl; rest = refl; long = refl }

  module _ (es : List Entry) (i n : ℕ) (front back : List Entry) (parted : Parting es i n front back) (more : i < length es) where
    -- The record at place i is the one that stood there at first.
    pub record_there_ok : record_at front i ≡ record_at es i
    record_there_ok =
        let same : record_at front i ∷ drop (i + 1) front ≡ record_at es i ∷ drop (i + 1) es
        = sym (next_of front i (omega (arith, parted.long))) ∙ parted.rest ∙ next_of es i more in
        cc

    rest_after : drop (i + 1) front ≡ drop (i + 1) es
    rest_after =
        let same : record_at front i ∷ drop (i + 1) front ≡ record_at es i ∷ drop (i + 1) es
        = sym (next_of front i (omega (arith, parted.long))) ∙ parted.rest ∙ next_of es i more in
        cc

    -- The records before i, and that at i.
    before : take (i + 1) es ≡ take i es ++ (record_at es i ∷ [])
    before = rw add-one (take-suc es i (entry_of 0 0) more)

    -- It is put down in both buffers, and counted in one.
    pub one_parted : (e : Entry) → e ≡ record_at front i → i - n < length back → {step : ℕ} → step ≡ bool_byte (is_staying e) → Parting es (i + 1) (n + step) (set front n e) (set back (i - n) e)
    one_parted e here room {step} counted = go (is_staying e) refl
      where
        same : e ≡ record_at es i
        same = here ∙ record_there_ok

        stays_more : staying_of (take (i + 1) es) ≡ take n front ++ cond (is_staying e) (e ∷ []) []
        stays_more = ap staying_of before ∙ staying_last (take i es) (record_at es i) ∙ rw (parted.stay, same) refl

        goes_more : going_of (take (i + 1) es) ≡ take (i - n) back ++ cond (is_staying e) [] (e ∷ [])
        goes_more = ap going_of before ∙ going_last (take i es) (record_at es i) ∙ rw (parted.go, same) refl

        left : drop (i + 1) (set front n e) ≡ drop (i + 1) es
        left = drop-set-lt (i + 1) front n e (omega (arith, parted.some)) ∙ rest_after

        whole : length (set front n e) ≡ length es
        whole = length-set front n e ∙ parted.long

        go : (b : Bool) → is_staying e ≡ b → Parting es (i + 1) (n + step) (set front n e) (set back (i - n) e)
        go true eb =
            let one : n + step ≡ n + 1 = ap (λ (k : ℕ). n + k) (counted ∙ ap bool_byte eb) in
            let same_go : i + 1 - (n + 1) ≡ i - n = omega arith in
            rw one record {
              some = omega (arith, parted.some);
              stay = rw (stays_more, eb, add-one n) (take-suc-set front n e (omega (arith, parted.some, parted.long, more)));
              go = rw (same_go, goes_more, eb, append-nil) (take-set-le (i - n) back (i - n) e (omega arith));
              rest = left;
              long = whole;
            }
        go false eb =
            let none : n + step ≡ n = omega (arith, counted ∙ ap bool_byte eb) in
            let one_go : i + 1 - n ≡ (i - n) + 1 = omega (arith, parted.some) in
            rw none record {
              some = omega (arith, parted.some);
              stay = rw (stays_more, eb, append-nil) (take-set-le n front n e (omega arith));
              go = rw (one_go, goes_more, eb, add-one (i - n)) (take-suc-set back (i - n) e room);
              rest = left;
              long = whole;
            }
