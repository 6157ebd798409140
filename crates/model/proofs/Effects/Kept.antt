-- What is owed of a step: it is not refused, it agrees with the book, the invariant holds after it, and no other find
-- has more pages yet to copy; and how the parts of the invariant are put together again.
-- Main statements: Kept; row_same, row_other, row_chain (the row after one record changed); ExtentsStay and
-- extents_move, ExtentsByOne and extents_by_one, extents_leave; assemble, ahead_stays; waits_kept (a waiting call),
-- moved-kept (a step that moves).
use mathlib.Core.Path.{◌≡◌, refl, sym, ap, ◌∙◌}
use mathlib.Core.Logic.{◌≢◌}
use mathlib.Core.Bool.{true, false, false≢true, true≢false}
use mathlib.Core.List.{List}
use mathlib.Core.Option.{none}
use Prim.Native.Nat.{ℕ, ◌≤◌, ◌<◌}
use native.Mathlib.Omega.{arith}
use lib.ListN.{length, set, length-set}
use lib.Seq.{get_or-set_same, get_or-set_other, set-get_or}
use Rattle.std.specs.Prelude.{Ok}
use Rattle.model.specs.declared.Root.{Root}
use Rattle.model.specs.declared.Party.{Party}
use Rattle.model.specs.Sizes.{lock_words}
use Rattle.model.specs.Records.{idle}
use Rattle.model.specs.Answers.{refusal_number, performs}
use Rattle.model.specs.Addresses.{span}
use Rattle.model.specs.Outcome.{Outcome, waits, moved}
use Rattle.model.specs.Memory.{Memory, party_at, view_of, after_step, with_waiting}
use Rattle.model.specs.WaitingRow.{requests}
use Rattle.model.specs.declared.StepAnswer.TheVariants as StepAnswer
use Rattle.model.specs.Book.{Book, agrees_with, note_for, after_reply}
use Rattle.model.proofs.Laws.Lists.{Cmp, same, diff, cmp}
use Rattle.model.proofs.Laws.WaitingRow.{RowOk, AskSame}
use Rattle.model.proofs.Invariant.Asks.{requests_same}
use Rattle.model.proofs.Invariant.Ghost.{Extent, root_extent, size, Ghost}
use Rattle.model.proofs.Invariant.Claims.{LocksOk, claimed}
use Rattle.model.proofs.Invariant.Statement.{Limits, restructures, live_for, low_for, ExtentsOk, PagesOk, BookOk, NoPages, PartyOk, scene_of, Inv}
use Rattle.model.proofs.Invariant.Frame.{SameLimits, SameSizes, Keeps, party_frame, none_kept}
use Rattle.model.proofs.Invariant.Ahead.{AheadStays, ahead_kept}
use Rattle.model.proofs.Invariant.Turn.{Turn, restructures-now, restructures_at, row_long}
use Rattle.model.proofs.Invariant.Restructurer.{others_rest}

-- What is owed of a step of party q that has the outcome o.
pub record Kept (m : Memory) (b : Book) (q : ℕ) (o : Outcome) : Type 0 where
  pub allowed : refusal_number o.answer ≡ 0
  pub right : agrees_with b q (party_at m.parties q).step o.answer ≡ true
  -- The invariant, with any waiting row that is sound then.
  pub inv : (row : List ℕ) → RowOk o.after.root (set m.parties o.after.number o.after.party) row
      → Inv (with_waiting row (after_step m o.after)) (after_reply b q (party_at m.parties q).step o.answer)
  -- Another party at 9 has as many pages yet to copy.
  pub framed : AheadStays m q o.after.root o.after.pages
  -- Every other party requests what it requested.
  pub asks : AskSame m.root o.after.root m.parties (set m.parties o.after.number o.after.party) q
  -- A step that waits leaves what it was lent.
  pub stays : o.answer ≡ Ok StepAnswer.Waiting → o.after ≡ view_of m q

-- ---- The row of parties after one record changed

pub row_same : (ps : List Party) (q : ℕ) (p : Party) → q < length ps → party_at (set ps q p) q ≡ p
row_same ps q p h = get_or-set_same ps q p idle h

pub row_other : (ps : List Party) (q j : ℕ) (p : Party) → j ≢ q → party_at (set ps q p) j ≡ party_at ps j
row_other ps q j p n = get_or-set_other ps q j p idle n

-- A record that keeps its chain leaves the chain of every record.
pub row_chain : (ps : List Party) (q : ℕ) (p : Party) → q < length ps → p.chain ≡ (party_at ps q).chain → (j : ℕ) → (party_at (set ps q p) j).chain ≡ (party_at ps j).chain
row_chain ps q p l c j = go (cmp j q)
  where
    go : Cmp j q → (party_at (set ps q p) j).chain ≡ (party_at ps j).chain
    go (same e) = ap (λ (k : ℕ). (party_at (set ps q p) k).chain) e ∙ ap (λ (x : Party). x.chain) (row_same ps q p l) ∙ c ∙ ap (λ (k : ℕ). (party_at ps k).chain) (sym e)
    go (diff n) = ap (λ (x : Party). x.chain) (row_other ps q j p n)

-- ---- How far the file extends, after a record of the row changed and the root's level and next did not

pub live_sizes : (r t : Root) → SameSizes r t → (p : Party) → live_for t p ≡ live_for r p
unfolding live_for
live_sizes r t z p = rw (z.limits.originals=, z.level=, z.next=) refl

pub low_sizes : (r t : Root) → SameSizes r t → (p : Party) → low_for t p ≡ low_for r p
unfolding low_for live_for
low_sizes r t z p = rw (z.limits.originals=, z.level=, z.next=) refl

pub root_extent_sizes : (r t : Root) → SameSizes r t → root_extent t ≡ root_extent r
root_extent_sizes r t z = rw (z.level=, z.next=) refl

-- From root r to t, from ghost g to h, where the record of party q becomes p: what the extents go by stays.
pub record ExtentsStay (r t : Root) (ps : List Party) (g h : Ghost) (q : ℕ) (p : Party) : Type 0 where
  pub sizes : SameSizes r t
  pub live= : h.live ≡ g.live
  pub low= : h.low ≡ g.low
  pub in_row : q < length ps
  pub same_part : restructures p ≡ restructures (party_at ps q)
  pub same_live : restructures p ≡ true → live_for r p ≡ live_for r (party_at ps q)
  pub same_low : restructures p ≡ true → low_for r p ≡ low_for r (party_at ps q)

module _ {r t : Root} {ps : List Party} {g h : Ghost} {q : ℕ} {p : Party} (x : ExtentsStay r t ps g h q p) where
  by_party : (f : Root → Party → Extent) (e : Extent) → (restructures p ≡ true → f r p ≡ f r (party_at ps q)) → ((y : Party) → f t y ≡ f r y)
      → ((j : ℕ) → restructures (party_at ps j) ≡ true → e ≡ f r (party_at ps j)) → (j : ℕ) → Cmp j q → restructures (party_at (set ps q p) j) ≡ true → e ≡ f t (party_at (set ps q p) j)
  by_party f e s y ok j (same i) k =
      let k' : restructures p ≡ true = rw (i, row_same ps q p x.in_row) at k in
      rw (i, row_same ps q p x.in_row) (ok q (sym x.same_part ∙ k') ∙ sym (s k') ∙ sym (y p))
  by_party f e s y ok j (diff n) k = rw (row_other ps q j p n) (ok j (rw (row_other ps q j p n) at k) ∙ sym (y (party_at ps j)))

  was_at_rest : ((j : ℕ) → restructures (party_at (set ps q p) j) ≡ false) → (j : ℕ) → Cmp j q → restructures (party_at ps j) ≡ false
  was_at_rest f j (same i) = rw i (sym x.same_part ∙ (rw (row_same ps q p x.in_row) at (f q)))
  was_at_rest f j (diff n) = rw (row_other ps q j p n) at (f j)

  pub extents_move : ExtentsOk r ps g → ExtentsOk t (set ps q p) h
  extents_move ok =
      let z = x.sizes in
      record {
        live-by = λ j k. x.live= ∙ by_party live_for g.live x.same_live (live_sizes r t z) ok.live-by j (cmp j q) k;
        low_by = λ j k. x.low= ∙ by_party low_for g.low x.same_low (low_sizes r t z) ok.low_by j (cmp j q) k;
        at_rest_lem = λ f.
            let a = ok.at_rest_lem (λ j. was_at_rest f j (cmp j q)) in
            let e = sym (root_extent_sizes r t z) in
            (x.live= ∙ a.0 ∙ e, x.low= ∙ a.1 ∙ e);
        live_next = rw (x.live=, z.limits.originals=) ok.live_next;
        live_fits = rw (x.live=, z.limits.originals=, z.limits.primaries=) ok.live_fits;
        root_next = rw (z.limits.originals=, z.level=, z.next=) ok.root_next;
        root_fits = rw (z.limits.originals=, z.level=, z.next=, z.limits.primaries=) ok.root_fits;
      }

-- The party restructures on, with root r, ghost h and record p: how far the file extends goes by its record.
pub record ExtentsByOne (r : Root) (h : Ghost) (p : Party) : Type 0 where
  pub still : restructures p ≡ true
  pub live : h.live ≡ live_for r p
  pub low : h.low ≡ low_for r p
  pub live_next : h.live.next < span r.originals h.live.level
  pub live_fits : size r.originals h.live ≤ r.primaries
  pub root_next : r.next < span r.originals r.level
  pub root_fits : size r.originals (root_extent r) ≤ r.primaries

pub extents_by_one : {m : Memory} {b : Book} {q k : ℕ} (t : Turn m b q k) → restructures_at k ≡ true → {r : Root} {h : Ghost} {p : Party} → ExtentsByOne r h p → ExtentsOk r (set m.parties q p) h
extents_by_one {m} {b} {q} t mine {r} {h} {p} x = record {
  live-by = λ j on. rw (only j on (cmp j q), row_same m.parties q p (row_long t)) x.live;
  low_by = λ j on. rw (only j on (cmp j q), row_same m.parties q p (row_long t)) x.low;
  at_rest_lem = λ f. absurd (false≢true (sym (rw (row_same m.parties q p (row_long t)) at (f q)) ∙ x.still));
  live_next = x.live_next;
  live_fits = x.live_fits;
  root_next = x.root_next;
  root_fits = x.root_fits;
}
  where
    only : (j : ℕ) → restructures (party_at (set m.parties q p) j) ≡ true → Cmp j q → j ≡ q
    only j on (same e) = e
    only j on (diff n) = absurd (false≢true (sym (others_rest m b t.inv q (restructures-now t ∙ mine) j n) ∙ (rw (row_other m.parties q j p n) at on)))

-- A restructurer that ends while the live file extends as the root says.
pub extents_leave : (r : Root) (ps : List Party) (g : Ghost) (q : ℕ) (p : Party) → q < length ps → restructures p ≡ false
    → (g.live ≡ root_extent r) × (g.low ≡ root_extent r) → ExtentsOk r ps g → ExtentsOk r (set ps q p) g
extents_leave r ps g q p in_row rests e ok = record {
  live-by = λ j h. rw (row_other ps q j p (other j h)) (ok.live-by j (rw (row_other ps q j p (other j h)) at h));
  low_by = λ j h. rw (row_other ps q j p (other j h)) (ok.low_by j (rw (row_other ps q j p (other j h)) at h));
  at_rest_lem = λ _. e;
  live_next = ok.live_next;
  live_fits = ok.live_fits;
  root_next = ok.root_next;
  root_fits = ok.root_fits;
}
  where
    other : (j : ℕ) → restructures (party_at (set ps q p) j) ≡ true → j ≢ q
    other j h s = false≢true (sym rests ∙ (rw (s, row_same ps q p in_row) at h))

-- ---- Putting the invariant together

pub limits_sizes : (r t : Root) → SameLimits r t → Limits r → Limits t
limits_sizes r t z l = record {
  some_original = rw z.originals= l.some_original;
  originals_fit = rw (z.originals=, z.primaries=) l.originals_fit;
  chains_fit_ok = rw z.primaries= l.chains_fit_ok;
  overflow_fits = rw z.overflow= l.overflow_fits;
  some_key = rw z.capacity= l.some_key;
  keys_fit = rw z.capacity= l.keys_fit;
  some_party = rw z.parties= l.some_party;
  parties_fit_lem = rw z.parties= l.parties_fit_lem;
}

-- The parts that a step of party q proves, from the memory m to one with root t, locks ls, pages ps, the record p and the ghost h; the sizes stay.
pub record Parts (m : Memory) (b : Book) (i : Inv m b) (q : ℕ) (t : Root) (ls ps : List ℕ) (p : Party) (c : Book) (h : Ghost) : Type 0 where
  pub sizes : SameLimits m.root t
  pub pages_many : length ps ≡ length m.pages
  pub extents : ExtentsOk t (set m.parties q p) h
  pub locks : LocksOk (lock_words t) ls (claimed t (set m.parties q p))
  pub pages : PagesOk t (set m.parties q p) ps h
  pub book : BookOk t h c
  pub self : PartyOk (record { root = t; parties = set m.parties q p; pages = ps; ghost = h; entries = c.entries }) q p
  pub others : (j : ℕ) → j ≢ q → Keeps (scene_of m i.ghost b) (record { root = t; parties = set m.parties q p; pages = ps; ghost = h; entries = c.entries }) j (party_at m.parties j)

module _ (m : Memory) (b : Book) (i : Inv m b) (q : ℕ) (in_row : q < m.root.parties) (t : Root) (ls ps : List ℕ) (p : Party) (c : Book) (h : Ghost)
    (x : Parts m b i q t ls ps p c h) where
  in_list : q < length m.parties
  in_list = omega (arith, i.parties_many)

  each_party : (j : ℕ) → j < t.parties → Cmp j q
      → PartyOk (record { root = t; parties = set m.parties q p; pages = ps; ghost = h; entries = c.entries }) j (party_at (set m.parties q p) j)
  each_party j l (same e) = rw (e, row_same m.parties q p in_list) x.self
  each_party j l (diff n) = rw (row_other m.parties q j p n) (party_frame _ _ j (party_at m.parties j) (x.others j n) (i.parties_ok j (rw x.sizes.parties= at l)))

  each_stranger : (j : ℕ) → t.parties ≤ j
      → (c.entries j ≡ none) × NoPages (record { root = t; parties = set m.parties q p; pages = ps; ghost = h; entries = c.entries }) j
  each_stranger j l =
      let far : m.root.parties ≤ j = rw x.sizes.parties= at l in
      let n : j ≢ q = omega arith in
      let k = x.others j n in
      let old = i.strangers j far in
      (k.entry= ∙ old.0, none_kept _ _ j (party_at m.parties j) k old.1)

  pub assemble : (row : List ℕ) → RowOk t (set m.parties q p) row → Inv (record { root = t; parties = set m.parties q p; locks = ls; pages = ps; waiting = row }) c
  assemble row ok = record {
    ghost = h;
    limits = limits_sizes m.root t x.sizes i.limits;
    parties_many = length-set m.parties q p ∙ i.parties_many ∙ sym x.sizes.parties=;
    pages_many = rw (x.sizes.primaries=, x.sizes.overflow=, x.sizes.parties=) (x.pages_many ∙ i.pages_many);
    extents_ok = x.extents;
    locks_ok = x.locks;
    pages_ok = x.pages;
    book_ok = x.book;
    parties_ok = λ j l. each_party j l (cmp j q);
    row_ok = ok;
    strangers = each_stranger;
  }

  -- What other parties request stays.
  pub asks_stay : AskSame m.root t m.parties (set m.parties q p) q
  asks_stay = record {
    as_many = x.sizes.parties=;
    same_ask = λ j n l. ap (requests t) (row_other m.parties q j p n) ∙ requests_same _ _ j (party_at m.parties j) (x.others j n);
  }

  -- What other finds have yet to copy stays.
  pub ahead_stays : AheadStays m q t ps
  ahead_stays j n l nine = ahead_kept m b i j l nine _ (x.others j n)

-- ---- A waiting call

-- The invariant with another row.
pub with_row : (m : Memory) (b : Book) → Inv m b → (row : List ℕ) → RowOk m.root m.parties row → Inv (with_waiting row m) b
with_row m b i row ok = record {
  ghost = i.ghost;
  limits = i.limits;
  parties_many = i.parties_many;
  pages_many = i.pages_many;
  extents_ok = i.extents_ok;
  locks_ok = i.locks_ok;
  pages_ok = i.pages_ok;
  book_ok = i.book_ok;
  parties_ok = i.parties_ok;
  row_ok = ok;
  strangers = i.strangers;
}

pub waits_kept : (m : Memory) (b : Book) (q : ℕ) → Inv m b → Kept m b q (waits (view_of m q))
unfolding refusal_number agrees_with after_reply
waits_kept m b q i = record {
  allowed = refl;
  right = refl;
  inv = rw (set-get_or m.parties q idle) (λ row ok. with_row m b i row ok);
  framed = λ j _ _ _. refl;
  asks = rw (set-get_or m.parties q idle) (record { as_many = refl; same_ask = λ j n l. refl });
  stays = λ e. refl;
}

-- ---- A step that moves

-- It leaves the parts of the invariant that it proves; the book is then c.
pub moved-kept : {m : Memory} {b c : Book} {q k : ℕ} {r : Root} {ls ps : List ℕ} {p : Party} {h : Ghost} (t : Turn m b q k)
    → note_for b q (b.entries q) (party_at m.parties q).step ≡ c → Parts m b t.inv q r ls ps p c h
    → Kept m b q (moved (record { root = r; party = p; number = q; locks = ls; pages = ps; behind = (view_of m q).behind }))
unfolding refusal_number agrees_with after_reply performs
moved-kept {m} {b} {c} {q} {k} {r} {ls} {ps} {p} {h} t noted x = record {
  allowed = refl;
  right = refl;
  inv = rw noted (assemble m b t.inv q t.in_row r ls ps p c h x);
  framed = ahead_stays m b t.inv q t.in_row r ls ps p c h x;
  asks = asks_stay m b t.inv q t.in_row r ls ps p c h x;
  stays = λ e. absurd (true≢false (ap performs e));
}
