-- Steps that end an operation: the party gives up all it holds, its record and scratch page are zeroed, and its answer
-- is the book's note.
-- Main statements: claims_claimed (every lock of a list is claimed by it); Ends (what such a step owes), held_listed
-- (its locks are found held), done-kept, ended-kept.
use mathlib.Core.Path.{◌≡◌, refl, sym, ◌∙◌, subst, ap}
use mathlib.Core.Bool.{true, true≢false}
use mathlib.Core.List.{List, [], ◌∷◌}
use mathlib.Core.Option.{none, some}
use Prim.Native.Nat.{ℕ, ◌<◌}
use lib.ListN.{set}
use Rattle.model.specs.declared.OperationAnswer.{OperationAnswer}
use Rattle.model.specs.declared.Restructuring.{Restructuring}
use Rattle.model.specs.Sizes.{lock_words}
use Rattle.model.specs.Records.{idle}
use Rattle.model.specs.Answers.{answer_of, refusal_number, performs}
use Rattle.model.specs.LockWords.{Claim}
use Rattle.model.specs.Pages.{with_page, scratch_page, zero_page}
use Rattle.model.specs.Endings.{done, ended_with}
use Rattle.model.specs.LockRequests.{held_all, given_up}
use Rattle.model.specs.Memory.{Memory, view_of}
use Rattle.model.specs.Book.{Book, changed_at, with_entry, note_for, agrees_with, after_reply, is_note, is_note_of}
use Rattle.model.proofs.Laws.Lists.{All, all_map, eqb_same, eqb-diff, or_neither}
use Rattle.model.proofs.Laws.Pages.{length-zero_page}
use Rattle.model.specs.Claims.{claims}
use Rattle.model.proofs.Invariant.Claims.{is_claimed, claimed}
use Rattle.model.proofs.Invariant.Statement.{ExtentsOk, NoPages, resting, Inv}
use Rattle.model.proofs.Invariant.Frame.{named, later}
use Rattle.model.proofs.Invariant.Facts.{no_pages_held}
use Rattle.model.proofs.Invariant.Turn.{Plain, Turn, before, claims_at, its_claims, me, note_still, notes_at, owns_no_old, uses_none, uses_at}
use Rattle.model.proofs.Effects.Kept.{Kept, Parts, assemble, ahead_stays, asks_stay}
use Rattle.model.proofs.Laws.WaitingRow.{RowOk}
use Rattle.model.proofs.Effects.ScratchPage.{scratch_same, scratch_parts}
use Rattle.model.proofs.Effects.GiveUps.{Apart, given_up_rest, held_all_lem, release_all}
use Rattle.model.proofs.Laws.Answers.{same_answer_lem}

-- Every lock of a list is claimed by it.
pub claims_claimed : (cs : List Claim) → All (λ c. is_claimed cs c.word c.mode ≡ true) cs
claims_claimed [] = tt
claims_claimed (c ∷ cs) = (named cs c.word c.mode, all_map cs (λ d h. later c cs d.word d.mode h) (claims_claimed cs))

-- What a step owes that ends the operation with the answer a, where the party holds the locks cs.
pub record Ends {m : Memory} {b : Book} {q k : ℕ} (t : Turn m b q k) (a : OperationAnswer) (cs : List Claim) : Type 0 where
  pub plain : Plain k
  pub noted : t.entered.note ≡ some a
  pub no_pages : NoPages (before t) q
  pub extents : ExtentsOk m.root (set m.parties q idle) t.inv.ghost
  pub holds : claims_at k (me t) ≡ cs
  pub apart : Apart cs
  pub fit : All (λ c. c.word < lock_words m.root) cs

module _ {m : Memory} {b : Book} {q k : ℕ} (t : Turn m b q k) {a : OperationAnswer} {cs : List Claim} (x : Ends t a cs) where
  has : claims m.root (me t) ≡ cs
  has = its_claims t ∙ x.holds

  claimed_all : All (λ c. claimed m.root m.parties c.word q c.mode ≡ true) cs
  claimed_all = subst (λ (ds : List Claim). All (λ (c : Claim). is_claimed ds c.word c.mode ≡ true) cs) (sym has) (claims_claimed cs)

  -- All that it claims is found held.
  pub held_listed : held_all (view_of m q) cs ≡ true
  held_listed = held_all_lem (view_of m q) t.inv.locks_ok cs x.fit claimed_all

  still : note_for b q (b.entries q) (me t).step ≡ b
  still = note_still t (or_neither (notes_at k) (uses_at k) x.plain).0

  done_parts : Parts m b t.inv q m.root (given_up cs (view_of m q)).locks (with_page m.pages (scratch_page m.root q) zero_page) idle (with_entry b q none) t.inv.ghost
  unfolding claims changed_at
  done_parts =
      scratch_parts t zero_page length-zero_page idle (with_entry b q none) (given_up cs (view_of m q)).locks
      (record {
        entries= = λ j n. rw (eqb-diff j q n) refl;
        contents= = refl;
        stays = λ y o. absurd (owns_no_old t x.no_pages y o);
        frees = λ d _. uses_none t (or_neither (notes_at k) (uses_at k) x.plain).1 d;
        extents = x.extents;
        locks = release_all t idle refl cs has x.apart x.fit claimed_all;
        self = resting refl (rw (eqb_same q q refl) refl) (no_pages_held _ _ q refl x.no_pages) (scratch_same m b t.inv q t.in_row zero_page length-zero_page);
      })

  done_inv : (row : List ℕ) → RowOk m.root (set m.parties q idle) row
      → Inv (record { root = m.root; parties = set m.parties q idle; locks = (given_up cs (view_of m q)).locks; pages = with_page m.pages (scratch_page m.root q) zero_page; waiting = row }) (with_entry b q none)
  done_inv = assemble m b t.inv q t.in_row m.root _ _ idle (with_entry b q none) t.inv.ghost done_parts

  pub done-kept : (s : Restructuring) → Kept m b q (done a s (given_up cs (view_of m q)))
  unfolding refusal_number agrees_with after_reply is_note is_note_of performs
  done-kept s =
      rw (given_up_rest cs (view_of m q))
      (record {
        allowed = refl;
        right = rw (still, t.busy.entry, x.noted, same_answer_lem a) refl;
        inv = rw still done_inv;
        framed = ahead_stays m b t.inv q t.in_row m.root _ _ idle (with_entry b q none) t.inv.ghost done_parts;
        asks = asks_stay m b t.inv q t.in_row m.root _ _ idle (with_entry b q none) t.inv.ghost done_parts;
        stays = λ e. absurd (true≢false (ap performs e));
      })

-- Step 16, 17, 24, 26 or 30: all locks are given up, and the answer is that of the record.
pub ended-kept : {m : Memory} {b : Book} {q k : ℕ} (t : Turn m b q k) {cs : List Claim} → Ends t (answer_of (me t).answer) cs → (s : Restructuring) → Kept m b q (ended_with (view_of m q) cs s)
unfolding ended_with
ended-kept t x s = rw (held_listed t x) (done-kept t x s)
