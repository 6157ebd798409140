-- One party's turn: the invariant holds, the party is in the row, and its step number is known. Every step lemma
-- begins here.
-- Main statements: Turn, turn_at; me, before, after; row_long, party_small; its_claims, has_step_ok, restructures-now,
-- uses_none, note_still, owns_no_old (what goes by the step number); live_now, low-now (how far the file extends while
-- the party restructures).
use mathlib.Core.Path.{◌≡◌, refl, ap, ◌∙◌, subst}
use mathlib.Core.Bool.{Bool, true, false, ◌||◌}
use mathlib.Core.List.{List}
use Prim.Native.Nat.{ℕ, suc, ◌<◌}
use native.Mathlib.Omega.{arith}
use lib.ListN.{length, get_or, set}
use lib.Dec.{eqb}
use Rattle.model.specs.declared.Party.{Party}
use Rattle.model.specs.Sizes.{within}
use Rattle.model.specs.Records.{at_step}
use Rattle.model.specs.LockWords.{Claim}
use Rattle.model.specs.Memory.{Memory, party_at}
use Rattle.model.specs.Book.{Book, Entered, note_for}
use Rattle.model.specs.Steps.Dispatch.{has_step}
use Rattle.model.proofs.Laws.Lists.{eqb-false, left_fails, or_neither}
use Rattle.model.proofs.Invariant.Ghost.{nobody, old_of}
use Rattle.model.proofs.Invariant.Owners.{owns_nothing, kinds_apart}
use Rattle.model.specs.Claims.{claims, claim_table, no_lock}
use Rattle.model.proofs.Invariant.Statement.{restructures, live_for, low_for, uses, Scene, NoPages, Busy, facts_at, scene_of, Inv}
use Rattle.model.proofs.Invariant.Frame.{claims_at_lem, restructures_at_lem}
use Rattle.model.proofs.Invariant.Facts.{facts_at_lem, still_noted}

-- Party q is at step number k: its entry in the book, its bounds and its facts.
pub record Turn (m : Memory) (b : Book) (q k : ℕ) : Type 0 where
  pub inv : Inv m b
  pub in_row : q < m.root.parties
  pub is_at : (party_at m.parties q).step ≡ k
  pub entered : Entered
  pub busy : Busy (scene_of m inv.ghost b) q (party_at m.parties q) entered
  pub facts : facts_at k (scene_of m inv.ghost b) q (party_at m.parties q) entered

-- The turn of a party whose step number is n + 1.
abbrev pub turn_at : (m : Memory) (b : Book) → Inv m b → (q : ℕ) → q < m.root.parties → (n : ℕ) → (party_at m.parties q).step ≡ suc n → Turn m b q (suc n)
turn_at m b i q in_row n e =
    let now = facts_at_lem n (scene_of m i.ghost b) q (party_at m.parties q) e (i.parties_ok q in_row) in
    record { inv = i; in_row = in_row; is_at = e; entered = now.entered; busy = now.busy; facts = now.facts }

-- ---- Tests of a step number

-- The book notes something when such a step moves.
abbrev pub notes_at : ℕ → Bool
notes_at k = eqb k 6 || eqb k 10 || eqb k 11

-- The party uses a primary page outside the live file.
abbrev pub uses_at : ℕ → Bool
uses_at k = eqb k 18 || eqb k 29

-- The party restructures.
abbrev pub restructures_at : ℕ → Bool
restructures_at k = within 16 22 k || within 24 30 k

-- Neither of the first two.
abbrev pub Plain : ℕ → Type 0
Plain k = (notes_at k || uses_at k) ≡ false

-- The locks of a party at step number k.
abbrev pub claims_at : ℕ → Party → List Claim
claims_at k p = get_or claim_table k no_lock p

-- ---- What a turn says

module _ {m : Memory} {b : Book} {q k : ℕ} (t : Turn m b q k) where
  -- The party's record, the scene, and the scene once the record is p and nothing else has changed.
  abbrev pub me : Party
  me = party_at m.parties q

  abbrev pub before : Scene
  before = scene_of m t.inv.ghost b

  abbrev pub after : Party → Scene
  after p = record { root = m.root; parties = set m.parties q p; pages = m.pages; ghost = t.inv.ghost; entries = b.entries }

  -- The row has it, and there are at most 16.
  pub row_long : q < length m.parties
  row_long = omega (arith, t.in_row, t.inv.parties_many)

  pub party_small : q < 16
  party_small = omega (arith, t.in_row, t.inv.limits.parties_fit_lem)

  -- What goes by the step number: its record and its locks, that its operation has the step, whether it restructures, that it uses no page
  -- outside the live file, and that the book stays as it is.
  pub its_record : party_at m.parties q ≡ at_step k (party_at m.parties q)
  its_record = ap (λ (n : ℕ). at_step n me) t.is_at

  pub its_claims : claims m.root (party_at m.parties q) ≡ claims_at k (party_at m.parties q)
  its_claims = claims_at_lem m.root me k t.is_at

  pub has_step_ok : has_step (party_at m.parties q).operation k ≡ true
  has_step_ok = subst (λ (n : ℕ). has_step me.operation n ≡ true) t.is_at t.busy.step_fits

  pub restructures-now : restructures (party_at m.parties q) ≡ restructures_at k
  restructures-now = restructures_at_lem me k t.is_at

  pub uses_none : uses_at k ≡ false → (d : ℕ) → uses (party_at m.parties q) d ≡ false
  unfolding uses
  uses_none h d = ap (λ (p : Party). uses p d) its_record ∙ left_fails (eqb me.other d) h

  pub note_still : notes_at k ≡ false → note_for b q (b.entries q) (party_at m.parties q).step ≡ b
  note_still h =
      let x = or_neither (eqb k 6 || eqb k 10) (eqb k 11) h in
      let y = or_neither (eqb k 6) (eqb k 10) x.0 in
      ap (note_for b q (b.entries q)) t.is_at ∙ still_noted b q (b.entries q) k (eqb-false k 6 y.0) (eqb-false k 10 y.1) (eqb-false k 11 x.1)

  -- A party without pages owns none that is to be given back.
  pub owns_no_old : NoPages before q → (x : ℕ) → t.inv.ghost.own x ≡ old_of q → ⊥
  owns_no_old none x e = owns_nothing t.inv.pages_ok.owned (old_of q) x (kinds_apart (old_of q) nobody refl) none.nothing_old.no_old e

  -- While the party restructures the file extends by its step number.
  pub live_now : restructures_at k ≡ true → t.inv.ghost.live ≡ live_for m.root (at_step k (party_at m.parties q))
  live_now h = t.inv.extents_ok.live-by q (restructures-now ∙ h) ∙ ap (live_for m.root) its_record

  pub low-now : restructures_at k ≡ true → t.inv.ghost.low ≡ low_for m.root (at_step k (party_at m.parties q))
  low-now h = t.inv.extents_ok.low_by q (restructures-now ∙ h) ∙ ap (low_for m.root) its_record
