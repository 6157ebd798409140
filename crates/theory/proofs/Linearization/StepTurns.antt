-- A call of step as a turn, by what it answered and where it led; what the parties are doing is read off the memory and
-- the book.
-- Main statements: status_of (what a party is doing), StepTurn; waits_turn, searches_turn, goes_on_turn, done_turn, six_turn,
-- ten_turn, eleven_turn.
use mathlib.Core.Path.{◌≡◌, refl, sym, ap, ◌∙◌, fun_ext}
use mathlib.Core.Logic.{◌≢◌}
use mathlib.Core.Bool.{Bool, true, false, ◌&&◌, ◌||◌, false≢true}
use mathlib.Core.Option.{Option, none, some}
use Prim.Native.Nat.{ℕ, ◌<◌}
use native.Mathlib.Omega.{arith}
use lib.ListN.{set}
use lib.Dec.{eqb, leb}
use Rattle.std.specs.Prelude.{Ok, Err}
use Rattle.model.specs.declared.Party.{Party}
use Rattle.model.specs.declared.Operation.{Operation}
use Rattle.model.specs.declared.OperationAnswer.{OperationAnswer}
use Rattle.model.specs.declared.Restructuring.{Restructuring}
use Rattle.model.specs.declared.StepAnswer.{StepAnswer}
use Rattle.model.specs.Records.{idle}
use Rattle.model.specs.Answers.{answer_number, performs, found_or_absent, StepReply}
use Rattle.model.specs.Outcome.{View}
use Rattle.model.specs.Steps.Write.{is_change}
use Rattle.model.specs.Memory.{Memory, party_at, after_step}
use Rattle.model.specs.Calls.{Called, called}
use Rattle.model.specs.Runs.{step_for, to_step}
use Rattle.model.specs.Entries.{has_key, setting_in}
use Rattle.model.specs.Book.{Book, Entered, changed_at, with_entry, with_contents, noted, note_at_ten, note_at_eleven, contents_at_eleven, note_for, after_reply, agrees_with, is_note_of}
use Rattle.theory.specs.Linearization.{entering, end_in, decisive_step, step_marks, marks}
use Rattle.model.proofs.Laws.Lists.{Cmp, same, diff, cmp, eqb-diff, neither_or, left_fails, right_fails}
use Rattle.model.proofs.Invariant.Statement.{Inv}
use Rattle.model.proofs.Invariant.Facts.{still_noted, changed_here, changed_elsewhere}
use Rattle.model.proofs.Effects.Kept.{row_same, row_other}
use Rattle.theory.proofs.Linearization.Ordering.{Status, away, looking, fixed, fixed_not_looking, unended, mark_elsewhere}
use Rattle.theory.proofs.Linearization.Leads.{is_behind, is_past}
use Rattle.theory.proofs.Linearization.Turns.{Turn, still, decides, ends}
use Rattle.theory.proofs.Linearization.Notes.{map_of, six_plain, six_left, ten_plain, ten_left, ten_decides, eleven_plain, eleven_left, eleven_decides, noted_elsewhere, noted_contents, noted_own, after_six, after_ten, after_eleven, note_is_answer}

-- ---- What a party is doing

-- The note, where there is one.
abbrev pub note_or : Option OperationAnswer → OperationAnswer
note_or none = OperationAnswer.NoPage
note_or (some a) = a

-- By its entry in the book, and whether its decisive step is done.
abbrev pub status_by : Option Entered → Bool → Status
status_by none t = away
status_by (some e) true = fixed e.operation e.key (note_or e.note)
status_by (some e) false = looking e.operation e.key

-- What party q is doing, by the memory and the book.
unfoldable pub status_of : Memory → Book → ℕ → Status
status_of m b q = status_by (b.entries q) (is_past (party_at m.parties q))

-- A state put back is no change.
changed_back : (st : ℕ → Status) (q : ℕ) (t : Status) → st q ≡ t → changed_at st q t ≡ st
changed_back st q t h = fun_ext (λ p. go p (cmp p q))
  where
    go : (p : ℕ) → Cmp p q → changed_at st q t p ≡ st p
    go p (same i) = changed_here st q t p i ∙ sym h ∙ ap st (sym i)
    go p (diff d) = changed_elsewhere st q t p d

-- Behind the decisive step no number is one that the book notes.
module _ (n : ℕ) (behind : is_behind n ≡ true) where
  not_number : (k : ℕ) → eqb k 9 ≡ false → leb 12 k ≡ false → n ≢ k
  unfolding is_behind
  not_number k x y i = false≢true (sym (neither_or x y) ∙ ap is_behind (sym i) ∙ behind)

  behind_unnoted : (b : Book) (q : ℕ) (x : Option Entered) → note_for b q x n ≡ b
  behind_unnoted b q x = still_noted b q x n (not_number 6 refl refl) (not_number 10 refl refl) (not_number 11 refl refl)

  behind_unmarked : (eqb n 6 || eqb n 10 || eqb n 11) ≡ false
  behind_unmarked = rw (eqb-diff n 6 (not_number 6 refl refl), eqb-diff n 10 (not_number 10 refl refl), eqb-diff n 11 (not_number 11 refl refl)) refl

-- ---- A call of step

-- A call of step with this answer and memory is a turn.
abbrev pub StepTurn : Memory → Book → ℕ → Called StepReply → Type 0
StepTurn m b q x =
    Turn (status_of m b) (map_of b) (record { call = step_for q; number = (party_at m.parties q).step; reply = to_step x.answer })
    (status_of x.memory (after_reply b q (party_at m.parties q).step x.answer)) (map_of (after_reply b q (party_at m.parties q).step x.answer))

-- One that performs no step.
unmarked_call : (q p number : ℕ) (a : StepReply) → performs a ≡ false → step_marks p number (step_for q) (to_step a) ≡ false
unfolding step_marks
unmarked_call q p number a h = left_fails _ (right_fails (eqb q p) h)

-- A step whose number the book does not note.
unmarked_number : (q p number : ℕ) (a : StepReply) → (eqb number 6 || eqb number 10 || eqb number 11) ≡ false → step_marks p number (step_for q) (to_step a) ≡ false
unfolding step_marks
unmarked_number q p number a h = right_fails (eqb q p && performs a) h

pub waits_turn : (m : Memory) (b : Book) (q : ℕ) (a : StepReply) → performs a ≡ false → StepTurn m b q (called a m)
unfolding performs after_reply entering end_in marks
waits_turn m b q (Ok StepAnswer.Waiting) h = still (λ n es rest. refl) (λ p. unended q p _ refl) (λ p o k a _. unmarked_call q p _ (Ok StepAnswer.Waiting) refl) refl refl
waits_turn m b q (Err n) h = still (λ n es rest. refl) (λ p. unended q p _ refl) (λ p o k a _. unmarked_call q p _ (Err n) refl) refl refl
waits_turn m b q (Ok StepAnswer.Moved) h = absurd (false≢true (sym h))
waits_turn m b q (Ok (StepAnswer.Done a r)) h = absurd (false≢true (sym h))

-- One that performs a step and leaves the view v.
module _ (m : Memory) (b : Book) (i : Inv m b) (q : ℕ) (in_row : q < m.root.parties) (v : View) (number= : v.number ≡ q) where
  abbrev left : Memory
  left = after_step m v

  pub own_record : party_at left.parties q ≡ v.party
  own_record = ap (λ (j : ℕ). party_at (set m.parties j v.party) q) number= ∙ row_same m.parties q v.party (omega (arith, i.parties_many))

  other_record : (p : ℕ) → p ≢ q → party_at left.parties p ≡ party_at m.parties p
  other_record p d = ap (λ (j : ℕ). party_at (set m.parties j v.party) p) number= ∙ row_other m.parties q p v.party d

  -- What the parties are doing then, the book being c.
  pub states_then : (c : Book) (t : Status) → ((p : ℕ) → p ≢ q → c.entries p ≡ b.entries p) → status_by (c.entries q) (is_past v.party) ≡ t
      → status_of left c ≡ changed_at (status_of m b) q t
  unfolding status_of
  states_then c t others own = fun_ext (λ p. go p (cmp p q))
    where
      go : (p : ℕ) → Cmp p q → status_of left c p ≡ changed_at (status_of m b) q t p
      go p (same h) =
          ap (status_of left c) h ∙ ap (λ (x : Party). status_by (c.entries q) (is_past x)) own_record ∙ own ∙ sym (changed_here (status_of m b) q t p h)
      go p (diff d) =
          ap (λ (x : Party). status_by (c.entries p) (is_past x)) (other_record p d) ∙ ap (λ (x : Option Entered). status_by x (is_past (party_at m.parties p))) (others p d)
          ∙ sym (changed_elsewhere (status_of m b) q t p d)

-- The party's entry is e.
module _ (m : Memory) (b : Book) (i : Inv m b) (q : ℕ) (in_row : q < m.root.parties) (v : View) (number= : v.number ≡ q) (e : Entered) (entry : b.entries q ≡ some e) where
  abbrev number : ℕ
  number = (party_at m.parties q).step

  abbrev now : Memory
  now = after_step m v

  abbrev states : (c : Book) (t : Status) → ((p : ℕ) → p ≢ q → c.entries p ≡ b.entries p) → status_by (c.entries q) (is_past v.party) ≡ t
      → status_of now c ≡ changed_at (status_of m b) q t
  states = states_then m b i q in_row v number=

  was_looking : is_behind number ≡ false → status_of m b q ≡ looking e.operation e.key
  unfolding status_of
  was_looking h = rw (entry, h) refl

  was_fixed : is_behind number ≡ true → status_of m b q ≡ fixed e.operation e.key (note_or e.note)
  unfolding status_of
  was_fixed h = rw (entry, h) refl

  -- ---- It moves, its decisive step still to come

  pub searches_turn : is_behind number ≡ false → number ≢ 11 → is_behind v.party.step ≡ false → StepTurn m b q (called (Ok StepAnswer.Moved) now)
  unfolding after_reply entering end_in marks
  searches_turn was not_eleven then =
      let c = note_for b q (b.entries q) number in
      still (λ n es rest. refl) (λ p. unended q p _ refl) (λ p o k a h. elsewhere p o k a h (cmp p q))
      (states c (looking e.operation e.key) (λ p d. noted_elsewhere b q (b.entries q) number p d) own
      ∙ changed_back (status_of m b) q (looking e.operation e.key) (was_looking was))
      (noted_contents b q (b.entries q) number not_eleven)
    where
      own : status_by ((note_for b q (b.entries q) number).entries q) (is_past v.party) ≡ looking e.operation e.key
      own = let k = noted_own b q e entry number in rw (then, k.is, k.operation=, k.key=) refl

      elsewhere : (p : ℕ) (o : Operation) (k : ℕ) (a : OperationAnswer) → status_of m b p ≡ fixed o k a → Cmp p q → step_marks p number (step_for q) (to_step (Ok StepAnswer.Moved)) ≡ false
      elsewhere p o k a h (same j) = absurd (fixed_not_looking o k a e.operation e.key (sym h ∙ ap (status_of m b) j ∙ was_looking was))
      elsewhere p o k a h (diff d) = mark_elsewhere q p number d (Ok StepAnswer.Moved)

  -- ---- It moves, its decisive step being done

  pub goes_on_turn : is_behind number ≡ true → is_behind v.party.step ≡ true → StepTurn m b q (called (Ok StepAnswer.Moved) now)
  unfolding after_reply entering end_in marks
  goes_on_turn was then =
      let same_book = behind_unnoted number was b q (b.entries q) in
      still (λ n es rest. refl) (λ p. unended q p _ refl) (λ p o k a h. unmarked_number q p number (Ok StepAnswer.Moved) (behind_unmarked number was))
      (ap (status_of now) same_book
      ∙ states b (fixed e.operation e.key (note_or e.note)) (λ p d. refl) own
      ∙ changed_back (status_of m b) q (fixed e.operation e.key (note_or e.note)) (was_fixed was))
      (ap map_of same_book)
    where
      own : status_by (b.entries q) (is_past v.party) ≡ fixed e.operation e.key (note_or e.note)
      own = rw (entry, then) refl

  -- ---- It is done

  pub done_turn : (a : OperationAnswer) (r : Restructuring) → is_behind number ≡ true → v.party ≡ idle → agrees_with b q number (Ok (StepAnswer.Done a r)) ≡ true
      → StepTurn m b q (called (Ok (StepAnswer.Done a r)) now)
  unfolding after_reply agrees_with is_note_of
  done_turn a r was then right =
      let same_book = behind_unnoted number was b q (b.entries q) in
      let note : e.note ≡ some a = note_is_answer a e.note (rw (same_book, entry) at right) in
      ends q e.operation e.key a number r refl (was_fixed was ∙ ap (λ (x : Option OperationAnswer). fixed e.operation e.key (note_or x)) note)
      (ap (λ (c : Book). status_of now (with_entry c q none)) same_book
      ∙ states (with_entry b q none) away (λ p d. changed_elsewhere b.entries q none p d) (ap (λ (x : Option Entered). status_by x (is_past v.party)) (changed_here b.entries q none q refl)))
      (ap (λ (c : Book). map_of c) same_book)

  -- ---- It moves by its decisive step

  decided_then : (a : OperationAnswer) (c : Book) → c.entries q ≡ some (noted e a) → is_behind v.party.step ≡ true
      → status_by (c.entries q) (is_past v.party) ≡ fixed e.operation e.key a
  decided_then a c h then = rw (h, then) refl

  pub six_turn : number ≡ 6 → e.operation ≡ Operation.Find → v.party.step ≡ 9 → StepTurn m b q (called (Ok StepAnswer.Moved) now)
  unfolding after_reply decisive_step is_behind
  six_turn k find then =
      let a = found_or_absent (setting_in e.key b.contents) in
      let book = ap (note_for b q (b.entries q)) k ∙ after_six b q e entry find in
      let c = with_entry b q (some (noted e a)) in
      decides q Operation.Find e.key a (ap (λ (n : ℕ). record { call = step_for q; number = n; reply = to_step (Ok StepAnswer.Moved) }) k)
      (was_looking (ap is_behind k) ∙ ap (λ (o : Operation). looking o e.key) find) (six_plain (map_of b) e.key)
      (ap (status_of now) book
      ∙ states c (fixed Operation.Find e.key a) (λ p d. changed_elsewhere b.entries q _ p d)
      (decided_then a c (changed_here b.entries q _ q refl) (ap is_behind then) ∙ ap (λ (o : Operation). fixed o e.key a) find))
      (ap map_of book ∙ sym (six_left (map_of b) e.key (setting_in e.key b.contents)))

  pub ten_turn : number ≡ 10 → e.operation ≢ Operation.Find → v.party.step ≡ 12 → StepTurn m b q (called (Ok StepAnswer.Moved) now)
  unfolding after_reply is_behind
  ten_turn k change then =
      let there = has_key e.key b.contents in
      let a = note_at_ten e.operation there in
      let book = ap (note_for b q (b.entries q)) k ∙ after_ten b q e entry in
      let c = with_entry b q (some (noted e a)) in
      decides q e.operation e.key a
      (ap (λ (n : ℕ). record { call = step_for q; number = n; reply = to_step (Ok StepAnswer.Moved) }) (k ∙ sym (ten_decides e.operation there change)))
      (was_looking (ap is_behind k)) (ten_plain (map_of b) e.operation e.key there change refl)
      (ap (status_of now) book
      ∙ states c (fixed e.operation e.key a) (λ p d. changed_elsewhere b.entries q _ p d)
      (decided_then a c (changed_here b.entries q _ q refl) (ap is_behind then)))
      (ap map_of book ∙ ten_left (map_of b) e.operation e.key there change refl)

  pub eleven_turn : number ≡ 11 → e.operation ≢ Operation.Find → is_change (answer_number (note_at_eleven e.operation (has_key e.key b.contents))) ≡ true
      → v.party.step ≡ 12 → StepTurn m b q (called (Ok StepAnswer.Moved) now)
  unfolding after_reply is_behind
  eleven_turn k change made then =
      let there = has_key e.key b.contents in
      let a = note_at_eleven e.operation there in
      let book = ap (note_for b q (b.entries q)) k ∙ after_eleven b q e entry in
      let c = with_contents (with_entry b q (some (noted e a))) (contents_at_eleven e.operation e.key b.contents) in
      decides q e.operation e.key a
      (ap (λ (n : ℕ). record { call = step_for q; number = n; reply = to_step (Ok StepAnswer.Moved) }) (k ∙ sym (eleven_decides e.operation a change made)))
      (was_looking (ap is_behind k)) (eleven_plain (map_of b) e.operation e.key there change refl)
      (ap (status_of now) book
      ∙ states c (fixed e.operation e.key a) (λ p d. changed_elsewhere b.entries q _ p d)
      (decided_then a c (changed_here b.entries q _ q refl) (ap is_behind then)))
      (ap map_of book ∙ eleven_left b.contents e.key e.operation there change)
