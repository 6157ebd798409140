-- How an order of operations grows by one event, over events and states of parties alone.
-- A party is away, looking (under way, its decisive step to come) or fixed (its decisive step done, with its answer); an
-- event leaves that, begins, decides, ends or withdraws an operation.
-- Main statements: Status, Suffix (an order for the rest of a run), nothing_left (the rest is empty); still_on, begins_on,
-- decides_on, ends_on, withdraws_on (an event more in front).
use mathlib.Core.Path.{◌≡◌, refl, sym, ap, ◌∙◌, subst}
use mathlib.Core.Logic.{◌≢◌, ◌⊎◌, inl, inr}
use mathlib.Core.Bool.{Bool, true, false, cond}
use mathlib.Core.List.Memᴰ
use mathlib.Core.List.{List, [], ◌∷◌, Memᴰ}
use mathlib.Core.Option.{Option, none, some}
use Prim.Native.Nat.{ℕ, ◌+◌, ◌≤◌, ◌<◌}
use native.Mathlib.Omega.{arith}
use lib.Dec.{eqb, leb}
use Rattle.std.specs.Prelude.{Ok, Err}
use Rattle.model.specs.Answers.{StepReply}
use Rattle.model.specs.declared.Operation.{Operation}
use Rattle.model.specs.declared.OperationAnswer.{OperationAnswer}
use Rattle.model.specs.declared.Restructuring.{Restructuring}
use Rattle.model.specs.declared.StepAnswer.{StepAnswer}
use Rattle.model.specs.Runs.{Call, begin_for, step_for, withdraw_for, Reply, to_begin, to_step, to_withdraw, Event}
use Rattle.model.specs.Book.{changed_at}
use Rattle.theory.specs.PlainMap.{PlainMap, answers_as_map, map_left_by}
use Rattle.theory.specs.Linearization.{Ended, Operated, end_in, end_to, or_later, first_end, entering, operations_from, event_from, decisive_step, step_marks, marks, takes_effect, Linearized, ascending_from, times_in, answers_in_order, map_after, is_before}
use Rattle.model.proofs.Laws.Lists.{Cmp, same, diff, cmp, eqb_same, eqb-diff, le-leb, leb-true, ltb-true, and_both, both-and}
use Rattle.model.proofs.Invariant.Facts.{changed_here, changed_elsewhere}

-- ---- What a party is doing

-- Away; looking, with operation and key; fixed, with its answer too.
pub data Status : Type 0 where
  away : Status
  looking : Operation → ℕ → Status
  fixed : Operation → ℕ → OperationAnswer → Status

-- Whether its decisive step is done.
abbrev pub is_fixed : Status → Bool
is_fixed away = false
is_fixed (looking o k) = false
is_fixed (fixed o k a) = true

-- Whether an operation has taken effect, by what its party is doing at the end and how it ended.
abbrev pub in_effect : Status → Option Ended → Bool
in_effect s y = takes_effect (is_fixed s) y

pub away_not_looking : (o : Operation) (k : ℕ) → away ≢ looking o k
away_not_looking o k e = let z : ◌≡◌ {A = ℕ} 0 1 = cc in omega arith

pub away_not_fixed : (o : Operation) (k : ℕ) (a : OperationAnswer) → away ≢ fixed o k a
away_not_fixed o k a e = let z : ◌≡◌ {A = ℕ} 0 1 = cc in omega arith

pub fixed_not_looking : (o : Operation) (k : ℕ) (a : OperationAnswer) (u : Operation) (l : ℕ) → fixed o k a ≢ looking u l
fixed_not_looking o k a u l e = let z : ◌≡◌ {A = ℕ} 0 1 = cc in omega arith

-- ---- An order for the rest of a run

-- The operation under way that party p began at call begun, its end yet to come.
abbrev pub under_way : (ℕ → ℕ) → ℕ → Operation → ℕ → ℕ → List Event → Operated
under_way begun p o k n es = record { begun = begun p; party = p; operation = o; key = k; ended = first_end p n es }

-- Where an operation of the order comes from: it begins in the rest, or its party is looking.
pub data Origin (n : ℕ) (begun : ℕ → ℕ) (st : ℕ → Status) (es : List Event) (x : Operated) : Type 0 where
  from_rest : Memᴰ x (operations_from n es) → Origin n begun st es x
  from_party : (p : ℕ) (o : Operation) (k : ℕ) → st p ≡ looking o k → x ≡ under_way begun p o k n es → Origin n begun st es x

-- An operation of the order in its place.
pub record PlacedFrom (n : ℕ) (begun : ℕ → ℕ) (st : ℕ → Status) (es : List Event) (x : Linearized) : Type 0 where
  pub origin : Origin n begun st es x.operated
  pub inside : n ≤ x.point
  pub after_begin_ok : x.operated.begun < x.point
  pub before_end : (y : Ended) → x.operated.ended ≡ some y → x.point < y.call
  pub same_answer_lem : (y : Ended) → x.operated.ended ≡ some y → y.answer ≡ some x.answer
  pub decisive : event_from n es x.point
      ≡ some (record { call = step_for x.operated.party; number = decisive_step x.operated.operation x.answer; reply = to_step (Ok StepAnswer.Moved) })
  pub last : (j : ℕ) → x.point < j → is_before j x.operated.ended ≡ true → marks x.operated.party (event_from n es j) ≡ false

-- What the rest holds for a party that is fixed, at the end in state s.
pub record Decided (n : ℕ) (es : List Event) (p : ℕ) (a : OperationAnswer) (s : Status) : Type 0 where
  pub effective : in_effect s (first_end p n es) ≡ true
  pub inside : (y : Ended) → first_end p n es ≡ some y → n ≤ y.call
  pub same_answer_lem : (y : Ended) → first_end p n es ≡ some y → y.answer ≡ some a
  pub quiet : (j : ℕ) → n ≤ j → is_before j (first_end p n es) ≡ true → marks p (event_from n es j) ≡ false

-- The begins of the operations under way, all before call n, no two the same.
pub record Begun (n : ℕ) (begun : ℕ → ℕ) (st : ℕ → Status) : Type 0 where
  pub earlier : (p : ℕ) → begun p < n
  pub apart : (p q : ℕ) → p ≢ q → st p ≢ away → st q ≢ away → begun p ≢ begun q

-- An order for the events es of calls numbered from n on, which lead from the states st and the map s to stₑ and sₑ.
pub record Suffix (n : ℕ) (begun : ℕ → ℕ) (st : ℕ → Status) (s : PlainMap) (es : List Event) (stₑ : ℕ → Status) (sₑ : PlainMap) : Type 0 where
  pub order : List Linearized
  pub ascends : ascending_from n order ≡ true
  pub answers : answers_in_order s order ≡ true
  pub left : map_after s order ≡ sₑ
  pub placed : (x : Linearized) → Memᴰ x order → PlacedFrom n begun st es x
  pub entered : (o : Operated) → Memᴰ o (operations_from n es) → times_in o.begun order ≡ cond (in_effect (stₑ o.party) o.ended) 1 0
  pub searching : (p : ℕ) (o : Operation) (k : ℕ) → st p ≡ looking o k → times_in (begun p) order ≡ cond (in_effect (stₑ p) (first_end p n es)) 1 0
  pub no_other : (j : ℕ) → j < n → ((p : ℕ) (o : Operation) (k : ℕ) → st p ≡ looking o k → begun p ≢ j) → times_in j order ≡ 0
  pub decided : (p : ℕ) (o : Operation) (k : ℕ) (a : OperationAnswer) → st p ≡ fixed o k a → Decided n es p a (stₑ p)

-- ---- No event is left

pub nothing_left : (n : ℕ) (begun : ℕ → ℕ) (st : ℕ → Status) (s : PlainMap) → Suffix n begun st s [] st s
unfolding ascending_from answers_in_order map_after times_in first_end operations_from event_from marks
nothing_left n begun st s = record {
  order = [];
  ascends = refl;
  answers = refl;
  left = refl;
  placed = λ x m. absurd (Memᴰ.not-nil m);
  entered = λ o m. absurd (Memᴰ.not-nil m);
  searching = λ p o k e. rw e refl;
  no_other = λ j l f. refl;
  decided = λ p o k a e. record { effective = rw e refl; inside = λ y h. absurd (no_some y h); same_answer_lem = λ y h. absurd (no_some y h); quiet = λ j l h. refl };
}
  where
    no_some : (y : Ended) → ◌≡◌ {A = Option Ended} none (some y) → ⊥
    no_some y h = let z : ◌≡◌ {A = ℕ} 0 1 = cc in omega arith

-- ---- An event in front

ascends_earlier : (n : ℕ) (xs : List Linearized) → ascending_from (n + 1) xs ≡ true → ascending_from n xs ≡ true
unfolding ascending_from
ascends_earlier n [] h = refl
ascends_earlier n (x ∷ xs) h = let b = and_both (leb (n + 1) x.point) (ascending_from (x.point + 1) xs) h in both-and (le-leb n x.point (omega (arith, leb-true (n + 1) x.point b.0))) b.1

module _ (n : ℕ) (e : Event) (es : List Event) where
  event_here : event_from n (e ∷ es) n ≡ some e
  unfolding event_from
  event_here = rw (eqb_same n n refl) refl

  event_later : (j : ℕ) → n < j → event_from n (e ∷ es) j ≡ event_from (n + 1) es j
  unfolding event_from
  event_later j l = rw (eqb-diff j n (omega arith)) refl

  end_later : (p : ℕ) → end_to p e.call e.reply ≡ none → first_end p n (e ∷ es) ≡ first_end p (n + 1) es
  unfolding first_end or_later
  end_later p h = rw h refl

  -- An operation of the order for the rest is in its place in the whole.
  placed_later : (begun begun' : ℕ → ℕ) (st st' : ℕ → Status) (x : Linearized) → (Origin (n + 1) begun' st' es x.operated → Origin n begun st (e ∷ es) x.operated)
      → PlacedFrom (n + 1) begun' st' es x → PlacedFrom n begun st (e ∷ es) x
  placed_later begun begun' st st' x f h =
      let l : n + 1 ≤ x.point = h.inside in
      record {
        origin = f h.origin;
        inside = omega arith;
        after_begin_ok = h.after_begin_ok;
        before_end = h.before_end;
        same_answer_lem = h.same_answer_lem;
        decisive = event_later x.point (omega arith) ∙ h.decisive;
        last = λ j b t. ap (marks x.operated.party) (event_later j (omega arith)) ∙ h.last j b t;
      }

  -- A fixed party that the event neither answers nor marks.
  decided_later : (p : ℕ) (a : OperationAnswer) (s : Status) → end_to p e.call e.reply ≡ none → marks p (some e) ≡ false → Decided (n + 1) es p a s → Decided n (e ∷ es) p a s
  decided_later p a s h u d =
      let f = end_later p h in
      record {
        effective = ap (in_effect s) f ∙ d.effective;
        inside = λ y t. let l = d.inside y (sym f ∙ t) in omega arith;
        same_answer_lem = λ y t. d.same_answer_lem y (sym f ∙ t);
        quiet = λ j l t. go j l (ap (is_before j) (sym f) ∙ t) (cmp j n);
      }
    where
      go : (j : ℕ) → n ≤ j → is_before j (first_end p (n + 1) es) ≡ true → Cmp j n → marks p (event_from n (e ∷ es) j) ≡ false
      go j l t (same i) = ap (λ (x : ℕ). marks p (event_from n (e ∷ es) x)) i ∙ ap (marks p) event_here ∙ u
      go j l t (diff d') = ap (marks p) (event_later j (omega arith)) ∙ d.quiet j (omega arith) t

-- ---- An event that leaves what every party is doing

module _ (n : ℕ) (begun : ℕ → ℕ) (st : ℕ → Status) (s : PlainMap) (e : Event) (es : List Event) (stₑ : ℕ → Status) (sₑ : PlainMap)
    (enters_none : (rest : List Operated) → entering n e.call e.reply es rest ≡ rest)
    (ends_none : (p : ℕ) → end_to p e.call e.reply ≡ none)
    (unmarked : (p : ℕ) (o : Operation) (k : ℕ) (a : OperationAnswer) → st p ≡ fixed o k a → marks p (some e) ≡ false) where
  pub still_on : Suffix (n + 1) begun st s es stₑ sₑ → Suffix n begun st s (e ∷ es) stₑ sₑ
  unfolding operations_from
  still_on x = record {
    order = x.order;
    ascends = ascends_earlier n x.order x.ascends;
    answers = x.answers;
    left = x.left;
    placed = λ y m. placed_later n e es begun begun st st y (from y) (x.placed y m);
    entered = λ o m. x.entered o (subst (Memᴰ o) (enters_none (operations_from (n + 1) es)) m);
    searching = λ p o k h. x.searching p o k h ∙ ap (λ (y : Option Ended). cond (in_effect (stₑ p) y) 1 0) (sym (end_later n e es p (ends_none p)));
    no_other = λ j l f. x.no_other j (omega arith) f;
    decided = λ p o k a h. decided_later n e es p a (stₑ p) (ends_none p) (unmarked p o k a h) (x.decided p o k a h);
  }
    where
      from : (y : Linearized) → Origin (n + 1) begun st es y.operated → Origin n begun st (e ∷ es) y.operated
      from y (from_rest m) = from_rest (subst (Memᴰ y.operated) (sym (enters_none (operations_from (n + 1) es))) m)
      from y (from_party p o k h t) =
          from_party p o k h
          (t ∙ ap (λ (a : Option Ended). record { begun = begun p; party = p; operation = o; key = k; ended = a }) (sym (end_later n e es p (ends_none p))))

-- ---- A begin answered ok

module _ (n : ℕ) (begun : ℕ → ℕ) (st : ℕ → Status) (s : PlainMap) (q : ℕ) (o : Operation) (k number : ℕ) (es : List Event) (stₑ : ℕ → Status) (sₑ : PlainMap)
    (was_away : st q ≡ away) where
  abbrev begin_event : Event
  begin_event = record { call = begin_for q o k; number = number; reply = to_begin (Ok tt) }

  abbrev begun_then : ℕ → ℕ
  begun_then = changed_at begun q n

  abbrev looking_then : ℕ → Status
  looking_then = changed_at st q (looking o k)

  new_operation : (p : ℕ) (u : Operation) (l : ℕ) → p ≡ q → looking_then p ≡ looking u l
      → under_way begun_then p u l (n + 1) es ≡ record { begun = n; party = q; operation = o; key = k; ended = first_end q (n + 1) es }
  new_operation p u l i h =
      let b : begun_then p ≡ n = changed_here begun q n p i in
      let t : looking o k ≡ looking u l = sym (changed_here st q (looking o k) p i) ∙ h in
      let c : o ≡ u = cc in
      let d : k ≡ l = cc in
      rw (b, i, ← c, ← d) refl

  not_looking : (p : ℕ) (u : Operation) (l : ℕ) → st p ≡ looking u l → p ≢ q
  not_looking p u l h i = away_not_looking u l (sym was_away ∙ ap st (sym i) ∙ h)

  not_fixed : (p : ℕ) (u : Operation) (l : ℕ) (a : OperationAnswer) → st p ≡ fixed u l a → p ≢ q
  not_fixed p u l a h i = away_not_fixed u l a (sym was_away ∙ ap st (sym i) ∙ h)

  begins_other : (j p : ℕ) (u : Operation) (l : ℕ) → j < n → ((p : ℕ) (u : Operation) (l : ℕ) → st p ≡ looking u l → begun p ≢ j)
      → looking_then p ≡ looking u l → Cmp p q → begun_then p ≢ j
  begins_other j p u l i f h (same d) t = omega (arith, changed_here begun q n p d)
  begins_other j p u l i f h (diff d) t = f p u l (sym (changed_elsewhere st q (looking o k) p d) ∙ h) (sym (changed_elsewhere begun q n p d) ∙ t)

  begins_from : (y : Linearized) → Origin (n + 1) begun_then looking_then es y.operated → Origin n begun st (begin_event ∷ es) y.operated
  unfolding operations_from entering end_to
  begins_from y (from_rest m) = from_rest (Memᴰ.tail m)
  begins_from y (from_party p u l h t) = go (cmp p q)
    where
      go : Cmp p q → Origin n begun st (begin_event ∷ es) y.operated
      go (same i) = from_rest (Memᴰ.head (t ∙ new_operation p u l i h))
      go (diff d) =
          from_party p u l (sym (changed_elsewhere st q (looking o k) p d) ∙ h)
          (t ∙ ap (λ (b : ℕ). record { begun = b; party = p; operation = u; key = l; ended = first_end p (n + 1) es }) (changed_elsewhere begun q n p d)
          ∙ ap (λ (a : Option Ended). record { begun = begun p; party = p; operation = u; key = l; ended = a }) (sym (end_later n begin_event es p refl)))

  pub begins_on : Suffix (n + 1) begun_then looking_then s es stₑ sₑ → Suffix n begun st s (begin_event ∷ es) stₑ sₑ
  unfolding operations_from entering end_to marks step_marks
  begins_on x = record {
    order = x.order;
    ascends = ascends_earlier n x.order x.ascends;
    answers = x.answers;
    left = x.left;
    placed = λ y m. placed_later n begin_event es begun begun_then st looking_then y (begins_from y) (x.placed y m);
    entered = λ u m. went u (Memᴰ.cases_cons m);
    searching = λ p u l h.
        let d = not_looking p u l h in
        ap (λ (b : ℕ). times_in b x.order) (sym (changed_elsewhere begun q n p d)) ∙ x.searching p u l (changed_elsewhere st q (looking o k) p d ∙ h)
        ∙ ap (λ (y : Option Ended). cond (in_effect (stₑ p) y) 1 0) (sym (end_later n begin_event es p refl));
    no_other = λ j i f. x.no_other j (omega arith) (λ p u l h. begins_other j p u l i f h (cmp p q));
    decided = λ p u l a h.
        decided_later n begin_event es p a (stₑ p) refl refl (x.decided p u l a (changed_elsewhere st q (looking o k) p (not_fixed p u l a h) ∙ h));
  }
    where
      went : (u : Operated) → (u ≡ record { begun = n; party = q; operation = o; key = k; ended = first_end q (n + 1) es }) ⊎ Memᴰ u (operations_from (n + 1) es)
          → times_in u.begun x.order ≡ cond (in_effect (stₑ u.party) u.ended) 1 0
      went u (inl i) =
          subst (λ (v : Operated). times_in v.begun x.order ≡ cond (in_effect (stₑ v.party) v.ended) 1 0) (sym i)
          (ap (λ (b : ℕ). times_in b x.order) (sym (changed_here begun q n q refl)) ∙ x.searching q o k (changed_here st q (looking o k) q refl))
      went u (inr m) = x.entered u m

-- ---- A step that moves, or ends its operation

-- Operations entered by calls numbered from n on begin at n or later.
module _ (n : ℕ) (es : List Event) (rest : List Operated) (o : Operated) (later : Memᴰ o rest → n ≤ o.begun) where
  first_late : (u : Operated) → u.begun ≡ n → (o ≡ u) ⊎ Memᴰ o rest → n ≤ o.begun
  first_late u h (inl i) = omega (arith, ap (λ (v : Operated). v.begun) i)
  first_late u h (inr t) = later t

  entering_late : (c : Call) (r : Reply) → Memᴰ o (entering n c r es rest) → n ≤ o.begun
  unfolding entering
  entering_late (begin_for q x k) (to_begin (Ok _)) t = first_late _ refl (Memᴰ.cases_cons t)
  entering_late (begin_for q x k) (to_begin (Err z)) t = later t
  entering_late (begin_for q x k) (to_step a) t = later t
  entering_late (begin_for q x k) (to_withdraw a) t = later t
  entering_late (step_for q) r t = later t
  entering_late (withdraw_for q) r t = later t

pub entered_late : (n : ℕ) (es : List Event) (o : Operated) → Memᴰ o (operations_from n es) → n ≤ o.begun
unfolding operations_from
entered_late n [] o m = absurd (Memᴰ.not-nil m)
entered_late n (e ∷ es) o m =
    entering_late n es (operations_from (n + 1) es) o (λ t. let l = entered_late (n + 1) es o t in omega arith) e.call e.reply m

-- A step of another party neither ends nor marks, and a withdraw of another party does not end.
pub step_elsewhere : (q p : ℕ) → p ≢ q → (r : Reply) → end_to p (step_for q) r ≡ none
unfolding end_to
step_elsewhere q p d r = rw (eqb-diff q p (λ i. d (sym i))) refl

withdraw_elsewhere : (q p : ℕ) → p ≢ q → (r : Reply) → end_to p (withdraw_for q) r ≡ none
unfolding end_to
withdraw_elsewhere q p d r = rw (eqb-diff q p (λ i. d (sym i))) refl

pub mark_elsewhere : (q p number : ℕ) → p ≢ q → (a : StepReply) → step_marks p number (step_for q) (to_step a) ≡ false
unfolding step_marks
mark_elsewhere q p number d a = rw (eqb-diff q p (λ i. d (sym i))) refl

-- A reply that is no end ends nobody's operation.
no_end : (q p : ℕ) (r : Reply) → end_in r ≡ none → cond (eqb q p) (end_in r) none ≡ none
no_end q p r h = go (cmp p q)
  where
    go : Cmp p q → cond (eqb q p) (end_in r) none ≡ none
    go (same i) = rw (eqb_same q p (sym i)) h
    go (diff d) = rw (eqb-diff q p (λ i. d (sym i))) refl

pub unended : (q p : ℕ) (r : Reply) → end_in r ≡ none → end_to p (step_for q) r ≡ none
unfolding end_to
unended q p r h = no_end q p r h

pub unwithdrawn : (q p : ℕ) (r : Reply) → end_in r ≡ none → end_to p (withdraw_for q) r ≡ none
unfolding end_to
unwithdrawn q p r h = no_end q p r h

-- After a party's state became one that is not looking, those who look are others, and did so before.
module _ (st : ℕ → Status) (q : ℕ) (t : Status) (not_looking : (u : Operation) (l : ℕ) → t ≢ looking u l) where
  others_look : (p : ℕ) (u : Operation) (l : ℕ) → changed_at st q t p ≡ looking u l → p ≢ q
  others_look p u l h i = not_looking u l (sym (changed_here st q t p i) ∙ h)

  looked_before : (p : ℕ) (u : Operation) (l : ℕ) → changed_at st q t p ≡ looking u l → st p ≡ looking u l
  looked_before p u l h = sym (changed_elsewhere st q t p (others_look p u l h)) ∙ h

  -- The event enters no operation, and ends none of another party.
  origin_before : (n : ℕ) (begun : ℕ → ℕ) (e : Event) (es : List Event) → ((rest : List Operated) → entering n e.call e.reply es rest ≡ rest)
      → ((p : ℕ) → p ≢ q → end_to p e.call e.reply ≡ none) → (y : Linearized)
      → Origin (n + 1) begun (changed_at st q t) es y.operated → Origin n begun st (e ∷ es) y.operated
  unfolding operations_from
  origin_before n begun e es enters_none elsewhere y (from_rest m) = from_rest (subst (Memᴰ y.operated) (sym (enters_none (operations_from (n + 1) es))) m)
  origin_before n begun e es enters_none elsewhere y (from_party p u l h i) =
      from_party p u l (looked_before p u l h)
      (i
      ∙ ap (λ (v : Option Ended). record { begun = begun p; party = p; operation = u; key = l; ended = v })
      (sym (end_later n e es p (elsewhere p (others_look p u l h)))))

-- ---- A decisive step

module _ (n : ℕ) (begun : ℕ → ℕ) (st : ℕ → Status) (s : PlainMap) (q : ℕ) (o : Operation) (k : ℕ) (a : OperationAnswer) (es : List Event) (stₑ : ℕ → Status) (sₑ : PlainMap)
    (begins : Begun n begun st) (was_looking : st q ≡ looking o k) (plain : answers_as_map s o k a ≡ true) where
  abbrev decisive_event : Event
  decisive_event = record { call = step_for q; number = decisive_step o a; reply = to_step (Ok StepAnswer.Moved) }

  abbrev fixed_then : ℕ → Status
  fixed_then = changed_at st q (fixed o k a)

  abbrev its_place : Linearized
  its_place = record { operated = under_way begun q o k (n + 1) es; point = n; answer = a }

  moved_none : (p : ℕ) → end_to p (step_for q) (to_step (Ok StepAnswer.Moved)) ≡ none
  unfolding end_in
  moved_none p = unended q p (to_step (Ok StepAnswer.Moved)) refl

  busy : (p : ℕ) (u : Operation) (l : ℕ) → st p ≡ looking u l → st p ≢ away
  busy p u l h i = away_not_looking u l (sym i ∙ h)

  not_fixed_yet : (p : ℕ) (u : Operation) (l : ℕ) (b : OperationAnswer) → st p ≡ fixed u l b → p ≢ q
  not_fixed_yet p u l b h i = fixed_not_looking u l b o k (sym h ∙ ap st i ∙ was_looking)

  no_more_looking : (u : Operation) (l : ℕ) → fixed o k a ≢ looking u l
  no_more_looking u l = fixed_not_looking o k a u l

  module _ (x : Suffix (n + 1) begun fixed_then (map_left_by s o k a) es stₑ sₑ) where
    now_fixed : Decided (n + 1) es q a (stₑ q)
    now_fixed = x.decided q o k a (changed_here st q (fixed o k a) q refl)

    placed_here : PlacedFrom n begun st (decisive_event ∷ es) its_place
    placed_here = record {
      origin = from_party q o k was_looking (ap (λ (v : Option Ended). record { begun = begun q; party = q; operation = o; key = k; ended = v }) (sym (end_later n _ es q (moved_none q))));
      inside = omega arith;
      after_begin_ok = begins.earlier q;
      before_end = λ y h. let l = now_fixed.inside y h in omega arith;
      same_answer_lem = now_fixed.same_answer_lem;
      decisive = event_here n decisive_event es;
      last = λ j l h. ap (marks q) (event_later n decisive_event es j l) ∙ now_fixed.quiet j (omega arith) h;
    }

    -- Its begin is no other's.
    none_after : times_in (begun q) x.order ≡ 0
    none_after =
        let l = begins.earlier q in
        x.no_other (begun q) (omega arith)
        (λ p u i h.
        let t = looked_before st q (fixed o k a) no_more_looking p u i h in
        begins.apart p q (others_look st q (fixed o k a) no_more_looking p u i h) (busy p u i t) (busy q o k was_looking))

    times_elsewhere : (j : ℕ) → begun q ≢ j → times_in j (its_place ∷ x.order) ≡ times_in j x.order
    unfolding times_in
    times_elsewhere j d = rw (eqb-diff (begun q) j d) (omega arith)

    times_here : times_in (begun q) (its_place ∷ x.order) ≡ 1
    unfolding times_in
    times_here = rw (eqb_same (begun q) (begun q) refl, none_after) refl

    searched : (p : ℕ) (u : Operation) (l : ℕ) → st p ≡ looking u l → Cmp p q
        → times_in (begun p) (its_place ∷ x.order) ≡ cond (in_effect (stₑ p) (first_end p n (decisive_event ∷ es))) 1 0
    searched p u l h (same i) =
        ap (λ (j : ℕ). times_in (begun j) (its_place ∷ x.order)) i ∙ times_here
        ∙ ap (λ (t : Bool). cond t 1 0) (sym now_fixed.effective ∙ ap (in_effect (stₑ q)) (sym (end_later n decisive_event es q (moved_none q))))
        ∙ ap (λ (j : ℕ). cond (in_effect (stₑ j) (first_end j n (decisive_event ∷ es))) 1 0) (sym i)
    searched p u l h (diff d) =
        times_elsewhere (begun p) (begins.apart q p (λ i. d (sym i)) (busy q o k was_looking) (busy p u l h))
        ∙ x.searching p u l (changed_elsewhere st q (fixed o k a) p d ∙ h)
        ∙ ap (λ (y : Option Ended). cond (in_effect (stₑ p) y) 1 0) (sym (end_later n decisive_event es p (moved_none p)))

    place_of : (y : Linearized) → (y ≡ its_place) ⊎ Memᴰ y x.order → PlacedFrom n begun st (decisive_event ∷ es) y
    unfolding entering
    place_of y (inl i) = subst (PlacedFrom n begun st (decisive_event ∷ es)) (sym i) placed_here
    place_of y (inr m) =
        placed_later n decisive_event es begun begun st fixed_then y (origin_before st q (fixed o k a) no_more_looking n begun decisive_event es (λ rest. refl) (λ p d. moved_none p) y) (x.placed y m)

    pub decides_on : Suffix n begun st s (decisive_event ∷ es) stₑ sₑ
    unfolding operations_from entering marks ascending_from answers_in_order map_after
    decides_on = record {
      order = its_place ∷ x.order;
      ascends = both-and (le-leb n n (omega arith)) x.ascends;
      answers = both-and plain x.answers;
      left = x.left;
      placed = λ y m. place_of y (Memᴰ.cases_cons m);
      entered = λ u m. times_elsewhere u.begun (let l = entered_late (n + 1) es u m in let i = begins.earlier q in omega arith) ∙ x.entered u m;
      searching = λ p u l h. searched p u l h (cmp p q);
      no_other = λ j l f.
          times_elsewhere j (f q o k was_looking) ∙ x.no_other j (omega arith) (λ p u i h. f p u i (looked_before st q (fixed o k a) no_more_looking p u i h));
      decided = λ p u l b h.
          let d = not_fixed_yet p u l b h in
          decided_later n decisive_event es p b (stₑ p) (moved_none p) (mark_elsewhere q p (decisive_step o a) d (Ok StepAnswer.Moved))
          (x.decided p u l b (changed_elsewhere st q (fixed o k a) p d ∙ h));
    }

-- ---- Done

module _ (n : ℕ) (begun : ℕ → ℕ) (st : ℕ → Status) (s : PlainMap) (q : ℕ) (o : Operation) (k : ℕ) (a : OperationAnswer) (number : ℕ) (r : Restructuring) (es : List Event)
    (stₑ : ℕ → Status) (sₑ : PlainMap) (was_fixed : st q ≡ fixed o k a) where
  abbrev done_event : Event
  done_event = record { call = step_for q; number = number; reply = to_step (Ok (StepAnswer.Done a r)) }

  abbrev away_then : ℕ → Status
  away_then = changed_at st q away

  its_end : first_end q n (done_event ∷ es) ≡ some (record { call = n; answer = some a })
  unfolding first_end end_to end_in or_later
  its_end = rw (eqb_same q q refl) refl

  abbrev call_of : Option Ended → ℕ
  call_of none = 0
  call_of (some y) = y.call

  answered-now : Decided n (done_event ∷ es) q a (stₑ q)
  unfolding is_before
  answered-now = record {
    effective = ap (in_effect (stₑ q)) its_end;
    inside = λ y h. omega (arith, ap call_of (sym its_end ∙ h));
    same_answer_lem = λ y h. let t : ◌≡◌ {A = Option Ended} (some (record { call = n; answer = some a })) (some y) = sym its_end ∙ h in cc;
    quiet = λ j l h. absurd (let t = ltb-true j n (ap (is_before j) (sym its_end) ∙ h) in omega arith);
  }

  ended_or_later : (x : Suffix (n + 1) begun away_then s es stₑ sₑ) (p : ℕ) (u : Operation) (l : ℕ) (b : OperationAnswer) → st p ≡ fixed u l b → Cmp p q
      → Decided n (done_event ∷ es) p b (stₑ p)
  unfolding marks
  ended_or_later x p u l b h (same i) =
      let t : fixed o k a ≡ fixed u l b = sym was_fixed ∙ ap st (sym i) ∙ h in
      let c : a ≡ b = cc in
      subst (λ (c : OperationAnswer). Decided n (done_event ∷ es) p c (stₑ p)) c (subst (λ (j : ℕ). Decided n (done_event ∷ es) j a (stₑ j)) (sym i) answered-now)
  ended_or_later x p u l b h (diff d) =
      decided_later n done_event es p b (stₑ p) (step_elsewhere q p d _) (mark_elsewhere q p number d _) (x.decided p u l b (changed_elsewhere st q away p d ∙ h))

  not_searching : (p : ℕ) (u : Operation) (l : ℕ) → st p ≡ looking u l → p ≢ q
  not_searching p u l h i = fixed_not_looking o k a u l (sym was_fixed ∙ ap st (sym i) ∙ h)

  pub ends_on : Suffix (n + 1) begun away_then s es stₑ sₑ → Suffix n begun st s (done_event ∷ es) stₑ sₑ
  unfolding operations_from entering
  ends_on x = record {
    order = x.order;
    ascends = ascends_earlier n x.order x.ascends;
    answers = x.answers;
    left = x.left;
    placed = λ y m. placed_later n done_event es begun begun st away_then y (origin_before st q away away_not_looking n begun done_event es (λ rest. refl) (λ p d. step_elsewhere q p d _) y) (x.placed y m);
    entered = x.entered;
    searching = λ p u l h.
        let d = not_searching p u l h in
        x.searching p u l (changed_elsewhere st q away p d ∙ h)
        ∙ ap (λ (y : Option Ended). cond (in_effect (stₑ p) y) 1 0) (sym (end_later n done_event es p (step_elsewhere q p d _)));
    no_other = λ j l f. x.no_other j (omega arith) (λ p u i h. f p u i (looked_before st q away away_not_looking p u i h));
    decided = λ p u l b h. ended_or_later x p u l b h (cmp p q);
  }

-- ---- Withdrawn

module _ (n : ℕ) (begun : ℕ → ℕ) (st : ℕ → Status) (s : PlainMap) (q : ℕ) (o : Operation) (k number : ℕ) (es : List Event) (stₑ : ℕ → Status) (sₑ : PlainMap)
    (begins : Begun n begun st) (was_looking : st q ≡ looking o k) where
  abbrev withdraw_event : Event
  withdraw_event = record { call = withdraw_for q; number = number; reply = to_withdraw (Ok tt) }

  abbrev gone_then : ℕ → Status
  gone_then = changed_at st q away

  its_withdraw : first_end q n (withdraw_event ∷ es) ≡ some (record { call = n; answer = none })
  unfolding first_end end_to end_in or_later
  its_withdraw = rw (eqb_same q q refl) refl

  still_busy : (p : ℕ) (u : Operation) (l : ℕ) → st p ≡ looking u l → st p ≢ away
  still_busy p u l h i = away_not_looking u l (sym i ∙ h)

  -- It stands nowhere in the order.
  module _ (x : Suffix (n + 1) begun gone_then s es stₑ sₑ) where
    none_there : times_in (begun q) x.order ≡ 0
    none_there =
        x.no_other (begun q) (omega (arith, begins.earlier q))
        (λ p u l h.
        begins.apart p q (others_look st q away away_not_looking p u l h) (still_busy p u l (looked_before st q away away_not_looking p u l h)) (still_busy q o k was_looking))

    sought : (p : ℕ) (u : Operation) (l : ℕ) → st p ≡ looking u l → Cmp p q → times_in (begun p) x.order ≡ cond (in_effect (stₑ p) (first_end p n (withdraw_event ∷ es))) 1 0
    sought p u l h (same i) =
        ap (λ (j : ℕ). times_in (begun j) x.order) i ∙ none_there ∙ ap (λ (y : Option Ended). cond (in_effect (stₑ p) y) 1 0) (sym its_withdraw ∙ ap (λ (j : ℕ). first_end j n (withdraw_event ∷ es)) (sym i))
    sought p u l h (diff d) =
        x.searching p u l (changed_elsewhere st q away p d ∙ h)
        ∙ ap (λ (y : Option Ended). cond (in_effect (stₑ p) y) 1 0) (sym (end_later n withdraw_event es p (withdraw_elsewhere q p d _)))

    not-withdrawn : (p : ℕ) (u : Operation) (l : ℕ) (b : OperationAnswer) → st p ≡ fixed u l b → p ≢ q
    not-withdrawn p u l b h i = fixed_not_looking u l b o k (sym h ∙ ap st i ∙ was_looking)

    pub withdraws_on : Suffix n begun st s (withdraw_event ∷ es) stₑ sₑ
    unfolding operations_from entering marks step_marks
    withdraws_on = record {
      order = x.order;
      ascends = ascends_earlier n x.order x.ascends;
      answers = x.answers;
      left = x.left;
      placed = λ y m.
          placed_later n withdraw_event es begun begun st gone_then y
          (origin_before st q away away_not_looking n begun withdraw_event es (λ rest. refl) (λ p d. withdraw_elsewhere q p d _) y) (x.placed y m);
      entered = x.entered;
      searching = λ p u l h. sought p u l h (cmp p q);
      no_other = λ j l f. x.no_other j (omega arith) (λ p u i h. f p u i (looked_before st q away away_not_looking p u i h));
      decided = λ p u l b h.
          let d = not-withdrawn p u l b h in
          decided_later n withdraw_event es p b (stₑ p) (withdraw_elsewhere q p d _) refl (x.decided p u l b (changed_elsewhere st q away p d ∙ h));
    }
