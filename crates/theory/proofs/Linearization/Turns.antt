-- One event of a run as a turn: it leaves what every party is doing, begins, decides, ends or withdraws an operation; and an
-- order for the rest of a run grows by it.
-- Main statements: Turn (the five kinds), turn_on (an order for the rest becomes one for the whole).
use mathlib.Core.Path.{◌≡◌, refl, sym, ap, ◌∙◌, subst}
use mathlib.Core.Logic.{◌≢◌}
use mathlib.Core.Bool.{true, false}
use mathlib.Core.List.{List, ◌∷◌}
use mathlib.Core.Option.{none, some}
use Prim.Native.Nat.{ℕ, ◌+◌, ◌<◌}
use native.Mathlib.Omega.{arith}
use Rattle.std.specs.Prelude.{Ok}
use Rattle.model.specs.declared.Operation.{Operation}
use Rattle.model.specs.declared.OperationAnswer.{OperationAnswer}
use Rattle.model.specs.declared.Restructuring.{Restructuring}
use Rattle.model.specs.declared.StepAnswer.TheVariants as StepAnswer
use Rattle.model.specs.Runs.{begin_for, step_for, withdraw_for, to_begin, to_step, to_withdraw, Event}
use Rattle.model.specs.Book.{changed_at}
use Rattle.theory.specs.PlainMap.{PlainMap, answers_as_map, map_left_by}
use Rattle.theory.specs.Linearization.{Operated, end_to, entering, decisive_step, marks}
use Rattle.model.proofs.Laws.Lists.{Cmp, same, diff, cmp}
use Rattle.model.proofs.Invariant.Facts.{changed_here, changed_elsewhere}
use Rattle.theory.proofs.Linearization.Ordering.{Status, away, looking, fixed, away_not_looking, Begun, Suffix, still_on, begins_on, decides_on, ends_on, withdraws_on}

-- What an event makes of what the parties are doing and of the map.
pub data Turn (st : ℕ → Status) (s : PlainMap) (e : Event) (st' : ℕ → Status) (s' : PlainMap) : Type 0 where
  still : ((n : ℕ) (es : List Event) (rest : List Operated) → entering n e.call e.reply es rest ≡ rest) → ((p : ℕ) → end_to p e.call e.reply ≡ none)
      → ((p : ℕ) (o : Operation) (k : ℕ) (a : OperationAnswer) → st p ≡ fixed o k a → marks p (some e) ≡ false) → st' ≡ st → s' ≡ s → Turn st s e st' s'
  begins : (q : ℕ) (o : Operation) (k number : ℕ) → e ≡ record { call = begin_for q o k; number = number; reply = to_begin (Ok tt) } → st q ≡ away
      → st' ≡ changed_at st q (looking o k) → s' ≡ s → Turn st s e st' s'
  decides : (q : ℕ) (o : Operation) (k : ℕ) (a : OperationAnswer) → e ≡ record { call = step_for q; number = decisive_step o a; reply = to_step (Ok StepAnswer.Moved) } → st q ≡ looking o k
      → answers_as_map s o k a ≡ true → st' ≡ changed_at st q (fixed o k a) → s' ≡ map_left_by s o k a → Turn st s e st' s'
  ends : (q : ℕ) (o : Operation) (k : ℕ) (a : OperationAnswer) (number : ℕ) (r : Restructuring)
      → e ≡ record { call = step_for q; number = number; reply = to_step (Ok (StepAnswer.Done a r)) } → st q ≡ fixed o k a → st' ≡ changed_at st q away → s' ≡ s → Turn st s e st' s'
  withdraws : (q : ℕ) (o : Operation) (k number : ℕ) → e ≡ record { call = withdraw_for q; number = number; reply = to_withdraw (Ok tt) } → st q ≡ looking o k
      → st' ≡ changed_at st q away → s' ≡ s → Turn st s e st' s'

-- ---- The begins of the operations under way, after a turn

module _ (n : ℕ) (begun : ℕ → ℕ) (st : ℕ → Status) (b : Begun n begun st) where
  begun-later : Begun (n + 1) begun st
  begun-later = record { earlier = λ p. (let l = b.earlier p in omega arith); apart = b.apart }

  -- A party's state became another, which is not new to be under way.
  begun_kept : (q : ℕ) (t : Status) → (st q ≡ away → t ≡ away) → Begun (n + 1) begun (changed_at st q t)
  begun_kept q t h = record { earlier = λ p. (let l = b.earlier p in omega arith); apart = λ p j d x y. b.apart p j d (busy p (cmp p q) x) (busy j (cmp j q) y) }
    where
      busy : (p : ℕ) → Cmp p q → changed_at st q t p ≢ away → st p ≢ away
      busy p (same i) x a = x (changed_here st q t p i ∙ h (ap st (sym i) ∙ a))
      busy p (diff d) x a = x (changed_elsewhere st q t p d ∙ a)

  -- A party began at call n.
  begun_new : (q : ℕ) (o : Operation) (k : ℕ) → Begun (n + 1) (changed_at begun q n) (changed_at st q (looking o k))
  begun_new q o k = record { earlier = λ p. early p (cmp p q); apart = λ p j d x y. away_from p j d (cmp p q) (cmp j q) x y }
    where
      early : (p : ℕ) → Cmp p q → changed_at begun q n p < n + 1
      early p (same i) = omega (arith, changed_here begun q n p i)
      early p (diff d) = omega (arith, changed_elsewhere begun q n p d, b.earlier p)

      away_from : (p j : ℕ) → p ≢ j → Cmp p q → Cmp j q → changed_at st q (looking o k) p ≢ away → changed_at st q (looking o k) j ≢ away → changed_at begun q n p ≢ changed_at begun q n j
      away_from p j d (same i) (same l) x y t = d (i ∙ sym l)
      away_from p j d (same i) (diff l) x y t = omega (arith, changed_here begun q n p i, changed_elsewhere begun q n j l, b.earlier j)
      away_from p j d (diff i) (same l) x y t = omega (arith, changed_elsewhere begun q n p i, changed_here begun q n j l, b.earlier p)
      away_from p j d (diff i) (diff l) x y t =
          b.apart p j d (λ a. x (changed_elsewhere st q (looking o k) p i ∙ a)) (λ a. y (changed_elsewhere st q (looking o k) j l ∙ a))
          (sym (changed_elsewhere begun q n p i) ∙ t ∙ changed_elsewhere begun q n j l)

-- ---- A turn in front

module _ (n : ℕ) (begun : ℕ → ℕ) (st : ℕ → Status) (s : PlainMap) (e : Event) (st' : ℕ → Status) (s' : PlainMap) (es : List Event) (stₑ : ℕ → Status) (sₑ : PlainMap)
    (b : Begun n begun st) (rest : (begun' : ℕ → ℕ) → Begun (n + 1) begun' st' → Suffix (n + 1) begun' st' s' es stₑ sₑ) where
  -- The rest, with what the event made of states and map.
  rest_by : (t : ℕ → Status) (z : PlainMap) → st' ≡ t → s' ≡ z → (begun' : ℕ → ℕ) → Begun (n + 1) begun' t → Suffix (n + 1) begun' t z es stₑ sₑ
  rest_by t z h i begun' c =
      subst (λ (y : PlainMap). Suffix (n + 1) begun' t y es stₑ sₑ) i
      (subst (λ (y : ℕ → Status). Suffix (n + 1) begun' y s' es stₑ sₑ) h (rest begun' (subst (Begun (n + 1) begun') (sym h) c)))

  abbrev Whole : Event → Type 0
  Whole x = Suffix n begun st s (x ∷ es) stₑ sₑ

  pub turn_on : Turn st s e st' s' → Suffix n begun st s (e ∷ es) stₑ sₑ
  turn_on (still enters_none answers_none unmarked h i) =
      still_on n begun st s e es stₑ sₑ (enters_none n es) answers_none unmarked (rest_by st s h i begun (begun-later n begun st b))
  turn_on (begins q o k number x was h i) =
      subst Whole (sym x)
      (begins_on n begun st s q o k number es stₑ sₑ was (rest_by (changed_at st q (looking o k)) s h i (changed_at begun q n) (begun_new n begun st b q o k)))
  turn_on (decides q o k a x was plain h i) =
      subst Whole (sym x)
      (decides_on n begun st s q o k a es stₑ sₑ b was plain
      (rest_by (changed_at st q (fixed o k a)) (map_left_by s o k a) h i begun (begun_kept n begun st b q (fixed o k a) (λ z. absurd (away_not_looking o k (sym z ∙ was))))))
  turn_on (ends q o k a number r x was h i) =
      subst Whole (sym x)
      (ends_on n begun st s q o k a number r es stₑ sₑ was (rest_by (changed_at st q away) s h i begun (begun_kept n begun st b q away (λ z. refl))))
  turn_on (withdraws q o k number x was h i) =
      subst Whole (sym x)
      (withdraws_on n begun st s q o k number es stₑ sₑ b was (rest_by (changed_at st q away) s h i begun (begun_kept n begun st b q away (λ z. refl))))
