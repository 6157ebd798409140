-- A turn, and turns one after the other: what is printed and held is what the definition says of all the text read,
-- whatever the blocks were.
-- Main statements: rest_answered (lines of a part); more_answered, read_answered (a turn without and
-- with a read); replies_told (what is written); Turned, text_answered_lem, all_answered (turns one after the other).
use mathlib.Core.Path.{◌≡◌, refl, sym, ◌∙◌, ap}
use mathlib.Core.List.{List, [], ◌++◌, append-nil, append_assoc}
use Prim.Native.Nat.{ℕ, ◌+◌, ◌-◌, min, ◌≤◌}
use lib.ListN.{length, take, drop, take-append-drop}
use lib.Seq.{take-take}
use Rattle.model.specs.Memory.{Memory}
use Rattle.model.specs.Calls.{called}
use Rattle.lines.proofs.Words.{first_of_lem}
use Rattle.lines.specs.Texts.{line_length, printed_before, text_answered}
use Rattle.lines.proofs.Texts.{no_line}
use Rattle.turns.specs.Turned.{part, most_kept, AnsweredTo, RepliesTo}
use Rattle.turns.proofs.Parts.{drop-take, part-drop, part_length, part_front, part_none, cut_kept}

-- Lines of a part were answered as far as its byte j.
pub rest_answered : (b : List ℕ) (from to j : ℕ) (m n : Memory) (p : List ℕ)
    → ((t : List ℕ) → text_answered [] (part b from to ++ t) m ≡ printed_before p (text_answered [] (drop j (part b from to) ++ t) n)) → AnsweredTo (part b from to) m p (part b (from + j) to) n
rest_answered b from to j m n p said t = said t ∙ ap (λ (l : List ℕ). printed_before p (text_answered [] (l ++ t) n)) (part-drop b from j to)

-- No byte was read.
pub more_answered : (b : List ℕ) (from to : ℕ) (m n : Memory) (p v : List ℕ) → AnsweredTo (part b from to) m p v n → AnsweredTo (part b from to ++ part b to to) m p v n
more_answered b from to m n p v said t =
    ap (λ (l : List ℕ). text_answered [] (l ++ t) m) (ap (λ (l : List ℕ). part b from to ++ l) (part_none b to) ∙ append-nil (part b from to)) ∙ said t

-- An unfinished line stood in buffer b₀; k bytes of it were kept at the front, as b₁ has them, and bytes to place
-- `end` were read behind them, as b has them; the text then in b was answered.
module _ (b₀ b₁ b : List ℕ) (from to k end : ℕ) (inside : (from ≤ to) × (to ≤ length b₀)) (many : k ≡ min most_kept (to - from)) (few : k ≤ to - from) (front : take k b₁ ≡ take k (drop from b₀)) (kept : take k b ≡ take k b₁)
    (later : k ≤ end) where
  cut : take most_kept (part b₀ from to) ≡ take k (drop from b₀)
  cut =
      let long = part_length b₀ from to inside.0 inside.1 in
      sym (first_of_lem most_kept k (part b₀ from to) (many ∙ ap (min most_kept) (sym long))) ∙ take-take k (to - from) (drop from b₀) few

  whole : take most_kept (part b₀ from to) ++ part b k end ≡ part b 0 end
  whole =
      ap (λ (l : List ℕ). l ++ part b k end) (cut ∙ sym front ∙ sym kept ∙ sym (take-take k end b later))
      ∙ ap (λ (l : List ℕ). take k (take end b) ++ l) (sym (drop-take k end b)) ∙ take-append-drop k (take end b) ∙ sym (part_front b end)

  pub read_answered : (m n : Memory) (p v : List ℕ) → length (part b₀ from to) ≤ line_length (part b₀ from to) → AnsweredTo (part b 0 end) m p v n → AnsweredTo (part b₀ from to ++ part b k end) m p v n
  read_answered m n p v one said t =
      ap (λ (l : List ℕ). text_answered [] l m) (append_assoc (part b₀ from to) (part b k end) t)
      ∙ sym (cut_kept (part b₀ from to) (part b k end ++ t) m one)
      ∙ ap (λ (l : List ℕ). text_answered [] l m) (sym (append_assoc (take most_kept (part b₀ from to)) (part b k end) t))
      ∙ ap (λ (l : List ℕ). text_answered [] (l ++ t) m) whole
      ∙ said t

-- What is printed where no whole line is left: what the definition says of the text.
pub replies_told : {u printed v : List ℕ} {n : Memory} (g : RepliesTo u printed v n) → length v ≤ line_length v → text_answered [] u g.before ≡ called printed n
replies_told {u} {printed} {v} {n} g h =
    ap (λ (l : List ℕ). text_answered [] l g.before) (sym (append-nil u))
    ∙ g.answered []
    ∙ ap (λ (l : List ℕ). printed_before printed (text_answered [] l n)) (append-nil v)
    ∙ ap (printed_before printed) (no_line [] v n h)
    ∙ ap (λ (l : List ℕ). called l n) (append-nil printed)

-- ---- Turns one after the other

-- From memory m₀, turns read `text` in all and printed `printed`; v is not yet answered, and memory is n. Each turn
-- read w, printed p and left v' and n', as the contract of `turn` says.
pub data Turned (m₀ : Memory) : List ℕ → List ℕ → List ℕ → Memory → Type 0 where
  started : Turned m₀ [] [] [] m₀
  turned : {text printed v : List ℕ} {n : Memory} → Turned m₀ text printed v n → (w p v' : List ℕ) (n' : Memory) → AnsweredTo (v ++ w) n p v' n' → Turned m₀ (text ++ w) (printed ++ p) v' n'

pub text_answered_lem : {m₀ n : Memory} {text printed v : List ℕ} → Turned m₀ text printed v n → AnsweredTo text m₀ printed v n
text_answered_lem started t = refl
text_answered_lem {m₀} (turned {text} {printed} {v} {n} g w p v' n' said) t =
    ap (λ (l : List ℕ). text_answered [] l m₀) (append_assoc text w t)
    ∙ text_answered_lem g (w ++ t)
    ∙ ap (λ (l : List ℕ). printed_before printed (text_answered [] l n)) (sym (append_assoc v w t))
    ∙ ap (printed_before printed) (said t)
    ∙ ap (λ (l : List ℕ). called l (text_answered [] (v' ++ t) n').memory) (sym (append_assoc printed p (text_answered [] (v' ++ t) n').answer))

-- Once no whole line is left, what was printed and what is held is what the definition says of the text read.
pub all_answered : {m₀ n : Memory} {text printed v : List ℕ} → Turned m₀ text printed v n → length v ≤ line_length v → text_answered [] text m₀ ≡ called printed n
all_answered {m₀} {n} {text} {printed} {v} g h = replies_told (record { before = m₀; answered = text_answered_lem g }) h
