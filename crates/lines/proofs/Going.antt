-- A text being answered line by line: what holds between two lines.
-- Main statements: Going, going_starts, going_on (one line more), end_below (room for its newline), stopped_whole (what holds at the end).
use mathlib.Core.Path.{◌≡◌, refl, sym, ◌∙◌, ap, subst}
use mathlib.Core.List.{List, [], ◌∷◌, ◌++◌, append_assoc}
use Prim.Native.Nat.{ℕ, suc, ◌+◌, ◌-◌, ◌≤◌, ◌<◌}
use native.Mathlib.Nat.{suc-ne-zero}
use native.Mathlib.Omega.{arith}
use lib.ListN.{length, take, drop, set, length-set, length-append, length-drop}
use lib.Seq.{sets, sets-eq, length-sets, take-suc-set, take_at, length-take-le, drop-drop}
use Rattle.model.specs.Memory.{Memory}
use Rattle.model.specs.Calls.{called}
use Rattle.model.proofs.Laws.Lists.{cond-true, le-leb}
use Rattle.forms.specs.Replies.{reply_text}
use Rattle.forms.specs.Printing.{longest_reply, given}
use Rattle.forms.proofs.ReplyTheorems.{reply_short}
use Rattle.lines.specs.Lines.{line_answered}
use Rattle.lines.specs.Texts.{newline, line_length, printed_before, reply_line, text_answered}
use Rattle.lines.proofs.Texts.{then_text, FirstLine, line_first}

-- From memory m₀ the text was answered as far as place `from`: memory is m, and the replies stand before place `end` of `out`, which has n bytes.
pub record Going (text : List ℕ) (m₀ : Memory) (n : ℕ) (m : Memory) (out : List ℕ) (from end : ℕ) : Type 0 where
  pub inside : from ≤ length text
  pub within : end ≤ n
  pub long : length out ≡ n
  pub empty : from ≡ 0 → end ≡ 0
  pub said : (t : List ℕ) → text_answered [] (text ++ t) m₀ ≡ printed_before (take end out) (text_answered [] (drop from text ++ t) m)

pub going_starts : (text : List ℕ) (m : Memory) (out : List ℕ) → Going text m (length out) m out 0 0
going_starts text m out = record { inside = omega arith; within = omega arith; long = refl; empty = λ z. refl; said = λ t. refl }

-- The line at `from` has k bytes.
module _ (text : List ℕ) (m₀ : Memory) (n : ℕ) (m : Memory) (out : List ℕ) (from end k : ℕ) (g : Going text m₀ n m out from end) where
  -- The line at `from`, and the text of its reply.
  abbrev pub line_at : List ℕ
  line_at = take (from + k - from) (drop from text)

  abbrev pub reply_at : List ℕ
  reply_at = reply_text (line_answered line_at m).answer

  abbrev pub given_at : List ℕ
  given_at = given (length out) end longest_reply reply_at

  given_all : end + 58 ≤ n → given_at ≡ reply_at
  unfolding given
  given_all h = cond-true _ reply_at [] (le-leb (end + longest_reply) (length out) (omega (arith, g.long)))

  -- Where the newline after the reply stands.
  pub end_below : (e : ℕ) → end + 58 ≤ n → e ≡ end + length given_at → e < n
  end_below e h q =
      let short = reply_short (line_answered line_at m).answer in
      let as-given = ap (λ (l : List ℕ). length l) (given_all h) in
      omega (arith, h, q, short, as-given)

  -- The replies with one more, and its newline.
  one_more : (e : ℕ) (next : List ℕ) → end + 58 ≤ n → e ≡ end + length given_at → next ≡ sets out end given_at → take (e + 1) (set next e newline) ≡ take end out ++ (reply_at ++ (newline ∷ []))
  one_more e next h q w =
      let short = reply_short (line_answered line_at m).answer in
      let all = given_all h in
      let many : e ≡ end + length reply_at = q ∙ ap (λ (l : List ℕ). end + length l) all in
      let whole : next ≡ take end out ++ reply_at ++ drop (end + length reply_at) out =
      w ∙ ap (λ (l : List ℕ). sets out end l) all ∙ sets-eq reply_at out end (omega (arith, short, h, g.long)) in
      let as_long : length next ≡ n = ap (λ (l : List ℕ). length l) w ∙ length-sets out end given_at ∙ g.long in
      let front : length (take end out ++ reply_at) ≡ e = length-append (take end out) reply_at ∙ ap (λ (k : ℕ). k + length reply_at) (length-take-le end out (omega (arith, g.long, g.within))) ∙ sym many in
      let next_place : e + 1 ≡ suc e = omega arith in
      ap (λ (k : ℕ). take k (set next e newline)) next_place
      ∙ take-suc-set next e newline (omega (arith, many, short, h, as_long))
      ∙ ap (λ (l : List ℕ). take e l ++ (newline ∷ [])) whole
      ∙ ap (λ (l : List ℕ). l ++ (newline ∷ [])) (take_at (take end out ++ reply_at) (drop (end + length reply_at) out) e front)
      ∙ append_assoc (take end out) reply_at (newline ∷ [])

  -- The text from the line on: the line answered, then the text behind its newline.
  line_then : (t : List ℕ) → FirstLine (drop from text) k → text_answered [] (drop from text ++ t) m ≡ then_text line_at (drop (from + (k + 1)) text ++ t) m
  line_then t first =
      let u = drop from text in
      let l_is : line_length u ≡ from + k - from = omega (arith, first.long) in
      let behind : from + suc (line_length u) ≡ from + (k + 1) = omega (arith, first.long) in
      line_first [] u t m (omega (arith, first.long, first.ended))
      ∙ ap (λ (j : ℕ). then_text (take j u) (drop (suc (line_length u)) u ++ t) m) l_is
      ∙ ap (λ (v : List ℕ). then_text line_at (v ++ t) m) (drop-drop (suc (line_length u)) from text ∙ ap (λ (j : ℕ). drop j text) behind)

  pub going_on : (m' : Memory) (next : List ℕ) (e : ℕ) → FirstLine (drop from text) k → end + 58 ≤ n → m' ≡ (line_answered line_at m).memory → next ≡ sets out end given_at → e ≡ end + length given_at
      → Going text m₀ n m' (set next e newline) (from + (k + 1)) (e + 1)
  going_on m' next e first room em w q =
      let to = from + (k + 1) in
      record {
        inside = let left = length-drop from text in omega (arith, left, first.ended, g.inside);
        within = let below = end_below e room q in omega (arith, below);
        long = length-set next e newline ∙ ap (λ (l : List ℕ). length l) w ∙ length-sets out end given_at ∙ g.long;
        empty = λ z. let none : ◌≡◌ {A = ℕ} (suc (from + k)) 0 = omega (arith, z) in absurd (suc-ne-zero (from + k) none);
        said = λ t.
            g.said t
            ∙ ap (printed_before (take end out)) (line_then t first)
            ∙ ap (λ (x : Memory). printed_before (take end out) (printed_before (reply_line (line_answered line_at m).answer) (text_answered [] (drop to text ++ t) x))) (sym em)
            ∙ ap (λ (l : List ℕ). called l (text_answered [] (drop to text ++ t) m').memory) (sym (append_assoc (take end out) (reply_line (line_answered line_at m).answer) (text_answered [] (drop to text ++ t) m').answer))
            ∙ ap (λ (l : List ℕ). printed_before l (text_answered [] (drop to text ++ t) m')) (sym (one_more e next room q w));
      }

-- Where no line was answered, there was no whole line.
pub stopped_whole : (text : List ℕ) (from : ℕ) → line_length (drop from text) ≡ length (drop from text) → from ≡ 0 → line_length text ≡ length text
stopped_whole text from none z = subst (λ (j : ℕ). line_length (drop j text) ≡ length (drop j text)) z none
