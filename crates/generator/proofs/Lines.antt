-- Outputs put line by line.
-- Main statements: PutLines (what stands once all lines but `left` are put); none_put, line_put, all_put; front_put.
use mathlib.Core.Path.{◌≡◌, refl, sym, ap, ◌∙◌}
use mathlib.Core.List.{List, [], ◌∷◌, ◌++◌}
use Prim.Native.Nat.{ℕ, suc, ◌+◌, ◌*◌, ◌≤◌}
use native.Mathlib.Numerals.{add-one}
use native.Mathlib.Omega.{arith}
use lib.ListN.{length, set, take, drop, length-append, length-set}
use lib.Seq.{sets, sets-eq, length-sets, take-append_seam}
use Rattle.model.specs.Mixing.{next_word, outputs}
use Rattle.patterns.specs.Numbers.{decimal}
use Rattle.patterns.proofs.Numerals.{decimal_short}
use Rattle.patterns.proofs.Spelling.{sets_append}
use Rattle.generator.specs.Printed.{newline, line_bytes, lines_of}

-- Of n outputs after x, put into first: all but `left` stand in out, up to place `at`, the last of them being word.
pub record PutLines (n x : ℕ) (first out : List ℕ) (word at left : ℕ) : Type 0 where
  pub room : at + left * line_bytes ≤ length out
  pub long : length out ≡ length first
  pub place : length (lines_of (outputs n x)) ≡ at + length (lines_of (outputs left word))
  pub text : sets first 0 (lines_of (outputs n x)) ≡ sets out at (lines_of (outputs left word))

pub none_put : (n x : ℕ) (first : List ℕ) → n * line_bytes ≤ length first → PutLines n x first first x 0 n
none_put n x first h = record { room = omega arith; long = refl; place = omega arith; text = refl }

-- The first line of those that are left.
next_line : (rest word : ℕ) → lines_of (outputs (suc rest) word)
    ≡ decimal (next_word word) ++ (newline ∷ lines_of (outputs rest (next_word word)))
unfolding outputs lines_of
next_line rest word = refl

module _ {n x : ℕ} {first out : List ℕ} {word at left : ℕ} (put : PutLines n x first out word at left) where
  pub line_put : {rest : ℕ} → left ≡ suc rest → {w : ℕ} {after : List ℕ} {next : ℕ}
      → w ≡ next_word word → after ≡ sets out at (decimal w) → next ≡ at + length (decimal w)
      → PutLines n x first (set after next newline) w (next + 1) rest
  line_put {rest} some {w} {after} {next} ew ea en =
      let others = lines_of (outputs rest w) in
      let line : lines_of (outputs left word) ≡ decimal w ++ (newline ∷ others) = rw (some, ew) (next_line rest word) in
      let total = ap length line ∙ length-append (decimal w) (newline ∷ others) in
      let same : length (set after next newline) ≡ length out =
      length-set after next newline ∙ ap length ea ∙ length-sets out at (decimal w) in
      record {
        room = omega (arith, put.room, decimal_short w, same, en);
        long = same ∙ put.long;
        place = omega (arith, put.place, total, en);
        text = put.text ∙ ap (sets out at) line ∙ sets_append out at (decimal w) (newline ∷ others)
            ∙ rw (ea, en, add-one) refl;
      }

  pub all_put : left ≡ 0 → (at ≡ length (lines_of (outputs n x))) × (out ≡ sets first 0 (lines_of (outputs n x)))
  unfolding outputs lines_of
  all_put none =
      let over : lines_of (outputs left word) ≡ [] = ap (λ (k : ℕ). lines_of (outputs k word)) none in
      (omega (arith, put.place, ap length over), sym (put.text ∙ ap (sets out at) over))

-- What is put at the front stands there.
pub front_put : (first t : List ℕ) → length t ≤ length first → take (length t) (sets first 0 t) ≡ t
front_put first t h = ap (take (length t)) (sets-eq t first 0 (omega arith)) ∙ take-append_seam t (drop (0 + length t) first)
