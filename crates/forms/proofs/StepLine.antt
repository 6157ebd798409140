-- A step's line, read in pieces: its text, its number, its bracket.
-- Main statements: text_unfit, number_unread, bracket_missing (no match); line_ends (a match); step_or (the other rows).
use mathlib.Core.Path.{◌≡◌, refl, ap, ◌∙◌}
use mathlib.Core.Bool.{Bool, true, false, cond}
use mathlib.Core.List.{List, [], ◌∷◌}
use Prim.Native.Nat.{ℕ}
use lib.ListN.{drop}
use lib.Dec.{eqb, lit<}
use Rattle.std.specs.Prelude.{Option, None, Some, MatchOption}
use Rattle.std.specs.List.{starts_with}
use Rattle.patterns.specs.declared.Match.{Match}
use Rattle.patterns.specs.Texts.{bytes}
use Rattle.patterns.specs.Numbers.{unread, read, scan}
use Rattle.patterns.specs.Patterns.{Matching, no, yes, and_then, byte_in, symbol_in, match_from, to_end, padded, matched}
use Rattle.patterns.specs.Grammar.{holes}
use Rattle.patterns.proofs.Literals.{literal_head, literal_other}
use Rattle.patterns.proofs.Matching.{hole_unread, hole_read}
use Rattle.forms.specs.declared.Form.{Form}
use Rattle.forms.specs.Forms.{step_form}
use Rattle.forms.specs.Reading.{wholly, numbers_of, numbers_in, or_else, as_step}
use Rattle.forms.proofs.Rows.{no_match}

abbrev pub step_text : List ℕ
step_text = bytes "(step "

abbrev pub bracket : List ℕ
bracket = bytes ")"

text_plain : holes step_text ≡ 0
unfolding holes
text_plain = refl

-- The bracket is there, and ends the line, whatever numbers were found before it.
bracket_other : (ns l : List ℕ) → to_end (match_from bracket [] l) ≡ no → to_end (match_from bracket ns l) ≡ no
unfolding match_from symbol_in byte_in and_then to_end
bracket_other ns [] e = refl
bracket_other ns (c ∷ l) e = go (eqb c 41) l e
  where
    go : (t : Bool) (r : List ℕ) → to_end (and_then (cond t (yes [] r) no) (λ ms m. yes ms m)) ≡ no → to_end (and_then (cond t (yes ns r) no) (λ ms m. yes ms m)) ≡ no
    go true [] q = cc
    go true (b ∷ r) q = refl
    go false r q = refl

bracket_same : (ns l ms rest : List ℕ) → to_end (match_from bracket [] l) ≡ yes ms rest → to_end (match_from bracket ns l) ≡ yes ns []
unfolding match_from symbol_in byte_in and_then to_end
bracket_same ns [] ms rest e = cc
bracket_same ns (c ∷ l) ms rest e = go (eqb c 41) l e
  where
    go : (t : Bool) (r : List ℕ) → to_end (and_then (cond t (yes [] r) no) (λ xs m. yes xs m)) ≡ yes ms rest → to_end (and_then (cond t (yes ns r) no) (λ xs m. yes xs m)) ≡ yes ns []
    go true [] q = refl
    go true (b ∷ r) q = cc
    go false r q = cc

a_match : (n : ℕ) (m : Matching) (found : Match) → Some found ≡ matched n m → (ns rest : List ℕ) × (m ≡ yes ns rest)
unfolding matched
a_match n no found e = cc
a_match n (yes ns rest) found e = (ns, rest, refl)

module _ (line : List ℕ) where
  no_step : wholly step_form line ≡ no → None ≡ or_else (numbers_in step_form line) as_step None
  unfolding numbers_of or_else
  no_step e = rw e

  pub text_unfit : starts_with eqb line step_text ≡ false → None ≡ or_else (numbers_in step_form line) as_step None
  unfolding wholly to_end
  text_unfit s = no_step (ap to_end (literal_other step_text (drop 6 step_form) [] line text_plain s))

  module _ (s : starts_with eqb line step_text ≡ true) where
    behind_text : match_from step_form [] line ≡ match_from (drop 6 step_form) [] (drop 6 line)
    behind_text = literal_head step_text (drop 6 step_form) [] line text_plain s

    pub number_unread : scan 0 0 (drop 6 line) ≡ unread → None ≡ or_else (numbers_in step_form line) as_step None
    unfolding wholly to_end
    number_unread e = no_step (ap to_end (behind_text ∙ hole_unread step_form line [] 6 6 (lit< tt) refl (lit< tt) e))

    module _ (v next : ℕ) (e : scan 0 0 (drop 6 line) ≡ read v (drop next line)) where
      behind_number : match_from step_form [] line ≡ match_from bracket (v ∷ []) (drop next line)
      behind_number = behind_text ∙ hole_read step_form line [] 6 6 v (drop next line) (lit< tt) refl (lit< tt) e

      pub bracket_missing : (n : ℕ) → None ≡ matched n (to_end (match_from bracket [] (drop next line))) → None ≡ or_else (numbers_in step_form line) as_step None
      unfolding wholly
      bracket_missing n none = no_step (ap to_end behind_number ∙ bracket_other (v ∷ []) (drop next line) (no_match n _ none))

      pub line_ends : (n : ℕ) (found : Match) → Some found ≡ matched n (to_end (match_from bracket [] (drop next line)))
          → Some (Form.Step v) ≡ or_else (numbers_in step_form line) as_step None
      unfolding wholly numbers_of or_else padded
      line_ends n found there =
          let m = a_match n (to_end (match_from bracket [] (drop next line))) found there in
          rw (ap to_end behind_number ∙ bracket_same (v ∷ []) (drop next line) m.0 m.1 m.2)

-- Where a line is no step, the other rows answer.
pub step_or : (o : Option (List ℕ)) (s r other : Option Form) → s ≡ or_else o as_step None → MatchOption s (r ≡ other) (λ x. r ≡ Some x) → r ≡ or_else o as_step other
unfolding or_else
step_or None s r other e h = rw e at h
step_or (Some ns) s r other e h = rw e at h
