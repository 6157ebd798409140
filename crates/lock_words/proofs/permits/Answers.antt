-- Where none is held every request is granted, else Table I's entry beside the strongest lock held decides: the
-- model's word_judged.
use Rattle.std.proofs.Common.{◌≡◌, sym, ◌∙◌, Bool, rules, ℕ}
use Rattle.std.specs.Prelude.{Option, MatchOption, IsTrue}
use Rattle.std.proofs.Math.Option as logic
use Rattle.model.specs.declared.Mode.{Mode}
use Rattle.model.specs.LockWords.{table_one, permits}
use Rattle.model.specs.GrantTable.{held_in, strongest, granted_beside}
use Rattle.model.proofs.Theorems.GrantTable.{word_judged}
use Rattle.lock_words.specs.HeldLock.{as_option, held_on}
use Rattle.lock_words.proofs.permits.Goals as goal

granted : (m : Mode) (o : logic.Option Mode) (b : Bool) (P : Mode → Type 0)
    → MatchOption (as_option o) (IsTrue b) P → ((s : Mode) → P s → b ≡ table_one m s) → b ≡ granted_beside m o
unfolding as_option granted_beside
granted m logic.none b P h entry = h
granted m (logic.some s) b P h entry = entry s h

judged : (w : ℕ) (m : Mode) (b : Bool) (o : Option Mode) (P : Mode → Type 0) → o ≡ held_on w
    → MatchOption o (IsTrue b) P → ((s : Mode) → P s → b ≡ table_one m s) → b ≡ permits w m
judged w m b o P e h entry =
    granted m (strongest (held_in w)) b P (rw (sym e) h) entry ∙ sym (word_judged w m)

pub returns : goal.returns
returns c = judged c.args.w c.args.m _ _ _ c.strongest.ensures c.is_none_or.ensures (λ s p. search rules)
