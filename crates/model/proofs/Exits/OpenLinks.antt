-- Links that a party has yet to follow, by its step number, and what a step that moves on leaves of them.
-- Main statements: scratch_open, old_open (whether the link in scratch, or the old link, is yet to be followed);
-- reads_scratch, reads_old, gives_pages (which steps read a link into scratch or into the old link, and give pages back);
-- OldThen, LinksThen (the links of the record that a step leaves); passes, keeps, reads_old.
use mathlib.Core.Path.{◌≡◌, ap}
use mathlib.Core.Bool.{Bool, true, false, not, ◌&&◌, ◌||◌}
use mathlib.Core.List.{List, [], ◌∷◌}
use Prim.Native.Nat.{ℕ}
use lib.Dec.{eqb}
use Rattle.model.specs.declared.Party.{Party}
use Rattle.model.specs.Records.{at_step}
use Rattle.model.specs.FreeList.{is_among}
use Rattle.model.specs.Outcome.{View}
use Rattle.model.specs.Steps.Write.{is_change}
use Rattle.model.proofs.Laws.Lists.{not-both}
use Rattle.model.proofs.Effects.Moves.{at_its_step}

-- ---- Links yet to be followed

-- The step numbers at which a party may have an old link to follow.
abbrev pub open_steps : List ℕ
open_steps = 11 ∷ (12 ∷ (13 ∷ (14 ∷ (18 ∷ (19 ∷ (20 ∷ (21 ∷ (22 ∷ (27 ∷ (28 ∷ (29 ∷ [])))))))))))

-- Whether the link in scratch is yet to be followed: by a find that walks, or by a withdraw at 11.
abbrev pub scratch_open : ℕ → Bool
scratch_open n = eqb n 9 || eqb n 11

-- Whether the old link is yet to be followed: at 12 where a change was made.
unfoldable pub old_open : Party → Bool
old_open p = is_among p.step open_steps && (not (eqb p.step 12) || is_change p.answer)

-- A party whose step number is known.
pub open_at : (p : Party) (n : ℕ) → p.step ≡ n → old_open p ≡ old_open (at_step n p)
open_at p n e = ap old_open (at_its_step p n e)

-- ---- Links that a step reads, pages that it gives back

-- Whether step k, on to n, reads a link into scratch, or makes one there.
abbrev pub reads_scratch : ℕ → ℕ → Bool
reads_scratch k n = eqb k 6 || (eqb k 9 || (eqb k 10 && eqb n 11))

-- Whether it reads one into the old link.
abbrev pub reads_old : ℕ → ℕ → Bool
reads_old k n = (eqb k 10 && eqb n 11) || (eqb k 17 || eqb k 26)

-- Whether it gives pages back.
abbrev pub gives_pages : ℕ → Bool
gives_pages k = eqb k 14 || eqb k 29

-- ---- The links of the record that a step leaves

-- The old link: there is none to follow, it was read by this step, or it is the one found.
pub data OldThen (k : ℕ) (v : View) (p : Party) : Type 0 where
  none_open : old_open p ≡ false → OldThen k v p
  set-now : reads_old k p.step ≡ true → OldThen k v p
  same_old : p.old ≡ v.party.old → old_open v.party ≡ true → gives_pages k ≡ false → OldThen k v p

-- Step k moves on and leaves the record p.
pub record LinksThen (k : ℕ) (v : View) (p : Party) : Type 0 where
  pub scratch_then : scratch_open p.step ≡ true → reads_scratch k p.step ≡ true
  pub old_then : OldThen k v p

module _ (k : ℕ) (v : View) (p : Party) (shut : scratch_open p.step ≡ false) where
  no_walk : scratch_open p.step ≡ true → ⊥
  no_walk h = not-both (scratch_open p.step) h shut

  -- On to a step with no old link to follow.
  pub passes : old_open p ≡ false → LinksThen k v p
  passes h = record { scratch_then = λ e. absurd (no_walk e); old_then = none_open h }

  -- On with the same old link.
  pub keeps : p.old ≡ v.party.old → old_open v.party ≡ true → gives_pages k ≡ false → LinksThen k v p
  keeps e h g = record { scratch_then = λ e. absurd (no_walk e); old_then = same_old e h g }

  -- With an old link read by this step.
  pub reads_old_lem : reads_old k p.step ≡ true → LinksThen k v p
  reads_old_lem h = record { scratch_then = λ e. absurd (no_walk e); old_then = set-now h }
