-- A step changes no word of the root or of its party's record but those that its mark names: by the table of the
-- steps, whose column `writes` is true of every step (model's Exits).
-- Main statements: step_marked (every step number, all views).
use mathlib.Core.Path.{◌≡◌, refl, sym, ap, ◌∙◌}
use mathlib.Core.Bool.{Bool, true, false, cond, not, ◌||◌, false≢true}
use Prim.Native.Nat.{ℕ}
use Rattle.model.specs.declared.Root.{Root}
use Rattle.model.specs.declared.Party.{Party}
use Rattle.model.specs.declared.StepAnswer.{StepAnswer}
use Rattle.model.specs.Answers.{StepReply}
use Rattle.std.specs.Prelude.{Ok}
use Rattle.model.specs.Outcome.{View, Outcome, moved}
use Rattle.model.specs.Steps.Table.{answer_word, lev_word, chains_word, old_word, owed_word, level_word, next_word, free_word}
use Rattle.model.specs.Steps.Dispatch.{step_of, writes_table, writes}
use Rattle.model.specs.FreeList.{is_among}
use Rattle.model.proofs.Laws.Lists.{all_pass}
use Rattle.model.proofs.Exits.Statement.{Kept, kept_by, none-writes, Exit, refusing, waiting, taking, moving, looking, ending}
use Rattle.model.proofs.Exits.{step_exits}
use Rattle.marks.specs.Marks.{locates, advances, mark_of, advanced_in, located_in, changed_in, moved_in, root_by, party_by}

-- ---- What a step leaves

-- Step k met the root r and the record p, and answered a: what it left of them differs in the marked words only.
pub record Leaves (r : Root) (p : Party) (k : ℕ) (a : StepReply) (r' : Root) (p' : Party) : Type 0 where
  pub root= : root_by (mark_of k a) r r' ≡ r'
  pub party= : party_by (mark_of k a) p p' ≡ p'

-- An outcome of step k on the view v.
pub record Marked (v : View) (k : ℕ) (o : Outcome) : Type 0 where
  pub number= : o.after.number ≡ v.number
  pub leaves : Leaves v.root v.party k o.answer o.after.root o.after.party

-- ---- From what it keeps

-- A word that is not written is kept.
word_kept : (b : Bool) (x y : ℕ) → b ≡ false → cond b 0 x ≡ cond b 0 y → x ≡ y
word_kept true x y n e = absurd (false≢true (sym n))
word_kept false x y n e = e

module _ (v u : View) (k : ℕ) (kept : kept_by k u ≡ kept_by k v) where
  -- The sizes are kept by every step, and operation, key and setting.
  moved_root : moved_in v.root u.root ≡ u.root
  moved_root =
      rw (
        sym (ap (λ (x : Kept). x.sizes.originals) kept),
        sym (ap (λ (x : Kept). x.sizes.capacity) kept),
        sym (ap (λ (x : Kept). x.sizes.primaries) kept),
        sym (ap (λ (x : Kept). x.sizes.overflow) kept),
        sym (ap (λ (x : Kept). x.sizes.parties) kept),
      ) refl

  operation= : v.party.operation ≡ u.party.operation
  operation= = sym (ap (λ (x : Kept). x.operation) kept)

  key= : v.party.key ≡ u.party.key
  key= = sym (ap (λ (x : Kept). x.key) kept)

  setting= : v.party.setting ≡ u.party.setting
  setting= = sym (ap (λ (x : Kept). x.setting) kept)

  -- Words that no step without the test t writes, and k is without it.
  module _ (t : ℕ → Bool) (without : t k ≡ false) where
    abbrev Unwritten : ℕ → Type 0
    Unwritten w = all_pass (λ j ws. t j || not (is_among w ws)) 0 writes_table ≡ true

    kept_word : (w : ℕ) → Unwritten w → (x y : ℕ) → cond (writes k w) 0 x ≡ cond (writes k w) 0 y → x ≡ y
    kept_word w column x y e = word_kept (writes k w) x y (none-writes t w column k without) e

    same_root : Unwritten level_word → Unwritten next_word → Unwritten free_word → v.root ≡ u.root
    same_root l n f =
        let level = kept_word level_word l _ _ (ap (λ (x : Kept). x.level) kept) in
        let next = kept_word next_word n _ _ (ap (λ (x : Kept). x.next) kept) in
        let head = kept_word free_word f _ _ (ap (λ (x : Kept). x.head) kept) in
        let free = kept_word free_word f _ _ (ap (λ (x : Kept). x.free) kept) in
        let back : v.root ≡ moved_in v.root u.root = rw (level, next, head, free) refl in
        back ∙ moved_root

    lev= : Unwritten lev_word → v.party.lev ≡ u.party.lev
    lev= l = sym (kept_word lev_word l _ _ (ap (λ (x : Kept). x.lev) kept))

    changed_party : Unwritten lev_word → changed_in v.party u.party ≡ u.party
    changed_party l = rw (operation=, key=, setting=, lev= l) refl

    located_party : Unwritten old_word → Unwritten owed_word → Unwritten answer_word → located_in v.party u.party ≡ u.party
    located_party o w a =
        let old = sym (kept_word old_word o _ _ (ap (λ (x : Kept). x.old) kept)) in
        let owed = sym (kept_word owed_word w _ _ (ap (λ (x : Kept). x.owed) kept)) in
        let answer = sym (kept_word answer_word a _ _ (ap (λ (x : Kept). x.answer) kept)) in
        rw (operation=, key=, setting=, old, owed, answer) refl

    advanced_party : Unwritten lev_word → Unwritten chains_word → located_in v.party u.party ≡ u.party → advanced_in v.party u.party ≡ u.party
    advanced_party l c located =
        let chain = kept_word chains_word c _ _ (ap (λ (x : Kept). x.chain) kept) in
        let other = kept_word chains_word c _ _ (ap (λ (x : Kept). x.other) kept) in
        let back : advanced_in v.party u.party ≡ located_in v.party u.party = rw (sym (lev= l), chain, other) refl in
        back ∙ located

  moved_marked : Marked v k (moved u)
  unfolding writes_table is_among
  moved_marked = record { number= = ap (λ (x : Kept). x.number) kept; leaves = go (advances k) refl (locates k) refl }
    where
      go : (b : Bool) → advances k ≡ b → (c : Bool) → locates k ≡ c → Leaves v.root v.party k (Ok StepAnswer.Moved) u.root u.party
      go true e c f =
          let root = same_root (λ j. not (advances j)) (ap not e) refl refl refl in
          let located = located_party (λ j. not (advances j)) (ap not e) refl refl refl in
          let party = advanced_party (λ j. not (advances j)) (ap not e) refl refl located in
          record { root= = rw e root; party= = rw e party }
      go false e true f =
          let root = same_root (λ j. not (locates j)) (ap not f) refl refl refl in
          let party = located_party (λ j. not (locates j)) (ap not f) refl refl refl in
          record { root= = rw (e, f) root; party= = rw (e, f) party }
      go false e false f = record { root= = rw (e, f) moved_root; party= = rw (e, f) (changed_party locates f refl) }

-- ---- Every step

by_exit : (v : View) (k : ℕ) (o : Outcome) → Exit v k o → Marked v k o
by_exit v k o (refusing r) = record { number= = refl; leaves = record { root= = refl; party= = refl } }
by_exit v k o (waiting c w g r) = record { number= = refl; leaves = record { root= = refl; party= = refl } }
by_exit v k o (taking c u w g d m) = moved_marked v u k m.kept
by_exit v k o (moving u w d m) = moved_marked v u k m.kept
by_exit v k o (looking e w l m) = record { number= = refl; leaves = record { root= = rw e refl; party= = rw e refl } }
by_exit v k o (ending a s u w e) =
    record { number= = ap (λ (x : Kept). x.number) e.kept; leaves = record { root= = moved_root v u k e.kept; party= = refl } }

pub step_marked : (k : ℕ) (v : View) → Marked v k (step_of k v)
step_marked k v = by_exit v k (step_of k v) (step_exits k v)
