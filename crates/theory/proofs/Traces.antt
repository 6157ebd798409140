-- What each of the thirty steps leaves of links: the other parties' scratch pages, and in the party's own record a
-- scratch link and an old link that were read in this call or kept.
-- Main statements: chain_followed, list_followed (what a trace calls a chain's pages); Traced; step_traced (of every
-- step number); moves_by_link (a find goes on only by a link).
use mathlib.Core.Path.{◌≡◌, refl}
use mathlib.Core.Logic.{◌≢◌}
use mathlib.Core.Bool.{true, false, not, ◌||◌, false≢true}
use mathlib.Core.List.{List}
use Prim.Native.Nat.{ℕ}
use native.Mathlib.Omega.{arith}
use lib.Dec.{eqb}
use Rattle.std.specs.Prelude.{Ok}
use Rattle.model.specs.declared.OperationAnswer.{OperationAnswer}
use Rattle.model.specs.declared.Restructuring.{Restructuring}
use Rattle.model.specs.declared.StepAnswer.TheVariants as StepAnswer
use Rattle.model.specs.Records.{idle}
use Rattle.model.specs.Answers.{is_moved, performs}
use Rattle.model.specs.Pages.{link_of, zero_page, scratch_page}
use Rattle.model.specs.Chains.{sound, Chain, chain_of, list_from, pages_in, pages_listed}
use Rattle.model.specs.FreeList.{is_among}
use Rattle.model.specs.Outcome.{View, Outcome}
use Rattle.model.specs.ScratchPages.{scratch_of}
use Rattle.model.specs.Endings.{done}
use Rattle.model.specs.Ready.{Ready}
use Rattle.model.specs.Steps.Find.{step09}
use Rattle.model.specs.Steps.Dispatch.{step_table, step_of, want_table, next_table}
use Rattle.model.proofs.Laws.Pages.{length-zero_page}
use Rattle.theory.specs.Links.{chain_pages, list_pages}
use Rattle.model.proofs.Exits.OpenLinks.{old_open}
use Rattle.theory.proofs.OpenLinks.{Marks, unmarked, moves_mark}
use Rattle.model.proofs.Exits.Scratches.{Leaves, scratch_writable, spares_written}
use Rattle.model.proofs.Exits.Statement.{leaves_kept, copied_on, is_other, every_next, Exit, refusing, waiting, taking, moving, looking, ending}
use Rattle.model.proofs.Exits.{step_exits}

-- The links that a step follows are those of the chain, or of the list, as the step's own memory has it.
pub chain_followed : (v : View) (c : ℕ) (d : Chain) → chain_of v.root v.pages c ≡ sound d → chain_pages v c ≡ d.pages
unfolding pages_in
chain_followed v c d e = rw e refl

pub list_followed : (v : View) (l : ℕ) (xs : List ℕ) → list_from v.root v.pages l ≡ sound xs → list_pages v l ≡ xs
unfolding pages_listed
list_followed v l xs e = rw e refl

-- A step that performs nothing leaves all lent memory.
pub data Traced (n : ℕ) (v : View) (o : Outcome) : Type 0 where
  stays : performs o.answer ≡ false → o.after ≡ v → Traced n v o
  goes : performs o.answer ≡ true → Leaves v o.after → Marks n v o.answer o.after.party → Traced n v o

module _ (v : View) (k : ℕ) (ready : Ready v) where
  -- Done: the scratch page of a view is zeroed too.
  done_traced : (a : OperationAnswer) (s : Restructuring) (u : View) → Leaves v u → Traced k v (done a s u)
  unfolding performs old_open is_among
  done_traced a s u l =
      goes refl
      (record {
        number= = l.number=;
        sizes = l.sizes;
        spares = spares_written v ready u.pages l.spares (scratch_page u.root u.number) zero_page
            (scratch_writable v ready (scratch_page u.root u.number) (omega (arith, l.number=, l.sizes.primaries=, l.sizes.overflow=))) length-zero_page;
      })
      (unmarked k v (Ok (StepAnswer.Done a s)) idle refl refl)

  by_exit : v.party.step ≡ k → (o : Outcome) → Exit v k o → Traced k v o
  unfolding performs
  by_exit at o (refusing r) = stays refl refl
  by_exit at o (waiting c w g r) = stays refl refl
  by_exit at o (taking c u w g d m) = goes refl (leaves_kept k v u m.kept (m.spares ready)) (moves_mark k v u.party (m.marks at ready))
  by_exit at o (moving u w d m) = goes refl (leaves_kept k v u m.kept (m.spares ready)) (moves_mark k v u.party (m.marks at ready))
  by_exit at o (looking e w l m) = goes refl (leaves_kept k v (copied_on v) (m at).kept ((m at).spares ready)) (moves_mark k v (copied_on v).party ((m at).marks at ready))
  by_exit at o (ending a s u w e) = done_traced a s u (leaves_kept k v u e.kept (e.spares ready))

-- Whatever step a party performs is traced.
pub step_traced : (v : View) → Ready v → Traced v.party.step v (step_of v.party.step v)
step_traced v ready = by_exit v v.party.step ready refl (step_of v.party.step v) (step_exits v.party.step v)

-- ---- A move at 9

-- A find goes on only by a link.
pub moves_by_link : (v : View) → is_moved (step09 v).answer ≡ true → link_of (scratch_of v) ≢ 0
unfolding step_of step_table is_moved want_table next_table
moves_by_link v = go (step09 v) (step_exits 9 v)
  where
    go : (o : Outcome) → Exit v 9 o → is_moved o.answer ≡ true → link_of (scratch_of v) ≢ 0
    go o (refusing r) h = absurd (false≢true h)
    go o (waiting c w g r) h = absurd (false≢true h)
    go o (taking c u w g d m) h = let z : ◌≡◌ {A = ℕ} 0 1 = cc in omega arith
    go o (moving u w d m) h = absurd (false≢true (rw d at (every_next (λ j i. not (eqb j 9) || not (is_other j i)) refl refl v.party.operation 9 u.party.step m.next)))
    go o (looking e w l m) h = l
    go o (ending a s u w e) h = absurd (false≢true h)
