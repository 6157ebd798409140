-- Who is under way by the calls made (the book's entries), and what the records and a call of step then say, under the invariant.
-- Main statements: entered_under, unentered_under; idle_unentered (nobody is under way where every record is the zero record); Met and meets (what a call of step meets).
use mathlib.Core.Path.{◌≡◌, refl, ap}
use mathlib.Core.Bool.{true, false}
use mathlib.Core.Option.{none, some}
use Prim.Native.Nat.{ℕ, ◌≤◌, ◌<◌}
use Rattle.std.specs.Prelude.{Err}
use Rattle.model.specs.declared.Refusal.{Refusal}
use Rattle.model.specs.declared.Party.{Party}
use Rattle.model.specs.Records.{idle}
use Rattle.model.specs.Memory.{Memory, party_at}
use Rattle.model.specs.Calls.{called, stepped, step_call}
use Rattle.model.specs.Book.{Book, Entered}
use Rattle.model.specs.Progress.{is_entered, under_way}
use Rattle.theory.specs.Demands.{AtRest}
use Rattle.model.proofs.Laws.Lists.{Ord, lt, ge, ord}
use Rattle.model.proofs.Invariant.Ghost.{size}
use Rattle.model.proofs.Invariant.Statement.{facts_at, Busy, NoPages, PartyOk, resting, working, Inv, scene_of}
use Rattle.model.proofs.Theorems.RefusalOrder.{step_order}
use Rattle.theory.proofs.LockOrder.{RootFits}
use Rattle.model.proofs.Theorems.Calls.{within_limits_lem, operation_some, record_sound_lem, lengths_fit_ok, root_sound_ok, party_sound_ok}

pub entered_under : (b : Book) (q : ℕ) (e : Entered) → b.entries q ≡ some e → under_way b q ≡ true
unfolding under_way is_entered
entered_under b q e h = ap is_entered h

pub unentered_under : (b : Book) (q : ℕ) → b.entries q ≡ none → under_way b q ≡ false
unfolding under_way is_entered
unentered_under b q h = ap is_entered h

-- What is needed of the root, for the order of locks.
pub inv_fits : (m : Memory) (b : Book) → Inv m b → RootFits m.root
unfolding size
inv_fits m b i = record { some_original = i.limits.some_original; next_fits = i.extents_ok.root_next; count_fits = i.extents_ok.root_fits }

-- What a call of step for party q meets: there is no such party, it has nothing under way, or its operation's next step is performed.
pub data Met (m : Memory) (b : Book) (i : Inv m b) (q : ℕ) : Type 0 where
  no_party : m.root.parties ≤ q → b.entries q ≡ none → NoPages (scene_of m i.ghost b) q → step_call m q ≡ called (Err Refusal.Party) m → Met m b i q
  nothing-begun : q < m.root.parties → party_at m.parties q ≡ idle → b.entries q ≡ none → NoPages (scene_of m i.ghost b) q
      → step_call m q ≡ called (Err Refusal.Idle) m → Met m b i q
  under_way_lem : q < m.root.parties → (e : Entered) → Busy (scene_of m i.ghost b) q (party_at m.parties q) e
      → facts_at (party_at m.parties q).step (scene_of m i.ghost b) q (party_at m.parties q) e → step_call m q ≡ stepped m q → Met m b i q

module _ (m : Memory) (b : Book) (i : Inv m b) where
  pub meets : (q : ℕ) → Met m b i q
  meets q = go (ord q m.root.parties)
    where
      there : q < m.root.parties → PartyOk (scene_of m i.ghost b) q (party_at m.parties q) → Met m b i q
      there h (resting e n p _) = nothing-begun h e n p ((step_order m q).idle (within_limits_lem m.root i.limits) (lengths_fit_ok m b i) h (rw e refl))
      there h (working e k f) =
          under_way_lem h e k f
          ((step_order m q).none (within_limits_lem m.root i.limits) (lengths_fit_ok m b i) h (operation_some e.operation (party_at m.parties q).operation k.same_operation)
          (record_sound_lem m.root (party_at m.parties q) (root_sound_ok m b i) (party_sound_ok m b i q h (party_at m.parties q) e k)) i.row_ok.sound)

      go : Ord q m.root.parties → Met m b i q
      go (ge h _) =
          no_party h (i.strangers q h).0 (i.strangers q h).1 ((step_order m q).party (within_limits_lem m.root i.limits) (lengths_fit_ok m b i) h)
      go (lt h _) = there h (i.parties_ok q h)

  -- Where every record is the zero record nobody is under way.
  pub idle_unentered : ((q : ℕ) → party_at m.parties q ≡ idle) → AtRest b
  idle_unentered idles q = go (meets q)
    where
      go : Met m b i q → under_way b q ≡ false
      go (no_party _ n _ _) = unentered_under b q n
      go (nothing-begun _ _ n _ _) = unentered_under b q n
      go (under_way_lem _ e k _ _) =
          absurd (operation_some e.operation (party_at m.parties q).operation k.same_operation (ap (λ (p : Party). p.operation) (idles q)))
