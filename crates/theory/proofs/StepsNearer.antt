-- Every step of a party under way, where an operation is led on at most `most` times, leaves fewer calls than it had.
-- Main statement: step_nearer.
use Prim.Native.Nat.{ℕ, ◌≤◌}
use native.Mathlib.Omega.{arith}
use Rattle.model.specs.declared.Refusal.{Refusal}
use Rattle.model.specs.Addresses.{span}
use Rattle.model.specs.Pages.{page_of, level_of, primary_page}
use Rattle.model.specs.Outcome.{View, Outcome}
use Rattle.model.specs.Steps.Locate.{step01, step02, step03, step04, step05}
use Rattle.model.specs.Steps.Chase.{step07, step08}
use Rattle.model.specs.Steps.Write.{step11, step12}
use Rattle.model.specs.Steps.OldPages.{step13, step14}
use Rattle.model.specs.Steps.SplitBuild.{step17}
use Rattle.model.specs.Steps.SplitLocks.{step15, step16, step19, step22}
use Rattle.model.specs.Steps.SplitWrite.{step18, step20, step21}
use Rattle.model.specs.Steps.MergeBuild.{step26}
use Rattle.model.specs.Steps.MergeLocks.{step23, step24, step25, step30}
use Rattle.model.specs.Steps.MergeWrite.{step27, step28, step29}
use Rattle.model.proofs.Laws.Lists.{◌▸◌, Numbered, numbered_at}
use Rattle.model.specs.Memory.{Memory, party_at, view_of}
use Rattle.model.specs.Book.{Book}
use Rattle.model.specs.Steps.Dispatch.{no_step, step_table, step_of}
use Rattle.model.proofs.Laws.Filling.{chain_level}
use Rattle.model.proofs.Invariant.Ghost.{in_chain, local_level}
use Rattle.model.proofs.Invariant.Extents.{local_fits}
use Rattle.model.proofs.Invariant.Turn.{Turn, me}
use Rattle.theory.proofs.CallsLeft.{left_at, Nearer, pages_ahead, NearerStep, refused_nearer, nearer_01, nearer_02, nearer_03, nearer_04, nearer_05, nearer_06, nearer_07, nearer_08, nearer_09, nearer_10, nearer_11, nearer_12, nearer_13, nearer_14, nearer_15, nearer_16, nearer_17, nearer_18, nearer_19, nearer_20, nearer_21, nearer_22, nearer_23, nearer_24, nearer_25, nearer_26, nearer_27, nearer_28, nearer_29, nearer_30}

module _ (most : ℕ) (m : Memory) (b : Book) (q : ℕ) (room : m.root.primaries ≤ span m.root.originals most) where
  abbrev NearerAt : ℕ → (View → Outcome) → Type 0
  NearerAt n f = Turn m b q n → Nearer most (left_at most n m.root (party_at m.parties q) (pages_ahead (view_of m q))) (f (view_of m q))

  on_all : (n : ℕ) (f : View → Outcome) → NearerStep most n f → NearerAt n f
  on_all n f g t = g (view_of m q) (pages_ahead (view_of m q))

  -- At 6 the chain's page has its local level.
  level_most : (t : Turn m b q 6) → level_of (page_of m.pages (primary_page (party_at m.parties q).chain)) ≤ most
  level_most t =
      let c = (me t).chain in
      let live = t.inv.ghost.live in
      let inside = t.facts.1.inside in
      let page = chain_level m.root.capacity m.pages c (local_level m.root.originals live c) (t.inv.ghost.records c) (t.inv.ghost.held (in_chain c)) (t.inv.pages_ok.chain c inside) in
      omega (arith, page, local_fits m.root.originals most m.root.primaries live c t.inv.limits.some_original room t.inv.extents_ok.live_fits inside)

  all_nearer : Numbered NearerAt 0 step_table
  unfolding step_table
  all_nearer =
      (λ (t : Turn m b q 0). absurd t.facts) ▸ on_all 1 step01 (nearer_01 most) ▸ on_all 2 step02 (nearer_02 most) ▸ on_all 3 step03 (nearer_03 most) ▸ on_all 4 step04 (nearer_04 most) ▸ on_all 5 step05 (nearer_05 most)
      ▸ (λ (t : Turn m b q 6). nearer_06 most (view_of m q) _ (level_most t)) ▸ on_all 7 step07 (nearer_07 most) ▸ on_all 8 step08 (nearer_08 most) ▸ (λ (t : Turn m b q 9). nearer_09 most t)
      ▸ (λ (t : Turn m b q 10). nearer_10 most (view_of m q) _ t.facts.0.nothing_owed) ▸ on_all 11 step11 (nearer_11 most) ▸ on_all 12 step12 (nearer_12 most) ▸ on_all 13 step13 (nearer_13 most)
      ▸ on_all 14 step14 (nearer_14 most) ▸ on_all 15 step15 (nearer_15 most) ▸ on_all 16 step16 (nearer_16 most) ▸ on_all 17 step17 (nearer_17 most) ▸ on_all 18 step18 (nearer_18 most) ▸ on_all 19 step19 (nearer_19 most)
      ▸ on_all 20 step20 (nearer_20 most) ▸ on_all 21 step21 (nearer_21 most) ▸ on_all 22 step22 (nearer_22 most) ▸ on_all 23 step23 (nearer_23 most) ▸ on_all 24 step24 (nearer_24 most) ▸ on_all 25 step25 (nearer_25 most)
      ▸ on_all 26 step26 (nearer_26 most) ▸ on_all 27 step27 (nearer_27 most) ▸ on_all 28 step28 (nearer_28 most) ▸ on_all 29 step29 (nearer_29 most) ▸ on_all 30 step30 (nearer_30 most) ▸ tt

  pub step_nearer : (k : ℕ) → NearerAt k (step_of k)
  unfolding step_of
  step_nearer k = numbered_at NearerAt no_step (λ n t. refused_nearer most (view_of m q) Refusal.Damage) step_table all_nearer k
