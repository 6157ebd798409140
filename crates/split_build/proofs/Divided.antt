-- Step 17 on the party's chain, looked through and divided where it stands: `m` and `n` pages are what its halves
-- need.
-- Main statements: pages_few; skips, refuses, moves (the three ends), can_write (both halves can be written once the
-- pages are drawn).
use mathlib.Core.Path.{◌≡◌, sym, ap, ap₂, ◌∙◌}
use mathlib.Core.List.{List}
use Prim.Native.Nat.{ℕ, ◌+◌, ◌-◌, ◌≤◌, ◌<◌}
use native.Mathlib.Omega.{arith}
use Rattle.std.specs.Prelude.{Result, Ok, Err, IsErr, Option, Some, None}
use Rattle.model.specs.declared.Damaged.{Damaged}
use Rattle.model.specs.Pages.{scratch_page}
use Rattle.model.specs.Chains.{chain_of}
use Rattle.model.specs.Filling.{overflow_needed}
use Rattle.model.specs.FreeList.{Taken, pages_taken}
use Rattle.model.specs.Outcome.{View}
use Rattle.model.specs.Steps.SplitBuild.{Halves, step17}
use Rattle.records.specs.declared.Working.{Working}
use Rattle.records.specs.Work.{seen}
use Rattle.chains.specs.Links.{linked_pages}
use Rattle.free_list.specs.Taking.{drawn}
use Rattle.free_list.proofs.Linked.{head_drawn, damage-drawn}
use Rattle.chain_scan.specs.declared.Looked.{Looked}
use Rattle.chain_scan.specs.Scans.{scanned}
use Rattle.chain_change.proofs.ReadChains.{chain_link}
use Rattle.key_source.specs.Sources.{chosen_of}
use Rattle.split_few.specs.declared.Halved.{Halved}
use Rattle.split_few.specs.Splitting.{both, halved, both_written, after_dividing, CanSplit}
use Rattle.split_few.proofs.Cases.{too_few_skipped, free_list_damaged, halves_written_ok}
use Rattle.split_build.specs.declared.Division.{Division}
use Rattle.split_build.specs.Dividing.{records_of, staying_from, going_from, Divides, first_need, both_need, CanWriteHalves}
use Rattle.split_build.proofs.Halving.{looks, halves, both_few, first-is, all_are, halves_are, can_write_halves}

module _ (w : Working) (ps : List ℕ) (can : CanSplit w ps) (l : Looked) (looked : Ok l ≡ scanned 0 (chain_of w.root ps w.party.chain))
    (d : Division) (divides : Divides ps (halved w.root w.party.chain (records_of ps w.party.chain l.pages)) d)
    (m n : ℕ) (first : m ≡ overflow_needed w.root.capacity d.staying) (second : n ≡ overflow_needed w.root.capacity d.going) where
  needed : m + n ≡ both_need w.root d
  needed = ap₂ (λ (x y : ℕ). x + y) first second

  pub pages_few : m + n ≤ l.count
  pages_few = omega (arith, needed, both_few w ps can l looked d divides)

  pub can_write : (h : ℕ) → Ok h ≡ drawn (pages_taken w.root ps (m + n)) → CanWriteHalves w.root ps d (scratch_page w.root w.number) w.party.other
  can_write h e = can_write_halves w ps can l looked d divides _ (head_drawn w.root ps (both_need w.root d) h (e ∙ ap (λ (k : ℕ). drawn (pages_taken w.root ps k)) needed))

  module _ (ls : List ℕ) where
    abbrev v : View
    v = seen w ls ps

    pub skips : w.root.free < m + n → after_dividing v ps (Ok None) ≡ step17 v
    skips few =
        let whole = looks w ps can l looked in
        too_few_skipped v can.not-barred whole.chain whole.is_sound_ok (m + n) (needed ∙ all_are w ps can l looked d divides) few

    module _ (enough : m + n ≤ w.root.free) where
      pub refuses : (a : Result (Option Halved) Damaged) → IsErr a → {d : Damaged} → Err d ≡ drawn (pages_taken w.root ps (m + n)) → after_dividing v ps a ≡ step17 v
      refuses a told e =
          let whole = looks w ps can l looked in
          free_list_damaged v can.not-barred whole.chain whole.is_sound_ok (m + n) (needed ∙ all_are w ps can l looked d divides) enough a told (damage-drawn w.root ps (m + n) e)

      pub moves :
          (h scratch : ℕ) (qs : List ℕ) → Ok h ≡ drawn (pages_taken w.root ps (m + n)) → scratch ≡ scratch_page w.root w.number
          → qs
          ≡ both_written w.root.capacity (w.root.level + 1) w.party.other scratch (both (chosen_of ps (staying_from d)) (chosen_of ps (going_from d))) (first_need w.root d) (linked_pages ps (both_need w.root d) w.root.head) ps
          → after_dividing v qs (Ok (Some (record { head = h; free = w.root.free - (m + n) }))) ≡ step17 v
      moves h scratch qs e es written =
          let whole = looks w ps can l looked in
          let t : Taken = record { pages = linked_pages ps (m + n) w.root.head; head = h } in
          let write : ℕ → Halves → ℕ → List ℕ
          = λ s x k. both_written w.root.capacity (w.root.level + 1) w.party.other s x (first_need w.root d) (linked_pages ps k w.root.head) ps in
          let read : Halves = both (chosen_of ps (staying_from d)) (chosen_of ps (going_from d)) in
          let same : read ≡ halves w ps can l looked = halves_are w ps can l looked d divides in
          let pages = written ∙ ap (λ (s : ℕ). write s read (both_need w.root d)) es ∙ ap₂ (λ (x : Halves) (k : ℕ). write (scratch_page w.root w.number) x k) same (sym needed) in
          halves_written_ok v can.not-barred whole.chain whole.is_sound_ok (m + n) (needed ∙ all_are w ps can l looked d divides) enough t (first_need w.root d) qs
          (first-is w ps can l looked d divides) (head_drawn w.root ps (m + n) h e) (chain_link w.root ps w.party.chain whole.chain whole.is_sound_ok) pages
