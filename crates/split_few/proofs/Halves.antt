-- Both halves of a chain, at the front of two buffers, written to pages taken from the free list, the staying half's
-- first.
-- Main statements: few_taken (the pages that both need); stay_fillable, go_fillable (the pages of each can be filled);
-- skips, refuses, moves (the three ends of a division).
use mathlib.Core.Path.{◌≡◌, sym, ap, ap₂, ◌∙◌}
use mathlib.Core.List.{List, ◌++◌}
use Prim.Native.Nat.{ℕ, ◌+◌, ◌-◌, ◌*◌, ◌≤◌, ◌<◌}
use native.Mathlib.Omega.{arith}
use lib.ListN.{length, take, drop, take-append-drop}
use lib.Seq.{take-add, take-take, drop_at, length-take-le}
use Rattle.std.specs.Prelude.{Result, Ok, IsErr, Option, Some, None}
use Rattle.model.specs.declared.Damaged.{Damaged}
use Rattle.model.specs.declared.Root.{Root}
use Rattle.model.specs.declared.Entry.{Entry}
use Rattle.model.specs.Sizes.{page_words, most_records}
use Rattle.model.specs.Pages.{with_page, scratch_page, records_in}
use Rattle.model.specs.Chains.{damaged, sound, Chain, chain_of}
use Rattle.model.specs.Filling.{overflow_needed, pages_for, primary_of, overflow_written}
use Rattle.model.specs.FreeList.{pages_taken}
use Rattle.model.specs.Outcome.{View}
use Rattle.model.specs.Steps.SplitBuild.{halves_need, step17}
use Rattle.model.proofs.Laws.Lists.{All, all_map, all_left, all_right}
use Rattle.model.proofs.Laws.Distinct.{Outside, Distinct, distinct_apart}
use Rattle.model.proofs.Laws.Pages.{Has}
use Rattle.model.proofs.Laws.Filling.{IsOverflow}
use Rattle.model.proofs.Laws.RecordWords.{length_records}
use Rattle.records.specs.declared.Working.{Working}
use Rattle.records.specs.Work.{seen}
use Rattle.free_list.proofs.Linked.{taken_drawn}
use Rattle.filling.specs.Fills.{Fillable}
use Rattle.filling.proofs.Fills.{overflow_fillable}
use Rattle.chain_change.proofs.ReadChains.{chain_link}
use Rattle.chain_writer.specs.Writing.{chain_written}
use Rattle.chain_writer.proofs.Chains.{two_written}
use Rattle.split_few.specs.declared.Halved.{Halved}
use Rattle.split_few.specs.Splitting.{both, halved, both_written, after_dividing, CanWriteHalves}
use Rattle.split_few.proofs.Bounds.{halves_few}
use Rattle.split_few.proofs.Cases.{too_few_skipped, free_list_damaged, halves_written_ok}

-- ---- The pages of both halves

-- The first i + j pages of a list xs, as the code lends them: the first i, and the j after them.
module _ (i j : ℕ) (xs : List ℕ) (many : i + j ≤ length xs) where
  first-lent : take i xs ≡ take i (take (i + j) xs)
  first-lent = sym (take-take i (i + j) xs (omega arith))

  last_lent : take (i + j - i) (drop i xs) ≡ drop i (take (i + j) xs)
  last_lent =
      let rest : i + j - i ≡ j = omega arith in
      ap (λ (n : ℕ). take n (drop i xs)) rest ∙ sym (ap (drop i) (take-add i j xs) ∙ drop_at (take i xs) (take j (drop i xs)) i (length-take-le i xs (omega arith)))

-- They were taken from the free list.
module _ (r : Root) (ps : List ℕ) (i j : ℕ) (xs : List ℕ) (many : i + j ≤ length xs) (h : ℕ) (taken : pages_taken r ps (i + j) ≡ sound (record { pages = take (i + j) xs; head = h }))
    (fit : page_words * (r.primaries + r.overflow) ≤ length ps) where
  abbrev firsts : List ℕ
  firsts = take i xs

  abbrev lasts : List ℕ
  lasts = take (i + j - i) (drop i xs)

  whole : firsts ++ lasts ≡ take (i + j) xs
  whole = ap₂ (λ (ys zs : List ℕ). ys ++ zs) (first-lent i j xs many) (last_lent i j xs many) ∙ take-append-drop i (take (i + j) xs)

  all_overflow : All (IsOverflow r) (firsts ++ lasts)
  all_overflow = rw whole (taken_drawn r ps (i + j) _ taken).overflow

  first_overflow : All (IsOverflow r) firsts
  first_overflow = all_left (IsOverflow r) firsts lasts all_overflow

  last_overflow : All (IsOverflow r) lasts
  last_overflow = all_right (IsOverflow r) firsts lasts all_overflow

  apart : All (λ x. Outside x lasts) firsts
  apart =
      let drawn = taken_drawn r ps (i + j) _ taken in
      let all : Distinct (firsts ++ lasts) = rw (whole, drawn.pages) drawn.can.distinct in
      distinct_apart firsts lasts all

  module _ (chains_fit_ok : r.primaries ≤ 256) (overflow_fits : r.overflow ≤ 752) (qs : List ℕ) (long : length qs ≡ length ps) where
    pub stay_fillable : Fillable qs firsts
    stay_fillable = overflow_fillable r qs firsts chains_fit_ok overflow_fits (omega (arith, fit, long)) first_overflow

    pub go_fillable : Fillable qs lasts
    go_fillable = overflow_fillable r qs lasts chains_fit_ok overflow_fits (omega (arith, fit, long)) last_overflow

  both_are : (b level other scratch : ℕ) (es fs : List Entry) → b ≤ most_records → other < r.primaries
      → with_page (overflow_written b (with_page (overflow_written b ps lasts fs) other (primary_of b level fs lasts)) firsts es) scratch (primary_of b level es firsts)
      ≡ both_written b level other scratch (both es fs) i (take (i + j) xs) ps
  unfolding both_written chain_written
  both_are b level other scratch es fs small fits =
      let has : (x : ℕ) → IsOverflow r x → Has ps x = λ x o. record { fits = omega (arith, o.below, fit) } in
      let written : List ℕ → List ℕ → List ℕ
      = λ ys zs. with_page (with_page (overflow_written b (overflow_written b ps ys es) zs fs) other (primary_of b level fs zs)) scratch (primary_of b level es ys) in
      two_written b ps scratch level es firsts other level fs lasts small (all_map firsts has first_overflow) (all_map lasts has last_overflow) (record { fits = omega (arith, fits, fit) })
      (all_map firsts (λ x o e. omega (arith, o.above, fits)) first_overflow) apart
      ∙ ap₂ written (first-lent i j xs many) (last_lent i j xs many)

-- ---- The three ends: the staying half needs i pages and the other j

module _ {w : Working} {m n : ℕ} {words gone ps : List ℕ} (can : CanWriteHalves w m n words gone ps) {i j : ℕ} (first : i ≡ overflow_needed w.root.capacity m)
    (last : j ≡ overflow_needed w.root.capacity n) where
  pub few_taken : i + j ≤ 8
  few_taken = omega (arith, first, last, halves_few w.root.capacity m n can.can_split.can_change.some_key can.few)

  module _ (ls : List ℕ) (c : Chain) (found : chain_of w.root ps w.party.chain ≡ sound c) (stay : take m (records_in words) ≡ (halved w.root w.party.chain c.entries).stay)
      (go : take n (records_in gone) ≡ (halved w.root w.party.chain c.entries).go) where
    abbrev v : View
    v = seen w ls ps

    stays : i ≡ pages_for w.root.capacity (halved w.root w.party.chain c.entries).stay
    unfolding pages_for
    stays =
        let many : m ≡ length (take m (records_in words)) = sym (length-take-le m (records_in words) (omega (arith, length_records words, can.few, can.stay_room))) in
        first ∙ ap (overflow_needed w.root.capacity) (many ∙ ap length stay)

    goes : j ≡ pages_for w.root.capacity (halved w.root w.party.chain c.entries).go
    unfolding pages_for
    goes =
        let many : n ≡ length (take n (records_in gone)) = sym (length-take-le n (records_in gone) (omega (arith, length_records gone, can.few, can.go_room))) in
        last ∙ ap (overflow_needed w.root.capacity) (many ∙ ap length go)

    all_are : i + j ≡ halves_need w.root.capacity (halved w.root w.party.chain c.entries)
    unfolding halves_need
    all_are = ap₂ (λ (x y : ℕ). x + y) stays goes

    pub skips : w.root.free < i + j → after_dividing v ps (Ok None) ≡ step17 v
    skips few = too_few_skipped v can.can_split.not-barred c found (i + j) all_are few

    module _ (enough : i + j ≤ w.root.free) where
      pub refuses : (a : Result (Option Halved) Damaged) → IsErr a → pages_taken w.root ps (i + j) ≡ damaged → after_dividing v ps a ≡ step17 v
      refuses a e bad = free_list_damaged v can.can_split.not-barred c found (i + j) all_are enough a e bad

      -- One chain was written after the other: the code left rs after the first, and qs.
      pub moves : (h : ℕ) (xs : List ℕ) → i + j ≤ length xs → pages_taken w.root ps (i + j) ≡ sound (record { pages = take (i + j) xs; head = h }) → (level scratch : ℕ) (rs qs : List ℕ)
          → level ≡ w.root.level + 1 → scratch ≡ scratch_page w.root w.number
          → rs
          ≡ with_page (overflow_written w.root.capacity ps (take (i + j - i) (drop i xs)) (take n (records_in gone))) w.party.other (primary_of w.root.capacity level (take n (records_in gone)) (take (i + j - i) (drop i xs)))
          → qs ≡ with_page (overflow_written w.root.capacity rs (take i xs) (take m (records_in words))) scratch (primary_of w.root.capacity level (take m (records_in words)) (take i xs))
          → after_dividing v qs (Ok (Some (record { head = h; free = w.root.free - (i + j) }))) ≡ step17 v
      moves h xs many taken level scratch rs qs el es er eq =
          let b = w.root.capacity in
          let other = w.party.other in
          let fits = can.can_split.can_change in
          let written = eq ∙ ap (λ (us : List ℕ). with_page (overflow_written b us (take i xs) (take m (records_in words))) scratch (primary_of b level (take m (records_in words)) (take i xs))) er
          ∙ both_are w.root ps i j xs many h taken fits.pages_fit b level other scratch (take m (records_in words)) (take n (records_in gone)) fits.keys_fit can.can_split.other_fits
          ∙ ap₂ (λ (k s : ℕ). both_written b k other s (both (take m (records_in words)) (take n (records_in gone))) i (take (i + j) xs) ps) el es
          ∙ ap₂ (λ (ys zs : List Entry). both_written b (w.root.level + 1) other (scratch_page w.root w.number) (both ys zs) i (take (i + j) xs) ps) stay go in
          halves_written_ok v can.can_split.not-barred c found (i + j) all_are enough (record { pages = take (i + j) xs; head = h }) i qs stays taken (chain_link w.root ps w.party.chain c found) written
