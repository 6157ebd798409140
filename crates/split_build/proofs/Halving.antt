-- The party's chain, looked through, and its division: what dividing it and writing its halves need.
-- Main statements: some_stay, division_divides (a division, by its parts); can_divide; both_few (pages needed are no
-- more than records), first-is, all_are (the pages that the model counts), can_write_halves, halves_are.
use mathlib.Core.Path.{◌≡◌, sym, ap, ap₂, ◌∙◌}
use mathlib.Core.List.{List}
use Prim.Native.Nat.{ℕ, ◌+◌, ◌-◌, ◌*◌, ◌/◌, ◌≤◌, ◌<◌}
use native.Mathlib.Nat.{div-lt_iff_lt-mul, mul-le-mul_right}
use native.Mathlib.Omega.{arith}
use lib.ListN.{length}
use Rattle.std.specs.Prelude.{Ok}
use Rattle.model.specs.declared.Root.{Root}
use Rattle.model.specs.declared.ChainAddress.{ChainAddress}
use Rattle.model.specs.Pages.{scratch_page}
use Rattle.model.specs.Chains.{sound, chain_of}
use Rattle.model.specs.declared.Entry.{Entry}
use Rattle.model.specs.Entries.{staying, going}
use Rattle.model.specs.Filling.{overflow_needed, pages_for}
use Rattle.model.specs.FreeList.{Taken, pages_taken}
use Rattle.model.specs.Steps.SplitBuild.{Halves, halves_need}
use Rattle.model.proofs.Laws.Lists.{all_map}
use Rattle.records.specs.declared.Working.{Working}
use Rattle.chain_scan.specs.declared.Looked.{Looked}
use Rattle.chain_scan.specs.Scans.{scanned}
use Rattle.key_source.specs.declared.Halving.{Halving}
use Rattle.key_source.specs.declared.Place.{Place}
use Rattle.key_source.specs.Sources.{Sits, records_at, chosen, chosen_of}
use Rattle.key_source.proofs.Choices.{halves_length}
use Rattle.chains.specs.Links.{linked_pages}
use Rattle.chains.proofs.Links.{leads_all, front_apart}
use Rattle.free_list.proofs.Linked.{taken_drawn}
use Rattle.chain_writer.proofs.Drawing.{drawn_fills}
use Rattle.split_few.specs.Splitting.{both, halved, CanSplit}
use Rattle.split_build.specs.declared.Division.{Division}
use Rattle.split_build.specs.Dividing.{records_of, staying_from, going_from, Divides, CanDivide, first_need, both_need, CanWriteHalves}
use Rattle.key_source.proofs.Looking.{Looks, chain_looked}

-- ---- How many

-- Pages needed are no more than records.
pub needed_at_most : (b m : ℕ) → 1 ≤ b → overflow_needed b m ≤ m
unfolding overflow_needed
needed_at_most b m some =
    let more = mul-le-mul_right m some in
    let most : m + (b - 1) < (m + 2) * b = omega (arith, more) in
    let less : (m + (b - 1)) / b < m + 2 = (div-lt_iff_lt-mul {k = b} {x = m + (b - 1)} {y = m + 2} (omega arith)).1 most in
    omega (arith, less)

-- Together the halves have all records.
pub halved-length : (h : Halving) (es : List Entry) → length (staying h.originals h.level h.chain.0 es) + length (going h.originals h.level h.chain.0 es) ≡ length es
unfolding chosen
halved-length h es = halves_length h es

-- ---- A division

-- How chain c is divided.
abbrev pub halving_of : Root → ChainAddress → Halving
halving_of r c = record { originals = r.originals; level = r.level + 1; chain = c }

module _ (r : Root) (ps : List ℕ) (c : ChainAddress) (l : Looked) (can : CanDivide r ps c.0 l) (place : Place) (n : ℕ) where
  abbrev division : Division
  division = record { halving = halving_of r c; place = place; staying = n; going = l.count - n }

  module _ (sits : Sits ps place) (same : records_at ps place ≡ records_of ps c.0 l.pages) (many : n ≡ length (chosen_of ps (staying_from division))) where
    records : List Entry
    records = records_of ps c.0 l.pages

    halves_here : Halves
    halves_here = halved r c.0 records

    stays : chosen_of ps (staying_from division) ≡ halves_here.stay
    unfolding chosen_of chosen halves_here records
    stays = ap (staying r.originals (r.level + 1) c.0) same

    together : n + length halves_here.go ≡ l.count
    unfolding halves_here records
    together = omega (arith, many, ap length stays, halved-length (halving_of r c) records, can.count)

    pub some_stay : n ≤ l.count
    some_stay = omega (arith, together)

    pub division_divides : Divides ps (halved r c.0 (records_of ps c.0 l.pages)) division
    unfolding chosen_of chosen halves_here records
    division_divides = record {
      sits = sits;
      can_halve = record { some_original = can.some_original; originals_fit = can.originals_fit; level_fits = omega (arith, can.level_fits) };
      stay = stays;
      go = ap (going r.originals (r.level + 1) c.0) same;
      many_stay = many ∙ ap length stays;
      many_go = omega (arith, together);
    }

-- ---- The party's chain

module _ (w : Working) (ps : List ℕ) (can : CanSplit w ps) (l : Looked) where
  abbrev here : ℕ
  here = w.party.chain

  module _ (looked : Ok l ≡ scanned 0 (chain_of w.root ps here)) where
    pub looks : Looks w.root ps here l
    looks =
        let fits = can.can_change in
        chain_looked w.root ps here l fits.keys_fit fits.overflow_fits (record { chain_fits = fits.chain_fits; pages_fit = fits.pages_fit }) looked

    pub can_divide : CanDivide w.root ps here l
    unfolding records_of
    can_divide = record {
      some_original = can.some_original;
      originals_fit = can.originals_fit;
      level_fits = can.level_fits;
      can_start = looks.can_start;
      count = looks.count ∙ sym (ap length looks.records);
    }

    -- The model's halves.
    abbrev pub halves : Halves
    halves = halved w.root here looks.chain.entries

    module _ (d : Division) (divides : Divides ps (halved w.root here (records_of ps here l.pages)) d) where
      same : halved w.root here (records_of ps here l.pages) ≡ halves
      unfolding records_of
      same = ap (halved w.root here) looks.records

      stay_is : d.staying ≡ length halves.stay
      stay_is = divides.many_stay ∙ ap (λ (h : Halves). length h.stay) same

      go_is : d.going ≡ length halves.go
      go_is = divides.many_go ∙ ap (λ (h : Halves). length h.go) same

      pub both_few : both_need w.root d ≤ l.count
      both_few =
          let some = can.can_change.some_key in
          let all = halved-length (halving_of w.root (record { 0 = here })) looks.chain.entries in
          omega (arith, needed_at_most w.root.capacity d.staying some, needed_at_most w.root.capacity d.going some, stay_is, go_is, all, looks.count)

      pub first-is : first_need w.root d ≡ pages_for w.root.capacity halves.stay
      unfolding pages_for
      first-is = ap (overflow_needed w.root.capacity) stay_is

      pub all_are : both_need w.root d ≡ halves_need w.root.capacity halves
      unfolding halves_need pages_for
      all_are = ap₂ (λ (m n : ℕ). m + n) first-is (ap (overflow_needed w.root.capacity) go_is)

      pub halves_are : both (chosen_of ps (staying_from d)) (chosen_of ps (going_from d)) ≡ halves
      halves_are = ap₂ both divides.stay divides.go ∙ same

      pub can_write_halves : (t : Taken) → pages_taken w.root ps (both_need w.root d) ≡ sound t → CanWriteHalves w.root ps d (scratch_page w.root w.number) w.party.other
      can_write_halves t taken =
          let fits = can.can_change in
          let drawn = taken_drawn w.root ps (both_need w.root d) t taken in
          let last = overflow_needed w.root.capacity d.going in
          let front = leads_all ps (front_apart ps (first_need w.root d) last w.root.head drawn.can).leads in
          record {
            some_key = fits.some_key;
            keys_fit = fits.keys_fit;
            level_fits = can.level_fits;
            sits = divides.sits;
            can_halve = divides.can_halve;
            many_stay = ap length divides.stay ∙ sym divides.many_stay;
            many_go = ap length divides.go ∙ sym divides.many_go;
            scratch_fits = fits.scratch.page_fits;
            other_fits = omega (arith, fits.pages_fit, can.other_fits);
            can_fill = drawn_fills w.root ps (both_need w.root d) w.root.head fits.pages_fit drawn.can;
            apart = all_map (linked_pages ps (first_need w.root d) w.root.head) (λ x o e. omega (arith, o.above, can.other_fits)) front;
          }
