-- Both halves written: the pages are those at the head of the free list, the staying half's first.
-- Main statements: can_write_both, both_written_ok.
use mathlib.Core.Path.{◌≡◌, sym, ap, ap₂, ◌∙◌}
use mathlib.Core.List.{List}
use Prim.Native.Nat.{ℕ, ◌+◌}
use lib.ListN.{take, drop}
use lib.Seq.{take_at, drop_at}
use Rattle.std.specs.Prelude.{Some}
use Rattle.model.specs.declared.Root.{Root}
use Rattle.model.specs.declared.PageAddress.{PageAddress}
use Rattle.model.specs.Pages.{with_page}
use Rattle.model.specs.Filling.{overflow_needed, primary_of, overflow_written}
use Rattle.chains.specs.Links.{linked_pages, link_after}
use Rattle.chains.proofs.Links.{length-linked_pages, pages_append, leads_all, front_apart, back_apart, both_apart}
use Rattle.key_source.specs.Sources.{chosen_of}
use Rattle.chain_writer.specs.declared.Planned.{Planned}
use Rattle.chain_writer.specs.Writing.{rest_written, all_written, CanWrite}
use Rattle.chain_writer.proofs.Chains.{two_written}
use Rattle.split_few.specs.Splitting.{both, both_written}
use Rattle.split_build.specs.declared.Division.{Division}
use Rattle.split_build.specs.Dividing.{staying_from, going_from, first_need, both_need, CanWriteHalves}

module _ (r : Root) (ps : List ℕ) (d : Division) (scratch other : PageAddress) (can : CanWriteHalves r ps d scratch.0 other.0) where
  -- Both chains, with this local level.
  abbrev stay_plan : ℕ → Planned
  stay_plan level = record { level = level; left = d.staying; source = staying_from d; to = scratch }

  abbrev go_plan : ℕ → Planned
  go_plan level = record { level = level; left = d.going; source = going_from d; to = other }

  abbrev last_need : ℕ
  last_need = overflow_needed r.capacity d.going

  -- The pages of the staying half, and those of the other.
  abbrev firsts : List ℕ
  firsts = linked_pages ps (first_need r d) r.head

  abbrev lasts : List ℕ
  lasts = linked_pages ps last_need (link_after ps (first_need r d) r.head)

  pub can_write_both : (level : ℕ) → CanWrite r.capacity (stay_plan level) r.head (Some (go_plan level)) ps
  can_write_both level = record {
    some_key = can.some_key;
    keys_fit = can.keys_fit;
    chain = record {
      sits = can.sits;
      can_choose = can.can_halve;
      many = can.many_stay;
      page_fits = can.scratch_fits;
      can_fill = front_apart ps (first_need r d) last_need r.head can.can_fill;
    };
    others = record {
      sits = can.sits;
      can_choose = can.can_halve;
      many = can.many_go;
      page_fits = can.other_fits;
      can_fill = back_apart ps (first_need r d) last_need r.head can.can_fill;
    };
  }

  first_taken : take (first_need r d) (linked_pages ps (both_need r d) r.head) ≡ firsts
  first_taken =
      ap (take (first_need r d)) (pages_append ps (first_need r d) last_need r.head)
      ∙ take_at firsts lasts (first_need r d) (length-linked_pages ps (first_need r d) r.head)

  last_taken : drop (first_need r d) (linked_pages ps (both_need r d) r.head) ≡ lasts
  last_taken =
      ap (drop (first_need r d)) (pages_append ps (first_need r d) last_need r.head)
      ∙ drop_at firsts lasts (first_need r d) (length-linked_pages ps (first_need r d) r.head)

  pub both_written_ok :
      all_written r.capacity (stay_plan (r.level + 1)) r.head (Some (go_plan (r.level + 1))) ps
      ≡ both_written r.capacity (r.level + 1) other.0 scratch.0 (both (chosen_of ps (staying_from d)) (chosen_of ps (going_from d))) (first_need r d) (linked_pages ps (both_need r d) r.head) ps
  unfolding both_written rest_written
  both_written_ok =
      let b = r.capacity in
      let es = chosen_of ps (staying_from d) in
      let fs = chosen_of ps (going_from d) in
      let write = can_write_both (r.level + 1) in
      let written : List ℕ → List ℕ → List ℕ
      = λ xs ys. with_page (with_page (overflow_written b (overflow_written b ps xs es) ys fs) other.0 (primary_of b (r.level + 1) fs ys)) scratch.0 (primary_of b (r.level + 1) es xs) in
      two_written b ps scratch.0 (r.level + 1) es firsts other.0 (r.level + 1) fs lasts can.keys_fit (leads_all ps write.chain.can_fill.leads) (leads_all ps write.others.can_fill.leads)
      (record { fits = can.other_fits }) can.apart (both_apart ps (first_need r d) last_need r.head can.can_fill)
      ∙ sym (ap₂ written first_taken last_taken)
