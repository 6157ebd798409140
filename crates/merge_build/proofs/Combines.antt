-- Both chains of a merge, read again where they stand.
-- Main statements: target_looks, partner_looks (what was read of them); can_join (they can be joined), shared_told,
-- records_few, many_joined, page_filled_ok (what that answers).
use mathlib.Core.Path.{◌≡◌, refl, sym, ap, ap₂, ◌∙◌}
use mathlib.Core.Bool.{Bool}
use mathlib.Core.List.{List, [], ◌++◌}
use Prim.Native.Nat.{ℕ, ◌+◌, ◌*◌, ◌≤◌}
use native.Mathlib.Omega.{arith}
use lib.ListN.{length}
use lib.Seq.{take_all}
use Rattle.model.specs.declared.Entry.{Entry}
use Rattle.model.specs.Entries.{ascending, joined, shares_key}
use Rattle.model.specs.Sizes.{most_records}
use Rattle.model.specs.Pages.{page_of, link_of, entries_of, filled_page, link_to_first}
use Rattle.model.specs.Filling.{primary_of}
use Rattle.model.proofs.Laws.Joins.{length-joined}
use Rattle.records.specs.declared.Working.{Working}
use Rattle.chain_keys.specs.Gathering.{CanWalk, entries_from}
use Rattle.chain_keys.proofs.WholeChain.{sound_ascends}
use Rattle.chain_scan.specs.declared.Looked.{Looked}
use Rattle.key_source.specs.declared.Place.{Place}
use Rattle.key_source.specs.Sources.{records_at, Sits}
use Rattle.key_source.proofs.Places.{length-records_at}
use Rattle.key_source.proofs.Looking.{Looks, chain_looked}
use Rattle.merge_join.specs.Joining.{CanJoin}
use Rattle.merge_build.specs.Combining.{CanCombine}

module _ (w : Working) (t u : Looked) (ls ps : List ℕ) (can : CanCombine w t u ls ps) where
  walks_target : CanWalk w.root ps w.party.chain
  walks_target = let ready = can.at_hand in record { chain_fits = ready.chain_fits; pages_fit = omega (arith, ready.pages_fit) }

  walks_partner : CanWalk w.root ps w.party.other
  walks_partner = let ready = can.at_hand in record { chain_fits = ready.other_fits; pages_fit = omega (arith, ready.pages_fit) }

  pub target_looks : Looks w.root ps w.party.chain t
  target_looks = let ready = can.at_hand in chain_looked w.root ps w.party.chain t ready.keys_fit ready.overflow_fits walks_target can.target

  pub partner_looks : Looks w.root ps w.party.other u
  partner_looks = let ready = can.at_hand in chain_looked w.root ps w.party.other u ready.keys_fit ready.overflow_fits walks_partner can.partner

  -- The places of their first records.
  module _ (first second : Place) (first_sits : Sits ps first)
      (first-is : records_at ps first ≡ entries_of (page_of ps w.party.chain) ++ entries_from ps t.pages (link_of (page_of ps w.party.chain)))
      (second_sits : Sits ps second)
      (second_is : records_at ps second ≡ entries_of (page_of ps w.party.other) ++ entries_from ps u.pages (link_of (page_of ps w.party.other))) where
    abbrev xs : List Entry
    xs = target_looks.chain.entries

    abbrev ys : List Entry
    ys = partner_looks.chain.entries

    firsts : records_at ps first ≡ xs
    firsts = first-is ∙ target_looks.records

    seconds : records_at ps second ≡ ys
    seconds = second_is ∙ partner_looks.records

    pub can_join : CanJoin ps first second
    can_join = record {
      first_sits = first_sits;
      second_sits = second_sits;
      first_ascends = ap ascending firsts ∙ sound_ascends w.root ps w.party.chain target_looks.chain target_looks.is_sound_ok;
      second_ascends = ap ascending seconds ∙ sound_ascends w.root ps w.party.other partner_looks.chain partner_looks.is_sound_ok;
    }

    pub shared_told : {b : Bool} → b ≡ shares_key (records_at ps first) (records_at ps second) → b ≡ shares_key target_looks.chain.entries partner_looks.chain.entries
    shared_told e = e ∙ ap₂ shares_key firsts seconds

    same_joined : joined (records_at ps first) (records_at ps second) ≡ joined xs ys
    same_joined = ap₂ joined firsts seconds

    -- Of each chain no more than its pages can hold.
    pub records_few : t.count + u.count ≤ 2 * (most_records * 753)
    records_few =
        omega (
          arith,
          target_looks.count,
          ap length firsts,
          length-records_at ps first first_sits,
          partner_looks.count,
          ap length seconds,
          length-records_at ps second second_sits,
        )

    pub many_joined : t.count + u.count ≡ length (joined target_looks.chain.entries partner_looks.chain.entries)
    many_joined = omega (arith, target_looks.count, partner_looks.count, length-joined xs ys)

    pub many_records : t.count + u.count ≡ length (joined (records_at ps first) (records_at ps second))
    many_records = many_joined ∙ ap length (sym same_joined)

    pub page_filled_ok : {level : ℕ} {page : List ℕ} → level ≡ target_looks.chain.level → t.count + u.count ≤ w.root.capacity
        → page ≡ filled_page level (joined (records_at ps first) (records_at ps second)) 0
        → page ≡ primary_of w.root.capacity target_looks.chain.level (joined target_looks.chain.entries partner_looks.chain.entries) []
    unfolding primary_of link_to_first
    page_filled_ok el fits e = e ∙ rw (el, same_joined, take_all w.root.capacity (joined xs ys) (omega (arith, many_joined))) refl
