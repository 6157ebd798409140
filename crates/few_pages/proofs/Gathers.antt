-- A chain gathered at the front of a buffer, and changed there.
-- Main statements: chain_whole (what gather tells); front_ascends, front_few (the records in the buffer); front_has,
-- chain_has (whether the party's key is among them); insert_absent, other_present, place_before (the operation changes
-- the records at the front).
use mathlib.Core.Path.{◌≡◌, sym, ap, ◌∙◌}
use mathlib.Core.Bool.{Bool, true, false, not}
use mathlib.Core.List.{List}
use Prim.Native.Nat.{ℕ, ◌*◌, ◌≤◌, ◌<◌}
use native.Mathlib.Omega.{arith}
use lib.ListN.{length, take}
use lib.Seq.{length-take-le}
use Rattle.std.specs.Prelude.{Result, Ok}
use Rattle.model.specs.declared.Damaged.{Damaged}
use Rattle.model.specs.declared.Root.{Root}
use Rattle.model.specs.declared.Party.{Party}
use Rattle.model.specs.Sizes.{record_words}
use Rattle.model.specs.Entries.{has_key, ascending}
use Rattle.model.specs.Pages.{records_in}
use Rattle.model.specs.Chains.{chain_of}
use Rattle.model.proofs.Laws.Lists.{eqb_same, eqb-diff}
use Rattle.model.proofs.Laws.RecordWords.{length_records, records_take}
use Rattle.records.specs.declared.Working.{Working}
use Rattle.entries.proofs.Places.{place_inside}
use Rattle.chain_keys.specs.declared.Front.{Front}
use Rattle.chain_keys.specs.Gathering.{CanGather, gathered, in_front, entries_in}
use Rattle.chain_keys.proofs.WholeChain.{sound_ascends, Whole, gathered-whole}
use Rattle.chain_change.proofs.ReadChains.{few_records}
use Rattle.few_pages.specs.Few.{CanChangeFew, CanChangeFront}

-- A buffer of 110 words has room for the records of a chain of few pages.
pub can_gather : {w : Working} {n room : ℕ} {ps : List ℕ} → CanChangeFew w n ps → 110 ≤ room → CanGather w.root ps w.party.chain n room
can_gather can long =
    record {
      can_walk = record { chain_fits = can.can_change.chain_fits; pages_fit = can.can_change.pages_fit };
      keys_fit = can.can_change.keys_fit;
      walked = can.walked;
      has_room = omega (arith, can.few, long);
    }

pub chain_whole : {w : Working} {n : ℕ} {ps : List ℕ} → CanChangeFew w n ps → {a : Result Front Damaged} {g : Front} (words : List ℕ)
    → (a ≡ gathered (chain_of w.root ps w.party.chain)) × (in_front a words ≡ entries_in (chain_of w.root ps w.party.chain)) → a ≡ Ok g
    → Whole (chain_of w.root ps w.party.chain) n g words
chain_whole can words told f = gathered-whole (can_gather {room = 110} can (omega arith)) words told f

module _ (r : Root) (ps : List ℕ) (c n : ℕ) (g : Front) (words : List ℕ) (whole : Whole (chain_of r ps c) n g words) where
  pub front_ascends : ascending (take g.count (records_in words)) ≡ true
  front_ascends = ap ascending whole.entries ∙ sound_ascends r ps c whole.chain whole.is_sound_ok

  -- Eight pages have b records each at most.
  pub front_few : n ≤ 7 → g.count ≤ 8 * r.capacity
  front_few few =
      let fewer : length whole.chain.pages ≤ 7 = omega (arith, few, whole.pages) in
      omega (arith, few_records r ps c whole.chain whole.is_sound_ok fewer, whole.count)

  module _ (k : ℕ) {found : Bool} (told : found ≡ has_key k (records_in (take (g.count * record_words) words))) where
    pub front_has : has_key k (take g.count (records_in words)) ≡ found
    front_has = sym (told ∙ ap (has_key k) (records_take g.count words))

    pub chain_has : has_key k whole.chain.entries ≡ found
    chain_has = sym (told ∙ ap (has_key k) (records_take g.count words ∙ whole.entries))

-- ---- What the operation makes of the records

module _ {p : Party} {at count : ℕ} {words : List ℕ} (can : CanChangeFront p at count words) where
  pub insert_absent : p.operation ≡ 2 → has_key p.key (take count (records_in words)) ≡ false
  insert_absent e = can.changes ∙ ap not (eqb_same p.operation 2 e)

  pub other_present : (p.operation ≡ 2 → ⊥) → has_key p.key (take count (records_in words)) ≡ true
  other_present n = can.changes ∙ ap not (eqb-diff p.operation 2 n)

  -- A key that is there stands before the end.
  pub place_before : (p.operation ≡ 2 → ⊥) → at < count
  place_before n =
      let es = take count (records_in words) in
      let many = length-take-le count (records_in words) (omega (arith, length_records words, can.has_room)) in
      omega (arith, can.place, many, place_inside p.key es (other_present n))
