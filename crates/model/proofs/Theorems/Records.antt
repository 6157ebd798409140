-- The records of a consistent file, key by key (specs/Consistency.antt says them as one list).
-- Main statements: records_ascend; in_records and in_file (a key has in the joined list what some chain has of it, and
-- nothing else); in_map, map_in_file (of the book's map).
use mathlib.Core.Path.{◌≡◌, sym, ap, ◌∙◌}
use mathlib.Core.Bool.{true}
use mathlib.Core.List.{List, []}
use mathlib.Core.Option.{some}
use Prim.Native.Nat.{ℕ, ◌<◌}
use native.Mathlib.Omega.{arith}
use lib.ListN.{get_or}
use Rattle.model.specs.declared.Entry.{Entry}
use Rattle.model.specs.Entries.{has_key, setting_in, ascending}
use Rattle.model.specs.Chains.{chain_of, records_read, chains_from}
use Rattle.model.specs.Memory.{Memory}
use Rattle.model.specs.Book.{Book, Value}
use Rattle.model.specs.Consistency.{chains_with, Consistent, InFile, records_in, SameMap}
use Rattle.model.proofs.Laws.Entries.{is_in, has_setting}
use Rattle.model.proofs.Laws.Together.{Apart, setting_all, found_all, ascends_all, chains_at_ok, length_chains, chains_apart}

module _ (m : Memory) (f : Consistent m) where
  abbrev n : ℕ
  n = chains_with m f.split

  abbrev chains : List (List Entry)
  chains = chains_from m.root m.pages n 0

  read : (c : ℕ) → c < n → records_read (chain_of m.root m.pages c) ≡ (f.chain c).entries
  unfolding records_read
  read c l = ap records_read (f.reads c l)

  apart : Apart chains
  apart = chains_apart m.root m.pages n
      (λ c d k l h t u. f.disjoint c d k l h (sym (ap (has_key k) (read c l)) ∙ t) (sym (ap (has_key k) (read d h)) ∙ u))

  pub records_ascend : ascending (records_in m f) ≡ true
  unfolding records_in
  records_ascend = ascends_all chains apart

  pub in_records : (k : ℕ) (x : Value) → InFile m f k x → setting_in k (records_in m f) ≡ some x
  unfolding records_in
  in_records k x i =
      let c = i.number in
      let has : setting_in k (get_or chains c []) ≡ some x = ap (setting_in k) (chains_at_ok m.root m.pages n c i.inside ∙ read c i.inside) ∙ i.has in
      setting_all chains apart c k (sym (has_setting k (get_or chains c [])) ∙ ap is_in has) ∙ has

  pub in_file : (k : ℕ) (x : Value) → setting_in k (records_in m f) ≡ some x → InFile m f k x
  unfolding records_in
  in_file k x h =
      let i = found_all chains apart k x h in
      let l : i.number < n = omega (arith, i.inside, length_chains m.root m.pages n) in
      record { number = i.number; inside = l; has = sym (ap (setting_in k) (chains_at_ok m.root m.pages n i.number l ∙ read i.number l)) ∙ i.has }

-- The book has of a key exactly what a chain of the file has of it.
module _ (m : Memory) (b : Book) (f : Consistent m) (s : SameMap m b f) where
  pub in_map : (k : ℕ) (x : Value) → InFile m f k x → setting_in k b.contents ≡ some x
  in_map k x i = ap (setting_in k) (sym s.records) ∙ in_records m f k x i

  pub map_in_file : (k : ℕ) (x : Value) → setting_in k b.contents ≡ some x → InFile m f k x
  map_in_file k x h = in_file m f k x (ap (setting_in k) s.records ∙ h)
