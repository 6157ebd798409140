-- Files and the yardstick by the sizes given to format; what a file reached at rest holds.
-- Main statements: file_given, performed-given (the sizes given or the root's: the same); reached_holding (at rest the
-- file holds exactly the book's map), reached_map, reached_home, reached_reads;
-- start_file (format leaves the yardstick's first file).
use mathlib.Core.Path.{◌≡◌, refl, sym, ap, ◌∙◌, subst}
use mathlib.Core.List.{List, []}
use Prim.Native.Nat.{ℕ, ◌<◌}
use native.Mathlib.Omega.{arith}
use Rattle.model.specs.declared.Root.{Root}
use Rattle.model.specs.declared.Operation.{Operation}
use Rattle.model.specs.Addresses.{chain_count}
use Rattle.model.specs.Entries.{setting_in}
use Rattle.model.specs.Chains.{Chain, chain_of}
use Rattle.model.specs.Pages.{link_to_first}
use Rattle.model.specs.Memory.{Memory}
use Rattle.model.specs.Runs.{Call, events}
use Rattle.model.specs.Book.{Book, book_at_end}
use Rattle.model.specs.TakeUp.{open_book}
use Rattle.model.specs.Progress.{is_entered, under_way}
use Rattle.theory.specs.Sequential.{File, records_at, chains_in, map_in, file_of, ChainsRead}
use Rattle.theory.proofs.Singly.StepWords.{short_of, free_in, parted, split_file, rejoined, merge_file, find_in, added, insert_in, removed, delete_in, performed_on, home_in as step_home, chains_in as step_chains}
use Rattle.theory.proofs.Singly.Tied.{count_same, home_same}
use Rattle.theory.specs.Demands.{Start, map_start, sizes_of, Reached, book_reached, AtRest, file_reached, at_home}
use Rattle.model.proofs.Invariant.Ghost.{in_chain, size, local_level}
use Rattle.model.proofs.Invariant.Statement.{Inv}
use Rattle.model.proofs.Invariant.Frame.{SameLimits}
use Rattle.model.proofs.Effects.BuiltChain.{chain_found}
use Rattle.theory.proofs.Reached.{started_inv, reached_inv}
use Rattle.theory.proofs.SizesStay.{sizes_same, reached_limits, sized_root_lem}
use Rattle.theory.proofs.Singly.Files.{Holding, held_home, map_held}
use Rattle.theory.proofs.Singly.AtRest.{live_holding, file_read}
use Rattle.theory.proofs.Singly.Whole.{live_at_rest}

-- ---- The sizes given or the root's

pub file_given : (z : Root) (m : Memory) → SameLimits z m.root → file_of z m ≡ file_of m.root m
unfolding file_of
file_given z m l = ap (λ (r : Root). file_of r m) (sized_root_lem z m.root l)

pub performed-given : (z r : Root) → SameLimits z r → (f : File) (o : Operation) (k : ℕ) → performed_on r f o k ≡ performed_on z f o k
unfolding performed_on find_in insert_in delete_in added removed split_file merge_file short_of free_in step_home step_chains parted rejoined
performed-given z r l f Operation.Find k = ap (λ (u : Root). performed_on u f Operation.Find k) (sizes_same z r l)
performed-given z r l f (Operation.Insert x) k = ap (λ (u : Root). performed_on u f (Operation.Insert x) k) (sizes_same z r l)
performed-given z r l f Operation.Delete k = ap (λ (u : Root). performed_on u f Operation.Delete k) (sizes_same z r l)

-- ---- At rest

module _ (s : Start) (cs : List Call) (rest : AtRest (book_reached s cs)) where
  abbrev m : Memory
  m = Reached s cs

  abbrev b : Book
  b = book_reached s cs

  i : Inv m b
  i = reached_inv s cs

  limits : SameLimits (sizes_of s) (Reached s cs).root
  limits = reached_limits s cs

  -- The file holds exactly the book's map.
  pub reached_holding : Holding (sizes_of s).originals (file_reached s cs) (book_reached s cs).contents
  reached_holding =
      subst (λ (n : ℕ). Holding n (file_reached s cs) b.contents) limits.originals=
      (subst (λ (f : File). Holding m.root.originals f b.contents) (sym (file_given (sizes_of s) m limits ∙ file_read m b i (live_at_rest m b i rest)))
      (live_holding m b i))

  pub reached_map : map_in (file_reached s cs) ≡ (book_reached s cs).contents
  reached_map = map_held (sizes_of s).originals (file_reached s cs) b.contents reached_holding

  -- Key by key: the file's map has of a key what the key's home chain has.
  pub reached_home : (k : ℕ) → setting_in k (map_in (file_reached s cs)) ≡ at_home s cs k
  unfolding step_home
  reached_home k =
      ap (setting_in k) reached_map ∙ sym (held_home (sizes_of s).originals (file_reached s cs) b.contents reached_holding k)
      ∙ ap (λ (c : ℕ). setting_in k (records_at (file_reached s cs) c)) (sym (home_same (sizes_of s) (file_reached s cs) k))

  abbrev chain_at_lem : ℕ → Chain
  chain_at_lem c = record {
    level = local_level m.root.originals i.ghost.live c;
    link = link_to_first (i.ghost.held (in_chain c));
    pages = i.ghost.held (in_chain c);
    entries = i.ghost.records c;
  }

  many : chains_in (sizes_of s) (file_reached s cs) ≡ size m.root.originals i.ghost.live
  unfolding step_chains file_of size
  many =
      count_same (sizes_of s) (file_reached s cs) ∙ ap (λ (n : ℕ). chain_count n m.root.level m.root.next) (sym limits.originals=)
      ∙ sym (ap (size m.root.originals) (live_at_rest m b i rest))

  pub reached_reads : ChainsRead (sizes_of s) (Reached s cs)
  reached_reads = record {
    chain = chain_at_lem;
    reads = λ c h. ap (λ (r : Root). chain_of r m.pages c) (sized_root_lem (sizes_of s) m.root limits) ∙ chain_found m b i c (omega (arith, many));
  }

-- ---- The file that format leaves

-- Nobody is under way.
pub start_rests : (s : Start) → AtRest (book_reached s [])
unfolding events book_at_end open_book under_way is_entered
start_rests s q = refl

pub some_original : (s : Start) → 0 < (sizes_of s).originals
some_original s = omega (arith, (started_inv s).limits.some_original)

-- The file holds the map.
pub start_held : (s : Start) → Holding (sizes_of s).originals (file_reached s []) (map_start s)
unfolding events book_at_end open_book
start_held s = reached_holding s [] (start_rests s)
