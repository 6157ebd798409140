-- A chain that was looked through whole can be read again.
-- Main statement: chain_looked.
use mathlib.Core.Path.{◌≡◌, sym, ap, subst, ◌∙◌}
use mathlib.Core.List.{List, ◌++◌}
use Prim.Native.Nat.{ℕ, ◌≤◌}
use lib.ListN.{length}
use Rattle.std.specs.Prelude.{Ok}
use Rattle.model.specs.declared.Root.{Root}
use Rattle.model.specs.Sizes.{most_records}
use Rattle.model.specs.Pages.{page_of, level_of, link_of, entries_of}
use Rattle.model.specs.Chains.{sound, Chain, read_chain, chain_of}
use Rattle.model.proofs.Laws.Walks.{chain_reads}
use Rattle.chain_keys.specs.Gathering.{CanWalk, entries_from}
use Rattle.chain_scan.specs.declared.Looked.{Looked}
use Rattle.chain_scan.specs.Scans.{scanned}
use Rattle.chain_scan.proofs.ScannedChain.{looked_at_lem}
use Rattle.key_source.specs.Sources.{CanStart}
use Rattle.key_source.proofs.Places.{chain_starts, chain_records}

-- What was read of chain c, of which l is said.
pub record Looks (r : Root) (ps : List ℕ) (c : ℕ) (l : Looked) : Type 0 where
  pub chain : Chain
  pub is_sound_ok : chain_of r ps c ≡ sound chain
  pub can_start : CanStart ps c l.pages
  pub records : entries_of (page_of ps c) ++ entries_from ps l.pages (link_of (page_of ps c)) ≡ chain.entries
  pub level : level_of (page_of ps c) ≡ chain.level
  pub link : link_of (page_of ps c) ≡ chain.link
  pub count : l.count ≡ length chain.entries

pub chain_looked : (r : Root) (ps : List ℕ) (c : ℕ) (l : Looked) → r.capacity ≤ most_records → r.overflow ≤ 752 → CanWalk r ps c
    → Ok l ≡ scanned 0 (chain_of r ps c) → Looks r ps c l
unfolding read_chain
chain_looked r ps c l fit overflow can e =
    let x = looked_at_lem (chain_of r ps c) 0 l e in
    let d = x.chain in
    let reads = (chain_reads r ps c d x.is_sound_ok).chain_is in
    record {
      chain = d;
      is_sound_ok = x.is_sound_ok;
      can_start = subst (CanStart ps c) (sym x.pages) (chain_starts r ps c fit overflow can d x.is_sound_ok);
      records = ap (λ (n : ℕ). entries_of (page_of ps c) ++ entries_from ps n (link_of (page_of ps c))) x.pages ∙ chain_records r ps c fit overflow can d x.is_sound_ok;
      level = ap (λ (h : Chain). h.level) reads;
      link = ap (λ (h : Chain). h.link) reads;
      count = x.count;
    }
