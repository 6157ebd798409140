-- `chain_scan::look_through` meets its contract.
use Rattle.std.proofs.Common.{◌∙◌, sym, ap, arith}
use Rattle.chains.proofs.Answered.{damage_is}
use Rattle.chain_keys.proofs.WholeChain.{pages_bounded, unwalked_damaged}
use Rattle.chain_scan.specs.Scans.{scanned}
use Rattle.chain_scan.proofs.ScannedChain.{walked_passed, pages_followed_ok, chain_scanned}
use Rattle.chain_scan.proofs.look_through.Goals as goal

pub returns-in_err-n : goal.returns-in_err-n
returns-in_err-n c = damage_is _ c.from_residual.ensures.0 ∙ ap (scanned c.args.key) (sym (unwalked_damaged _ _ _ c.in_err-n.ensures))

pub examine-requires : goal.examine-requires
examine-requires c =
    let a = c.args in
    let n = c.in_ok-n.n in
    let passed = walked_passed a.root a.pages.now a.chain.0 n c.requires.0 c.requires.1 (sym c.in_ok-n.ensures) in
    let bound = pages_bounded a.root a.pages.now a.chain.0 n (sym c.in_ok-n.ensures) in
    (pages_followed_ok a.root a.pages.now a.chain.0 n passed (omega (arith, c.requires.0.chain_fits, c.requires.0.pages_fit)), omega (arith, bound, c.requires.2))

pub returns : goal.returns
returns c =
    let a = c.args in
    let passed = walked_passed a.root a.pages.now a.chain.0 c.in_ok-n.n c.requires.0 c.requires.1 (sym c.in_ok-n.ensures) in
    c.examine.ensures ∙ sym (chain_scanned a.root a.pages.now a.chain.0 c.in_ok-n.n passed a.key)
