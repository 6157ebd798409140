-- `entries::leave_out` meets its contract.
use Rattle.std.proofs.Common.{sym, ap, ◌∙◌, ℕ, ◌+◌, ◌-◌, ◌≤◌, length, take, arith}
use Rattle.model.specs.Pages.{records_in}
use Rattle.model.proofs.Laws.RecordWords.{length_records}
use Rattle.entries.proofs.Moving.{all_but, records_moved, left_out}
use Rattle.entries.proofs.Places.{removed_at}
use Rattle.entries.proofs.leave_out.Goals as goal

pub returns : goal.returns
returns c =
    λ k ascends has at.
    let a = c.args in
    let ws = a.words.now in
    let rs = records_in ws in
    let room : a.n ≤ length rs = omega (arith, length_records ws, c.requires.1) in
    let moved = records_moved ws (a.at + 1) a.n a.at (omega (arith, c.requires.0)) room (omega (arith, room, c.requires.0)) in
    ap (λ l. take (a.n - 1) (records_in l)) c.copy_within.ensures.after
    ∙ ap (take (a.n - 1)) moved
    ∙ left_out rs a.n a.at c.requires.0 room
    ∙ ap (λ (p : ℕ). all_but p (take a.n rs)) at
    ∙ sym (removed_at k (take a.n rs) ascends has)
