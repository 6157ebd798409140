-- `entries::put_in` meets its contract.
use Rattle.std.proofs.Common.{sym, ap, ◌∙◌, ℕ, ◌+◌, List, ◌∷◌, ◌++◌, take, drop, set, length, ◌≤◌, ◌<◌, arith}
use Rattle.model.specs.declared.Entry.{Entry}
use Rattle.model.specs.Pages.{records_in}
use Rattle.model.proofs.Laws.RecordWords.{length_records}
use Rattle.entries.proofs.Moving.{records_moved, put_in_place}
use Rattle.entries.proofs.Places.{place_among, inserted_at}
use Rattle.entries.proofs.put_in.Goals as goal

pub returns : goal.returns
returns c =
    let a = c.args in
    let ws = a.words.now in
    let rs = records_in ws in
    let es = take a.n rs in
    let within : a.at ≤ a.n = omega (arith, c.requires.2, place_among a.e.key a.n rs) in
    let room : a.n < length rs = omega (arith, length_records ws, c.requires.0) in
    let moved = records_moved ws a.at a.n (a.at + 1) within (omega arith) (omega arith) in
    ap (take (a.n + 1)) c.set_record.ensures
    ∙ ap (λ l. take (a.n + 1) (set (records_in l) a.at a.e)) c.copy_within.ensures.after
    ∙ ap (λ (l : List Entry). take (a.n + 1) (set l a.at a.e)) moved
    ∙ put_in_place rs a.n a.at a.e within room
    ∙ ap (λ (p : ℕ). take p es ++ (a.e ∷ drop p es)) c.requires.2
    ∙ sym (inserted_at a.e es c.requires.1 c.requires.3)
