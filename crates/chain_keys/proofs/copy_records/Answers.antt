-- `chain_keys::copy_records` meets its contract.
use Rattle.std.proofs.Common.{◌∙◌, ◌++◌, ◌+◌, ◌-◌, ◌*◌, ap, ℕ, List, take, arith, refl}
use Rattle.std.proofs.lemmas.Slice.{take-put_mid}
use Rattle.model.specs.Sizes.{record_words}
use Rattle.chain_keys.proofs.Copying.{records_copied}
use Rattle.chain_keys.proofs.copy_records.Goals as goal

pub returns : goal.returns
returns c =
    let a = c.args in
    let first = a.at * record_words in
    let part = c.copy_from_slice.new.self in
    let front = take-put_mid first (first + 12 - first) a.words.now part (first + 12) (omega arith) (omega arith) in
    let copied = front ∙ ap (λ (l : List ℕ). take first a.words.now ++ l) c.copy_from_slice.ensures.after in
    rw c.count_of.ensures (refl, records_copied a.words.now _ a.w a.at 12 copied (omega arith) (omega arith))
