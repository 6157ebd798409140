-- `places::placing`: where all words are 0 nobody waits.
use Rattle.std.proofs.Common.{◌≡◌, ◌∙◌, Bool, true, false, refl, sym}
use Rattle.std.specs.Prelude.{not}
use Rattle.model.specs.WaitingRow.{all_zero}
use Rattle.waiting_row.proofs.Rows.{alone_right}
use Rattle.places.proofs.placing.Goals as goal

denied : (b : Bool) → not b ≡ false → b ≡ true
denied true e = refl
denied false e = cc

pub returns-else-somebody : goal.returns-else-somebody
returns-else-somebody c inside small long level =
    let zero : all_zero c.args.row.now ≡ true = denied _ (sym c.somebody.ensures ∙ c.if-somebody.false) in
    alone_right c.args.root.now c.args.parties.now c.args.q c.args.row.now zero
