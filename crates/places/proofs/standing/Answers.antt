-- `places::standing`: what is seen at the end is the party's place.
use Rattle.std.proofs.Common.{◌∙◌}
use Rattle.waiting_row.proofs.Rows.{placed_right}
use Rattle.places.proofs.standing.Goals as goal

pub returns-then-q-parties : goal.returns-then-q-parties
returns-then-q-parties c inside small long level =
    c.looked_through.ensures
    ∙ placed_right c.args.root.now c.args.parties.now c.args.q small long level c.args.row.now
