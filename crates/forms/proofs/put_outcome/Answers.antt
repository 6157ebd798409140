-- `forms::put_outcome` meets its contract.
use Rattle.forms.specs.Replies.{outcome_text}
use Rattle.forms.proofs.Puts.{put_then, room_behind}
use Rattle.forms.proofs.put_outcome.Goals as goal

pub put_text-requires : goal.put_text-requires
unfolding outcome_text
put_text-requires c =
    let a = c.args in
    room_behind a.at a.out.now _ _ c.fill-next.ensures (rw c.in-Ok.is at c.requires)

pub fill-requires : goal.fill-requires
unfolding outcome_text
fill-requires c =
    let a = c.args in
    room_behind a.at a.out.now _ _ c.fill-next.ensures (rw c.in-Err.is at c.requires)

pub returns-in-Ok : goal.returns-in-Ok
unfolding outcome_text
returns-in-Ok c =
    let a = c.args in
    rw c.in-Ok.is (put_then a.at a.out.now _ _ c.fill-next.ensures c.put_text.ensures)

pub returns-in-Err : goal.returns-in-Err
unfolding outcome_text
returns-in-Err c =
    let a = c.args in
    rw c.in-Err.is (put_then a.at a.out.now _ _ c.fill-next.ensures c.fill.ensures)
