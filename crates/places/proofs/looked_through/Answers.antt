-- `places::looked_through`: the loop looks at one entry more in each turn (Looks.seen_next), and once all are looked at
-- it has seen where the party stands (Looks.stands_seen).
use Rattle.std.proofs.Common.{◌≡◌, ◌<◌, ◌≤◌, ◌∙◌, sym, length, take, get_or, arith}
use Rattle.std.proofs.Math.Seq.{length-take-le}
use Rattle.std.proofs.lemmas.List.{get_or-take}
use Rattle.waiting_row.proofs.Words.{waiters_fit}
use Rattle.waiting_row.proofs.Looks.{seen_none, seen_next, stands_seen}
use Rattle.places.proofs.looked_through.Goals as goal

pub slice_bounds-word-items-end : goal.slice_bounds-word-items-end
slice_bounds-word-items-end c = sym (length-take-le _ _ (rw c.waiters-n.ensures (waiters_fit c.args.row.now)))

pub loop-word-init : goal.loop-word-init
loop-word-init c =
    c.started-seen.ensures
    ∙ rw c.gapless-gapless.ensures (seen_none c.args.root.now c.args.parties.now c.args.q _ c.args.row.now)

pub loop-word-preserved : goal.loop-word-preserved
loop-word-preserved c =
    let row = c.args.row.now in
    let i = c.loop-word.word-index in
    let n = c.waiters-n.result in
    let fit : n ≤ length row = rw c.waiters-n.ensures (waiters_fit row) in
    let long : length (take n row) ≡ n = length-take-le n row fit in
    let below : i < n = omega (arith, long) in
    let at : get_or (take n row) i 0 ≡ get_or row i 0 = get_or-take n row i 0 below in
    c.looked-seen.ensures ∙ rw (c.loop-word.invariant, at) (seen_next _ _ _ _ row i (omega arith))

pub returns : goal.returns
returns c =
    let row = c.args.row.now in
    let n = c.waiters-n.result in
    let fit : n ≤ length row = rw c.waiters-n.ensures (waiters_fit row) in
    let long : length (take n row) ≡ n = length-take-le n row fit in
    let all : c.loop-word.word-index ≡ n = omega (arith, long) in
    c.placed.ensures ∙ rw (c.loop-word.invariant, all, c.waiters-n.ensures) (stands_seen c.args.root.now c.args.parties.now c.args.q row)
