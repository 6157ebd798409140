-- `filling::page_words` meets its contract: a record more is written in each turn.
use Rattle.std.proofs.Common.{◌≡◌, ◌∙◌, ◌+◌, ◌*◌, ◌/◌, ap, ℕ, List, length, get_or, set, arith, refl}
use Rattle.model.specs.Sizes.{record_words}
use Rattle.filling.proofs.PageWords.{words_after, record_written, page_copied}
use Rattle.filling.proofs.page_words.Goals as goal

pub loop-i-init : goal.loop-i-init
loop-i-init c = refl

pub loop-i-preserved : goal.loop-i-preserved
loop-i-preserved c =
    let l = c.loop-i in
    let a = c.args in
    let ws = a.records.now in
    let n = length ws / record_words in
    let key = l.i * record_words in
    ap (λ (w : List ℕ). set (set w (3 + key) (get_or ws key 0)) (3 + key + 1) (get_or ws (key + 1) 0)) l.invariant
    ∙ record_written a.level n ws a.link l.i (omega (arith, c.loop-i-test.true)) c.requires

pub returns : goal.returns
returns c =
    let l = c.loop-i in
    let a = c.args in
    let ws = a.records.now in
    let all : l.i ≡ length ws / record_words = omega (arith, c.loop-i-test.false, l.auto.i-end) in
    l.invariant ∙ rw all (page_copied a.level a.link ws c.requires)
