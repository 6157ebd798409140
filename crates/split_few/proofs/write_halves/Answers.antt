-- `split_few::write_halves` meets its contract: Halves has its three ends.
use mathlib.Core.Path.{◌≡◌, refl, sym}
use Prim.Native.Nat.{◌+◌, ◌*◌, ◌≤◌}
use native.Mathlib.Omega.{arith}
use lib.ListN.{length, take}
use lib.Seq.{length-take-le}
use Rattle.model.specs.Sizes.{page_words}
use Rattle.model.specs.Chains.{damaged, sound}
use Rattle.model.specs.FreeList.{pages_taken}
use Rattle.split_few.proofs.Halves.{few_taken, stay_fillable, go_fillable, skips, refuses, moves}
use Rattle.split_few.proofs.write_halves.Goals as goal

pub overflow_add-k : goal.overflow_add-k
overflow_add-k c =
    let a = c.args in
    let first = c.pages_for-first.ensures in
    let last = c.pages_for.ensures in
    record { fits = omega (arith, few_taken c.requires first last) }

pub returns-then-root-k : goal.returns-then-root-k
returns-then-root-k c = λ ls ch found stay go.
    let a = c.args in
    let first = c.pages_for-first.ensures in
    let last = c.pages_for.ensures in
    skips c.requires first last ls ch found stay go c.if-root-k.true

pub take_pages-requires : goal.take_pages-requires
take_pages-requires c =
    let a = c.args in
    let first = c.pages_for-first.ensures in
    let last = c.pages_for.ensures in
    let fits = c.requires.can_split.can_change in
    (fits.pages_fit, fits.overflow_fits, omega (arith, few_taken c.requires first last))

pub slice_bounds-write_chain-end : goal.slice_bounds-write_chain-end
slice_bounds-write_chain-end c =
    let a = c.args in
    let first = c.pages_for-first.ensures in
    let last = c.pages_for.ensures in
    omega (arith, few_taken c.requires first last, c.take_pages.auto.taken)

pub write_chain-requires : goal.write_chain-requires
write_chain-requires c =
    let a = c.args in
    let first = c.pages_for-first.ensures in
    let last = c.pages_for.ensures in
    let k = c.pages_for-first.result + c.pages_for.result in
    let xs = c.take_pages.new.taken in
    let h = c.in_ok-head.head in
    let many : k ≤ length xs = omega (arith, few_taken c.requires first last, c.take_pages.auto.taken) in
    let taken : pages_taken a.work.now.root a.pages.now k ≡ sound (record { pages = take k xs; head = h })
    = sym c.in_ok-head.ensures in
    let fits = c.requires.can_split.can_change in
    let fillable = go_fillable a.work.now.root a.pages.now _ _ xs many h taken fits.pages_fit fits.chains_fit_ok fits.overflow_fits a.pages.now refl in
    (fits.keys_fit, omega (arith, c.requires.few, c.requires.go_room), fillable, omega (arith, c.requires.can_split.other_fits, fits.pages_fit))

pub slice_bounds-taken-end : goal.slice_bounds-taken-end
slice_bounds-taken-end c =
    let first = c.pages_for-first.ensures in
    let last = c.pages_for.ensures in
    omega (arith, few_taken c.requires first last, c.take_pages.auto.taken)

pub slice_bounds-write_chain-end-2 : goal.slice_bounds-write_chain-end-2
slice_bounds-write_chain-end-2 c =
    let first = c.pages_for-first.ensures in
    let last = c.pages_for.ensures in
    sym (length-take-le c.pages_for-first.result c.take_pages.new.taken (omega (arith, few_taken c.requires first last, c.take_pages.auto.taken)))

pub write_chain-requires-2 : goal.write_chain-requires-2
write_chain-requires-2 c =
    let a = c.args in
    let first = c.pages_for-first.ensures in
    let last = c.pages_for.ensures in
    let k = c.pages_for-first.result + c.pages_for.result in
    let xs = c.take_pages.new.taken in
    let h = c.in_ok-head.head in
    let many : k ≤ length xs = omega (arith, few_taken c.requires first last, c.take_pages.auto.taken) in
    let taken : pages_taken a.work.now.root a.pages.now k ≡ sound (record { pages = take k xs; head = h })
    = sym c.in_ok-head.ensures in
    let fits = c.requires.can_split.can_change in
    let written = c.write_chain.new.pages in
    let long : length written ≡ length a.pages.now = c.write_chain.auto.pages in
    let fillable = stay_fillable a.work.now.root a.pages.now _ _ xs many h taken fits.pages_fit fits.chains_fit_ok fits.overflow_fits written long in
    let has : c.scratch_page-scratch.result.0 * page_words + page_words ≤ length written = omega (arith, c.scratch_page-scratch.ensures, fits.scratch.page_fits, long) in
    (fits.keys_fit, omega (arith, c.requires.few, c.requires.stay_room), fillable, has)

pub returns-in_err-head : goal.returns-in_err-head
returns-in_err-head c = λ ls ch found stay go.
    let a = c.args in
    let first = c.pages_for-first.ensures in
    let last = c.pages_for.ensures in
    let k = c.pages_for-first.result + c.pages_for.result in
    let xs = take k c.take_pages.new.taken in
    let bad : pages_taken a.work.now.root a.pages.now k ≡ damaged = sym c.in_err-head.ensures in
    refuses c.requires first last ls ch found stay go c.if-root-k.false _ c.from_residual.ensures.0 bad

pub returns : goal.returns
returns c = λ ls ch found stay go.
    let a = c.args in
    let first = c.pages_for-first.ensures in
    let last = c.pages_for.ensures in
    let k = c.pages_for-first.result + c.pages_for.result in
    let xs = c.take_pages.new.taken in
    let h = c.in_ok-head.head in
    let many : k ≤ length xs = omega (arith, few_taken c.requires first last, c.take_pages.auto.taken) in
    let taken : pages_taken a.work.now.root a.pages.now k ≡ sound (record { pages = take k xs; head = h })
    = sym c.in_ok-head.ensures in
    moves c.requires first last ls ch found stay go c.if-root-k.false h xs many taken _ c.scratch_page-scratch.result.0 _ _ refl c.scratch_page-scratch.ensures
    c.write_chain.ensures c.write_chain-2.ensures
