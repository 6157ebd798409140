-- `pages::store` meets its contract: a part of the page memory that became `w` is the page written.
use Rattle.model.specs.Sizes.{page_words}
use Rattle.model.specs.Pages.{with_page}
use borrow.Rule.Slice.PartMut.{put_mid, Post-is}
use native.Mathlib.Omega.{arith}
use mathlib.Core.Path.{◌≡◌, refl}
use mathlib.Core.List.{List}
use Prim.Native.Nat.{ℕ, ◌+◌, ◌-◌, ◌*◌}
use Rattle.pages.proofs.store.Goals as goal

-- The sixteen words from word 16 p on, put back as w, are page p written.
part-is-page : (ps w : List ℕ) (p start : ℕ) → start ≡ p * page_words → put_mid start (start + page_words - start) ps w ≡ with_page ps p w
unfolding with_page
part-is-page ps w p start e = rw (Post-is start (start + 16) ps (omega arith), e) refl

pub returns : goal.returns
returns c =
    let a = c.args in
    let start = c.first_word-start in
    rw c.fill.ensures (part-is-page a.pages.now a.w a.p.0 start.result start.ensures)
