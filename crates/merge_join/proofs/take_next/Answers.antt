-- `merge_join::take_next` meets its contract: Taking has both cases.
use mathlib.Core.Path.{sym, ◌∙◌}
use native.Mathlib.Omega.{arith}
use Rattle.merge_join.proofs.Taking.{Settled, first_some, second_some, takes_first, takes_second}
use Rattle.merge_join.proofs.take_next.Goals as goal

pub entry_at-requires : goal.entry_at-requires
entry_at-requires c =
    let f = c.settled-p in
    let s = c.settled-q in
    let a = c.args in
    let first : Settled a.pages.now a.first f.result = record { sits = f.ensures.0; same = f.ensures.1; ended = f.ensures.2 } in
    let second : Settled a.pages.now a.second s.result = record { sits = s.ensures.0; same = s.ensures.1; ended = s.ensures.2 } in
    let is_first = sym c.comes_first.ensures ∙ c.if-comes_first.true in
    let some = first_some a.pages.now a.first a.second f.result s.result c.requires.0 first second is_first c.requires.1 in
    (f.ensures.0, some)

pub passed-requires : goal.passed-requires
passed-requires c =
    let f = c.settled-p in
    let s = c.settled-q in
    let a = c.args in
    let first : Settled a.pages.now a.first f.result = record { sits = f.ensures.0; same = f.ensures.1; ended = f.ensures.2 } in
    let second : Settled a.pages.now a.second s.result = record { sits = s.ensures.0; same = s.ensures.1; ended = s.ensures.2 } in
    let is_first = sym c.comes_first.ensures ∙ c.if-comes_first.true in
    let some = first_some a.pages.now a.first a.second f.result s.result c.requires.0 first second is_first c.requires.1 in
    omega (arith, some, f.ensures.0)

pub returns-then-comes_first : goal.returns-then-comes_first
returns-then-comes_first c =
    let f = c.settled-p in
    let s = c.settled-q in
    let a = c.args in
    let first : Settled a.pages.now a.first f.result = record { sits = f.ensures.0; same = f.ensures.1; ended = f.ensures.2 } in
    let second : Settled a.pages.now a.second s.result = record { sits = s.ensures.0; same = s.ensures.1; ended = s.ensures.2 } in
    let is_first = sym c.comes_first.ensures ∙ c.if-comes_first.true in
    let some = first_some a.pages.now a.first a.second f.result s.result c.requires.0 first second is_first c.requires.1 in
    let taken = takes_first a.pages.now a.first a.second f.result s.result c.requires.0 first second some is_first c.passed.result c.passed.ensures in
    rw c.entry_at.ensures taken

pub entry_at-requires-2 : goal.entry_at-requires-2
entry_at-requires-2 c =
    let f = c.settled-p in
    let s = c.settled-q in
    let a = c.args in
    let first : Settled a.pages.now a.first f.result = record { sits = f.ensures.0; same = f.ensures.1; ended = f.ensures.2 } in
    let second : Settled a.pages.now a.second s.result = record { sits = s.ensures.0; same = s.ensures.1; ended = s.ensures.2 } in
    let is_second = sym c.comes_first.ensures ∙ c.if-comes_first.false in
    let some = second_some a.pages.now a.first a.second f.result s.result c.requires.0 first second is_second in
    (s.ensures.0, some)

pub passed-requires-2 : goal.passed-requires-2
passed-requires-2 c =
    let f = c.settled-p in
    let s = c.settled-q in
    let a = c.args in
    let first : Settled a.pages.now a.first f.result = record { sits = f.ensures.0; same = f.ensures.1; ended = f.ensures.2 } in
    let second : Settled a.pages.now a.second s.result = record { sits = s.ensures.0; same = s.ensures.1; ended = s.ensures.2 } in
    let is_second = sym c.comes_first.ensures ∙ c.if-comes_first.false in
    let some = second_some a.pages.now a.first a.second f.result s.result c.requires.0 first second is_second in
    omega (arith, some, s.ensures.0)

pub returns : goal.returns
returns c =
    let f = c.settled-p in
    let s = c.settled-q in
    let a = c.args in
    let first : Settled a.pages.now a.first f.result = record { sits = f.ensures.0; same = f.ensures.1; ended = f.ensures.2 } in
    let second : Settled a.pages.now a.second s.result = record { sits = s.ensures.0; same = s.ensures.1; ended = s.ensures.2 } in
    let is_second = sym c.comes_first.ensures ∙ c.if-comes_first.false in
    let some = second_some a.pages.now a.first a.second f.result s.result c.requires.0 first second is_second in
    let taken = takes_second a.pages.now a.first a.second f.result s.result c.requires.0 first second some is_second c.passed-2.result c.passed-2.ensures in
    rw c.entry_at-2.ensures taken
