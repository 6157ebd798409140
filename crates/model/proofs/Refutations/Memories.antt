-- Memory and calls that the definitions call wrong, beside those that they call right: made-up memory of the smallest
-- sizes.
-- Main statements: each_waits, one_moves, nobody-waits (progress); holds_told, held_by-nobody, held_by_one (a grant);
-- begun_twice, begun_once, stepped-idle, stepped_busy, withdrawn-idle, withdrawn_busy, refused_busy (a call).
use mathlib.Core.Path.{◌≡◌, refl}
use mathlib.Core.Bool.{Bool, true, false}
use mathlib.Core.List.{List, [], ◌∷◌, map}
use mathlib.Core.Option.{none, some}
use Prim.Native.Nat.{ℕ}
use Rattle.model.specs.declared.Root.{Root}
use Rattle.model.specs.declared.Party.{Party}
use Rattle.model.specs.declared.Operation.{Operation}
use Rattle.model.specs.declared.Mode.TheVariants as Mode
use Rattle.model.specs.Records.{idle}
use Rattle.model.specs.Memory.{Memory}
use Rattle.model.specs.Runs.{Call, begin_for, step_for, withdraw_for}
use Rattle.model.specs.Book.{Book, empty_book}
use Rattle.model.specs.Progress.{progresses, always_progresses}
use Rattle.model.specs.Holds.{Hold, hold, is_hold, grants_right}
use Rattle.model.proofs.Refutations.Opened.{opened}

abbrev pub root_of : ℕ → ℕ → ℕ → ℕ → ℕ → ℕ → ℕ → ℕ → ℕ → Root
root_of n b p v q level next head free =
    record { originals = n; capacity = b; primaries = p; overflow = v; parties = q; level = level; next = next; head = head; free = free }

abbrev pub party_of : ℕ → ℕ → ℕ → ℕ → ℕ → ℕ → ℕ → ℕ → ℕ → ℕ → Party
party_of o k s lev c d old owed a x =
    record { operation = o; key = k; step = s; lev = lev; chain = c; other = d; old = old; owed = owed; answer = a; setting = x }

-- A page with no record.
abbrev pub bare : List ℕ → List ℕ
bare rest = 0 ∷ 0 ∷ 0 ∷ 0 ∷ 0 ∷ 0 ∷ 0 ∷ 0 ∷ 0 ∷ 0 ∷ 0 ∷ 0 ∷ 0 ∷ 0 ∷ 0 ∷ 0 ∷ rest

-- Everybody has a delete of 7 under way, and nobody.
abbrev pub busy : Book
busy = record { contents = []; entries = λ q. some (record { operation = Operation.Delete; key = 7; note = none }) }

-- Two chains, two parties at 4 with a delete. Each wants the chain that the other holds selectively; w is the word of
-- chain 1.
abbrev pub crossed : ℕ → Memory
crossed w = record {
  root = root_of 2 1 2 0 2 0 0 0 0;
  parties = party_of 3 7 4 0 0 0 0 0 0 0 ∷ party_of 3 7 4 0 1 0 0 0 0 0 ∷ [];
  locks = 0 ∷ 131072 ∷ w ∷ [];
  pages = bare (bare (bare (bare [])));
  waiting = 0 ∷ 0 ∷ [];
}

-- ---- Progress

each_waits : progresses 2 busy (crossed 65536) ≡ false
unfolding opened
each_waits = refl

one_moves : progresses 2 busy (crossed 0) ≡ true
unfolding opened
one_moves = refl

nobody-waits : progresses 2 empty_book (crossed 65536) ≡ true
unfolding opened
nobody-waits = refl

never_both : always_progresses 2 busy (crossed 65536) (step_for 0 ∷ []) ≡ false
unfolding opened
never_both = refl

always_one : always_progresses 2 busy (crossed 0) (step_for 0 ∷ []) ≡ true
unfolding opened
always_one = refl

-- ---- Grants

abbrev sizes : Root
sizes = root_of 2 1 2 0 2 0 0 0 0

abbrev held_by : ℕ → ℕ → Hold
held_by q w = hold q (record { word = w; mode = Mode.Selective })

-- A lock is the party's own, on its word and in its mode.
holds_told :
    map (is_hold 1 (record { word = 2; mode = Mode.Selective })) (held_by 1 2 ∷ held_by 0 2 ∷ held_by 1 1 ∷ hold 1 (record { word = 2; mode = Mode.Read }) ∷ []) ≡ true ∷ false ∷ false ∷ false ∷ []
unfolding opened
holds_told = refl

-- Chain 0 is marked as held by party 1, so party 0 waits: right where party 1 holds it by the calls made.
held_by-nobody : grants_right sizes busy [] [] (crossed 0) (step_for 0 ∷ []) ≡ false
unfolding opened
held_by-nobody = refl

held_by_one : grants_right sizes busy (held_by 1 1 ∷ []) [] (crossed 0) (step_for 0 ∷ []) ≡ true
unfolding opened
held_by_one = refl

-- Chain 1 is free, so party 1 is granted it: wrong where party 0 holds it by the calls made.
granted_held : grants_right sizes busy (held_by 0 2 ∷ []) [] (crossed 0) (step_for 1 ∷ []) ≡ false
unfolding opened
granted_held = refl

granted_free : grants_right sizes busy [] [] (crossed 0) (step_for 1 ∷ []) ≡ true
unfolding opened
granted_free = refl

-- Granted once, it is held: the same lock a second time is wrong to grant, and wrong in the second call alone.
granted_again : grants_right sizes busy [] [] (crossed 0) (step_for 1 ∷ step_for 0 ∷ []) ≡ false
unfolding opened
granted_again = refl

-- ---- Refusals: what the calls say is under way, against what memory says

abbrev idles : Memory
idles = record { root = sizes; parties = idle ∷ idle ∷ []; locks = 0 ∷ 0 ∷ 0 ∷ []; pages = bare (bare (bare (bare []))); waiting = 0 ∷ 0 ∷ [] }

abbrev right : Book → Memory → Call → Bool
right b m c = grants_right sizes b [] [] m (c ∷ [])

begun_twice : right busy idles (begin_for 0 Operation.Find 7) ≡ false
unfolding opened
begun_twice = refl

begun_once : right empty_book idles (begin_for 0 Operation.Find 7) ≡ true
unfolding opened
begun_once = refl

-- Party 1 at 4, which would move.
stepped-idle : right empty_book (crossed 0) (step_for 1) ≡ false
unfolding opened
stepped-idle = refl

stepped_busy : right busy (crossed 0) (step_for 1) ≡ true
unfolding opened
stepped_busy = refl

refused_busy : right busy idles (step_for 1) ≡ false
unfolding opened
refused_busy = refl

refused_idle : right empty_book idles (step_for 1) ≡ true
unfolding opened
refused_idle = refl

withdrawn_busy : right busy idles (withdraw_for 1) ≡ false
unfolding opened
withdrawn_busy = refl

withdrawn-idle : right empty_book idles (withdraw_for 1) ≡ true
unfolding opened
withdrawn-idle = refl

-- Beyond the row it is 3 for all three, whatever is under way.
beyond : grants_right sizes busy [] [] idles (begin_for 2 Operation.Find 7 ∷ withdraw_for 2 ∷ []) ≡ true
unfolding opened
beyond = refl
