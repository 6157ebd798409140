-- Withdraw (document 02, change 2): "Withdraw takes back a begin". A party gives up what its operation holds and has
-- built, while the decisive step is not yet taken.
-- Main definitions: is_decided (whether it is taken); built_pages (the pages built and not yet in the file), taken_back
-- (the memory then); Withdrawal and withdrawn (with the tests of damage).
use Rattle.std.specs.Prelude.{Bool, cond, ◌&&◌, ◌||◌, List, [], reverse, ℕ, length, eqb, leb, Ok, Err}
use Rattle.model.specs.declared.Refusal.{Refusal}
use Rattle.model.specs.Answers.{CallReply}
use Rattle.model.specs.declared.Party.{Party}
use Rattle.model.specs.Records.{find_operation, insert_operation, delete_operation, idle}
use Rattle.model.specs.Pages.{link_of, page_sound, zero_page}
use Rattle.model.specs.Chains.{Checked, damaged, sound, and_then, sound_if, list_from}
use Rattle.model.specs.Outcome.{View, with_party}
use Rattle.model.specs.FreeList.{room_to_give_back, pages_given_back}
use Rattle.model.specs.LockRequests.{held_all, given_up}
use Rattle.model.specs.ScratchPages.{scratch_of, with_scratch}
use Rattle.model.specs.Claims.{claims}

-- "when the decisive step has been taken (a find at 9, a change at 12 or later)": by the record's operation and step
-- number alone.
unfoldable pub is_decided : Party → Bool
is_decided p =
    (eqb p.operation find_operation && eqb p.step 9)
    || ((eqb p.operation insert_operation || eqb p.operation delete_operation) && leb 12 p.step)

-- "pages built and not yet written into the file (at step 11, those scratch leads to)"; the scratch page and each page
-- of the list must be sound.
unfoldable pub built_pages : View → Checked (List ℕ)
built_pages v =
    let s = scratch_of v in
    let list = cond (page_sound v.root s) (list_from v.root v.pages (link_of s)) damaged in
    cond (eqb v.party.step 11) list (sound [])

-- "locks are given up, pages built ... go back in reverse order, the party's record and scratch page are zeroed": xs
-- are the pages built, in chain order.
unfoldable pub taken_back : View → List ℕ → View
taken_back v xs = with_party idle (with_scratch zero_page (given_up (claims v.root v.party) (pages_given_back (reverse xs) v)))

-- The same where every lock given up is held and the free count has room; else a number is damaged.
unfoldable pub taken_back_soundly : View → Checked View
taken_back_soundly v =
    and_then (built_pages v)
    (λ xs. sound_if (held_all v (claims v.root v.party) && room_to_give_back v.root (length xs)) (taken_back v xs))

-- The answer, and what the memory then is.
pub record Withdrawal : Type 0 where
  pub answer : CallReply
  pub after : View

abbrev pub withdrawal : CallReply → View → Withdrawal
withdrawal a v = record { answer = a; after = v }

-- A refused withdraw leaves all lent memory.
abbrev pub withdrawn_to : View → Checked View → Withdrawal
withdrawn_to v damaged = withdrawal (Err Refusal.Damage) v
withdrawn_to v (sound w) = withdrawal (Ok tt) w

-- What a withdraw does once no row of the refusal table is met.
unfoldable pub withdrawn : View → Withdrawal
withdrawn v = withdrawn_to v (taken_back_soundly v)
