-- The plain map (demand 2: "operations run singly answer as a plain set does"; document 02, change 1: "The file now behaves as a one-at-a-time map"): keys with their settings and nothing
-- else, one operation after the other.
-- Main definitions: PlainMap, empty_map; plain_answer and plain_after (what an operation answers, and the map it leaves); answers_as_map and map_left_by (with "no page").
-- What an operation leaves of each key is plain_setting of proofs/Meanings.antt.
use Rattle.std.specs.Prelude.{Bool, false, cond, not, ◌&&◌, ◌||◌, List, [], ℕ, eqb}
use Rattle.model.specs.declared.Operation.{Operation}
use Rattle.model.specs.declared.OperationAnswer.{OperationAnswer}
use Rattle.model.specs.declared.Entry.{Entry}
use Rattle.model.specs.Answers.{answer_number, found_or_absent, same_answer}
use Rattle.model.specs.Entries.{entry_of, has_key, setting_in, inserted_into, removed_from}

-- A map: a record for each key that is in, keys strictly ascending.
abbrev pub PlainMap : Type 0
PlainMap = List Entry

unfoldable pub empty_map : PlainMap
empty_map = []

-- What an operation with key k answers on a map.
unfoldable pub plain_answer : PlainMap → Operation → ℕ → OperationAnswer
plain_answer s Operation.Find k = found_or_absent (setting_in k s)
plain_answer s (Operation.Insert x) k = cond (has_key k s) OperationAnswer.Present OperationAnswer.Inserted
plain_answer s Operation.Delete k = cond (has_key k s) OperationAnswer.Deleted OperationAnswer.Absent

-- The map that it leaves. "an insert of a present key keeps the old one".
unfoldable pub plain_after : PlainMap → Operation → ℕ → PlainMap
plain_after s Operation.Find k = s
plain_after s (Operation.Insert x) k = cond (has_key k s) s (inserted_into (entry_of k x) s)
plain_after s Operation.Delete k = removed_from k s

-- Where "no page" may stand: an insert of a missing key or a delete of a present one. It leaves the map.
unfoldable pub may_lack_pages : PlainMap → Operation → ℕ → Bool
may_lack_pages s Operation.Find k = false
may_lack_pages s (Operation.Insert x) k = not (has_key k s)
may_lack_pages s Operation.Delete k = has_key k s

unfoldable pub is_no_page : OperationAnswer → Bool
is_no_page a = eqb (answer_number a) (answer_number OperationAnswer.NoPage)

-- Whether a map may give this answer: the plain one, or "no page" where it may stand.
unfoldable pub answers_as_map : PlainMap → Operation → ℕ → OperationAnswer → Bool
answers_as_map s o k a = same_answer a (plain_answer s o k) || (is_no_page a && may_lack_pages s o k)

-- The map after an operation that gave this answer.
unfoldable pub map_left_by : PlainMap → Operation → ℕ → OperationAnswer → PlainMap
map_left_by s o k a = cond (is_no_page a) s (plain_after s o k)
