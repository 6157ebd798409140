-- Find: step 9 (document 01, "The thirty steps"). The scratch page holds the page looked at; a call looks at one page.
-- Main definition: step09.
use Rattle.std.specs.Prelude.{cond, [], ◌∷◌, eqb}
use Rattle.model.specs.declared.OperationAnswer.{OperationAnswer}
use Rattle.model.specs.declared.Restructuring.{Restructuring}
use Rattle.model.specs.Answers.{found_or_absent}
use Rattle.model.specs.Entries.{has_key, setting_in}
use Rattle.model.specs.Pages.{page_of, link_of, linked_page, page_sound, entries_of}
use Rattle.model.specs.Outcome.{View, Outcome, moved, guarded}
use Rattle.model.specs.LockRequests.{chain_lock, held_all, given_up}
use Rattle.model.specs.ScratchPages.{scratch_of, with_scratch}
use Rattle.model.specs.Endings.{done}

-- "give up the chain, done".
unfoldable pub answered : View → OperationAnswer → Outcome
answered v a =
    let cs = chain_lock v.party ∷ [] in
    guarded v (held_all v cs) (done a Restructuring.None (given_up cs v))

-- "Else copy the linked page over it and stay at 9."
unfoldable pub looked_on : View → Outcome
looked_on v =
    let w = page_of v.pages (linked_page (link_of (scratch_of v))) in
    guarded v (page_sound v.root w) (moved (with_scratch w v))

-- 9: key on the scratch page: found, with the setting that stands there. No link: absent. Else on.
unfoldable pub step09 : View → Outcome
step09 v =
    let s = scratch_of v in
    let on = cond (eqb (link_of s) 0) (answered v OperationAnswer.Absent) (looked_on v) in
    guarded v (page_sound v.root s) (cond (has_key v.party.key (entries_of s)) (answered v (found_or_absent (setting_in v.party.key (entries_of s)))) on)
