-- Every definition of specs/ and of the model opened, so that the checker can run them on closed memory.
-- Main statement: opened, to be named after `unfolding`.
use Prim.Native.Nat.{ℕ}

unfoldable pub opened : ℕ
unfolding Rattle.model.specs.Addresses.span Rattle.model.specs.Addresses.hash_of Rattle.model.specs.Addresses.level_for Rattle.model.specs.Addresses.address_for
    Rattle.model.specs.Addresses.chain_count Rattle.model.specs.Addresses.split_next Rattle.model.specs.Addresses.split_level Rattle.model.specs.Addresses.merge_partner
    Rattle.model.specs.Addresses.merge_target Rattle.model.specs.Addresses.merge_level Rattle.model.specs.Addresses.split_barred Rattle.model.specs.Addresses.merge_barred
    Rattle.model.specs.Answers.operation_number Rattle.model.specs.Answers.setting_given Rattle.model.specs.Answers.answer_number Rattle.model.specs.Answers.answer_of
    Rattle.model.specs.Answers.found_or_absent Rattle.model.specs.Answers.setting_found Rattle.model.specs.Answers.same_answer Rattle.model.specs.Answers.restructuring_number
    Rattle.model.specs.Answers.restructuring_of Rattle.model.specs.Answers.cause_number Rattle.model.specs.Answers.is_damage Rattle.model.specs.Answers.refusal_number
    Rattle.model.specs.Answers.is_moved Rattle.model.specs.Answers.performs Rattle.model.specs.Book.empty_book Rattle.model.specs.Book.changed_at
    Rattle.model.specs.Book.enter Rattle.model.specs.Book.note_at_six Rattle.model.specs.Book.note_at_ten Rattle.model.specs.Book.note_at_eleven Rattle.model.specs.Book.contents_at_eleven
    Rattle.model.specs.Book.noted_if_find Rattle.model.specs.Book.note_step Rattle.model.specs.Book.note_for Rattle.model.specs.Book.after_reply Rattle.model.specs.Book.after_begin
    Rattle.model.specs.Book.after_withdraw Rattle.model.specs.Book.book_after Rattle.model.specs.Book.is_note Rattle.model.specs.Book.is_note_of Rattle.model.specs.Book.agrees_with
    Rattle.model.specs.Book.agrees Rattle.model.specs.Book.book_agrees Rattle.model.specs.Book.book_at_end Rattle.model.specs.Calls.format_call Rattle.model.specs.Calls.with_begun
    Rattle.model.specs.Calls.begin_call Rattle.model.specs.Calls.stepped Rattle.model.specs.Calls.step_call Rattle.model.specs.Calls.withdrawn_from Rattle.model.specs.Calls.withdraw_call
    Rattle.model.specs.Chains.overflow_from Rattle.model.specs.Chains.list_from Rattle.model.specs.Chains.entries_on Rattle.model.specs.Chains.read_chain
    Rattle.model.specs.Chains.ascending_chain Rattle.model.specs.Chains.chain_of Rattle.model.specs.Chains.pages_in Rattle.model.specs.Chains.pages_listed
    Rattle.model.specs.Chains.records_read Rattle.model.specs.Chains.chains_from Rattle.model.specs.Claims.claims Rattle.model.specs.Consistency.restructures
    Rattle.model.specs.Consistency.records_in Rattle.model.specs.Endings.finished Rattle.model.specs.Endings.ended_with Rattle.model.specs.Endings.onward
    Rattle.model.specs.Endings.old_pages_first Rattle.model.specs.Entries.has_key Rattle.model.specs.Entries.setting_in Rattle.model.specs.Entries.below_first
    Rattle.model.specs.Entries.ascending Rattle.model.specs.Entries.inserted_into Rattle.model.specs.Entries.removed_from Rattle.model.specs.Entries.joined
    Rattle.model.specs.Entries.joined_all Rattle.model.specs.Entries.shares_key Rattle.model.specs.Entries.staying Rattle.model.specs.Entries.going Rattle.model.specs.Entries.is_empty
    Rattle.model.specs.Filling.overflow_needed Rattle.model.specs.Filling.pages_for Rattle.model.specs.Filling.fits_primary Rattle.model.specs.Filling.primary_of
    Rattle.model.specs.Filling.filled Rattle.model.specs.Filling.overflow_written Rattle.model.specs.FreeList.too_few Rattle.model.specs.FreeList.is_among
    Rattle.model.specs.FreeList.also_taken Rattle.model.specs.FreeList.taken_from Rattle.model.specs.FreeList.pages_taken Rattle.model.specs.FreeList.root_after_taking
    Rattle.model.specs.FreeList.given_back Rattle.model.specs.FreeList.room_to_give_back Rattle.model.specs.FreeList.pages_given_back Rattle.model.specs.GrantTable.rank
    Rattle.model.specs.GrantTable.held_in Rattle.model.specs.GrantTable.strongest Rattle.model.specs.GrantTable.granted_beside Rattle.model.specs.Holds.permitted
    Rattle.model.specs.Holds.same_mode Rattle.model.specs.Holds.is_hold Rattle.model.specs.Holds.without_one Rattle.model.specs.Holds.without_all Rattle.model.specs.Holds.gives_up_moving
    Rattle.model.specs.Holds.gives_up Rattle.model.specs.Holds.requested Rattle.model.specs.Holds.with_held Rattle.model.specs.Holds.holds_after_step
    Rattle.model.specs.Holds.gives_up_withdrawn Rattle.model.specs.Holds.holds_after_withdraw Rattle.model.specs.Holds.holds_after Rattle.model.specs.Holds.waits_in
    Rattle.model.specs.Holds.joins Rattle.model.specs.Holds.leaves Rattle.model.specs.Holds.waits_after_step Rattle.model.specs.Holds.waits_after_withdraw Rattle.model.specs.Holds.waits_after
    Rattle.model.specs.Holds.waits_before Rattle.model.specs.Holds.grant_right Rattle.model.specs.Holds.never_waits Rattle.model.specs.Holds.answer_right Rattle.model.specs.Holds.refused_with
    Rattle.model.specs.Holds.idle_right Rattle.model.specs.Holds.begin_right
    Rattle.model.specs.Holds.withdraw_right Rattle.model.specs.Holds.step_right
    Rattle.model.specs.Holds.call_right Rattle.model.specs.Holds.grants_right Rattle.model.specs.LockRequests.mode_of Rattle.model.specs.LockRequests.is_granted
    Rattle.model.specs.LockRequests.with_hold Rattle.model.specs.LockRequests.request Rattle.model.specs.LockRequests.is_held Rattle.model.specs.LockRequests.held_all
    Rattle.model.specs.LockRequests.without_hold Rattle.model.specs.LockRequests.given_up Rattle.model.specs.LockRequests.release Rattle.model.specs.LockWords.field_of
    Rattle.model.specs.LockWords.with_field Rattle.model.specs.LockWords.table_one Rattle.model.specs.LockWords.permits Rattle.model.specs.LockWords.holds
    Rattle.model.specs.LockWords.granted_word Rattle.model.specs.LockWords.released_word Rattle.model.specs.LockWords.turned_selective Rattle.model.specs.Memory.free_pages
    Rattle.model.specs.Memory.formatted_root Rattle.model.specs.Memory.formatted_pages Rattle.model.specs.Memory.formatted Rattle.model.specs.Mixing.stirred_left
    Rattle.model.specs.Mixing.stirred_right Rattle.model.specs.Mixing.next_word Rattle.model.specs.Mixing.outputs Rattle.model.specs.Mixing.table Rattle.model.specs.Mixing.byte_of
    Rattle.model.specs.Mixing.row_of Rattle.model.specs.Mixing.table_word Rattle.model.specs.Mixing.mixed Rattle.model.specs.PagePlaces.count Rattle.model.specs.PagePlaces.pages_drawn
    Rattle.model.specs.PagePlaces.free_list Rattle.model.specs.PagePlaces.chained_from Rattle.model.specs.PagePlaces.hand_if Rattle.model.specs.PagePlaces.owes_old
    Rattle.model.specs.PagePlaces.has_built Rattle.model.specs.PagePlaces.in_hand Rattle.model.specs.PagePlaces.in_hands Rattle.model.specs.PagePlaces.places_of
    Rattle.model.specs.Pages.page_of Rattle.model.specs.Pages.with_page Rattle.model.specs.Pages.level_of Rattle.model.specs.Pages.count_of Rattle.model.specs.Pages.link_of
    Rattle.model.specs.Pages.records_in Rattle.model.specs.Pages.entries_of Rattle.model.specs.Pages.words_of Rattle.model.specs.Pages.filled_page Rattle.model.specs.Pages.free_page
    Rattle.model.specs.Pages.zero_page Rattle.model.specs.Pages.with_local_level Rattle.model.specs.Pages.link_to_first Rattle.model.specs.Pages.names_overflow
    Rattle.model.specs.Pages.link_sound Rattle.model.specs.Pages.page_sound Rattle.model.specs.Progress.is_entered Rattle.model.specs.Progress.under_way Rattle.model.specs.Progress.can_move
    Rattle.model.specs.Progress.some_below Rattle.model.specs.Progress.progresses Rattle.model.specs.Progress.always_progresses Rattle.model.specs.Refusals.first_cause
    Rattle.model.specs.Refusals.lengths_fit Rattle.model.specs.Refusals.root_sound Rattle.model.specs.Refusals.party_sound Rattle.model.specs.Refusals.record_sound
    Rattle.model.specs.Refusals.format_rows Rattle.model.specs.Refusals.begin_rows Rattle.model.specs.Refusals.step_rows Rattle.model.specs.Refusals.withdraw_rows
    Rattle.model.specs.Runs.reply_to Rattle.model.specs.Runs.after_call Rattle.model.specs.Runs.event_of Rattle.model.specs.Runs.events Rattle.model.specs.Runs.final_memory
    Rattle.model.specs.ScratchPages.primary_written Rattle.model.specs.Sizes.within_limits Rattle.model.specs.Steps.Chase.chase Rattle.model.specs.Steps.Chase.chase_of
    Rattle.model.specs.Steps.Chase.arrived Rattle.model.specs.Steps.Chase.chasing Rattle.model.specs.Steps.Chase.step06 Rattle.model.specs.Steps.Chase.step07
    Rattle.model.specs.Steps.Chase.step08 Rattle.model.specs.Steps.Dispatch.has_step Rattle.model.specs.Steps.Dispatch.step_table Rattle.model.specs.Steps.Dispatch.step_of
    Rattle.model.specs.Steps.Dispatch.want_table Rattle.model.specs.Steps.Dispatch.wants Rattle.model.specs.Steps.Dispatch.next_table Rattle.model.specs.Steps.Dispatch.is_next
    Rattle.model.specs.Steps.Dispatch.writes_table Rattle.model.specs.Steps.Dispatch.writes Rattle.model.specs.Steps.Find.answered Rattle.model.specs.Steps.Find.looked_on
    Rattle.model.specs.Steps.Find.step09 Rattle.model.specs.Steps.Locate.step01 Rattle.model.specs.Steps.Locate.step02 Rattle.model.specs.Steps.Locate.located
    Rattle.model.specs.Steps.Locate.step03 Rattle.model.specs.Steps.Locate.step04 Rattle.model.specs.Steps.Locate.step05 Rattle.model.specs.Steps.MergeBuild.pair_of
    Rattle.model.specs.Steps.MergeBuild.joined_entries Rattle.model.specs.Steps.MergeBuild.merge_goes Rattle.model.specs.Steps.MergeBuild.combined
    Rattle.model.specs.Steps.MergeBuild.combine_with Rattle.model.specs.Steps.MergeBuild.step26 Rattle.model.specs.Steps.MergeLocks.step23 Rattle.model.specs.Steps.MergeLocks.merging
    Rattle.model.specs.Steps.MergeLocks.step24 Rattle.model.specs.Steps.MergeLocks.step25 Rattle.model.specs.Steps.MergeLocks.step30 Rattle.model.specs.Steps.MergeWrite.root_moved_back
    Rattle.model.specs.Steps.MergeWrite.step27 Rattle.model.specs.Steps.MergeWrite.step28 Rattle.model.specs.Steps.MergeWrite.merged_away
    Rattle.model.specs.Steps.MergeWrite.partner_cleared Rattle.model.specs.Steps.MergeWrite.step29 Rattle.model.specs.Steps.OldPages.step13 Rattle.model.specs.Steps.OldPages.old_given_back
    Rattle.model.specs.Steps.OldPages.step14 Rattle.model.specs.Steps.Rebuild.change_of Rattle.model.specs.Steps.Rebuild.split_owed Rattle.model.specs.Steps.Rebuild.merge_owed
    Rattle.model.specs.Steps.Rebuild.owed_by Rattle.model.specs.Steps.Rebuild.changes_nothing Rattle.model.specs.Steps.Rebuild.changing Rattle.model.specs.Steps.Rebuild.rebuilt
    Rattle.model.specs.Steps.Rebuild.rebuild_with Rattle.model.specs.Steps.Rebuild.step10 Rattle.model.specs.Steps.SplitBuild.halves_of Rattle.model.specs.Steps.SplitBuild.halves_need
    Rattle.model.specs.Steps.SplitBuild.halves_written Rattle.model.specs.Steps.SplitBuild.divided Rattle.model.specs.Steps.SplitBuild.divide_with
    Rattle.model.specs.Steps.SplitBuild.step17 Rattle.model.specs.Steps.SplitLocks.step15 Rattle.model.specs.Steps.SplitLocks.splitting Rattle.model.specs.Steps.SplitLocks.step16
    Rattle.model.specs.Steps.SplitLocks.step19 Rattle.model.specs.Steps.SplitLocks.step22 Rattle.model.specs.Steps.SplitWrite.step18 Rattle.model.specs.Steps.SplitWrite.step20
    Rattle.model.specs.Steps.SplitWrite.step21 Rattle.model.specs.Steps.Write.step11 Rattle.model.specs.Steps.Write.is_change Rattle.model.specs.Steps.Write.step12
    Rattle.model.specs.TakeUp.same_words Rattle.model.specs.TakeUp.zero_pages Rattle.model.specs.TakeUp.is_zero_record Rattle.model.specs.TakeUp.all_idle Rattle.model.specs.TakeUp.parties_rest
    Rattle.model.specs.TakeUp.locks_clear Rattle.model.specs.TakeUp.scratch_clear Rattle.model.specs.TakeUp.level_at Rattle.model.specs.TakeUp.all_home Rattle.model.specs.TakeUp.packed
    Rattle.model.specs.TakeUp.chain_fits Rattle.model.specs.TakeUp.fits_if_sound Rattle.model.specs.TakeUp.chains_fit Rattle.model.specs.TakeUp.chains_saved
    Rattle.model.specs.TakeUp.beyond_clear Rattle.model.specs.TakeUp.all_free Rattle.model.specs.TakeUp.free_if_sound Rattle.model.specs.TakeUp.free_saved Rattle.model.specs.TakeUp.each_once
    Rattle.model.specs.TakeUp.pages_once Rattle.model.specs.TakeUp.row_clear Rattle.model.specs.TakeUp.is_saved Rattle.model.specs.TakeUp.take_up_rows
    Rattle.model.specs.TakeUp.take_up_call Rattle.model.specs.TakeUp.records_saved Rattle.model.specs.TakeUp.open_book Rattle.model.specs.WaitingRow.requests
    Rattle.model.specs.WaitingRow.is_some Rattle.model.specs.WaitingRow.waiters_in Rattle.model.specs.WaitingRow.all_zero Rattle.model.specs.WaitingRow.none_twice
    Rattle.model.specs.WaitingRow.all_request Rattle.model.specs.WaitingRow.row_sound Rattle.model.specs.WaitingRow.conflicts Rattle.model.specs.WaitingRow.one_before
    Rattle.model.specs.WaitingRow.behind_for Rattle.model.specs.WaitingRow.stands_behind Rattle.model.specs.WaitingRow.appended Rattle.model.specs.WaitingRow.row_with
    Rattle.model.specs.WaitingRow.row_without Rattle.model.specs.WaitingRow.row_after Rattle.model.specs.WaitingRow.row_left Rattle.model.specs.Withdraw.is_decided
    Rattle.model.specs.Withdraw.built_pages Rattle.model.specs.Withdraw.taken_back Rattle.model.specs.Withdraw.taken_back_soundly Rattle.model.specs.Withdraw.withdrawn
    Rattle.theory.specs.CallsBounded.most_calls Rattle.theory.specs.CallsBounded.doubled_from Rattle.theory.specs.CallsBounded.most_rehashes
    Rattle.theory.specs.CallsBounded.most_with Rattle.theory.specs.CallsBounded.most_by_sizes Rattle.theory.specs.CallsBounded.begin_bounded
    Rattle.theory.specs.CallsBounded.step_bounded Rattle.theory.specs.CallsBounded.counted_begin Rattle.theory.specs.CallsBounded.counted_step
    Rattle.theory.specs.CallsBounded.counted_withdraw Rattle.theory.specs.CallsBounded.none_counted Rattle.theory.specs.CallsBounded.call_bounded
    Rattle.theory.specs.CallsBounded.counted_after Rattle.theory.specs.CallsBounded.calls_bounded Rattle.theory.specs.FittingMerges.nothing_had
    Rattle.theory.specs.FittingMerges.had_after Rattle.theory.specs.FittingMerges.same_pages Rattle.theory.specs.FittingMerges.is_one_page
    Rattle.theory.specs.FittingMerges.joins_rightly Rattle.theory.specs.FittingMerges.gives_rightly Rattle.theory.specs.FittingMerges.leaves_one_page
    Rattle.theory.specs.FittingMerges.merge_right Rattle.theory.specs.FittingMerges.call_fits Rattle.theory.specs.FittingMerges.merges_fit
    Rattle.theory.specs.Linearization.end_in Rattle.theory.specs.Linearization.end_to Rattle.theory.specs.Linearization.or_later
    Rattle.theory.specs.Linearization.first_end Rattle.theory.specs.Linearization.entering Rattle.theory.specs.Linearization.operations_from
    Rattle.theory.specs.Linearization.event_from Rattle.theory.specs.Linearization.decisive_step Rattle.theory.specs.Linearization.step_marks
    Rattle.theory.specs.Linearization.marks Rattle.theory.specs.Linearization.has_taken_effect Rattle.theory.specs.Linearization.ascending_from
    Rattle.theory.specs.Linearization.times_in Rattle.theory.specs.Linearization.answers_in_order Rattle.theory.specs.Linearization.map_after
    Rattle.theory.specs.Linearization.is_before Rattle.theory.specs.Links.walked_from Rattle.theory.specs.Links.trace_nine Rattle.theory.specs.Links.trace_fourteen
    Rattle.theory.specs.Links.trace_twenty_nine Rattle.theory.specs.Links.trace_of Rattle.theory.specs.Links.clock_start Rattle.theory.specs.Links.trace_of_step
    Rattle.theory.specs.Links.trace_answered Rattle.theory.specs.Links.trace_of_withdraw Rattle.theory.specs.Links.trace_of_call Rattle.theory.specs.Links.ticked
    Rattle.theory.specs.Links.clock_after Rattle.theory.specs.Links.all_fresh Rattle.theory.specs.Links.links_fresh Rattle.theory.specs.Made.looks_made
    Rattle.theory.specs.Made.looks_right Rattle.theory.specs.NoPage.none_wrote Rattle.theory.specs.NoPage.is_writing Rattle.theory.specs.NoPage.wrote_begin
    Rattle.theory.specs.NoPage.wrote_step Rattle.theory.specs.NoPage.wrote_after Rattle.theory.specs.NoPage.ends_no_page Rattle.theory.specs.NoPage.no_page_right
    Rattle.theory.specs.NoPage.no_page_kept Rattle.theory.specs.Overtaking.answers_waiting Rattle.theory.specs.Overtaking.ends_wait
    Rattle.theory.specs.Overtaking.waits_then Rattle.theory.specs.Overtaking.waits_on Rattle.theory.specs.Overtaking.wait_stays
    Rattle.theory.specs.Overtaking.clashes Rattle.theory.specs.Overtaking.is_pass Rattle.theory.specs.Overtaking.passes_by Rattle.theory.specs.Overtaking.passes_all
    Rattle.theory.specs.Overtaking.waits_at_end Rattle.theory.specs.Overtaking.words_of_ledger Rattle.theory.specs.PlainMap.empty_map
    Rattle.theory.specs.PlainMap.plain_answer Rattle.theory.specs.PlainMap.plain_after Rattle.theory.specs.PlainMap.may_lack_pages
    Rattle.theory.specs.PlainMap.is_no_page Rattle.theory.specs.PlainMap.answers_as_map Rattle.theory.specs.PlainMap.map_left_by Rattle.theory.specs.Reads.is_accepted
    Rattle.theory.specs.Reads.pages_followed Rattle.theory.specs.Reads.followed_by Rattle.theory.specs.Reads.taken_by Rattle.theory.specs.Reads.read_by
    Rattle.theory.specs.Reads.walked_back Rattle.theory.specs.Reads.is_overflow_page Rattle.theory.specs.Reads.is_open Rattle.theory.specs.Sequential.pages_needed
    Rattle.theory.specs.Sequential.chains_at Rattle.theory.specs.Sequential.hashed Rattle.theory.specs.Sequential.chains_in Rattle.theory.specs.Sequential.home_in
    Rattle.theory.specs.Sequential.records_at Rattle.theory.specs.Sequential.with_records Rattle.theory.specs.Sequential.passing
    Rattle.theory.specs.Sequential.pages_in_use Rattle.theory.specs.Sequential.free_in Rattle.theory.specs.Sequential.short_of Rattle.theory.specs.Sequential.parted
    Rattle.theory.specs.Sequential.split_file Rattle.theory.specs.Sequential.last_in Rattle.theory.specs.Sequential.target_in Rattle.theory.specs.Sequential.rejoined
    Rattle.theory.specs.Sequential.merge_file Rattle.theory.specs.Sequential.find_in Rattle.theory.specs.Sequential.added Rattle.theory.specs.Sequential.insert_in
    Rattle.theory.specs.Sequential.removed Rattle.theory.specs.Sequential.delete_in Rattle.theory.specs.Sequential.performed_on Rattle.theory.specs.Sequential.map_in
    Rattle.theory.specs.Sequential.start_file Rattle.theory.specs.Sequential.file_of Rattle.theory.specs.Settings.changes_key Rattle.theory.specs.Settings.leaves_key
    Rattle.theory.specs.Singly.parties_fit Rattle.theory.specs.Singly.steps_of Rattle.theory.specs.Singly.calls_alone Rattle.theory.specs.Singly.replies_of
    Rattle.theory.specs.Singly.moves_then Rattle.theory.specs.Singly.replies_alone Rattle.theory.specs.Singly.calls_singly Rattle.theory.specs.Singly.replies_singly
    Rattle.theory.specs.Singly.performed_all Rattle.theory.specs.Singly.answers_as_maps Rattle.theory.specs.TakenUp.taken_rightly
    Rattle.theory.specs.TakenUp.always_taken Rattle.theory.specs.Withdrawals.writes_map Rattle.theory.specs.Withdrawals.unwritten
    Rattle.theory.specs.Withdrawals.withdrawn_unwritten
opened = 0
