-- Compactions: what a copy has yet to take over while others write, and what a compaction leaves.
use Rattle.std.specs.Prelude.{◌≡◌, true, List, [], ◌∷◌, ◌++◌, length, Some, None, Ok, Err, refl}
use Rattle.model.specs.Map.{empty, get, put, from_list}
use Rattle.model.specs.Command.{Command, Merges, Purge, Compact, Wrote, Purged, Done}
use Rattle.model.specs.PurgeLog.{empty_log}
use Rattle.model.specs.Database.{empty_database}
use Rattle.model.specs.Query.{Get, IsMissing, Found}
use Rattle.model.specs.Compaction.{Touched, WasPurged, WasUpdated, touched}
use Rattle.model.specs.World.{Config, Event, Ask, Take, Put, Start, Slice, CatchUp, Swap, WroteAt, World, database_of, start_world, run}
use Rattle.model.proofs.Examples.Fixtures.{computed, after, answer, rev, path, plain, shown, braces, counting, put_new, put_over, of, with_body, without_body, record_of, a, d, x, y, a1, a2}

-- ---- bodies of inner revisions go

abbrev edited : List Command
edited = put_new a ∷ put_over a a1 (counting 1) ∷ []

an_older_revision_keeps_its_body : answer edited (Get a (Some a1) plain) ≡ Found (Ok (shown a a1 braces))
unfolding computed
an_older_revision_keeps_its_body = refl

until_a_compaction : answer (edited ++ Compact ∷ []) (Get a (Some a1) plain) ≡ Found (Err IsMissing)
unfolding computed
until_a_compaction = refl

which_changes_nothing_else : after (edited ++ Compact ∷ []) ≡ record (after edited) { docs = put empty a (record_of 2 ((a1, without_body None) ∷ (a2, with_body (Some a1) (counting 1)) ∷ [])); calls = put empty 0 3 }
unfolding computed
which_changes_nothing_else = refl

both_leaves_keep_theirs : (after (Merges (path d (rev 2 0xbb) (rev 1 0xaa ∷ []) ∷ path d (rev 2 0xcc) (rev 1 0xaa ∷ []) ∷ []) ∷ Compact ∷ [])).docs
    ≡ put empty d (record_of 2 ((rev 1 0xaa, without_body None) ∷ (rev 2 0xbb, with_body (Some (rev 1 0xaa)) braces) ∷ (rev 2 0xcc, with_body (Some (rev 1 0xaa)) braces) ∷ []))
unfolding computed
both_leaves_keep_theirs = refl

-- ---- in slices: session 0 writes and session 1 compacts

abbrev config : Config
config = record { sessions = 2; queue = 4; gather = 4; slice = 1; slack = 0; tries = 1; max_places = 100 }

abbrev lived : List Event → World
lived es = run empty_database config (start_world config) es

abbrev written : Command → List Event
written c = Ask 0 c ∷ Take 1 ∷ Put ∷ []

abbrev still_touched : World → List Touched
still_touched w = elim w.copy [ None ↦ [] | Some k ↦ touched (database_of empty_database w) k.marks ]

-- the first of two records is copied, and then its document is purged
abbrev purged_behind : List Event
purged_behind = written (put_new x) ++ written (put_new y) ++ Start 1 ∷ Slice 1 ∷ written (Purge (of x (a1 ∷ [])))

a_slice_leaves_the_other_record : (lived purged_behind).copy ≡ Some (record { session = 1; left = 1; marks = record { update = 2; purge = 0 } })
unfolding computed
a_slice_leaves_the_other_record = refl

-- ---- the other document is edited

abbrev and_edited : List Event
and_edited = purged_behind ++ written (put_over y a1 (counting 1))

a_purge_and_an_edit_are_touched : still_touched (lived and_edited) ≡ WasPurged 1 x ∷ WasUpdated 3 y ∷ []
unfolding computed
a_purge_and_an_edit_are_touched = refl

nothing_is_caught_up_before_the_last_slice : (lived (and_edited ++ CatchUp 64 ∷ [])).copy ≡ Some (record { session = 1; left = 1; marks = record { update = 2; purge = 0 } })
unfolding computed
nothing_is_caught_up_before_the_last_slice = refl

nor_does_it_end : length (run empty_database (record config { slack = 9 }) (start_world config) (and_edited ++ Swap ∷ [])).history ≡ 4
unfolding computed
nor_does_it_end = refl

a_catch_up_passes_the_first_touched : (lived (and_edited ++ Slice 1 ∷ CatchUp 1 ∷ [])).copy ≡ Some (record { session = 1; left = 0; marks = record { update = 2; purge = 1 } })
unfolding computed
a_catch_up_passes_the_first_touched = refl

and_then_the_rest : (lived (and_edited ++ Slice 1 ∷ CatchUp 1 ∷ CatchUp 64 ∷ [])).copy ≡ Some (record { session = 1; left = 0; marks = record { update = 3; purge = 1 } })
unfolding computed
and_then_the_rest = refl

what_is_still_touched_holds_the_end_back : length (lived (and_edited ++ Slice 1 ∷ CatchUp 1 ∷ Swap ∷ [])).history ≡ 4
unfolding computed
what_is_still_touched_holds_the_end_back = refl

unless_the_slack_allows_it : length (run empty_database (record config { slack = 1 }) (start_world config) (and_edited ++ Slice 1 ∷ CatchUp 1 ∷ Swap ∷ [])).history ≡ 5
unfolding computed
unless_the_slack_allows_it = refl

abbrev compacted_at_last : World
compacted_at_last = lived (and_edited ++ Slice 1 ∷ CatchUp 64 ∷ Swap ∷ [])

the_end_is_one_compact_at_the_next_place : compacted_at_last.completed ≡
    WroteAt (record { session = 0; call = 1 }) (put_new x) 1 (Wrote (Ok a1 ∷ []))
    ∷ WroteAt (record { session = 0; call = 2 }) (put_new y) 2 (Wrote (Ok a1 ∷ []))
    ∷ WroteAt (record { session = 0; call = 3 }) (Purge (of x (a1 ∷ []))) 3 (Purged 1 (of x (a1 ∷ [])))
    ∷ WroteAt (record { session = 0; call = 4 }) (put_over y a1 (counting 1)) 4 (Wrote (Ok a2 ∷ []))
    ∷ WroteAt (record { session = 1; call = 1 }) Compact 5 Done
    ∷ []
unfolding computed
the_end_is_one_compact_at_the_next_place = refl

and_its_session_sees_it : get compacted_at_last.views 1 ≡ Some (record { place = 5; free = true })
unfolding computed
and_its_session_sees_it = refl

a_purged_document_stays_away : database_of empty_database compacted_at_last ≡ record empty_database {
  docs = put empty y (record_of 3 ((a1, without_body None) ∷ (a2, with_body (Some a1) (counting 1)) ∷ []));
  update_seq = 3;
  purges = record empty_log { purge_seq = 1; infos = record { seq = 1; id = x; leaves = a1 ∷ [] } ∷ [] };
  calls = put (put empty 0 4) 1 1;
}
unfolding computed
a_purged_document_stays_away = refl

-- ---- the purged document is made again

abbrev and_made_again : List Event
and_made_again = purged_behind ++ written (put_new x) ++ written (put_over y a1 (counting 1))

a_document_made_again_is_touched_twice : still_touched (lived and_made_again) ≡ WasPurged 1 x ∷ WasUpdated 3 x ∷ WasUpdated 4 y ∷ []
unfolding computed
a_document_made_again_is_touched_twice = refl

the_marks_move_past_each_kind : (lived (and_made_again ++ Slice 1 ∷ CatchUp 2 ∷ [])).copy ≡ Some (record { session = 1; left = 0; marks = record { update = 3; purge = 1 } })
unfolding computed
the_marks_move_past_each_kind = refl

abbrev with_both : World
with_both = lived (and_made_again ++ Slice 1 ∷ CatchUp 64 ∷ Swap ∷ [])

its_compact_stands_at_the_sixth_place : length with_both.history ≡ 6
unfolding computed
its_compact_stands_at_the_sixth_place = refl

both_documents_stand_at_their_new_numbers : (database_of empty_database with_both).docs ≡ from_list ((x, record_of 3 ((a1, with_body None braces) ∷ [])) ∷ (y, record_of 4 ((a1, without_body None) ∷ (a2, with_body (Some a1) (counting 1)) ∷ [])) ∷ [])
unfolding computed
both_documents_stand_at_their_new_numbers = refl
