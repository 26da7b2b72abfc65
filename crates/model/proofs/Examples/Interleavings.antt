-- Interleavings: batches, views, full queues and histories, overrun compactions, and epochs.
use Rattle.std.specs.Prelude.{◌≡◌, ℕ, true, List, [], ◌∷◌, length, Some, None, Ok, Err, refl}
use Rattle.model.specs.Map.{get, from_list}
use Rattle.model.specs.Command.{Compact, Purge, Conflict, Wrote}
use Rattle.model.specs.Query.{Info, Counts, Counted}
use Rattle.model.specs.PurgeLog.{empty_log}
use Rattle.model.specs.Database.{Database, empty_database}
use Rattle.model.specs.History.{successor}
use Rattle.model.specs.World.{Config, Event, Ask, Take, Put, GiveUp, Look, Read, Start, Slice, CatchUp, Swap, Abort, WroteAt, Asked, World, start_world, run}
use Rattle.model.proofs.Examples.Fixtures.{computed, after, put_new, a, b, x, y, a1}

abbrev three_sessions : Config
three_sessions = record { sessions = 3; queue = 4; gather = 4; slice = 1; slack = 0; tries = 1; max_places = 100 }

abbrev lived_from : Database → Config → List Event → World
lived_from base config es = run base config (start_world config) es

abbrev lived : List Event → World
lived es = lived_from empty_database three_sessions es

abbrev counts_at : ℕ → ℕ → Counts
counts_at documents seq = record { doc_count = documents; doc_del_count = 0; update_seq = seq; purge_seq = 0 }

a_batch_is_put_in_the_order_asked_and_a_query_sees_its_session's_view : (lived (Ask 0 (put_new a) ∷ Ask 1 (put_new a) ∷ Take 2 ∷ Look 2 ∷ Put ∷ Read 2 Info ∷ Look 2 ∷ Read 2 Info ∷ [])).completed ≡
    WroteAt (record { session = 0; call = 1 }) (put_new a) 1 (Wrote (Ok a1 ∷ []))
    ∷ WroteAt (record { session = 1; call = 1 }) (put_new a) 2 (Wrote (Err Conflict ∷ []))
    ∷ Asked 2 Info 0 (Counted (counts_at 0 0))
    ∷ Asked 2 Info 2 (Counted (counts_at 1 1))
    ∷ []
unfolding computed
a_batch_is_put_in_the_order_asked_and_a_query_sees_its_session's_view = refl

a_session_with_an_open_call_asks_nothing_more : (lived (Ask 0 (put_new a) ∷ Ask 0 (put_new b) ∷ Read 0 Info ∷ Take 2 ∷ Put ∷ [])).completed ≡ WroteAt (record { session = 0; call = 1 }) (put_new a) 1 (Wrote (Ok a1 ∷ [])) ∷ []
unfolding computed
a_session_with_an_open_call_asks_nothing_more = refl

a_batch_that_is_given_up_leaves_no_entry_and_uses_no_call : (lived (Ask 0 (put_new a) ∷ Take 1 ∷ GiveUp ∷ Ask 0 (put_new b) ∷ Take 1 ∷ Put ∷ [])).completed ≡ WroteAt (record { session = 0; call = 1 }) (put_new b) 1 (Wrote (Ok a1 ∷ [])) ∷ []
unfolding computed
a_batch_that_is_given_up_leaves_no_entry_and_uses_no_call = refl

a_full_queue_takes_no_job : length (lived_from empty_database (record three_sessions { queue = 1 }) (Ask 0 (put_new a) ∷ Ask 1 (put_new b) ∷ [])).waiting ≡ 1
unfolding computed
a_full_queue_takes_no_job = refl

a_batch_takes_no_more_than_it_gathers : length (lived_from empty_database (record three_sessions { gather = 1 }) (Ask 0 (put_new a) ∷ Ask 1 (put_new b) ∷ Take 9 ∷ [])).batch ≡ 1
unfolding computed
a_batch_takes_no_more_than_it_gathers = refl

an_open_batch_takes_no_more : length (lived (Ask 0 (put_new a) ∷ Ask 1 (put_new b) ∷ Take 1 ∷ Take 1 ∷ [])).batch ≡ 1
unfolding computed
an_open_batch_takes_no_more = refl

a_batch_past_the_last_place_is_not_put : length (lived_from empty_database (record three_sessions { max_places = 1 }) (Ask 0 (put_new a) ∷ Ask 1 (put_new b) ∷ Take 2 ∷ Put ∷ [])).history ≡ 0
unfolding computed
a_batch_past_the_last_place_is_not_put = refl

no_compaction_ends_past_the_last_place : length (lived_from empty_database (record three_sessions { max_places = 1 }) (Ask 0 (put_new a) ∷ Take 1 ∷ Put ∷ Start 1 ∷ Slice 1 ∷ Swap ∷ [])).history ≡ 1
unfolding computed
no_compaction_ends_past_the_last_place = refl

-- ---- what a session cannot ask

a_session_that_there_is_not_does_nothing : lived (Ask 3 (put_new a) ∷ Look 3 ∷ Read 3 Info ∷ Start 3 ∷ []) ≡ start_world three_sessions
unfolding computed
a_session_that_there_is_not_does_nothing = refl

no_job_is_a_compaction : lived (Ask 0 Compact ∷ []) ≡ start_world three_sessions
unfolding computed
no_job_is_a_compaction = refl

one_compaction_is_open_at_a_time : lived (Start 1 ∷ Start 2 ∷ Abort ∷ []) ≡ start_world three_sessions
unfolding computed
one_compaction_is_open_at_a_time = refl

-- ---- a log of one purge, and two documents purged behind a compaction's back

abbrev short_log : Database
short_log = record empty_database { purges = record empty_log { limit = 1 } }

abbrev overrun_at : Event → World
overrun_at e = lived_from short_log (record three_sessions { slack = 64 }) (Ask 0 (put_new x) ∷ Ask 2 (put_new y) ∷ Take 2 ∷ Put ∷ Start 1 ∷ Slice 2 ∷ Ask 0 (Purge (from_list ((x, a1 ∷ []) ∷ (y, a1 ∷ []) ∷ []))) ∷ Take 1 ∷ Put ∷ e ∷ [])

an_overrun_compaction_is_given_up : (overrun_at (CatchUp 64)).copy ≡ None
unfolding computed
an_overrun_compaction_is_given_up = refl

and_its_session_is_free_where_it_was : get (overrun_at (CatchUp 64)).views 1 ≡ Some (record { place = 0; free = true })
unfolding computed
and_its_session_is_free_where_it_was = refl

an_overrun_end_gives_it_up_too : overrun_at Swap ≡ overrun_at (CatchUp 64)
unfolding computed
an_overrun_end_gives_it_up_too = refl

it_leaves_no_entry : length (overrun_at Swap).history ≡ 3
unfolding computed
it_leaves_no_entry = refl

-- ---- the next epoch

abbrev next_epoch : List Event → World
next_epoch es = lived_from (successor (after (put_new a ∷ put_new a ∷ []))) three_sessions es

places_and_calls_start_anew_and_update_numbers_go_on : (next_epoch (Look 0 ∷ Read 0 Info ∷ Ask 0 (put_new b) ∷ Take 1 ∷ Put ∷ Read 0 Info ∷ [])).completed ≡
    Asked 0 Info 0 (Counted (counts_at 1 1))
    ∷ WroteAt (record { session = 0; call = 1 }) (put_new b) 1 (Wrote (Ok a1 ∷ []))
    ∷ Asked 0 Info 1 (Counted (counts_at 2 2))
    ∷ []
unfolding computed
places_and_calls_start_anew_and_update_numbers_go_on = refl
