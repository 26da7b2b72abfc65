-- Purges: the leaves that go, the numbers taken, and the log.
use Rattle.std.specs.Prelude.{◌≡◌, ℕ, zero, suc, true, false, List, [], ◌∷◌, ◌++◌, codes, Option, Some, None, option_map, refl}
use Rattle.model.specs.Lists.{first_of}
use Rattle.model.specs.Map.{empty, put, from_list}
use Rattle.model.specs.Command.{Id, Command, Merges, Purge, SetPurgedLimit, Purged, Done}
use Rattle.model.specs.Query.{PurgedInfosLimit, Limit}
use Rattle.model.specs.PurgeLog.{PurgeInfo, PurgeLog, empty_log, logged, is_overrun}
use Rattle.model.specs.Database.{reply_to, changed_by}
use Rattle.model.proofs.Examples.Fixtures.{computed, after, answer, braces, rev, put_new, path, of, with_body, without_body, record_of, d, x, y, a1}

-- ---- one of two leaves

abbrev e : Id
e = codes "e"

abbrev twins : List Command
twins = Merges (path d (rev 2 0xbb) (rev 1 0xaa ∷ []) ∷ path d (rev 2 0xcc) (rev 1 0xaa ∷ []) ∷ []) ∷ []

-- a leaf and its parent, and a revision of an unknown document
abbrev purge : Command
purge = Purge (from_list ((d, rev 2 0xcc ∷ rev 1 0xaa ∷ []) ∷ (e, rev 1 0xaa ∷ []) ∷ []))

a_purge_takes_leaves_alone : reply_to (after twins) purge ≡ Purged 1 (from_list ((d, rev 2 0xcc ∷ []) ∷ (e, []) ∷ []))
unfolding computed
a_purge_takes_leaves_alone = refl

what_keeps_a_leaf_takes_both_numbers : changed_by (after twins) purge ≡ record (after twins) {
  docs = put empty d (record_of 3 ((rev 1 0xaa, without_body None) ∷ (rev 2 0xbb, with_body (Some (rev 1 0xaa)) braces) ∷ []));
  update_seq = 3;
  purges = record empty_log { purge_seq = 1; infos = record { seq = 1; id = d; leaves = rev 2 0xcc ∷ [] } ∷ [] };
}
unfolding computed
what_keeps_a_leaf_takes_both_numbers = refl

-- ---- all leaves

abbrev two_documents : List Command
two_documents = put_new y ∷ put_new x ∷ []

abbrev purge_both : Command
purge_both = Purge (from_list ((y, a1 ∷ []) ∷ (x, a1 ∷ []) ∷ []))

-- they are in the order of their ids
what_loses_all_leaves_vanishes_and_takes_a_purge_number_alone : changed_by (after two_documents) purge_both ≡ record (after two_documents) {
  docs = empty;
  purges = record empty_log { purge_seq = 2; infos = record { seq = 1; id = x; leaves = a1 ∷ [] } ∷ record { seq = 2; id = y; leaves = a1 ∷ [] } ∷ [] };
}
unfolding computed
what_loses_all_leaves_vanishes_and_takes_a_purge_number_alone = refl

what_loses_no_leaf_takes_no_number : changed_by (after two_documents) (Purge (of x (rev 1 0xaa ∷ []))) ≡ after two_documents
unfolding computed
what_loses_no_leaf_takes_no_number = refl

a_leaf_named_twice_is_removed_once : reply_to (after two_documents) (Purge (of x (a1 ∷ a1 ∷ []))) ≡ Purged 1 (of x (a1 ∷ []))
unfolding computed
a_leaf_named_twice_is_removed_once = refl

-- ---- a log that keeps one purge

abbrev short : PurgeLog
short = logged (logged (record empty_log { limit = 1 }) x (a1 ∷ [])) y (a1 ∷ [])

the_newest_purge_stays : short ≡ record { purge_seq = 2; infos = record { seq = 2; id = y; leaves = a1 ∷ [] } ∷ []; limit = 1 }
unfolding computed
the_newest_purge_stays = refl

a_lost_purge_above_the_mark_is_an_overrun : is_overrun short 0 ≡ true
unfolding computed
a_lost_purge_above_the_mark_is_an_overrun = refl

a_lost_purge_at_the_mark_is_none : is_overrun short 1 ≡ false
unfolding computed
a_lost_purge_at_the_mark_is_none = refl

-- ---- a log under another limit

abbrev purged_thrice : List Command
purged_thrice = put_new x ∷ put_new y ∷ put_new d ∷ Purge (of x (a1 ∷ [])) ∷ Purge (of y (a1 ∷ [])) ∷ Purge (of d (a1 ∷ [])) ∷ []

abbrev info_of : ℕ → Id → PurgeInfo
info_of seq id = record { seq = seq; id = id; leaves = a1 ∷ [] }

a_lower_limit_cuts_the_log_at_once_to_the_newest : changed_by (after purged_thrice) (SetPurgedLimit 2) ≡ record (after purged_thrice) { purges = record { purge_seq = 3; infos = info_of 2 y ∷ info_of 3 d ∷ []; limit = 2 } }
unfolding computed
a_lower_limit_cuts_the_log_at_once_to_the_newest = refl

it_is_done : reply_to (after purged_thrice) (SetPurgedLimit 2) ≡ Done
unfolding computed
it_is_done = refl

the_limit_is_told : answer (purged_thrice ++ SetPurgedLimit 2 ∷ []) PurgedInfosLimit ≡ Limit 2
unfolding computed
the_limit_is_told = refl

a_higher_one_brings_nothing_back : (after (purged_thrice ++ SetPurgedLimit 1 ∷ SetPurgedLimit 9 ∷ [])).purges ≡ record { purge_seq = 3; infos = info_of 3 d ∷ []; limit = 9 }
unfolding computed
a_higher_one_brings_nothing_back = refl

what_is_cut_above_the_mark_is_an_overrun : is_overrun (after (purged_thrice ++ SetPurgedLimit 1 ∷ [])).purges 1 ≡ true
unfolding computed
what_is_cut_above_the_mark_is_an_overrun = refl

what_is_cut_at_the_mark_is_none : is_overrun (after (purged_thrice ++ SetPurgedLimit 1 ∷ [])).purges 2 ≡ false
unfolding computed
what_is_cut_at_the_mark_is_none = refl

-- ---- a log of a thousand purges

abbrev purged_times : ℕ → PurgeLog
purged_times zero = empty_log
purged_times (suc n) = logged (purged_times n) x (a1 ∷ [])

abbrev oldest : PurgeLog → Option ℕ
oldest l = option_map (λ p. p.seq) (first_of l.infos)

a_thousand_purges_all_stay : oldest (purged_times 1000) ≡ Some 1
unfolding computed
a_thousand_purges_all_stay = refl

one_more_and_the_oldest_goes : oldest (purged_times 1001) ≡ Some 2
unfolding computed
one_more_and_the_oldest_goes = refl

who_has_seen_none_of_them_is_overrun : is_overrun (purged_times 1001) 0 ≡ true
unfolding computed
who_has_seen_none_of_them_is_overrun = refl
